-- The laws of refusals, and the cursor by which code is held to a list of checks.
pub mod Laws
pub mod Positive
pub mod Cursor
pub mod HandedOn
pub mod Numbers
