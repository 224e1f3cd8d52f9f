-- The packed form's proofs, by what they speak of.
pub mod Refused
pub mod Codes
pub mod Sort
pub mod Filled
pub mod Streams
pub mod Moves
pub mod Keeps
pub mod Refusals
pub mod RoundTrip
pub mod GoesOn
pub mod Laws
pub mod Positive
