-- What the calls answer, and the contracts of the functions inside.
pub mod Answers
pub mod Internal
