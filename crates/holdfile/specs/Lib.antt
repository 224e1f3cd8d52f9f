-- What the calls answer, and the contracts of the functions inside.
pub mod Internal
pub mod Answers
