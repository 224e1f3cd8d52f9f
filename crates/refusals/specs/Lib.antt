-- What a reader has to believe of refusals: the first check that is met gives the number, and a refused call leaves all as it was.
pub mod Checks
pub mod Outcomes
pub mod Refusals
pub mod Laws
pub mod Positive
