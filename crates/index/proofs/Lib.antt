-- What is proved of the definitions. The layers above use `Laws`.
pub mod Good
pub mod Ring
pub mod Cosets
pub mod Laws
pub mod Refusals
pub mod Checks
pub mod Positive
pub mod Answers
pub mod Computes
pub mod Unsalted
pub mod Even
pub mod DegenerateMasks
