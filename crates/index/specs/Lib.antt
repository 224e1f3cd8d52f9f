-- What a reader has to believe of the index layer: the settings and their checks, the hash, the candidates, and the laws that the layers above use.
pub mod Settings
pub mod Hash
pub mod Candidates
pub mod Answers
pub mod Unsalted
pub mod Even
pub mod Laws
pub mod Positive
pub mod DegenerateMasks
