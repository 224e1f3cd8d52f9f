-- What is proved of the definitions.
pub mod Marks
pub mod Parses
pub mod Maps
pub mod AnswerOrder
pub mod RefusedWrite
pub mod Foretold
pub mod Sizes
pub mod Fields
pub mod Headers
pub mod Buckets
pub mod RoundTrip
pub mod GoesOn
pub mod Unsalted
pub mod Laws
pub mod Positive
