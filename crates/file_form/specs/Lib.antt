-- What a reader has to believe of the hold file: bytes, fields, the header, the writer, the reader, and that each undoes the other. Laws
-- is what the code uses.
pub mod Bytes
pub mod Parsed
pub mod Fields
pub mod Header
pub mod Writer
pub mod Reader
pub mod RoundTrip
pub mod Unsalted
pub mod AnswerOrder
pub mod RefusedWrite
pub mod Foretold
pub mod GoesOn
pub mod Laws
pub mod Positive
