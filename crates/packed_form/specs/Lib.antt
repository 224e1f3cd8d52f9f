-- What a reader has to believe of the packed form (semi-sorted buckets): the writer, the reader, and what they keep.
pub mod Writer
pub mod Reader
pub mod RoundTrip
pub mod GoesOn
pub mod Refused
pub mod Laws
pub mod Positive
