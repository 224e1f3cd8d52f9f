-- What a reader has to believe of tags as they are typed; and, in Internal, what only contracts of private functions speak of.
pub mod Tags
pub mod Internal
