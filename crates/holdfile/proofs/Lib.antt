-- What is proved of the definitions, and the steps of the code.
pub mod Writing
pub mod Reading
