-- What a reader has to believe of the commands: words, what a line asks for, and the figures of a list; and, in Internal, what only
-- contracts of private functions speak of.
pub mod Words
pub mod Commands
pub mod Options
pub mod Figures
pub mod Internal
