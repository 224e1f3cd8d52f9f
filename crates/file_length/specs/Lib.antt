-- The contract of the passes inside.
pub mod Internal
