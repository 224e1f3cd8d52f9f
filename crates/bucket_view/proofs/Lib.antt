-- What a view shows, by the number of its check.
pub mod Checked
