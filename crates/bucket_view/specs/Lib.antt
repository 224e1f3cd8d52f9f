-- What a view is, by its values and its place.
pub mod Views
