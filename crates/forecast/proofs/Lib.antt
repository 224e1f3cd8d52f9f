-- What is proved of forecasts.
pub mod Foretold
