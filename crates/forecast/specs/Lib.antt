-- What a forecast is, and that the hold which comes next answers it.
pub mod Forecasts
