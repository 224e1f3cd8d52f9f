-- The packed form's code, whose definitions stand in packed_form, says its contracts by those and by Internal, which is for the functions
-- inside.
pub mod Internal
