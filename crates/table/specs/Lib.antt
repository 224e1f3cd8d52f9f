-- What a reader has to believe of the code's answers (Answers), how scratch stands for a queue (Scratch), what a search that changes no
-- cell says (Probes), and the contracts of the functions inside (Internal). What the calls do is defined in the crate calls.
pub mod Answers
pub mod Scratch
pub mod Probes
pub mod Laws
pub mod Internal
