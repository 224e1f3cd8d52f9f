-- What a reader has to believe of the table's calls: cells, search, calls, the reference model, demand 3, and what both written forms
-- check. Laws is what the crates above use.
pub mod Cells
pub mod Search
pub mod Calls
pub mod Multiset
pub mod Assignment
pub mod AssignmentDecided
pub mod Model
pub mod Demand
pub mod CheckOrder
pub mod Interrupted
pub mod FewestMoves
pub mod WrittenForms
pub mod Laws
pub mod Repeats
pub mod Positive
