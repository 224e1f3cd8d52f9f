-- What a reader has to believe of the rows: which quadruples there are, in what order, and the row of each.
pub mod Rows
