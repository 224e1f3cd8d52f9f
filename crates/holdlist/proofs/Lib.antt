-- What the proofs of several functions use.
mod Crossing
mod Counts
mod Lent
mod Results
