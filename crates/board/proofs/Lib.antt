-- Laws that the proofs of the board's functions share.
pub mod Inserts
