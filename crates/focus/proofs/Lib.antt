-- Laws that the proofs of the record share.
pub mod Counted
pub mod Stays
