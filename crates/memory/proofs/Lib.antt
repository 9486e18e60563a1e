-- Laws that the proofs of the calls share.
pub mod Counted
pub mod Parts
