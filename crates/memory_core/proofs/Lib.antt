-- Laws that the proofs of the calls share.
pub mod Passes
pub mod Interest
