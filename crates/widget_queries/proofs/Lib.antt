-- Laws that the proofs share.
pub mod Focusable
pub mod Rest
