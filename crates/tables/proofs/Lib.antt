-- Laws that the proofs of the tables' functions share.
pub mod Chunks
pub mod Finding
pub mod Rows
pub mod Writing
pub mod Written
