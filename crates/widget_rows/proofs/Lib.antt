-- Laws that the proofs share.
pub mod Chunked
pub mod Lists
pub mod Places
