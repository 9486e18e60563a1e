-- Laws that the proofs share.
pub mod States
pub mod Rows
pub mod Listings
pub mod WindowRows
