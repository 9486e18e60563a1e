-- Laws that the proofs share.
pub mod Stacks
pub mod Listings
pub mod WindowRows
