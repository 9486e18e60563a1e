pub mod Queries
pub mod Ranks
