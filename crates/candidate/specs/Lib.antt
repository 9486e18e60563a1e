pub mod Candidate
pub mod Steps
