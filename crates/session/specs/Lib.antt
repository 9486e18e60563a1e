pub mod Output
pub mod Runs
pub mod Session
