pub mod Asked
pub mod Readers
