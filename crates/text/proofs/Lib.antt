pub mod Back
pub mod Putting
pub mod Reading
