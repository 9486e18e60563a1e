pub mod Egui
pub mod Calls
pub mod Meaning
pub mod Fits
pub mod Answers
