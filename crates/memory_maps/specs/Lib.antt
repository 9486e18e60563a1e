pub mod Egui
pub mod Calls
pub mod Fits
pub mod Answers
