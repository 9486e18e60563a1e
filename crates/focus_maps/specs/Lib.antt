pub mod Egui
pub mod Calls
