pub mod Choice
pub mod Corners
