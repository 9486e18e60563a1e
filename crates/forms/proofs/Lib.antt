pub mod Steps
pub mod Bounds
pub mod Digits
pub mod Codec
pub mod Fields
pub mod Forms
pub mod Shortest
