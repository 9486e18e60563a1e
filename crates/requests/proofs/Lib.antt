pub mod Bounds
pub mod Held
pub mod Letters
pub mod Many
pub mod Plain
pub mod Rows
pub mod Steps
