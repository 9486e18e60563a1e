-- What the record means in egui's terms, and that every call keeps it.
pub mod Means
pub mod Begun
pub mod Ended
pub mod Steps
pub mod Holds
pub mod Distinct
