-- What the record means, and that every call keeps it.
pub mod Layers
pub mod Focuses
pub mod Popups
pub mod Steps
pub mod Answers
pub mod Blanks
pub mod Holds
