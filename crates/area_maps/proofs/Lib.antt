-- What the record's tables mean, and that every call keeps it.
pub mod Marked
pub mod Pushed
pub mod Changes
pub mod Sublayers
pub mod Ended
pub mod Lists
pub mod Queries
pub mod Steps
pub mod Pairing
pub mod States
pub mod Answers
pub mod Blanks
pub mod Holds
