pub mod Lists
pub mod Stacking
pub mod Insertion
