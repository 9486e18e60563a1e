pub mod Accepted
pub mod Ends
pub mod Negative
pub mod Product
pub mod Step
pub mod Whole
pub mod Within
