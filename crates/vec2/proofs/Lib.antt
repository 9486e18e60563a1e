pub mod Whole
pub mod Digits
pub mod Laws
pub mod Quotients
pub mod Sized
pub mod Measured
pub mod Closest
