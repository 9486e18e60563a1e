pub mod Keys
pub mod Bits
