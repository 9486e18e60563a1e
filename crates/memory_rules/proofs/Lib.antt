pub mod Refused
pub mod Numbers
