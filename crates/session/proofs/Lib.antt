pub mod Calls
pub mod Filling
pub mod Fits
pub mod Forms
pub mod Lines
pub mod Printing
pub mod Running
