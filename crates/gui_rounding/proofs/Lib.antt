pub mod Grid
pub mod Rounding
pub mod Whole
