pub mod Put
pub mod Read
