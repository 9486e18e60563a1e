pub mod Events
pub mod Pass
