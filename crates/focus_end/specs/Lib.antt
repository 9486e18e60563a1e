pub mod End
pub mod Steps
