pub mod Rules
pub mod Page
