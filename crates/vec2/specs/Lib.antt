pub mod Length
pub mod Nearest
pub mod Vec2
