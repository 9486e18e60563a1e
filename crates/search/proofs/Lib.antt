pub mod TieRule
pub mod Better
pub mod Least
pub mod Steps
pub mod EguiLeast
pub mod InOrder
pub mod Turns
pub mod Places
