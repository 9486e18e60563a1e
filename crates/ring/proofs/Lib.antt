pub mod Steps
pub mod Passes
pub mod Places
pub mod Edges
pub mod Turns
pub mod Rounds
pub mod Instance
pub mod Joined
