pub mod KeptOut
pub mod Modal
pub mod Rule
pub mod Instance
pub mod Needed
pub mod NeededOpening
