pub mod Event
pub mod EventFilter
pub mod FocusDirection
pub mod Key
pub mod Modifiers
