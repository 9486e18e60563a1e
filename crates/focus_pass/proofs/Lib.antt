-- Laws of the definitions: of the events that numbers are, and in the form in which the functions ask for them.
pub mod Events
pub mod Whole
pub mod Calls
