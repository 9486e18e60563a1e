-- Laws of the definitions: in the form in which the functions ask for them, and what it means that the entries are taken.
pub mod Corners
pub mod Entries
pub mod Twice
