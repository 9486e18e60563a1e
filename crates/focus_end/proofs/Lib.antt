-- Laws of the definitions: of an id's rectangle and of the entries that are used, and in the form in which the functions ask for them.
pub mod Entries
pub mod Calls
