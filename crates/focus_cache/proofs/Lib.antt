-- Laws of the definitions: of the entries that tables hold, and in the form in which the functions ask for them.
pub mod Entries
pub mod Calls
