-- Laws of the definitions: in the form in which the functions ask for them, and what the table means.
pub mod Places
pub mod States
pub mod Entries
