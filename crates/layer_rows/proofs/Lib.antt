-- Laws of the definitions, in the form in which the functions ask for them.
pub mod Rows
pub mod Table
pub mod Marks
