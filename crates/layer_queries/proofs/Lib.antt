-- Laws of the definitions, in the form in which the functions ask for them.
pub mod Tops
pub mod Ranks
