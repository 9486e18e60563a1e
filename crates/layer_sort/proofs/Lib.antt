-- Laws of the definitions, in the form in which the functions ask for them; Meaning and Stacked: what the rows after `end_pass` say of layers.
pub mod Keys
pub mod Passes
pub mod Sinking
pub mod Sorting
pub mod Meaning
pub mod Stacked
