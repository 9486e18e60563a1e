-- Laws of lists and of layers, the two sorts, and the laws of the stack.
pub mod Lists
pub mod Insertion
pub mod Families
pub mod Stable
pub mod Layers
pub mod Sort
pub mod Rising
pub mod Stack
pub mod Moved
