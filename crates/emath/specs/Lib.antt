pub mod Pos2
pub mod Range
pub mod Rect
