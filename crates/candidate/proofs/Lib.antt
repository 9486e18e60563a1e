pub mod Apart
pub mod Arrow
pub mod Bound
pub mod Cosine
pub mod Laws
pub mod Quotient
pub mod Reach
pub mod Score
