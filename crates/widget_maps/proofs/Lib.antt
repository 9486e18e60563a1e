-- What the rows of the table mean, what the changes of the table do to them, and the theorem.
pub mod Row
pub mod Meaning
pub mod Laws
pub mod Pushed
pub mod Known
pub mod Shifted
pub mod Moved
pub mod AtRow
pub mod Listing
pub mod Alone
pub mod Rowwise
pub mod Removed
pub mod Led
pub mod Vacant
pub mod Updated
pub mod Holds
pub mod Record
