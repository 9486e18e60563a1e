-- A law that a proof of a call uses.
pub mod Stacked
