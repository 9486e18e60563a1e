-- A law of the derived equality.
pub mod Equal
