-- The keys that move the focus, numbered as data/key.rs declares them (lines 7 to 16 of the Rust). Definitions only.
use Rattle.std.specs.Prelude.{ℕ}

abbrev pub arrow_down : ℕ
arrow_down = 0

abbrev pub arrow_left : ℕ
arrow_left = 1

abbrev pub arrow_right : ℕ
arrow_right = 2

abbrev pub arrow_up : ℕ
arrow_up = 3

abbrev pub escape : ℕ
escape = 4

abbrev pub tab : ℕ
tab = 5
