-- The rank of a place, for the contract of a private function; no public contract cites it. Definitions only.
use Rattle.std.specs.Prelude.{ℕ, suc, Option, None, Some}

-- 0 where there is none, below that of each place
abbrev pub rank_of : Option ℕ → ℕ
rank_of None = 0
rank_of (Some k) = suc k
