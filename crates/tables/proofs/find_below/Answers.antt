use mathlib.Core.Path.{refl}
use Rattle.std.proofs.Common.{rules, ◌≡◌, ℕ}
use Rattle.std.specs.Prelude.{Option, None, Some}
use Rattle.tables.specs.Tables.{last_below}
use Rattle.tables.proofs.Finding.{last_here, last_nowhere}
use Rattle.tables.proofs.find_below.Goals as goal

pub returns : goal.returns
returns c = go c.rposition.result refl
  where
    go : (r : Option ℕ) → c.rposition.result ≡ r → r ≡ last_below c.args.xs.now c.args.n c.args.x
    go (Some k) e = last_here c.args.xs.now c.args.x c.args.n c.min.result c.min.ensures k (search rules) (search rules) (search rules)
    go None e = last_nowhere c.args.xs.now c.args.x c.args.n c.min.result c.min.ensures (search rules)
