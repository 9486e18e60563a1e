-- `layer_rows::read` meets its contract. Assumes nothing.
use native.Mathlib.Omega.{arith}
use Rattle.std.proofs.Common.{◌≡◌, ℕ, ◌+◌, ◌*◌, ◌<◌, [], get_or}
use Rattle.tables.proofs.Chunks.{chunk_get}
use Rattle.layer_rows.proofs.read.Goals as goal

pub returns : goal.returns
returns c =
    let at : (i p : ℕ) → i < 8 → p ≡ 8 * c.args.k + i → get_or (get_or c.as_chunks.result.0.now c.args.k []) i 0 ≡ get_or c.args.rows.now p 0 =
    λ i p l e. rw c.as_chunks.ensures.front (chunk_get 0 8 _ c.args.k i p c.args.rows.now (omega arith) l e) in
    λ j. record {
      layer = record { order = at 0 (8 * c.args.k) (omega arith) (omega arith) j; id = at 1 (8 * c.args.k + 1) (omega arith) (omega arith) j };
      shown = at 2 (8 * c.args.k + 2) (omega arith) (omega arith) j;
      last = at 3 (8 * c.args.k + 3) (omega arith) (omega arith) j;
      raised = at 4 (8 * c.args.k + 4) (omega arith) (omega arith) j;
      parent = at 5 (8 * c.args.k + 5) (omega arith) (omega arith) j;
      area = at 6 (8 * c.args.k + 6) (omega arith) (omega arith) j;
      key = at 7 (8 * c.args.k + 7) (omega arith) (omega arith) j;
    }
