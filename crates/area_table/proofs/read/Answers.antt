-- `area_table::read` meets its contract. Assumes nothing.
use native.Mathlib.Omega.{arith}
use lib.Ieee.{nan}
use Rattle.std.proofs.Common.{◌≡◌, ◌∙◌, ap, ℕ, ◌+◌, ◌*◌, ◌<◌, [], get_or}
use Rattle.std.specs.Prelude.{not, eqb}
use Rattle.tables.proofs.Chunks.{chunk_get}
use Rattle.area_table.specs.Table.{pivot_pos_in, size_in, state_in}
use Rattle.area_table.proofs.States.{sized_some}
use Rattle.area_table.proofs.read.Goals as goal

pub returns : goal.returns
unfolding state_in
returns c =
    let code : (i p : ℕ) → i < 5 → p ≡ 5 * c.args.k + i → get_or (get_or c.as_chunks.result.0.now c.args.k []) i 0 ≡ get_or c.args.codes.now p 0 =
    λ i p l e. rw c.as_chunks.ensures.front (chunk_get 0 5 _ c.args.k i p c.args.codes.now (omega arith) l e) in
    let float : (i p : ℕ) → i < 4 → p ≡ 4 * c.args.k + i → get_or (get_or c.as_chunks-2.result.0.now c.args.k []) i nan ≡ get_or c.args.floats.now p nan =
    λ i p l e. rw c.as_chunks-2.ensures.front (chunk_get nan 4 _ c.args.k i p c.args.floats.now (omega arith) l e) in
    λ j. record {
      pivot_pos = (c.pivot_pos.ensures ∙ λ i. pivot_pos_in (code 0 (5 * c.args.k) (omega arith) (omega arith) i) (float 0 (4 * c.args.k) (omega arith) (omega arith) i) (float 1 (4 * c.args.k + 1) (omega arith) (omega arith) i)) j;
      pivot = record { x = code 1 (5 * c.args.k + 1) (omega arith) (omega arith) j; y = code 2 (5 * c.args.k + 2) (omega arith) (omega arith) j };
      size = (c.then_some.ensures ∙ sized_some _ _ _ ∙ λ i. size_in (code 3 (5 * c.args.k + 3) (omega arith) (omega arith) i) (float 2 (4 * c.args.k + 2) (omega arith) (omega arith) i) (float 3 (4 * c.args.k + 3) (omega arith) (omega arith) i)) j;
      interactable = not (eqb (code 4 (5 * c.args.k + 4) (omega arith) (omega arith) j) 0);
    }
