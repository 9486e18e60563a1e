-- LayerId of layers.rs (its derived equality), and document 01's refusals 1 and 2 of a layer. Definitions only.
use Rattle.std.specs.Prelude.{ℕ, Bool, ◌&&◌, eqb}
use Rattle.refusal.specs.Refusal.{lowest, id_refusal, code_refusal}
use Rattle.refusal.specs.Limits.{last_order}
use Rattle.layers.specs.declared.LayerId.{LayerId}

unfoldable pub is_layer : LayerId → LayerId → Bool
is_layer a b = eqb a.order b.order && eqb a.id b.id

unfoldable pub layer_refusal : LayerId → ℕ
layer_refusal l = lowest (id_refusal l.id) (code_refusal l.order last_order)
