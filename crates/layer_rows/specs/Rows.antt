-- The layers of Areas (memory/mod.rs, lines 1199 to 1225) as the rows of a table: what the words of the table are, and what is held of a layer. Definitions only.
use Rattle.std.specs.Prelude.{ℕ, zero, suc, ◌+◌, ◌*◌, ◌/◌, cond, List, [], ◌∷◌, ◌++◌, length, get_or, take, drop}
use Rattle.layers.specs.declared.LayerId.{LayerId}
use Rattle.layers.specs.Layers.{is_layer}
use Rattle.layer_rows.specs.declared.Row.{Row}
use Rattle.layer_rows.specs.declared.LayerRows.{LayerRows}

-- ---- a row and its eight words
abbrev pub row_in : List ℕ → ℕ → Row
row_in words k = record { layer = record { order = get_or words (8 * k) 0; id = get_or words (8 * k + 1) 0 }; shown = get_or words (8 * k + 2) 0; last = get_or words (8 * k + 3) 0; raised = get_or words (8 * k + 4) 0; parent = get_or words (8 * k + 5) 0; area = get_or words (8 * k + 6) 0; key = get_or words (8 * k + 7) 0 }

abbrev pub words_of : Row → List ℕ
words_of r = r.layer.order ∷ r.layer.id ∷ r.shown ∷ r.last ∷ r.raised ∷ r.parent ∷ r.area ∷ r.key ∷ []

-- ---- the rows of a table, and those held
unfoldable pub rows_from : ℕ → List ℕ → List Row
rows_from zero words = []
rows_from (suc n) words = row_in words 0 ∷ rows_from n (drop 8 words)

unfoldable pub rows_of : List ℕ → List Row
rows_of words = rows_from (length words / 8) words

unfoldable pub held_rows : ℕ → List ℕ → List Row
held_rows count words = take count (rows_of words)

-- those of a table that is lent
abbrev pub lent : LayerRows → List Row
lent t = held_rows t.count t.words.now

-- ---- the table with other rows from its beginning on; past them it is as it was
unfoldable pub flat : List Row → List ℕ
flat [] = []
flat (r ∷ rows) = words_of r ++ flat rows

unfoldable pub rows_on : List ℕ → List Row → List ℕ
rows_on words rows = flat rows ++ drop (8 * length rows) words

-- ---- what is held of a layer; of a layer that is not held, nothing is known
abbrev pub new_row : LayerId → Row
new_row layer = record { layer = layer; shown = 0; last = 0; raised = 0; parent = 0; area = 0; key = 0 }

unfoldable pub spot_in : List Row → LayerId → ℕ
spot_in [] layer = 0
spot_in (r ∷ rows) layer = cond (is_layer r.layer layer) 0 (suc (spot_in rows layer))

unfoldable pub row_of : List Row → LayerId → Row
row_of rows layer = get_or rows (spot_in rows layer) (new_row layer)

-- ---- the rows with a layer's row changed; a layer that is not held comes to the end
unfoldable pub marked : (Row → Row) → List Row → LayerId → List Row
marked f [] layer = f (new_row layer) ∷ []
marked f (r ∷ rows) layer = cond (is_layer r.layer layer) (f r ∷ rows) (r ∷ marked f rows layer)
