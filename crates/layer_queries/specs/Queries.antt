-- What Areas (memory/mod.rs, lines 1246 to 1261, 1309 to 1333 and 1371 to 1396) asks of its layers, on the rows of the stack. What it means in egui's terms is crate `area_maps`; a reader
-- needs only that. Definitions only.
use Rattle.std.specs.Prelude.{ℕ, suc, Bool, true, cond, not, ◌&&◌, ◌||◌, Option, None, Some, List, [], ◌∷◌, length, ◌==◌, nat_lt}
use Rattle.std.specs.Option.{option_or}
use Rattle.layers.specs.declared.LayerId.{LayerId}
use Rattle.layer_rows.specs.declared.Row.{Row}
use Rattle.layer_rows.specs.Rows.{spot_in}
use Rattle.layer_queries.specs.declared.Listing.{Listing}
use Rattle.layer_queries.specs.declared.Listing.TheVariants.{All, Visible, Children}

-- ---- what a row says
abbrev pub shown_last : Row → Bool
shown_last r = not (r.last == 0)

abbrev pub is_visible_row : Row → Bool
is_visible_row r = shown_last r || not (r.shown == 0)

abbrev pub is_sublayer_row : Row → Bool
is_sublayer_row r = not (r.parent == 0)

abbrev pub is_child_row : LayerId → Row → Bool
is_child_row parent r = is_sublayer_row r && (r.parent == parent.id && r.layer.order == parent.order)

abbrev pub is_top_row : ℕ → Row → Bool
is_top_row order r = r.layer.order == order && r.parent == 0

abbrev pub is_window_row : Row → Bool
is_window_row r = is_top_row 1 r && is_visible_row r

abbrev pub is_listed : Listing → Row → Bool
is_listed All r = true
is_listed Visible r = is_visible_row r
is_listed (Children parent) r = is_child_row parent r

-- ---- `compare_order`, 0 less, 1 equal, 2 greater: by Order, and in one Order by place; a layer without a place is below one with a place, and two without are equal
unfoldable pub rank_in : List Row → LayerId → ℕ
rank_in rows layer = cond (nat_lt (spot_in rows layer) (length rows)) (suc (spot_in rows layer)) 0

abbrev pub compared : ℕ → ℕ → ℕ
compared a b = cond (nat_lt a b) 0 (cond (nat_lt b a) 2 1)

abbrev pub compared_by : List Row → LayerId → LayerId → ℕ
compared_by placed a b = cond (a.order == b.order) (compared (rank_in placed a) (rank_in placed b)) (compared a.order b.order)

-- ---- the last row of which something holds, as a search from the top finds it
unfoldable pub last_of : (Row → Bool) → List Row → Option LayerId
last_of p [] = None
last_of p (r ∷ rows) = option_or (last_of p rows) (cond (p r) (Some r.layer) None)

abbrev pub parent_in : Row → Option LayerId
parent_in r = cond (r.parent == 0) None (Some (record { order = r.layer.order; id = r.parent }))
