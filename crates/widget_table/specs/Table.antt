-- WidgetRects of widget_rect.rs (lines 104 to 245): what a change makes of the rows of crate `widget_rows`, the exact value of each number of them. What it means in
-- the Rust's terms is crates/widget_maps/specs/Egui.antt; a reader needs only that. Definitions only.
use Rattle.std.specs.Prelude.{ℕ, zero, suc, ◌+◌, ◌-◌, ◌*◌, Bool, cond, Option, None, Some, List, [], ◌∷◌, ltb, Float, length, set, replicate}
use Rattle.std.specs.Float.{binary32}
use Rattle.std.specs.Float.Ieee.{of_bits}
use Rattle.refusal.specs.Refusal.{none, full, lowest}
use Rattle.layers.specs.declared.LayerId.{LayerId}
use Rattle.layers.specs.Layers.{is_layer}
use Rattle.tables.specs.Tables.{put_at, closed, on_part}
use Rattle.widget_rect.specs.declared.WidgetRect.{WidgetRect}
use Rattle.widget_rect.specs.WidgetRect.{joined_of, insert_refusal}
use Rattle.widget_rows.specs.Rows.{Rows, Table, record_at, next_index, renumbered, home_of, room_of, held_of, found_in}

-- ---- the numbers of a record: what the halves of a row do not share, and what they share
abbrev pub word : Bool → ℕ
word b = cond b 1 0

abbrev pub look_of : WidgetRect → List ℕ
look_of w = w.sense ∷ word w.enabled ∷ word w.visible ∷ []

abbrev pub shared_of : WidgetRect → ℕ → List ℕ
shared_of w index = w.parent_id ∷ w.layer_id.order ∷ w.layer_id.id ∷ index ∷ []

abbrev pub edges_of : WidgetRect → List Float
edges_of w =
    w.rect.min.x ∷ w.rect.min.y ∷ w.rect.max.x ∷ w.rect.max.y
    ∷ w.interact_rect.min.x ∷ w.interact_rect.min.y ∷ w.interact_rect.max.x ∷ w.interact_rect.max.y ∷ []

-- a widget after the first n rows, in `words` and in `rects`
unfoldable pub push_words : List ℕ → ℕ → WidgetRect → List ℕ
push_words words n w = put_at (put_at (put_at words (10 * n) (shared_of w (next_index words n w.layer_id))) (10 * n + 4 + 3 * 0) (look_of w)) (10 * n + 4 + 3 * 1) (look_of w)

unfoldable pub push_rects : List Float → ℕ → WidgetRect → List Float
push_rects rects n w = put_at (put_at rects (16 * n + 8 * 0) (edges_of w)) (16 * n + 8 * 1) (edges_of w)

-- ---- changes of rows: a widget after the first n, row k of the first n taken out, another record in a half of row k
unfoldable pub push_of : Rows → ℕ → WidgetRect → Rows
push_of t n w = record { ids = set t.ids n w.id; words = push_words t.words n w; rects = push_rects t.rects n w }

unfoldable pub remove_of : Rows → ℕ → ℕ → LayerId → Rows
remove_of t n k layer = record { ids = on_part (closed 1) k n t.ids; words = on_part (λ tail. renumbered layer (closed 10 tail)) (10 * k) (10 * n) t.words; rects = on_part (closed 16) (16 * k) (16 * n) t.rects }

unfoldable pub put_half : Rows → ℕ → ℕ → WidgetRect → Rows
put_half t k half w = record { ids = t.ids; words = put_at t.words (10 * k + 4 + 3 * half) (look_of w); rects = put_at t.rects (16 * k + 8 * half) (edges_of w) }

-- ---- `insert` of a known widget, at row k: its record with the new one joined in, the rows after it, the row where it then stands
unfoldable pub joined_at : Rows → ℕ → WidgetRect → WidgetRect
joined_at t k new = joined_of (record_at t k 0) new

abbrev pub update_of : Rows → ℕ → ℕ → WidgetRect → WidgetRect → Bool → Rows
update_of t n k w new move-to-top =
    cond
    (is_layer w.layer_id new.layer_id)
    (cond move-to-top (push_of (remove_of t n k w.layer_id) (n - 1) w) (put_half (put_half t k 0 w) k 1 w))
    (put_half t k 0 w)

unfoldable pub row_after : ℕ → ℕ → WidgetRect → WidgetRect → Bool → ℕ
row_after n k w new move-to-top = cond (is_layer w.layer_id new.layer_id) (cond move-to-top (n - 1) k) k

-- ---- `insert`: refusal 6 is for a new id without room for its row
abbrev pub full_refusal : Option ℕ → ℕ → ℕ → ℕ
full_refusal (Some k) n room = none
full_refusal None n room = cond (ltb n room) none full

unfoldable pub refusal_of : Table → LayerId → WidgetRect → ℕ
refusal_of t layer w = lowest (insert_refusal w layer) (full_refusal (found_in t w.id) (held_of t) (room_of t.rows))

-- n rows held, and the cell of an id's home leads to row k
abbrev pub seen_at : List ℕ → Rows → ℕ → ℕ → ℕ → Table
seen_at cells rows n id k = record { count = n; cells = set cells (home_of cells id) (k + 1); rows = rows }

abbrev pub insert_at : Table → WidgetRect → Bool → ℕ → Option ℕ → Table
insert_at t new move-to-top n (Some k) =
    let w = joined_at t.rows k new in
    seen_at t.cells (update_of t.rows n k w new move-to-top) n new.id (row_after n k w new move-to-top)
insert_at t new move-to-top n None = seen_at t.cells (push_of t.rows n new) (n + 1) new.id n

abbrev pub unless_refused : ℕ → Table → Table → Table
unless_refused zero t t' = t'
unless_refused (suc n) t t' = t

-- the table as it was where it is refused
unfoldable pub insert_of : Table → LayerId → WidgetRect → Bool → Table
insert_of t layer new move-to-top = unless_refused (refusal_of t layer new) t (insert_at t new move-to-top (held_of t) (found_in t new.id))

-- ---- `clear`: no row is held, and no cell leads to one
abbrev pub cleared_cells : List ℕ → List ℕ
cleared_cells cells = replicate (length cells) 0

unfoldable pub clear_of : Table → Table
clear_of t = record { count = 0; cells = cleared_cells t.cells; rows = t.rows }

-- a table with so many cells and room for so many rows, none held
unfoldable pub new_table : ℕ → ℕ → Table
new_table cells rows = record { count = 0; cells = replicate cells 0; rows = record { ids = replicate rows 0; words = replicate (10 * rows) 0; rects = replicate (16 * rows) (of_bits binary32 0) } }
