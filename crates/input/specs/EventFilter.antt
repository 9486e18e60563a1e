-- EventFilter of data/input/event_filter.rs (lines 11 to 63 of the Rust). Definitions only.
use Rattle.std.specs.Prelude.{ℕ, Bool, true, false, ◌||◌, cond, eqb}
use Rattle.input.specs.declared.Event.{Event}
use Rattle.input.specs.declared.Event.TheVariants.{Key, AccessKitFocus, Pointer, Zoom, Other}
use Rattle.input.specs.declared.EventFilter.{EventFilter}
use Rattle.input.specs.Key.{arrow_down, arrow_left, arrow_right, arrow_up, escape, tab}

-- EventFilter::default()
abbrev pub default_filter : EventFilter
default_filter = record { tab = false; horizontal_arrows = false; vertical_arrows = false; escape = false }

-- the match on the key
unfoldable pub matches_key : EventFilter → ℕ → Bool
matches_key f key =
    cond (eqb key tab) f.tab
    (cond (eqb key arrow_up || eqb key arrow_down) f.vertical_arrows
    (cond (eqb key arrow_right || eqb key arrow_left) f.horizontal_arrows
    (cond (eqb key escape) f.escape true)))

abbrev pub matches_of : EventFilter → Event → Bool
matches_of f (Key key pressed repeat modifiers) = matches_key f key
matches_of f (AccessKitFocus id) = true
matches_of f (Pointer x y) = true
matches_of f (Zoom factor) = true
matches_of f Other = true
