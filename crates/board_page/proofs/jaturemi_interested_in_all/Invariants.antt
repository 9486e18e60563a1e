-- `board_page::jaturemi_interested_in_all` meets its contract. Assumes nothing.
use mathlib.Core.Path.{◌≡◌}
use lib.ListN.{length, drop}
use Rattle.board_page.specs.Page.{page_after, wanted_all}
use Rattle.board_page.proofs.jaturemi_interested_in_all.Given as goal

abbrev pub invariant-loop-id : goal.invariant-loop-id
invariant-loop-id l = (wanted_all (page_after l.so_far l.ids l.rects) (drop l.id-index l.page) ≡ wanted_all (page_after l.initial.so_far l.initial.ids l.initial.rects) l.page) × (length l.ids ≡ length l.initial.ids) × (length l.rects ≡ length l.initial.rects)
