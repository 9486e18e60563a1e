-- Interest calls for a page: one more, and the loop over them. Assumes nothing.
use mathlib.Core.Path.{◌≡◌, ap, sym, ◌∙◌}
use mathlib.Core.List.{List, ◌∷◌}
use Prim.Native.Nat.{ℕ, ◌+◌, ◌<◌, ◌≤◌}
use native.Mathlib.Numerals.{add-one}
use lib.ListN.{length, get_or, drop, drop_of_length-le}
use lib.Seq.{drop-cons}
use Rattle.board_page.specs.Page.{Page, wanted, wanted_all}

module _ (start : Page) (page : List ℕ) where
  pub all_more : (p p' : Page) (i : ℕ) → i < length page → wanted_all p (drop i page) ≡ wanted_all start page → p' ≡ wanted p (get_or page i 0) → wanted_all p' (drop (i + 1) page) ≡ wanted_all start page
  unfolding wanted_all
  all_more p p' i h e q =
      ap (λ (s : Page). wanted_all s (drop (i + 1) page)) q
      ∙ sym (ap (wanted_all p) (drop-cons page i 0 h ∙ ap (λ (k : ℕ). get_or page i 0 ∷ drop k page) (sym (add-one i))))
      ∙ e

  pub all_done : (p : Page) (i : ℕ) → length page ≤ i → wanted_all p (drop i page) ≡ wanted_all start page → p ≡ wanted_all start page
  unfolding wanted_all
  all_done p i h e = sym (ap (wanted_all p) (drop_of_length-le page h)) ∙ e
