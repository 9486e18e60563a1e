-- A line that is put together piece by piece in an array that has room for it. Assumes nothing.
use Rattle.std.proofs.Common.{◌≡◌, ℕ, zero, suc, ◌+◌, ◌*◌, ◌/◌, ◌%◌, ◌<◌, ◌≤◌, Bool, true, false, cond, ltb, min, List, [], ◌∷◌, ◌++◌, length, take, drop, refl, sym, ap, ◌∙◌, append_assoc, append-nil, arith, length-append, length-take, length-drop}
use borrow.Author.Tests.{le-leb}
use lib.Seq.{take-append-add, take-append_seam}
use Rattle.text.specs.Put.{place_after, put_on, decimal_in, decimal_of}
use Rattle.std.specs.List.{flat_map}
use Rattle.std.specs.Prelude.{codes, slice_index_or}
use Rattle.std.proofs.lemmas.List.{take_more, take_all, flat_map_more}
use Rattle.session.specs.Output.{number, said}

pub record Printed (room text : List ℕ) (at : ℕ) : Type 0 where
  pub size : length room ≡ 48
  pub place : at ≡ length text
  pub is : take at room ≡ text

pub nothing_printed : (room : List ℕ) → length room ≡ 48 → Printed room [] 0
nothing_printed room h = record { size = h; place = refl; is = refl }

pub prints : (room text : List ℕ) (at : ℕ) → Printed room text at → (s : List ℕ) → length text + length s ≤ 48 → (next : ℕ) → next ≡ place_after at s → (now : List ℕ) → now ≡ put_on room at s → Printed now (text ++ s) next
unfolding put_on
prints room text at p s h next e now f =
    let room_left : at + length s ≤ length room = omega (arith, p.place, p.size, h) in
    let k : next ≡ at + length s = omega (arith, p.place, h) in
    let whole : now ≡ take at room ++ (s ++ drop (at + length s) room) = (rw (le-leb (at + length s) (length room) room_left) at f) ∙ append_assoc (take at room) s (drop (at + length s) room) in
    let front : length (take at room) ≡ at = omega (arith, length-take at room, p.place, p.size, h) in
    record {
      size = rw whole (omega (arith, length-append (take at room) (s ++ drop (at + length s) room), length-append s (drop (at + length s) room), length-drop (at + length s) room, front, p.size));
      place = omega (arith, length-append text s, p.place);
      is =
          ap (λ (i : ℕ). take i now) (k ∙ ap (λ (i : ℕ). i + length s) (sym front))
          ∙ ap (take (length (take at room) + length s)) whole
          ∙ take-append-add (take at room) (s ++ drop (at + length s) room) (length s)
          ∙ ap (λ (r : List ℕ). take at room ++ r) (take-append_seam s (drop (at + length s) room))
          ∙ ap (λ (r : List ℕ). r ++ s) p.is;
    }

-- ---- a number has at most twenty digits
pub digits_few : (k n : ℕ) → length (decimal_in k n) ≤ k
unfolding decimal_in
digits_few zero n = omega arith
digits_few (suc k) n = go (ltb n 10) (digits_few k (n / 10))
  where
    go : (t : Bool) → length (decimal_in k (n / 10)) ≤ k → length (cond t ((48 + n) ∷ []) (decimal_in k (n / 10) ++ ((48 + n % 10) ∷ []))) ≤ suc k
    go true h = omega arith
    go false h = omega (arith, length-append (decimal_in k (n / 10)) ((48 + n % 10) ∷ []), h)

pub number_short : (n : ℕ) → length (number n) ≤ 21
number_short n = omega (arith, digits_few 20 n)

-- ---- a word and numbers: what is printed before number i
abbrev so_far : List ℕ → List ℕ → ℕ → List ℕ
so_far word numbers i = word ++ flat_map number (take i numbers)

pub record Short (text : List ℕ) (i : ℕ) (room : List ℕ) (at : ℕ) : Type 0 where
  pub printed : Printed room text at
  pub length : length text ≤ 5 + 21 * i

abbrev pub Saying : List ℕ → List ℕ → List ℕ → ℕ → ℕ → Type 0
Saying word numbers room at i = length word ≤ 5 → length numbers ≤ 2 → Short (so_far word numbers i) i room at

module _ (word numbers : List ℕ) where
  pub says_word : (room : List ℕ) → length room ≡ 48 → (next : ℕ) (now : List ℕ) → (next ≡ place_after 0 word) × (now ≡ put_on room 0 word) → Saying word numbers now next 0
  says_word room z next now e w n = rw (append-nil word) (record {
    printed = prints room [] 0 (nothing_printed room z) word (omega arith) next e.0 now e.1;
    length = omega arith;
  })

  module _ (room : List ℕ) (at i : ℕ) (so : Saying word numbers room at i) where
    pub says_number : i < length numbers → (p : ℕ) (spaced : List ℕ) → (p ≡ place_after at (codes " ")) × (spaced ≡ put_on room at (codes " "))
        → (next : ℕ) (now : List ℕ) → (next ≡ place_after p (decimal_of (slice_index_or numbers i 0))) × (now ≡ put_on spaced p (decimal_of (slice_index_or numbers i 0))) → Saying word numbers now next (i + 1)
    says_number h p spaced e next now f w n =
        let x = slice_index_or numbers i 0 in
        let text = so_far word numbers i in
        let s = so w n in
        let d = digits_few 20 x in
        let l = length-append text (codes " ") in
        let first = prints room text at s.printed (codes " ") (omega (arith, s.length)) p e.0 spaced e.1 in
        let both = prints spaced (text ++ codes " ") p first (decimal_of x) (omega (arith, s.length, d, l)) next f.0 now f.1 in
        let more : (text ++ codes " ") ++ decimal_of x ≡ so_far word numbers (i + 1) =
        append_assoc text (codes " ") (decimal_of x) ∙ flat_map_more number word (take i numbers) x ∙ ap (λ (xs : List ℕ). word ++ flat_map number xs) (sym (take_more numbers i 0 h)) in
        rw (← more) (record { printed = both; length = omega (arith, s.length, d, l, length-append (text ++ codes " ") (decimal_of x)) })

    pub says_end : length numbers ≤ i → i ≤ length numbers → (next : ℕ) (now : List ℕ) → (next ≡ place_after at (codes "\n")) × (now ≡ put_on room at (codes "\n")) → (k : ℕ) → k ≡ min next 48 → length word ≤ 5 → length numbers ≤ 2 → take k now ≡ said word numbers
    unfolding said
    says_end h u next now e k m w n =
        let text = so_far word numbers i in
        let s = so w n in
        let all : text ≡ word ++ flat_map number numbers = rw (take_all i numbers h) refl in
        let ended = prints room text at s.printed (codes "\n") (omega (arith, s.length)) next e.0 now e.1 in
        let q : k ≡ next = omega (arith, ended.place, length-append text (codes "\n"), s.length) in
        ap (λ (j : ℕ). take j now) q ∙ ended.is ∙ ap (λ (t : List ℕ). t ++ codes "\n") all ∙ append_assoc word (flat_map number numbers) (codes "\n")
