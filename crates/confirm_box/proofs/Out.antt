-- An id that is passed, and then ignored, stays so until the id of the next frame is another: any calls but a begin and those that let it in. Assumes nothing.
use Rattle.std.specs.Prelude.{ℕ, true, false, ◌≡◌, Option, None, Some, List, eqb}
use mathlib.Core.Path.{refl, sym, ◌∙◌, subst}
use mathlib.Core.Bool.{true≢false}
use Rattle.input.specs.declared.Event.{Event}
use Rattle.search.specs.declared.Candidate.{Candidate}
use Rattle.focus_cache.specs.Cache.{enlisted, without}
use Rattle.focus_maps.specs.Egui.{Focus, is, focused, with_frames, with_cache, handed_over, begin_pass, interested_in_focus, end_pass, ignore_focus}
use Rattle.memory_rules.specs.declared.Memory.{Memory}
use Rattle.memory_rules.specs.Memory.{is_allowed}
use Rattle.memory_rules.specs.Calls.{Call, RequestFocusNextFrame, done_by}
use Rattle.confirm_box.specs.KeptOut.{is_taken, lets_in, kept_out}
use Rattle.confirm_box.specs.Rule.{is_begin, disturbs}
use Rattle.confirm_box.proofs.Egui.{neither, widget_is, not_enlisted}
use Rattle.confirm_box.proofs.Methods.{Moves, all_heard, ended, ruled_keeps, letgo_keeps}
use Rattle.confirm_box.proofs.Calls.{focus_in, Methods, keeps, unless_refused}
use Rattle.confirm_box.proofs.Kept.{another, asked, Unfocused, KeptOut, unfocused_moves, end_unfocused, ignore_unfocused, is_kept}
use Rattle.confirm_box.proofs.Steps.{next_after}

module _ (p : ℕ) where
  -- ---- p is not the id last interested; and nor is it focused or cached
  abbrev pub Passed : Focus → Type 0
  Passed f = is f.last_interested p ≡ false

  abbrev pub Out : Focus → Type 0
  Out f = Unfocused p f × Passed f

  passed_moves : Moves Passed
  passed_moves = record { turn = λ f d k. k; give = λ f on k. k; drop = λ f k. k; filter = λ f id filter e k. k }

  out_moves : Moves Out
  out_moves =
      let u = unfocused_moves p in
      record { turn = λ f d k. k; give = λ f on k. k; drop = λ f k. (u.drop f k.0, k.1); filter = λ f id filter e k. (u.filter f id filter e k.0, k.1) }

  handed : (f : Focus) (o : Option ℕ) → Passed f → Passed (handed_over f o)
  handed f None k = k
  handed f (Some id) k = k

  begin_passed : (events : List Event) (f : Focus) → Passed f → Passed (begin_pass f events)
  unfolding begin_pass
  begin_passed events f k = all_heard Passed passed_moves (λ f id e k. k) events _ _ None (handed (with_frames f (focused f) f.id_previous_frame) f.id_next_frame k)

  end_passed : (used : List Candidate) (f : Focus) → Passed f → Passed (end_pass f used)
  unfolding end_pass
  end_passed used f k = ended Passed passed_moves (λ f id e k. k) used (λ g v. v) f k

  end_out : (used : List Candidate) (f : Focus) → Out f → Out (end_pass f used)
  end_out used f k = (end_unfocused p used f k.0, end_passed used f k.1)

  ignore_passed : (id : ℕ) (f : Focus) → Passed f → Passed (ignore_focus f id)
  unfolding ignore_focus
  ignore_passed id f k = letgo_keeps Passed passed_moves (with_cache f (without f.focus_widgets_cache id)) id k

  -- an interest call for another id
  interest_out : (id : ℕ) → eqb id p ≡ false → (f : Focus) → Out f → Out (interested_in_focus f id)
  unfolding interested_in_focus
  interest_out id n f k =
      let r = ruled_keeps Out out_moves id (λ g v. ((n, v.0.1), v.1)) (λ g v. ((widget_is g.last_interested p ∙ v.1, v.0.1), v.1), λ g v. v) (with_cache f (enlisted f.focus_widgets_cache id)) ((k.0.0, not_enlisted p f.focus_widgets_cache id n k.0.1), k.1) in
      (r.0, n)

  -- ---- the calls
  module _ (m : Memory) where
    abbrev Ok : Call → Type 0
    Ok call = (is_begin call ≡ false) × (asked p m call ≡ false)

    passed_methods : Methods m Passed Ok
    unfolding interested_in_focus
    passed_methods = record {
      begin = λ events ok. begin_passed events;
      want = λ id layer ok allowed f k. another p id (is_allowed m layer) allowed ok.1;
      end = λ used ok. end_passed used;
      ask = λ id ok f k. k;
      ask_next = λ id ok f k. k;
      ignore = ignore_passed;
      set = λ layer ok f k. k;
    }

    out_methods : Methods m Out Ok
    out_methods = record {
      begin = λ events ok. absurd (true≢false ok.0);
      want = λ id layer ok allowed. interest_out id (another p id (is_allowed m layer) allowed ok.1);
      end = λ used ok. end_out used;
      ask = λ id ok f k. ((another p id true refl ok.1, k.0.1), k.1);
      ask_next = λ id ok f k. k;
      ignore = λ id f k. (ignore_unfocused p id f k.0, ignore_passed id f k.1);
      set = λ layer ok f k. k;
    }

    -- a call that is taken and does not disturb
    quiet : (call : Call) → disturbs p m call ≡ false → is_taken m call ≡ true → Ok call
    unfolding disturbs lets_in
    quiet call ok t = let (a, b) = neither (is_begin call) _ ok in (a, rw t at b)

    pub call_passed : (call : Call) → disturbs p m call ≡ false → Passed (focus_in m) → Passed (focus_in (done_by call m).memory)
    call_passed call ok k = unless_refused (λ n. Passed (focus_in n)) m call (λ t. keeps m Passed Ok passed_moves passed_methods call (quiet call ok t) k) k

    pub call_out : (call : Call) → disturbs p m call ≡ false → Out (focus_in m) → Out (focus_in (done_by call m).memory)
    call_out call ok k = unless_refused (λ n. Out (focus_in n)) m call (λ t. keeps m Out Ok out_moves out_methods call (quiet call ok t) k) k

  -- ---- the end of the rule: another id for the next begin
  pub shut : (m : Memory) (id : ℕ) → eqb id p ≡ false → (done_by (RequestFocusNextFrame id) m).refusal ≡ 0 → Out (focus_in m) → kept_out (done_by (RequestFocusNextFrame id) m).memory p ≡ true
  shut m id n t k = is_kept p (done_by (RequestFocusNextFrame id) m).memory (subst (KeptOut p) (sym (next_after m id t)) (k.0, k.1, n))
