-- What is refused of an event, from document 01's table: 1 an id of 0, 2 a key past 144 or modifiers past 31. Definitions only.
use Rattle.std.specs.Prelude.{ℕ}
use Rattle.refusal.specs.Refusal.{none, lowest, id_refusal, code_refusal}
use Rattle.refusal.specs.Limits.{last_key, last_modifiers}
use Rattle.input.specs.declared.Event.{Event}
use Rattle.input.specs.declared.Event.TheVariants.{Key, AccessKitFocus, Pointer, Zoom, Other}

abbrev pub key_refusal : ℕ → ℕ → ℕ
key_refusal key modifiers = lowest (code_refusal key last_key) (code_refusal modifiers last_modifiers)

abbrev pub event_refusal : Event → ℕ
event_refusal (Key key pressed repeat modifiers) = key_refusal key modifiers
event_refusal (AccessKitFocus id) = id_refusal id
event_refusal (Pointer x y) = none
event_refusal (Zoom factor) = none
event_refusal Other = none
