-- A line that is read as a form: its request is answered as the form is. Assumes nothing.
use Rattle.std.proofs.Common.{◌≡◌, Option, Some, None, refl, subst, map}
use Rattle.std.specs.Prelude.{IfSome}
use Rattle.std.specs.Option.{option_map}
use Rattle.memory_rules.specs.declared.Memory.{Memory}
use Rattle.forms.specs.Form.{Form, Begin, Want, Area, Top, Sub, Modal, End, Hit, Focus}
use Rattle.requests.specs.declared.Request.{Request}
use Rattle.requests.specs.declared.Lists.{Lists}
use Rattle.requests.specs.Asked.{event_of, candidate_of, request_of, Holds}
use Rattle.session.specs.declared.runner.Answer.TheVariants.{NoForm}
use Rattle.session.specs.Session.{Step, step, step_by}
use Rattle.session.specs.Runs.{Leaves}

by_form : (f : Form) (lists : Lists) (m : Memory) (s : Step) → Holds lists f → Leaves (request_of f) lists m s → s ≡ step m f
unfolding step
by_form (Begin es) lists m s h l = l (map event_of es) h
by_form (Want layer id) lists m s h l = l
by_form (Area layer at size) lists m s h l = l
by_form (Top layer) lists m s h l = l
by_form (Sub parent child) lists m s h l = l
by_form (Modal layer) lists m s h l = l
by_form (End ps) lists m s h l = l (map candidate_of ps) h
by_form (Hit at) lists m s h l = l
by_form Focus lists m s h l = l

pub asked : (read : Option Form) (request : Request) (lists : Lists) (m : Memory) (s : Step) → Some request ≡ option_map request_of read → IfSome read (Holds lists) → Leaves request lists m s → s ≡ step_by m read
asked (Some f) request lists m s e h l = by_form f lists m s h (let q : request ≡ request_of f = cc in subst (λ (r : Request). Leaves r lists m s) q l)
asked None request lists m s e h l = absurd cc

pub not_asked : (read : Option Form) (m : Memory) → None ≡ option_map request_of read → ◌≡◌ {A = Step} (record { memory = m; answer = NoForm }) (step_by m read)
not_asked (Some f) m e = absurd cc
not_asked None m e = refl
