-- The shortest line that is a form is `(end)`. Assumes nothing.
use Rattle.std.proofs.Common.{◌≡◌, ℕ, ◌≤◌, List, length, Some, codes, ap, arith, length-append}
use Rattle.std.specs.List.{flat_map}
use Rattle.forms.specs.Form.{Form, Begin, Want, Area, Top, Sub, Modal, End, Hit, Focus, place, written}
use Rattle.forms.specs.Read.{form_of}
use Rattle.forms.proofs.Forms.{form_takes}

written_long : (f : Form) → 5 ≤ length (written f)
written_long (Begin es) = omega arith
written_long (Want l id) = omega arith
written_long (Area l at size) = omega arith
written_long (Top l) = omega arith
written_long (Sub l id) = omega arith
written_long (Modal l) = omega arith
written_long (End ps) = omega (arith, length-append (flat_map place ps) (codes ")"))
written_long (Hit at) = omega arith
written_long Focus = omega arith

pub shortest : (line : List ℕ) (f : Form) → form_of line ≡ Some f → 5 ≤ length line
shortest line f e = omega (arith, ap length (form_takes line f e).0, written_long f)
