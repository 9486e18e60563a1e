-- A form that carries no list leaves the lists as they may be. Assumes nothing.
use Rattle.std.proofs.Common.{◌≡◌, ℕ, List, Option, Some, None, sym, subst}
use Rattle.forms.specs.Form.{Form, Begin, Want, Area, Top, Sub, Modal, End, Hit, Focus}
use Rattle.requests.specs.declared.Request.{Request}
use Rattle.requests.specs.declared.Lists.{Lists}
use Rattle.requests.specs.Asked.{Holds}
use Rattle.requests.specs.Readers.{Reads, CarriesNoList, ReadsPlain}

holds_any : (lists : Lists) (f : Form) → CarriesNoList f → Holds lists f
holds_any lists (Begin es) h = absurd h
holds_any lists (Want l id) h = tt
holds_any lists (Area l at size) h = tt
holds_any lists (Top l) h = tt
holds_any lists (Sub parent child) h = tt
holds_any lists (Modal l) h = tt
holds_any lists (End ps) h = absurd h
holds_any lists (Hit at) h = tt
holds_any lists Focus h = tt

plain_reads : (given : Option (Request × List ℕ)) (lists : Lists) (read : Option (Form × List ℕ)) → ReadsPlain given read → Reads given lists read
plain_reads given lists (Some f) h = (h.0, holds_any lists f.0 h.1)
plain_reads given lists None h = h

-- a line by what its word reads
pub reads_list : (form read : Option (Form × List ℕ)) → form ≡ read → (given : Option (Request × List ℕ)) (lists : Lists) → Reads given lists read → Reads given lists form
reads_list form read e given lists h = subst (λ (r : Option (Form × List ℕ)). Reads given lists r) (sym e) h

pub reads_plain : (form read : Option (Form × List ℕ)) → form ≡ read → (given : Option (Request × List ℕ)) (lists : Lists) → ReadsPlain given read → Reads given lists form
reads_plain form read e given lists h = reads_list form read e given lists (plain_reads given lists read h)
