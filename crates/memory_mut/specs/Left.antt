-- What a call by `&mut` has left: the memory as it then is, and the number by which the call was refused. Definitions only.
use Rattle.std.specs.Prelude.{Result}
use Rattle.refusal.specs.declared.Refusal.{Refusal}
use Rattle.refusal.specs.Refusal.{number_in}
use Rattle.memory_rules.specs.declared.Memory.{Memory}
use Rattle.memory_rules.specs.State.{Done}

abbrev pub left : {A : Type 0} → Memory → Result A Refusal → Done
left m answer = record { memory = m; refusal = number_in answer }
