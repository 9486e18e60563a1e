-- `vec2::steps` meets its contract (Sized.antt). Assumes nothing.
use Rattle.std.proofs.Common.{◌∙◌}
use lib.Ieee.{of_bits}
use Rattle.grid.proofs.Accepted.{within_count}
use Rattle.vec2.proofs.Sized.{few, asks, answer}
use Rattle.vec2.proofs.steps.Goals as goal

pub truncating_f32_to_u64-requires : goal.truncating_f32_to_u64-requires
unfolding of_bits
truncating_f32_to_u64-requires c =
    let t = within_count 64 32768 c.args.x c.requires in
    let a = asks c.args.x t.0 t.1 t.2 c.magnitude.result c.magnitude.ensures in
    record { lower_bound = a.0; upper_bound = a.1 }

pub returns : goal.returns
unfolding of_bits
returns c z p =
    c.truncating_f32_to_u64.ensures ∙ answer c.args.x z p (few c.args.x c.requires z p) c.magnitude.result c.magnitude.ensures
