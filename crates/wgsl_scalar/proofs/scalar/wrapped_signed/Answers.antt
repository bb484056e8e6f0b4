use Rattle.std.proofs.Common.{◌∙◌, ap, unsigned_abs, pos}
use Rattle.std.specs.Int.{w32, w128, int_rem_euclid}
use Rattle.std.proofs.lemmas.Int.{to_z-of_z}
use Rattle.wgsl_scalar.proofs.Widened.{wraps_so}
use Rattle.wgsl_scalar.proofs.scalar.wrapped_signed.Goals as goal

pub returns : goal.returns
returns c =
    to_z-of_z w32 c.cast_signed.result (record { sfits = c.cast_signed.type_inv })
    ∙ c.cast_signed.ensures
    ∙ wraps_so c.wrapped_unsigned.result c.args.z (c.wrapped_unsigned.ensures ∙ ap (λ x. unsigned_abs (int_rem_euclid x (pos 4294967296))) (to_z-of_z w128 c.args.z c.ranges.z))
