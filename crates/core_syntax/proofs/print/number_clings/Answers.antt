use Rattle.std.proofs.Common.{◌^◌, ◌<◌, arith, w64}
use Rattle.std.specs.Int.Signed.{mag}
use Rattle.std.proofs.Math.Facts.{to_z-of_z}
use Rattle.core_syntax.proofs.Clinging.{minus_clings, others_cling}
use Rattle.core_syntax.proofs.print.number_clings.Goals as goal

pub returns-in-Negation : goal.returns-in-Negation
returns-in-Negation c =
    let small : mag c.args.n < 2 ^ 64 = omega (arith, c.ranges.n.sfits) in
    rw (c.in-Negation.is, to_z-of_z {w = w64} c.ranges.n) (minus_clings c.args.n small)

pub returns-in_default : goal.returns-in_default
returns-in_default c =
    let small : mag c.args.n < 2 ^ 64 = omega (arith, c.ranges.n.sfits) in
    others_cling c.args.operator c.args.n small c.in_default.not-Negation
