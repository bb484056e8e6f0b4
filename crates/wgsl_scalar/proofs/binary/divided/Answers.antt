use Rattle.std.proofs.Common.{◌∙◌, ap}
use Rattle.wgsl_scalar.specs.Operators.{exact, divides}
use Rattle.wgsl_scalar.proofs.Widened.{chosen, divides_held, held_quotient}
use Rattle.wgsl_scalar.proofs.binary.divided.Goals as goal

pub returns-then-divides : goal.returns-then-divides
returns-then-divides c =
    chosen (divides c.args.ty c.args.a c.args.b) _ _ _
    (divides_held c.args.ty c.args.a c.args.b c.divides.result c.requires.a_in c.requires.b_in c.divides.ensures c.if-divides.true)
    (c.exact.ensures ∙ ap (exact c.args.stage c.args.ty) (held_quotient c.args.a c.args.b c.requires.a_in c.requires.b_in))
