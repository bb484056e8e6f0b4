use Rattle.std.proofs.Common.{◌∙◌, ap, sym}
use Rattle.std.specs.Prelude.{is_some}
use Rattle.wgsl_scalar.specs.Scalars.{fits}
use Rattle.wgsl_scalar.proofs.Widened.{divides_at, held_quotient, is_some-if}
use Rattle.wgsl_scalar.proofs.binary.divides.Goals as goal

pub returns-then-b-ne0 : goal.returns-then-b-ne0
returns-then-b-ne0 c =
    c.is_some.ensures ∙ ap is_some c.value_at.ensures ∙ is_some-if _ _
    ∙ ap (fits c.args.ty) (held_quotient c.args.a c.args.b c.requires.a_in c.requires.b_in)
    ∙ sym (divides_at c.args.ty c.args.a c.args.b c.if-b-ne0.true)
