use Rattle.std.proofs.Common.{sym, ◌∙◌, inr}
use Rattle.wgsl_shader_type.specs.declared.error.Error.TheVariants.{Binary}
use Rattle.wgsl_type_operators.proofs.Candidates.{none_found}
use Rattle.wgsl_type_operators.proofs.operator.type_binary_op.Goals as goal

pub returns-in_ok-right-in-None : goal.returns-in_ok-right-in-None
returns-in_ok-right-in-None c = inr (
  λ i. Binary c.args.operator (c.in_ok-left-in-None.ensures i) (c.in_ok-right-in-None.ensures i),
  none_found c.args.operator c.args.left.now c.args.right.now (sym c.in-None.is ∙ c.in_ok-given.ensures),
)
