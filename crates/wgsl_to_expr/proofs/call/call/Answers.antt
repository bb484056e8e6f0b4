use Rattle.std.proofs.Common.{ap, ◌∙◌}
use Rattle.wgsl_to_expr.proofs.Trees.{call_is}
use Rattle.wgsl_to_expr.proofs.call.call.Goals as goal

pub returns : goal.returns
returns c = call_is _ _ _ _ _ c.in_ok-call.ensures c.new-ty.ensures (ap (λ i. i.name) c.new.ensures ∙ c.in_ok-name.ensures)
