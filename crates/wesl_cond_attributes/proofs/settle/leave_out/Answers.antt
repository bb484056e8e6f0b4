use Rattle.std.proofs.Common.{rules, ap, ◌∙◌}
use Rattle.std.proofs.lemmas.Fn.{filter_same}
use Rattle.wgsl_expressions.specs.AttributesView.{attributes_tree}
use Rattle.wesl_cond_attributes.proofs.Rewriting.{left_out}
use Rattle.wesl_cond_attributes.proofs.settle.leave_out.Goals as goal

pub returns : goal.returns
returns c = ap attributes_tree (filter_same _ _ _ (λ x b f' k. search rules) _ _ c.retain.ensures) ∙ left_out c.args.attributes.now
