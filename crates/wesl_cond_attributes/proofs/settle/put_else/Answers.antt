use Rattle.std.proofs.Common.{rules}
use Rattle.std.specs.Prelude.{if◌then◌else◌}
use Rattle.wgsl_expressions.specs.AttributesTree.{otherwise}
use Rattle.wgsl_expressions.specs.AttributesView.{attribute_tree}
use Rattle.wesl_conditions.specs.Chains.{is_condition}
use Rattle.wesl_cond_attributes.proofs.Rewriting.{turned}
use Rattle.wesl_cond_attributes.proofs.settle.put_else.Goals as goal

pub returns : goal.returns
returns c =
    turned (λ n. attribute_tree n.node) (λ a. if is_condition a then otherwise else a) _ (λ s. Unit)
    (λ s x b t y fit r. (tt, search rules, search rules)) _ tt _ _ c.retain_mut.ensures
