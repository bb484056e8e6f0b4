use Rattle.std.proofs.Common.{rules, ◌≡◌, refl}
use Rattle.wgsl_expressions.specs.AttributesView.{attribute_tree}
use Rattle.wesl_cond_attributes.specs.Kinds.{reopened}
use Rattle.wesl_cond_attributes.proofs.Rewriting.{turned}
use Rattle.wesl_cond_attributes.proofs.settle.reopen.Goals as goal

pub returns : goal.returns
returns c =
    turned (λ n. attribute_tree n.node) (reopened c.args.waiting c.args.features.now) _ (λ s. (s.0 ≡ c.args.waiting) × (s.1.now ≡ c.args.features.now))
    (λ s x b t y fit r. (search rules, search rules, search rules)) _ (refl, refl) _ _ c.retain_mut.ensures
