use Rattle.std.proofs.Common.{◌≡◌, sym, ap, ◌∙◌}
use Rattle.std.specs.Prelude.{if◌then◌else◌}
use Rattle.wgsl_expressions.specs.AttributesView.{attributes_tree}
use Rattle.wesl_conditions.specs.Chains.{marks}
use Rattle.wesl_conditions.specs.Walks.{chain_at}
use Rattle.wesl_cond_attributes.specs.declared.kind.Outlook.TheVariants.{Goes}
use Rattle.wesl_cond_attributes.specs.Kinds.{chain_before, first_value, kind_outlook}
use Rattle.wesl_cond_attributes.proofs.Facts.{chain_by, outlook_there, waits_left}
use Rattle.wesl_cond_attributes.proofs.settle.settle_attributes.Goals as goal

pub returns-in-Waits-clause-attributes : goal.returns-in-Waits-clause-attributes
returns-in-Waits-clause-attributes c =
    let ms = marks (attributes_tree c.args.attributes.now) in
    let f = c.args.features.now in
    let before : c.chain_at-before.result ≡ chain_at c.args.chain.now ms =
    c.chain_at-before.ensures ∙ ap (chain_before c.args.chain.now) c.kind_of-kind.ensures ∙ chain_by c.args.chain.now ms in
    c.reopen.ensures
    ∙ waits_left f c.args.chain.now (attributes_tree c.args.attributes.now) c.chain_at-before.result.is_waiting
    (sym (outlook_there f c.args.chain.now ms)
    ∙ (λ i. if (sym before i).is_decided then Goes else kind_outlook (sym c.kind_of-kind.ensures i) (first_value f ms))
    ∙ sym c.outlook_in-outlook.ensures ∙ c.in-Waits.is)
    (λ i. (before i).is_waiting)
