use Rattle.std.proofs.Common.{subst, ap, ◌∙◌}
use Rattle.core_syntax.specs.View.{unit_tree}
use Rattle.core_eval.specs.Refusals.{Answers}
use Rattle.core_eval.specs.Scopes.{decls, outside, Declares}
use Rattle.core_eval.specs.Start.{consts_of}
use Rattle.core_eval.specs.Starts.{HoldsThese}
use Rattle.core_lower_expressions.specs.Computed.{lowered_under}
use Rattle.core_lower.proofs.Tables.{lowered_with_tables}
use Rattle.core_lower.proofs.unit.lowered_after.Goals as goal

pub returns : goal.returns
returns c =
    let u = unit_tree c.args.unit.now in
    let declarations = c.in_ok-declarations.field-0.declarations in
    let consts = c.in_ok-declarations.field-0.consts in
    let same = c.as_slice-nodes.ensures in
    subst (λ o. Answers unit_tree o c.lowered_under.result)
    (ap (λ ns. lowered_under (outside declarations consts) (decls ns)) same
    ∙ lowered_with_tables u c.args.order.now declarations consts (subst (λ ns. Declares declarations (decls ns)) same c.in_ok-declarations.ensures.declares)
    (subst (λ ns. HoldsThese consts (consts_of (decls ns) c.args.order.now)) same c.in_ok-declarations.ensures.starts))
    c.lowered_under.ensures
