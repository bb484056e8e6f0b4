use Rattle.std.proofs.Common.{sym, ap, ◌∙◌, ◌+◌, drop}
use Rattle.std.proofs.lemmas.List.{drop_more}
use Rattle.core_eval.specs.Start.{all_valued, then_more}
use Rattle.core_eval.specs.Scopes.{decls}
use Rattle.core_eval.proofs.start.values_of.Goals as goal

pub loop-position-preserved : goal.loop-position-preserved
loop-position-preserved c h =
    let ds = decls c.args.nodes.now in
    let was = c.loop-position.invariant h in
    let more = c.in_ok-push_value_at.ensures was.0 h was.1 in
    let step = drop_more c.args.order.now c.loop-position.position-index 0 c.loop-position-test.true in
    (more.0, more.2, sym (ap (all_valued ds was.0) step ∙ ap (λ o. then_more o (λ cs. all_valued ds cs (drop (c.loop-position.position-index + 1) c.args.order.now))) more.1) ∙ was.2)
