-- Calls and names.
use Rattle.std.proofs.Common.{rules, arith, sym, ◌∙◌}
use Rattle.std.proofs.lemmas.Grind.{common_steps}
use Rattle.wesl_mark.specs.Lists.{flats}
use Rattle.wesl_marks.proofs.Steps.{of_binary, of_call, of_named, if_ok, grown}
use Rattle.wesl_marks.proofs.expressions.+expressions.Goals as goal

pub mark_expression-returns-in-FunctionCall-clause-flats : goal.mark_expression-returns-in-FunctionCall-clause-flats
mark_expression-returns-in-FunctionCall-clause-flats t c = if_ok c.mark_call.result (of_call (flats c.args.list.now) (flats c.mark_call.new.list) c.args.node.now.node c.in-FunctionCall.x c.get.result.now (sym c.node.ensures ∙ c.in-FunctionCall.is) c.get.ensures) c.mark_call.ensures.flats

pub mark_expression-returns-in-TypeOrIdentifier-clause-flats : goal.mark_expression-returns-in-TypeOrIdentifier-clause-flats
mark_expression-returns-in-TypeOrIdentifier-clause-flats t c = if_ok c.mark_type.result (of_named (flats c.args.list.now) (flats c.mark_type.new.list) c.args.node.now.node c.in-TypeOrIdentifier.x (sym c.node.ensures ∙ c.in-TypeOrIdentifier.is)) c.mark_type.ensures.flats

pub mark_expression-returns-in_ok-mark_expression-in-Indexing-clause-grows : goal.mark_expression-returns-in_ok-mark_expression-in-Indexing-clause-grows
mark_expression-returns-in_ok-mark_expression-in-Indexing-clause-grows t c = grown c.mark_expression-in-Indexing-2.result _ _ _ (λ first h. c.in_ok-mark_expression-in-Indexing.ensures.grows first h) c.mark_expression-in-Indexing-2.ensures.grows

pub mark_expression-returns-in_ok-mark_expression-in-Binary-clause-flats : goal.mark_expression-returns-in_ok-mark_expression-in-Binary-clause-flats
mark_expression-returns-in_ok-mark_expression-in-Binary-clause-flats t c =
    if_ok c.mark_expression-in-Binary-2.result (of_binary (flats c.args.list.now) (flats c.mark_expression-in-Binary.new.list) (flats c.mark_expression-in-Binary-2.new.list) c.args.node.now.node c.in-Binary.x (sym c.node.ensures ∙ c.in-Binary.is) c.in_ok-mark_expression-in-Binary.ensures.flats)
    c.mark_expression-in-Binary-2.ensures.flats

pub mark_expression-returns-in_ok-mark_expression-in-Binary-clause-grows : goal.mark_expression-returns-in_ok-mark_expression-in-Binary-clause-grows
mark_expression-returns-in_ok-mark_expression-in-Binary-clause-grows t c = grown c.mark_expression-in-Binary-2.result _ _ _ (λ first h. c.in_ok-mark_expression-in-Binary.ensures.grows first h) c.mark_expression-in-Binary-2.ensures.grows

pub mark_call-returns-clause-grows : goal.mark_call-returns-clause-grows
mark_call-returns-clause-grows t c = grown c.mark_expressions.result _ _ _ (λ first h. c.in_ok-mark_type.ensures.grows first h) c.mark_expressions.ensures.grows

pub mark_expressions-loop-node-preserved : goal.mark_expressions-loop-node-preserved
mark_expressions-loop-node-preserved t c = (first_of (search rules, grind (arith, common_steps)), λ first h. c.in_ok-mark_expression.ensures.grows first (c.loop-node.invariant.1 first h))

pub mark_type-loop-argument-preserved : goal.mark_type-loop-argument-preserved
mark_type-loop-argument-preserved t c = (first_of (search rules, grind (arith, common_steps)), λ first h. c.in_ok-mark_expression-in-Some.ensures.grows first (c.loop-argument.invariant.1 first h))

pub mark_type-returns-after-loop-argument-clause-grows : goal.mark_type-returns-after-loop-argument-clause-grows
mark_type-returns-after-loop-argument-clause-grows t c first h = c.loop-argument.invariant.1 first (c.in_ok-occurs-in-Some.ensures.grows first h)
