use Rattle.std.proofs.Common.{ap, sym, ◌∙◌, subst, map, []}
use Rattle.core_syntax.specs.Tree.{exps}
use Rattle.core_syntax.specs.View.{tree, node_tree, type_tree, call_layer}
use Rattle.core_syntax.proofs.Trees.{tree_of_call}
use Rattle.core_meaning.specs.Meaning.{value, values}
use Rattle.core_meaning.specs.ConstStage.{stage}
use Rattle.core_eval.specs.Ends.{Ends}
use Rattle.core_eval.specs.Scopes.{scope_of}
use Rattle.core_eval.proofs.Lists.{called}
use Rattle.core_eval.proofs.evaluate.+evaluating.Goals as goal

pub eval_value-returns-in-FunctionCall : goal.eval_value-returns-in-FunctionCall
eval_value-returns-in-FunctionCall t c =
    let same = ap tree c.in-FunctionCall.is ∙ tree_of_call c.in-FunctionCall.x ∙ ap (call_layer tree) (sym c.get.ensures) in
    subst (λ e. Ends (value (stage (scope_of c.args.scope.now)) [] e) c.call_value.result) (sym same) c.call_value.ensures

pub call_value-returns : goal.call_value-returns
call_value-returns t c =
    let w = stage (scope_of c.args.scope.now) in
    called w (type_tree c.args.x.now.ty) (exps (map node_tree c.args.x.now.arguments)) c.in_ok-arguments.arguments c.in_ok-name.name.now c.call.result
    (ap (λ l. values w [] (exps (map node_tree l))) (sym c.as_slice.ensures) ∙ c.in_ok-arguments.ensures)
    c.in_ok-name.ensures
    (subst (λ l. Ends (w.result_of c.in_ok-name.name.now l) c.call.result) c.as_slice-2.ensures c.call.ensures)
