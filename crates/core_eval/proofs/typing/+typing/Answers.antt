use Rattle.std.proofs.Common.{ap, sym, ◌∙◌, subst, map}
use Rattle.core_syntax.specs.Tree.{exps}
use Rattle.core_syntax.specs.View.{tree, node_tree, type_tree, call_layer}
use Rattle.core_syntax.proofs.Trees.{tree_of_call}
use Rattle.core_meaning.specs.Meaning.{typed, all_typed, called_or}
use Rattle.core_meaning.specs.Names.{find}
use Rattle.core_meaning.specs.ConstStage.{stage}
use Rattle.core_eval.specs.Ends.{Ends}
use Rattle.core_eval.specs.Scopes.{scope_of}
use Rattle.core_eval.proofs.Lists.{called_typed}
use Rattle.core_eval.proofs.typing.+typing.Goals as goal

pub eval_ty-returns-in-FunctionCall : goal.eval_ty-returns-in-FunctionCall
eval_ty-returns-in-FunctionCall t c =
    let same = ap tree c.in-FunctionCall.is ∙ tree_of_call c.in-FunctionCall.x ∙ ap (call_layer tree) (sym c.get.ensures) in
    subst (λ e. Ends (typed (stage (scope_of c.args.scope.now)) c.args.scope.now.parameters.now e) c.typed_call.result) (sym same) c.typed_call.ensures

pub typed_call-returns : goal.typed_call-returns
typed_call-returns t c =
    let w = stage (scope_of c.args.scope.now) in
    called_typed w c.args.scope.now.parameters.now (type_tree c.args.x.now.ty) (exps (map node_tree c.args.x.now.arguments)) c.in_ok-arguments.arguments c.in_ok-name.name.now c.call_type.result
    (ap (λ l. all_typed w c.args.scope.now.parameters.now (exps (map node_tree l))) (sym c.as_slice.ensures) ∙ c.in_ok-arguments.ensures)
    c.in_ok-name.ensures
    (subst (λ l. Ends (called_or c.in_ok-name.name.now (find c.in_ok-name.name.now c.args.scope.now.parameters.now) (w.result_type c.in_ok-name.name.now l)) c.call_type.result) c.as_slice-2.ensures c.call_type.ensures)
