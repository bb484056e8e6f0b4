use Rattle.std.proofs.Common.{◌≡◌, refl, sym, ap, ◌∙◌, ◌+◌, List, [], ◌∷◌, ◌++◌, drop, map, Ok, Err, drop-cons, add-one, append_assoc}
use Rattle.std.proofs.lemmas.List.{map-append}
use Rattle.core_syntax.specs.Tree.{Param}
use Rattle.core_syntax.specs.View.{parameter_tree}
use Rattle.core_meaning.specs.Values.{Checked, and_then}
use Rattle.core_eval.specs.Scopes.{scope_of}
use Rattle.core_lower_expressions.specs.Computed.{prepended, lowered_parameters}
use Rattle.core_lower.proofs.function.lowered_parameters.Goals as goal

one_more : (xs : List Param) (y : Param) (r : Checked (List Param)) → prepended (xs ++ y ∷ []) r ≡ prepended xs (and_then r (λ ys. Ok (y ∷ ys)))
one_more xs y (Ok ys) = ap Ok (append_assoc xs (y ∷ []) ys)
one_more xs y (Err e) = refl

pub loop-parameter-preserved : goal.loop-parameter-preserved
loop-parameter-preserved c =
    let s = scope_of c.args.scope.now in
    let ps = c.args.parameters.now in
    let i = c.loop-parameter.parameter-index in
    let p = c.parameter-item.result in
    let q = c.in_ok-lowered_parameter.field-0 in
    let done = map parameter_tree c.loop-parameter.done in
    let left = lowered_parameters s (map parameter_tree (drop (i + 1) ps)) in
    let front : drop i ps ≡ p ∷ drop (i + 1) ps
    = drop-cons ps i p c.loop-parameter-test.true ∙ (λ k. sym c.parameter-item.is k ∷ drop (sym (add-one i) k) ps) in
    ap (λ l. prepended (map parameter_tree l) left) c.in_ok-push.ensures.ok
    ∙ ap (λ l. prepended l left) (map-append parameter_tree c.loop-parameter.done (q ∷ []))
    ∙ one_more done (parameter_tree q) left
    ∙ sym (ap (λ o. prepended done (and_then o (λ d. and_then left (λ ds. Ok (d ∷ ds))))) c.in_ok-lowered_parameter.ensures)
    ∙ sym (ap (λ l. prepended done (lowered_parameters s (map parameter_tree l))) front)
    ∙ c.loop-parameter.invariant
