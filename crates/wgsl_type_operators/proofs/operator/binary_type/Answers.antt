use Rattle.std.proofs.Common.{◌≡◌, sym, ap, ◌∙◌, subst, IfOk, cond, None}
use Rattle.wgsl_type_operators.specs.ResultOf.{component, in_vector, binary_result}
use Rattle.wgsl_type_operators.proofs.Shapes.{binary_of_vector_left}
use Rattle.wgsl_type_operators.proofs.operator.binary_type.Goals as goal

pub returns-in_ok-found-in_default-right : goal.returns-in_ok-found-in_default-right
returns-in_ok-found-in_default-right c =
    let operator = c.args.operator in
    let right = c.args.right.now in
    let n = c.in-Vec.count in
    let by_shape =
    ap (λ t. binary_result operator t right) c.in-Vec.is
    ∙ binary_of_vector_left operator n c.in-Vec.component right c.in_default-right.not-Vec
    ∙ ap (λ b. cond b (in_vector n (component operator c.in-Vec.component right)) None) (sym c.is_arithmetic.ensures ∙ c.if-not-is_arithmetic.false)
    ∙ ap (in_vector n) (ap (λ t. component operator t right) (sym c.get-in_default-right.ensures) ∙ sym c.in_ok-found-in_default-right.ensures) in
    subst (λ o. IfOk c.in_vector-in_default-right.result (λ found. found ≡ o)) (sym by_shape) c.in_vector-in_default-right.ensures
