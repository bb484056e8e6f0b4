use Rattle.std.proofs.Common.{◌∙◌, ap, ◌++◌, ◌∷◌, []}
use Rattle.core_syntax.specs.View.{tree}
use Rattle.core_syntax.specs.declared.expression.Expression.TheVariants.{FunctionCall}
use Rattle.core_written.proofs.Trees.{least_signed_is}
use Rattle.core_written.proofs.write.least_signed.Goals as goal

pub returns : goal.returns
returns c =
    ap (λ x. tree (FunctionCall x)) c.in_ok-call.ensures
    ∙ least_signed_is c.new-ident.result c.push.new.self c.in_ok-argument.argument c.in_ok-new.field-0 c.abstract_literal.result
    (ap (λ i. i.name) c.new-ident.ensures ∙ c.in_ok-from_str.ensures)
    (c.in_ok-push.ensures.ok ∙ ap (λ l. l ++ c.in_ok-new.field-0 ∷ []) c.new-arguments.ensures)
    (ap (λ n. n.node) c.in_ok-new.ensures)
    c.in_ok-argument.ensures c.abstract_literal.ensures
