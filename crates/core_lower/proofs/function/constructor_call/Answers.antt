use Rattle.std.proofs.Common.{◌∙◌, ap, sym, Ok}
use Rattle.core_syntax.specs.declared.expression.Expression.TheVariants.{FunctionCall}
use Rattle.core_lower_expressions.proofs.Parts.{constructor_is}
use Rattle.core_lower.proofs.function.constructor_call.Goals as goal

pub returns : goal.returns
returns c =
    ap Ok (sym (constructor_is c.in_ok-new-2.field-0 (record { ty = c.in_ok-clone_in-2.field-0; arguments = c.push.new.self }) c.args.ty.now c.new-arguments.result _ c.args.node.now
    (ap (λ n. n.node) c.in_ok-new-2.ensures ∙ ap FunctionCall c.in_ok-new.ensures) c.in_ok-clone_in-2.ensures c.new-arguments.ensures c.in_ok-push.ensures.ok c.in_ok-clone_in.ensures))
