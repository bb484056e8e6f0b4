use Rattle.std.proofs.Common.{◌∙◌, ap, sym}
use Rattle.wgsl_type_operators.specs.Error.TheVariants.{SubOverflow, MulOverflow}
use Rattle.wgsl_scalar.specs.Operators.{of_numbers, exact, or_error}
use Rattle.wgsl_scalar.proofs.Widened.{held_difference, held_product}
use Rattle.wgsl_scalar.proofs.binary.of_numbers.Goals as goal

pub returns-in-Subtraction : goal.returns-in-Subtraction
returns-in-Subtraction c =
    c.or_error-in-Subtraction.ensures ∙ ap (λ v. or_error v SubOverflow) c.exact-in-Subtraction.ensures
    ∙ ap (λ z. or_error (exact c.args.stage c.args.ty z) SubOverflow) (held_difference c.args.a c.args.b c.requires.a_in c.requires.b_in)
    ∙ ap (λ o. of_numbers c.args.stage o c.args.ty c.args.a c.args.b) (sym c.in-Subtraction.is)

pub returns-in-Multiplication : goal.returns-in-Multiplication
returns-in-Multiplication c =
    c.or_error-in-Multiplication.ensures ∙ ap (λ v. or_error v MulOverflow) c.exact-in-Multiplication.ensures
    ∙ ap (λ z. or_error (exact c.args.stage c.args.ty z) MulOverflow) (held_product c.args.a c.args.b c.requires.a_in c.requires.b_in)
    ∙ ap (λ o. of_numbers c.args.stage o c.args.ty c.args.a c.args.b) (sym c.in-Multiplication.is)
