use Rattle.std.proofs.Common.{◌∷◌, ◌∙◌, ap}
use Rattle.wgsl_lex.specs.Floats.{is_point}
use Rattle.wgsl_lex.specs.Pieces.{fraction, no_fraction}
use Rattle.wgsl_lex.proofs.Floats.{begins_nothing, other_first}
use Rattle.wgsl_lex.proofs.float.fraction_length.Goals as goal

pub returns-in_default : goal.returns-in_default
returns-in_default c = no_fraction (begins_nothing is_point _ c.in_default.ensures.cases)

pub returns-then-point-ne46 : goal.returns-then-point-ne46
returns-then-point-ne46 c = no_fraction (other_first _ _ _ c.in-Some.ensures.cases.0 c.if-point-ne46.true)

pub returns : goal.returns
returns c = fraction (c.in-Some.ensures.cases.0 ∙ ap (λ x. x ∷ c.in-Some.behind.now) c.if-point-ne46.false) c.digit_run.ensures
