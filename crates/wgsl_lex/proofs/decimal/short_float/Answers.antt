use Rattle.std.proofs.Common.{◌∷◌, ◌∙◌, ap, sym}
use Rattle.wgsl_lex.proofs.Plain.{short_float_is}
use Rattle.wgsl_lex.proofs.decimal.short_float.Goals as goal

pub returns : goal.returns
returns c =
    short_float_is _ _ _ _ _ _ _ _ (sym c.if-not-is_ascii_digit.ensures.value) c.decimal_run-count.ensures c.split_at.ensures.back (c.in-Some.ensures.cases.0 ∙ ap (λ x. x ∷ c.in-Some.tail.now) c.if-point-ne46.false) c.decimal_run.ensures
    c.split_at-2.ensures.front c.split_at-2.ensures.back (sym c.if-may_go_on.ensures) _ c.in_ok-text_of.ensures
