use Rattle.std.proofs.Common.{◌≡◌, true, false, refl, sym}
use Rattle.wgsl_lex.proofs.Plain.{plain_number, signed_number, unsigned_number}
use Rattle.wgsl_lex.proofs.decimal.short_number.Goals as goal

pub returns-then-is_at : goal.returns-then-is_at
returns-then-is_at c =
    unsigned_number _ _ _ _ _ _ _ (sym c.if-not-is_ascii_digit.ensures.value) c.decimal_run-count.ensures c.split_at.ensures.front c.split_at.ensures.back (sym c.if-may_go_on.ensures) c.digit_value.ensures c.digits_value-value.ensures _ (c.if-is_at.ensures.0 refl) c.unsigned_token-token.ensures

pub returns-then-is_at-2 : goal.returns-then-is_at-2
returns-then-is_at-2 c =
    signed_number _ _ _ _ _ _ _ (sym c.if-not-is_ascii_digit.ensures.value) c.decimal_run-count.ensures c.split_at.ensures.front c.split_at.ensures.back (sym c.if-may_go_on.ensures) c.digit_value.ensures c.digits_value-value.ensures _ (c.if-is_at-2.ensures.0 refl) c.signed_token-token.ensures

pub returns : goal.returns
returns c =
    plain_number _ _ _ _ _ _ _ (sym c.if-not-is_ascii_digit.ensures.value) c.decimal_run-count.ensures c.split_at.ensures.front c.split_at.ensures.back (sym c.if-may_go_on.ensures) c.digit_value.ensures c.digits_value-value.ensures _
    (λ e. let h : false ≡ true = c.if-is_at-2.ensures.1 e in cc) (λ e. let h : false ≡ true = c.if-is_at.ensures.1 e in cc) c.abstract_token-token.ensures
