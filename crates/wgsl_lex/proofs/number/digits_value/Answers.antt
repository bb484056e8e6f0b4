use Rattle.std.proofs.Common.{arith, ◌+◌, ◌*◌, ◌<◌, ◌^◌}
use Rattle.wgsl_lex.specs.Tokens.{digit_value}
use Rattle.wgsl_lex.proofs.Numbers.{value_past}
use Rattle.wgsl_lex.proofs.number.digits_value.Goals as goal

pub returns-in_err-checked_mul : goal.returns-in_err-checked_mul
returns-in_err-checked_mul c =
    let past : c.loop-digit.value * c.args.base + digit_value c.digit-item.result < 2 ^ 64 → ⊥ = λ h. c.in_err-checked_mul.ensures (omega arith) in
    value_past _ _ _ _ _ _ _ c.loop-digit.invariant c.loop-digit-test.true c.digit-item.is c.requires past c.from_residual.ensures

pub returns-in_err-value : goal.returns-in_err-value
returns-in_err-value c =
    let past : c.loop-digit.value * c.args.base + digit_value c.digit-item.result < 2 ^ 64 → ⊥ =
    λ h. c.in_err-value.ensures (omega (arith, c.in_ok-checked_mul.ensures.1, c.digit_value.ensures))
    in
    value_past _ _ _ _ _ _ _ c.loop-digit.invariant c.loop-digit-test.true c.digit-item.is c.requires past c.from_residual-in_err-value.ensures
