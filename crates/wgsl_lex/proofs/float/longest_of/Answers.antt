use Rattle.std.proofs.Common.{sym}
use Rattle.wgsl_lex.proofs.Floats.{float_made, no_float_made}
use Rattle.wgsl_lex.proofs.float.longest_of.Goals as goal

pub returns-then-not-is_float : goal.returns-then-not-is_float
returns-then-not-is_float c = no_float_made _ _ _ _ _ _ _ c.digit_run-whole.ensures c.split_at.ensures.back c.fraction_length-fraction.ensures c.split_at-2.ensures.back c.exponent_length-exponent.ensures (sym c.if-not-is_float.ensures)

pub returns : goal.returns
returns c = float_made _ _ _ _ _ _ _ c.digit_run-whole.ensures c.split_at.ensures.back c.fraction_length-fraction.ensures c.split_at-2.ensures.back c.exponent_length-exponent.ensures (sym c.if-not-is_float.ensures)
