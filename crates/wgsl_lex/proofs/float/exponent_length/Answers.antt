use Rattle.std.proofs.Common.{sym}
use Rattle.wgsl_lex.proofs.Floats.{exponent_some, exponent_none}
use Rattle.wgsl_lex.proofs.float.exponent_length.Goals as goal

pub returns-then-count-eq0 : goal.returns-then-count-eq0
returns-then-count-eq0 c = exponent_none _ _ _ _ _ _ _ c.in-Some.ensures.cases.0 (sym c.if-not-marks_exponent.ensures) c.sign_length-sign.ensures c.split_at.ensures.back c.decimal_run-count.ensures c.if-count-eq0.true

pub returns : goal.returns
returns c = exponent_some _ _ _ _ _ _ _ c.in-Some.ensures.cases.0 (sym c.if-not-marks_exponent.ensures) c.sign_length-sign.ensures c.split_at.ensures.back c.decimal_run-count.ensures c.if-count-eq0.false
