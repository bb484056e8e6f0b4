use Rattle.std.proofs.Common.{sym}
use Rattle.wgsl_lex.proofs.Floats.{led_some, led_stem, longer_stem, whole_stem}
use Rattle.wgsl_lex.proofs.number.number.Goals as goal

pub float_number-requires-clause-some : goal.float_number-requires-clause-some
float_number-requires-clause-some c = led_some _ _ _ _ c.requires.whole c.requires.opens (sym c.if-not-is_ascii_digit.ensures.value) c.longest_float-float.ensures

pub float_number-requires-clause-stem : goal.float_number-requires-clause-stem
float_number-requires-clause-stem c = led_stem _ _ _ _ c.requires.whole c.requires.opens (sym c.if-not-is_ascii_digit.ensures.value) c.longest_float-float.ensures

pub float_number-requires-then-float-whole-clause-stem : goal.float_number-requires-then-float-whole-clause-stem
float_number-requires-then-float-whole-clause-stem c = longer_stem _ _ _ _ _ _ c.requires.whole c.unsuffixed-whole.ensures.longest c.longest_float-float.ensures c.if-float-whole.true

pub whole_number-requires-clause-stem : goal.whole_number-requires-clause-stem
whole_number-requires-clause-stem c = whole_stem _ _ _ _ _ _ c.requires.whole (sym c.if-not-is_ascii_digit.ensures.value) c.unsuffixed-whole.ensures.within c.unsuffixed-whole.ensures.longest c.longest_float-float.ensures c.if-float-whole.false
