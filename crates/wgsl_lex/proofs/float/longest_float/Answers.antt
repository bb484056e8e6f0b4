use Rattle.wgsl_lex.proofs.Floats.{decimal_front, hexadecimal_some, hexadecimal_none}
use Rattle.wgsl_lex.proofs.float.longest_float.Goals as goal

pub returns-in_default : goal.returns-in_default
returns-in_default c = decimal_front _ _ c.in_default.ensures c.longest_of-float.ensures

pub returns-then-float-eq0 : goal.returns-then-float-eq0
returns-then-float-eq0 c = hexadecimal_none _ _ _ c.in-Some.ensures c.longest_of-float-2.ensures c.if-float-eq0.true

pub returns : goal.returns
returns c = hexadecimal_some _ _ _ c.in-Some.ensures c.longest_of-float-2.ensures c.if-float-eq0.false
