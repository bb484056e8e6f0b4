use Rattle.wgsl_templates.proofs.Starts.{starts_empty, starts_less, starts_other}
use Rattle.wgsl_templates.proofs.reading.lexer.starts_list.Goals as goal

pub returns-in_default : goal.returns-in_default
returns-in_default c = starts_empty _ c.in_default.ensures.cases

pub returns-then-not-branch : goal.returns-then-not-branch
returns-then-not-branch c = starts_other _ _ _ c.in-Some.ensures.cases.0 _ c.in_ok-begins_with_less.ensures c.if-not-branch.true

pub returns : goal.returns
returns c = starts_less _ _ _ c.in-Some.ensures.cases.0 _ c.in_ok-begins_with_less.ensures _ c.if-not-branch.false c.opens_list.ensures
