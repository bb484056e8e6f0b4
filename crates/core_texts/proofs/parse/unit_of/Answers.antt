use Rattle.std.proofs.Common.{sym, ◌∙◌}
use Rattle.core_texts.proofs.Reading.{more_than_part}
use Rattle.core_texts.proofs.parse.unit_of.Goals as goal

pub returns-else-is_in_core-clause-unit : goal.returns-else-is_in_core-clause-unit
returns-else-is_in_core-clause-unit c = more_than_part c.args.parsed.now c.in_ok-unit.unit c.in_ok-unit.ensures.unit (sym c.is_in_core.ensures ∙ c.if-is_in_core.false)
