use Rattle.core_syntax.specs.View.{unit_tree}
use Rattle.core_lower.proofs.Whole.{keeps_if}
use Rattle.core_lower.proofs.unit.lower.Goals as goal

pub returns-clause-keeps : goal.returns-clause-keeps
returns-clause-keeps c clear = keeps_if unit_tree c.args.max_steps (unit_tree c.args.unit.now) c.lowered_unit.result clear c.lowered_unit.ensures
