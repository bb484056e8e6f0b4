use Rattle.wgsl_templates.proofs.Levels.{entry_parentheses}
use Rattle.wgsl_templates.proofs.table.parentheses.Goals as goal

pub returns : goal.returns
returns g c = entry_parentheses _ _ _ c.in_ok-end_of.ensures c.in_ok-end_of-2.ensures
