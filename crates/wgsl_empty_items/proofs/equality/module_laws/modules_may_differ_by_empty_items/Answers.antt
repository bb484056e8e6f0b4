use Rattle.wgsl_empty_items.proofs.EqualityModules.{missed}
use Rattle.wgsl_empty_items.proofs.equality.module_laws.modules_may_differ_by_empty_items.Goals as goal

pub returns : goal.returns
returns c = missed
