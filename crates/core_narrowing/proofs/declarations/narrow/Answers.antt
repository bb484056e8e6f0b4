use Rattle.wgsl_declarations.specs.View as whole
use Rattle.core_narrowing.proofs.Lying.{narrows}
use Rattle.core_narrowing.proofs.declarations.narrow.Goals as goal

pub returns-clause-unit : goal.returns-clause-unit
returns-clause-unit c = narrows (whole.unit_tree c.args.unit.now) c.narrowed.result c.narrowed.ensures.tree
