use Rattle.wgsl_declarations.specs.ImportsView as whole
use Rattle.core_syntax.specs.View.{import_tree}
use Rattle.core_narrowing.specs.Widening.{widen_imp}
use Rattle.core_widening.proofs.Widened.{all_of}
use Rattle.core_widening.proofs.declarations.widen_imports.Goals as goal

pub returns : goal.returns
returns c = all_of widen_imp import_tree whole.importing_tree c.args.imports.now c.loop-import.import-index c.loop-import.widened c.loop-import-test.false c.loop-import.invariant
