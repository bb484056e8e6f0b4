use Rattle.std.proofs.Common.{◌≡◌, take, map}
use Rattle.wgsl_declarations.specs.ImportsView as whole
use Rattle.core_syntax.specs.View.{import_tree}
use Rattle.core_narrowing.specs.Widening.{widen_imp}
use Rattle.core_widening.proofs.declarations.widen_imports.Given as goal

abbrev pub invariant-loop-import : goal.invariant-loop-import
invariant-loop-import l = map whole.importing_tree l.widened ≡ map (λ i. widen_imp (import_tree i)) (take l.import-index l.imports)
