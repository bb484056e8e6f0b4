use Rattle.std.proofs.Common.{◌≡◌, ◌+◌, ◌*◌, take}
use Rattle.wgsl_declarations.proofs.imports.copy.+copy.Given as goal

abbrev pub decreases-copied : goal.decreases-copied
decreases-copied l = 4 * goal.size-copied l

abbrev pub decreases-copied_import : goal.decreases-copied_import
decreases-copied_import l = 4 * goal.size-copied_import l + 1

abbrev pub decreases-copied_imports : goal.decreases-copied_imports
decreases-copied_imports l = 4 * goal.size-copied_imports l + 2

abbrev pub invariant-copied_imports-loop-import : goal.invariant-copied_imports-loop-import
invariant-copied_imports-loop-import l = l.copies ≡ take l.import-index l.imports
