use Rattle.std.proofs.Common.{◌≡◌, ◌++◌, drop, map}
use Rattle.std.specs.List.{flat_map}
use Rattle.wgsl_declarations.specs.ImportsView as whole
use Rattle.core_narrowing.specs.Trees.{imports_tree}
use Rattle.core_narrowing.specs.Narrowing.{each, narrow_imp, in_front}
use Rattle.core_narrowing.specs.Places as part
use Rattle.core_narrowing.specs.ModulePlaces as places
use Rattle.core_narrowing.proofs.declarations.narrow_imports.Given as goal

abbrev pub invariant-loop-import : goal.invariant-loop-import
invariant-loop-import l = (in_front (imports_tree l.narrowed) (each narrow_imp (map whole.importing_tree (drop l.import-index l.imports))) ≡ each narrow_imp (map whole.importing_tree l.imports))
    × (flat_map part.in_import l.narrowed ++ flat_map places.in_import (drop l.import-index l.imports) ≡ flat_map places.in_import l.imports)
