use Rattle.std.proofs.Common.{◌≡◌, drop}
use Rattle.std.specs.List.{list_all}
use Rattle.core_narrowing.specs.Trees.{imports_tree}
use Rattle.core_narrowing.specs.InCore as spec
use Rattle.core_narrowing.proofs.in_core.are_imports.Given as goal

abbrev pub invariant-loop-import : goal.invariant-loop-import
invariant-loop-import l = list_all spec.is_import (imports_tree (drop l.import-index l.imports)) ≡ list_all spec.is_import (imports_tree l.imports)
