use Rattle.std.proofs.Common.{◌≡◌, ◌++◌, drop}
use Rattle.wesl_visit_children.specs.Listed.{parts}
use Rattle.std.specs.List.{flat_map}
use Rattle.wesl_visit_children.specs.Parts.{in_import}
use Rattle.wesl_visit_children.proofs.find_modules.find_imports.Given as goal

abbrev pub invariant-loop-import : goal.invariant-loop-import
invariant-loop-import l = parts l.found.items ++ flat_map in_import (drop l.import-index l.imports) ≡ parts l.initial.found.items ++ flat_map in_import l.imports
