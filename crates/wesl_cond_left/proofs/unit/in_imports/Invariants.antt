use Rattle.std.proofs.Common.{◌≡◌, drop, map}
use Rattle.wgsl_declarations.specs.ImportsView.{importing_tree}
use Rattle.wesl_cond_left.specs.Open.{imports_open}
use Rattle.wesl_cond_left.proofs.unit.in_imports.Given as goal

abbrev pub invariant-loop-import : goal.invariant-loop-import
invariant-loop-import l = imports_open (map importing_tree (drop l.import-index l.import-items)) ≡ imports_open (map importing_tree l.import-items)
