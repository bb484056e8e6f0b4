use Rattle.std.proofs.Common.{take}
use Rattle.wesl_module_index.specs.Naming.{HasTarget, AreGathered, nested_items}
use Rattle.wesl_module_index.proofs.imports.+import.Given as goal

abbrev pub invariant-add_content-loop-import : goal.invariant-add_content-loop-import
invariant-add_content-loop-import l =
    HasTarget l.names.targets.items l.target l.«module» × AreGathered l.initial.names (nested_items l.is_published l.«module» (take l.import-index l.import-items)) l.names
