use Rattle.std.proofs.Common.{◌≡◌, ◌++◌, drop}
use Rattle.std.specs.List.{flat_map}
use Rattle.wesl_visit_children.specs.Turns.{pointed}
use Rattle.wesl_link.specs.EntryPoints.{entry_of_node}
use Rattle.wesl_link.proofs.syntax_util.find_entries.Given as goal

abbrev pub invariant-loop-declaration : goal.invariant-loop-declaration
invariant-loop-declaration l = pointed l.found.items ++ flat_map entry_of_node (drop l.declaration-index l.declarations)
    ≡ pointed l.initial.found.items ++ flat_map entry_of_node l.declarations
