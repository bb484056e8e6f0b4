use Rattle.std.proofs.Common.{◌≡◌, drop}
use Rattle.std.specs.List.{list_all}
use Rattle.core_narrowing.specs.Trees.{declarations_tree}
use Rattle.core_narrowing.specs.InCore as spec
use Rattle.core_narrowing.proofs.in_core.are_declarations.Given as goal

abbrev pub invariant-loop-declaration : goal.invariant-loop-declaration
invariant-loop-declaration l = list_all spec.is_declaration (declarations_tree (drop l.declaration-index l.declarations)) ≡ list_all spec.is_declaration (declarations_tree l.declarations)
