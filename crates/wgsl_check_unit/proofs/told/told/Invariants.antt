use Rattle.std.proofs.Common.{ℕ, List, drop, Option}
use Rattle.wgsl_declarations.specs.View.{declarations_tree}
use Rattle.wgsl_check_unit.specs.Telling.{IsTold}
use Rattle.wgsl_check_unit.proofs.told.told.Given as goal

abbrev pub invariant-loop-declaration : goal.invariant-loop-declaration
invariant-loop-declaration l =
    (name : Option (List ℕ)) → IsTold (declarations_tree (drop l.declaration-index l.declarations)) name → IsTold (declarations_tree l.declarations) name
