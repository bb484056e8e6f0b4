use Rattle.std.proofs.Common.{◌≡◌, drop, map}
use Rattle.wgsl_declarations.specs.View.{declarations_tree}
use Rattle.wesl_cond_left.specs.Open.{declarations_open}
use Rattle.wesl_cond_left.proofs.unit.in_declarations.Given as goal

abbrev pub invariant-loop-declaration : goal.invariant-loop-declaration
invariant-loop-declaration l = declarations_open (declarations_tree (drop l.declaration-index l.declaration-items)) ≡ declarations_open (declarations_tree l.declaration-items)
