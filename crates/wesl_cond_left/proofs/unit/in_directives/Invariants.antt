use Rattle.std.proofs.Common.{◌≡◌, drop, map}
use Rattle.wgsl_declarations.specs.ImportsView.{directive_tree}
use Rattle.wesl_cond_left.specs.Open.{directives_open}
use Rattle.wesl_cond_left.proofs.unit.in_directives.Given as goal

abbrev pub invariant-loop-directive : goal.invariant-loop-directive
invariant-loop-directive l = directives_open (map directive_tree (drop l.directive-index l.directive-items)) ≡ directives_open (map directive_tree l.directive-items)
