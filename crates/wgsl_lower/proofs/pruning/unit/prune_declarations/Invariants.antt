use Rattle.std.proofs.Common.{◌≡◌, length, map}
use Rattle.wgsl_lower.specs.Bodies.{around_body_node}
use Rattle.wgsl_lower.proofs.pruning.unit.prune_declarations.Given as goal

abbrev pub invariant-loop-i : goal.invariant-loop-i
invariant-loop-i l = (length l.declarations ≡ length l.initial.declarations) × (map around_body_node l.declarations ≡ map around_body_node l.initial.declarations)
