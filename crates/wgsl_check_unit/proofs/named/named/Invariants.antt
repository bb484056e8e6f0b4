use Rattle.std.proofs.Common.{ℕ, List, drop, Option}
use Rattle.std.specs.Option.{option_copied}
use Rattle.wgsl_read_back.specs.Found.{nodes}
use Rattle.wgsl_check_unit.specs.Telling.{IsNamed}
use Rattle.wgsl_check_unit.proofs.named.named.Given as goal

abbrev pub invariant-loop-node : goal.invariant-loop-node
invariant-loop-node l =
    (name : Option (List ℕ)) → IsNamed (option_copied l.owner) (option_copied l.rest) (nodes (drop l.node-index l.nodes)) name → IsNamed (option_copied l.owner) (option_copied l.rest) (nodes l.nodes) name
