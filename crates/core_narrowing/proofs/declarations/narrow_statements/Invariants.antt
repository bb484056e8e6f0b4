use Rattle.std.proofs.Common.{◌≡◌, ◌++◌, drop}
use Rattle.std.specs.List.{flat_map}
use Rattle.wgsl_statements.specs.View as whole
use Rattle.core_narrowing.specs.Trees.{statements_tree}
use Rattle.core_narrowing.specs.Narrowing.{narrow_stms, in_front}
use Rattle.core_narrowing.specs.Places as part
use Rattle.core_narrowing.specs.ModulePlaces as places
use Rattle.core_narrowing.proofs.declarations.narrow_statements.Given as goal

abbrev pub invariant-loop-node : goal.invariant-loop-node
invariant-loop-node l = (in_front (statements_tree l.narrowed) (narrow_stms (whole.statements_tree (drop l.node-index l.nodes))) ≡ narrow_stms (whole.statements_tree l.nodes))
    × (flat_map (part.at part.in_statement) l.narrowed ++ flat_map (places.at_some places.in_statement) (drop l.node-index l.nodes) ≡ flat_map (places.at_some places.in_statement) l.nodes)
