use Rattle.std.proofs.Common.{◌≡◌, ◌++◌, drop}
use Rattle.std.specs.List.{flat_map}
use Rattle.wgsl_declarations.specs.View as whole
use Rattle.core_narrowing.specs.Trees.{declarations_tree}
use Rattle.core_narrowing.specs.Narrowing.{each, narrow_decl, in_front}
use Rattle.core_narrowing.specs.Places as part
use Rattle.core_narrowing.specs.ModulePlaces as places
use Rattle.core_narrowing.proofs.declarations.narrow_declarations.Given as goal

abbrev pub invariant-loop-node : goal.invariant-loop-node
invariant-loop-node l = (in_front (declarations_tree l.narrowed) (each narrow_decl (whole.declarations_tree (drop l.node-index l.nodes))) ≡ each narrow_decl (whole.declarations_tree l.nodes))
    × (flat_map (part.at part.in_declaration) l.narrowed ++ flat_map (places.at_some places.in_declaration) (drop l.node-index l.nodes) ≡ flat_map (places.at_some places.in_declaration) l.nodes)
