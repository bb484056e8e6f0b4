use Rattle.std.proofs.Common.{◌≡◌, [], map, take}
use Rattle.std.specs.List.{All}
use Rattle.wesl_module_index.specs.Uses.{read_at, AreReferences, AreLocals, trail_said, uses_at, IsClosed}
use Rattle.wesl_module_index.proofs.uses.uses_of.Given as goal

abbrev pub invariant-loop-place : goal.invariant-loop-place
invariant-loop-place l = record {
  locals : AreLocals l.list.names.keys l.scopes.trail.items;
  numbered : All (λ references. AreReferences l.list references.items) l.uses.items;
  uses : All (IsClosed l.list) l.places
      → (trail_said l.list.names.keys l.scopes.trail.items ≡ []) × (map (λ references. map (read_at l.list) references.items) l.uses.items ≡ map (uses_at l.list) (take l.place-index l.places));
}
