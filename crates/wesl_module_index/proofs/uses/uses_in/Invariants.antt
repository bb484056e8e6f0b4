use Rattle.std.proofs.Common.{◌≡◌, ◌++◌, map}
use Rattle.wesl_mark.specs.Lists.{flats_between}
use Rattle.wgsl_skeleton.specs.Flats.{replayed}
use Rattle.wesl_module_index.specs.Uses.{read_at, AreReferences, AreLocals, trail_said, trail_after, flats_at}
use Rattle.wesl_module_index.proofs.uses.uses_in.Given as goal

abbrev pub invariant-loop-at : goal.invariant-loop-at
invariant-loop-at l = record {
  locals : AreLocals l.list.names.keys l.scopes.trail.items;
  numbered : AreReferences l.list l.uses.items;
  uses : map (read_at l.list) l.uses.items ++ replayed (flats_between l.list l.at l.place.end) (trail_said l.list.names.keys l.scopes.trail.items)
      ≡ replayed (flats_at l.list l.place) (trail_said l.list.names.keys l.initial.scopes.trail.items);
  trail : trail_after (flats_between l.list l.at l.place.end) (trail_said l.list.names.keys l.scopes.trail.items)
      ≡ trail_after (flats_at l.list l.place) (trail_said l.list.names.keys l.initial.scopes.trail.items);
}
