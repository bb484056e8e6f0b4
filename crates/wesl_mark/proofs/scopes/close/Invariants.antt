use Rattle.std.proofs.Common.{◌≡◌, ◌++◌, List, true, length}
use Rattle.std.specs.List.{list_all}
use Rattle.wesl_mark.specs.declared.scopes.Entry.{Entry}
use Rattle.wesl_mark.specs.Trail.{is_bound, AreKept, IsTable}
use Rattle.wesl_mark.proofs.scopes.close.Given as goal

abbrev pub invariant-loop-entry : goal.invariant-loop-entry
invariant-loop-entry l =
    IsTable l.values.items l.trail.items × AreKept l.trail.items
    × ((inside : List Entry) × (list_all is_bound inside ≡ true) × (l.initial.trail.items ≡ l.trail.items ++ inside))

abbrev pub decreases-loop-entry : goal.decreases-loop-entry
decreases-loop-entry l = length l.trail.items
