use Rattle.std.proofs.Common.{◌++◌, take}
use Rattle.std.specs.List.{AllZip}
use Rattle.wesl_mark.specs.Lists.{OnlyGrows}
use Rattle.wesl_mark.specs.Places.{IsSpot}
use Rattle.wesl_marks.specs.Units.{directive_spots, declaration_spots}
use Rattle.wesl_marks.proofs.places.mark_unit.Given as goal

abbrev pub invariant-loop-directive : goal.invariant-loop-directive
invariant-loop-directive l = AllZip (IsSpot l.list) l.places.items (directive_spots (take l.directive-index l.directive-items)) × OnlyGrows l.initial.list l.list

abbrev pub invariant-loop-declaration : goal.invariant-loop-declaration
invariant-loop-declaration l =
    AllZip (IsSpot l.list) l.places.items (directive_spots l.unit.global_directives ++ declaration_spots (take l.declaration-index l.declaration-items)) × OnlyGrows l.initial.list l.list
