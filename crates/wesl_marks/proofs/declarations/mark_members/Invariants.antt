use Rattle.std.proofs.Common.{◌≡◌, ◌++◌, drop}
use Rattle.std.specs.List.{flat_map}
use Rattle.wesl_mark.specs.Lists.{flats, OnlyGrows}
use Rattle.wgsl_declarations.specs.View.{members_tree}
use Rattle.wesl_marks.specs.Laid.{in_member}
use Rattle.wesl_marks.proofs.declarations.mark_members.Given as goal

abbrev pub invariant-loop-member : goal.invariant-loop-member
invariant-loop-member l = (flats l.list ++ flat_map in_member (members_tree (drop l.member-index l.members)) ≡ flats l.initial.list ++ flat_map in_member (members_tree l.members)) × OnlyGrows l.initial.list l.list
