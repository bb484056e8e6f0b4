use Rattle.std.proofs.Common.{◌≡◌, ◌++◌, drop, map}
use Rattle.std.specs.List.{flat_map}
use Rattle.wesl_mark.specs.Lists.{flats, OnlyGrows}
use Rattle.wgsl_simple_statements.specs.View.{selector_tree}
use Rattle.wesl_marks.specs.Laid.{in_selector}
use Rattle.wesl_marks.proofs.statements.mark_selectors.Given as goal

abbrev pub invariant-loop-selector : goal.invariant-loop-selector
invariant-loop-selector l = (flats l.list ++ flat_map in_selector (map selector_tree (drop l.selector-index l.selectors)) ≡ flats l.initial.list ++ flat_map in_selector (map selector_tree l.selectors)) × OnlyGrows l.initial.list l.list
