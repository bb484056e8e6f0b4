use Rattle.std.proofs.Common.{◌≡◌, ◌++◌, drop}
use Rattle.wesl_visit_children.specs.Listed.{parts}
use Rattle.std.specs.List.{flat_map}
use Rattle.wesl_visit_children.specs.Parts.{in_selector}
use Rattle.wesl_visit_children.proofs.find_statements.find_selectors.Given as goal

abbrev pub invariant-loop-selector : goal.invariant-loop-selector
invariant-loop-selector l = parts l.found.items ++ flat_map in_selector (drop l.selector-index l.selectors) ≡ parts l.initial.found.items ++ flat_map in_selector l.selectors
