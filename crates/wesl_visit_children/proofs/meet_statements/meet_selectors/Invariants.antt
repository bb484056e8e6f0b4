use Rattle.std.proofs.Common.{take, Ok}
use Rattle.wesl_visit_children.specs.Turns.{CalledInTurn}
use Rattle.std.specs.List.{flat_map}
use Rattle.wesl_visit_children.specs.Parts.{in_selector}
use Rattle.wesl_visit_children.proofs.meet_statements.meet_selectors.Given as goal

abbrev pub invariant-loop-selector : goal.invariant-loop-selector
invariant-loop-selector g l =
    g.W.ReadParts.ready l.w × CalledInTurn g.W.ReadParts.at l.initial.w (flat_map in_selector (take l.selector-index l.selectors)) (Ok tt) l.w
