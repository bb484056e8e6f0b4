use Rattle.std.proofs.Common.{◌≡◌, ◌≤◌, ℕ, length, get_or, map, take, Ok}
use Rattle.wesl_visit_children.specs.Turns.{ChangedInTurn}
use Rattle.std.specs.List.{flat_map}
use Rattle.wesl_visit_children.specs.Parts.{in_selector}
use Rattle.wesl_visit_children.specs.Rest.{around_selector}
use Rattle.wgsl_simple_statements.specs.declared.statement.CaseSelector.{CaseSelector}
use Rattle.wesl_visit_children_mut.proofs.statements.change_selectors.Given as goal

abbrev pub invariant-loop-i : goal.invariant-loop-i
invariant-loop-i g l =
    g.W.WriteParts.ready l.w
    × ChangedInTurn g.W.WriteParts.at l.initial.w (flat_map in_selector (take l.i l.initial.selectors)) (Ok tt) l.w (flat_map in_selector (take l.i l.selectors))
    × (map (around_selector g.W.WriteParts.rest) l.selectors ≡ map (around_selector g.W.WriteParts.rest) l.initial.selectors) × (length l.selectors ≡ length l.initial.selectors)
    × ((k : ℕ) (d : CaseSelector) → l.i ≤ k → get_or l.selectors k d ≡ get_or l.initial.selectors k d)
