use Rattle.std.proofs.Common.{◌≡◌, ◌≤◌, ℕ, length, get_or, map, take, Ok}
use Rattle.wesl_visit_children.specs.Turns.{ChangedInTurn}
use Rattle.std.specs.List.{flat_map}
use Rattle.wesl_visit_children.specs.Parts.{in_parameter}
use Rattle.wesl_visit_children.specs.Rest.{around_parameter}
use Rattle.wgsl_declarations.specs.declared.declaration.FormalParameter.{FormalParameter}
use Rattle.wesl_visit_children_mut.proofs.modules.change_parameters.Given as goal

abbrev pub invariant-loop-i : goal.invariant-loop-i
invariant-loop-i g l =
    g.W.WriteParts.ready l.w
    × ChangedInTurn g.W.WriteParts.at l.initial.w (flat_map in_parameter (take l.i l.initial.parameters)) (Ok tt) l.w (flat_map in_parameter (take l.i l.parameters))
    × (map (around_parameter g.W.WriteParts.rest) l.parameters ≡ map (around_parameter g.W.WriteParts.rest) l.initial.parameters) × (length l.parameters ≡ length l.initial.parameters)
    × ((k : ℕ) (d : FormalParameter) → l.i ≤ k → get_or l.parameters k d ≡ get_or l.initial.parameters k d)
