use Rattle.std.proofs.Common.{◌≡◌, ◌≤◌, ℕ, length, get_or, map, take, Ok}
use Rattle.wesl_visit_children.specs.Turns.{ChangedInTurn}
use Rattle.std.specs.List.{flat_map}
use Rattle.wesl_visit_children.specs.Parts.{in_directive}
use Rattle.wesl_visit_children.specs.Rest.{around_directive}
use Rattle.wgsl_declarations.specs.declared.imports.directive.GlobalDirective.{GlobalDirective}
use Rattle.wesl_visit_children_mut.proofs.modules.change_directives.Given as goal

abbrev pub invariant-loop-i : goal.invariant-loop-i
invariant-loop-i g l =
    g.W.WriteParts.ready l.w
    × ChangedInTurn g.W.WriteParts.at l.initial.w (flat_map in_directive (take l.i l.initial.directives)) (Ok tt) l.w (flat_map in_directive (take l.i l.directives))
    × (map (around_directive g.W.WriteParts.rest) l.directives ≡ map (around_directive g.W.WriteParts.rest) l.initial.directives) × (length l.directives ≡ length l.initial.directives)
    × ((k : ℕ) (d : GlobalDirective) → l.i ≤ k → get_or l.directives k d ≡ get_or l.initial.directives k d)
