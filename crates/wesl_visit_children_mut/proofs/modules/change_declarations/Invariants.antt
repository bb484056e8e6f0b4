use Rattle.std.proofs.Common.{◌≡◌, ◌≤◌, ℕ, length, get_or, map, take, Ok}
use Rattle.wesl_visit_children.specs.Turns.{ChangedInTurn}
use Rattle.std.specs.List.{flat_map}
use Rattle.wgsl_path.specs.declared.span.Spanned.{Spanned}
use Rattle.wesl_visit_children.specs.Parts.{in_declaration_node}
use Rattle.wesl_visit_children.specs.Rest.{around_declaration_node}
use Rattle.wgsl_declarations.specs.declared.declaration.GlobalDeclaration.{GlobalDeclaration}
use Rattle.wesl_visit_children_mut.proofs.modules.change_declarations.Given as goal

abbrev pub invariant-loop-i : goal.invariant-loop-i
invariant-loop-i g l =
    g.W.WriteParts.ready l.w
    × ChangedInTurn g.W.WriteParts.at l.initial.w (flat_map in_declaration_node (take l.i l.initial.declarations)) (Ok tt) l.w (flat_map in_declaration_node (take l.i l.declarations))
    × (map (around_declaration_node g.W.WriteParts.rest) l.declarations ≡ map (around_declaration_node g.W.WriteParts.rest) l.initial.declarations) × (length l.declarations ≡ length l.initial.declarations)
    × ((k : ℕ) (d : Spanned GlobalDeclaration) → l.i ≤ k → get_or l.declarations k d ≡ get_or l.initial.declarations k d)
