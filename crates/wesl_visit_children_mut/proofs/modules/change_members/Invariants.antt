use Rattle.std.proofs.Common.{◌≡◌, ◌≤◌, ℕ, length, get_or, map, take, Ok}
use Rattle.wesl_visit_children.specs.Turns.{ChangedInTurn}
use Rattle.std.specs.List.{flat_map}
use Rattle.wgsl_path.specs.declared.span.Spanned.{Spanned}
use Rattle.wesl_visit_children.specs.Parts.{in_member_node}
use Rattle.wesl_visit_children.specs.Rest.{around_member_node}
use Rattle.wgsl_declarations.specs.declared.declaration.StructMember.{StructMember}
use Rattle.wesl_visit_children_mut.proofs.modules.change_members.Given as goal

abbrev pub invariant-loop-i : goal.invariant-loop-i
invariant-loop-i g l =
    g.W.WriteParts.ready l.w
    × ChangedInTurn g.W.WriteParts.at l.initial.w (flat_map in_member_node (take l.i l.initial.members)) (Ok tt) l.w (flat_map in_member_node (take l.i l.members))
    × (map (around_member_node g.W.WriteParts.rest) l.members ≡ map (around_member_node g.W.WriteParts.rest) l.initial.members) × (length l.members ≡ length l.initial.members)
    × ((k : ℕ) (d : Spanned StructMember) → l.i ≤ k → get_or l.members k d ≡ get_or l.initial.members k d)
