use Rattle.std.proofs.Common.{◌≡◌, ◌≤◌, ℕ, length, get_or, map, take, Ok}
use Rattle.std.specs.List.{flat_map}
use Rattle.wesl_visit_children.specs.Turns.{ChangedInTurn}
use Rattle.wgsl_path.specs.declared.span.Spanned.{Spanned}
use Rattle.wgsl_expressions.specs.declared.attributes.attribute.Attribute.{Attribute}
use Rattle.wesl_visit_children.specs.Parts.{in_attribute}
use Rattle.wesl_visit_children_mut.proofs.parts.change_attributes.Given as goal

abbrev pub invariant-loop-i : goal.invariant-loop-i
invariant-loop-i g l =
    g.W.WriteParts.ready l.w
    × ChangedInTurn g.W.WriteParts.at l.initial.w (flat_map in_attribute (take l.i l.initial.attributes)) (Ok tt) l.w (flat_map in_attribute (take l.i l.attributes))
    × (map g.W.WriteParts.rest.attribute l.attributes ≡ map g.W.WriteParts.rest.attribute l.initial.attributes) × (length l.attributes ≡ length l.initial.attributes)
    × ((k : ℕ) (d : Spanned Attribute) → l.i ≤ k → get_or l.attributes k d ≡ get_or l.initial.attributes k d)
