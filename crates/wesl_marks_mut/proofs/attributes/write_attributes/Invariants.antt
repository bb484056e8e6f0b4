use Rattle.std.proofs.Common.{◌≡◌, ◌≤◌, ℕ, length, get_or}
use Rattle.wgsl_path.specs.declared.span.Spanned.{Spanned}
use Rattle.wgsl_expressions.specs.declared.attributes.attribute.Attribute.{Attribute}
use Rattle.wgsl_expressions.specs.AttributesView.{attribute_tree}
use Rattle.wesl_marks_mut.specs.WrittenAttributes.{attribute_written}
use Rattle.wesl_marks_mut.proofs.Each.{Wrote}
use Rattle.wesl_marks_mut.proofs.attributes.write_attributes.Given as goal

abbrev pub invariant-loop-i : goal.invariant-loop-i
invariant-loop-i l =
    (length l.attributes ≡ length l.initial.attributes) × ((k : ℕ) (d : Spanned Attribute) → l.i ≤ k → get_or l.attributes k d ≡ get_or l.initial.attributes k d)
    × Wrote attribute_written (λ n. attribute_tree n.node) l.i l.initial.attributes l.attributes l.initial.script.rest.items l.script.rest.items
