use Rattle.std.proofs.Common.{◌≡◌, ◌≤◌, ℕ, length, get_or}
use Rattle.wgsl_path.specs.declared.span.Spanned.{Spanned}
use Rattle.wgsl_declarations.specs.declared.declaration.StructMember.{StructMember}
use Rattle.wgsl_declarations.specs.View.{member_tree}
use Rattle.wesl_marks_mut.specs.WrittenUnits.{member_written}
use Rattle.wesl_marks_mut.proofs.Each.{Wrote}
use Rattle.wesl_marks_mut.proofs.declarations.write_members.Given as goal

abbrev pub invariant-loop-i : goal.invariant-loop-i
invariant-loop-i l =
    (length l.members ≡ length l.initial.members) × ((k : ℕ) (d : Spanned StructMember) → l.i ≤ k → get_or l.members k d ≡ get_or l.initial.members k d)
    × Wrote member_written (λ n. member_tree n.node) l.i l.initial.members l.members l.initial.script.rest.items l.script.rest.items
