use Rattle.std.proofs.Common.{◌≡◌, ◌≤◌, ℕ, length, get_or}
use Rattle.wgsl_path.specs.declared.span.Spanned.{Spanned}
use Rattle.wgsl_declarations.specs.declared.declaration.GlobalDeclaration.{GlobalDeclaration}
use Rattle.wesl_marks_mut.proofs.DeclarationLists.{maybe_declared, tree_at}
use Rattle.wesl_marks_mut.proofs.Each.{Wrote}
use Rattle.wesl_marks_mut.proofs.units.write_declarations.Given as goal

abbrev pub invariant-loop-i : goal.invariant-loop-i
invariant-loop-i l =
    (length l.nodes ≡ length l.initial.nodes) × ((k : ℕ) (d : Spanned GlobalDeclaration) → l.i ≤ k → get_or l.nodes k d ≡ get_or l.initial.nodes k d)
    × Wrote maybe_declared tree_at l.i l.initial.nodes l.nodes l.initial.script.rest.items l.script.rest.items
