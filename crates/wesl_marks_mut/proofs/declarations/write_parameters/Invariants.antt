use Rattle.std.proofs.Common.{◌≡◌, ◌≤◌, ℕ, length, get_or}
use Rattle.wgsl_declarations.specs.declared.declaration.FormalParameter.{FormalParameter}
use Rattle.wgsl_declarations.specs.View.{parameter_tree}
use Rattle.wesl_marks_mut.specs.WrittenUnits.{parameter_written}
use Rattle.wesl_marks_mut.proofs.Each.{Wrote}
use Rattle.wesl_marks_mut.proofs.declarations.write_parameters.Given as goal

abbrev pub invariant-loop-i : goal.invariant-loop-i
invariant-loop-i l =
    (length l.parameters ≡ length l.initial.parameters) × ((k : ℕ) (d : FormalParameter) → l.i ≤ k → get_or l.parameters k d ≡ get_or l.initial.parameters k d)
    × Wrote parameter_written parameter_tree l.i l.initial.parameters l.parameters l.initial.script.rest.items l.script.rest.items
