use Rattle.std.proofs.Common.{◌≡◌, ◌≤◌, ℕ, length, get_or}
use Rattle.wgsl_declarations.specs.declared.imports.directive.GlobalDirective.{GlobalDirective}
use Rattle.wgsl_declarations.specs.ImportsView.{directive_tree}
use Rattle.wesl_marks_mut.specs.WrittenUnits.{directive_written}
use Rattle.wesl_marks_mut.proofs.Each.{Wrote}
use Rattle.wesl_marks_mut.proofs.units.write_directives.Given as goal

abbrev pub invariant-loop-i : goal.invariant-loop-i
invariant-loop-i l =
    (length l.directives ≡ length l.initial.directives) × ((k : ℕ) (d : GlobalDirective) → l.i ≤ k → get_or l.directives k d ≡ get_or l.initial.directives k d)
    × Wrote directive_written directive_tree l.i l.initial.directives l.directives l.initial.script.rest.items l.script.rest.items
