use Rattle.std.proofs.Common.{◌≡◌, ◌≤◌, ℕ, length, get_or}
use Rattle.wgsl_simple_statements.specs.declared.statement.CaseSelector.{CaseSelector}
use Rattle.wgsl_simple_statements.specs.View.{selector_tree}
use Rattle.wesl_marks_mut.specs.WrittenStatements.{selector_written}
use Rattle.wesl_marks_mut.proofs.Each.{Wrote}
use Rattle.wesl_marks_mut.proofs.simple_statements.write_selectors.Given as goal

abbrev pub invariant-loop-i : goal.invariant-loop-i
invariant-loop-i l =
    (length l.selectors ≡ length l.initial.selectors) × ((k : ℕ) (d : CaseSelector) → l.i ≤ k → get_or l.selectors k d ≡ get_or l.initial.selectors k d)
    × Wrote selector_written selector_tree l.i l.initial.selectors l.selectors l.initial.script.rest.items l.script.rest.items
