-- Linking keeps runs, lowering keeps them, and so does a text that is read again.
use Rattle.std.proofs.Common.{List, Ok, subst}
use Rattle.core_syntax.specs.Tree.{UnitTree}
use Rattle.core_syntax.specs.Print.{unit_text}
use Rattle.core_lower.proofs.Whole.{keeps_if}
use Rattle.core_texts.proofs.Whole.{texts_have_one_unit, units_are_read_back}
use Rattle.core_link_spec.specs.Modules.{Path, Modules}
use Rattle.core_modules_meaning.specs.Runs.{AreLinkedWell}
use Rattle.core_link_spec.specs.Occurrences.{Name}
use Rattle.core_modules_meaning.proofs.Executed.{linked_units_end_likewise}
use Rattle.core_laws.specs.Compiled.{RunsAsItsSources, RunsExactlyAsItsSources, SourcesRunInTheLoweredUnit, CompiledTextRunsAsItsSources, PrintedTextRunsAsItsSources, LinkedTextRunsAsItsSources}

pub sources_run_in_the_lowered_unit : SourcesRunInTheLoweredUnit
sources_run_in_the_lowered_unit modules root keep lowered c p program x k handed n answer e =
    keeps_if {A = UnitTree} (λ u. u) c.steps c.linked (Ok lowered) c.clear c.is_lowered x handed n answer
    ((linked_units_end_likewise modules root keep c.linked p c.linked_well program x k handed n answer).0 e)

pub compiled_text_runs_as_its_sources : CompiledTextRunsAsItsSources
compiled_text_runs_as_its_sources modules root keep lowered c text stands unit is =
    subst (RunsAsItsSources modules root keep) (texts_have_one_unit text lowered unit stands is) (sources_run_in_the_lowered_unit modules root keep lowered c)

pub printed_text_runs_as_its_sources : PrintedTextRunsAsItsSources
printed_text_runs_as_its_sources modules root keep lowered c text stands =
    let reads = units_are_read_back lowered (text, stands) in
    record { reads = reads; runs = compiled_text_runs_as_its_sources modules root keep lowered c (unit_text lowered) reads }

pub linked_unit_runs_exactly : (modules : Modules) (root : Path) (keep : List Name) (linked : UnitTree) → AreLinkedWell modules root keep linked → RunsExactlyAsItsSources modules root keep linked
linked_unit_runs_exactly modules root keep linked well p program x k handed n answer = linked_units_end_likewise modules root keep linked p well program x k handed n answer

pub linked_text_runs_as_its_sources : LinkedTextRunsAsItsSources
linked_text_runs_as_its_sources modules root keep linked well text stands unit is =
    subst (RunsExactlyAsItsSources modules root keep) (texts_have_one_unit text linked unit stands is) (linked_unit_runs_exactly modules root keep linked well)
