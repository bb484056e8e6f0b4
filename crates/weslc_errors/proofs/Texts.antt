-- What linked and compiled texts keep of their sources.
use Rattle.std.proofs.Common.{◌≡◌, ℕ, List}
use Rattle.core_syntax.specs.Tree.{UnitTree}
use Rattle.core_syntax.specs.Print.{unit_text}
use Rattle.core_link_spec.specs.Occurrences.{Name}
use Rattle.core_link_spec.specs.Modules.{Path}
use Rattle.core_link_spec.specs.Rounds.{Sources}
use Rattle.core_laws.proofs.Existing.{linked_modules_have_one}
use Rattle.core_unit.specs.Texts.{IsTextOf}
use Rattle.core_unit.specs.Compiled.{IsCompiled}
use Rattle.core_unit.proofs.ClearLemmas.{clear-names}
use Rattle.core_laws.specs.Headline.{IsLinkedFrom}
use Rattle.core_laws.proofs.Headline.{runs_as_sources, runs_exactly_as_sources}
use Rattle.weslc_errors.specs.Answers.{IsLinkedText, IsCompiledText}

module _ (found : Sources) (root : Path) (asked : List Name) (max : ℕ) where
  pub linked_text : (linked : UnitTree) → IsLinkedFrom found root asked max linked → (text : List ℕ) → text ≡ unit_text linked → IsTextOf linked text → IsLinkedText found root asked max text
  linked_text linked from text whole reads = record {
    linked = linked;
    from = from;
    whole = whole;
    reads = reads;
    keeps = runs_exactly_as_sources found root asked max linked from;
    has_program = linked_modules_have_one from.modules root from.kept linked from.linked_well.loaded from.linked_well.linked;
  }

  pub compiled_text : (steps : ℕ) (linked : UnitTree) → IsLinkedFrom found root asked max linked → (text : List ℕ) → IsCompiled steps linked text → IsCompiledText found root asked max steps text
  compiled_text steps linked from text compiled = record {
    linked = linked;
    from = from;
    compiled = compiled;
    keeps = runs_as_sources found root asked max linked compiled.low from (clear-names linked compiled.lowered.clear) steps compiled.lowered.lowered;
    has_program = linked_modules_have_one from.modules root from.kept linked from.linked_well.loaded from.linked_well.linked;
  }
