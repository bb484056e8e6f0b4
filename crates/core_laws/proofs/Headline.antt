-- What is linked and compiled is of its sources.
use Rattle.std.proofs.Common.{◌≡◌, ℕ, List, Ok, ap, ◌∙◌}
use Rattle.core_syntax.specs.Tree.{UnitTree}
use Rattle.core_lower.specs.Lowered.{Lowers}
use Rattle.core_lower.specs.Keeps.{AreClear}
use Rattle.wesl_resolve.specs.Found.{unit_of}
use Rattle.core_link_spec.specs.Occurrences.{Name}
use Rattle.core_link_spec.specs.Modules.{Path, Modules, IsModule}
use Rattle.core_link_spec.specs.Named.{AreNamedByImports}
use Rattle.core_link_spec.specs.Rounds.{Sources, IsLoadingResult}
use Rattle.core_link_spec.specs.Kept.{kept_names}
use Rattle.core_link_spec.specs.Linked.{IsLinked}
use Rattle.core_link_spec.specs.Loaded.{IsClashFree}
use Rattle.core_link_spec.specs.Same.{SameModules}
use Rattle.core_modules_meaning.specs.Determined.{IsFunctional}
use Rattle.core_modules_meaning.proofs.Loading.{loaded_modules, found_modules}
use Rattle.core_modules_meaning.proofs.Declared.{linked_units_declare_what_is_held}
use Rattle.core_modules_meaning.proofs.Same.{same_turned, clash_free_in_any_order, linked_in_any_order}
use Rattle.core_laws.specs.Compiled.{AreCompiled}
use Rattle.core_laws.specs.Headline.{AreKept, IsLinkedFrom, RunsAsSources, RunsExactlyAsSources, CompiledTextsAreOfTheirSources, LinkedTextsAreOfTheirSources}
use Rattle.core_laws.proofs.Runs.{sources_run_in_the_lowered_unit, linked_unit_runs_exactly}
use Rattle.core_laws.proofs.Declared.{declares_held_functions}

module _ (sources : Sources) (root : Path) (keep : List Name) where
  -- where one answer is found at each path, there is one list of kept names
  pub kept_once : IsFunctional sources → (kept : List Name) → AreKept sources root keep kept → (u : UnitTree) → sources root (unit_of u) → kept ≡ kept_names keep u
  kept_once functional kept k u found =
      let answers : unit_of k.unit ≡ unit_of u = functional root _ _ k.found found in
      let units : k.unit ≡ u = cc in
      k.are ∙ ap (kept_names keep) units

  module _ (max : ℕ) where
    -- they are those of the root's unit
    pub kept_of_root : IsFunctional sources → (linked : UnitTree) (from : IsLinkedFrom sources root keep max linked) (u : UnitTree) → IsModule from.modules root u → from.kept ≡ kept_names keep u
    kept_of_root functional linked from u i = kept_once functional from.kept from.are_kept u (found_modules sources root from.kept max from.modules from.loaded root u i)

    -- the clashes and the linked unit may be those of another list with the same modules
    pub linked_from : (kept : List Name) → AreKept sources root keep kept → (modules others : Modules) → IsLoadingResult sources root kept max (Ok modules) → AreNamedByImports modules root → SameModules modules others
        → (linked : UnitTree) → IsClashFree others root kept → IsLinked others root kept linked → IsLinkedFrom sources root keep max linked
    linked_from kept are modules others loaded named same linked free is = record {
      kept = kept;
      are_kept = are;
      modules = modules;
      loaded = loaded;
      named = named;
      linked_well = record {
        loaded = loaded_modules sources root kept max modules loaded;
        clash_free = clash_free_in_any_order others modules (same_turned modules others same) root kept free;
        linked = linked_in_any_order linked others modules (same_turned modules others same) root kept is;
      };
    }

    pub runs_as_sources : (linked lowered : UnitTree) (from : IsLinkedFrom sources root keep max linked) → AreClear linked.declarations → (steps : ℕ) → Lowers steps linked (Ok lowered)
        → RunsAsSources from.modules root from.kept linked lowered
    runs_as_sources linked lowered from clear steps is =
        let c : AreCompiled from.modules root from.kept lowered = record { linked = linked; linked_well = from.linked_well; clear = clear; steps = steps; is_lowered = is } in
        record {
          runs = sources_run_in_the_lowered_unit from.modules root from.kept lowered c;
          declares = declares_held_functions from.modules root from.kept lowered c;
        }

    pub runs_exactly_as_sources : (linked : UnitTree) (from : IsLinkedFrom sources root keep max linked) → RunsExactlyAsSources from.modules root from.kept linked
    runs_exactly_as_sources linked from = record {
      runs = linked_unit_runs_exactly from.modules root from.kept linked from.linked_well;
      declares = linked_units_declare_what_is_held from.modules root from.kept linked from.linked_well;
    }

pub compiled_texts_are_of_their_sources : (sources : Sources) → CompiledTextsAreOfTheirSources sources
compiled_texts_are_of_their_sources sources root keep max linked lowered from clear steps is text reads = record {
  linked = linked;
  from = from;
  lowered = lowered;
  steps = steps;
  is_lowered = is;
  reads = reads;
  keeps = runs_as_sources sources root keep max linked lowered from clear steps is;
}

pub linked_texts_are_of_their_sources : (sources : Sources) → LinkedTextsAreOfTheirSources sources
linked_texts_are_of_their_sources sources root keep max linked from text reads = record {
  linked = linked;
  from = from;
  reads = reads;
  keeps = runs_exactly_as_sources sources root keep max linked from;
}
