-- What compiled modules are, and what is kept of their runs.
use Rattle.std.specs.Prelude.{ℕ, List, Option, Ok, ◌↔◌}
use Rattle.std.specs.List.{Contains}
use Rattle.core_syntax.specs.Tree.{UnitTree}
use Rattle.core_syntax.specs.Print.{unit_text}
use Rattle.core_texts.specs.Texts.{IsTextOf}
use Rattle.core_link_spec.specs.Occurrences.{Name}
use Rattle.core_link_spec.specs.Modules.{Path, Modules}
use Rattle.wgsl_instance.specs.declared.tree.Instance.{Instance}
use Rattle.core_modules_meaning.specs.Names.{Symbol}
use Rattle.core_modules_meaning.specs.Programs.{Program, here}
use Rattle.core_modules_meaning.specs.ProgramsRuns.{Handed, EndsWell, program_of}
use Rattle.core_modules_meaning.specs.Runs.{AreLinkedWell}
use Rattle.core_modules_meaning.specs.Executions.{IsProgramIn}
use Rattle.core_lower.specs.Lowered.{Lowers}
use Rattle.core_lower.specs.Keeps.{AreClear}

-- the symbol of a name of the root
abbrev pub at_root : Path → Name → Symbol
at_root root x = record { home = root; called = x }

-- Every run of a kept name that ends well in the modules within so many steps, ends well in the plain unit within as many, with the
-- same answer: whatever is handed in, and for each number of steps.
abbrev pub RunsAsItsSources : Modules → Path → List Name → UnitTree → Type 0
RunsAsItsSources modules root keep unit = (p : Program) → IsProgramIn modules root keep p → (x : Name) → Contains keep x
    → (handed : Handed) (n : ℕ) (answer : Option Instance) → EndsWell p (at_root root x) handed n answer → EndsWell (program_of unit) (here x) handed n answer

-- modules that are linked into a unit with clear names, which is lowered into another; whatever steps an evaluation may take
pub record AreCompiled (modules : Modules) (root : Path) (keep : List Name) (lowered : UnitTree) : Type 0 where
  pub linked : UnitTree
  pub linked_well : AreLinkedWell modules root keep linked
  pub clear : AreClear linked.declarations
  pub steps : ℕ
  pub is_lowered : Lowers steps linked (Ok lowered)

abbrev pub SourcesRunInTheLoweredUnit : Type 0
SourcesRunInTheLoweredUnit = (modules : Modules) (root : Path) (keep : List Name) (lowered : UnitTree) → AreCompiled modules root keep lowered
    → RunsAsItsSources modules root keep lowered

-- The program of a text is that of the unit as which the text is read, by scope alone. So where a text of the lowered unit is read as a unit, runs
-- end well there.
abbrev pub CompiledTextRunsAsItsSources : Type 0
CompiledTextRunsAsItsSources = (modules : Modules) (root : Path) (keep : List Name) (lowered : UnitTree) → AreCompiled modules root keep lowered
    → (text : List ℕ) → IsTextOf lowered text → (unit : UnitTree) → IsTextOf unit text → RunsAsItsSources modules root keep unit

-- The printed text of the lowered unit is read as it, and runs end well in each unit as which it is read.
pub record PrintsWell (modules : Modules) (root : Path) (keep : List Name) (lowered : UnitTree) : Type 0 where
  pub reads : IsTextOf lowered (unit_text lowered)
  pub runs : (unit : UnitTree) → IsTextOf unit (unit_text lowered) → RunsAsItsSources modules root keep unit

-- So it is where some text is read as the lowered unit.
abbrev pub PrintedTextRunsAsItsSources : Type 0
PrintedTextRunsAsItsSources = (modules : Modules) (root : Path) (keep : List Name) (lowered : UnitTree) → AreCompiled modules root keep lowered
    → (text : List ℕ) → IsTextOf lowered text → PrintsWell modules root keep lowered

-- Every run of a kept name ends well in the plain unit exactly where it does in the modules, with the same answer, for each number of
-- steps that is allowed.
abbrev pub RunsExactlyAsItsSources : Modules → Path → List Name → UnitTree → Type 0
RunsExactlyAsItsSources modules root keep unit = (p : Program) → IsProgramIn modules root keep p → (x : Name) → Contains keep x
    → (handed : Handed) (n : ℕ) (answer : Option Instance) → EndsWell p (at_root root x) handed n answer ↔ EndsWell (program_of unit) (here x) handed n answer

-- So it is with a text of the linked unit.
abbrev pub LinkedTextRunsAsItsSources : Type 0
LinkedTextRunsAsItsSources = (modules : Modules) (root : Path) (keep : List Name) (linked : UnitTree) → AreLinkedWell modules root keep linked
    → (text : List ℕ) → IsTextOf linked text → (unit : UnitTree) → IsTextOf unit text → RunsExactlyAsItsSources modules root keep unit
