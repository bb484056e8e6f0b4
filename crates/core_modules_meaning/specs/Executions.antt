-- Programs of modules, and runs of linked modules.
use Rattle.std.specs.Prelude.{◌≡◌, ℕ, List, [], ◌∷◌, map, Bool, true, false, Option, Some, None, ◌↔◌, if◌then◌else◌}
use Rattle.std.specs.Str.{bytes_eq}
use Rattle.std.specs.Option.{option_map}
use Rattle.wgsl_path.specs.declared.path.ModulePath.{ModulePath}
use Rattle.wgsl_path.specs.Paths.{path_text}
use Rattle.wesl_resolve.specs.Mangling.{mangled}
use Rattle.std.specs.List.{Contains}
use Rattle.core_syntax.specs.Tree.{Decl, UnitTree}
use Rattle.wgsl_instance.specs.declared.tree.Instance.{Instance}
use Rattle.core_programs.specs.Names.{Symbol}
use Rattle.core_programs.specs.Programs.{Program, here}
use Rattle.core_programs.specs.Runs.{Handed, EndsWell, program_of}
use Rattle.core_link_spec.specs.Occurrences.{Name}
use Rattle.core_link_spec.specs.Modules.{Path, Modules, IsDeclaration, Denotes, Reached}
use Rattle.core_link_spec.specs.Modules.{Symbol as SourceSymbol}
use Rattle.core_link_spec.specs.Names.{IsPrinted}
use Rattle.core_link_spec.specs.Linked.{IsLinked}
use Rattle.core_link_spec.specs.Loaded.{AreLoaded}
use Rattle.core_modules_meaning.specs.SourcePrograms.{Symbol as PathSymbol, Program as PathProgram, IsHeldList, unit_at, declared_at}
use Rattle.core_modules_meaning.specs.Runs.{AreLinkedWell}

abbrev pub source : Symbol → SourceSymbol
source s = record { home = s.home; name = s.called }

-- The program of the modules: each symbol has its declaration, each name means what it denotes, what is reached has its printed name,
-- and what is held gets its value at the start.
pub record IsProgramIn (modules : Modules) (root : Path) (keep : List Name) (p : Program) : Type 0 where
  pub items : (s : Symbol) (d : Decl) → (p.item s ≡ Some d) ↔ IsDeclaration modules (source s) d
  pub denotes : (m : Path) (x : Name) (s : Symbol) → (p.denotes m x ≡ Some s) ↔ Denotes modules m x (source s)
  pub printed : (s : Symbol) → Reached modules root keep (source s) → IsPrinted modules root (source s) (p.printed s)
  pub held : IsHeldList modules root keep (map source p.held)

-- A run of a kept name ends well in the modules within so many steps exactly where it does in the linked unit, with the same answer.
abbrev pub LinkedUnitsEndLikewise : Type 0
LinkedUnitsEndLikewise = (modules : Modules) (root : Path) (keep : List Name) (unit : UnitTree) (p : Program) → AreLinkedWell modules root keep unit
    → IsProgramIn modules root keep p → (x : Name) → Contains keep x → (handed : Handed) (n : ℕ) (answer : Option Instance)
    → EndsWell p (record { home = root; called = x }) handed n answer ↔ EndsWell (program_of unit) (here x) handed n answer

-- Linked modules have such a program.
abbrev pub LinkedModulesHaveOne : Type 0
LinkedModulesHaveOne = (modules : Modules) (root : Path) (keep : List Name) (unit : UnitTree) → AreLoaded modules root keep → IsLinked modules root keep unit
    → (p : Program) × IsProgramIn modules root keep p

-- ---- that program, as a function of a program over paths

-- the first path that prints so
abbrev pub path_at : Modules → Path → Option ModulePath
path_at [] m = None
path_at (a ∷ rest) m = if bytes_eq (path_text a.0) m then Some a.0 else path_at rest m

abbrev pub texted : PathSymbol → Symbol
texted s = record { home = path_text s.home; called = s.called }

abbrev pub denoted_from : PathProgram → Name → Option ModulePath → Option Symbol
denoted_from p x (Some path) = option_map texted (p.denotes path x)
denoted_from p x None = None

-- the root's names stay
abbrev pub printed_from : Bool → Option ModulePath → Name → Name
printed_from true path x = x
printed_from false (Some path) x = mangled path x
printed_from false None x = x

abbrev pub program_by_texts : Modules → Path → PathProgram → Program
program_by_texts modules root p = record {
  held = map texted p.held;
  item = λ s. declared_at s.called (unit_at modules s.home);
  printed = λ s. printed_from (bytes_eq s.home root) (path_at modules s.home) s.called;
  denotes = λ m x. denoted_from p x (path_at modules m);
}
