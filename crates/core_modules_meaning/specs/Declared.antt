-- What the linked unit declares, and what its names mean by scope alone.
use Rattle.std.specs.Prelude.{◌≡◌, List, map, Some, None, false}
use Rattle.std.specs.List.{Contains}
use Rattle.core_syntax.specs.Tree.{Decl, UnitTree}
use Rattle.core_syntax.specs.Names.{declared_name}
use Rattle.core_programs.specs.Runs.{find_decl}
use Rattle.core_link_spec.specs.Occurrences.{Name, is_among, occurrences, names_in_body, locals}
use Rattle.core_link_spec.specs.Modules.{Path, Symbol, Modules, Declares, IsFree, IsDeclaration, Denotes, Reached}
use Rattle.core_link_spec.specs.Names.{IsPrinted}
use Rattle.core_link_spec.specs.Rounds.{AreDistinct}
use Rattle.core_link_spec.specs.Linked.{renamed_declaration}
use Rattle.core_modules_meaning.specs.Runs.{AreLinkedWell}

module _ (modules : Modules) (root : Path) (keep : List Name) where
  -- a held symbol under its printed name
  pub record IsHeldAs (s : Symbol) (y : Name) : Type 0 where
    pub held : Reached modules root keep s
    pub printed : IsPrinted modules root s y

module _ (modules : Modules) (root : Path) (keep : List Name) (unit : UnitTree) where
  -- A symbol's declaration stands under this name, renamed: each occurrence that denotes a symbol has this symbol's name, which no
  -- local hides, and each that is free stays and is declared nowhere.
  pub record StandsAs (s : Symbol) (y : Name) : Type 0 where
    pub declaration : Decl
    pub declares : IsDeclaration modules s declaration
    pub new : Name → Name
    pub found : find_decl y unit.declarations ≡ Some (renamed_declaration new declaration)
    pub denoting : (x : Name) (t : Symbol) → Contains (occurrences declaration) x → Denotes modules s.home x t → IsHeldAs modules root keep t (new x)
    pub unhidden : (x : Name) (t : Symbol) → Contains (names_in_body declaration) x → Denotes modules s.home x t → is_among (new x) (locals declaration) ≡ false
    pub free : (x : Name) → Contains (occurrences declaration) x → IsFree modules s.home x → (new x ≡ x) × (find_decl x unit.declarations ≡ None)

  -- the held symbols are declared, each once under its name, and nothing else
  pub record DeclaresWhatIsHeld : Type 0 where
    pub each : (s : Symbol) (y : Name) → IsHeldAs modules root keep s y → StandsAs s y
    pub only : (y : Name) → Declares unit y → (s : Symbol) × IsHeldAs modules root keep s y
    pub once : AreDistinct (map declared_name unit.declarations)

abbrev pub LinkedUnitsDeclareWhatIsHeld : Type 0
LinkedUnitsDeclareWhatIsHeld = (modules : Modules) (root : Path) (keep : List Name) (unit : UnitTree) → AreLinkedWell modules root keep unit → DeclaresWhatIsHeld modules root keep unit
