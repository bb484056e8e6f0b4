-- What holds of modules once they are loaded, and of names once none clashes.
use Rattle.std.specs.Prelude.{◌≡◌, ◌⊎◌, List, [], ◌++◌}
use Rattle.std.specs.List.{Contains}
use Rattle.wgsl_path.specs.declared.path.ModulePath.{ModulePath}
use Rattle.wgsl_path.specs.Paths.{path_text}
use Rattle.core_syntax.specs.Tree.{Decl, UnitTree}
use Rattle.core_link_spec.specs.Occurrences.{Name, names_before, names_behind, names_in_body, locals, occurrences}
use Rattle.core_link_spec.specs.Modules.{Path, Symbol, Modules, Declares, IsModule, IsFree, IsDeclaration, Denotes, Reached}
use Rattle.core_link_spec.specs.Rounds.{AreDistinct, scope_names}
use Rattle.core_link_spec.specs.Linked.{IsShared, Clashes}

module _ (modules : Modules) (root : Path) (keep : List Name) where
  -- modules that are all there and none of whose names is refused
  pub record AreLoaded : Type 0 where
    -- no two modules have one printed path
    pub apart : (a b : ModulePath × UnitTree) → Contains modules a → Contains modules b → path_text a.0 ≡ path_text b.0 → a ≡ b
    -- no module has a name twice
    pub distinct : (a : ModulePath × UnitTree) → Contains modules a → AreDistinct (scope_names a.1)
    -- the root declares the kept names
    pub kept : (x : Name) → Contains keep x → (u : UnitTree) × IsModule modules root u × Declares u x
    -- what occurs in a reached declaration denotes a symbol, or is free
    pub resolved : (s : Symbol) (d : Decl) (x : Name) → Reached modules root keep s → IsDeclaration modules s d → Contains (occurrences d) x
        → ((t : Symbol) × Denotes modules s.home x t) ⊎ IsFree modules s.home x

  -- no name of the linked unit is read otherwise than meant
  pub record IsClashFree : Type 0 where
    -- each held symbol has a name of its own
    pub unshared : (x : Name) → IsShared modules root keep x → ⊥
    -- no occurrence outside of a body clashes, and none in a body, where locals may hide names
    pub outside : (s : Symbol) (d : Decl) (x y : Name) → Reached modules root keep s → IsDeclaration modules s d → Contains (names_before d ++ names_behind d) x
        → Clashes modules root keep s.home [] x y → ⊥
    pub inside : (s : Symbol) (d : Decl) (x y : Name) → Reached modules root keep s → IsDeclaration modules s d → Contains (names_in_body d) x
        → Clashes modules root keep s.home (locals d) x y → ⊥
