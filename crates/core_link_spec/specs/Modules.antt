-- What the names of modules denote (WESL, "Imports").
use Rattle.std.specs.Prelude.{◌≡◌, List, map, Some, None}
use Rattle.std.specs.Option.{unwrap_or}
use Rattle.std.specs.List.{Contains}
use Rattle.wgsl_path.specs.declared.path.ModulePath.{ModulePath}
use Rattle.wgsl_path.specs.Paths.{path_text}
use Rattle.core_syntax.specs.Tree.{Decl, Imp, UnitTree}
use Rattle.core_syntax.specs.Names.{declared_name}
use Rattle.core_link_spec.specs.Occurrences.{Name, occurrences}

-- the path of a module as it is printed: paths that print alike are one path
abbrev pub Path : Type 0
Path = Name

-- a declaration by the printed path of the module that has it, and its name there
pub record Symbol : Type 0 where
  pub home : Path
  pub name : Name

-- the modules that are loaded, each with its path
abbrev pub Modules : Type 0
Modules = List (ModulePath × UnitTree)

-- the module at a printed path
pub record IsModule (modules : Modules) (m : Path) (u : UnitTree) : Type 0 where
  pub path : ModulePath
  pub stands : Contains modules (path, u)
  pub printed : path_text path ≡ m

abbrev pub Declares : UnitTree → Name → Type 0
Declares u x = Contains (map declared_name u.declarations) x

-- the name that an import brings into scope
abbrev pub local_name : Imp → Name
local_name i = unwrap_or i.rename i.item

abbrev pub Imports : UnitTree → Name → Type 0
Imports u x = Contains (map local_name u.imports) x

-- an import that brings a name into the scope of a module that doesn't declare it
pub record IsImport (modules : Modules) (m : Path) (x : Name) (import : Imp) : Type 0 where
  pub unit : UnitTree
  pub is_module : IsModule modules m unit
  pub undeclared : Declares unit x → ⊥
  pub stands : Contains unit.imports import
  pub local : local_name import ≡ x

-- a name is brought into the scope of a module by an import of this item of another module
pub record IsImported (modules : Modules) (m : Path) (x : Name) (target : Symbol) : Type 0 where
  pub import : Imp
  pub is_import : IsImport modules m x import
  pub path : ModulePath
  pub is_path : import.path ≡ Some path
  pub home : path_text path ≡ target.home
  pub item : import.item ≡ target.name

-- what a name denotes in the scope of a module: its own declaration, else what its import names
pub data Denotes (modules : Modules) (m : Path) (x : Name) : Symbol → Type 0 where
  own : {u : UnitTree} → IsModule modules m u → Declares u x → Denotes modules m x (record { home = m; name = x })
  imported : {s : Symbol} {u : UnitTree} → IsImported modules m x s → IsModule modules s.home u → Declares u s.name → Denotes modules m x s

-- The module that an import names lacks the item; or the import has no module before the item, which is then sought in the
-- importing module itself.
pub data IsMissing (modules : Modules) (m : Path) (x : Name) : Symbol → Type 0 where
  lacking : {s : Symbol} {u : UnitTree} → IsImported modules m x s → IsModule modules s.home u → (Declares u s.name → ⊥) → (Imports u s.name → ⊥)
      → IsMissing modules m x s
  bare : {i : Imp} → IsImport modules m x i → i.path ≡ None → IsMissing modules m x (record { home = m; name = i.item })

-- the module that an import names only imports the item itself
pub record IsPrivate (modules : Modules) (m : Path) (x : Name) (s : Symbol) : Type 0 where
  pub imported : IsImported modules m x s
  pub unit : UnitTree
  pub is_module : IsModule modules s.home unit
  pub undeclared : Declares unit s.name → ⊥
  pub only_imported : Imports unit s.name

-- a name that the module neither declares nor imports
pub record IsFree (modules : Modules) (m : Path) (x : Name) : Type 0 where
  pub unit : UnitTree
  pub is_module : IsModule modules m unit
  pub undeclared : Declares unit x → ⊥
  pub unimported : Imports unit x → ⊥

-- a name that an import brings from a module that is not loaded
pub record IsUnloaded (modules : Modules) (m : Path) (x : Name) (s : Symbol) : Type 0 where
  pub imported : IsImported modules m x s
  pub unloaded : (u : UnitTree) → IsModule modules s.home u → ⊥

-- a symbol's declaration
pub record IsDeclaration (modules : Modules) (s : Symbol) (d : Decl) : Type 0 where
  pub unit : UnitTree
  pub is_module : IsModule modules s.home unit
  pub stands : Contains unit.declarations d
  pub name : declared_name d ≡ s.name

-- what a finite chain of occurrences leads to from the kept names of the root
pub data Reached (modules : Modules) (root : Path) (keep : List Name) : Symbol → Type 0 where
  kept : {x : Name} → Contains keep x → Reached modules root keep (record { home = root; name = x })
  onto : {s t : Symbol} {d : Decl} {x : Name} → Reached modules root keep s → IsDeclaration modules s d → Contains (occurrences d) x
      → Denotes modules s.home x t → Reached modules root keep t

-- the printed path of a module that is not loaded, and that an occurrence in a reached declaration asks for
pub record IsAsked (modules : Modules) (root : Path) (keep : List Name) (p : Path) : Type 0 where
  pub from : Symbol
  pub declaration : Decl
  pub name : Name
  pub target : Symbol
  pub reached : Reached modules root keep from
  pub declares : IsDeclaration modules from declaration
  pub occurs : Contains (occurrences declaration) name
  pub unloaded : IsUnloaded modules from.home name target
  pub home : target.home ≡ p
