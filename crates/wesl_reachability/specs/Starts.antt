-- Where reaching begins.
use Rattle.std.specs.Prelude.{◌≡◌, ◌⊎◌, ℕ, ◌<◌, ◌≤◌, List, [], ◌∷◌, ◌++◌, length, Bool, true, false, Option, Some, None, slice_get}
use Rattle.std.specs.HashMap.{get_by_text}
use Rattle.std.specs.List.{Contains}
use Rattle.wesl_mark.specs.declared.place.Place.{Place}
use Rattle.wesl_chains.specs.Outlines.{Name, entry_point}
use Rattle.wesl_module_index.specs.declared.module.Module.{Module}
use Rattle.wesl_module_index.specs.declared.module.Meaning.{Meaning}
use Rattle.wesl_module_index.specs.declared.module.Meaning.TheVariants.{Declared, Imported}
use Rattle.wesl_module_index.specs.declared.modules.DeclarationId.{DeclarationId}
use Rattle.wesl_module_index.specs.Tables.{kind_said}

-- these are all places that are such
pub record AreAll (spots : List DeclarationId) (is_one : DeclarationId → Type 0) : Type 0 where
  pub only : (s : DeclarationId) → Contains spots s → is_one s
  pub all : (s : DeclarationId) → is_one s → Contains spots s

-- a place of a module whose number is not below this
pub record IsPlaceFrom (ms : List Module) (first : ℕ) (s : DeclarationId) : Type 0 where
  pub behind : first ≤ s.«module»
  pub table : Module
  pub is_module : slice_get ms s.«module» ≡ Some table
  pub within : s.place < length table.places.items

-- at a place of these stands a function with a stage attribute
pub record StandsAsEntryPoint (places : List Place) (k : ℕ) : Type 0 where
  pub place : Place
  pub is_there : slice_get places k ≡ Some place
  pub is_kind : kind_said place.kind ≡ entry_point

-- the root's function with a stage attribute
pub record IsEntryPoint (root : Module) (s : DeclarationId) : Type 0 where
  pub in_root : s.«module» ≡ 0
  pub stands : StandsAsEntryPoint root.places.items s.place

-- the root's declaration of one of these names
pub record IsNamed (root : Module) (names : List Name) (s : DeclarationId) : Type 0 where
  pub in_root : s.«module» ≡ 0
  pub name : Name
  pub is_one : Contains names name
  pub declares : get_by_text root.scope name ≡ Some (Declared s.place)

-- a declaration that is kept: of one of the names, or where none is given, an entry point
abbrev pub IsKept : List Name → Module → DeclarationId → Type 0
IsKept [] root s = IsEntryPoint root s
IsKept (x ∷ xs) root s = IsNamed root (x ∷ xs) s

abbrev pub IsKeptIn : List Name → Option Module → DeclarationId → Type 0
IsKeptIn names None s = ⊥
IsKeptIn names (Some root) s = IsKept names root s

-- so many places of a module are added
pub record AddsPlaces (number count : ℕ) (old new : List DeclarationId) : Type 0 where
  pub only : (s : DeclarationId) → Contains new s → Contains old s ⊎ ((s.«module» ≡ number) × (s.place < count))
  pub old_ones : (s : DeclarationId) → Contains old s → Contains new s
  pub added : (s : DeclarationId) → s.«module» ≡ number → s.place < count → Contains new s

-- a place is added, if it is to be
abbrev pub AddsIf : DeclarationId → Bool → List DeclarationId → List DeclarationId → Type 0
AddsIf spot true old new = new ≡ old ++ spot ∷ []
AddsIf spot false old new = new ≡ old

abbrev pub spots_of : Option Meaning → List DeclarationId
spots_of None = []
spots_of (Some (Declared k)) = record { «module» = 0; place = k } ∷ []
spots_of (Some (Imported k)) = []

-- the root's declaration of a name is added
abbrev pub AddsNamed : Module → Name → List DeclarationId → List DeclarationId → Type 0
AddsNamed root x old new = new ≡ old ++ spots_of (get_by_text root.scope x)
