-- The one unit that loaded modules are linked into.
use Rattle.std.specs.Prelude.{◌≡◌, ℕ, ◌+◌, List, [], ◌∷◌, ◌++◌, map, length, Some, Bool, false, ◌↔◌}
use Rattle.std.specs.List.{Contains, AllZip}
use Rattle.wgsl_skeleton.specs.ImportsTree.{Directive}
use Rattle.wgsl_skeleton.specs.DeclarationsTree.{Decl, UnitTree}
use Rattle.wgsl_skeleton.specs.Renaming.{Naming}
use Rattle.wesl_chains.specs.Outlines.{Name, Path}
use Rattle.wesl_chains.specs.Reaching.{Reached}
use Rattle.wesl_linking_spec.specs.Outlining.{outline_of}
use Rattle.wesl_linking_spec.specs.Sources.{canonical, Modules, unit_at, finder}
use Rattle.wesl_linking_spec.specs.Loading.{IsAscending}
use Rattle.wesl_linking_spec.specs.Written.{Mangler, IsNaming, IsWritten, IsWrittenDirective}

-- ---- what is held

-- `holds_all`: all of the loaded modules is held, and else what is reached from the kept names
abbrev pub Held : Modules → Path → List Name → Bool → Path → ℕ → Type 0
Held ms root kept holds_all m k = Reached (finder ms) root kept holds_all m k

-- what is left of what is held, once all is taken away that these names do not reach
abbrev pub HeldStill : Modules → Path → List Name → (Path → ℕ → Type 0) → Path → ℕ → Type 0
HeldStill ms root kept held m k = held m k × Reached (finder ms) root kept false m k

-- ---- lists

-- the elements of a list of which some fact is true, in its order
pub data Selects {A : Type 0} (P : A → Type 0) : List A → List A → Type 0 where
  nothing_left : Selects P [] []
  takes : {x : A} {xs ys : List A} → P x → Selects P xs ys → Selects P (x ∷ xs) (x ∷ ys)
  leaves : {x : A} {xs ys : List A} → (P x → ⊥) → Selects P xs ys → Selects P (x ∷ xs) ys

-- where a directive or a declaration stands: the module's path, and its place there
abbrev pub DeclarationId : Type 0
DeclarationId = Path × ℕ

-- what stands at the places of a module from one on
abbrev pub at_spots : {A : Type 0} → Path → ℕ → List A → List (DeclarationId × A)
at_spots m n [] = []
at_spots m n (x ∷ xs) = ((m, n), x) ∷ at_spots m (n + 1) xs

abbrev pub spots_of : {A : Type 0} → List (DeclarationId × A) → List DeclarationId
spots_of xs = map (λ x. x.0) xs

abbrev pub contents_of : {A : Type 0} → List (DeclarationId × A) → List A
contents_of xs = map (λ x. x.1) xs

-- the first of equal ones, in order
pub data FirstOfEqual {A : Type 0} : List (DeclarationId × A) → List (DeclarationId × A) → Type 0 where
  none_yet : FirstOfEqual [] []
  is_new : (x : DeclarationId × A) {xs ys : List (DeclarationId × A)} → FirstOfEqual xs ys → (Contains (contents_of xs) x.1 → ⊥) → FirstOfEqual (xs ++ x ∷ []) (ys ++ x ∷ [])
  is_again : (x : DeclarationId × A) {xs ys : List (DeclarationId × A)} → FirstOfEqual xs ys → Contains (contents_of xs) x.1 → FirstOfEqual (xs ++ x ∷ []) ys

-- the loaded modules in the order of the linked unit: the root, then the others in byte order of their printed paths
pub record IsInOrder (loaded : List Path) (root : Path) (order : List Path) : Type 0 where
  pub others : List Path
  pub root_first : order ≡ root ∷ others
  pub ascending : IsAscending others
  pub not_root : Contains others root → ⊥
  pub each : (p : Path) → Contains order p ↔ Contains loaded p

-- ---- the linked unit

module _ (ms : Modules) (root : Path) (mangler : Mangler) (held : Path → ℕ → Type 0) where
  -- what a module has in the linked unit: its directives written, and its held declarations in text order, written
  pub record IsLinkedModule (m : Path) (ds : List (DeclarationId × Directive)) (es : List (DeclarationId × Decl)) : Type 0 where
    pub unit : UnitTree
    pub is_module : unit_at ms m ≡ Some unit
    pub naming : Naming
    pub names : IsNaming ms root mangler held m (outline_of (canonical m) unit) naming
    pub directives : AllZip (λ d e. (e.0 ≡ d.0) × IsWrittenDirective naming d.1 e.1) (at_spots m 0 unit.directives) ds
    pub held_there : List (DeclarationId × Decl)
    pub selected : Selects (λ d. held d.0.0 d.0.1) (at_spots m (length unit.directives) unit.declarations) held_there
    pub declarations : AllZip (λ d e. (e.0 ≡ d.0) × IsWritten ms root mangler d.0.0 d.0.1 naming d.1 e.1) held_there es

  -- modules one after another
  pub data AreLinkedModules : List Path → List (DeclarationId × Directive) → List (DeclarationId × Decl) → Type 0 where
    no_module : AreLinkedModules [] [] []
    a_module : {m : Path} {ns : List Path} {ds more_ds : List (DeclarationId × Directive)} {es more_es : List (DeclarationId × Decl)} → IsLinkedModule m ds es
        → AreLinkedModules ns more_ds more_es → AreLinkedModules (m ∷ ns) (ds ++ more_ds) (es ++ more_es)

  -- The unit, and the spot that each of its directives and declarations comes from: the root's, then the other modules' in byte order of
  -- their printed paths; equal directives once, where the first of them stands.
  pub record IsAssembled (origins : List DeclarationId) (u : UnitTree) : Type 0 where
    pub no_imports : u.imports ≡ []
    pub order : List Path
    pub in_order : IsInOrder (map (λ m. m.0) ms) root order
    pub directives : List (DeclarationId × Directive)
    pub taken : List (DeclarationId × Directive)
    pub declarations : List (DeclarationId × Decl)
    pub modules : AreLinkedModules order directives declarations
    pub once : FirstOfEqual directives taken
    pub all_directives : u.directives ≡ contents_of taken
    pub all_declarations : u.declarations ≡ contents_of declarations
    pub come_from : origins ≡ spots_of taken ++ spots_of declarations
