-- What modules mean depends on the units at printed paths alone.
use Rattle.std.specs.Prelude.{◌↔◌}
use Rattle.std.proofs.Common.{◌≡◌, ℕ, inl, inr, ⊎_elim, List, sym, ap, ◌∙◌, subst, Contains}
use Rattle.wgsl_path.specs.Paths.{path_text}
use Rattle.core_syntax.specs.Tree.{Decl, Imp, UnitTree}
use Rattle.core_link_spec.specs.Occurrences.{Name}
use Rattle.core_link_spec.specs.Modules.{Path, Symbol, Modules, IsModule, IsImport, IsImported, IsMissing, lacking, bare, IsPrivate, IsFree, IsUnloaded, IsDeclaration, Denotes, own, imported, Reached, kept, onto, IsAsked}
use Rattle.core_link_spec.specs.Rounds.{LoadError, IsNextRound, IsRefusedAt, NoneRefused, IsFirstRefused}
use Rattle.core_modules_meaning.specs.Determined.{listed}
use Rattle.wgsl_base.proofs.Members.{in_map, from_map}

-- the same units at the same printed paths
abbrev pub SameUnits : Modules → Modules → Type 0
SameUnits a b = (m : Path) (u : UnitTree) → IsModule a m u ↔ IsModule b m u

pub turned : (a b : Modules) → SameUnits a b → SameUnits b a
turned a b e m u = ((e m u).1, (e m u).0)

module_moves : (a b : Modules) → listed a ≡ listed b → (m : Path) (u : UnitTree) → IsModule a m u → IsModule b m u
module_moves a b e m u i =
    let c : Contains (listed a) (path_text i.path, u) = in_map (λ z. (path_text z.0, z.1)) a (i.path, u) i.stands in
    let z = from_map (λ z. (path_text z.0, z.1)) b (path_text i.path, u) (subst (λ l. Contains l (path_text i.path, u)) e c) in
    record { path = z.0.0; stands = subst (λ v. Contains b (z.0.0, v)) (ap (λ w. w.1) z.2) z.1; printed = ap (λ w. w.0) z.2 ∙ i.printed }

pub same_listed : (a b : Modules) → listed a ≡ listed b → SameUnits a b
same_listed a b e m u = (module_moves a b e m u, module_moves b a (sym e) m u)

module _ (a b : Modules) (root : Path) (keep : List Name) (e : SameUnits a b) where
  to : (m : Path) (u : UnitTree) → IsModule a m u → IsModule b m u
  to m u = (e m u).0

  from : (m : Path) (u : UnitTree) → IsModule b m u → IsModule a m u
  from m u = (e m u).1

  import_moves : (m : Path) (x : Name) (i : Imp) → IsImport a m x i → IsImport b m x i
  import_moves m x i h = record { unit = h.unit; is_module = to m h.unit h.is_module; undeclared = h.undeclared; stands = h.stands; local = h.local }

  imported_moves : (m : Path) (x : Name) (s : Symbol) → IsImported a m x s → IsImported b m x s
  imported_moves m x s h = record { import = h.import; is_import = import_moves m x h.import h.is_import; path = h.path; is_path = h.is_path; home = h.home; item = h.item }

  pub denotes_moves : (m : Path) (x : Name) (s : Symbol) → Denotes a m x s → Denotes b m x s
  denotes_moves m x _ (own {u = u} i d) = own (to m u i) d
  denotes_moves m x s (imported {u = u} i j d) = imported (imported_moves m x s i) (to s.home u j) d

  pub free_moves : (m : Path) (x : Name) → IsFree a m x → IsFree b m x
  free_moves m x h = record { unit = h.unit; is_module = to m h.unit h.is_module; undeclared = h.undeclared; unimported = h.unimported }

  missing_moves : (m : Path) (x : Name) (s : Symbol) → IsMissing a m x s → IsMissing b m x s
  missing_moves m x s (lacking {u = u} i j d k) = lacking (imported_moves m x s i) (to s.home u j) d k
  missing_moves m x _ (bare {i = i} h p) = bare (import_moves m x i h) p

  private_moves : (m : Path) (x : Name) (s : Symbol) → IsPrivate a m x s → IsPrivate b m x s
  private_moves m x s h = record { imported = imported_moves m x s h.imported; unit = h.unit; is_module = to s.home h.unit h.is_module; undeclared = h.undeclared; only_imported = h.only_imported }

  unloaded_moves : (m : Path) (x : Name) (s : Symbol) → IsUnloaded a m x s → IsUnloaded b m x s
  unloaded_moves m x s h = record { imported = imported_moves m x s h.imported; unloaded = λ u i. h.unloaded u (from s.home u i) }

  pub declaration_moves : (s : Symbol) (d : Decl) → IsDeclaration a s d → IsDeclaration b s d
  declaration_moves s d h = record { unit = h.unit; is_module = to s.home h.unit h.is_module; stands = h.stands; name = h.name }

  pub reached_moves : (s : Symbol) → Reached a root keep s → Reached b root keep s
  reached_moves _ (kept c) = kept c
  reached_moves t (onto {s = s} {d = d} {x = x} r i o den) = onto (reached_moves s r) (declaration_moves s d i) o (denotes_moves s.home x t den)

  asked_moves : (p : Path) → IsAsked a root keep p → IsAsked b root keep p
  asked_moves p h = record {
    from = h.from;
    declaration = h.declaration;
    name = h.name;
    target = h.target;
    reached = reached_moves h.from h.reached;
    declares = declaration_moves h.from h.declaration h.declares;
    occurs = h.occurs;
    unloaded = unloaded_moves h.from.home h.name h.target h.unloaded;
    home = h.home;
  }

  refused_moves : (m : Path) (d o : ℕ) (r : LoadError) → IsRefusedAt a root keep m d o r → IsRefusedAt b root keep m d o r
  refused_moves m d o r h = record {
    unit = h.unit;
    is_module = to m h.unit h.is_module;
    stands = h.stands;
    is_there = h.is_there;
    reached = reached_moves _ h.reached;
    name = h.name;
    occurs = h.occurs;
    target = h.target;
    why = ⊎_elim (λ w. inl (missing_moves m h.name h.target w.0, w.1)) (λ w. inr (private_moves m h.name h.target w.0, w.1)) h.why;
  }

module _ (a b : Modules) (root : Path) (keep : List Name) (e : SameUnits a b) where
  pub round_moves : (ps : List Path) → IsNextRound a root keep ps → IsNextRound b root keep ps
  round_moves ps h = record {
    ascending = h.ascending;
    asked = λ p. (λ c. asked_moves a b root keep e p ((h.asked p).0 c), λ q. (h.asked p).1 (asked_moves b a root keep (turned a b e) p q));
  }

  pub none_moves : NoneRefused a root keep → NoneRefused b root keep
  none_moves h m d o r at = h m d o r (refused_moves b a root keep (turned a b e) m d o r at)

  pub first_moves : (r : LoadError) → IsFirstRefused a root keep r → IsFirstRefused b root keep r
  first_moves r h = record {
    home = h.home;
    declaration = h.declaration;
    occurrence = h.occurrence;
    refused = refused_moves a b root keep e h.home h.declaration h.occurrence r h.refused;
    first = λ m d o s at before. h.first m d o s (refused_moves b a root keep (turned a b e) m d o s at) before;
  }
