-- What the code finds, told in the words of the definitions.
use Rattle.std.proofs.Common.{◌≡◌, refl, sym, ap, ◌∙◌, subst, ℕ, ⊎_elim, [], map, Option, Some, None, Err}
use Rattle.std.specs.Prelude.{slice_get}
use Rattle.std.specs.List.{Contains}
use Rattle.wgsl_path.specs.declared.path.ModulePath.{ModulePath}
use Rattle.wgsl_path.specs.Paths.{path_text}
use Rattle.core_syntax.specs.declared.unit.TranslationUnit.{TranslationUnit}
use Rattle.core_syntax.specs.Tree.{Decl, Imp, UnitTree}
use Rattle.core_syntax.specs.View.{unit_tree}
use Rattle.core_link_spec.specs.Occurrences.{Name, declared_name}
use Rattle.core_link_spec.specs.Modules.{Path, Symbol, Modules, IsModule, Declares, Imports, local_name, IsImport, IsImported, Denotes, own, IsMissing, lacking, IsPrivate, IsFree, IsUnloaded}
use Rattle.core_link_spec.specs.Modules as spec
use Rattle.core_link_spec.specs.Named.{HasImportOf}
use Rattle.core_scopes.specs.declared.error.ImportError.{ImportError}
use Rattle.core_scopes.specs.declared.error.ImportError.TheVariants.{OutOfMemory, DuplicateSymbol, TooManyModules, Resolve, MissingDecl, Private}
use Rattle.core_scopes.specs.Meanings.{Known, declared, imported, bare, known, names, first_again, import_known, import_entry, entries, Tabulates}
use Rattle.core_scopes.specs.Outcomes.{Loaded, item_in, item_at, meant_as, outcome}
use Rattle.core_scopes.specs.Tells.{Opens, IsFinder, Tells}
use Rattle.core_scopes.proofs.ScopeLemmas.{map_get, first_again_named, meant_at, entry_cases, import_means, value_means}
use Rattle.wgsl_base.proofs.Members.{to_contains, from_contains, get_map}

pub refused : (path : ModulePath) (unit : TranslationUnit) (e : ImportError) → Tabulates path (unit_tree unit) (Err e) → Opens path unit (Err e)
refused path unit OutOfMemory t = tt
refused path unit (DuplicateSymbol p x) t = (t.0, first_again_named (unit_tree unit) x t.1)
refused path unit (TooManyModules p) t = absurd t
refused path unit (Resolve r) t = absurd t
refused path unit (MissingDecl p x) t = absurd t
refused path unit (Private p x) t = absurd t

-- ---- one scope

abbrev pub IsFresh : UnitTree → Type 0
IsFresh u = first_again [] (names (entries u)) ≡ None

pub declared_known : (u : UnitTree) (x : Name) → IsFresh u → Declares u x → (j : ℕ) × (known u x ≡ Some (declared j))
declared_known u x fresh c =
    let p = from_contains (map declared_name u.declarations) x c in
    let d = map_get declared_name u.declarations p.0 x p.1 in
    (p.0, ap (known u) (sym d.2) ∙ value_means u p.0 d.0 fresh d.1)

imported_known : (u : UnitTree) (x : Name) → IsFresh u → Imports u x → (i : Imp) × (known u x ≡ Some (import_known i.path i.item))
imported_known u x fresh c =
    let p = from_contains (map local_name u.imports) x c in
    let i = map_get local_name u.imports p.0 x p.1 in
    (i.0, ap (known u) (sym i.2) ∙ import_means u i.0 fresh (to_contains u.imports p.0 i.0 i.1))

import_declares_not : (p : Option ModulePath) (x : Name) (j : ℕ) → import_known p x ≡ declared j → ⊥
import_declares_not None x j e = absurd (cc)
import_declares_not (Some path) x j e = absurd (cc)

import_target : (p : Option ModulePath) (x : Name) (t : ModulePath × Symbol) → import_known p x ≡ imported t → (p ≡ Some t.0) × (path_text t.0 ≡ t.1.home) × (x ≡ t.1.name)
import_target None x t e = absurd (cc)
import_target (Some path) x t e =
    let same : (path, record { home = path_text path; name = x }) ≡ t = cc in
    let is : path ≡ t.0 = ap (λ (u : ModulePath × Symbol). u.0) same in
    (ap Some is, ap path_text (sym is) ∙ ap (λ (u : ModulePath × Symbol). u.1.home) same, ap (λ (u : ModulePath × Symbol). u.1.name) same)

import_bare : (p : Option ModulePath) (x y : Name) → import_known p x ≡ bare y → (p ≡ None) × (x ≡ y)
import_bare None x y e = (refl, cc)
import_bare (Some path) x y e = absurd (cc)

pub name_of : (e : Name × Known) (x : Name) (k : Known) → e ≡ (x, k) → e.0 ≡ x
name_of e x k is = ap (λ (y : Name × Known). y.0) is

meaning_of : (e : Name × Known) (x : Name) (k : Known) → e ≡ (x, k) → e.1 ≡ k
meaning_of e x k is = ap (λ (y : Name × Known). y.1) is

-- the declaration that a name means
pub declares : (u : UnitTree) (x : Name) (j : ℕ) → known u x ≡ Some (declared j) → (d : Decl) × (slice_get u.declarations j ≡ Some d) × (declared_name d ≡ x)
declares u x j e =
    let m = meant_at (entries u) x (declared j) e in
    ⊎_elim
    (λ l. absurd (import_declares_not l.1.path l.1.item j (meaning_of (import_entry l.1) x (declared j) l.3)))
    (λ r.
    let place : r.0 ≡ j = (let same = meaning_of (declared_name r.1, declared r.0) x (declared j) r.3 in cc) in
    (r.1, subst (λ n. slice_get u.declarations n ≡ Some r.1) place r.2, name_of (declared_name r.1, declared r.0) x (declared j) r.3))
    (entry_cases u m.0 (x, declared j) m.1)

-- the import that a name means
imports : (u : UnitTree) (x : Name) (k : Known) → ((j : ℕ) → declared j ≡ k → ⊥) → known u x ≡ Some k → (i : Imp) × Contains u.imports i × (local_name i ≡ x) × (import_known i.path i.item ≡ k)
imports u x k other e =
    let m = meant_at (entries u) x k e in
    ⊎_elim
    (λ l. (l.1, to_contains u.imports l.0 l.1 l.2, name_of (import_entry l.1) x k l.3, meaning_of (import_entry l.1) x k l.3))
    (λ r. absurd (other r.0 (meaning_of (declared_name r.1, declared r.0) x k r.3)))
    (entry_cases u m.0 (x, k) m.1)

-- the path of what a name means by an import is that of an import
pub has_import : (u : UnitTree) (x : Name) (t : ModulePath × Symbol) → known u x ≡ Some (imported t) → HasImportOf u t.0
has_import u x t e =
    let i = imports u x (imported t) (λ j both. absurd (cc)) e in
    record { import = i.0; stands = i.1; is_path = (import_target i.0.path i.0.item t i.3).0 }

pub has_declared : (u : UnitTree) (x : Name) (j : ℕ) → known u x ≡ Some (declared j) → Declares u x
has_declared u x j e = let d = declares u x j e in to_contains (map declared_name u.declarations) j x (get_map declared_name u.declarations j d.0 d.1 ∙ ap (λ y. Some y) d.2)

not_declared : (u : UnitTree) (x : Name) (o : Option Known) → IsFresh u → known u x ≡ o → ((j : ℕ) → o ≡ Some (declared j) → ⊥) → Declares u x → ⊥
not_declared u x o fresh e other c = let k = declared_known u x fresh c in other k.0 (sym e ∙ k.1)

not_imported : (u : UnitTree) (x : Name) → IsFresh u → known u x ≡ None → Imports u x → ⊥
not_imported u x fresh e c = let k = imported_known u x fresh c in let both : None ≡ Some (import_known k.0.path k.0.item) = sym e ∙ k.1 in absurd (cc)

pub has_imported : (u : UnitTree) (x : Name) (k : Known) → ((j : ℕ) → declared j ≡ k → ⊥) → known u x ≡ Some k → Imports u x
has_imported u x k other e =
    let i = imports u x k other e in
    let p = from_contains u.imports i.0 i.1 in
    to_contains (map local_name u.imports) p.0 x (get_map local_name u.imports p.0 i.0 p.1 ∙ ap (λ y. Some y) i.2)

-- ---- the loaded modules

module _ (modules : Modules) (find : Loaded) (finder : IsFinder modules find) (m : Path × UnitTree) (here : find m.0 ≡ Some m) (x : Name) where
  abbrev u : UnitTree
  u = m.1

  fresh : IsFresh u
  fresh = finder.fresh m.0 m here

  home : IsModule modules m.0 u
  home = (finder.found m.0 m here).0

  import_of : (k : Known) → ((j : ℕ) → declared j ≡ k → ⊥) → known u x ≡ Some k → (i : Imp) × IsImport modules m.0 x i × (import_known i.path i.item ≡ k)
  import_of k other e =
      let i = imports u x k other e in
      (i.0, record { unit = u; is_module = home; undeclared = not_declared u x (Some k) fresh e (λ j both. other j (let same : k ≡ declared j = cc in sym same)); stands = i.1; local = i.2 }, i.3)

  target : (t : ModulePath × Symbol) → known u x ≡ Some (imported t) → IsImported modules m.0 x t.1
  target t e =
      let i = import_of (imported t) (λ j both. absurd (cc)) e in
      let is = import_target i.0.path i.0.item t i.2 in
      record { import = i.0; is_import = i.1; path = t.0; is_path = is.0; home = is.1; item = is.2 }

  sought : (s : Symbol) (h : Path × UnitTree) → IsImported modules m.0 x s → find s.home ≡ Some h → (o : Option Known) → known h.1 s.name ≡ o → Tells modules m.0 x (item_in h.0 s o)
  sought s h to is None e =
      let at = finder.found s.home h is in let new = finder.fresh s.home h is in
      lacking to at.0 (not_declared h.1 s.name None new e (λ j both. absurd (cc))) (not_imported h.1 s.name new e)
  sought s h to is (Some (declared j)) e =
      let at = finder.found s.home h is in let d = declares h.1 s.name j e in (
        s,
        record { unit = h.1; declaration = d.0; is_module = subst (λ p. IsModule modules p h.1) (sym at.1) at.0; stands = d.1; home = sym at.1; name = sym d.2 },
        spec.imported to at.0 (has_declared h.1 s.name j e),
      )
  sought s h to is (Some (imported t)) e =
      let at = finder.found s.home h is in let new = finder.fresh s.home h is in
      record { imported = to; unit = h.1; is_module = at.0; undeclared = not_declared h.1 s.name (Some (imported t)) new e (λ j both. absurd (cc)); only_imported = has_imported h.1 s.name (imported t) (λ j both. absurd (cc)) e }
  sought s h to is (Some (bare t)) e =
      let at = finder.found s.home h is in let new = finder.fresh s.home h is in
      record { imported = to; unit = h.1; is_module = at.0; undeclared = not_declared h.1 s.name (Some (bare t)) new e (λ j both. absurd (cc)); only_imported = has_imported h.1 s.name (bare t) (λ j both. absurd (cc)) e }

  sought_at : (s : Symbol) → IsImported modules m.0 x s → (o : Option (Path × UnitTree)) → find s.home ≡ o → Tells modules m.0 x (item_at s o)
  sought_at s to None e = record { imported = to; unloaded = λ v at. let both : None ≡ Some (s.home, v) = sym e ∙ finder.finds s.home v at in absurd (cc) }
  sought_at s to (Some h) e = sought s h to e (known h.1 s.name) refl

  told : (o : Option Known) → known u x ≡ o → Tells modules m.0 x (meant_as find m.0 o)
  told None e = record { unit = u; is_module = home; undeclared = not_declared u x None fresh e (λ j both. absurd (cc)); unimported = not_imported u x fresh e }
  told (Some (declared j)) e =
      let d = declares u x j e in
      (record { home = m.0; name = x }, record { unit = u; declaration = d.0; is_module = home; stands = d.1; home = refl; name = sym d.2 }, own home (has_declared u x j e))
  told (Some (imported t)) e = sought_at t.1 (target t e) (find t.1.home) refl
  told (Some (bare y)) e =
      let i = import_of (bare y) (λ j both. absurd (cc)) e in
      let b = import_bare i.0.path i.0.item y i.2 in
      subst (λ n. IsMissing modules m.0 x (record { home = m.0; name = n })) b.1 (spec.bare i.1 b.0)

  pub tells : Tells modules m.0 x (outcome find m x)
  tells = told (known u x) refl
