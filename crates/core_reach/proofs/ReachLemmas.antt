-- What is reached by places is what is reached.
use Rattle.std.proofs.Common.{◌≡◌, refl, sym, ap, ◌∙◌, subst, ℕ, List, Option, Some, None}
use Rattle.std.specs.Prelude.{slice_get}
use Rattle.std.specs.Option.{IsSome}
use Rattle.std.specs.List.{Contains}
use Rattle.core_syntax.specs.Tree.{Decl, UnitTree}
use Rattle.core_syntax.specs.Names.{declared_name}
use Rattle.core_link_spec.specs.Occurrences.{Name}
use Rattle.core_link_spec.specs.Modules.{Path, Symbol, Modules, IsModule, Declares, Imports, local_name, IsImport, IsImported, Denotes, IsDeclaration, Reached}
use Rattle.core_link_spec.specs.Modules as spec
use Rattle.core_scopes.specs.Meanings.{Known, declared, imported, bare, known, import_known}
use Rattle.core_scopes.specs.Outcomes.{symbol_at, Loaded, item_in, item_at, meant_as, outcome}
use Rattle.core_scopes.specs.Tells.{IsFinder, StandsAt, Tells}
use Rattle.core_reach.specs.Reach.{ReachedAt, kept, onto, Holding, Settled, IsSettled, KeepsAll, IsRooted}
use Rattle.wgsl_base.proofs.Members.{to_contains, from_contains}
use Rattle.core_scopes.proofs.ScopeLemmas.{import_means, value_means}
use Rattle.core_scopes.proofs.TellLemmas.{declared_known, declares, tells}

the_unit : (o : Option (Path × UnitTree)) (p : Path) (u : UnitTree) (h : Path × UnitTree) → o ≡ Some (p, u) → o ≡ Some h → h ≡ (p, u)
the_unit o p u h e f = let both : Some h ≡ Some (p, u) = sym f ∙ e in cc

pub the_declaration : (o : Option Decl) (d e : Decl) → o ≡ Some d → o ≡ Some e → d ≡ e
the_declaration o d e p q = let both : Some d ≡ Some e = sym p ∙ q in cc

the_place : (o : Option Known) (i j : ℕ) → o ≡ Some (declared i) → o ≡ Some (declared j) → i ≡ j
the_place o i j p q = let both : Some (declared i) ≡ Some (declared j) = sym p ∙ q in cc

module _ (modules : Modules) (find : Loaded) (finder : IsFinder modules find) where
  pub found_unit : (p : Path) (u : UnitTree) (h : Path × UnitTree) → IsModule modules p u → find p ≡ Some h → h ≡ (p, u)
  found_unit p u h is e = the_unit (find p) p u h (finder.finds p u is) e

  -- the declaration that a module has under a name
  at_home : (p : Path) (u : UnitTree) (x : Name) → IsModule modules p u → Declares u x
      → (j : ℕ) × (known u x ≡ Some (declared j)) × StandsAt modules p j (record { home = p; name = x })
  at_home p u x is has =
      let k = declared_known u x (finder.fresh p (p, u) (finder.finds p u is)) has in
      let d = declares u x k.0 k.1 in
      (k.0, k.1, record { unit = u; declaration = d.0; is_module = is; stands = d.1; home = refl; name = sym d.2 })

  -- an item that a module declares, where it is sought
  pub sought_at : (s : Symbol) (u : UnitTree) → IsModule modules s.home u → Declares u s.name
      → (j : ℕ) × (item_at s (find s.home) ≡ symbol_at s.home j) × StandsAt modules s.home j s
  sought_at s u is has =
      let t = at_home s.home u s.name is has in
      (t.0, ap (item_at s) (finder.finds s.home u is) ∙ ap (item_in s.home s) t.1, t.2)

  module _ (m : Path × UnitTree) (here : find m.0 ≡ Some m) (x : Name) where
    own_found : (u : UnitTree) → IsModule modules m.0 u → Declares u x → (j : ℕ) × (outcome find m x ≡ symbol_at m.0 j) × StandsAt modules m.0 j (record { home = m.0; name = x })
    own_found u is has =
        let t = at_home m.0 u x is has in
        (t.0, ap (λ (h : Path × UnitTree). meant_as find m.0 (known h.1 x)) (found_unit m.0 u m is here) ∙ ap (meant_as find m.0) t.1, t.2)

    pub import_found : (s : Symbol) → (to : IsImported modules m.0 x s) → known m.1 x ≡ Some (imported (to.path, s))
    import_found s to =
        let i = to.is_import in
        let unit : m ≡ (m.0, i.unit) = found_unit m.0 i.unit m i.is_module here in
        let means = import_means i.unit to.import (finder.fresh m.0 (m.0, i.unit) (finder.finds m.0 i.unit i.is_module)) i.stands in
        ap (λ (h : Path × UnitTree). known h.1 x) unit
        ∙ ap (known i.unit) (sym i.local)
        ∙ means
        ∙ ap (λ o. Some (import_known o to.import.item)) to.is_path
        ∙ (λ k. Some (imported (to.path, record { home = to.home k; name = to.item k })))

    -- what a name denotes is what is found
    pub denoted : {s : Symbol} → Denotes modules m.0 x s → (j : ℕ) × (outcome find m x ≡ symbol_at s.home j) × StandsAt modules s.home j s
    denoted (spec.own {u} is has) = own_found u is has
    denoted (spec.imported {s} {u} to is has) =
        let t = sought_at s u is has in
        (t.0, ap (meant_as find m.0) (import_found s to) ∙ t.1, t.2)

  -- where a declaration of a name stands, there is no other
  pub same_place : (p : Path) (i j : ℕ) (s : Symbol) (u : UnitTree) (d : Decl) → StandsAt modules p i s → IsModule modules p u → slice_get u.declarations j ≡ Some d → declared_name d ≡ s.name → j ≡ i
  same_place p i j s u d at is there name =
      let fresh = finder.fresh p (p, u) (finder.finds p u is) in
      let unit : (p, at.unit) ≡ (p, u) = found_unit p u (p, at.unit) is (finder.finds p at.unit at.is_module) in
      let there_too : slice_get u.declarations i ≡ Some at.declaration = subst (λ (h : Path × UnitTree). slice_get h.1.declarations i ≡ Some at.declaration) unit at.stands in
      the_place (known u s.name) j i
      (ap (known u) (sym name) ∙ value_means u j d fresh there)
      (ap (known u) at.name ∙ value_means u i at.declaration fresh there_too)

  pub stands_there : (p : Path) (i : ℕ) (s : Symbol) (h : Path × UnitTree) (d : Decl) → StandsAt modules p i s → find p ≡ Some h → slice_get h.1.declarations i ≡ Some d → IsDeclaration modules s d
  stands_there p i s h d at is there =
      let unit : h ≡ (p, at.unit) = found_unit p at.unit h at.is_module is in
      let same : d ≡ at.declaration = the_declaration (slice_get at.unit.declarations i) d at.declaration (subst (λ (g : Path × UnitTree). slice_get g.1.declarations i ≡ Some d) unit there) at.stands in
      record {
        unit = at.unit;
        is_module = subst (λ q. IsModule modules q at.unit) (sym at.home) at.is_module;
        stands = subst (Contains at.unit.declarations) (sym same) (to_contains at.unit.declarations i at.declaration at.stands);
        name = ap declared_name same ∙ sym at.name;
      }

  module _ (root : Path) (keep : List Name) where
    kept_symbol : (x : Name) (o : Option (Path × UnitTree)) (m : Path) (place : ℕ) → find root ≡ o → item_at (record { home = root; name = x }) o ≡ symbol_at m place
        → StandsAt modules m place (record { home = root; name = x })
    kept_symbol x None m place is e = absurd (cc)
    kept_symbol x (Some h) m place is e = at (known h.1 x) refl e
      where
        at : (k : Option Known) → known h.1 x ≡ k → item_in h.0 (record { home = root; name = x }) k ≡ symbol_at m place → StandsAt modules m place (record { home = root; name = x })
        at None f g = absurd (cc)
        at (Some (imported t)) f g = absurd (cc)
        at (Some (bare t)) f g = absurd (cc)
        at (Some (declared j)) f g =
            let found = finder.found root h is in
            let d = declares h.1 x j f in
            let home : h.0 ≡ m = cc in
            let here : j ≡ place = cc in
            record {
              unit = h.1;
              declaration = d.0;
              is_module = subst (λ p. IsModule modules p h.1) (sym found.1 ∙ home) found.0;
              stands = subst (λ k. slice_get h.1.declarations k ≡ Some d.0) here d.1;
              home = sym found.1 ∙ home;
              name = sym d.2;
            }

    pub reached_there : {m : Path} {place : ℕ} → ReachedAt find root keep m place → (s : Symbol) × StandsAt modules m place s × Reached modules root keep s
    reached_there (kept {x} {m} {place} c e) = (record { home = root; name = x }, kept_symbol x (find root) m place refl e, spec.kept c)
    reached_there (onto {m} {n} {k} {place} {h} {d} {x} r is there c e) =
        let s = reached_there r in
        let home : h.0 ≡ m = (finder.found m h is).1 in
        let t = subst (Tells modules h.0 x) e (tells modules find finder h (ap find home ∙ is) x) in
        (t.0, t.1, spec.onto s.2 (stands_there m k s.0 h d s.1 is there) c (subst (λ p. Denotes modules p x t.0) (home ∙ sym s.1.home) t.2))

    pub there_reached : IsRooted modules root keep → {s : Symbol} → Reached modules root keep s → (j : ℕ) × StandsAt modules s.home j s × ReachedAt find root keep s.home j
    there_reached rooted (spec.kept {x} c) =
        let t = sought_at (record { home = root; name = x }) rooted.0 rooted.1 (rooted.2 x c) in
        (t.0, t.2, kept c t.1)
    there_reached rooted (spec.onto {s} {t} {d} {x} r is c to) =
        let at = there_reached rooted r in
        let p = from_contains is.unit.declarations d is.stands in
        let here : find s.home ≡ Some (s.home, is.unit) = finder.finds s.home is.unit is.is_module in
        let place : p.0 ≡ at.0 = same_place s.home at.0 p.0 s is.unit d at.1 is.is_module p.1 is.name in
        let found = denoted (s.home, is.unit) here x to in
        (found.0, found.2, onto at.2 here (subst (λ k. slice_get is.unit.declarations k ≡ Some d) place p.1) c found.1)

-- what is settled has all that is reached
pub reached_held : (find : Loaded) (root : Path) (keep : List Name) (held : Holding) → KeepsAll find root keep held → IsSettled find held
    → {m : Path} {place : ℕ} → ReachedAt find root keep m place → IsSome (held m place)
reached_held find root keep held keeps settled (kept {x} {m} {place} c e) =
    let k = keeps x c in
    let same : symbol_at k.0 k.1 ≡ symbol_at m place = sym k.2 ∙ e in
    subst (Settled held) same k.3
reached_held find root keep held keeps settled (onto {m} {n} {k} {place} {h} {d} {x} r is there c e) =
    subst (Settled held) e (settled m k h d x (reached_held find root keep held keeps settled r) is there c)
