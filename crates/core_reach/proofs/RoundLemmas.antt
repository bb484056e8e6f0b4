-- What stays when more modules are loaded: for the rounds behind the root's.
use Rattle.std.proofs.Common.{◌≡◌, refl, sym, ap, ◌∙◌, subst, ℕ, List, true, false, Option, Some, None}
use Rattle.std.specs.Option.{IsSome}
use Rattle.core_syntax.specs.Tree.{UnitTree}
use Rattle.core_link_spec.specs.Occurrences.{Name}
use Rattle.core_link_spec.specs.Modules.{Path, Symbol}
use Rattle.core_scopes.specs.Meanings.{Known, declared, imported, bare, known}
use Rattle.core_scopes.specs.Outcomes.{Outcome, symbol_at, unloaded, missing, private, free, Loaded, item_in, item_at, meant_as}
use Rattle.core_reach.specs.Reach.{ReachedAt, kept, onto}
use Rattle.core_reach.specs.Following.{Stage, Handled, IsFollowed}

abbrev pub Grows : Loaded → Loaded → Type 0
Grows find more = (p : Path) (h : Path × UnitTree) → find p ≡ Some h → more p ≡ Some h

module _ (find more : Loaded) (grows : Grows find more) where
  pub item_grown : (t : Symbol) (m : Path) (k : ℕ) (o : Option (Path × UnitTree)) → find t.home ≡ o → item_at t o ≡ symbol_at m k → item_at t (more t.home) ≡ symbol_at m k
  item_grown t m k None is e = absurd (cc)
  item_grown t m k (Some h) is e = ap (item_at t) (grows t.home h is) ∙ e

  meant_grown : (home m : Path) (k : ℕ) (o : Option Known) → meant_as find home o ≡ symbol_at m k → meant_as more home o ≡ symbol_at m k
  meant_grown home m k None e = e
  meant_grown home m k (Some (declared j)) e = e
  meant_grown home m k (Some (imported t)) e = item_grown t.1 m k (find t.1.home) refl e
  meant_grown home m k (Some (bare y)) e = e

  pub reached_grown : (root : Path) (keep : List Name) → {m : Path} {k : ℕ} → ReachedAt find root keep m k → ReachedAt more root keep m k
  reached_grown root keep (kept {x} {m} {place} c e) = kept c (item_grown (record { home = root; name = x }) m place (find root) refl e)
  reached_grown root keep (onto {m} {n} {k} {place} {h} {d} {x} r is there c e) =
      onto (reached_grown root keep r) (grows m h is) there c (meant_grown h.0 n place (known h.1 x) e)

  module _ (s t : Stage) (sure : s.is_missing ≡ false) (held : (m : Path) (k : ℕ) → IsSome (s.held m k) → IsSome (t.held m k))
      (sought : (u : Symbol) → s.asks u ≡ true → Handled t (item_at u (more u.home))) where
    handled_same : (o : Outcome) → ((u : Symbol) → o ≡ unloaded u → ⊥) → Handled s o → Handled t o
    handled_same (symbol_at m k) loaded h = held m k h
    handled_same (unloaded u) loaded h = absurd (loaded u refl)
    handled_same (missing u) loaded h = let both : false ≡ true = sym sure ∙ h in absurd (cc)
    handled_same (private u) loaded h = let both : false ≡ true = sym sure ∙ h in absurd (cc)
    handled_same free loaded h = tt

    in_loaded : (m : Path) (u v : Symbol) (o : Option Known) → item_in m u o ≡ unloaded v → ⊥
    in_loaded m u v None e = absurd (cc)
    in_loaded m u v (Some (declared j)) e = absurd (cc)
    in_loaded m u v (Some (imported w)) e = absurd (cc)
    in_loaded m u v (Some (bare w)) e = absurd (cc)

    item_handled : (u : Symbol) (o : Option (Path × UnitTree)) → find u.home ≡ o → Handled s (item_at u o) → Handled t (item_at u (more u.home))
    item_handled u None is h = sought u h
    item_handled u (Some g) is h =
        subst (λ o. Handled t (item_at u o)) (sym (grows u.home g is)) (handled_same (item_in g.0 u (known g.1 u.name)) (λ v e. in_loaded g.0 u v (known g.1 u.name) e) h)

    meant_handled : (home : Path) (o : Option Known) → Handled s (meant_as find home o) → Handled t (meant_as more home o)
    meant_handled home None h = tt
    meant_handled home (Some (declared j)) h = held home j h
    meant_handled home (Some (imported u)) h = item_handled u.1 (find u.1.home) refl h
    meant_handled home (Some (bare y)) h = let both : false ≡ true = sym sure ∙ h in absurd (cc)

    pub followed_grown : (m : Path) (k : ℕ) (g : Path × UnitTree) → find m ≡ Some g → IsFollowed find s m k → IsFollowed more t m k
    followed_grown m k g loaded f h d x is there c =
        let both : Some h ≡ Some g = sym is ∙ grows m g loaded in
        let same : g ≡ h = (let e : h ≡ g = cc in sym e) in
        let here : find m ≡ Some h = loaded ∙ ap (λ y. Some y) same in
        meant_handled h.0 (known h.1 x) (f h d x here there c)
