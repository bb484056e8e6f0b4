-- The example's package is loaded.
use Rattle.std.specs.Prelude.{◌<◌, zero, suc, ◌∷◌, [], List, Some, None, Bool, true, false, codes, slice_get, length, Ok}
use Rattle.std.specs.List.{Contains, slice_index_or}
use Rattle.std.proofs.Common.{◌≡◌, refl, ap, sym, ◌∙◌, subst, ℕ, Option, inl, inr, arith, true≢false}
use Rattle.std.proofs.lemmas.Option.{none-some}
use Rattle.wesl_chains.proofs.Members.{to_contains, first_in, in_cases, in_none}
use Rattle.wesl_chains.proofs.Loops.{same_some, denotes_is_one}
use Rattle.wesl_chains.specs.Outlines.{Name, Path, Symbol, Use, Entry, Outline}
use Rattle.wesl_chains.specs.Senses.{Sense, own, imported, bare, free, sense}
use Rattle.wesl_chains.specs.Chains.{Outcome, declared_at, unloaded, comes_to, here, Denotes, by_own, by_item, by_bare}
use Rattle.wesl_chains.specs.Reaching.{IsAt, Reached, IsAsked, denotes_nothing, begins, a_kept_name}
use Rattle.wesl_linking_spec.specs.Outlining.{outline_of}
use Rattle.wesl_linking_spec.specs.Sources.{canonical, Modules, finder}
use Rattle.wesl_linking_spec.specs.Loading.{AreDistinct, no_names, another, is_loaded, one_too_many, Loads, loaded, none_left, refused, one_path, no_path, IsNextRound, NoneRefused, nothing_asked, a_round, a_module_refused, kept_missing, goes_on}
use Rattle.wesl_linking_spec.specs.Asks.{asks_first, for_the_root, onward as asks_onward, in_this_round}
use Rattle.wesl_linking_spec.specs.Linking.{lazy, Loading, by_loading}
use Rattle.wesl_linking_spec.specs.Examples.{plain}
use Rattle.wesl_linking_spec.specs.Packages.{root, m, root_tree, m_tree, both, sources, request, AskedExample, RefusedExample}
use Rattle.wesl_linking_spec.proofs.Places.{EachPlace, at_place}

abbrev pub root_outline : Outline
root_outline = outline_of (canonical root) root_tree

abbrev pub m_outline : Outline
m_outline = outline_of (canonical m) m_tree

abbrev pub alone : Modules
alone = (root, root_tree) ∷ []

abbrev pub keep : List Name
keep = codes "a" ∷ []

-- ---- names that are free denote nothing

abbrev is_free : Sense → Bool
is_free free = true
is_free _ = false

not_free : (x y : Sense) → x ≡ free → x ≡ y → is_free y ≡ true
not_free x y e f = sym (ap is_free (sym e ∙ f))

pub free_denotes_none : (ms : Modules) (p : Path) (o : Outline) (u : Use) (ps : List Path) (r : Outcome) → sense o u ≡ free → Denotes (finder ms) p o u ps r → ⊥
free_denotes_none ms p o u ps r is (by_own {k = k} e) = true≢false (sym (not_free (sense o u) (own k) is e))
free_denotes_none ms p o u ps r is (by_item {s = s} e c) = true≢false (sym (not_free (sense o u) (imported s) is e))
free_denotes_none ms p o u ps r is (by_bare {x = x} e) = true≢false (sym (not_free (sense o u) (bare x) is e))

-- ---- the names that are used: `two` in the root, and one that is free

pub data Case (p : Path) (k : ℕ) (o : Outline) (u : Use) : Type 0 where
  is_two : root ≡ p → 0 ≡ k → root_outline ≡ o → plain (codes "two") ≡ u → Case p k o u
  is_u : m ≡ p → 0 ≡ k → m_outline ≡ o → plain (codes "u") ≡ u → Case p k o u

abbrev Cases : Path → ℕ → Outline → Entry → Type 0
Cases p k o e = (u : Use) → Contains e.uses u → Case p k o u

root_cases : (k : ℕ) (e : Entry) → slice_get root_outline.entries k ≡ Some e → Cases root k root_outline e
root_cases zero e h u c = elim (in_cases (plain (codes "two")) [] u (subst (λ x. Contains x.uses u) (sym (same_some h)) c)) [ inl same ↦ is_two refl refl refl same | inr none ↦ absurd (in_none u none) ]
root_cases (suc k) e h u c = absurd (none-some e h)

m_cases : (k : ℕ) (e : Entry) → slice_get m_outline.entries k ≡ Some e → Cases m k m_outline e
m_cases zero e h u c = elim (in_cases (plain (codes "u")) [] u (subst (λ x. Contains x.uses u) (sym (same_some h)) c)) [ inl same ↦ is_u refl refl refl same | inr none ↦ absurd (in_none u none) ]
m_cases (suc k) e h u c = absurd (none-some e h)

pub each_of_both : EachPlace Cases both
each_of_both = (root_cases, (m_cases, tt))

each_alone : EachPlace Cases alone
each_alone = (root_cases, tt)

pub case_of : (ms : Modules) → EachPlace Cases ms → (p : Path) (k : ℕ) (o : Outline) (e : Entry) (u : Use) → IsAt (finder ms) p k o e → Contains e.uses u → Case p k o u
case_of ms each p k o e u at used = at_place Cases ms each p o k e at.is_module at.stands_there u used

-- ---- what `two` denotes

abbrev two_in_m : Symbol
two_in_m = record { home = m; name = codes "two" }

waits : Denotes (finder alone) root root_outline (plain (codes "two")) [] (unloaded two_in_m)
waits = by_item {s = two_in_m} refl (comes_to {t = two_in_m} {ps = []} {more = []} here refl)

pub ends : Denotes (finder both) root root_outline (plain (codes "two")) (m ∷ []) (declared_at m 0)
ends = by_item {s = two_in_m} refl (comes_to {t = two_in_m} {ps = []} {more = m ∷ []} here refl)

-- where `two` denotes this, whatever is used and denotes something denotes this
pub comes_so : (ms : Modules) (qs : List Path) (t : Outcome) → Denotes (finder ms) root root_outline (plain (codes "two")) qs t
    → (p : Path) (k : ℕ) (o : Outline) (u : Use) (ps : List Path) (r : Outcome) → Case p k o u → Denotes (finder ms) p o u ps r → r ≡ t
comes_so ms qs t d p k o u ps r (is_two a b c same) e =
    let back : Denotes (finder ms) root root_outline (plain (codes "two")) ps r =
    subst (λ y. Denotes (finder ms) y root_outline (plain (codes "two")) ps r) (sym a) (subst (λ y. Denotes (finder ms) p y (plain (codes "two")) ps r) (sym c) (subst (λ y. Denotes (finder ms) p o y ps r) (sym same) e)) in
    (denotes_is_one (finder ms) root root_outline (plain (codes "two")) ps qs r t back d).1
comes_so ms qs t d p k o u ps r (is_u a b c same) e =
    absurd (free_denotes_none ms p o u ps r (subst (λ y. sense o y ≡ free) same (subst (λ y. sense y (plain (codes "u")) ≡ free) c refl)) e)

-- ---- rounds

module _ (ms : Modules) (each : EachPlace Cases ms) (qs : List Path) (t : Outcome) (d : Denotes (finder ms) root root_outline (plain (codes "two")) qs t) where
  outcome_of : (p : Path) (k : ℕ) (o : Outline) (e : Entry) (u : Use) (ps : List Path) (r : Outcome) → IsAt (finder ms) p k o e → Contains e.uses u → Denotes (finder ms) p o u ps r → r ≡ t
  outcome_of p k o e u ps r at used c = comes_so ms qs t d p k o u ps r (case_of ms each p k o e u at used) c

  none_refused : denotes_nothing t ≡ false → NoneRefused root keep false ms
  none_refused fine p k i r h =
      let same : r ≡ t = outcome_of p k h.outline h.entry h.occurring h.passed r h.is_at (to_contains h.entry.uses i h.occurring h.used) h.comes in
      true≢false (sym h.nothing ∙ ap denotes_nothing same ∙ fine)

a_reached : (ms : Modules) (e : Entry) → IsAt (finder ms) root 0 root_outline e → e.name ≡ Some (codes "a") → Reached (finder ms) root keep false root 0
a_reached ms e at named = begins (a_kept_name {x = codes "a"} at refl (0, omega arith, refl) named)

abbrev target_or : Path → Outcome → Path
target_or p (unloaded s) = s.home
target_or p _ = p

abbrev is_unloaded : Outcome → Bool
is_unloaded (unloaded s) = true
is_unloaded _ = false

a_entry : (e : Entry) → slice_get root_outline.entries 0 ≡ Some e → Contains e.uses (plain (codes "two")) × (e.name ≡ Some (codes "a"))
a_entry e h = (subst (λ x. Contains x.uses (plain (codes "two"))) (same_some h) (0, omega arith, refl), subst (λ x. x.name ≡ Some (codes "a")) (same_some h) refl)

m_asked : IsAsked (finder alone) root keep false m
m_asked = at (slice_get root_outline.entries 0) refl
  where
    at : (x : Option Entry) → slice_get root_outline.entries 0 ≡ x → IsAsked (finder alone) root keep false m
    at None h = absurd (none-some _ (sym h))
    at (Some e) h =
        let known = a_entry e h in
        let there : IsAt (finder alone) root 0 root_outline e = record { is_module = refl; stands_there = h } in
        record {
          home = root;
          place = 0;
          outline = root_outline;
          entry = e;
          is_at = there;
          reached = a_reached alone e there known.1;
          occurring = plain (codes "two");
          used = known.0;
          target = two_in_m;
          passed = [];
          unfinished = waits;
          is_home = refl;
        }

first_round : IsNextRound root keep false alone (m ∷ [])
first_round = record {
  ascending = one_path;
  asked = λ p. (
    (λ c. elim (in_cases m [] p c) [ inl e ↦ subst (IsAsked (finder alone) root keep false) e m_asked | inr none ↦ absurd (in_none p none) ]),
    (λ h. let same = outcome_of alone each_alone [] (unloaded two_in_m) waits h.home h.place h.outline h.entry h.occurring h.passed (unloaded h.target) h.is_at h.used h.unfinished in
        subst (Contains (m ∷ [])) (sym (ap (target_or m) same) ∙ h.is_home) (first_in m [])),
  );
}

last_round : IsNextRound root keep false both []
last_round = record {
  ascending = no_path;
  asked = λ p. (
    (λ c. absurd (in_none p c)),
    (λ h. let same = outcome_of both each_of_both (m ∷ []) (declared_at m 0) ends h.home h.place h.outline h.entry h.occurring h.passed (unloaded h.target) h.is_at h.used h.unfinished in
        absurd (true≢false (ap is_unloaded same))),
  );
}

-- ---- loading

root_distinct : AreDistinct (codes "two" ∷ codes "a" ∷ [])
root_distinct = another {x = codes "a"} {xs = codes "two" ∷ []} (another {x = codes "two"} {xs = []} no_names (in_none (codes "two")))
    (λ c. elim (in_cases (codes "two") [] (codes "a") c) [ inl e ↦ absurd (three_one (ap length e)) | inr none ↦ in_none (codes "a") none ])
  where
    three_one : ◌≡◌ {A = ℕ} 3 1 → ⊥
    three_one h = omega arith

m_distinct : AreDistinct (codes "two" ∷ [])
m_distinct = another {x = codes "two"} {xs = []} no_names (in_none (codes "two"))

root_loads : (max : ℕ) → 0 < max → Loads sources max 0 (root ∷ []) (Ok alone)
root_loads max some = loaded (is_loaded some refl root_distinct) none_left

m_loads : Loads sources 2 1 (m ∷ []) (Ok ((m, m_tree) ∷ []))
m_loads = loaded (is_loaded (omega arith) refl m_distinct) none_left

declares_kept : (x : Name) → Contains keep x → Contains (codes "a" ∷ []) x
declares_kept x c = c

some_path : m ∷ [] ≡ [] → ⊥
some_path e = one_none (ap length e)
  where
    one_none : ◌≡◌ {A = ℕ} 1 0 → ⊥
    one_none h = omega arith

waits_fine : NoneRefused root keep false alone
waits_fine = none_refused alone each_alone [] (unloaded two_in_m) waits refl

ends_fine : NoneRefused root keep false both
ends_fine = none_refused both each_of_both (m ∷ []) (declared_at m 0) ends refl

pub both_loaded : Loading (request lazy keep 2) sources (Ok both)
both_loaded = goes_on (root_loads 2 (omega arith)) declares_kept (a_round waits_fine first_round some_path m_loads (nothing_asked ends_fine last_round))

pub asked : AskedExample
asked = (for_the_root (asks_first (omega arith)), asks_onward (root_loads 2 (omega arith)) declares_kept (in_this_round waits_fine first_round (asks_first (omega arith))))

lacks_b : Contains (codes "a" ∷ []) (codes "b") → ⊥
lacks_b c = elim (in_cases (codes "a") [] (codes "b") c) [ inl e ↦ differ (ap (λ x. slice_index_or x 0 0) e) | inr none ↦ in_none (codes "b") none ]
  where
    differ : ◌≡◌ {A = ℕ} 97 98 → ⊥
    differ h = omega arith

pub refused_so : RefusedExample
refused_so = (
  by_loading (goes_on (root_loads 1 (omega arith)) declares_kept (a_module_refused waits_fine first_round (refused (one_too_many (omega arith))))),
  by_loading (kept_missing (root_loads 1 (omega arith)) (record { before = codes "a" ∷ []; behind = []; whole = refl; declares = λ y c. c; lacks = lacks_b })),
)
