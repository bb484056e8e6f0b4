-- What loading comes to over sources that agree on what is asked of one of them.
use Rattle.std.specs.Prelude.{◌↔◌}
use Rattle.std.proofs.Common.{◌≡◌, ◌⊎◌, inl, inr, ℕ, ◌<◌, List, [], ◌∷◌, Result, Ok, Err, refl, sym, ap, ◌∙◌, subst, arith}
use Rattle.std.proofs.lemmas.Bool.{cases_order}
use Rattle.wesl_resolve.specs.Found.{Answer, unit_of}
use Rattle.core_link_spec.specs.Occurrences.{Name}
use Rattle.core_link_spec.specs.Modules.{Path, Modules}
use Rattle.core_link_spec.specs.Named.{ImportsAreApart}
use Rattle.core_link_spec.specs.Kept.{kept_names}
use Rattle.core_link_spec.specs.Rounds.{Sources, LoadError, too_many_modules, Loads, one_too_many, is_not_found, is_faulty, is_unsupported, has_a_name_twice, loaded_then_refused, loaded, IsLoadingResult, root_refused, kept_name_missing, goes_on}
use Rattle.core_modules_meaning.specs.Agreement.{AreAlike}
use Rattle.core_link_spec.specs.Asks.{Asks, AsksAmong, asks_first, asks_next, for_the_root, onward}
use Rattle.core_modules_meaning.specs.Determined.{IsFunctional, SameOutcome}
use Rattle.core_modules_meaning.proofs.Agreement.{listed_modules_are_alike}
use Rattle.core_modules_meaning.proofs.Asked.{only_what_is_asked_counts}
use Rattle.core_modules_meaning.proofs.Determined.{loads_once}
use Rattle.core_modules_meaning.proofs.Loading.{found_modules}
use Rattle.weslc_errors.specs.Headline.{AreKept}
use Rattle.weslc_errors.specs.Answers.{AreLoadedFrom, IsRefusedLoading, of_the_root, behind_the_root}
use Rattle.weslc_errors.specs.Asked.{IsAskedOf, the_root, behind_the_root as asked_behind}
use Rattle.core_agreement.specs.Asked.{AgreesOnAsked}
use Rattle.core_agreement.proofs.Units.{some_come}

-- ---- one run

module _ (found : Sources) (root : Path) (asked : List Name) (max : ℕ) where
  -- the root is refused, or this is what loading comes to where its unit's names are kept
  pub data Outcome : Result Modules LoadError → Type 0 where
    at_the_root : {r : LoadError} → Loads found max 0 (root ∷ []) (Err r) → Outcome (Err r)
    from_the_root : {keep : List Name} {o : Result Modules LoadError} → AreKept found root asked keep → IsLoadingResult found root keep max o → Outcome o

  pub refused_outcome : (r : LoadError) → IsRefusedLoading found root asked max r → Outcome (Err r)
  refused_outcome r (of_the_root l) = at_the_root l
  refused_outcome r (behind_the_root {unit = unit} is c) = from_the_root (record { unit = unit; found = is; are = refl }) c

  pub loaded_outcome : (keep : List Name) (modules : Modules) → AreLoadedFrom found root asked max keep modules → Outcome (Ok modules)
  loaded_outcome keep modules l = from_the_root l.are_kept l.loaded

  -- where no module may be loaded, the root is one too many
  none_loads : (0 < max → ⊥) → (o : Result Modules LoadError) → Loads found max 0 (root ∷ []) o → o ≡ Err (too_many_modules root)
  none_loads none _ (one_too_many l) = refl
  none_loads none _ (is_not_found l f) = absurd (none l)
  none_loads none _ (is_faulty l f) = absurd (none l)
  none_loads none _ (is_unsupported l f) = absurd (none l)
  none_loads none _ (has_a_name_twice l f a) = absurd (none l)
  none_loads none _ (loaded_then_refused l f d rest) = absurd (none l)
  none_loads none _ (loaded l f d t rest) = absurd (none l)

  none_loaded : (0 < max → ⊥) → (modules : Modules) → Loads found max 0 (root ∷ []) (Ok modules) → ⊥
  none_loaded none modules l = let is : Ok modules ≡ Err (too_many_modules root) = none_loads none (Ok modules) l in absurd (cc)

  none_comes : (0 < max → ⊥) → (keep : List Name) (o : Result Modules LoadError) → IsLoadingResult found root keep max o → o ≡ Err (too_many_modules root)
  none_comes none keep _ (root_refused {r = r} l) = none_loads none (Err r) l
  none_comes none keep _ (kept_name_missing l f) = absurd (none_loaded none _ l)
  none_comes none keep o (goes_on l h g) = absurd (none_loaded none _ l)

  pub none_may : (0 < max → ⊥) → (o : Result Modules LoadError) → Outcome o → o ≡ Err (too_many_modules root)
  none_may none _ (at_the_root {r = r} l) = none_loads none (Err r) l
  none_may none o (from_the_root {keep = keep} are c) = none_comes none keep o c

-- one may be loaded, or none
some_or_none : (n : ℕ) → (0 < n) ⊎ (0 < n → ⊥)
some_or_none n = at (cases_order 0 n)
  where
    at : (0 ≡ n) ⊎ ((0 < n) ⊎ (n < 0)) → (0 < n) ⊎ (0 < n → ⊥)
    at (inl none) = inr (λ some. omega arith)
    at (inr (inl some)) = inl some
    at (inr (inr less)) = absurd (omega arith)

-- ---- two runs

module _ (found other : Sources) (one : IsFunctional found) (two : IsFunctional other) (root : Path) (asked : List Name) (max : ℕ) (agree : AgreesOnAsked found root asked max other) where
  -- the kept names are the same
  kept_alike : 0 < max → (keep more : List Name) → AreKept found root asked keep → AreKept other root asked more → more ≡ keep
  kept_alike some keep more a b =
      let there : other root (unit_of a.unit) = (agree root (the_root some) (unit_of a.unit)).0 a.found in
      let answers : unit_of a.unit ≡ unit_of b.unit = two root _ _ there b.found in
      let units : a.unit ≡ b.unit = cc in
      b.are ∙ ap (kept_names asked) (sym units) ∙ sym a.are

  -- what is asked for from the root on
  agrees_behind : (keep : List Name) → AreKept found root asked keep → (p : Path) → Asks found root keep max p → (a : Answer) → found p a ↔ other p a
  agrees_behind keep are p asks = agree p (asked_behind are asks)

  asks_the_root : 0 < max → (p : Path) → AsksAmong found max 0 (root ∷ []) p → IsAskedOf found root asked max p
  asks_the_root some _ (asks_first l) = the_root some
  asks_the_root some p (asks_next l f d rest) = elim rest [ ]

  -- where the root is refused, nothing else is
  agrees_at : 0 < max → (r : LoadError) → Loads found max 0 (root ∷ []) (Err r) → (keep : List Name) (p : Path) → Asks found root keep max p → (a : Answer) → found p a ↔ other p a
  agrees_at some r l keep p (for_the_root a) = agree p (asks_the_root some p a)
  agrees_at some r l keep p (onward {path = path} {u = u} k h g) = absurd (loads_once found one max 0 (root ∷ []) (Err r) (Ok ((path, u) ∷ [])) l k)

  outcomes_same : 0 < max → (o q : Result Modules LoadError) → Outcome found root asked max o → Outcome other root asked max q → SameOutcome o q
  outcomes_same some _ _ (at_the_root {r = r} l) (at_the_root {r = s} k) = only_what_is_asked_counts found other two root [] max (agrees_at some r l []) (Err r) (Err s) (root_refused l) (root_refused k)
  outcomes_same some _ q (at_the_root {r = r} l) (from_the_root {keep = keep} are c) = only_what_is_asked_counts found other two root keep max (agrees_at some r l keep) (Err r) q (root_refused l) c
  outcomes_same some o _ (from_the_root {keep = keep} are c) (at_the_root {r = s} k) = only_what_is_asked_counts found other two root keep max (agrees_behind keep are) o (Err s) c (root_refused k)
  outcomes_same some o q (from_the_root {keep = keep} are c) (from_the_root {keep = more} there d) =
      only_what_is_asked_counts found other two root keep max (agrees_behind keep are) o q c (subst (λ k. IsLoadingResult other root k max q) (kept_alike some keep more are there) d)

  -- both come to the same
  pub same_outcome : (o q : Result Modules LoadError) → Outcome found root asked max o → Outcome other root asked max q → SameOutcome o q
  same_outcome o q a b = by (some_or_none max)
    where
      refused : Result Modules LoadError
      refused = Err (too_many_modules root)

      by : (0 < max) ⊎ (0 < max → ⊥) → SameOutcome o q
      by (inl some) = outcomes_same some o q a b
      by (inr none) =
          subst (λ z. SameOutcome z q) (sym (none_may found root asked max none o a)) (subst (SameOutcome refused) (sym (none_may other root asked max none q b)) refl)

  -- what is loaded is alike, and the kept names are the same
  pub loaded_alike : ImportsAreApart found → (keep more : List Name) (modules others : Modules) → AreLoadedFrom found root asked max keep modules
      → AreLoadedFrom other root asked max more others → AreAlike root modules others
  loaded_alike apart keep more modules others a b =
      listed_modules_are_alike found root modules others
      (same_outcome (Ok modules) (Ok others) (loaded_outcome found root asked max keep modules a) (loaded_outcome other root asked max more others b))
      (found_modules found root keep max modules a.loaded) apart a.named b.named

  pub kept_are_one : (keep more : List Name) (modules : Modules) → AreLoadedFrom found root asked max keep modules → AreKept other root asked more → more ≡ keep
  kept_are_one keep more modules a b = kept_alike (some_come found root keep max modules a.loaded) keep more a.are_kept b
