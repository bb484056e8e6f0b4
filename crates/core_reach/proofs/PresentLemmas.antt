-- That nothing is missing, one name, one place, one module after another.
use Rattle.std.proofs.Common.{◌≡◌, refl, sym, ap, ◌∙◌, subst, ℕ, ◌+◌, ◌<◌, ◌⊎◌, inl, inr, ⊎_elim, List, [], ◌∷◌, false, Option, Some, None, arith}
use Rattle.std.specs.Prelude.{slice_get, string_bytes}
use Rattle.std.specs.Option.{IsSome}
use Rattle.std.specs.Ordering.{nat_cmp, is_eq}
use Rattle.std.specs.Cmp.{unsigned_ties}
use Rattle.std.specs.Cmp.Lexicographic.{slice_cmp}
use Rattle.std.specs.List.{Contains}
use Rattle.std.specs.BTreeMap.{BTreeMap, get, get_by_text, is_at, keys}
use Rattle.std.specs.declared.string.String.{String}
use Rattle.std.specs.declared.alloc.Global.{Global}
use Rattle.std.proofs.lemmas.Bool.{eqb-true}
use Rattle.std.proofs.lemmas.Map.Entries.{place_from_lookup}
use Rattle.std.proofs.lemmas.Map.Text.{is_eq-slice_cmp}
use Rattle.wgsl_base.proofs.Members.{in_cases, to_contains, from_contains, get_map, same_bytes}
use denote.Ref.{Bor}
use Rattle.core_syntax.specs.Tree.{UnitTree}
use Rattle.core_link_spec.specs.Occurrences.{Name}
use Rattle.core_link_spec.specs.Modules.{Path}
use Rattle.core_rename.specs.Scopes.{texts}
use Rattle.core_scopes.specs.Outcomes.{Outcome, symbol_at, unloaded, missing, private, free, Loaded, outcome}
use Rattle.core_reach.specs.Closing.{HeldNames, name_among, held_at}
use Rattle.core_reach.specs.Following.{Stage, Handled, AllFollowed, IsPresent, ArePresent}

abbrev pub PresentBelow : Loaded → Path × UnitTree → List (Bor (List ℕ)) → ℕ → Type 0
PresentBelow find h names n = (i : ℕ) (x : Name) → i < n → slice_get (texts names) i ≡ Some x → IsPresent (outcome find h x)

pub one_present : (find : Loaded) (h : Path × UnitTree) (names : List (Bor (List ℕ))) (n : ℕ) (x : Name) → slice_get (texts names) n ≡ Some x
    → PresentBelow find h names n → IsPresent (outcome find h x) → PresentBelow find h names (n + 1)
one_present find h names n x is below now i y less there = ⊎_elim
    (λ before. below i y before there)
    (λ e. let both : Some x ≡ Some y = sym is ∙ ap (slice_get (texts names)) (sym e) ∙ there in let same : x ≡ y = cc in subst (λ z. IsPresent (outcome find h z)) same now)
    (either i n less)
  where
    either : (i n : ℕ) → i < n + 1 → (i < n) ⊎ (i ≡ n)
    either i n h = grind arith

-- ---- what is left to look at

-- what is true of each element that is no longer left
abbrev pub DoneBut : {A : Type 0} → (A → Type 0) → List A → List A → Type 0
DoneBut P left all = (x : _) → Contains all x → P x ⊎ Contains left x

pub one_done : {A : Type 0} (P : A → Type 0) (left rest all : List A) (y : A) → left ≡ y ∷ rest → P y → DoneBut P left all → DoneBut P rest all
one_done P left rest all y e now before x c = ⊎_elim (λ p. inl p) (λ l. ⊎_elim (λ same. inl (subst P same now)) (λ r. inr r) (in_cases y rest x (subst (λ l. Contains l x) e l))) (before x c)

pub all_done : {A : Type 0} (P : A → Type 0) (left all : List A) → left ≡ [] → DoneBut P left all → (x : A) → Contains all x → P x
all_done P left all e before x c = ⊎_elim (λ p. p) (λ l. let p = from_contains [] x (subst (λ l. Contains l x) e l) in let no : None ≡ Some x = p.1 in absurd (cc)) (before x c)

some_value : {A : Type 0} (o : Option A) → IsSome o → (x : A) × (o ≡ Some x)
some_value None s = absurd (cc)
some_value (Some x) s = (x, refl)

-- the key of what is found
pub key_found : {X : Type 0} (places : BTreeMap ℕ X) (k : ℕ) → IsSome (get nat_cmp places k) → Contains (keys places) k
key_found places k s =
    let v = some_value (get nat_cmp places k) s in
    let p = place_from_lookup (is_at (nat_cmp k)) places.entries v.0 v.1 in
    let same : k ≡ p.1 = eqb-true k p.1 (unsigned_ties k p.1 ∙ p.3) in
    subst (Contains (keys places)) (sym same) (to_contains (keys places) p.0 p.1 (get_map (λ e. e.0) places.entries p.0 (p.1, v.0) p.2))

-- the entry under which a place is held
pub entry_found : (held : HeldNames) (m : Path) (k : ℕ) → IsSome (held_at held m k)
    → (key : String Global) × (places : BTreeMap ℕ Name) × Contains held.entries (key, places) × (string_bytes key ≡ m) × IsSome (get nat_cmp places k)
entry_found held m k s = at (get_by_text held m) refl s
  where
    at : (o : Option (BTreeMap ℕ Name)) → get_by_text held m ≡ o → IsSome (name_among o k)
        → (key : String Global) × (places : BTreeMap ℕ Name) × Contains held.entries (key, places) × (string_bytes key ≡ m) × IsSome (get nat_cmp places k)
    at None e s = absurd (cc)
    at (Some places) e s =
        let p = place_from_lookup (λ l. is_eq (slice_cmp nat_cmp m (string_bytes l))) held.entries places e in
        (p.1, places, to_contains held.entries p.0 (p.1, places) p.2, sym (same_bytes m (string_bytes p.1) (sym (is_eq-slice_cmp m (string_bytes p.1)) ∙ p.3)), s)

-- with nothing missing
abbrev pub surely : Stage → Stage
surely s = record { held = s.held; asks = s.asks; is_missing = false; reached = [] }

sure_handled : (s : Stage) (o : Outcome) → s.is_missing ≡ false → Handled s o → Handled (surely s) o
sure_handled s (symbol_at m k) e h = h
sure_handled s (unloaded u) e h = h
sure_handled s (missing u) e h = sym e ∙ h
sure_handled s (private u) e h = sym e ∙ h
sure_handled s free e h = h

present_handled : (s : Stage) (o : Outcome) → IsPresent o → Handled s o → Handled (surely s) o
present_handled s (symbol_at m k) p h = h
present_handled s (unloaded u) p h = h
present_handled s (missing u) p h = absurd p
present_handled s (private u) p h = absurd p
present_handled s free p h = h

pub followed_sure : (find : Loaded) (s : Stage) → s.is_missing ≡ false → AllFollowed find s → AllFollowed find (surely s)
followed_sure find s e all m k held h d x is there c = sure_handled s (outcome find h x) e (all m k held h d x is there c)

pub followed_present : (find : Loaded) (s : Stage) → ((m : Path) (k : ℕ) → IsSome (s.held m k) → ArePresent find m k) → AllFollowed find s → AllFollowed find (surely s)
followed_present find s present all m k held h d x is there c = present_handled s (outcome find h x) (present m k held h d x is there c) (all m k held h d x is there c)
