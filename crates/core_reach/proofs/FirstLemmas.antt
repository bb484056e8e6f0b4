-- The first occurrence that denotes nothing, one name, one place, one module after another.
use Rattle.std.proofs.Common.{◌≡◌, refl, sym, ap, ◌∙◌, subst, ℕ, zero, suc, ◌<◌, ◌≤◌, ◌⊎◌, inl, inr, ⊎_elim, List, [], ◌∷◌, length, map, Bool, true, false, Some, None, arith}
use Rattle.std.specs.Prelude.{slice_get, string_bytes, nat_eq, if◌then◌else◌}
use Rattle.std.specs.Option.{IsSome}
use Rattle.std.specs.Str.{bytes_eq}
use Rattle.std.specs.Ordering.{nat_cmp, ordering_reverse, MatchOrdering}
use Rattle.std.specs.Cmp.{IsTotalOrder, ranks, unsigned_ties}
use Rattle.std.specs.Cmp.Lexicographic.{slice_cmp, nat_list_cmp_total}
use Rattle.std.specs.List.{Contains, AllByRecursion}
use Rattle.std.specs.List.Sorted.{IsStrictlySortedBy}
use Rattle.std.specs.BTreeMap.{BTreeMap, get, get_by_text, is_at, keys, IsOrdered}
use Rattle.std.specs.declared.cmp.Ordering.{Ordering}
use Rattle.std.specs.declared.cmp.Ordering.TheVariants.{Less, Greater}
use Rattle.std.specs.declared.string.String.{String}
use Rattle.std.specs.declared.alloc.Global.{Global}
use Rattle.std.specs.String.{string_cmp, string_cmp_total}
use Rattle.std.specs.Map.{lookup}
use Rattle.std.proofs.lemmas.Bool.{eqb-true, eq-eqb}
use Rattle.std.proofs.lemmas.Option.{slice_get_within}
use Rattle.std.proofs.lemmas.Map.Keys.{sorted_head, sorted_tail}
use Rattle.std.proofs.lemmas.Map.Entries.{btree_map_get_place}
use Rattle.wgsl_base.proofs.Members.{first_in, later_in, in_cases, same_bytes, bytes_same, to_contains, from_contains, get_map}
use denote.Ref.{Bor}
use Rattle.wgsl_path.specs.declared.path.ModulePath.{ModulePath}
use Rattle.wgsl_path.specs.Paths.{path_text}
use Rattle.core_syntax.specs.Tree.{Decl, UnitTree}
use Rattle.core_link_spec.specs.Occurrences.{Name, occurrences}
use Rattle.core_link_spec.specs.Modules.{Path}
use Rattle.core_link_spec.specs.Rounds.{LoadError, missing_decl, private as is_private, IsBefore, StandsBefore, by_module, by_declaration, by_occurrence}
use Rattle.core_rename.specs.Scopes.{texts}
use Rattle.core_scopes.specs.Outcomes.{Outcome, symbol_at, unloaded, missing, private, free, Loaded, outcome}
use Rattle.core_scopes.specs.declared.error.ImportError.{ImportError}
use Rattle.core_scopes.specs.declared.error.ImportError.TheVariants.{MissingDecl, Private}
use Rattle.core_reach.specs.Reach.{Holding}
use Rattle.core_reach.specs.Closing.{HeldNames, name_among, held_at}
use Rattle.core_reach.specs.Following.{IsPresent, ArePresent}
use Rattle.core_reach.specs.Missing.{RefusedFor, TellsWhy, held_in, held_alone, IsMissingAt, IsFirstMissing, NoneMissing, FindsMissing}
use Rattle.core_scopes.proofs.ScopeLemmas.{map_get}
use Rattle.core_reach.proofs.PresentLemmas.{PresentBelow, DoneBut, one_done, all_done, key_found, entry_found}

-- ---- why a name is refused

pub missing_why : (o : Outcome) (p q : ModulePath) (x y : Name) → missing (record { home = path_text q; name = y }) ≡ o → p ≡ q → x ≡ y → TellsWhy o (Some (MissingDecl p x))
missing_why o p q x y is path name =
    (missing_decl (path_text p) x, refl, subst (λ t. RefusedFor t (missing_decl (path_text p) x)) is (λ i. missing_decl (path_text (path i)) (name i)))

pub private_why : (o : Outcome) (p q : ModulePath) (x y : Name) → private (record { home = path_text q; name = y }) ≡ o → p ≡ q → x ≡ y → TellsWhy o (Some (Private p x))
private_why o p q x y is path name =
    (is_private (path_text p) x, refl, subst (λ t. RefusedFor t (is_private (path_text p) x)) is (λ i. is_private (path_text (path i)) (name i)))

-- what nothing is missing in is present
pub present_of : (o : Outcome) → ((r : LoadError) → RefusedFor o r → ⊥) → IsPresent o
present_of (symbol_at m k) never = tt
present_of (unloaded u) never = tt
present_of (missing u) never = never (missing_decl u.home u.name) refl
present_of (private u) never = never (is_private u.home u.name) refl
present_of free never = tt

pub not_refused : (o : Outcome) (r : LoadError) → IsPresent o → RefusedFor o r → ⊥
not_refused (symbol_at m k) r p why = why
not_refused (unloaded u) r p why = why
not_refused (missing u) r p why = p
not_refused (private u) r p why = p
not_refused free r p why = why

pub all_present_of : (find : Loaded) (held : Holding) → NoneMissing find held → (m : Path) (k : ℕ) → IsSome (held m k) → ArePresent find m k
all_present_of find held none m k some h d x is there c =
    let p = from_contains (occurrences d) x c in
    present_of (outcome find h x) (λ r why. none m k p.0 r (record { is_held = some; home = h; is_found = is; stands = d; is_there = there; name = x; occurs = p.1; why = why }))

-- ---- one place before another

pub before_cases : {m n : Path} {d o e p : ℕ} → StandsBefore m d o n e p → IsBefore m n ⊎ (((m ≡ n) × (d < e)) ⊎ ((m ≡ n) × (d ≡ e) × (o < p)))
before_cases (by_module less) = inl less
before_cases (by_declaration less) = inr (inl (refl, less))
before_cases (by_occurrence less) = inr (inr (refl, refl, less))

not_itself : {K : Type 0} (R : K → K → Ordering) → IsTotalOrder R → (x y : K) → x ≡ y → R x y ≡ Less → ⊥
not_itself R total x y same less =
    let here : R x x ≡ Less = subst (λ z. R x z ≡ Less) (sym same) less in
    let both : Less ≡ Greater = sym here ∙ total.antisymm x x ∙ ap ordering_reverse here in
    absurd (cc)

not_both : {K : Type 0} (R : K → K → Ordering) → IsTotalOrder R → (x y : K) → R x y ≡ Less → R y x ≡ Less → ⊥
not_both R total x y one other = not_itself R total x x refl (total.trans x y x one other)

-- ---- one declaration

alone_is : (m n : Path) (k j : ℕ) → IsSome (held_alone m k n j) → (m ≡ n) × (k ≡ j)
alone_is m n k j some = at (bytes_eq m n) (nat_eq k j) refl refl some
  where
    at : (b c : Bool) → bytes_eq m n ≡ b → nat_eq k j ≡ c → IsSome {T = Name} (if b then (if c then Some [] else None) else None) → (m ≡ n) × (k ≡ j)
    at true true is here some = (same_bytes m n is, eqb-true k j here)
    at true false is here some = absurd (cc)
    at false c is here some = absurd (cc)

is_alone : (m n : Path) (k j : ℕ) → m ≡ n → k ≡ j → IsSome (held_alone m k n j)
is_alone m n k j home place =
    let is : bytes_eq m n ≡ true = subst (λ t. bytes_eq m t ≡ true) home (bytes_same m) in
    let here : nat_eq k j ≡ true = eq-eqb k j place in
    subst (IsSome {T = Name}) (λ i. if sym is i then (if sym here i then Some [] else None) else None) refl

-- what is missing at a place that is known
missing_there : (find : Loaded) (held : Holding) (m n : Path) (k j o : ℕ) (h : Path × UnitTree) (d : Decl) (s : LoadError) → n ≡ m → j ≡ k → find m ≡ Some h → slice_get h.1.declarations k ≡ Some d
    → IsMissingAt find held n j o s → (x : Name) × (slice_get (occurrences d) o ≡ Some x) × RefusedFor (outcome find h x) s
missing_there find held m n k j o h d s home place here there at =
    let both : Some at.home ≡ Some h = sym at.is_found ∙ ap find home ∙ here in
    let unit : at.home ≡ h = cc in
    let two : Some at.stands ≡ Some d = sym at.is_there ∙ (λ i. slice_get (unit i).1.declarations (place i)) ∙ there in
    let same : at.stands ≡ d = cc in
    (at.name, ap (λ t. slice_get (occurrences t) o) (sym same) ∙ at.occurs, subst (λ (t : Path × UnitTree). RefusedFor (outcome find t at.name) s) unit at.why)

module _ (find : Loaded) (m : Path) (k : ℕ) where
  module _ (h : Path × UnitTree) (here : find m ≡ Some h) where
    module _ (d : Decl) (there : slice_get h.1.declarations k ≡ Some d) (names : List (Bor (List ℕ))) (whole : texts names ≡ occurrences d) (n : ℕ) (below : PresentBelow find h names n) where
      none_below : (held : Holding) (p : Path) (j o : ℕ) (s : LoadError) → m ≡ p → k ≡ j → o < n → IsMissingAt find held p j o s → ⊥
      none_below held p j o s home place less at =
          let x = missing_there find held m p k j o h d s (sym home) (sym place) here there at in
          not_refused (outcome find h x.0) s (below o x.0 less (ap (λ l. slice_get l o) whole ∙ x.1)) x.2

      pub none_alone : length names ≤ n → NoneMissing find (held_alone m k)
      none_alone all p j o s at =
          let is = alone_is m p k j at.is_held in
          let x = missing_there find (held_alone m k) m p k j o h d s (sym is.0) (sym is.1) here there at in
          let inside = map_get (λ (t : Bor (List ℕ)). t.now) names o x.0 (ap (λ l. slice_get l o) whole ∙ x.1) in
          let less : o < n = (let within : o < length names = slice_get_within names o inside.0 inside.1 in omega arith) in
          none_below (held_alone m k) p j o s is.0 is.1 less at

      pub first_alone : (x : Name) (e : ImportError) → slice_get (texts names) n ≡ Some x → TellsWhy (outcome find h x) (Some e) → FindsMissing find (held_alone m k) (Some e)
      first_alone x e is why = (
        why.0,
        why.1,
        record {
          home = m;
          declaration = k;
          occurrence = n;
          refused = record {
            is_held = is_alone m m k k refl refl;
            home = h;
            is_found = here;
            stands = d;
            is_there = there;
            name = x;
            occurs = ap (λ l. slice_get l n) (sym whole) ∙ is;
            why = why.2;
          };
          first = λ p j o s at before. not_before p j o s at (alone_is m p k j at.is_held) (before_cases before);
        },
      )
        where
          not_before : (p : Path) (j o : ℕ) (s : LoadError) → IsMissingAt find (held_alone m k) p j o s → (m ≡ p) × (k ≡ j)
              → IsBefore p m ⊎ (((p ≡ m) × (j < k)) ⊎ ((p ≡ m) × (j ≡ k) × (o < n))) → ⊥
          not_before p j o s at same cases = ⊎_elim
              (λ less. not_itself (slice_cmp nat_cmp) nat_list_cmp_total p m (sym same.0) less)
              (λ l. ⊎_elim (λ b. let here : k ≡ j = same.1 in let less : j < k = b.1 in absurd (omega arith)) (λ c. none_below (held_alone m k) p j o s same.0 same.1 c.2 at) l)
              cases

-- ---- part by part

every_in : {A : Type 0} (P : A → Type 0) (xs : List A) (x : A) → AllByRecursion P xs → Contains xs x → P x
every_in P xs x all c = let p = from_contains xs x c in at xs p.0 all p.1
  where
    at : (xs : List _) (i : ℕ) → AllByRecursion P xs → slice_get xs i ≡ Some x → P x
    at [] i all is = absurd (cc)
    at (y ∷ xs) zero all is = let same : y ≡ x = cc in subst P same all.0
    at (y ∷ xs) (suc i) all is = at xs i all.1 is

-- each stands before those behind it
abbrev pub Ascends : {K : Type 0} → (K → K → Type 0) → List K → Type 0
Ascends before [] = Prim.Unit {0}
Ascends before (x ∷ xs) = ((y : _) → Contains xs y → before x y) × Ascends before xs

-- what is left of the parts: each is one of them, they ascend, and nothing is missing in the others
abbrev pub IsLeft : {K : Type 0} → Loaded → (K → Holding) → (K → K → Type 0) → List K → List K → Type 0
IsLeft find part before left all = DoneBut (λ e. NoneMissing find (part e)) left all × ((e : _) → Contains left e → Contains all e) × Ascends before left

pub all_parts : {K : Type 0} (find : Loaded) (part : K → Holding) (before : K → K → Type 0) (all : List K) → Ascends before all → IsLeft find part before all all
all_parts find part before all up = ((λ x c. inr c), (λ e c. c), up)

pub one_part : {K : Type 0} (find : Loaded) (part : K → Holding) (before : K → K → Type 0) (left rest all : List K) (y : K) → left ≡ y ∷ rest
    → IsLeft find part before left all → NoneMissing find (part y) → IsLeft find part before rest all
one_part find part before left rest all y is so none =
    let up = subst (Ascends before) is so.2 in
    (one_done (λ e. NoneMissing find (part e)) left rest all y is none so.0, (λ e c. so.1 e (subst (λ l. Contains l e) (sym is) (later_in e y rest c))), up.1)

-- the parts are of the whole, and stand apart in it
pub record AreParts {K : Type 0} (part : K → Holding) (whole : Holding) (before : K → K → Type 0) (all : List K) : Type 0 where
  pub inside : (e : K) (m : Path) (k : ℕ) → Contains all e → IsSome (part e m k) → IsSome (whole m k)
  pub from : (m : Path) (k : ℕ) → IsSome (whole m k) → (e : K) × Contains all e × IsSome (part e m k)
  pub apart : (e f : K) (m n : Path) (k j o p : ℕ) → before e f → IsSome (part e m k) → IsSome (part f n j) → StandsBefore n j o m k p → ⊥

held_by : (find : Loaded) (held other : Holding) (m : Path) (k o : ℕ) (s : LoadError) → IsSome (other m k) → IsMissingAt find held m k o s → IsMissingAt find other m k o s
held_by find held other m k o s some at = record {
  is_held = some;
  home = at.home;
  is_found = at.is_found;
  stands = at.stands;
  is_there = at.is_there;
  name = at.name;
  occurs = at.occurs;
  why = at.why;
}

module _ {K : Type 0} (find : Loaded) (part : K → Holding) (whole : Holding) (before : K → K → Type 0) (all : List K) (parts : AreParts part whole before all) where
  pub no_part : (left : List K) → left ≡ [] → IsLeft find part before left all → NoneMissing find whole
  no_part left is so m k o s at =
      let e = parts.from m k at.is_held in
      all_done (λ e. NoneMissing find (part e)) left all is so.0 e.0 e.1 m k o s (held_by find whole (part e.0) m k o s e.2 at)

  module _ (left rest : List K) (y : K) (is : left ≡ y ∷ rest) (so : IsLeft find part before left all) (r : LoadError) (now : IsFirstMissing find (part y) r) where
    later_part : (m : Path) (k o : ℕ) → StandsBefore m k o now.home now.declaration now.occurrence → (f : K) → IsSome (part f m k) → Contains rest f → ⊥
    later_part m k o less f some c =
        let up = subst (Ascends before) is so.2 in
        parts.apart y f now.home m now.declaration k o now.occurrence (up.0 f c) now.refused.is_held some less

    no_earlier : (m : Path) (k o : ℕ) (s : LoadError) → IsMissingAt find whole m k o s → StandsBefore m k o now.home now.declaration now.occurrence
        → (f : K) → IsSome (part f m k) → NoneMissing find (part f) ⊎ Contains left f → ⊥
    no_earlier m k o s at less f some cases = ⊎_elim
        (λ none. none m k o s (held_by find whole (part f) m k o s some at))
        (λ c. ⊎_elim
        (λ same. now.first m k o s (held_by find whole (part y) m k o s (subst (λ g. IsSome (part g m k)) (sym same) some) at) less)
        (λ later. later_part m k o less f some later)
        (in_cases y rest f (subst (λ l. Contains l f) is c)))
        cases

    first_whole : IsFirstMissing find whole r
    first_whole = record {
      home = now.home;
      declaration = now.declaration;
      occurrence = now.occurrence;
      refused = held_by find (part y) whole now.home now.declaration now.occurrence r
          (parts.inside y now.home now.declaration (so.1 y (subst (λ l. Contains l y) (sym is) (first_in y rest))) now.refused.is_held) now.refused;
      first = λ m k o s at less. let f = parts.from m k at.is_held in no_earlier m k o s at less f.0 f.2 (so.0 f.0 f.1);
    }

  pub first_part : (left rest : List K) (y : K) (e : ImportError) → left ≡ y ∷ rest → IsLeft find part before left all → FindsMissing find (part y) (Some e) → FindsMissing find whole (Some e)
  first_part left rest y e is so found = (found.0, found.1, first_whole left rest y is so found.0 found.2)

-- ---- the places of a module

any_found : {K X : Type 0} (test : K → Bool) (es : List (K × X)) (i : ℕ) (k : K) → slice_get (map (λ e. e.0) es) i ≡ Some k → test k ≡ true → IsSome (lookup test es)
any_found test [] i k is passes = absurd (cc)
any_found test (e ∷ es) zero k is passes = let same : e.0 ≡ k = cc in subst (λ b. IsSome (if b then Some e.1 else lookup test es)) (sym passes ∙ ap test (sym same)) refl
any_found test (e ∷ es) (suc i) k is passes = either (test e.0) (any_found test es i k is passes)
  where
    either : (b : Bool) → IsSome (lookup test es) → IsSome (if b then Some e.1 else lookup test es)
    either true more = refl
    either false more = more

place_found : (places : BTreeMap ℕ Name) (k : ℕ) → Contains (keys places) k → IsSome (get nat_cmp places k)
place_found places k c =
    let p = from_contains (keys places) k c in
    any_found (is_at (nat_cmp k)) places.entries p.0 k p.1 (sym (unsigned_ties k k) ∙ eq-eqb k k refl)

abbrev pub IsLower : ℕ → ℕ → Type 0
IsLower j k = nat_cmp j k ≡ Less

is_less : (j k : ℕ) → nat_cmp j k ≡ Less → j < k
is_less j k less = subst (λ r. MatchOrdering r (j < k) (j ≡ k) (k < j)) less (ranks j k)

in_module : (m n : Path) (places : BTreeMap ℕ Name) (j : ℕ) → IsSome (held_in m places n j) → (m ≡ n) × IsSome (get nat_cmp places j)
in_module m n places j some = at (bytes_eq m n) refl some
  where
    at : (b : Bool) → bytes_eq m n ≡ b → IsSome (if b then get nat_cmp places j else None) → (m ≡ n) × IsSome (get nat_cmp places j)
    at true is some = (same_bytes m n is, some)
    at false is some = absurd (cc)

module_in : (m n : Path) (places : BTreeMap ℕ Name) (j : ℕ) → m ≡ n → IsSome (get nat_cmp places j) → IsSome (held_in m places n j)
module_in m n places j home some =
    let is : bytes_eq m n ≡ true = subst (λ t. bytes_eq m t ≡ true) home (bytes_same m) in
    subst IsSome (λ i. if sym is i then get nat_cmp places j else None) some

pub place_parts : (m : Path) (places : BTreeMap ℕ Name) → AreParts (held_alone m) (held_in m places) IsLower (keys places)
place_parts m places = record {
  inside = λ e n k c some. let is = alone_is m n e k some in module_in m n places k is.0 (subst (λ j. IsSome (get nat_cmp places j)) is.1 (place_found places e c));
  from = λ n k some. let is = in_module m n places k some in (k, key_found places k is.1, is_alone m n k k is.0 refl);
  apart = λ e f n p k j o q lower one two before. not_before e f n p k j o q lower (alone_is m n e k one) (alone_is m p f j two) (before_cases before);
}
  where
    not_before : (e f : ℕ) (n p : Path) (k j o q : ℕ) → IsLower e f → (m ≡ n) × (e ≡ k) → (m ≡ p) × (f ≡ j) → IsBefore p n ⊎ (((p ≡ n) × (j < k)) ⊎ ((p ≡ n) × (j ≡ k) × (o < q))) → ⊥
    not_before e f n p k j o q lower one two cases = ⊎_elim
        (λ less. not_itself (slice_cmp nat_cmp) nat_list_cmp_total p n (sym two.0 ∙ one.0) less)
        (λ l. ⊎_elim
        (λ b. let up : e < f = is_less e f lower in let here : e ≡ k = one.1 in let there : f ≡ j = two.1 in let less : j < k = b.1 in absurd (omega arith))
        (λ c. let up : e < f = is_less e f lower in let here : e ≡ k = one.1 in let there : f ≡ j = two.1 in let same : j ≡ k = c.1 in absurd (omega arith))
        l)
        cases

pub places_ascend : (ks : List ℕ) → IsStrictlySortedBy nat_cmp ks → Ascends IsLower ks
places_ascend [] s = tt
places_ascend (k ∷ ks) s = ((λ y c. every_in (λ z. nat_cmp k z ≡ Less) ks y (sorted_head nat_cmp k ks s) c), places_ascend ks (sorted_tail nat_cmp k ks s))

-- ---- the modules

abbrev pub Entry : Type 0
Entry = String Global × BTreeMap ℕ Name

abbrev pub IsAhead : Entry → Entry → Type 0
IsAhead e f = string_cmp e.0 f.0 ≡ Less

abbrev pub held_under : Entry → Holding
held_under e = held_in (string_bytes e.0) e.1

pub module_parts : (held : HeldNames) → IsOrdered string_cmp held → AreParts held_under (held_at held) IsAhead held.entries
module_parts held ordered = record {
  inside = λ e n k c some.
      let is = in_module (string_bytes e.0) n e.1 k some in
      let p = from_contains held.entries e c in
      let found : get_by_text held n ≡ Some e.1 = ap (get_by_text held) (sym is.0) ∙ btree_map_get_place string_cmp_total held p.0 e.0 e.1 ordered p.1 in
      subst (λ o. IsSome (name_among o k)) (sym found) is.1;
  from = λ n k some. let e = entry_found held n k some in ((e.0, e.1), e.2, module_in (string_bytes e.0) n e.1 k e.3 e.4);
  apart = λ e f n p k j o q ahead one two before. not_before e f n p k j o q ahead (in_module (string_bytes e.0) n e.1 k one).0 (in_module (string_bytes f.0) p f.1 j two).0 (before_cases before);
}
  where
    not_before : (e f : Entry) (n p : Path) (k j o q : ℕ) → IsAhead e f → string_bytes e.0 ≡ n → string_bytes f.0 ≡ p → IsBefore p n ⊎ (((p ≡ n) × (j < k)) ⊎ ((p ≡ n) × (j ≡ k) × (o < q))) → ⊥
    not_before e f n p k j o q ahead one two cases =
        let up : IsBefore n p = subst (λ t. IsBefore t p) one (subst (IsBefore (string_bytes e.0)) two ahead) in
        ⊎_elim
        (λ less. not_both (slice_cmp nat_cmp) nat_list_cmp_total p n less up)
        (λ l. ⊎_elim (λ b. not_itself (slice_cmp nat_cmp) nat_list_cmp_total n p (sym b.0) up) (λ c. not_itself (slice_cmp nat_cmp) nat_list_cmp_total n p (sym c.0) up) l)
        cases

pub modules_ascend : (es : List Entry) → IsStrictlySortedBy string_cmp (map (λ e. e.0) es) → Ascends IsAhead es
modules_ascend [] s = tt
modules_ascend (e ∷ es) s = (
  (λ y c. let p = from_contains es y c in every_in (λ z. string_cmp e.0 z ≡ Less) (map (λ x. x.0) es) y.0 (sorted_head string_cmp e.0 (map (λ x. x.0) es) s) (to_contains (map (λ x. x.0) es) p.0 y.0 (get_map (λ x. x.0) es p.0 y p.1))),
  modules_ascend es (sorted_tail string_cmp e.0 (map (λ x. x.0) es) s),
)
