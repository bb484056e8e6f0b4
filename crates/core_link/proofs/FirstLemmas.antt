-- The first name that clashes, by the tables, is the first by the definitions.
use Rattle.std.proofs.Common.{◌≡◌, ◌↔◌, refl, sym, ap, ◌∙◌, subst, ℕ, zero, suc, ◌+◌, ◌⊎◌, inl, inr, ⊎_elim, List, [], ◌∷◌, ◌++◌, map, Bool, true, false, Option, Some, None, arith}
use Rattle.std.specs.Prelude.{if◌then◌else◌, slice_get, string_bytes}
use Rattle.std.specs.Str.{bytes_eq}
use Rattle.std.specs.String.{string_cmp}
use Rattle.std.specs.Option.{IsSome}
use Rattle.std.specs.List.{Contains}
use Rattle.std.specs.BTreeMap.{IsOrdered}
use Rattle.core_syntax.specs.Tree.{Decl, UnitTree}
use Rattle.wgsl_path.specs.declared.path.ModulePath.{ModulePath}
use Rattle.wgsl_path.specs.Paths.{path_text}
use Rattle.core_link_spec.specs.Occurrences.{Name, names_before, names_behind, names_in_body, locals, occurrences, declared_name}
use Rattle.core_link_spec.specs.Modules.{Path, Symbol, Modules, IsModule, IsDeclaration, Reached}
use Rattle.core_link_spec.specs.Names.{IsPrinted}
use Rattle.core_link_spec.specs.Linked.{IsInOrder, IsShared, Clashes}
use Rattle.core_link_spec.specs.Loaded.{IsClashFree}
use Rattle.core_link_spec.specs.Clashing.{IsFirst, Mention, occurs, declares, mentions, MentionClashes, occurrence, own, DeclarationClashes, ModuleClashes, IsFirstClash}
use Rattle.core_scopes.specs.Outcomes.{loaded, home_of, outcome, meant_as}
use Rattle.core_scopes.specs.Tells.{IsFinder, StandsAt}
use Rattle.core_reach.specs.Closing.{HeldNames, held_at}
use Rattle.core_names.specs.Naming.{printed_of}
use Rattle.core_link.specs.Assembling.{without}
use Rattle.core_reach.specs.Resolved.{LoadedModules, modules_of, IsResolved}
use Rattle.core_link.specs.Clashing.{or_else, first_some, Sharing, sharing_in, held_names, is_shared, name_clash, own_clash, names_clash, declaration_clash, held_clash, clash_among, module_clash, clash_at, others_clash, unit_clash}
use Rattle.core_scopes.proofs.ScopeLemmas.{map_get, append_left, append_right, append_cases, value_means}
use Rattle.core_reach.proofs.ReachLemmas.{found_unit, same_place, there_reached, reached_held, stands_there}
use Rattle.core_link.proofs.LinkLemmas.{one_symbol}
use Rattle.core_link.proofs.OrderLemmas.{ordered as in_order}
use Rattle.core_link.proofs.ResolvedLemmas.{finder, sorted_texts, printed_keys, found_home, all_there}
use Rattle.core_link.proofs.SharedLemmas.{Entry}
use Rattle.core_link.proofs.MeansLemmas.{Decides, name_decides, shared_is, shared_told, shared_value, printed_one, symbolic, some_of}
use Rattle.wgsl_base.proofs.Members.{in_cases, in_none as none_in, in_map as mapped_in, to_contains, from_contains, get_map}

-- ---- the first of a list

first_in : {X : Type 0} (y : X) (ys : List X) → Contains (y ∷ ys) y
first_in y ys = to_contains (y ∷ ys) 0 y refl

later_in : {X : Type 0} (y : X) (ys : List X) (x : X) → Contains ys x → Contains (y ∷ ys) x
later_in y ys x c = let p = from_contains ys x c in to_contains (y ∷ ys) (suc p.0) x p.1

left_in : {X : Type 0} (xs ys : List X) (x : X) → Contains xs x → Contains (xs ++ ys) x
left_in xs ys x c = let p = from_contains xs x c in to_contains (xs ++ ys) p.0 x (append_left xs ys p.0 x p.1)

right_in : {X : Type 0} (xs ys : List X) (x : X) → Contains ys x → Contains (xs ++ ys) x
right_in xs ys x c = let p = from_contains ys x c in let q = append_right xs ys p.0 x p.1 in to_contains (xs ++ ys) q.0 x q.1

either_in : {X : Type 0} (xs ys : List X) (x : X) → Contains (xs ++ ys) x → Contains xs x ⊎ Contains ys x
either_in xs ys x c =
    let p = from_contains (xs ++ ys) x c in
    ⊎_elim (λ l. inl (to_contains xs l.0 x l.1)) (λ l. inr (to_contains ys l.0 x l.1)) (append_cases xs ys p.0 x p.1)

both_none : (o p : Option Name) → or_else o p ≡ None → (o ≡ None) × (p ≡ None)
both_none None p e = (refl, e)
both_none (Some y) p e = absurd (cc)

else_else : (a b c : Option Name) → or_else (or_else a b) c ≡ or_else a (or_else b c)
else_else None b c = refl
else_else (Some y) b c = refl

module _ {A : Type 0} (f : A → Option Name) where
  none_at : (xs : List A) → first_some f xs ≡ None → (a : A) → Contains xs a → f a ≡ None
  none_at [] e a c = absurd (none_in a c)
  none_at (x ∷ xs) e a c =
      let b = both_none (f x) (first_some f xs) e in
      ⊎_elim (λ same. subst (λ t. f t ≡ None) same b.0) (λ d. none_at xs b.1 a d) (in_cases x xs a c)

  first_append : (xs ys : List A) → first_some f (xs ++ ys) ≡ or_else (first_some f xs) (first_some f ys)
  first_append [] ys = refl
  first_append (x ∷ xs) ys = ap (or_else (f x)) (first_append xs ys) ∙ sym (else_else (f x) (first_some f xs) (first_some f ys))

  module _ (C : A → Name → Type 0) where
    abbrev Each : List A → Type 0
    Each xs = (a : A) → Contains xs a → Decides (f a) (C a)

    first_is : (xs : List A) → Each xs → (y : Name) → first_some f xs ≡ Some y → IsFirst C xs y
    first_is [] each y e = absurd (cc)
    first_is (x ∷ xs) each y e = at (f x) refl e (first_is xs (λ a c. each a (later_in x xs a c)) y)
      where
        at : (o : Option Name) → f x ≡ o → or_else o (first_some f xs) ≡ Some y → (first_some f xs ≡ Some y → IsFirst C xs y) → IsFirst C (x ∷ xs) y
        at None is e more =
            let r = more e in
            record {
              before = x ∷ r.before;
              one = r.one;
              behind = r.behind;
              whole = ap (λ l. x ∷ l) r.whole;
              none_before = λ a z c k.
                  ⊎_elim (λ same. (each x (first_in x xs)).1 is z (subst (λ t. C t z) (sym same) k)) (λ d. r.none_before a z d k) (in_cases x r.before a c);
              clashes = r.clashes;
            }
        at (Some z) is e more =
            let same : z ≡ y = cc in
            record {
              before = [];
              one = x;
              behind = xs;
              whole = refl;
              none_before = λ a z c k. none_in a c;
              clashes = (each x (first_in x xs)).0 y (is ∙ ap (λ t. Some t) same);
            }

    none_first : (xs : List A) → Each xs → first_some f xs ≡ None → (y : Name) → IsFirst C xs y → ⊥
    none_first xs each e y r =
        let c : Contains xs r.one = subst (λ l. Contains l r.one) (sym r.whole) (right_in r.before (r.one ∷ r.behind) r.one (first_in r.one r.behind)) in
        (each r.one c).1 (none_at xs e r.one c) y r.clashes

    first_decides : (xs : List A) → Each xs → Decides (first_some f xs) (IsFirst C xs)
    first_decides xs each = (first_is xs each, none_first xs each)

first_map : {A B : Type 0} (f : B → Option Name) (g : A → B) (xs : List A) → first_some f (map g xs) ≡ first_some (λ x. f (g x)) xs
first_map f g [] = refl
first_map f g (x ∷ xs) = ap (or_else (f (g x))) (first_map f g xs)

-- ---- in a declaration

module _ (sharing : Sharing) (printed : Name → Option Name) (y : Name) where
  abbrev mention_clash : Mention → Option Name
  mention_clash (occurs hidden x) = name_clash sharing hidden (printed x) x
  mention_clash (declares x) = own_clash sharing y

  same_mentions : (d : Decl) → first_some mention_clash (mentions d) ≡ declaration_clash sharing printed y d
  same_mentions d =
      first_append mention_clash (map (occurs []) (names_before d)) (declares (declared_name d) ∷ (map (occurs []) (names_behind d) ++ map (occurs (locals d)) (names_in_body d)))
      ∙ (λ k. or_else (first_map mention_clash (occurs []) (names_before d) k)
      (or_else (own_clash sharing y) (first_append mention_clash (map (occurs []) (names_behind d)) (map (occurs (locals d)) (names_in_body d)) k)))
      ∙ (λ k. or_else (names_clash sharing printed [] (names_before d))
      (or_else (own_clash sharing y) (or_else (first_map mention_clash (occurs []) (names_behind d) k) (first_map mention_clash (occurs (locals d)) (names_in_body d) k))))

-- what stands in a declaration is its name or an occurrence
abbrev IsOf : Decl → Mention → Type 0
IsOf d (occurs hidden x) = Contains (occurrences d) x
IsOf d (declares x) = declared_name d ≡ x

among_occurs : (d : Decl) (hidden xs : List Name) (a : Mention) → ((x : Name) → Contains xs x → Contains (occurrences d) x) → Contains (map (occurs hidden) xs) a → IsOf d a
among_occurs d hidden xs a there c =
    let p = from_contains (map (occurs hidden) xs) a c in
    let e = map_get (occurs hidden) xs p.0 a p.1 in
    subst (IsOf d) e.2 (there e.0 (to_contains xs p.0 e.0 e.1))

before_occurs : (d : Decl) (x : Name) → Contains (names_before d) x → Contains (occurrences d) x
before_occurs d x c = left_in (names_before d ++ names_behind d) (names_in_body d) x (left_in (names_before d) (names_behind d) x c)

behind_occurs : (d : Decl) (x : Name) → Contains (names_behind d) x → Contains (occurrences d) x
behind_occurs d x c = left_in (names_before d ++ names_behind d) (names_in_body d) x (right_in (names_before d) (names_behind d) x c)

body_occurs : (d : Decl) (x : Name) → Contains (names_in_body d) x → Contains (occurrences d) x
body_occurs d x c = right_in (names_before d ++ names_behind d) (names_in_body d) x c

mention_of : (d : Decl) (a : Mention) → Contains (mentions d) a → IsOf d a
mention_of d a c =
    let behind = map (occurs []) (names_behind d) ++ map (occurs (locals d)) (names_in_body d) in
    ⊎_elim
    (λ first. among_occurs d [] (names_before d) a (before_occurs d) first)
    (λ rest.
    ⊎_elim
    (λ same. subst (IsOf d) same refl)
    (λ more.
    ⊎_elim
    (λ second. among_occurs d [] (names_behind d) a (behind_occurs d) second)
    (λ third. among_occurs d (locals d) (names_in_body d) a (body_occurs d) third)
    (either_in (map (occurs []) (names_behind d)) (map (occurs (locals d)) (names_in_body d)) a more))
    (in_cases (declares (declared_name d)) behind a rest))
    (either_in (map (occurs []) (names_before d)) (declares (declared_name d) ∷ behind) a c)

before_mention : (d : Decl) (x : Name) → Contains (names_before d) x → Contains (mentions d) (occurs [] x)
before_mention d x c =
    left_in (map (occurs []) (names_before d)) (declares (declared_name d) ∷ (map (occurs []) (names_behind d) ++ map (occurs (locals d)) (names_in_body d))) (occurs [] x)
    (mapped_in (occurs []) (names_before d) x c)

after_name : (d : Decl) (a : Mention) → Contains (map (occurs []) (names_behind d) ++ map (occurs (locals d)) (names_in_body d)) a → Contains (mentions d) a
after_name d a c =
    let behind = map (occurs []) (names_behind d) ++ map (occurs (locals d)) (names_in_body d) in
    right_in (map (occurs []) (names_before d)) (declares (declared_name d) ∷ behind) a (later_in (declares (declared_name d)) behind a c)

own_mention : (d : Decl) → Contains (mentions d) (declares (declared_name d))
own_mention d =
    let behind = map (occurs []) (names_behind d) ++ map (occurs (locals d)) (names_in_body d) in
    right_in (map (occurs []) (names_before d)) (declares (declared_name d) ∷ behind) (declares (declared_name d)) (first_in (declares (declared_name d)) behind)

behind_mention : (d : Decl) (x : Name) → Contains (names_behind d) x → Contains (mentions d) (occurs [] x)
behind_mention d x c = after_name d (occurs [] x) (left_in (map (occurs []) (names_behind d)) (map (occurs (locals d)) (names_in_body d)) (occurs [] x) (mapped_in (occurs []) (names_behind d) x c))

body_mention : (d : Decl) (x : Name) → Contains (names_in_body d) x → Contains (mentions d) (occurs (locals d) x)
body_mention d x c =
    after_name d (occurs (locals d) x)
    (right_in (map (occurs []) (names_behind d)) (map (occurs (locals d)) (names_in_body d)) (occurs (locals d) x) (mapped_in (occurs (locals d)) (names_in_body d) x c))

not_some : (o : Option Name) → o ≡ None → IsSome o → ⊥
not_some None e is = absurd (cc)
not_some (Some y) e is = absurd (cc)

-- ---- in the linked unit

module _ (ms : LoadedModules) (root : Path) (keep : List Name) (held : HeldNames) (r : IsResolved ms root keep held) (ordered : IsOrdered string_cmp ms) where
  abbrev finds : IsFinder (modules_of ms) (loaded ms)
  finds = finder ms r.keyed ordered

  abbrev sharing : Sharing
  sharing = sharing_in (held_names held ms.entries)

  module _ (m : Path × UnitTree) (here : loaded ms m.0 ≡ Some m) where
    abbrev printed : Name → Option Name
    printed x = printed_of (held_at held) (outcome (loaded ms) m x)

    home : IsModule (modules_of ms) m.0 m.1
    home = (finds.found m.0 m here).0

    -- the printed name of a declaration is the one that is held at its place
    held_printed : (k : ℕ) (d : Decl) → slice_get m.1.declarations k ≡ Some d → printed (declared_name d) ≡ held_at held m.0 k
    held_printed k d there = ap (λ o. printed_of (held_at held) (meant_as (loaded ms) m.0 o)) (value_means m.1 k d (finds.fresh m.0 m here) there)

    abbrev declared_clash : Decl → Option Name
    declared_clash d = held_clash sharing printed (printed (declared_name d)) d

    abbrev StandsFrom : ℕ → List Decl → Type 0
    StandsFrom place ds = (i : ℕ) (d : Decl) → slice_get ds i ≡ Some d → slice_get m.1.declarations (place + i) ≡ Some d

    by_declarations : (place : ℕ) (ds : List Decl) → StandsFrom place ds → clash_among sharing printed (held_at held m.0) place ds ≡ first_some declared_clash ds
    by_declarations place [] there = refl
    by_declarations place (d ∷ ds) there =
        let n : place + zero ≡ place = omega arith in
        let front : slice_get m.1.declarations place ≡ Some d = subst (λ l. slice_get m.1.declarations l ≡ Some d) n (there zero d refl) in
        let behind : StandsFrom (place + 1) ds = λ i e is. (let n : place + suc i ≡ (place + 1) + i = omega arith in subst (λ l. slice_get m.1.declarations l ≡ Some e) n (there (suc i) e is)) in
        λ k. or_else (held_clash sharing printed (sym (held_printed place d front) k) d) (by_declarations (place + 1) ds behind k)

    whole_module : module_clash sharing (loaded ms) (held_at held) m ≡ first_some declared_clash m.1.declarations
    whole_module = by_declarations 0 m.1.declarations (λ i d is. (let n : i ≡ 0 + i = omega arith in subst (λ l. slice_get m.1.declarations l ≡ Some d) n is))

    module _ (k : ℕ) (d : Decl) (there : slice_get m.1.declarations k ≡ Some d) where
      abbrev symbol : Symbol
      symbol = record { home = m.0; name = declared_name d }

      stands : StandsAt (modules_of ms) m.0 k symbol
      stands = record { unit = m.1; declaration = d; is_module = home; stands = there; home = refl; name = refl }

      held_reached : (y : Name) → held_at held m.0 k ≡ Some y → Reached (modules_of ms) root keep symbol
      held_reached y e =
          let s = symbolic ms root keep held r ordered m.0 k y e in
          subst (Reached (modules_of ms) root keep) (one_symbol (modules_of ms) (loaded ms) finds root (held_at held) r.named m.0 k s.symbol symbol s.at stands) s.held_there

      reached_some : Reached (modules_of ms) root keep symbol → IsSome (held_at held m.0 k)
      reached_some q =
          let t = there_reached (modules_of ms) (loaded ms) finds root keep r.rooted q in
          let place : k ≡ t.0 = same_place (modules_of ms) (loaded ms) finds m.0 t.0 k symbol m.1 d t.1 home there refl in
          subst (λ l. IsSome (held_at held m.0 l)) (sym place) (reached_held (loaded ms) root keep (held_at held) r.kept r.settled t.2)

      module _ (y : Name) (e : held_at held m.0 k ≡ Some y) where
        abbrev Means : Mention → Name → Type 0
        Means a z = MentionClashes (modules_of ms) root keep m.0 a z

        own_printed : (x : Name) → declared_name d ≡ x → IsPrinted (modules_of ms) root (record { home = m.0; name = x }) y
        own_printed x same = subst (λ n. IsPrinted (modules_of ms) root (record { home = m.0; name = n }) y) same (r.named m.0 k symbol y stands e)

        own_decides : (x : Name) → declared_name d ≡ x → (b : Bool) → is_shared sharing y ≡ b → Decides (if b then Some y else None) (Means (declares x))
        own_decides x same true shares = (
          λ z is. let one : y ≡ z = cc in subst (Means (declares x)) one (own (own_printed x same) (shared_is ms root keep held r ordered y (sym (shared_value (held_names held ms.entries) y) ∙ shares))),
          λ none. absurd (cc),
        )
        own_decides x same false shares = (λ z is. absurd (cc), λ none z c. not z c)
          where
            is_own : (z : Name) → Means (declares x) z → IsPrinted (modules_of ms) root (record { home = m.0; name = x }) z × IsShared (modules_of ms) root keep z
            is_own z (own p q) = (p, q)

            not : (z : Name) → Means (declares x) z → ⊥
            not z c =
                let o = is_own z c in
                let one : z ≡ y = printed_one ms root keep held r ordered (record { home = m.0; name = x }) z y o.0 (own_printed x same) in
                let yes = subst (λ l. is_shared sharing l ≡ true) one (shared_value (held_names held ms.entries) z ∙ shared_told ms root keep held r ordered z o.1) in
                absurd (cc)

        is_clash : (hidden : List Name) (x z : Name) → Means (occurs hidden x) z → Clashes (modules_of ms) root keep m.0 hidden x z
        is_clash hidden x z (occurrence c) = c

        is_some_at : IsSome (held_at held m.0 k)
        is_some_at = subst IsSome (sym e) refl

        mention_decides : (a : Mention) → IsOf d a → Decides (mention_clash sharing printed y a) (Means a)
        mention_decides (occurs hidden x) c =
            let t = name_decides ms root keep held r ordered m here hidden x (r.settled m.0 k m d x is_some_at here there c) in
            (λ z is. occurrence (t.0 z is), λ none z q. t.1 none z (is_clash hidden x z q))
        mention_decides (declares x) same = own_decides x same (is_shared sharing y) refl

        each_mention : (a : Mention) → Contains (mentions d) a → Decides (mention_clash sharing printed y a) (Means a)
        each_mention a c = mention_decides a (mention_of d a c)

        mentions_decide : Decides (declaration_clash sharing printed y d) (IsFirst Means (mentions d))
        mentions_decide =
            subst (λ o. Decides o (IsFirst Means (mentions d))) (same_mentions sharing printed y d)
            (first_decides (mention_clash sharing printed y) Means (mentions d) each_mention)

        named_decides : Decides (declaration_clash sharing printed y d) (DeclarationClashes (modules_of ms) root keep m.0 d)
        named_decides = (
          λ z is. record { reached = held_reached y e; first = mentions_decide.0 z is },
          λ none z c. mentions_decide.1 none z c.first,
        )

        mention_free : declaration_clash sharing printed y d ≡ None → (a : Mention) → Contains (mentions d) a → (z : Name) → Means a z → ⊥
        mention_free none a c z q =
            (each_mention a c).1 (none_at (mention_clash sharing printed y) (mentions d) (same_mentions sharing printed y d ∙ none) a c) z q

      held_decides : (o : Option Name) → held_at held m.0 k ≡ o → Decides (held_clash sharing printed o d) (DeclarationClashes (modules_of ms) root keep m.0 d)
      held_decides (Some y) e = named_decides y e
      held_decides None e = (λ z is. absurd (cc), λ none z c. not_some (held_at held m.0 k) e (reached_some c.reached))

      declared_decides : Decides (declared_clash d) (DeclarationClashes (modules_of ms) root keep m.0 d)
      declared_decides =
          subst (λ o. Decides (held_clash sharing printed o d) (DeclarationClashes (modules_of ms) root keep m.0 d)) (sym (held_printed k d there)) (held_decides (held_at held m.0 k) refl)

    declarations_decide : Decides (module_clash sharing (loaded ms) (held_at held) m) (IsFirst (DeclarationClashes (modules_of ms) root keep m.0) m.1.declarations)
    declarations_decide =
        subst (λ o. Decides o (IsFirst (DeclarationClashes (modules_of ms) root keep m.0) m.1.declarations)) (sym whole_module)
        (first_decides declared_clash (DeclarationClashes (modules_of ms) root keep m.0) m.1.declarations
        (λ d c. let p = from_contains m.1.declarations d c in declared_decides p.0 d p.1))

    module_decides : Decides (module_clash sharing (loaded ms) (held_at held) m) (ModuleClashes (modules_of ms) root keep m.0)
    module_decides = (
      λ z is. record { unit = m.1; is_module = home; first = declarations_decide.0 z is },
      λ none z c.
          let unit : m ≡ (m.0, c.unit) = found_unit (modules_of ms) (loaded ms) finds m.0 c.unit m c.is_module here in
          declarations_decide.1 none z (subst (λ (h : Path × UnitTree). IsFirst (DeclarationClashes (modules_of ms) root keep m.0) h.1.declarations z) (sym unit) c.first),
    )

    -- no name of a held declaration clashes
    declaration_free : module_clash sharing (loaded ms) (held_at held) m ≡ None → (k : ℕ) (d : Decl) → slice_get m.1.declarations k ≡ Some d
        → Reached (modules_of ms) root keep (record { home = m.0; name = declared_name d })
        → (a : Mention) → Contains (mentions d) a → (z : Name) → MentionClashes (modules_of ms) root keep m.0 a z → ⊥
    declaration_free none k d there reached a c z q =
        let y = some_of (held_at held m.0 k) (reached_some k d there reached) in
        let own_none : declared_clash d ≡ None = none_at declared_clash m.1.declarations (sym whole_module ∙ none) d (to_contains m.1.declarations k d there) in
        let named_none : declaration_clash sharing printed y.0 d ≡ None = sym (ap (λ o. held_clash sharing printed o d) (held_printed k d there ∙ y.1)) ∙ own_none in
        mention_free k d there y.0 y.1 named_none a c z q

  -- ---- the modules in their order

  abbrev at_path : Path → Option Name
  at_path p = clash_at sharing (loaded ms) (held_at held) (loaded ms p)

  abbrev texts_of : List Entry → List Path
  texts_of es = map (λ e. string_bytes e.0) es

  abbrev Entries : List Entry → Type 0
  Entries es = (i : ℕ) (e : Entry) → slice_get es i ≡ Some e → (j : ℕ) × (slice_get ms.entries j ≡ Some e)

  others_same : (es : List Entry) → Entries es → first_some at_path (without root (texts_of es)) ≡ others_clash sharing ms held root es
  others_same [] each = refl
  others_same (e ∷ es) each = at (bytes_eq (string_bytes e.0) root) (others_same es (λ i d is. each (suc i) d is)) (let p = each 0 e refl in found_home ms r.keyed ordered p.0 e p.1)
    where
      at : (b : Bool) → first_some at_path (without root (texts_of es)) ≡ others_clash sharing ms held root es → loaded ms (string_bytes e.0) ≡ Some (home_of e.1)
          → first_some at_path (if b then without root (texts_of es) else string_bytes e.0 ∷ without root (texts_of es))
          ≡ or_else (if b then None else module_clash sharing (loaded ms) (held_at held) (home_of e.1)) (others_clash sharing ms held root es)
      at true rest found = rest
      at false rest found = λ k. or_else (clash_at sharing (loaded ms) (held_at held) (found k)) (rest k)

  whole : Entries ms.entries
  whole i e is = (i, is)

  abbrev order : List Path
  order = root ∷ without root (texts_of ms.entries)

  whole_unit : first_some at_path order ≡ unit_clash ms held root
  whole_unit = ap (or_else (at_path root)) (others_same ms.entries whole)

  root_in : Contains (texts_of ms.entries) root
  root_in =
      let p = from_contains (modules_of ms) (r.rooted.1.path, r.rooted.0) r.rooted.1.stands in
      subst (λ l. Contains l root) (printed_keys ms r.keyed ordered ms.entries whole)
      (to_contains (map (λ m. path_text m.0) (modules_of ms)) p.0 root
      (get_map (λ (m : ModulePath × UnitTree). path_text m.0) (modules_of ms) p.0 (r.rooted.1.path, r.rooted.0) p.1 ∙ ap (λ q. Some q) r.rooted.1.printed))

  is_order : IsInOrder (modules_of ms) root order
  is_order = in_order root (modules_of ms) (texts_of ms.entries) (printed_keys ms r.keyed ordered ms.entries whole) (sorted_texts ms r.keyed ordered ms.entries ordered) root_in

  order_loaded : (p : Path) → Contains order p → (m : Path × UnitTree) × (loaded ms p ≡ Some m)
  order_loaded p c =
      all_there ms r.keyed ordered ms.entries whole p (subst (λ l. Contains l p) (printed_keys ms r.keyed ordered ms.entries whole) ((is_order.each p).0 c))

  path_decides : (p : Path) → Contains order p → Decides (at_path p) (ModuleClashes (modules_of ms) root keep p)
  path_decides p c =
      let m = order_loaded p c in
      let same : m.0.0 ≡ p = (finds.found p m.0 m.1).1 in
      subst (λ o. Decides (clash_at sharing (loaded ms) (held_at held) o) (ModuleClashes (modules_of ms) root keep p)) (sym m.1)
      (subst (λ q. Decides (module_clash sharing (loaded ms) (held_at held) m.0) (ModuleClashes (modules_of ms) root keep q)) same (module_decides m.0 (ap (loaded ms) same ∙ m.1)))

  pub first_clash : (y : Name) → unit_clash ms held root ≡ Some y → IsFirstClash (modules_of ms) root keep y
  first_clash y e = record {
    order = order;
    in_order = is_order;
    first = first_is at_path (ModuleClashes (modules_of ms) root keep) order path_decides y (whole_unit ∙ e);
  }

  -- ---- where nothing clashes

  path_in : (p : Path) (u : UnitTree) → IsModule (modules_of ms) p u → Contains order p
  path_in p u is =
      let c = from_contains (modules_of ms) (is.path, u) is.stands in
      (is_order.each p).1
      (to_contains (map (λ m. path_text m.0) (modules_of ms)) c.0 p (get_map (λ (m : ModulePath × UnitTree). path_text m.0) (modules_of ms) c.0 (is.path, u) c.1 ∙ ap (λ q. Some q) is.printed))

  module _ (none : unit_clash ms held root ≡ None) where
    all_free : (s : Symbol) (d : Decl) → Reached (modules_of ms) root keep s → IsDeclaration (modules_of ms) s d → (a : Mention) → Contains (mentions d) a
        → (z : Name) → MentionClashes (modules_of ms) root keep s.home a z → ⊥
    all_free s d reached is a c z q =
        let here : loaded ms s.home ≡ Some (s.home, is.unit) = finds.finds s.home is.unit is.is_module in
        let path_none : at_path s.home ≡ None = none_at at_path order (whole_unit ∙ none) s.home (path_in s.home is.unit is.is_module) in
        let p = from_contains is.unit.declarations d is.stands in
        declaration_free (s.home, is.unit) here (sym (ap (clash_at sharing (loaded ms) (held_at held)) here) ∙ path_none) p.0 d p.1
        (subst (λ n. Reached (modules_of ms) root keep (record { home = s.home; name = n })) (sym is.name) reached) a c z q

    pub clash_free : IsClashFree (modules_of ms) root keep
    clash_free = record {
      unshared = λ x s.
          let t = there_reached (modules_of ms) (loaded ms) finds root keep r.rooted s.one_held in
          let here = finds.finds s.one.home t.1.unit t.1.is_module in
          let is = stands_there (modules_of ms) (loaded ms) finds s.one.home t.0 s.one (s.one.home, t.1.unit) t.1.declaration t.1 here t.1.stands in
          all_free s.one t.1.declaration s.one_held is (declares (declared_name t.1.declaration)) (own_mention t.1.declaration) x
          (own (subst (λ n. IsPrinted (modules_of ms) root (record { home = s.one.home; name = n }) x) t.1.name s.one_printed) s);
      outside = λ s d x y reached is c q.
          all_free s d reached is (occurs [] x) (⊎_elim (λ l. before_mention d x l) (λ l. behind_mention d x l) (either_in (names_before d) (names_behind d) x c)) y (occurrence q);
      inside = λ s d x y reached is c q. all_free s d reached is (occurs (locals d) x) (body_mention d x c) y (occurrence q);
    }

-- ---- where something clashes first, something clashes

first_has : {A : Type 0} {C : A → Name → Type 0} {xs : List A} {y : Name} (f : IsFirst C xs y) → Contains xs f.one
first_has {xs} f = subst (λ l. Contains l f.one) (sym f.whole) (right_in f.before (f.one ∷ f.behind) f.one (first_in f.one f.behind))

module _ (modules : Modules) (root : Path) (keep : List Name) (free : IsClashFree modules root keep) where
  abbrev Refuted : Path → Mention → Type 0
  Refuted m a = (y : Name) → MentionClashes modules root keep m a y → ⊥

  among_refuted : (m : Path) (hidden xs : List Name) (a : Mention) → ((x y : Name) → Contains xs x → Clashes modules root keep m hidden x y → ⊥) → Contains (map (occurs hidden) xs) a
      → Refuted m a
  among_refuted m hidden xs a none c =
      let p = from_contains (map (occurs hidden) xs) a c in
      let e = map_get (occurs hidden) xs p.0 a p.1 in
      subst (Refuted m) e.2 (λ y q. none e.0 y (to_contains xs p.0 e.0 e.1) (clash_of m hidden e.0 y q))
    where
      clash_of : (m : Path) (hidden : List Name) (x z : Name) → MentionClashes modules root keep m (occurs hidden x) z → Clashes modules root keep m hidden x z
      clash_of m hidden x z (occurrence c) = c

  own_refuted : (m : Path) (x : Name) → Refuted m (declares x)
  own_refuted m x y (own p q) = free.unshared y q

  mention_refuted : (s : Symbol) (d : Decl) → Reached modules root keep s → IsDeclaration modules s d → (a : Mention) → Contains (mentions d) a → Refuted s.home a
  mention_refuted s d reached is a c =
      let behind = map (occurs []) (names_behind d) ++ map (occurs (locals d)) (names_in_body d) in
      ⊎_elim
      (λ first. among_refuted s.home [] (names_before d) a (λ x y l. free.outside s d x y reached is (left_in (names_before d) (names_behind d) x l)) first)
      (λ rest.
      ⊎_elim
      (λ same. subst (Refuted s.home) same (own_refuted s.home (declared_name d)))
      (λ more.
      ⊎_elim
      (λ second. among_refuted s.home [] (names_behind d) a (λ x y l. free.outside s d x y reached is (right_in (names_before d) (names_behind d) x l)) second)
      (λ third. among_refuted s.home (locals d) (names_in_body d) a (λ x y l. free.inside s d x y reached is l) third)
      (either_in (map (occurs []) (names_behind d)) (map (occurs (locals d)) (names_in_body d)) a more))
      (in_cases (declares (declared_name d)) behind a rest))
      (either_in (map (occurs []) (names_before d)) (declares (declared_name d) ∷ behind) a c)

  pub not_first : (y : Name) → IsFirstClash modules root keep y → ⊥
  not_first y f =
      let m = f.first.clashes in
      let d = m.first.clashes in
      let a = d.first in
      mention_refuted (record { home = f.first.one; name = declared_name m.first.one }) m.first.one d.reached
      (record { unit = m.unit; is_module = m.is_module; stands = first_has m.first; name = refl }) a.one (first_has a) y a.clashes

module _ (ms : LoadedModules) (root : Path) (keep : List Name) (held : HeldNames) (r : IsResolved ms root keep held) (ordered : IsOrdered string_cmp ms) where
  pub none_where_free : (o : Option Name) → o ≡ unit_clash ms held root → (o ≡ None) ↔ IsClashFree (modules_of ms) root keep
  none_where_free None e = (λ none. clash_free ms root keep held r ordered (sym e), λ free. refl)
  none_where_free (Some y) e = (λ none. absurd (cc), λ free. absurd (not_first (modules_of ms) root keep free y (first_clash ms root keep held r ordered y (sym e))))
