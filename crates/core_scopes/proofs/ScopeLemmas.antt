-- The names of a module's scope: what each means, where the scope has each once.
use Rattle.std.proofs.Common.{◌≡◌, refl, sym, ap, ◌∙◌, subst, ℕ, zero, suc, ◌+◌, ◌<◌, ◌⊎◌, inl, inr, ⊎_elim, List, [], ◌∷◌, ◌++◌, get_or, length, map, Bool, true, false, ◌||◌, Option, Some, None, arith, append_assoc}
use Rattle.std.specs.Prelude.{if◌then◌else◌, slice_get}
use Rattle.std.specs.List.{Contains}
use Rattle.std.specs.Str.{bytes_eq}
use Rattle.std.specs.Cmp.Lexicographic.{nat_list_eq_equiv}
use Rattle.std.proofs.lemmas.Option.{get_or_from_slice_get, slice_get_within}
use Rattle.std.proofs.lemmas.List.{append-nil, map-append}
use Rattle.std.proofs.lemmas.List.Folds.{list_any-append}
use Rattle.std.proofs.lemmas.Slice.Eq.{bytes_eq-Decides}
use Rattle.std.proofs.lemmas.Map.Views.{list_any-from_Contains, Contains-from_any}
use Rattle.std.specs.Option.{option_map}
use Rattle.wgsl_path.specs.declared.span.Spanned.{Spanned}
use Rattle.core_syntax.specs.declared.declaration.GlobalDeclaration.{GlobalDeclaration}
use Rattle.core_syntax.specs.View.{declaration_tree}
use Rattle.core_syntax.specs.Tree.{Decl, Imp, UnitTree}
use Rattle.core_link_spec.specs.Occurrences.{Name, is_among, declared_name}
use Rattle.core_link_spec.specs.Modules.{local_name}
use Rattle.core_link_spec.specs.Rounds.{scope_names, AreDistinct, no_names, another, IsFirstAgain}
use Rattle.core_scopes.specs.Meanings.{Known, declared, meant, known, names, first_again, import_known, import_entry, declared_entries, entries}
use Rattle.wgsl_base.proofs.Members.{at_place, from_contains, get_map}

-- ---- elements by their places

pub map_get : {X Y : Type 0} (f : X → Y) (xs : List X) (i : ℕ) (y : Y) → slice_get (map f xs) i ≡ Some y → (x : X) × (slice_get xs i ≡ Some x) × (f x ≡ y)
map_get f [] i y is = absurd (cc)
map_get f (x ∷ xs) zero y is = let e : f x ≡ y = cc in (x, refl, e)
map_get f (x ∷ xs) (suc i) y is = map_get f xs i y is

pub append_left : {X : Type 0} (xs ys : List X) (i : ℕ) (x : X) → slice_get xs i ≡ Some x → slice_get (xs ++ ys) i ≡ Some x
append_left [] ys i x is = absurd (cc)
append_left (y ∷ xs) ys zero x is = is
append_left (y ∷ xs) ys (suc i) x is = append_left xs ys i x is

pub append_right : {X : Type 0} (xs ys : List X) (i : ℕ) (x : X) → slice_get ys i ≡ Some x → (j : ℕ) × (slice_get (xs ++ ys) j ≡ Some x)
append_right [] ys i x is = (i, is)
append_right (y ∷ xs) ys i x is = let r = append_right xs ys i x is in (suc r.0, r.1)

pub append_cases : {X : Type 0} (xs ys : List X) (i : ℕ) (x : X) → slice_get (xs ++ ys) i ≡ Some x → ((j : ℕ) × (slice_get xs j ≡ Some x)) ⊎ ((j : ℕ) × (slice_get ys j ≡ Some x))
append_cases [] ys i x is = inr (i, is)
append_cases (y ∷ xs) ys zero x is = inl (zero, is)
append_cases (y ∷ xs) ys (suc i) x is = ⊎_elim (λ l. inl (suc l.0, l.1)) (λ r. inr r) (append_cases xs ys i x is)

-- ---- equal names

pub same_name : (x y : Name) → bytes_eq x y ≡ true → x ≡ y
same_name x y e = (bytes_eq-Decides x y).0 e

pub self_name : (x : Name) → bytes_eq x x ≡ true
self_name x = nat_list_eq_equiv.refl x

pub among_contains : (x : Name) (xs : List Name) → is_among x xs ≡ true → Contains xs x
among_contains x xs e = Contains-from_any {eq = bytes_eq} same_name x xs e

pub contains_among : (x : Name) (xs : List Name) → Contains xs x → is_among x xs ≡ true
contains_among x xs c = list_any-from_Contains nat_list_eq_equiv x xs c

-- ---- names that stand once

or_false : (a b : Bool) → (a || b) ≡ false → a ≡ false
or_false true b e = e
or_false false b e = refl

or_false_right : (a b : Bool) → (a || b) ≡ false → b ≡ false
or_false_right true b e = absurd (cc)
or_false_right false b e = e

passed : (b : Bool) (x : Name) (o : Option Name) → (if b then Some x else o) ≡ None → (b ≡ false) × (o ≡ None)
passed true x o e = absurd (cc)
passed false x o e = (refl, e)

fresh_of : (before rest : List Name) (i : ℕ) (x : Name) → first_again before rest ≡ None → slice_get rest i ≡ Some x → is_among x before ≡ false
fresh_of before [] i x e is = absurd (cc)
fresh_of before (y ∷ rest) zero x e is = let same : y ≡ x = cc in subst (λ t. is_among t before ≡ false) same (passed (is_among y before) y (first_again (before ++ y ∷ []) rest) e).0
fresh_of before (y ∷ rest) (suc i) x e is =
    let more = fresh_of (before ++ y ∷ []) rest i x (passed (is_among y before) y (first_again (before ++ y ∷ []) rest) e).1 is in
    or_false (is_among x before) (is_among x (y ∷ [])) (sym (list_any-append (λ z. bytes_eq x z) before (y ∷ [])) ∙ more)

not_again : (before rest : List Name) (y x : Name) (j : ℕ) → first_again (before ++ y ∷ []) rest ≡ None → y ≡ x → slice_get rest j ≡ Some x → ⊥
not_again before rest y x j e same is =
    let no = fresh_of (before ++ y ∷ []) rest j x e is in
    let last = or_false_right (is_among x before) (is_among x (y ∷ [])) (sym (list_any-append (λ z. bytes_eq x z) before (y ∷ [])) ∙ no) in
    let yes : bytes_eq x y ≡ true = subst (λ t. bytes_eq x t ≡ true) (sym same) (self_name x) in
    let both : bytes_eq x y ≡ false = or_false (bytes_eq x y) false last in
    absurd (cc)

once : (before rest : List Name) (i j : ℕ) (x : Name) → first_again before rest ≡ None → slice_get rest i ≡ Some x → slice_get rest j ≡ Some x → i ≡ j
once before [] i j x e is js = absurd (cc)
once before (y ∷ rest) zero zero x e is js = refl
once before (y ∷ rest) zero (suc j) x e is js = absurd (not_again before rest y x j (passed (is_among y before) y (first_again (before ++ y ∷ []) rest) e).1 (let same : y ≡ x = cc in same) js)
once before (y ∷ rest) (suc i) zero x e is js = absurd (not_again before rest y x i (passed (is_among y before) y (first_again (before ++ y ∷ []) rest) e).1 (let same : y ≡ x = cc in same) is)
once before (y ∷ rest) (suc i) (suc j) x e is js = ap suc (once (before ++ y ∷ []) rest i j x (passed (is_among y before) y (first_again (before ++ y ∷ []) rest) e).1 is js)

none_again : (before rest : List Name) → AreDistinct before → first_again before rest ≡ None → AreDistinct (before ++ rest)
none_again before [] d e = subst AreDistinct (sym (append-nil before)) d
none_again before (x ∷ rest) d e =
    let p = passed (is_among x before) x (first_again (before ++ x ∷ []) rest) e in
    subst AreDistinct (append_assoc before (x ∷ []) rest)
    (none_again (before ++ x ∷ []) rest (another d (λ c. let yes = contains_among x before c in let no = p.0 in absurd (cc))) p.1)

some_again : (before rest : List Name) (y : Name) → AreDistinct before → first_again before rest ≡ Some y → IsFirstAgain (before ++ rest) y
some_again before [] y d e = absurd (cc)
some_again before (x ∷ rest) y d e = at (is_among x before) refl e (some_again (before ++ x ∷ []) rest y)
  where
    at : (b : Bool) → is_among x before ≡ b → (if b then Some x else first_again (before ++ x ∷ []) rest) ≡ Some y
        → (AreDistinct (before ++ x ∷ []) → first_again (before ++ x ∷ []) rest ≡ Some y → IsFirstAgain ((before ++ x ∷ []) ++ rest) y) → IsFirstAgain (before ++ x ∷ rest) y
    at true is e more =
        let same : x ≡ y = cc in
        record { before = before; behind = rest; whole = ap (λ t. before ++ t ∷ rest) same; distinct = d; again = subst (Contains before) same (among_contains x before is) }
    at false is e more =
        subst (λ l. IsFirstAgain l y) (append_assoc before (x ∷ []) rest)
        (more (another d (λ c. let yes = contains_among x before c in absurd (cc))) e)

import_names : (is : List Imp) → map (λ (e : Name × Known). e.0) (map import_entry is) ≡ map local_name is
import_names [] = refl
import_names (i ∷ is) = ap (λ l. local_name i ∷ l) (import_names is)

value_names : (k : ℕ) (ds : List Decl) → map (λ (e : Name × Known). e.0) (declared_entries k ds) ≡ map declared_name ds
value_names k [] = refl
value_names k (d ∷ ds) = ap (λ l. declared_name d ∷ l) (value_names (k + 1) ds)

pub names_entries : (u : UnitTree) → names (entries u) ≡ scope_names u
names_entries u =
    map-append (λ (e : Name × Known). e.0) (map import_entry u.imports) (declared_entries 0 u.declarations)
    ∙ (λ k. import_names u.imports k ++ value_names 0 u.declarations k)

pub distinct_names : (u : UnitTree) → first_again [] (names (entries u)) ≡ None → AreDistinct (scope_names u)
distinct_names u e = none_again [] (scope_names u) no_names (ap (first_again []) (sym (names_entries u)) ∙ e)

pub first_again_named : (u : UnitTree) (x : Name) → first_again [] (names (entries u)) ≡ Some x → IsFirstAgain (scope_names u) x
first_again_named u x e = some_again [] (scope_names u) x no_names (ap (first_again []) (sym (names_entries u)) ∙ e)

-- ---- what a name means

both : (b : Bool) (k l : Known) (o : Option Known) → b ≡ true → (if b then Some k else o) ≡ Some l → k ≡ l
both true k l o t e = cc
both false k l o t e = absurd (cc)

pub meant_at : (es : List (Name × Known)) (x : Name) (k : Known) → meant es x ≡ Some k → (i : ℕ) × (slice_get es i ≡ Some (x, k))
meant_at [] x k e = absurd (cc)
meant_at (y ∷ es) x k e = at (bytes_eq x y.0) refl e (meant_at es x k)
  where
    at : (b : Bool) → bytes_eq x y.0 ≡ b → (if b then Some y.1 else meant es x) ≡ Some k → (meant es x ≡ Some k → (i : ℕ) × (slice_get es i ≡ Some (x, k)))
        → (i : ℕ) × (slice_get (y ∷ es) i ≡ Some (x, k))
    at true is e more =
        let name : x ≡ y.0 = same_name x y.0 is in
        let known : y.1 ≡ k = cc in
        (zero, λ t. Some (sym name t, known t))
    at false is e more = let r = more e in (suc r.0, r.1)

pub meant_some : (es : List (Name × Known)) (i : ℕ) (x : Name) (k : Known) → slice_get es i ≡ Some (x, k) → (l : Known) × (meant es x ≡ Some l)
meant_some [] i x k is = absurd (cc)
meant_some (y ∷ es) zero x k is =
    let name : y.0 ≡ x = ap (λ (o : Option (Name × Known)). first o) is in
    (y.1, ap (λ b. if b then Some y.1 else meant es x) (ap (bytes_eq x) name ∙ self_name x))
  where
    first : Option (Name × Known) → Name
    first (Some e) = e.0
    first None = x
meant_some (y ∷ es) (suc i) x k is = at (bytes_eq x y.0) (meant_some es i x k is)
  where
    at : (b : Bool) → (l : Known) × (meant es x ≡ Some l) → (l : Known) × ((if b then Some y.1 else meant es x) ≡ Some l)
    at true r = (y.1, refl)
    at false r = r

pub meant_once : (es : List (Name × Known)) (i : ℕ) (x : Name) (k : Known) → first_again [] (names es) ≡ None → slice_get es i ≡ Some (x, k) → meant es x ≡ Some k
meant_once es i x k fresh is =
    let some = meant_some es i x k is in
    let there = meant_at es x some.0 some.1 in
    let same : i ≡ there.0 = once [] (names es) i there.0 x fresh (get_map (λ (e : Name × Known). e.0) es i (x, k) is) (get_map (λ (e : Name × Known). e.0) es there.0 (x, some.0) there.1) in
    let two : Some (x, k) ≡ Some (x, some.0) = sym is ∙ ap (slice_get es) same ∙ there.1 in
    some.1 ∙ ap (λ (o : Option (Name × Known)). second o) (sym two)
  where
    second : Option (Name × Known) → Option Known
    second (Some e) = Some e.1
    second None = None

declared_get : (k : ℕ) (ds : List Decl) (i : ℕ) (e : Name × Known) → slice_get (declared_entries k ds) i ≡ Some e → (d : Decl) × (slice_get ds i ≡ Some d) × ((declared_name d, declared (k + i)) ≡ e)
declared_get k [] i e is = absurd (cc)
declared_get k (d ∷ ds) zero e is = let same : (declared_name d, declared k) ≡ e = cc in let here : k + zero ≡ k = omega arith in (d, refl, ap (λ n. (declared_name d, declared n)) here ∙ same)
declared_get k (d ∷ ds) (suc i) e is =
    let r = declared_get (k + 1) ds i e is in
    let here : k + suc i ≡ (k + 1) + i = omega arith in
    (r.0, r.1, ap (λ n. (declared_name r.0, declared n)) here ∙ r.2)

get_declared : (k : ℕ) (ds : List Decl) (i : ℕ) (d : Decl) → slice_get ds i ≡ Some d → slice_get (declared_entries k ds) i ≡ Some (declared_name d, declared (k + i))
get_declared k [] i d is = absurd (cc)
get_declared k (x ∷ ds) zero d is =
    let same : x ≡ d = cc in let here : k ≡ k + zero = omega arith in
    ap (λ t. Some (declared_name t, declared k)) same ∙ ap (λ n. Some (declared_name d, declared n)) here
get_declared k (x ∷ ds) (suc i) d is =
    let here : (k + 1) + i ≡ k + suc i = omega arith in
    get_declared (k + 1) ds i d is ∙ ap (λ n. Some (declared_name d, declared n)) here

-- an entry is that of an import or of a declaration
pub entry_cases : (u : UnitTree) (i : ℕ) (e : Name × Known) → slice_get (entries u) i ≡ Some e
    → ((j : ℕ) × (import : Imp) × (slice_get u.imports j ≡ Some import) × (import_entry import ≡ e)) ⊎ ((j : ℕ) × (d : Decl) × (slice_get u.declarations j ≡ Some d) × ((declared_name d, declared j) ≡ e))
entry_cases u i e is =
    ⊎_elim
    (λ l. let r = map_get import_entry u.imports l.0 e l.1 in inl (l.0, r.0, r.1, r.2))
    (λ l. let r = declared_get 0 u.declarations l.0 e l.1 in let here : l.0 ≡ 0 + l.0 = omega arith in inr (l.0, r.0, r.1, ap (λ n. (declared_name r.0, declared n)) here ∙ r.2))
    (append_cases (map import_entry u.imports) (declared_entries 0 u.declarations) i e is)

pub import_means : (u : UnitTree) (i : Imp) → first_again [] (names (entries u)) ≡ None → Contains u.imports i → known u (local_name i) ≡ Some (import_known i.path i.item)
import_means u i fresh c =
    let p = from_contains u.imports i c in
    meant_once (entries u) p.0 (local_name i) (import_known i.path i.item) fresh
    (append_left (map import_entry u.imports) (declared_entries 0 u.declarations) p.0 (import_entry i) (get_map import_entry u.imports p.0 i p.1))

pub value_means : (u : UnitTree) (j : ℕ) (d : Decl) → first_again [] (names (entries u)) ≡ None → slice_get u.declarations j ≡ Some d → known u (declared_name d) ≡ Some (declared j)
value_means u j d fresh is =
    let e : Name × Known = (declared_name d, declared j) in
    let p = append_right (map import_entry u.imports) (declared_entries 0 u.declarations) j e (get_declared 0 u.declarations j d is ∙ (let here : 0 + j ≡ j = omega arith in ap (λ n. Some (declared_name d, declared n)) here)) in
    meant_once (entries u) p.0 (declared_name d) (declared j) fresh p.1

pub declaration_place : (ds : List (Spanned GlobalDeclaration)) (i : ℕ)
    → slice_get (map (λ n. declaration_tree n.node) ds) i ≡ option_map (λ n. declaration_tree n.node) (slice_get ds i)
declaration_place [] i = refl
declaration_place (d ∷ ds) zero = refl
declaration_place (d ∷ ds) (suc i) = declaration_place ds i
