-- The table of a module's names, an entry after another.
use Rattle.std.proofs.Common.{◌≡◌, ◌≢◌, refl, sym, ap, ◌∙◌, subst, ℕ, zero, suc, ◌+◌, ◌<◌, ◌≤◌, List, [], ◌∷◌, ◌++◌, take, drop, get_or, length, map, Bool, true, false, Option, Some, None, Result, Ok, Err, arith, add-one, length-append, drop-cons}
use Rattle.std.specs.Prelude.{if◌then◌else◌}
use Rattle.std.specs.Option.{option_map, is_some}
use Rattle.std.specs.Str.{bytes_eq}
use Rattle.std.specs.HashMap.{get_by_text}
use Rattle.std.specs.Cmp.Lexicographic.{nat_list_eq_equiv}
use Rattle.std.proofs.lemmas.List.{take_more, get_or-map, get_or_append_left, get_or-append-add, length-map, map-append, take_all, drop_all}
use Rattle.wgsl_path.specs.declared.path.ModulePath.{ModulePath}
use Rattle.wgsl_path.specs.declared.span.Spanned.{Spanned}
use Rattle.core_syntax.specs.declared.import.ImportStatement.{ImportStatement}
use Rattle.core_syntax.specs.declared.declaration.GlobalDeclaration.{GlobalDeclaration}
use Rattle.core_syntax.specs.declared.unit.TranslationUnit.{TranslationUnit}
use Rattle.core_syntax.specs.Tree.{Decl, UnitTree}
use Rattle.core_syntax.specs.View.{import_tree, declaration_tree, unit_tree}
use Rattle.core_link_spec.specs.Occurrences.{Name, is_among, declared_name}
use Rattle.core_link_spec.specs.Modules.{local_name}
use Rattle.core_scopes.specs.declared.error.ImportError.{ImportError}
use Rattle.core_scopes.specs.declared.error.ImportError.TheVariants.{OutOfMemory, DuplicateSymbol, TooManyModules, Resolve, MissingDecl, Private}
use Rattle.core_scopes.specs.declared.target.Meaning.{Meaning}
use Rattle.core_scopes.specs.Meanings.{Done, Known, declared, Table, IsTableOf, Adds, meant, known_of, names, first_again, import_known, import_entry, declared_entries, entries, Tabulates}

-- ---- one entry

spread : (b : Bool) (m : Meaning) (o : Option Meaning) → option_map known_of (if b then Some m else o) ≡ (if b then Some (known_of m) else option_map known_of o)
spread true m o = refl
spread false m o = refl

pub none_of : (o : Option Meaning) → is_some o ≡ false → option_map known_of o ≡ None
none_of (Some m) e = absurd (cc)
none_of None e = refl

pub updated : (old new : Table) (m : Meaning) (x : Name) → ((y : Name) → get_by_text new y ≡ (if bytes_eq x y then Some m else get_by_text old y))
    → (y : Name) → option_map known_of (get_by_text new y) ≡ (if bytes_eq x y then Some (known_of m) else option_map known_of (get_by_text old y))
updated old new m x h y = ap (option_map known_of) (h y) ∙ spread (bytes_eq x y) m (get_by_text old y)

-- ---- lists of entries

turned : (b c d : Bool) (k l : Known) (o : Option Known) → (b ≡ true → c ≡ true → d ≡ true → ⊥)
    → b ≡ d → (if c then Some l else (if d then Some k else o)) ≡ (if b then Some k else (if c then Some l else o))
turned true true d k l o clash e = absurd (clash refl refl (sym e))
turned true false d k l o clash e = ap (λ t. if t then Some k else o) (sym e)
turned false true d k l o clash e = refl
turned false false d k l o clash e = ap (λ t. if t then Some k else o) (sym e)

not_here : (x y z : Name) (k : Known) (o : Option Known) → (if bytes_eq x z then Some k else o) ≡ None → bytes_eq x y ≡ true → bytes_eq y z ≡ true → ⊥
not_here x y z k o none same here =
    let too : bytes_eq x z ≡ true = nat_list_eq_equiv.congr x y z same ∙ here in
    let some : Some k ≡ None = ap (λ t. if t then Some k else o) (sym too) ∙ none in
    absurd (cc)

passed : (b : Bool) (k : Known) (o : Option Known) → (if b then Some k else o) ≡ None → o ≡ None
passed true k o e = absurd (cc)
passed false k o e = e

meant_push : (es : List (Name × Known)) (x : Name) (k : Known) (y : Name) → meant es x ≡ None → meant (es ++ (x, k) ∷ []) y ≡ (if bytes_eq x y then Some k else meant es y)
meant_push [] x k y none = ap (λ t. if t then Some k else None) (nat_list_eq_equiv.symm y x)
meant_push (e ∷ es) x k y none =
    ap (λ t. if bytes_eq y e.0 then Some e.1 else t) (meant_push es x k y (passed (bytes_eq x e.0) e.1 (meant es x) none))
    ∙ turned (bytes_eq x y) (bytes_eq y e.0) (bytes_eq x y) k e.1 (meant es y) (λ a b c. not_here x y e.0 e.1 (meant es x) none a b) refl

absent : (es : List (Name × Known)) (x : Name) → meant es x ≡ None → is_among x (names es) ≡ false
absent [] x none = refl
absent (e ∷ es) x none = at (bytes_eq x e.0) refl (absent es x (passed (bytes_eq x e.0) e.1 (meant es x) none))
  where
    at : (b : Bool) → bytes_eq x e.0 ≡ b → is_among x (names es) ≡ false → is_among x (names (e ∷ es)) ≡ false
    at true is rest = absurd (let some : Some e.1 ≡ None = ap (λ t. if t then Some e.1 else meant es x) (sym is) ∙ none in cc)
    at false is rest = rw is rest

present : (es : List (Name × Known)) (x : Name) → meant es x ≢ None → is_among x (names es) ≡ true
present [] x some = absurd (some refl)
present (e ∷ es) x some = at (bytes_eq x e.0) refl (present es x)
  where
    at : (b : Bool) → bytes_eq x e.0 ≡ b → (meant es x ≢ None → is_among x (names es) ≡ true) → is_among x (names (e ∷ es)) ≡ true
    at true is rest = rw is refl
    at false is rest = rw is (rest (λ none. some (rw is none)))

-- ---- a table that has the first entries

pub record Tabulated (table : Table) (es : List (Name × Known)) (k : ℕ) : Type 0 where
  pub answers : IsTableOf table (take k es)
  pub fresh : first_again (names (take k es)) (names (drop k es)) ≡ first_again [] (names es)

pub none_tabulated : (table : Table) (es : List (Name × Known)) → ((x : Name) → get_by_text table x ≡ None) → Tabulated table es 0
none_tabulated table es empty = record { answers = λ x. ap (option_map known_of) (empty x); fresh = refl }

front : (es : List (Name × Known)) (k : ℕ) (e : Name × Known) → k < length es → get_or es k e ≡ e → drop k es ≡ e ∷ drop (k + 1) es
front es k e h is = drop-cons es k e h ∙ ap (λ x. x ∷ drop (suc k) es) is ∙ ap (λ n. e ∷ drop n es) (sym (add-one k))

after : (es : List (Name × Known)) (k : ℕ) (e : Name × Known) → k < length es → get_or es k e ≡ e → take (k + 1) es ≡ take k es ++ e ∷ []
after es k e h is = take_more es k e h ∙ ap (λ x. take k es ++ x ∷ []) is

pub one_more : (path : ModulePath) (old new : Table) (es : List (Name × Known)) (k : ℕ) (e : Name × Known) (u : Done)
    → Tabulated old es k → k < length es → get_or es k e ≡ e → Adds path old e.0 e.1 (Ok u) new → Tabulated new es (k + 1)
one_more path old new es k e u t h is a =
    let more = after es k e h is in
    let none : meant (take k es) e.0 ≡ None = sym (t.answers e.0) ∙ a.0 in
    let here : first_again (names (take k es)) (e.0 ∷ names (drop (k + 1) es)) ≡ first_again [] (names es)
    = ap (λ l. first_again (names (take k es)) (names l)) (sym (front es k e h is)) ∙ t.fresh in
    record {
      answers = λ y. a.1 y ∙ ap (λ o. if bytes_eq e.0 y then Some e.1 else o) (t.answers y) ∙ sym (meant_push (take k es) e.0 e.1 y none) ∙ ap (λ l. meant l y) (sym more);
      fresh = ap (λ l. first_again l (names (drop (k + 1) es))) (ap names more ∙ map-append (λ (x : Name × Known). x.0) (take k es) (e ∷ []))
          ∙ ap (λ b. if b then Some e.0 else first_again (names (take k es) ++ e.0 ∷ []) (names (drop (k + 1) es))) (sym (absent (take k es) e.0 none))
          ∙ here;
    }

pub refused_at : (path : ModulePath) (old : Table) (es : List (Name × Known)) (k : ℕ) (e : Name × Known)
    → Tabulated old es k → k < length es → get_or es k e ≡ e → option_map known_of (get_by_text old e.0) ≢ None → first_again [] (names es) ≡ Some e.0
refused_at path old es k e t h is some =
    sym t.fresh ∙ ap (λ l. first_again (names (take k es)) (names l)) (front es k e h is)
    ∙ ap (λ b. if b then Some e.0 else first_again (names (take k es) ++ e.0 ∷ []) (names (drop (k + 1) es)))
    (present (take k es) e.0 (λ none. some (t.answers e.0 ∙ none)))

pub all_tabulated : (table : Table) (es : List (Name × Known)) (k : ℕ) → k ≡ length es → Tabulated table es k → IsTableOf table es × (first_again [] (names es) ≡ None)
all_tabulated table es k e t =
    let long : length es ≤ k = omega arith in
    let whole : take k es ≡ es = take_all k es long in
    let nothing : drop k es ≡ [] = drop_all k es long in
    (λ x. t.answers x ∙ ap (λ l. meant l x) whole, sym t.fresh ∙ ap (λ l. first_again (names (take k es)) (names l)) nothing)

-- ---- the entry at a place

abbrev pub import_entries : List ImportStatement → List (Name × Known)
import_entries is = map import_entry (map import_tree is)

abbrev pub value_entries : List (Spanned GlobalDeclaration) → List (Name × Known)
value_entries ds = declared_entries 0 (map (λ n. declaration_tree n.node) ds)

imports_length : (is : List ImportStatement) → length (import_entries is) ≡ length is
imports_length is = length-map (map import_tree is) import_entry ∙ length-map is import_tree

pub import_at : (is : List ImportStatement) (es : List (Name × Known)) (i : ℕ) (d : ImportStatement) (e : Name × Known) → i < length is
    → get_or (import_entries is ++ es) i e ≡ import_entry (import_tree (get_or is i d))
import_at is es i d e h =
    get_or_append_left (import_entries is) es e i (rw imports_length h)
    ∙ get_or-map import_entry (map import_tree is) i (import_tree d) e (rw length-map h)
    ∙ ap import_entry (get_or-map import_tree is i d (import_tree d) h)

declared_from : (ds : List (Spanned GlobalDeclaration)) (k place : ℕ) (d : Spanned GlobalDeclaration) (e : Name × Known) → place < length ds
    → get_or (declared_entries k (map (λ n. declaration_tree n.node) ds)) place e ≡ (declared_name (declaration_tree (get_or ds place d).node), declared (k + place))
declared_from [] k place d e h = absurd (omega arith)
declared_from (x ∷ ds) k zero d e h = let same : k ≡ k + zero = omega arith in ap (λ t. (declared_name (declaration_tree x.node), declared t)) same
declared_from (x ∷ ds) k (suc p) d e h =
    let less : p < length ds = omega arith in
    let same : (k + 1) + p ≡ k + suc p = omega arith in
    declared_from ds (k + 1) p d e less ∙ ap (λ t. (declared_name (declaration_tree (get_or ds p d).node), declared t)) same

pub declared_at : (is : List ImportStatement) (ds : List (Spanned GlobalDeclaration)) (place : ℕ) (d : Spanned GlobalDeclaration) (e : Name × Known) → place < length ds
    → get_or (import_entries is ++ value_entries ds) (length is + place) e ≡ (declared_name (declaration_tree (get_or ds place d).node), declared place)
declared_at is ds place d e h =
    let same : 0 + place ≡ place = omega arith in
    ap (λ n. get_or (import_entries is ++ value_entries ds) (n + place) e) (sym (imports_length is))
    ∙ get_or-append-add (import_entries is) (value_entries ds) place e
    ∙ declared_from ds 0 place d e h
    ∙ ap (λ t. (declared_name (declaration_tree (get_or ds place d).node), declared t)) same

values_length : (k : ℕ) (ds : List Decl) → length (declared_entries k ds) ≡ length ds
values_length k [] = refl
values_length k (d ∷ ds) = ap suc (values_length (k + 1) ds)

pub entries_length : (is : List ImportStatement) (ds : List (Spanned GlobalDeclaration)) → length (import_entries is ++ value_entries ds) ≡ length is + length ds
entries_length is ds = length-append (import_entries is) (value_entries ds) ∙ (λ k. imports_length is k + (values_length 0 (map (λ n. declaration_tree n.node) ds) ∙ length-map ds (λ n. declaration_tree n.node)) k)

-- ---- a step of the loops

-- what a step leaves: one more entry, or the refusal
abbrev pub Steps : ModulePath → UnitTree → Table → ℕ → Result Done ImportError → Type 0
Steps path u new k (Ok done) = Tabulated new (entries u) k
Steps path u new k (Err e) = Tabulates path u (Err e)

step : (path : ModulePath) (old new : Table) (u : UnitTree) (k : ℕ) (e : Name × Known) (r : Result Done ImportError)
    → Tabulated old (entries u) k → k < length (entries u) → get_or (entries u) k e ≡ e → Adds path old e.0 e.1 r new → Steps path u new (k + 1) r
step path old new u k e (Ok done) t h is a = one_more path old new (entries u) k e done t h is a
step path old new u k e (Err OutOfMemory) t h is a = tt
step path old new u k e (Err (DuplicateSymbol p x)) t h is a = (a.0, refused_at path old (entries u) k e t h is a.2 ∙ ap Some (sym a.1))
step path old new u k e (Err (TooManyModules p)) t h is a = absurd a
step path old new u k e (Err (Resolve r)) t h is a = absurd a
step path old new u k e (Err (MissingDecl p x)) t h is a = absurd a
step path old new u k e (Err (Private p x)) t h is a = absurd a

pub import_step : (path : ModulePath) (old new : Table) (u : TranslationUnit) (i : ℕ) (item : ImportStatement) (x : Name) (k : Known) (r : Result Done ImportError)
    → Tabulated old (entries (unit_tree u)) i → i < length u.imports → item ≡ get_or u.imports i item → x ≡ local_name (import_tree item)
    → k ≡ import_known (import_tree item).path (import_tree item).item → Adds path old x k r new → Steps path (unit_tree u) new (i + 1) r
import_step path old new u i item x k r t h is name means a =
    let e : Name × Known = import_entry (import_tree item) in
    let within : i < length (entries (unit_tree u)) = omega (arith, entries_length u.imports u.global_declarations, h) in
    let same : e ≡ (x, k) = λ j. (sym name j, sym means j) in
    step path old new (unit_tree u) i e r t within
    (import_at u.imports (value_entries u.global_declarations) i item e h ∙ ap (λ y. import_entry (import_tree y)) (sym is))
    (subst (λ (y : Name × Known). Adds path old y.0 y.1 r new) (sym same) a)

pub value_step : (path : ModulePath) (old new : Table) (u : TranslationUnit) (place : ℕ) (item : Spanned GlobalDeclaration) (x : Name) (k : Known) (r : Result Done ImportError)
    → Tabulated old (entries (unit_tree u)) (length u.imports + place) → place < length u.global_declarations → item ≡ get_or u.global_declarations place item
    → x ≡ declared_name (declaration_tree item.node) → k ≡ declared place → Adds path old x k r new → Steps path (unit_tree u) new (length u.imports + (place + 1)) r
value_step path old new u place item x k r t h is name means a =
    let e : Name × Known = (declared_name (declaration_tree item.node), declared place) in
    let within : length u.imports + place < length (entries (unit_tree u)) = omega (arith, entries_length u.imports u.global_declarations, h) in
    let same : e ≡ (x, k) = λ j. (sym name j, sym means j) in
    let next : (length u.imports + place) + 1 ≡ length u.imports + (place + 1) = omega arith in
    subst (λ n. Steps path (unit_tree u) new n r) next
    (step path old new (unit_tree u) (length u.imports + place) e r t within
    (declared_at u.imports u.global_declarations place item e h ∙ ap (λ (y : Spanned GlobalDeclaration). (declared_name (declaration_tree y.node), declared place)) (sym is))
    (subst (λ (y : Name × Known). Adds path old y.0 y.1 r new) (sym same) a))

pub whole_table : (table : Table) (u : TranslationUnit) (place : ℕ) → length u.global_declarations ≤ place → place ≤ length u.global_declarations
    → Tabulated table (entries (unit_tree u)) (length u.imports + place) → IsTableOf table (entries (unit_tree u)) × (first_again [] (names (entries (unit_tree u))) ≡ None)
whole_table table u place ge le t =
    let all : length u.imports + place ≡ length (entries (unit_tree u)) = omega (arith, entries_length u.imports u.global_declarations, ge, le) in
    all_tabulated table (entries (unit_tree u)) (length u.imports + place) all t
