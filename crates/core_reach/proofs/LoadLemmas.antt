-- Loading what is asked for, one module after another.
use Rattle.std.proofs.Common.{◌≡◌, refl, sym, ap, ◌∙◌, subst, ℕ, zero, suc, ◌+◌, ◌<◌, ◌≤◌, ◌⊎◌, inl, inr, ⊎_elim, List, [], ◌∷◌, ◌++◌, map, length, Bool, true, false, Option, Some, None, Result, Ok, Err, arith, append_assoc}
use Rattle.std.specs.Prelude.{if◌then◌else◌, slice_get, string_bytes, ◌↔◌}
use Rattle.std.specs.Option.{is_some}
use Rattle.std.specs.Str.{bytes_eq}
use Rattle.std.specs.String.{string_cmp, string_cmp_total}
use Rattle.std.specs.Ordering.{nat_cmp, is_eq}
use Rattle.std.specs.Cmp.Lexicographic.{slice_cmp}
use Rattle.std.specs.List.{Contains, AllByRecursion}
use Rattle.std.specs.List.Sorted.{IsStrictlySortedBy}
use Rattle.std.specs.declared.cmp.Ordering.TheVariants.{Less}
use Rattle.std.proofs.lemmas.Map.Keys.{sorted_head, sorted_tail}
use Rattle.std.specs.BTreeMap.{BTreeMap, get, get_by_text, IsOrdered, Updates, btree_map_len}
use Rattle.std.specs.declared.string.String.{String}
use Rattle.std.specs.declared.alloc.Global.{Global}
use Rattle.std.proofs.lemmas.List.{length-append, append-nil}
use Rattle.std.proofs.lemmas.Map.Entries.{place_from_lookup, btree_map_get_place}
use Rattle.std.proofs.lemmas.Map.Text.{btree_map_updates_text, is_eq-slice_cmp}
use Rattle.std.proofs.lemmas.List.Elements.{Contains-append_left, Contains-append_right, Contains-append_cases}
use Rattle.wgsl_path.specs.declared.path.ModulePath.{ModulePath}
use Rattle.wgsl_path.specs.Paths.{path_text}
use Rattle.core_syntax.specs.Tree.{UnitTree}
use Rattle.core_syntax.specs.declared.unit.TranslationUnit.{TranslationUnit}
use Rattle.core_syntax.specs.View.{unit_tree}
use Rattle.wesl_resolve.specs.declared.error.ResolveError.{ResolveError}
use Rattle.wesl_resolve.specs.declared.error.ResolveError.TheVariants as resolve
use Rattle.wesl_resolve.specs.Found.{unit_of, not_found, faulty, unsupported, TellsUnit, SameAnswers}
use Rattle.core_link_spec.specs.Modules.{Path, Modules}
use Rattle.core_link_spec.specs.Rounds.{Sources, LoadError, too_many_modules, module_not_found, syntax, module_unsupported, duplicate_symbol, scope_names, AreDistinct, Loads, all_loaded, one_too_many, is_not_found, is_faulty, is_unsupported, has_a_name_twice, loaded_then_refused, loaded}
use Rattle.core_scopes.specs.declared.error.ImportError.{ImportError}
use Rattle.core_scopes.specs.declared.error.ImportError.TheVariants as import
use Rattle.core_scopes.specs.declared.module.Module.{Module}
use Rattle.core_scopes.specs.Meanings.{GivesError}
use Rattle.core_scopes.specs.Tells.{Opens}
use Rattle.core_scopes.proofs.ScopeLemmas.{map_get}
use Rattle.core_reach.specs.declared.linking.AskedModule.{AskedModule}
use Rattle.core_reach.specs.Missing.{refusal_of}
use Rattle.core_reach.specs.Resolved.{LoadedModules, modules_of}
use Rattle.core_reach.specs.Stages.{AskedNames}
use Rattle.core_reach.specs.Loading.{AreTabled, paths_of, AreSought, IsOldOrAsked, IsInsertedAt, IsRoot, RefusesLoading, IsLoadedOne, AreAllLoaded}
use Rattle.wgsl_base.proofs.Members.{in_cases, to_contains, from_contains, get_map, same_bytes, bytes_same}
use Rattle.core_reach.proofs.PresentLemmas.{DoneBut, all_done}

-- ---- one module

module _ (sources : Sources) (max n : ℕ) (path : ModulePath) (p : Path) (is : path_text path ≡ p) where
  told : (e : ImportError) (r : Option LoadError) → refusal_of e ≡ r → ((ps : List Path) → RefusesLoading sources max n (p ∷ ps) r) → (ps : List Path) → RefusesLoading sources max n (p ∷ ps) (refusal_of e)
  told e r same h ps = subst (RefusesLoading sources max n (p ∷ ps)) (sym same) (h ps)

  pub one_more : (q : ModulePath) → q ≡ path → max ≤ n → (ps : List Path) → Loads sources max n (p ∷ ps) (Err (too_many_modules (path_text q)))
  one_more q same full ps = let text : path_text q ≡ p = ap path_text same ∙ is in subst (λ t. Loads sources max n (p ∷ ps) (Err (too_many_modules t))) (sym text) (one_too_many full)

  pub unit_refused : (f : ResolveError) (e : ImportError) → n < max → TellsUnit (sources (path_text path)) path (Err f) → GivesError f e
      → (ps : List Path) → RefusesLoading sources max n (p ∷ ps) (refusal_of e)
  unit_refused resolve.OutOfMemory e less t g = told e None (ap refusal_of g) (λ ps. tt)
  unit_refused (resolve.GaveUp q r) e less t g = told e None (ap refusal_of g) (λ ps. tt)
  unit_refused (resolve.ModuleNotFound q) e less t g =
      let same : path_text q ≡ p = ap path_text t.0 ∙ is in
      told e (Some (module_not_found p)) (ap refusal_of g ∙ ap (λ x. Some (module_not_found x)) same) (λ ps. is_not_found less (subst (λ x. sources x not_found) is t.1))
  unit_refused (resolve.Syntax q f) e less t g =
      let same : path_text q ≡ p = ap path_text t.0 ∙ is in
      told e (Some (syntax p f)) (ap refusal_of g ∙ ap (λ x. Some (syntax x f)) same) (λ ps. is_faulty less (subst (λ x. sources x (faulty f)) is t.1))
  unit_refused (resolve.Unsupported q) e less t g =
      let same : path_text q ≡ p = ap path_text t.0 ∙ is in
      told e (Some (module_unsupported p)) (ap refusal_of g ∙ ap (λ x. Some (module_unsupported x)) same) (λ ps. is_unsupported less (subst (λ x. sources x unsupported) is t.1))

  pub module_refused : (unit : TranslationUnit) (e : ImportError) → n < max → sources (path_text path) (unit_of (unit_tree unit)) → Opens path unit (Err e)
      → (ps : List Path) → RefusesLoading sources max n (p ∷ ps) (refusal_of e)
  module_refused unit import.OutOfMemory less s o ps = tt
  module_refused unit (import.DuplicateSymbol q x) less s o ps =
      let same : path_text q ≡ p = ap path_text o.0 ∙ is in
      subst (λ t. Loads sources max n (p ∷ ps) (Err (duplicate_symbol t x))) (sym same)
      (has_a_name_twice less (subst (λ t. sources t (unit_of (unit_tree unit))) is s) o.1)
  module_refused unit (import.TooManyModules q) less s o ps = absurd o
  module_refused unit (import.Resolve f) less s o ps = absurd o
  module_refused unit (import.MissingDecl q x) less s o ps = absurd o
  module_refused unit (import.Private q x) less s o ps = absurd o

  pub module_loaded : (old new : LoadedModules) (unit : TranslationUnit) (one : Module) → n ≡ length old.entries → n < max
      → sources (path_text path) (unit_of (unit_tree unit)) → (one.path ≡ path) × (one.unit ≡ unit) × AreDistinct (scope_names (unit_tree unit))
      → IsInsertedAt old p one new → IsLoadedOne sources max old path p new
  module_loaded old new unit one same less s m inserted = record {
    one = one;
    within = subst (λ k. k < max) same less;
    found = subst (λ t. sources t (unit_of (unit_tree one.unit))) is (subst (λ t. sources (path_text path) (unit_of (unit_tree t))) (sym m.1) s);
    distinct = subst (λ t. AreDistinct (scope_names (unit_tree t))) (sym m.1) m.2;
    named = m.0;
    printed = ap path_text m.0 ∙ is;
    stands = inserted.stands;
    many = inserted.many;
    ordered = inserted.ordered;
  }

  pub is_root : (unit : TranslationUnit) (one : Module) → 0 < max → sources (path_text path) (unit_of (unit_tree unit))
      → (one.path ≡ path) × (one.unit ≡ unit) × AreDistinct (scope_names (unit_tree unit)) → IsRoot sources max path p one
  is_root unit one less s m = record {
    within = less;
    found = subst (λ t. sources t (unit_of (unit_tree one.unit))) is (subst (λ t. sources (path_text path) (unit_of (unit_tree t))) (sym m.1) s);
    distinct = subst (λ t. AreDistinct (scope_names (unit_tree t))) (sym m.1) m.2;
    named = m.0;
    printed = ap path_text m.0 ∙ is;
  }

pub root_loaded : (sources : Sources) (max : ℕ) (path : ModulePath) (p : Path) (one : Module) (old new : LoadedModules) → old.entries ≡ [] → IsRoot sources max path p one
    → IsInsertedAt old p one new → IsLoadedOne sources max old path p new
root_loaded sources max path p one old new empty root inserted = record {
  one = one;
  within = subst (λ n. n < max) (sym (ap length empty)) root.within;
  found = root.found;
  distinct = root.distinct;
  named = root.named;
  printed = root.printed;
  stands = inserted.stands;
  many = inserted.many;
  ordered = inserted.ordered;
}

pub inserted_at : (old new : LoadedModules) (p : Path) (key : String Global) (one : Module) (o : Option Module) → string_bytes key ≡ p → Updates string_cmp old new key (Some one)
    → o ≡ get string_cmp old key → btree_map_len new ≡ btree_map_len old + (if is_some o then 0 else 1) → IsOrdered string_cmp new → IsInsertedAt old p one new
inserted_at old new p key one o k u was many ordered = record {
  stands = λ q. btree_map_updates_text (string_bytes key) old new (Some one) u q ∙ ap (λ t. if bytes_eq t q then Some one else get_by_text old q) k;
  many = λ none.
      let nothing : o ≡ None = was ∙ ap (get_by_text old) k ∙ none in
      many ∙ ap (λ t. length old.entries + (if is_some t then 0 else 1)) nothing;
  ordered = ordered;
}

-- ---- tables and lists

in_one : {X : Type 0} (y x : X) → Contains (y ∷ []) x → y ≡ x
in_one y x c = let p = from_contains (y ∷ []) x c in at p.0 p.1
  where
    at : (i : ℕ) → slice_get (y ∷ []) i ≡ Some x → y ≡ x
    at zero e = cc
    at (suc i) e = absurd (cc)

pub one_in : {X : Type 0} (x : X) → Contains (x ∷ []) x
one_in x = to_contains (x ∷ []) 0 x refl

abbrev Entry : Type 0
Entry = String Global × Module

abbrev pub path_and_unit : Module → ModulePath × UnitTree
path_and_unit m = (m.path, unit_tree m.unit)

-- the entry of what is found
pub entry_of : {X : Type 0} (ms : BTreeMap (String Global) X) (p : Path) (m : X) → get_by_text ms p ≡ Some m → (i : ℕ) × (key : String Global) × (slice_get ms.entries i ≡ Some (key, m)) × (string_bytes key ≡ p)
entry_of ms p m e =
    let f = place_from_lookup (λ l. is_eq (slice_cmp nat_cmp p (string_bytes l))) ms.entries m e in
    (f.0, f.1, f.2, sym (same_bytes p (string_bytes f.1) (sym (is_eq-slice_cmp p (string_bytes f.1)) ∙ f.3)))

pub found_listed : (ms : LoadedModules) (p : Path) (m : Module) → get_by_text ms p ≡ Some m → Contains (modules_of ms) (path_and_unit m)
found_listed ms p m e = let f = entry_of ms p m e in to_contains (modules_of ms) f.0 (path_and_unit m) (get_map (λ (e : Entry). path_and_unit e.1) ms.entries f.0 (f.1, m) f.2)

pub listed_found : (ms : LoadedModules) → IsOrdered string_cmp ms → (x : ModulePath × UnitTree) → Contains (modules_of ms) x → (p : Path) × (m : Module) × (get_by_text ms p ≡ Some m) × (path_and_unit m ≡ x)
listed_found ms ordered x c =
    let at = from_contains (modules_of ms) x c in
    let e = map_get (λ (e : Entry). path_and_unit e.1) ms.entries at.0 x at.1 in
    (string_bytes e.0.0, e.0.1, btree_map_get_place string_cmp_total ms at.0 e.0.0 e.0.1 ordered e.1, e.2)

-- what stands where one module was added
module _ (old new : LoadedModules) (p : Path) (one : Module) (none : get_by_text old p ≡ None)
    (stands : (q : Path) → get_by_text new q ≡ (if bytes_eq p q then Some one else get_by_text old q)) where
  pub added : get_by_text new p ≡ Some one
  added = stands p ∙ ap (λ b. if b then Some one else get_by_text old p) (bytes_same p)

  pub stayed : (q : Path) (m : Module) → get_by_text old q ≡ Some m → get_by_text new q ≡ Some m
  stayed q m e = at (bytes_eq p q) refl
    where
      at : (b : Bool) → bytes_eq p q ≡ b → get_by_text new q ≡ Some m
      at true is = let both : None ≡ Some m = sym none ∙ ap (get_by_text old) (same_bytes p q is) ∙ e in absurd (cc)
      at false is = stands q ∙ ap (λ b. if b then Some one else get_by_text old q) is ∙ e

  pub still_none : (q : Path) → bytes_eq p q ≡ false → get_by_text old q ≡ None → get_by_text new q ≡ None
  still_none q is e = stands q ∙ ap (λ b. if b then Some one else get_by_text old q) is ∙ e

  pub old_or_new : (q : Path) (m : Module) → get_by_text new q ≡ Some m → (get_by_text old q ≡ Some m) ⊎ ((p ≡ q) × (one ≡ m))
  old_or_new q m e = at (bytes_eq p q) refl
    where
      at : (b : Bool) → bytes_eq p q ≡ b → (get_by_text old q ≡ Some m) ⊎ ((p ≡ q) × (one ≡ m))
      at true is = let both : Some one ≡ Some m = sym (stands q ∙ ap (λ b. if b then Some one else get_by_text old q) is) ∙ e in let same : one ≡ m = cc in inr (same_bytes p q is, same)
      at false is = inl (sym (stands q ∙ ap (λ b. if b then Some one else get_by_text old q) is) ∙ e)

pub one_tabled : (sources : Sources) (max : ℕ) (old new : LoadedModules) (modules : Modules) {path : ModulePath} (p : Path) → AreTabled old modules → get_by_text old p ≡ None
    → (l : IsLoadedOne sources max old path p new) → AreTabled new (modules ++ path_and_unit l.one ∷ [])
one_tabled sources max old new modules p t none l = record {
  keyed = λ q m e. ⊎_elim (λ before. t.keyed q m before) (λ now. ap (λ (x : Module). string_bytes x.printed_path) (sym now.1) ∙ l.one.printed ∙ l.printed ∙ now.0) (old_or_new old new p l.one none l.stands q m e);
  ordered = l.ordered;
  same = λ x. (
    λ c. ⊎_elim
        (λ left. let f = listed_found old t.ordered x ((t.same x).0 left) in subst (Contains (modules_of new)) f.3 (found_listed new f.0 f.1 (stayed old new p l.one none l.stands f.0 f.1 f.2)))
        (λ right. subst (Contains (modules_of new)) (in_one (path_and_unit l.one) x right) (found_listed new p l.one (added old new p l.one none l.stands)))
        (Contains-append_cases modules (path_and_unit l.one ∷ []) x c),
    λ c.
        let f = listed_found new l.ordered x c in
        ⊎_elim
        (λ before. Contains-append_left modules (path_and_unit l.one ∷ []) x ((t.same x).1 (subst (Contains (modules_of old)) f.3 (found_listed old f.0 f.1 before))))
        (λ now. Contains-append_right modules (path_and_unit l.one ∷ []) x (subst (Contains (path_and_unit l.one ∷ [])) (ap path_and_unit now.1 ∙ f.3) (one_in (path_and_unit l.one))))
        (old_or_new old new p l.one none l.stands f.0 f.1 f.2),
  );
  many = length-append modules (path_and_unit l.one ∷ []) ∙ ap (λ n. n + 1) t.many ∙ sym (l.many none);
}

-- ---- one module after another

-- what more modules come to behind these
abbrev pub behind : Modules → Result Modules LoadError → Result Modules LoadError
behind before (Ok more) = Ok (before ++ more)
behind before (Err r) = Err r

abbrev pub AskedEntry : Type 0
AskedEntry = String Global × AskedModule

abbrev pub texts_of : List AskedEntry → List Path
texts_of es = map (λ e. string_bytes e.0) es

pub same_loads : (a b : Sources) (max n : ℕ) (ps : List Path) (o : Result Modules LoadError) → SameAnswers a b → Loads b max n ps o → Loads a max n ps o
same_loads a b max n ps o same (all_loaded) = all_loaded
same_loads a b max n ps o same (one_too_many full) = one_too_many full
same_loads a b max n ps o same (is_not_found {p = p} less s) = is_not_found less ((same p not_found).1 s)
same_loads a b max n ps o same (is_faulty {p = p} {e = e} less s) = is_faulty less ((same p (faulty e)).1 s)
same_loads a b max n ps o same (is_unsupported {p = p} less s) = is_unsupported less ((same p unsupported).1 s)
same_loads a b max n ps o same (has_a_name_twice {p = p} {u = u} less s twice) = has_a_name_twice less ((same p (unit_of u)).1 s) twice
same_loads a b max n ps o same (loaded_then_refused {n = k} {p = p} {ps = qs} {u = u} {r = r} less s d l) = loaded_then_refused less ((same p (unit_of u)).1 s) d (same_loads a b max (k + 1) qs (Err r) same l)
same_loads a b max n ps o same (loaded {n = k} {p = p} {ps = qs} {u = u} {modules = m} less s d is l) = loaded less ((same p (unit_of u)).1 s) d is (same_loads a b max (k + 1) qs (Ok m) same l)

pub same_refuses : (a b : Sources) (max n : ℕ) (ps : List Path) (r : Option LoadError) → SameAnswers a b → RefusesLoading b max n ps r → RefusesLoading a max n ps r
same_refuses a b max n ps None same l = tt
same_refuses a b max n ps (Some r) same l = same_loads a b max n ps (Err r) same l

pub same_loaded_one : (a b : Sources) (max : ℕ) (old : LoadedModules) {path : ModulePath} (p : Path) (new : LoadedModules) → SameAnswers a b → IsLoadedOne b max old path p new
    → IsLoadedOne a max old path p new
same_loaded_one a b max old p new same l = record {
  one = l.one;
  within = l.within;
  found = (same p (unit_of (unit_tree l.one.unit))).1 l.found;
  distinct = l.distinct;
  named = l.named;
  printed = l.printed;
  stands = l.stands;
  many = l.many;
  ordered = l.ordered;
}

pub one_then : (sources : Sources) (max n : ℕ) (old : LoadedModules) {path : ModulePath} (p : Path) (new : LoadedModules) (l : IsLoadedOne sources max old path p new) → n ≡ length old.entries → (ps : List Path)
    → (o : Result Modules LoadError) → Loads sources max (n + 1) ps o → Loads sources max n (p ∷ ps) (behind (path_and_unit l.one ∷ []) o)
one_then sources max n old p new l same ps (Ok more) rest = let less : n < max = omega (arith, same, l.within) in loaded less l.found l.distinct l.printed rest
one_then sources max n old p new l same ps (Err r) rest = let less : n < max = omega (arith, same, l.within) in loaded_then_refused less l.found l.distinct rest

pub two_behind : (a b : Modules) (o : Result Modules LoadError) → behind a (behind b o) ≡ behind (a ++ b) o
two_behind a b (Ok more) = ap Ok (sym (append_assoc a b more))
two_behind a b (Err r) = refl

-- what is loaded so far, and which are left
pub record IsLoadedTo (sources : Sources) (max : ℕ) (old : LoadedModules) (modules : Modules) (asked : AskedNames) (now : LoadedModules) (left : List AskedEntry) : Type 0 where
  pub more : Modules
  pub tabled : AreTabled now (modules ++ more)
  pub goes : (o : Result Modules LoadError) → Loads sources max (length (modules ++ more)) (texts_of left) o → Loads sources max (length modules) (paths_of asked) (behind more o)
  pub stay : (p : Path) (m : Module) → get_by_text old p ≡ Some m → get_by_text now p ≡ Some m
  pub come : DoneBut (λ e. (m : Module) × (get_by_text now (string_bytes e.0) ≡ Some m)) left asked.entries
  pub only : (p : Path) (m : Module) → get_by_text now p ≡ Some m → IsOldOrAsked old asked p m
  pub among : (i : ℕ) (e : AskedEntry) → slice_get left i ≡ Some e → get_by_text asked (string_bytes e.0) ≡ Some e.1
  pub new : (i : ℕ) (e : AskedEntry) → slice_get left i ≡ Some e → (path_text e.1.path ≡ string_bytes e.0) × (get_by_text now (string_bytes e.0) ≡ None)
  pub sorted : IsStrictlySortedBy string_cmp (map (λ e. e.0) left)

unfoldable pub none_loaded : (sources : Sources) (max : ℕ) (old : LoadedModules) (modules : Modules) (asked : AskedNames) → AreTabled old modules → AreSought old asked → IsOrdered string_cmp asked
    → IsLoadedTo sources max old modules asked old asked.entries
none_loaded sources max old modules asked t sought ordered = record {
  more = [];
  tabled = subst (AreTabled old) (sym (append-nil modules)) t;
  goes = λ o l. whole o (subst (λ ms. Loads sources max (length ms) (paths_of asked) o) (append-nil modules) l);
  stay = λ p m e. e;
  come = λ e c. inr c;
  only = λ p m here. inl here;
  among = λ i e is. btree_map_get_place string_cmp_total asked i e.0 e.1 ordered is;
  new = λ i e is. sought (string_bytes e.0) e.1 (btree_map_get_place string_cmp_total asked i e.0 e.1 ordered is);
  sorted = ordered;
}
  where
    whole : (o : Result Modules LoadError) → Loads sources max (length modules) (paths_of asked) o → Loads sources max (length modules) (paths_of asked) (behind [] o)
    whole (Ok more) l = l
    whole (Err r) l = l

module _ (sources : Sources) (max : ℕ) (old : LoadedModules) (modules : Modules) (asked : AskedNames) (now : LoadedModules) (left rest : List AskedEntry) (e : AskedEntry)
    (is : left ≡ e ∷ rest) (t : IsLoadedTo sources max old modules asked now left) where
  pub first_new : (path_text e.1.path ≡ string_bytes e.0) × (get_by_text now (string_bytes e.0) ≡ None)
  first_new = t.new 0 e (ap (λ l. slice_get l 0) is)

  pub first_printed : path_text e.1.path ≡ string_bytes e.0
  first_printed = first_new.0

  pub first_refused : (error : ImportError) → ((ps : List Path) → RefusesLoading sources max (length now.entries) (string_bytes e.0 ∷ ps) (refusal_of error))
      → RefusesLoading sources max (length modules) (paths_of asked) (refusal_of error)
  first_refused error told = at (refusal_of error) (told (texts_of rest))
    where
      at : (r : Option LoadError) → RefusesLoading sources max (length now.entries) (string_bytes e.0 ∷ texts_of rest) r → RefusesLoading sources max (length modules) (paths_of asked) r
      at None l = tt
      at (Some r) l =
          t.goes (Err r) (subst (λ ps. Loads sources max (length (modules ++ t.more)) ps (Err r)) (sym (ap texts_of is))
          (subst (λ n. Loads sources max n (string_bytes e.0 ∷ texts_of rest) (Err r)) (sym t.tabled.many) l))

  module _ (new : LoadedModules) (l : IsLoadedOne sources max now e.1.path (string_bytes e.0) new) where
    abbrev one : ModulePath × UnitTree
    one = path_and_unit l.one

    pub less_apart : (x y : String Global) → string_cmp x y ≡ Less → bytes_eq (string_bytes x) (string_bytes y) ≡ false
    less_apart x y less = sym (is_eq-slice_cmp (string_bytes x) (string_bytes y)) ∙ ap is_eq less

    pub sorted_left : IsStrictlySortedBy string_cmp (e.0 ∷ map (λ e. e.0) rest)
    sorted_left = subst (λ l. IsStrictlySortedBy string_cmp (map (λ e. e.0) l)) is t.sorted

    pub all_at : (ks : List (String Global)) (i : ℕ) (k : String Global) → AllByRecursion (λ y. string_cmp e.0 y ≡ Less) ks → slice_get ks i ≡ Some k → string_cmp e.0 k ≡ Less
    all_at [] i k a here = absurd (cc)
    all_at (y ∷ ks) zero k a here = let same : y ≡ k = cc in subst (λ z. string_cmp e.0 z ≡ Less) same a.0
    all_at (y ∷ ks) (suc i) k a here = all_at ks i k a.1 here

    unfoldable pub one_loaded : IsLoadedTo sources max old modules asked new rest
    one_loaded = record {
      more = t.more ++ one ∷ [];
      tabled = subst (AreTabled new) (append_assoc modules t.more (one ∷ [])) (one_tabled sources max now new (modules ++ t.more) (string_bytes e.0) t.tabled first_new.1 l);
      goes = λ o rests.
          let many : length (modules ++ (t.more ++ one ∷ [])) ≡ length (modules ++ t.more) + 1 = ap length (sym (append_assoc modules t.more (one ∷ []))) ∙ length-append (modules ++ t.more) (one ∷ []) in
          subst (Loads sources max (length modules) (paths_of asked)) (two_behind t.more (one ∷ []) o)
          (t.goes (behind (one ∷ []) o)
          (subst (λ es. Loads sources max (length (modules ++ t.more)) (texts_of es) (behind (one ∷ []) o)) (sym is)
          (one_then sources max (length (modules ++ t.more)) now (string_bytes e.0) new l t.tabled.many (texts_of rest) o
          (subst (λ n. Loads sources max n (texts_of rest) o) many rests))));
      stay = λ p m here. stayed now new (string_bytes e.0) l.one first_new.1 l.stands p m (t.stay p m here);
      come = λ x c. ⊎_elim
          (λ done. inl (done.0, stayed now new (string_bytes e.0) l.one first_new.1 l.stands (string_bytes x.0) done.0 done.1))
          (λ more. ⊎_elim
          (λ same. inl (l.one, subst (λ (y : AskedEntry). get_by_text new (string_bytes y.0) ≡ Some l.one) same (added now new (string_bytes e.0) l.one first_new.1 l.stands)))
          (λ later. inr later)
          (in_cases e rest x (subst (λ l. Contains l x) is more)))
          (t.come x c);
      only = λ p m here. ⊎_elim
          (λ before. t.only p m before)
          (λ came. inr (
            e.1,
            ap (get_by_text asked) (sym came.0) ∙ t.among 0 e (ap (λ l. slice_get l 0) is),
            ap (λ (x : Module). x.path) (sym came.1) ∙ l.named,
          ))
          (old_or_new now new (string_bytes e.0) l.one first_new.1 l.stands p m here);
      among = λ i x here. t.among (suc i) x (ap (λ l. slice_get l (suc i)) is ∙ here);
      new = λ i x here.
          let before = t.new (suc i) x (ap (λ l. slice_get l (suc i)) is ∙ here) in
          let less = all_at (map (λ e. e.0) rest) i x.0 (sorted_head string_cmp e.0 (map (λ e. e.0) rest) sorted_left) (get_map (λ (y : AskedEntry). y.0) rest i x here) in
          (before.0, still_none now new (string_bytes e.0) l.one first_new.1 l.stands (string_bytes x.0) (less_apart e.0 x.0 less) before.1);
      sorted = sorted_tail string_cmp e.0 (map (λ e. e.0) rest) sorted_left;
    }

unfoldable pub all_are_loaded : (sources : Sources) (max : ℕ) (old : LoadedModules) (modules : Modules) (asked : AskedNames) (now : LoadedModules) (left : List AskedEntry)
    → left ≡ [] → IsLoadedTo sources max old modules asked now left → AreAllLoaded sources max old modules asked now
all_are_loaded sources max old modules asked now left is t = record {
  more = t.more;
  loads = subst (λ ms. Loads sources max (length modules) (paths_of asked) (Ok ms)) (append-nil t.more)
      (t.goes (Ok []) (subst (λ es. Loads sources max (length (modules ++ t.more)) (texts_of es) (Ok [])) (sym is) all_loaded));
  tabled = t.tabled;
  on = record {
    stay = t.stay;
    come = λ p a here.
        let f = entry_of asked p a here in
        let done = all_done (λ (e : AskedEntry). (m : Module) × (get_by_text now (string_bytes e.0) ≡ Some m)) left asked.entries is t.come (f.1, a) (to_contains asked.entries f.0 (f.1, a) f.2) in
        (done.0, subst (λ q. get_by_text now q ≡ Some done.0) f.3 done.1);
  };
  only = t.only;
}

pub two_same : {X : Type 0} (a b c : Path → X → Type 0) → ((p : Path) (x : X) → a p x ↔ b p x) → ((p : Path) (x : X) → b p x ↔ c p x) → (p : Path) (x : X) → a p x ↔ c p x
two_same a b c one two p x = (λ h. (two p x).0 ((one p x).0 h), λ h. (one p x).1 ((two p x).1 h))

unfoldable pub same_all_loaded : (a b : Sources) (max : ℕ) (old : LoadedModules) (modules : Modules) (asked : AskedNames) (new : LoadedModules) → SameAnswers a b → AreAllLoaded b max old modules asked new → AreAllLoaded a max old modules asked new
same_all_loaded a b max old modules asked new same l = record { more = l.more; loads = same_loads a b max (length modules) (paths_of asked) (Ok l.more) same l.loads; tabled = l.tabled; on = l.on; only = l.only }
