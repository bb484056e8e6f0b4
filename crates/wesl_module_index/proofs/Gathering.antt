-- The names of a module, gathered import by import and place by place.
use Rattle.std.proofs.Common.{◌≡◌, refl, sym, ap, ◌∙◌, subst, ℕ, zero, suc, ◌+◌, ◌<◌, ◌⊎◌, inl, inr, List, [], ◌∷◌, ◌++◌, length, map, take, Bool, Option, Some, None, Result, Ok, Err, get_or, arith, append_assoc}
use Rattle.std.specs.Prelude.{String, string_bytes, ⊤, OnOk}
use Rattle.std.specs.Option.{option_map}
use Rattle.std.specs.List.{All, Contains, flat_map}
use Rattle.std.specs.HashMap.{get_by_text}
use Rattle.std.specs.declared.alloc.Global.{Global}
use Rattle.std.proofs.lemmas.List.{append-nil, map-append, length-append, take_more}
use Rattle.wgsl_path.specs.declared.path.ModulePath.{ModulePath}
use Rattle.wgsl_path.specs.Paths.{path_text}
use Rattle.wgsl_declarations.specs.declared.imports.import.ImportStatement.{ImportStatement}
use Rattle.wgsl_declarations.specs.declared.imports.import.ImportOf.{ImportOf}
use Rattle.wgsl_declarations.specs.declared.imports.import.ImportContent.{ImportContent}
use Rattle.wgsl_declarations.specs.declared.imports.import.ImportContent.TheVariants.{Collection}
use Rattle.wgsl_declarations.specs.ImportsView.{content_tree, importing_tree}
use Rattle.wgsl_declarations.proofs.Trees.{tree_of_collection}
use Rattle.wesl_mark.specs.declared.place.Place.{Place}
use Rattle.wesl_mark.specs.Marks.{text_at}
use Rattle.wesl_chains.specs.Outlines.{Name, Item}
use Rattle.wesl_linking_spec.specs.Outlining.{longer, items_in, items_of}
use Rattle.wesl_linking_spec.specs.Loading.{IsFirstAgain}
use Rattle.wesl_module_index.specs.declared.error.ImportError.{ImportError}
use Rattle.wesl_module_index.specs.declared.error.ImportError.TheVariants.{DuplicateSymbol, OutOfMemory}
use Rattle.wesl_module_index.specs.declared.imports.Names.{Names}
use Rattle.wesl_module_index.specs.declared.module.Meaning.TheVariants.{Declared}
use Rattle.wesl_module_index.specs.declared.target.Target.{Target}
use Rattle.wesl_module_index.specs.Tables.{import_said}
use Rattle.wesl_module_index.specs.Naming.{Meant, names_in, IsScope, numbered, locals_of, declared_by, declared_from, printed_at, IsWithin, HasTarget, IsTarget, IsAdded, AddsEach, IsGathered, AreGathered, IsRefused, Gathers, nested_items, IsNamed, AreNamed}
use Rattle.wesl_module_index.proofs.Bits.{get_last, all_none}
use Rattle.wesl_module_index.proofs.Items.{has_kept, names_numbered, then_gathered, refused_first, refused_later, nested, flat_more, flat_begins}
use Rattle.wesl_module_index.proofs.Scopes.{again_more, again_here, empty_scope}

-- ---- targets

pub known_target : (ts : List Target) (n : ℕ) (base : Option ModulePath) → HasTarget ts (Some n) base → IsTarget ts base (Some n)
known_target ts n base h = record { within = h.0; printed = h.1 }

pub no_target : (ts : List Target) → IsTarget ts None None
no_target ts = record { within = tt; printed = refl }

pub new_target : (ts us : List Target) (t : Target) (p : ModulePath) → us ≡ ts ++ t ∷ [] → string_bytes t.printed_path ≡ path_text p → IsTarget us (Some p) (Some (length ts))
new_target ts us t p e is = record {
  within = let long = ap length e ∙ length-append ts (t ∷ []) in omega (arith, long);
  printed = ap (λ l. printed_at l (Some (length ts))) e ∙ ap (option_map (λ (t : Target). string_bytes t.printed_path)) (get_last ts t) ∙ ap Some is;
}

pub has_new : (us : List Target) (n : ℕ) (base : Option ModulePath) → IsTarget us base (Some n) → HasTarget us (Some n) base
has_new us n base t = (t.within, t.printed)

-- a target that was known stays so
pub kept_after : (old new : Names) (more : List Item) (r : Result ⊤ ImportError) (n : Option ℕ) (base : Option ModulePath) → HasTarget old.targets.items n base → Gathers old more r new
    → OnOk r (HasTarget new.targets.items n base)
kept_after old new more (Ok done) n base h g = has_kept old.targets.items new.targets.items n base g.targets h
kept_after old new more (Err e) n base h g = tt

-- ---- imports in braces

pub collection_items : (published : Bool) (base : Option ModulePath) (xs : List (ImportOf ImportContent)) → items_in published base (content_tree (Collection xs)) ≡ nested_items published base xs
collection_items published base xs = ap (items_in published base) (tree_of_collection xs) ∙ nested published base xs

module _ (published : Bool) (base : Option ModulePath) where
  abbrev items_behind : ImportOf ImportContent → List Item
  items_behind i = items_in published (longer base i.path) (content_tree i.content)

  pub collection_more : (old mid new : Names) (xs : List (ImportOf ImportContent)) (k : ℕ) (x : ImportOf ImportContent) → k < length xs → x ≡ get_or xs k x
      → AreGathered old (nested_items published base (take k xs)) mid → AreGathered mid (items_in published (longer base x.path) (content_tree x.content)) new
      → AreGathered old (nested_items published base (take (k + 1) xs)) new
  collection_more old mid new xs k x lt is a b =
      subst (λ l. AreGathered old l new) (sym (flat_more items_behind xs k x lt is)) (then_gathered old mid new (nested_items published base (take k xs)) (items_behind x) a b)

  pub collection_refused : (old mid : Names) (xs : List (ImportOf ImportContent)) (k : ℕ) (x : ImportOf ImportContent) (e : ImportError) → k < length xs → x ≡ get_or xs k x
      → AreGathered old (nested_items published base (take k xs)) mid → IsRefused mid (items_in published (longer base x.path) (content_tree x.content)) e
      → IsRefused old (items_in published base (content_tree (Collection xs))) e
  collection_refused old mid xs k x e lt is a h =
      let b = flat_begins items_behind xs k x lt is in
      subst (λ l. IsRefused old l e) (sym (collection_items published base xs ∙ b.1))
      (refused_first old (nested_items published base (take k xs) ++ items_behind x) b.0 e (refused_later old mid (nested_items published base (take k xs)) (items_behind x) e a h))

-- ---- import statements

flat_map-map : {A B C : Type 0} (f : B → List C) (g : A → B) (xs : List A) → flat_map f (map g xs) ≡ flat_map (λ x. f (g x)) xs
flat_map-map f g [] = refl
flat_map-map f g (x ∷ xs) = ap (λ l. f (g x) ++ l) (flat_map-map f g xs)

pub statement_items : (path : ModulePath) (xs : List ImportStatement) → flat_map (items_of path) (map importing_tree xs) ≡ flat_map (λ s. items_of path (importing_tree s)) xs
statement_items path xs = flat_map-map (items_of path) importing_tree xs

module _ (path : ModulePath) (xs : List ImportStatement) where
  abbrev items_at : ImportStatement → List Item
  items_at s = items_of path (importing_tree s)

  pub statement_more : (mid new : Names) (k : ℕ) (s : ImportStatement) → k < length xs → s ≡ get_or xs k s → mid.path ≡ path → IsGathered mid (flat_map items_at (take k xs))
      → AreGathered mid (items_of mid.path (importing_tree s)) new → (new.path ≡ path) × IsGathered new (flat_map items_at (take (k + 1) xs))
  statement_more mid new k s lt is here g a = (
    a.path ∙ here,
    subst (IsGathered new) (ap (λ p. flat_map items_at (take k xs) ++ items_of p (importing_tree s)) here ∙ sym (flat_more items_at xs k s lt is)) (a.items (flat_map items_at (take k xs)) g),
  )

  pub statement_refused : (mid : Names) (k : ℕ) (s : ImportStatement) (e : ImportError) (declared : List Meant) → k < length xs → s ≡ get_or xs k s → mid.path ≡ path
      → IsGathered mid (flat_map items_at (take k xs)) → IsRefused mid (items_of mid.path (importing_tree s)) e
      → AreNamed path (flat_map (items_of path) (map importing_tree xs)) declared (Err e)
  statement_refused mid k s e declared lt is here g (inl memory) = inl memory
  statement_refused mid k s e declared lt is here g (inr h) =
      let r = h (flat_map items_at (take k xs)) g in
      let b = flat_begins items_at xs k s lt is in
      let first : IsFirstAgain (locals_of (flat_map items_at (take k xs) ++ items_at s)) r.0
      = subst (λ p. IsFirstAgain (locals_of (flat_map items_at (take k xs) ++ items_of p (importing_tree s))) r.0) here r.1 in
      inr (
        r.0,
        subst (λ l. IsFirstAgain (locals_of l ++ names_in declared) r.0) (sym (statement_items path xs ∙ b.1))
            (again_more (locals_of ((flat_map items_at (take k xs) ++ items_at s) ++ b.0)) (names_in declared) r.0
            (subst (λ l. IsFirstAgain l r.0) (sym (map-append (λ (i : Item). i.local) (flat_map items_at (take k xs) ++ items_at s) b.0))
            (again_more (locals_of (flat_map items_at (take k xs) ++ items_at s)) (locals_of b.0) r.0 first))),
        r.2 ∙ ap (λ p. DuplicateSymbol p r.0) here,
      )

-- ---- places

declared_append : (names : List (String Global)) (k : ℕ) (ps qs : List Place) → declared_from names k (ps ++ qs) ≡ declared_from names k ps ++ declared_from names (k + length ps) qs
declared_append names k [] qs = let here : k ≡ k + 0 = omega arith in ap (λ n. declared_from names n qs) here
declared_append names k (p ∷ ps) qs =
    let here : (k + 1) + length ps ≡ k + suc (length ps) = omega arith in
    ap (λ l. declared_by names k p.name ++ l) (declared_append names (k + 1) ps qs ∙ ap (λ n. declared_from names (k + 1) ps ++ declared_from names n qs) here)
    ∙ sym (append_assoc (declared_by names k p.name) (declared_from names (k + 1) ps) (declared_from names (k + suc (length ps)) qs))

declared_more : (names : List (String Global)) (ps : List Place) (at : ℕ) (p : Place) → at < length ps → p ≡ get_or ps at p
    → declared_from names 0 (take (at + 1) ps) ≡ declared_from names 0 (take at ps) ++ declared_by names at p.name
declared_more names ps at p lt is =
    let here : 0 + length (take at ps) ≡ at = length_of ps at lt in
    ap (declared_from names 0) (take_more ps at p lt ∙ ap (λ q. take at ps ++ q ∷ []) (sym is))
    ∙ declared_append names 0 (take at ps) (p ∷ [])
    ∙ ap (λ n. declared_from names 0 (take at ps) ++ declared_from names n (p ∷ [])) here
    ∙ ap (λ l. declared_from names 0 (take at ps) ++ l) (append-nil (declared_by names at p.name))
  where
    length_of : (ps : List Place) (at : ℕ) → at < length ps → 0 + length (take at ps) ≡ at
    length_of [] at lt = absurd (omega (arith, lt))
    length_of (p ∷ ps) zero lt = refl
    length_of (p ∷ ps) (suc at) lt = let less : at < length ps = omega (arith, lt) in let e = length_of ps at less in omega (arith, e)

declared_begins : (names : List (String Global)) (k : ℕ) (ps : List Place) (at : ℕ) (p : Place) → at < length ps → p ≡ get_or ps at p
    → (rest : List Meant) × (declared_from names k ps ≡ (declared_from names k (take at ps) ++ declared_by names (k + at) p.name) ++ rest)
declared_begins names k [] at p lt is = absurd (omega (arith, lt))
declared_begins names k (q ∷ ps) zero p lt is =
    let here : k ≡ k + 0 = omega arith in
    (declared_from names (k + 1) ps, ap (λ (r : Place). declared_by names k r.name ++ declared_from names (k + 1) ps) (sym is) ∙ ap (λ n. declared_by names n p.name ++ declared_from names (k + 1) ps) here)
declared_begins names k (q ∷ ps) (suc at) p lt is =
    let less : at < length ps = omega (arith, lt) in
    let r = declared_begins names (k + 1) ps at p less is in
    let here : (k + 1) + at ≡ k + suc at = omega arith in (
      r.0,
      ap (λ l. declared_by names k q.name ++ l) (r.1 ∙ ap (λ n. (declared_from names (k + 1) (take at ps) ++ declared_by names n p.name) ++ r.0) here)
          ∙ sym (append_assoc (declared_by names k q.name) (declared_from names (k + 1) (take at ps) ++ declared_by names (k + suc at) p.name) r.0)
          ∙ ap (λ l. l ++ r.0) (sym (append_assoc (declared_by names k q.name) (declared_from names (k + 1) (take at ps)) (declared_by names (k + suc at) p.name))),
    )

module _ (path : ModulePath) (items : List Item) (names : List (String Global)) (ps : List Place) where
  -- a place without a name
  pub place_unnamed : (mid : Names) (at : ℕ) (p : Place) → at < length ps → p ≡ get_or ps at p → p.name ≡ None → IsNamed path items (declared_from names 0 (take at ps)) mid
      → IsNamed path items (declared_from names 0 (take (at + 1) ps)) mid
  place_unnamed mid at p lt is none n =
      subst (λ l. IsNamed path items l mid)
      (sym (declared_more names ps at p lt is ∙ ap (λ m. declared_from names 0 (take at ps) ++ declared_by names at m) none ∙ append-nil (declared_from names 0 (take at ps)))) n

  pub place_named : (mid new : Names) (at : ℕ) (p : Place) (n : ℕ) → at < length ps → p ≡ get_or ps at p → p.name ≡ Some n → IsNamed path items (declared_from names 0 (take at ps)) mid
      → IsAdded mid (text_at names n) (Declared at) new → IsNamed path items (declared_from names 0 (take (at + 1) ps)) new
  place_named mid new at p n lt is some named added =
      let more : declared_from names 0 (take (at + 1) ps) ≡ declared_from names 0 (take at ps) ++ (text_at names n, Declared at) ∷ []
      = declared_more names ps at p lt is ∙ ap (λ m. declared_from names 0 (take at ps) ++ declared_by names at m) some in
      subst (λ l. IsNamed path items l new) (sym more) (record {
        is_path = added.path ∙ named.is_path;
        imports = ap (λ ts. map (import_said ts) new.items.items) added.targets ∙ ap (map (import_said mid.targets.items)) added.items ∙ named.imports;
        scope = subst (IsScope new.scope) (append_assoc (numbered 0 items) (declared_from names 0 (take at ps)) ((text_at names n, Declared at) ∷ []))
            (added.scope (numbered 0 items ++ declared_from names 0 (take at ps)) named.scope);
      })

  pub place_refused : (mid : Names) (at : ℕ) (p : Place) (n : ℕ) (e : ImportError) → at < length ps → p ≡ get_or ps at p → p.name ≡ Some n
      → IsNamed path items (declared_from names 0 (take at ps)) mid
      → (e ≡ OutOfMemory) ⊎ ((e ≡ DuplicateSymbol mid.path (text_at names n)) × ((ns : List Meant) → IsScope mid.scope ns → Contains (names_in ns) (text_at names n)))
      → AreNamed path items (declared_from names 0 ps) (Err e)
  place_refused mid at p n e lt is some named (inl memory) = inl memory
  place_refused mid at p n e lt is some named (inr h) =
      let b = declared_begins names 0 ps at p lt is in
      let here : 0 + at ≡ at = omega arith in
      let first : IsFirstAgain (names_in (numbered 0 items ++ declared_from names 0 (take at ps)) ++ text_at names n ∷ []) (text_at names n)
      = again_here (names_in (numbered 0 items ++ declared_from names 0 (take at ps))) (text_at names n) named.scope.distinct (h.1 (numbered 0 items ++ declared_from names 0 (take at ps)) named.scope) in
      let whole : locals_of items ++ names_in (declared_from names 0 ps) ≡ (names_in (numbered 0 items ++ declared_from names 0 (take at ps)) ++ text_at names n ∷ []) ++ names_in b.0
      = together b.0 (b.1 ∙ ap (λ k. (declared_from names 0 (take at ps) ++ declared_by names k p.name) ++ b.0) here ∙ ap (λ m. (declared_from names 0 (take at ps) ++ declared_by names at m) ++ b.0) some) in
      inr (
        text_at names n,
        subst (λ l. IsFirstAgain l (text_at names n)) (sym whole)
            (again_more (names_in (numbered 0 items ++ declared_from names 0 (take at ps)) ++ text_at names n ∷ []) (names_in b.0) (text_at names n) first),
        h.0 ∙ ap (λ q. DuplicateSymbol q (text_at names n)) named.is_path,
      )
    where
      together : (rest : List Meant) → declared_from names 0 ps ≡ (declared_from names 0 (take at ps) ++ (text_at names n, Declared at) ∷ []) ++ rest
          → locals_of items ++ names_in (declared_from names 0 ps) ≡ (names_in (numbered 0 items ++ declared_from names 0 (take at ps)) ++ text_at names n ∷ []) ++ names_in rest
      together rest e =
          ap (λ l. locals_of items ++ names_in l) e
          ∙ ap (λ l. locals_of items ++ l) (map-append (λ (m : Meant). m.0) (declared_from names 0 (take at ps) ++ (text_at names n, Declared at) ∷ []) rest
          ∙ ap (λ l. l ++ names_in rest) (map-append (λ (m : Meant). m.0) (declared_from names 0 (take at ps)) ((text_at names n, Declared at) ∷ [])))
          ∙ sym (append_assoc (locals_of items) (names_in (declared_from names 0 (take at ps)) ++ text_at names n ∷ []) (names_in rest))
          ∙ ap (λ l. l ++ names_in rest) (sym (append_assoc (locals_of items) (names_in (declared_from names 0 (take at ps))) (text_at names n ∷ [])))
          ∙ ap (λ l. ((l ++ names_in (declared_from names 0 (take at ps))) ++ text_at names n ∷ []) ++ names_in rest) (sym (names_numbered 0 items))
          ∙ ap (λ l. (l ++ text_at names n ∷ []) ++ names_in rest) (sym (map-append (λ (m : Meant). m.0) (numbered 0 items) (declared_from names 0 (take at ps))))

-- before all
pub none_named : (n : Names) → n.targets.items ≡ [] → n.items.items ≡ [] → ((x : Name) → get_by_text n.scope x ≡ None) → IsGathered n []
none_named n no_targets no_items empty = record {
  imports = ap (map (import_said n.targets.items)) no_items;
  within = subst (All (λ i. IsWithin n.targets.items i.«module»)) (sym no_items) (all_none (λ i. IsWithin n.targets.items i.«module»));
  scope = empty_scope n.scope empty;
}

-- all imports are gathered, and no place yet
pub imports_named : (path : ModulePath) (items : List Item) (names : List (String Global)) (n : Names) → n.path ≡ path → IsGathered n items → IsNamed path items (declared_from names 0 []) n
imports_named path items names n here g = record { is_path = here; imports = g.imports; scope = subst (IsScope n.scope) (sym (append-nil (numbered 0 items))) g.scope }

get_or_any : {A : Type 0} (xs : List A) (i : ℕ) (d e : A) → i < length xs → get_or xs i d ≡ get_or xs i e
get_or_any [] i d e lt = absurd (omega (arith, lt))
get_or_any (x ∷ xs) zero d e lt = refl
get_or_any (x ∷ xs) (suc i) d e lt = let less : i < length xs = omega (arith, lt) in get_or_any xs i d e less

-- a place more
module _ (path : ModulePath) (items : List Item) (names : List (String Global)) (ps : List Place) where
  pub place_more : (mid new : Names) (at : ℕ) (p : Place) (done : ⊤) → at < length ps → p ≡ get_or ps at p → IsNamed path items (declared_from names 0 (take at ps)) mid
      → AddsEach mid (declared_by names at p.name) (Ok done) new → IsNamed path items (declared_from names 0 (take (at + 1) ps)) new
  place_more mid new at p done lt is named added = by p.name refl added
    where
      by : (n : Option ℕ) → p.name ≡ n → AddsEach mid (declared_by names at n) (Ok done) new → IsNamed path items (declared_from names 0 (take (at + 1) ps)) new
      by None none same = subst (IsNamed path items (declared_from names 0 (take (at + 1) ps))) (sym same) (place_unnamed path items names ps mid at p lt is none named)
      by (Some n) some added = place_named path items names ps mid new at p n lt is some named added

  pub place_stops : (mid new : Names) (at : ℕ) (p : Place) (e : ImportError) → at < length ps → p ≡ get_or ps at p → IsNamed path items (declared_from names 0 (take at ps)) mid
      → AddsEach mid (declared_by names at p.name) (Err e) new → AreNamed path items (declared_from names 0 ps) (Err e)
  place_stops mid new at p e lt is named stops = by p.name refl stops
    where
      by : (n : Option ℕ) → p.name ≡ n → AddsEach mid (declared_by names at n) (Err e) new → AreNamed path items (declared_from names 0 ps) (Err e)
      by None none stops = absurd stops
      by (Some n) some stops = place_refused path items names ps mid at p n e lt is some named stops

  -- the place that stands there, whatever is read where none does
  pub place_more_at : (mid new : Names) (at : ℕ) (d : Place) (done : ⊤) → at < length ps → IsNamed path items (declared_from names 0 (take at ps)) mid
      → AddsEach mid (declared_by names at (get_or ps at d).name) (Ok done) new → IsNamed path items (declared_from names 0 (take (at + 1) ps)) new
  place_more_at mid new at d done lt named added = place_more mid new at (get_or ps at d) done lt (get_or_any ps at d (get_or ps at d) lt) named added

  pub place_stops_at : (mid new : Names) (at : ℕ) (d : Place) (e : ImportError) → at < length ps → IsNamed path items (declared_from names 0 (take at ps)) mid
      → AddsEach mid (declared_by names at (get_or ps at d).name) (Err e) new → AreNamed path items (declared_from names 0 ps) (Err e)
  place_stops_at mid new at d e lt named stops = place_stops mid new at (get_or ps at d) e lt (get_or_any ps at d (get_or ps at d) lt) named stops
