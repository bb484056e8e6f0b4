-- The tables of a module say its outline.
use Rattle.std.proofs.Common.{◌≡◌, refl, sym, ap, ◌∙◌, subst, ℕ, suc, ◌+◌, ◌<◌, ◌^◌, inl, inr, List, [], ◌∷◌, ◌++◌, length, map, take, Bool, true, false, Option, Some, None, Err, slice_get, arith, append_assoc}
use Rattle.std.specs.Prelude.{if◌then◌else◌, not, String, Vec, unwrap_or}
use Rattle.std.specs.Option.{option_map}
use Rattle.std.specs.List.{All, AllZip, filter, filter_map, flat_map}
use Rattle.std.specs.Str.{bytes_eq}
use Rattle.std.specs.HashMap.{get_by_text}
use Rattle.std.specs.declared.alloc.Global.{Global}
use Rattle.std.proofs.lemmas.List.{append-nil, map-append, length-append}
use Rattle.std.proofs.lemmas.List.Elements.{filter-append}
use Rattle.std.proofs.lemmas.Option.{slice_get-map}
use Rattle.std.proofs.Math.Seq.{take-append_seam}
use Rattle.wgsl_path.specs.declared.path.ModulePath.{ModulePath}
use Rattle.wgsl_skeleton.specs.ImportsTree.{Importing}
use Rattle.wgsl_skeleton.specs.Flats.{replayed}
use Rattle.wesl_mark.specs.declared.mark.MarkList.{MarkList}
use Rattle.wesl_mark.specs.declared.place.Place.{Place}
use Rattle.wesl_mark.specs.Marks.{text_at}
use Rattle.wesl_mark.specs.Places.{DeclarationId, IsNumber, IsSpot}
use Rattle.wesl_module_index.specs.declared.error.ImportError.{ImportError}
use Rattle.wesl_module_index.specs.declared.imports.Names.{Names}
use Rattle.wesl_module_index.specs.declared.module.Meaning.{Meaning}
use Rattle.wesl_module_index.specs.declared.module.Meaning.TheVariants.{Declared, Imported}
use Rattle.wesl_module_index.specs.declared.module.Module.{Module}
use Rattle.wesl_module_index.specs.declared.target.Target.{Target}
use Rattle.wesl_module_index.specs.declared.target.ImportItem.{ImportItem}
use Rattle.wesl_chains.specs.Outlines.{Name, Item, Use, Entry, scope_names, item_named, is_named, place_from, place_of}
use Rattle.wesl_chains.specs.Senses.{sense}
use Rattle.wesl_linking_spec.specs.Outlining.{items_of}
use Rattle.wesl_linking_spec.specs.Loading.{AreDistinct, IsFirstAgain}
use Rattle.wesl_module_index.specs.Tables.{is_void, is_entry, kind_said, import_of, import_said, import_by, place_by, item_by, place_number, use_at, sense_by, sense_said, entry_said, entries_said, IsTabled}
use Rattle.wesl_module_index.specs.Uses.{read_at, AreReferences, uses_at, IsClosed, trail_after}
use Rattle.wesl_module_index.specs.Naming.{Meant, meaning_of, names_in, numbered, locals_of, declared_by, declared_from, IsNamed, AreNamed, SayNames}
use Rattle.wesl_module_index.specs.Making.{spot_entry, is_spot_entry, spot_entries, IsOrderly, outline_said, IsMade, IsTable}
use Rattle.wesl_module_index.proofs.Bits.{all_none, all_head, all_tail, all_cons}
use Rattle.wesl_module_index.proofs.Items.{names_numbered}
use Rattle.wesl_module_index.proofs.Scopes.{present, apart}

-- ---- the name of a place

-- a place's number of a name, and the name
pub same_named : (names : List (String Global)) (n : Option ℕ) (x : Option Name) → IsNumber names n x → option_map (text_at names) n ≡ x
same_named names None None h = refl
same_named names None (Some x) h = absurd h
same_named names (Some n) None h = absurd h
same_named names (Some n) (Some x) h = ap (λ (o : Option Name). Some (unwrap_or o [])) h

unnamed : (names : List (String Global)) (n : Option ℕ) (x : Option Name) → IsNumber names n x → x ≡ None → n ≡ None
unnamed names None x h e = refl
unnamed names (Some n) None h e = absurd h
unnamed names (Some n) (Some x) h e = absurd (cc)

abbrev name_behind : Option Name → List Name → List Name
name_behind None xs = xs
name_behind (Some x) xs = x ∷ xs

named_by : (names : List (String Global)) (k : ℕ) (n : Option ℕ) (rest : List Meant) → names_in (declared_by names k n ++ rest) ≡ name_behind (option_map (text_at names) n) (names_in rest)
named_by names k None rest = refl
named_by names k (Some n) rest = refl

name_in_entries : (e : Entry) (es : List Entry) → filter_map (λ (e : Entry). e.name) (e ∷ es) ≡ name_behind e.name (filter_map (λ (e : Entry). e.name) es)
name_in_entries e es = by e.name refl
  where
    by : (n : Option Name) → e.name ≡ n → filter_map (λ (e : Entry). e.name) (e ∷ es) ≡ name_behind e.name (filter_map (λ (e : Entry). e.name) es)
    by None is = rw is refl
    by (Some x) is = rw is refl

-- what places declare are the names of the outline
pub own_said : (l : MarkList) (k : ℕ) (places : List Place) (spots : List DeclarationId) → AllZip (IsSpot l) places spots → All IsOrderly spots
    → names_in (declared_from l.names.keys k places) ≡ filter_map (λ (e : Entry). e.name) (spot_entries spots)
own_said l k [] [] h o = refl
own_said l k [] (s ∷ ss) h o = absurd h
own_said l k (p ∷ ps) [] h o = absurd h
own_said l k (p ∷ ps) (s ∷ ss) h o = by (is_void s.kind) refl (own_said l (k + 1) ps ss h.1 (all_tail IsOrderly s ss o))
  where
    by : (b : Bool) → is_void s.kind ≡ b → names_in (declared_from l.names.keys (k + 1) ps) ≡ filter_map (λ (e : Entry). e.name) (spot_entries ss)
        → names_in (declared_from l.names.keys k (p ∷ ps)) ≡ filter_map (λ (e : Entry). e.name) (spot_entries (s ∷ ss))
    by true is more =
        ap (λ n. names_in (declared_by l.names.keys k n ++ declared_from l.names.keys (k + 1) ps)) (unnamed l.names.keys p.name s.name h.0.name ((all_head IsOrderly s ss o).unnamed is))
        ∙ more
        ∙ ap (λ (b : Bool). filter_map (λ (e : Entry). e.name) (map spot_entry (if not b then s ∷ filter is_spot_entry ss else filter is_spot_entry ss))) (sym is)
    by false is more =
        named_by l.names.keys k p.name (declared_from l.names.keys (k + 1) ps)
        ∙ ap (λ n. name_behind n (names_in (declared_from l.names.keys (k + 1) ps))) (same_named l.names.keys p.name s.name h.0.name)
        ∙ ap (name_behind s.name) more
        ∙ sym (name_in_entries (spot_entry s) (spot_entries ss))
        ∙ ap (λ (b : Bool). filter_map (λ (e : Entry). e.name) (map spot_entry (if not b then s ∷ filter is_spot_entry ss else filter is_spot_entry ss))) (sym is)

-- ---- the place of a name

abbrev first_or : Bool → ℕ → Option ℕ → Option ℕ
first_or b k rest = if b then Some k else rest

found_by : (names : List (String Global)) (all : List Place) (x : Name) (k : ℕ) (n : Option ℕ) (rest : List Meant)
    → place_by all (meaning_of x (declared_by names k n ++ rest)) ≡ first_or (is_named x (option_map (text_at names) n)) (place_number all k) (place_by all (meaning_of x rest))
found_by names all x k None rest = refl
found_by names all x k (Some n) rest = by (bytes_eq x (text_at names n))
  where
    by : (b : Bool) → place_by all (if b then Some (Declared k) else meaning_of x rest) ≡ first_or b (place_number all k) (place_by all (meaning_of x rest))
    by true = refl
    by false = refl

entries_before : (before : List Place) (p : Place) → length (filter is_entry (before ++ p ∷ [])) ≡ length (filter is_entry before) + length (filter is_entry (p ∷ []))
entries_before before p = ap length (filter-append is_entry before (p ∷ [])) ∙ length-append (filter is_entry before) (filter is_entry (p ∷ []))

counted : (l : MarkList) (before : List Place) (p : Place) (s : DeclarationId) (b : Bool) → IsSpot l p s → is_void s.kind ≡ b
    → length (filter is_entry (before ++ p ∷ [])) ≡ length (filter is_entry before) + length (if not b then p ∷ [] else [])
counted l before p s b h is =
    entries_before before p ∙ ap (λ (c : Bool). length (filter is_entry before) + length (if not c then p ∷ [] else [])) (ap is_void h.kind ∙ is)

pub place_said : (l : MarkList) (all before places : List Place) (spots : List DeclarationId) (x : Name) → all ≡ before ++ places → AllZip (IsSpot l) places spots → All IsOrderly spots
    → place_by all (meaning_of x (declared_from l.names.keys (length before) places)) ≡ place_from (length (filter is_entry before)) x (spot_entries spots)
place_said l all before [] [] x e h o = refl
place_said l all before [] (s ∷ ss) x e h o = absurd h
place_said l all before (p ∷ ps) [] x e h o = absurd h
place_said l all before (p ∷ ps) (s ∷ ss) x e h o =
    by (is_void s.kind) refl
    (ap (λ n. place_by all (meaning_of x (declared_from l.names.keys n ps))) (sym (length-append before (p ∷ [])))
    ∙ place_said l all (before ++ p ∷ []) ps ss x (e ∙ sym (append_assoc before (p ∷ []) ps)) h.1 (all_tail IsOrderly s ss o))
  where
    here : place_number all (length before) ≡ length (filter is_entry before)
    here = ap (λ ps. length (filter is_entry ps)) (ap (take (length before)) e ∙ take-append_seam before (p ∷ ps))

    by : (b : Bool) → is_void s.kind ≡ b
        → place_by all (meaning_of x (declared_from l.names.keys (length before + 1) ps)) ≡ place_from (length (filter is_entry (before ++ p ∷ []))) x (spot_entries ss)
        → place_by all (meaning_of x (declared_from l.names.keys (length before) (p ∷ ps))) ≡ place_from (length (filter is_entry before)) x (spot_entries (s ∷ ss))
    by true is more =
        let none : length (filter is_entry before) + 0 ≡ length (filter is_entry before) = omega arith in
        ap (λ n. place_by all (meaning_of x (declared_by l.names.keys (length before) n ++ declared_from l.names.keys (length before + 1) ps))) (unnamed l.names.keys p.name s.name h.0.name ((all_head IsOrderly s ss o).unnamed is))
        ∙ more
        ∙ ap (λ n. place_from n x (spot_entries ss)) (counted l before p s true h.0 is ∙ none)
        ∙ ap (λ (b : Bool). place_from (length (filter is_entry before)) x (map spot_entry (if not b then s ∷ filter is_spot_entry ss else filter is_spot_entry ss))) (sym is)
    by false is more =
        found_by l.names.keys all x (length before) p.name (declared_from l.names.keys (length before + 1) ps)
        ∙ ap (λ n. first_or (is_named x n) (place_number all (length before)) (place_by all (meaning_of x (declared_from l.names.keys (length before + 1) ps)))) (same_named l.names.keys p.name s.name h.0.name)
        ∙ ap (λ n. first_or (is_named x s.name) n (place_by all (meaning_of x (declared_from l.names.keys (length before + 1) ps)))) here
        ∙ ap (first_or (is_named x s.name) (length (filter is_entry before))) (more ∙ ap (λ n. place_from n x (spot_entries ss)) (counted l before p s false h.0 is))
        ∙ ap (λ (b : Bool). place_from (length (filter is_entry before)) x (map spot_entry (if not b then s ∷ filter is_spot_entry ss else filter is_spot_entry ss))) (sym is)

-- ---- the import of a name

not_item : (targets : List Target) (items : List ImportItem) (names : List (String Global)) (x : Name) (k : ℕ) (places : List Place)
    → item_by targets items (meaning_of x (declared_from names k places)) ≡ None
not_item targets items names x k [] = refl
not_item targets items names x k (p ∷ ps) = by p.name (not_item targets items names x (k + 1) ps)
  where
    either : (b : Bool) (o : Option Meaning) → item_by targets items o ≡ None → item_by targets items (if b then Some (Declared k) else o) ≡ None
    either true o e = refl
    either false o e = e

    by : (n : Option ℕ) → item_by targets items (meaning_of x (declared_from names (k + 1) ps)) ≡ None → item_by targets items (meaning_of x (declared_by names k n ++ declared_from names (k + 1) ps)) ≡ None
    by None more = more
    by (Some n) more = either (bytes_eq x (text_at names n)) (meaning_of x (declared_from names (k + 1) ps)) more

pub item_said : (targets : List Target) (items : List ImportItem) (x : Name) (k : ℕ) (is : List Item) (ds : List Meant)
    → ((j : ℕ) → slice_get (map import_of is) j ≡ slice_get (map (import_said targets) items) (k + j)) → item_by targets items (meaning_of x ds) ≡ None
    → item_by targets items (meaning_of x (numbered k is ++ ds)) ≡ option_map import_of (item_named x is)
item_said targets items x k [] ds at none = none
item_said targets items x k (i ∷ is) ds at none =
    by (bytes_eq x i.local)
    (item_said targets items x (k + 1) is ds (λ j. at (suc j) ∙ (let e : k + suc j ≡ (k + 1) + j = omega arith in ap (slice_get (map (import_said targets) items)) e)) none)
  where
    here : import_by targets items k ≡ Some (import_of i)
    here =
        let e : k ≡ k + 0 = omega arith in
        sym (slice_get-map (import_said targets) items k) ∙ ap (slice_get (map (import_said targets) items)) e ∙ sym (at 0)

    by : (b : Bool) → item_by targets items (meaning_of x (numbered (k + 1) is ++ ds)) ≡ option_map import_of (item_named x is)
        → item_by targets items (if b then Some (Imported k) else meaning_of x (numbered (k + 1) is ++ ds)) ≡ option_map import_of (if b then Some i else item_named x is)
    by true more = here
    by false more = more

-- a name that is no import's means what is declared
pub not_imported : (x : Name) (k : ℕ) (is : List Item) (ds : List Meant) → item_named x is ≡ None → meaning_of x (numbered k is ++ ds) ≡ meaning_of x ds
not_imported x k [] ds e = refl
not_imported x k (i ∷ is) ds e = by (bytes_eq x i.local) e (not_imported x (k + 1) is ds)
  where
    by : (b : Bool) → (if b then Some i else item_named x is) ≡ None → (item_named x is ≡ None → meaning_of x (numbered (k + 1) is ++ ds) ≡ meaning_of x ds)
        → (if b then Some (Imported k) else meaning_of x (numbered (k + 1) is ++ ds)) ≡ meaning_of x ds
    by true e more = absurd (cc)
    by false e more = more e

-- and one that is an import's means that
pub is_imported : (x : Name) (k : ℕ) (is : List Item) (ds : List Meant) (i : Item) → item_named x is ≡ Some i → (n : ℕ) × (meaning_of x (numbered k is ++ ds) ≡ Some (Imported n))
is_imported x k [] ds i e = absurd (cc)
is_imported x k (j ∷ is) ds i e = by (bytes_eq x j.local) e (is_imported x (k + 1) is ds i)
  where
    by : (b : Bool) → (if b then Some j else item_named x is) ≡ Some i → (item_named x is ≡ Some i → (n : ℕ) × (meaning_of x (numbered (k + 1) is ++ ds) ≡ Some (Imported n)))
        → (n : ℕ) × ((if b then Some (Imported k) else meaning_of x (numbered (k + 1) is ++ ds)) ≡ Some (Imported n))
    by true e more = (k, refl)
    by false e more = more e

-- ---- names say the outline's names

module _ (path : ModulePath) (imports : List Importing) (l : MarkList) (places : List Place) (spots : List DeclarationId) (h : AllZip (IsSpot l) places spots) (o : All IsOrderly spots) where
  abbrev items : List Item
  items = flat_map (items_of path) imports

  abbrev declared : List Meant
  declared = declared_from l.names.keys 0 places

  pub scope_said : locals_of items ++ names_in declared ≡ scope_names (outline_said path imports spots)
  scope_said = ap (λ ns. locals_of items ++ ns) (own_said l 0 places spots h o)

  all_names : names_in (numbered 0 items ++ declared) ≡ locals_of items ++ names_in declared
  all_names = map-append (λ (n : Meant). n.0) (numbered 0 items) declared ∙ ap (λ ns. ns ++ names_in declared) (names_numbered 0 items)

  pub distinct_said : (n : Names) → IsNamed path items declared n → AreDistinct (scope_names (outline_said path imports spots))
  distinct_said n named = subst AreDistinct (all_names ∙ scope_said) named.scope.distinct

  here : (x : Name) → place_by places (meaning_of x declared) ≡ place_of x (outline_said path imports spots)
  here x = place_said l places [] places spots x refl h o

  -- an import's name is not declared
  not_both : (n : Names) → IsNamed path items declared n → (x : Name) (i : Item) → item_named x items ≡ Some i → meaning_of x declared ≡ None
  not_both n named x i e = by (meaning_of x declared) refl
    where
      by : (m : Option Meaning) → meaning_of x declared ≡ m → meaning_of x declared ≡ None
      by None is = is
      by (Some m) is =
          let import = is_imported x 0 items [] i e in
          absurd (apart (names_in (numbered 0 items)) (names_in declared) x
          (subst AreDistinct (map-append (λ (n : Meant). n.0) (numbered 0 items) declared) named.scope.distinct)
          (present (numbered 0 items) x (Imported import.0) (ap (meaning_of x) (sym (append-nil (numbered 0 items))) ∙ import.1))
          (present declared x m is))

  pub say_names : (n : Names) → IsNamed path items declared n → SayNames n places (outline_said path imports spots)
  say_names n named = record {
    path = named.is_path;
    declared = λ x. ap (place_by places) (named.scope.means x) ∙ by x (item_named x items) refl;
    imported = λ x.
        ap (item_by n.targets.items n.items.items) (named.scope.means x)
        ∙ item_said n.targets.items n.items.items x 0 items declared
        (λ j. ap (λ ys. slice_get ys j) (sym named.imports) ∙ (let e : j ≡ 0 + j = omega arith in ap (slice_get (map (import_said n.targets.items) n.items.items)) e))
        (not_item n.targets.items n.items.items l.names.keys x 0 places);
  }
    where
      by : (x : Name) (i : Option Item) → item_named x items ≡ i → place_by places (meaning_of x (numbered 0 items ++ declared)) ≡ place_of x (outline_said path imports spots)
      by x None e = ap (place_by places) (not_imported x 0 items declared e) ∙ here x
      by x (Some i) e =
          ap (place_by places) (is_imported x 0 items declared i e).1 ∙ sym (sym (here x) ∙ ap (place_by places) (not_both n named x i e))

  pub refused_said : (x : Name) → IsFirstAgain (locals_of items ++ names_in declared) x → IsFirstAgain (scope_names (outline_said path imports spots)) x
  refused_said x again = subst (λ ns. IsFirstAgain ns x) scope_said again

  pub refused_made : (e : ImportError) → AreNamed path items declared (Err e) → IsMade (outline_said path imports spots) (Err e)
  refused_made e (inl memory) = inl memory
  refused_made e (inr r) = inr (r.0, refused_said r.0 r.1, r.2)

-- ---- entries

pub closed_said : (l : MarkList) (places : List Place) (spots : List DeclarationId) → AllZip (IsSpot l) places spots → All IsOrderly spots → All (IsClosed l) places
closed_said l [] [] h o = all_none (IsClosed l)
closed_said l [] (s ∷ ss) h o = absurd h
closed_said l (p ∷ ps) [] h o = absurd h
closed_said l (p ∷ ps) (s ∷ ss) h o =
    all_cons (IsClosed l) p ps (ap (λ fs. trail_after fs []) h.0.flats ∙ (all_head IsOrderly s ss o).closed) (closed_said l ps ss h.1 (all_tail IsOrderly s ss o))

abbrev read_use : Option ModulePath × Name → Use
read_use u = record { path = u.0; name = u.1 }

uses_read : (l : MarkList) (rs : List ℕ) → map (use_at l) rs ≡ map read_use (map (read_at l) rs)
uses_read l [] = refl
uses_read l (r ∷ rs) = ap (λ us. use_at l r ∷ us) (uses_read l rs)

entry_same : (l : MarkList) (p : Place) (s : DeclarationId) (rs : List ℕ) → IsSpot l p s → map (read_at l) rs ≡ uses_at l p → entry_said l p rs ≡ spot_entry s
entry_same l p s rs h e =
    let uses : map (use_at l) rs ≡ map read_use (replayed s.flats []) = uses_read l rs ∙ ap (map read_use) (e ∙ ap (λ fs. replayed fs []) h.flats) in
    λ k. record { kind = kind_said (h.kind k); name = same_named l.names.keys p.name s.name h.name k; uses = uses k }

pub entries_same : (l : MarkList) (places : List Place) (spots : List DeclarationId) (uses : List (Vec ℕ Global)) → AllZip (IsSpot l) places spots
    → map (λ (references : Vec ℕ Global). map (read_at l) references.items) uses ≡ map (uses_at l) places → entries_said l places uses ≡ spot_entries spots
entries_same l [] [] uses h e = refl
entries_same l [] (s ∷ ss) uses h e = absurd h
entries_same l (p ∷ ps) [] uses h e = absurd h
entries_same l (p ∷ ps) (s ∷ ss) [] h e = absurd (cc)
entries_same l (p ∷ ps) (s ∷ ss) (r ∷ rs) h e =
    let first : map (read_at l) r.items ≡ uses_at l p = cc in
    let rest : map (λ (references : Vec ℕ Global). map (read_at l) references.items) rs ≡ map (uses_at l) ps = cc in
    by (is_void s.kind) refl first (entries_same l ps ss rs h.1 rest)
  where
    by : (b : Bool) → is_void s.kind ≡ b → map (read_at l) r.items ≡ uses_at l p → entries_said l ps rs ≡ spot_entries ss → entries_said l (p ∷ ps) (r ∷ rs) ≡ spot_entries (s ∷ ss)
    by true is first more =
        ap (λ (b : Bool). if b then entries_said l ps rs else entry_said l p r.items ∷ entries_said l ps rs) (ap is_void h.0.kind ∙ is)
        ∙ more
        ∙ ap (λ (b : Bool). map spot_entry (if not b then s ∷ filter is_spot_entry ss else filter is_spot_entry ss)) (sym is)
    by false is first more =
        ap (λ (b : Bool). if b then entries_said l ps rs else entry_said l p r.items ∷ entries_said l ps rs) (ap is_void h.0.kind ∙ is)
        ∙ (λ k. entry_same l p s r.items h.0 first k ∷ more k)
        ∙ ap (λ (b : Bool). map spot_entry (if not b then s ∷ filter is_spot_entry ss else filter is_spot_entry ss)) (sym is)

-- ---- the whole

pub tabled : (path : ModulePath) (imports : List Importing) (target : Target) (l : MarkList) (places : List Place) (spots : List DeclarationId) (n : Names) (m : Module)
    → AllZip (IsSpot l) places spots → All IsOrderly spots → target.path ≡ path → IsNamed path (flat_map (items_of path) imports) (declared_from l.names.keys 0 places) n
    → IsTable target l places n m → IsTabled m (outline_said path imports spots)
tabled path imports target l places spots n m h o is_path named t = record {
  path = ap (λ (t : Target). t.path) t.is_target ∙ is_path;
  imports = ap (λ ts. map (import_said ts) m.items.items) t.targets ∙ ap (map (import_said n.targets.items)) t.items ∙ named.imports;
  declared = λ x. ap (λ ps. place_by ps (get_by_text m.scope x)) t.are_places ∙ ap (λ s. place_by places (get_by_text s x)) t.scope ∙ say.declared x;
  imported = λ x.
      ap (λ ts. item_by ts m.items.items (get_by_text m.scope x)) t.targets ∙ ap (λ is. item_by n.targets.items is (get_by_text m.scope x)) t.items
      ∙ ap (λ s. item_by n.targets.items n.items.items (get_by_text s x)) t.scope ∙ say.imported x;
  entries = ap (λ l. entries_said l m.places.items m.uses.items) t.is_list ∙ ap (λ ps. entries_said l ps m.uses.items) t.are_places
      ∙ entries_same l places spots m.uses.items h (t.uses (closed_said l places spots h o));
  numbered = subst (λ (l : MarkList). All (λ (references : Vec ℕ Global). AreReferences l references.items) m.uses.items) (sym t.is_list) t.numbered;
  senses = subst (λ (l : MarkList). (r : ℕ) → r < 2 ^ 32 → r < length l.references.keys → sense_said m (slice_get m.sought.items r) ≡ sense (outline_said path imports spots) (use_at l r)) (sym t.is_list)
      (λ r small within.
      ap (λ ps. sense_by ps m.targets.items m.items.items (slice_get m.sought.items r)) t.are_places
      ∙ ap (λ ts. sense_by places ts m.items.items (slice_get m.sought.items r)) t.targets
      ∙ ap (λ is. sense_by places n.targets.items is (slice_get m.sought.items r)) t.items
      ∙ t.senses r small within places (outline_said path imports spots) say);
}
  where
    say : SayNames n places (outline_said path imports spots)
    say = say_names path imports l places spots h o n named
