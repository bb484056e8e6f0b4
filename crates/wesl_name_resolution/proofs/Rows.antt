-- What is known of items, as it is written down.
use Rattle.std.proofs.Common.{◌≡◌, refl, sym, ap, ◌∙◌, subst, ℕ, zero, suc, ◌+◌, ◌<◌, ◌≤◌, ◌⊎◌, inl, inr, List, [], ◌∷◌, ◌++◌, map, take, length, Option, Some, None, slice_get, slice_set, get_or, arith}
use Rattle.std.specs.Prelude.{Vec, ◌≢◌, replicate}
use Rattle.std.specs.Option.{option_map}
use Rattle.std.specs.Vec.{with_item}
use Rattle.std.specs.List.{Contains}
use Rattle.std.specs.declared.alloc.Global.{Global}
use Rattle.std.proofs.lemmas.List.Elements.{Contains-append_left, Contains-append_right, Contains-append_cases}
use Rattle.wesl_chains.proofs.Members.{first_in, in_cases, in_none}
use Rattle.wesl_chains.proofs.Loops.{same_some}
use Rattle.wesl_chains.specs.Outlines.{Symbol, Finder}
use Rattle.wesl_module_index.specs.declared.module.Module.{Module}
use Rattle.wesl_module_index.specs.declared.modules.Modules.{Modules}
use Rattle.wesl_module_index.specs.Tables.{Import, import_said, import_at}
use Rattle.wesl_module_index.specs.Loaded.{AreTabled}
use Rattle.wesl_name_resolution.specs.declared.denote.Via.{Via}
use Rattle.wesl_name_resolution.specs.declared.ends.End.{End}
use Rattle.wesl_name_resolution.specs.declared.ends.End.TheVariants.{Unknown, ReferenceTarget}
use Rattle.wesl_name_resolution.specs.declared.ends.Ends as memo
use Rattle.wesl_name_resolution.specs.Links.{symbol_via, published_symbol, import_in}
use Rattle.wesl_name_resolution.specs.Ends.{Rows, row_end, end_at, counts_of, item_counts, IsWithin, IsEnd, IsRight, AreRight, NoneSought, Keeps, IsKnown, SetsOne, SetsAll, Walks, AreEnds}
use Rattle.wesl_name_resolution.proofs.Chains.{right_end, end_right}
use Rattle.wesl_name_resolution.proofs.Known.{found_or}

abbrev Row : Type 0
Row = Vec End Global

-- ---- one item

counts_set : (rows : Rows) (m k : ℕ) (row : Row) (e : End) → slice_get rows m ≡ Some row → counts_of (slice_set rows m (with_item row k e)) ≡ counts_of rows
counts_set [] m k row e is = refl
counts_set (r ∷ rows) zero k row e is =
    let same : r ≡ row = cc in
    ap (λ n. n ∷ counts_of rows) (length_set row.items k e ∙ ap (λ x. length x.items) (sym same))
  where
    length_set : (xs : List End) (k : ℕ) (e : End) → length (slice_set xs k e) ≡ length xs
    length_set [] k e = refl
    length_set (x ∷ xs) zero e = refl
    length_set (x ∷ xs) (suc k) e = ap suc (length_set xs k e)
counts_set (r ∷ rows) (suc m) k row e is = ap (λ ns. length r.items ∷ ns) (counts_set rows m k row e is)

item_set : (xs : List End) (k : ℕ) (e : End) (j : ℕ) → (get_or (slice_set xs k e) j Unknown ≡ get_or xs j Unknown) ⊎ ((j ≡ k) × (get_or (slice_set xs k e) j Unknown ≡ e))
item_set [] k e j = inl refl
item_set (x ∷ xs) zero e zero = inr (refl, refl)
item_set (x ∷ xs) zero e (suc j) = inl refl
item_set (x ∷ xs) (suc k) e zero = inl refl
item_set (x ∷ xs) (suc k) e (suc j) = elim (item_set xs k e j) [ inl f ↦ inl f | inr f ↦ inr (ap suc f.0, f.1) ]

row_set : (rows : Rows) (m k : ℕ) (row : Row) (e : End) → slice_get rows m ≡ Some row → (n j : ℕ)
    → (row_end (slice_get (slice_set rows m (with_item row k e)) n) j ≡ row_end (slice_get rows n) j) ⊎ ((n ≡ m) × (j ≡ k) × (row_end (slice_get (slice_set rows m (with_item row k e)) n) j ≡ e))
row_set [] m k row e is n j = inl refl
row_set (r ∷ rows) zero k row e is zero j =
    let same : r ≡ row = cc in
    elim (item_set row.items k e j) [ inl f ↦ inl (f ∙ ap (λ x. get_or x.items j Unknown) (sym same)) | inr f ↦ inr (refl, f.0, f.1) ]
row_set (r ∷ rows) zero k row e is (suc n) j = inl refl
row_set (r ∷ rows) (suc m) k row e is zero j = inl refl
row_set (r ∷ rows) (suc m) k row e is (suc n) j = elim (row_set rows m k row e is n j) [ inl f ↦ inl f | inr f ↦ inr (ap suc f.0, f.1, f.2) ]

item_there : (xs : List End) (k : ℕ) (e : End) → k < length xs → get_or (slice_set xs k e) k Unknown ≡ e
item_there [] k e less = absurd (omega arith)
item_there (x ∷ xs) zero e less = refl
item_there (x ∷ xs) (suc k) e less = item_there xs k e (omega arith)

row_there : (rows : Rows) (m k : ℕ) (row : Row) (e : End) → slice_get rows m ≡ Some row → k < get_or (counts_of rows) m 0 → row_end (slice_get (slice_set rows m (with_item row k e)) m) k ≡ e
row_there [] m k row e is less = absurd (cc)
row_there (r ∷ rows) zero k row e is less = let same : r ≡ row = cc in item_there row.items k e (subst (λ x. k < length x.items) same less)
row_there (r ∷ rows) (suc m) k row e is less = row_there rows m k row e is less

pub sets_one : (rows : Rows) (via : Via) (e : End) (row : Row) → slice_get rows via.«module» ≡ Some row → SetsOne rows via e (slice_set rows via.«module» (with_item row via.item e))
sets_one rows via e row is = record {
  counts = counts_set rows via.«module» via.item row e is;
  there = λ within. row_there rows via.«module» via.item row e is within;
  others = λ v. elim (row_set rows via.«module» via.item row e is v.«module» v.item) [
    | inl f ↦ inl f
    | inr f ↦ inr (λ i. record { «module» = f.0 i; item = f.1 i }, f.2)
  ];
}

-- ---- what is known

pub is_found : {e : End} → IsKnown e → e ≢ Unknown
is_found k f = subst IsKnown f k

not_sought : {e : End} → IsKnown e → e ≢ ReferenceTarget
not_sought k f = subst IsKnown f k

row_within : (rows : Rows) (m k : ℕ) → row_end (slice_get rows m) k ≢ Unknown → k < get_or (counts_of rows) m 0
row_within [] m k known = absurd (known refl)
row_within (r ∷ rows) zero k known = item_within r.items k known
  where
    item_within : (xs : List End) (k : ℕ) → get_or xs k Unknown ≢ Unknown → k < length xs
    item_within [] k known = absurd (known refl)
    item_within (x ∷ xs) zero known = omega arith
    item_within (x ∷ xs) (suc k) known = let h = item_within xs k known in omega (arith, h)
row_within (r ∷ rows) (suc m) k known = row_within rows m k known

within : (rows : Rows) (v : Via) → end_at rows v ≢ Unknown → IsWithin rows v
within rows v known = row_within rows v.«module» v.item known

same_within : (old new : Rows) → counts_of new ≡ counts_of old → (v : Via) → IsWithin old v → IsWithin new v
same_within old new e v w = subst (λ ns. v.item < get_or ns v.«module» 0) (sym e) w

-- ---- some items

pub sets_none : (rows : Rows) (e : End) → SetsAll rows [] e rows
sets_none rows e = record { counts = refl; there = λ v c w. absurd (in_none v c); others = λ v. inl refl }

pub sets_more : (old mid new : Rows) (met : List Via) (via : Via) (e : End) → SetsAll old met e mid → SetsOne mid via e new → SetsAll old (met ++ via ∷ []) e new
sets_more old mid new met via e all one = record {
  counts = one.counts ∙ all.counts;
  there = λ v c w. elim (Contains-append_cases met (via ∷ []) v c) [
    | inl d ↦ elim (one.others v) [ inl f ↦ f ∙ all.there v d w | inr f ↦ f.1 ]
    | inr d ↦ elim (in_cases via [] v d) [
      | inl same ↦ subst (λ x. end_at new x ≡ e) same (one.there (subst (λ x. IsWithin mid x) (sym same) (same_within old mid all.counts v w)))
      | inr f ↦ absurd (in_none v f)
    ]
  ];
  others = λ v. elim (one.others v) [
    | inl f ↦ elim (all.others v) [ inl g ↦ inl (f ∙ g) | inr g ↦ inr (Contains-append_left met (via ∷ []) v g.0, f ∙ g.1) ]
    | inr f ↦ inr (subst (λ x. Contains (met ++ via ∷ []) x) (sym f.0) (Contains-append_right met (via ∷ []) via (first_in via [])), f.1)
  ];
}

module _ (ms : Modules) (old mid new : Rows) (first : Via) (met : List Via) (e : End) (w : Walks ms old first met mid e) (s : SetsAll mid met e new) where
  pub found_right : AreRight ms new
  found_right find tabled v x is = elim (s.others v) [
    | inl f ↦ subst (λ y. IsRight ms find x y) (sym f) (w.right find tabled v x is)
    | inr f ↦ (let g = w.ends find tabled v f.0 in
        let same : g.0 ≡ x = same_some (sym g.1 ∙ is) in
        subst (λ y. IsRight ms find x y) (sym f.1) (subst (λ z. IsRight ms find z e) same (end_right ms find g.0 e g.2)))
  ]

  pub found_none : NoneSought new
  found_none v h = elim (s.others v) [
    | inl f ↦ (let was : end_at mid v ≡ ReferenceTarget = sym f ∙ h in
        let c = w.sought v was in
        let known : end_at mid v ≢ Unknown = λ g. let z : ReferenceTarget ≡ Unknown = sym was ∙ g in absurd (cc) in
        not_sought (w.known v c) (sym (s.there v c (within mid v known)) ∙ h))
    | inr f ↦ not_sought (w.known v f.0) (sym f.1 ∙ h)
  ]

  pub found_counts : counts_of new ≡ counts_of old
  found_counts = s.counts ∙ w.counts

  met_known : (v : Via) → Contains met v → IsWithin old v → end_at new v ≢ Unknown
  met_known v c i = λ f. is_found (w.known v c) (sym (s.there v c (same_within old mid w.counts v i)) ∙ f)

  pub found_keeps : Keeps old new
  found_keeps v known = elim (w.others v) [
    | inl f ↦ elim (s.others v) [
      | inl g ↦ (λ h. known (sym f ∙ sym g ∙ h))
      | inr g ↦ (λ h. is_found (w.known v g.0) (sym g.1 ∙ h))
    ]
    | inr c ↦ met_known v c (within old v known)
  ]

  pub found_first : (x : Symbol) → symbol_via ms first ≡ Some x → IsWithin old first → end_at new first ≢ Unknown
  found_first x is i = elim (w.begun x is) [
    | inl known ↦ elim (s.others first) [
      | inl g ↦ (λ h. known (sym g ∙ h))
      | inr g ↦ (λ h. is_found (w.known first g.0) (sym g.1 ∙ h))
    ]
    | inr c ↦ met_known first c i
  ]

-- ---- all items

-- of so many modules, and so many items of the next, the ends are known
pub record Settles (ms : Modules) (rows : Rows) (m k : ℕ) : Type 0 where
  pub right : AreRight ms rows
  pub none_sought : NoneSought rows
  pub counts : counts_of rows ≡ item_counts ms.list.items
  pub done : (v : Via) (s : Symbol) → symbol_via ms v ≡ Some s → (v.«module» < m) ⊎ ((v.«module» ≡ m) × (v.item < k)) → end_at rows v ≢ Unknown

pub settles_first : (ms : Modules) (rows : Rows) → counts_of rows ≡ item_counts ms.list.items → ((v : Via) → end_at rows v ≡ Unknown) → Settles ms rows 0 0
settles_first ms rows counts unknown = record {
  right = λ find tabled v s is. subst (λ x. IsRight ms find s x) (sym (unknown v)) tt;
  none_sought = λ v h. let z : Unknown ≡ ReferenceTarget = sym (unknown v) ∙ h in absurd (cc);
  counts = counts;
  done = λ v s is less. absurd (elim less [ inl f ↦ omega (arith, f) | inr f ↦ (let g = f.1 in omega (arith, g)) ]);
}

pub settles_item : (ms : Modules) (rows new : Rows) (m k : ℕ) → Settles ms rows m k → AreRight ms new → NoneSought new → counts_of new ≡ counts_of rows → Keeps rows new
    → ((s : Symbol) → symbol_via ms (record { «module» = m; item = k }) ≡ Some s → IsWithin rows (record { «module» = m; item = k }) → end_at new (record { «module» = m; item = k }) ≢ Unknown)
    → IsWithin rows (record { «module» = m; item = k }) → Settles ms new m (k + 1)
settles_item ms rows new m k old right none counts keeps first inside = record {
  right = right;
  none_sought = none;
  counts = counts ∙ old.counts;
  done = λ v s is less. at v s is less;
}
  where
    same_or_less : (a b : ℕ) → a < b + 1 → (a < b) ⊎ (a ≡ b)
    same_or_less zero zero h = inr refl
    same_or_less zero (suc b) h = inl (omega arith)
    same_or_less (suc a) zero h = absurd (omega (arith, h))
    same_or_less (suc a) (suc b) h = elim (same_or_less a b (omega (arith, h))) [ inl f ↦ inl (omega (arith, f)) | inr f ↦ inr (ap suc f) ]

    at : (v : Via) (s : Symbol) → symbol_via ms v ≡ Some s → (v.«module» < m) ⊎ ((v.«module» ≡ m) × (v.item < k + 1)) → end_at new v ≢ Unknown
    at v s is (inl f) = keeps v (old.done v s is (inl f))
    at v s is (inr f) = elim (same_or_less v.item k f.1) [
      | inl g ↦ keeps v (old.done v s is (inr (f.0, g)))
      | inr g ↦ (let here : Via = record { «module» = m; item = k } in
          let same : v ≡ here = λ i. record { «module» = f.0 i; item = g i } in
          subst (λ x. end_at new x ≢ Unknown) (sym same) (first s (ap (symbol_via ms) (sym same) ∙ is) inside))
    ]

-- an import that leads on is one of the items of its module
via_within : (list : List Module) (m k : ℕ) (s : Symbol) → published_symbol (import_in (slice_get list m) k) ≡ Some s → k < get_or (item_counts list) m 0
via_within [] m k s is = absurd (cc)
via_within (x ∷ list) zero k s is = item_within x.items.items k is
  where
    item_within : (items : List _) (k : ℕ) → published_symbol (option_map (import_said x.targets.items) (slice_get items k)) ≡ Some s → k < length items
    item_within [] k is = absurd (cc)
    item_within (i ∷ items) zero is = omega arith
    item_within (i ∷ items) (suc k) is = let h = item_within items k is in omega (arith, h)
via_within (x ∷ list) (suc m) k s is = via_within list m k s is

module_within : (list : List Module) (m k : ℕ) → k < get_or (item_counts list) m 0 → m < length list
module_within [] m k less = absurd (omega (arith, less))
module_within (x ∷ list) zero k less = omega arith
module_within (x ∷ list) (suc m) k less = let h = module_within list m k less in omega (arith, h)

pub settles_module : (ms : Modules) (rows : Rows) (m k : ℕ) → Settles ms rows m k → get_or (counts_of rows) m 0 ≤ k → Settles ms rows (m + 1) 0
settles_module ms rows m k old all = record {
  right = old.right;
  none_sought = old.none_sought;
  counts = old.counts;
  done = λ v s is less. at v s is less;
}
  where
    same_or_less : (a b : ℕ) → a < b + 1 → (a < b) ⊎ (a ≡ b)
    same_or_less zero zero h = inr refl
    same_or_less zero (suc b) h = inl (omega arith)
    same_or_less (suc a) zero h = absurd (omega (arith, h))
    same_or_less (suc a) (suc b) h = elim (same_or_less a b (omega (arith, h))) [ inl f ↦ inl (omega (arith, f)) | inr f ↦ inr (ap suc f) ]

    at : (v : Via) (s : Symbol) → symbol_via ms v ≡ Some s → (v.«module» < m + 1) ⊎ ((v.«module» ≡ m + 1) × (v.item < 0)) → end_at rows v ≢ Unknown
    at v s is (inr f) = let g = f.1 in absurd (omega (arith, g))
    at v s is (inl f) = elim (same_or_less v.«module» m f) [
      | inl g ↦ old.done v s is (inl g)
      | inr g ↦ (let h = via_within ms.list.items v.«module» v.item s is in
          let c : get_or (item_counts ms.list.items) v.«module» 0 ≡ get_or (counts_of rows) m 0 = ap (λ n. get_or (item_counts ms.list.items) n 0) g ∙ ap (λ ns. get_or ns m 0) (sym old.counts) in
          old.done v s is (inr (g, omega (arith, h, c, all))))
    ]

pub settled : (ms : Modules) (known : memo.Ends) (n : ℕ) → Settles ms known.ends.items n 0 → length ms.list.items ≤ n → AreEnds ms known
settled ms known n old all find tabled v s is =
    let h = module_within ms.list.items v.«module» v.item (via_within ms.list.items v.«module» v.item s is) in
    right_end ms find s (end_at known.ends.items v) (found_or (end_at known.ends.items v) (old.done v s is (inl (omega (arith, h, all)))) (old.none_sought v)) (old.right find tabled v s is)

-- ---- nothing is known yet

row_unknown : (n j : ℕ) → get_or (replicate n Unknown) j Unknown ≡ Unknown
row_unknown zero j = refl
row_unknown (suc n) zero = refl
row_unknown (suc n) (suc j) = row_unknown n j

pub unknown_more : (rows : Rows) (row : Row) (n : ℕ) → row.items ≡ replicate n Unknown → ((v : Via) → end_at rows v ≡ Unknown) → (v : Via) → end_at (rows ++ row ∷ []) v ≡ Unknown
unknown_more rows row n is old v = at rows v.«module» (λ m. old (record { «module» = m; item = v.item }))
  where
    at : (rs : Rows) (m : ℕ) → ((k : ℕ) → row_end (slice_get rs k) v.item ≡ Unknown) → row_end (slice_get (rs ++ row ∷ []) m) v.item ≡ Unknown
    at [] zero all = ap (λ xs. get_or xs v.item Unknown) is ∙ row_unknown n v.item
    at [] (suc m) all = refl
    at (r ∷ rs) zero all = all 0
    at (r ∷ rs) (suc m) all = at rs m (λ k. all (suc k))

counts_append : (rows : Rows) (row : Row) → counts_of (rows ++ row ∷ []) ≡ counts_of rows ++ length row.items ∷ []
counts_append [] row = refl
counts_append (r ∷ rows) row = ap (λ ns. length r.items ∷ ns) (counts_append rows row)

take_one : (list : List Module) (n : ℕ) (m : Module) → slice_get list n ≡ Some m → take (n + 1) (item_counts list) ≡ take n (item_counts list) ++ length m.items.items ∷ []
take_one [] n m is = absurd (cc)
take_one (x ∷ list) zero m is = ap (λ y. length y.items.items ∷ []) (same_some is)
take_one (x ∷ list) (suc n) m is =
    let e : suc n + 1 ≡ suc (n + 1) = omega arith in
    ap (λ k. take k (item_counts (x ∷ list))) e ∙ ap (λ ns. length x.items.items ∷ ns) (take_one list n m is)

pub counts_more : (rows : Rows) (row : Row) (list : List Module) (n : ℕ) (m : Module) → counts_of rows ≡ take n (item_counts list) → slice_get list n ≡ Some m → length row.items ≡ length m.items.items
    → counts_of (rows ++ row ∷ []) ≡ take (n + 1) (item_counts list)
counts_more rows row list n m counts is e = counts_append rows row ∙ (λ k. counts k ++ e k ∷ []) ∙ sym (take_one list n m is)

pub none_past : {X : Type 0} (xs : List X) (n : ℕ) → slice_get xs n ≡ None → n < length xs → ⊥
none_past [] n e less = omega (arith, less)
none_past (x ∷ xs) zero e less = absurd (cc)
none_past (x ∷ xs) (suc n) e less = none_past xs n e (omega (arith, less))

pub take_all : {X : Type 0} (xs : List X) (n : ℕ) → length xs ≤ n → take n xs ≡ xs
take_all [] zero le = refl
take_all [] (suc n) le = refl
take_all (x ∷ xs) zero le = absurd (omega (arith, le))
take_all (x ∷ xs) (suc n) le = ap (λ ys. x ∷ ys) (take_all xs n (omega (arith, le)))

pub length_replicate : {X : Type 0} (n : ℕ) (x : X) → length (replicate n x) ≡ n
length_replicate zero x = refl
length_replicate (suc n) x = ap suc (length_replicate n x)
