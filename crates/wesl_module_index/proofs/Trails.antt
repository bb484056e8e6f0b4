-- The scopes that are open, by numbers and by names.
use Rattle.std.proofs.Common.{◌≡◌, refl, sym, ap, ◌∙◌, subst, ℕ, zero, suc, ◌+◌, ◌<◌, ◌≤◌, ◌&&◌, ◌||◌, ◌⊎◌, inl, inr, List, [], ◌∷◌, ◌++◌, Bool, true, false, true≢false, add-one, length, map, take, drop, slice_get, nat_lt, Option, Some, None}
use Rattle.std.specs.Prelude.{String, string_bytes, option_map, unwrap_or, fold, nat_eq, if◌then◌else◌}
use Rattle.std.specs.Option.{is_some}
use Rattle.std.specs.List.{list_all, flat_map}
use Rattle.std.specs.Str.{bytes_eq}
use Rattle.std.specs.declared.alloc.Global.{Global}
use Rattle.std.proofs.lemmas.Bool.Decides.{Decides-eqb}
use Rattle.std.proofs.lemmas.List.Sums.{fold-append}
use Rattle.std.proofs.lemmas.List.Folds.{list_all-append}
use Rattle.wgsl_path.specs.declared.path.ModulePath.{ModulePath}
use Rattle.wgsl_base.proofs.Members.{same_bytes, bytes_same}
use Rattle.wesl_mark.specs.declared.names.Reference.{Reference}
use Rattle.wesl_mark.specs.declared.mark.Mark.{Mark}
use Rattle.wesl_mark.specs.declared.mark.MarkList.{MarkList}
use Rattle.wesl_mark.specs.declared.scopes.Entry.{Entry}
use Rattle.wesl_mark.specs.declared.scopes.Entry.TheVariants.{Start, Bound}
use Rattle.wesl_mark.specs.Marks.{Name, name_at, text_at, path_of, name_of, said_by, flat_of, AreApart, AreNamed}
use Rattle.wesl_mark.specs.Lists.{says, flats_between}
use Rattle.wesl_mark.specs.Trail.{behind, nearest, is_bound, Leaves}
use Rattle.wgsl_skeleton.specs.Occurrences.{is_among, hidden_by}
use Rattle.wgsl_skeleton.specs.Flats.{Flat, enters, leaves, declares, occurs, Trail, names_on, outer, replayed}
use Rattle.wesl_module_index.specs.Uses.{read_at, name_in, trail_said, is_named_below, AreLocals, trail_after, Follows}
use Rattle.wesl_module_index.proofs.Bits.{below, both, and, same_tests, element, some_at, drop_take, drop_past, drop_beyond, none_past}

-- ---- one more, and one scope less

abbrev opens : List (String Global) → Trail → Entry → Trail
opens names t e = name_in names e ∷ t

pub trail_push : (names : List (String Global)) (trail : List Entry) (e : Entry) → trail_said names (trail ++ e ∷ []) ≡ name_in names e ∷ trail_said names trail
trail_push names trail e = fold-append (opens names) [] trail (e ∷ [])

pub locals_push : (names : List (String Global)) (trail : List Entry) (e : Entry) → AreLocals names trail → is_named_below (length names) e ≡ true → AreLocals names (trail ++ e ∷ [])
locals_push names trail e h one =
    list_all-append (is_named_below (length names)) trail (e ∷ [])
    ∙ and (list_all (is_named_below (length names)) trail) (is_named_below (length names) e && true) h (and (is_named_below (length names) e) true one refl)

outer_bound : (names : List (String Global)) (inside : List Entry) (t : Trail) → list_all is_bound inside ≡ true → outer (fold (opens names) t inside) ≡ outer t
outer_bound names [] t h = refl
outer_bound names (Start ∷ es) t h = absurd (true≢false (sym h))
outer_bound names (Bound b ∷ es) t h = outer_bound names es (Some (text_at names b.name) ∷ t) h

pub trail_left : (names : List (String Global)) (old new : List Entry) → Leaves old new → trail_said names new ≡ outer (trail_said names old)
trail_left names old new h = by h.2
  where
    by : (old ≡ new ++ Start ∷ h.0) ⊎ ((new ≡ []) × (old ≡ h.0)) → trail_said names new ≡ outer (trail_said names old)
    by (inl e) =
        sym (ap (λ es. outer (trail_said names es)) e ∙ ap outer (fold-append (opens names) [] new (Start ∷ h.0)) ∙ outer_bound names h.0 (None ∷ trail_said names new) h.1)
    by (inr p) = ap (trail_said names) p.0 ∙ sym (ap (λ es. outer (trail_said names es)) p.1 ∙ outer_bound names h.0 [] h.1)

pub locals_left : (names : List (String Global)) (old new : List Entry) → Leaves old new → AreLocals names old → AreLocals names new
locals_left names old new h locals = by h.2
  where
    by : (old ≡ new ++ Start ∷ h.0) ⊎ ((new ≡ []) × (old ≡ h.0)) → AreLocals names new
    by (inl e) =
        (both (list_all (is_named_below (length names)) new) (list_all (is_named_below (length names)) (Start ∷ h.0))
        (sym (list_all-append (is_named_below (length names)) new (Start ∷ h.0)) ∙ ap (list_all (is_named_below (length names))) (sym e) ∙ locals)).0
    by (inr p) = ap (list_all (is_named_below (length names))) p.0

-- ---- a name that a local hides

-- within its numbers a table has names
pub name_within : (names : List (String Global)) (n : ℕ) → n < length names → name_at names n ≡ Some (text_at names n)
name_within names n lt =
    let s = some_at names n lt in
    ap (option_map string_bytes) s.1 ∙ ap (λ (o : Option Name). Some (unwrap_or o [])) (sym (ap (option_map string_bytes) s.1))

same_number : (names : List (String Global)) → AreApart names → (n m : ℕ) → n < length names → m < length names → nat_eq n m ≡ bytes_eq (text_at names n) (text_at names m)
same_number names apart n m ln lm =
    same_tests (nat_eq n m) (bytes_eq (text_at names n) (text_at names m))
    (λ e. let same : n ≡ m = (Decides-eqb n m).0 e in subst (λ k. bytes_eq (text_at names n) (text_at names k) ≡ true) same (bytes_same (text_at names n)))
    (λ e.
    let same : text_at names n ≡ text_at names m = same_bytes (text_at names n) (text_at names m) e in
    (Decides-eqb n m).1 (apart n m (text_at names n) (name_within names n ln) (name_within names m lm ∙ ap Some (sym same))))

some_if : (b : Bool) (v : ℕ) (o : Option ℕ) → is_some (if b then Some v else o) ≡ (b || is_some o)
some_if true v o = refl
some_if false v o = refl

found_from : (names : List (String Global)) → AreApart names → (n : ℕ) → n < length names → (trail : List Entry) → AreLocals names trail → (found : Option ℕ) (t : Trail)
    → is_some found ≡ is_among (text_at names n) (names_on t) → is_some (fold (behind n) found trail) ≡ is_among (text_at names n) (names_on (fold (opens names) t trail))
found_from names apart n lt [] locals found t e = e
found_from names apart n lt (Start ∷ es) locals found t e = found_from names apart n lt es locals found (None ∷ t) e
found_from names apart n lt (Bound b ∷ es) locals found t e =
    let parts = both (nat_lt b.name (length names)) (list_all (is_named_below (length names)) es) locals in
    found_from names apart n lt es parts.1 (if nat_eq n b.name then Some b.value else found) (Some (text_at names b.name) ∷ t)
    (some_if (nat_eq n b.name) b.value found
    ∙ ap (λ c. c || is_some found) (same_number names apart n b.name lt (below b.name (length names) parts.0))
    ∙ ap (λ c. bytes_eq (text_at names n) (text_at names b.name) || c) e)

-- a name has a value where a local of that name is in scope
pub found_said : (names : List (String Global)) → AreApart names → (n : ℕ) → n < length names → (trail : List Entry) → AreLocals names trail
    → is_some (nearest n trail) ≡ is_among (text_at names n) (names_on (trail_said names trail))
found_said names apart n lt trail locals = found_from names apart n lt trail locals None [] refl

pub hides : (names : List (String Global)) (references : List Reference) → AreApart names → AreNamed names references → (r : ℕ) (x : Reference) → slice_get references r ≡ Some x
    → (trail : List Entry) → AreLocals names trail → x.path ≡ None
    → is_some (nearest x.name trail) ≡ hidden_by (path_of (slice_get references r)) (name_of names (slice_get references r)) (names_on (trail_said names trail))
hides names references apart named r x e trail locals none =
    found_said names apart x.name (below x.name (length names) (element (λ y. nat_lt y.name (length names)) references r x named e)) trail locals
    ∙ ap (λ p. hidden_by p (text_at names x.name) (names_on (trail_said names trail))) (sym none)
    ∙ ap (λ o. hidden_by (path_of o) (name_of names o) (names_on (trail_said names trail))) (sym e)

pub hides_not : (names : List (String Global)) (references : List Reference) (r : ℕ) (x : Reference) (p : ModulePath) → slice_get references r ≡ Some x
    → (locals : List Name) → x.path ≡ Some p
    → false ≡ hidden_by (path_of (slice_get references r)) (name_of names (slice_get references r)) locals
hides_not names references r x p e locals some =
    ap (λ q. hidden_by q (text_at names x.name) locals) (sym some)
    ∙ ap (λ o. hidden_by (path_of o) (name_of names o) locals) (sym e)

-- ---- a mark more

flats_map : {A B : Type 0} (f : A → B) (g : B → List Flat) (xs : List A) (start end : ℕ) → flat_map g (drop start (take end (map f xs))) ≡ flat_map g (map f (drop start (take end xs)))
flats_map f g [] zero zero = refl
flats_map f g [] zero (suc end) = refl
flats_map f g [] (suc start) zero = refl
flats_map f g [] (suc start) (suc end) = refl
flats_map f g (x ∷ xs) zero zero = refl
flats_map f g (x ∷ xs) zero (suc end) = ap (λ t. g (f x) ++ t) (flats_map f g xs zero end)
flats_map f g (x ∷ xs) (suc start) zero = refl
flats_map f g (x ∷ xs) (suc start) (suc end) = flats_map f g xs start end

pub between_step : (l : MarkList) (start end : ℕ) (m : Mark) → start < end → slice_get l.marks.items start ≡ Some m
    → flats_between l start end ≡ flat_of (said_by l.names.keys l.references.keys m) ++ flats_between l (suc start) end
unfolding flats_between says
between_step l start end m lt e =
    flats_map (said_by l.names.keys l.references.keys) flat_of l.marks.items start end
    ∙ ap (λ ms. flat_map flat_of (map (said_by l.names.keys l.references.keys) ms)) (drop_take l.marks.items start end m lt e)
    ∙ ap (λ fs. flat_of (said_by l.names.keys l.references.keys m) ++ fs) (sym (flats_map (said_by l.names.keys l.references.keys) flat_of l.marks.items (suc start) end))

pub between_past : (l : MarkList) (start end : ℕ) → end ≤ start → flats_between l start end ≡ []
unfolding flats_between says
between_past l start end le = ap (flat_map flat_of) (drop_past (says l) start end le)

-- behind all marks
pub between_beyond : (l : MarkList) (start end : ℕ) → slice_get l.marks.items start ≡ None → flats_between l start end ≡ []
unfolding flats_between says
between_beyond l start end e =
    flats_map (said_by l.names.keys l.references.keys) flat_of l.marks.items start end
    ∙ ap (λ ms. flat_map flat_of (map (said_by l.names.keys l.references.keys) ms)) (drop_beyond l.marks.items start end e)

pub after_append : (ms rest : List Flat) (t : Trail) → trail_after (ms ++ rest) t ≡ trail_after rest (trail_after ms t)
after_append [] rest t = refl
after_append (enters ∷ ms) rest t = after_append ms rest (None ∷ t)
after_append (leaves ∷ ms) rest t = after_append ms rest (outer t)
after_append (declares x ∷ ms) rest t = after_append ms rest (Some x ∷ t)
after_append (occurs path x ∷ ms) rest t = after_append ms rest t

pub uses_step : (l : MarkList) (at end : ℕ) (m : Mark) (old : List Entry) (before : List ℕ) (new : List Entry) (after : List ℕ) → at < end → slice_get l.marks.items at ≡ Some m
    → Follows l (flat_of (said_by l.names.keys l.references.keys m)) old before new after
    → map (read_at l) after ++ replayed (flats_between l (at + 1) end) (trail_said l.names.keys new) ≡ map (read_at l) before ++ replayed (flats_between l at end) (trail_said l.names.keys old)
uses_step l at end m old before new after lt is f =
    ap (λ k. map (read_at l) after ++ replayed (flats_between l k end) (trail_said l.names.keys new)) (add-one at)
    ∙ f.uses (flats_between l (suc at) end)
    ∙ ap (λ fs. map (read_at l) before ++ replayed fs (trail_said l.names.keys old)) (sym (between_step l at end m lt is))

pub trail_step : (l : MarkList) (at end : ℕ) (m : Mark) (old : List Entry) (before : List ℕ) (new : List Entry) (after : List ℕ) → at < end → slice_get l.marks.items at ≡ Some m
    → Follows l (flat_of (said_by l.names.keys l.references.keys m)) old before new after
    → trail_after (flats_between l (at + 1) end) (trail_said l.names.keys new) ≡ trail_after (flats_between l at end) (trail_said l.names.keys old)
trail_step l at end m old before new after lt is f =
    ap (λ k. trail_after (flats_between l k end) (trail_said l.names.keys new)) (add-one at)
    ∙ ap (trail_after (flats_between l (suc at) end)) f.trail
    ∙ sym (after_append (flat_of (said_by l.names.keys l.references.keys m)) (flats_between l (suc at) end) (trail_said l.names.keys old))
    ∙ ap (λ fs. trail_after fs (trail_said l.names.keys old)) (sym (between_step l at end m lt is))

-- beyond the marks nothing is said
pub none_step : (l : MarkList) (at end : ℕ) → slice_get l.marks.items at ≡ None → flats_between l (at + 1) end ≡ flats_between l at end
none_step l at end e =
    let past : slice_get l.marks.items (at + 1) ≡ None = ap (slice_get l.marks.items) (add-one at) ∙ none_past l.marks.items at e in
    between_beyond l (at + 1) end past ∙ sym (between_beyond l at end e)
