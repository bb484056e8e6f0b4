-- Values one after another, and what each is.
use Rattle.std.proofs.Common.{◌≡◌, refl, sym, ap, ◌∙◌, ℕ, List, [], ◌∷◌, ◌++◌, ◌+◌, ◌<◌, length, drop, get_or, Option, Some, None, option_map, append_assoc}
use Rattle.std.proofs.lemmas.List.{append-nil, at_drop_more}
use Rattle.serde_json.specs.Data.{Data}
use Rattle.serde_json.specs.View.{view, items_view}
use Rattle.serde_json.specs.declared.value.Value.{Value}
use Rattle.weslc_bundle.specs.Bundles.{each}

-- what is read of all, where this much was read and these are left
abbrev pub left : {A : Type 0} → (Data → Option A) → List A → List Value → Option (List A)
left reads done vs = option_map (λ rest. done ++ rest) (each reads (items_view vs))

pub left_none : {A : Type 0} → (reads : Data → Option A) (vs : List Value) → left reads [] vs ≡ each reads (items_view vs)
left_none {A} reads vs = by_option (each reads (items_view vs))
  where
    by_option : (o : Option (List A)) → option_map (λ rest. [] ++ rest) o ≡ o
    by_option None = refl
    by_option (Some xs) = refl

pub left_all : {A : Type 0} → (reads : Data → Option A) (done : List A) → left reads done [] ≡ Some done
left_all reads done = ap Some (append-nil done)

pub left_more : {A : Type 0} → (reads : Data → Option A) (done : List A) (v : Value) (vs : List Value) (x : A) → reads (view v) ≡ Some x → left reads done (v ∷ vs) ≡ left reads (done ++ x ∷ []) vs
left_more {A} reads done v vs x is = rw is (by_option (each reads (items_view vs)))
  where
    by_option : (o : Option (List A)) → option_map (λ rest. done ++ rest) (option_map (λ xs. x ∷ xs) o) ≡ option_map (λ rest. (done ++ x ∷ []) ++ rest) o
    by_option None = refl
    by_option (Some xs) = ap Some (sym (append_assoc done (x ∷ []) xs))

pub left_fault : {A : Type 0} → (reads : Data → Option A) (done : List A) (v : Value) (vs : List Value) → reads (view v) ≡ None → left reads done (v ∷ vs) ≡ None
left_fault reads done v vs is = rw is refl

-- the same at a place of a list
pub item_taken : {A : Type 0} → (reads : Data → Option A) (done : List A) (vs : List Value) (i : ℕ) (v : Value) (x : A) → i < length vs → v ≡ get_or vs i v → reads (view v) ≡ Some x
    → left reads done (drop i vs) ≡ left reads (done ++ x ∷ []) (drop (i + 1) vs)
item_taken reads done vs i v x within item is =
    at_drop_more (left reads done) vs i v within ∙ ap (λ w. left reads done (w ∷ drop (i + 1) vs)) (sym item) ∙ left_more reads done v (drop (i + 1) vs) x is

pub item_refused : {A : Type 0} → (reads : Data → Option A) (done : List A) (vs : List Value) (i : ℕ) (v : Value) → i < length vs → v ≡ get_or vs i v → reads (view v) ≡ None
    → left reads done (drop i vs) ≡ None
item_refused reads done vs i v within item is =
    at_drop_more (left reads done) vs i v within ∙ ap (λ w. left reads done (w ∷ drop (i + 1) vs)) (sym item) ∙ left_fault reads done v (drop (i + 1) vs) is
