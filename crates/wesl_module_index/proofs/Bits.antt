-- Booleans and elements of lists.
use Rattle.std.proofs.Common.{◌≡◌, refl, sym, ap, ◌∙◌, ℕ, zero, suc, ◌<◌, ◌≤◌, ◌&&◌, List, [], ◌∷◌, ◌++◌, Bool, true, false, true≢false, arith, length, take, drop, slice_get, nat_lt, Option, Some, None, Result, Ok, Err, Bor}
use Rattle.std.specs.List.{All, list_all}
use Rattle.std.specs.Prelude.{not, IfOk}
use Rattle.std.specs.Option.{is_some, option_map, option_copied}
use Rattle.std.specs.Slice.{IsItemAt}
use Rattle.std.proofs.lemmas.Bool.Decides.{Decides-ltb}
use Rattle.std.proofs.lemmas.Option.{slice_get_past, slice_get_read}

pub below : (a b : ℕ) → nat_lt a b ≡ true → a < b
below a b h = (Decides-ltb a b).0 h

pub is_below : (a b : ℕ) → a < b → nat_lt a b ≡ true
is_below a b h = (Decides-ltb a b).1 h

pub both : (a b : Bool) → (a && b) ≡ true → (a ≡ true) × (b ≡ true)
both true b e = (refl, e)
both false b e = absurd (true≢false (sym e))

pub and : (a b : Bool) → a ≡ true → b ≡ true → (a && b) ≡ true
and a b e f = ap (λ c. c && b) e ∙ f

-- tests that pass together are one
pub same_tests : (a b : Bool) → (a ≡ true → b ≡ true) → (b ≡ true → a ≡ true) → a ≡ b
same_tests true b there back = sym (there refl)
same_tests false true there back = back refl
same_tests false false there back = refl

-- an element of a list passes what all of it pass
pub element : {A : Type 0} (p : A → Bool) (xs : List A) (n : ℕ) (x : A) → list_all p xs ≡ true → slice_get xs n ≡ Some x → p x ≡ true
element p [] n x all e = absurd (cc)
element p (y ∷ ys) zero x all e = let same : y ≡ x = cc in ap p (sym same) ∙ (both (p y) (list_all p ys) all).0
element p (y ∷ ys) (suc n) x all e = element p ys n x (both (p y) (list_all p ys) all).1 e

-- within a list something stands at each place
pub some_at : {A : Type 0} (xs : List A) (n : ℕ) → n < length xs → (x : A) × (slice_get xs n ≡ Some x)
some_at [] n lt = absurd (omega arith)
some_at (x ∷ xs) zero lt = (x, refl)
some_at (x ∷ xs) (suc n) lt = let less : n < length xs = omega arith in some_at xs n less

pub get_before : {A : Type 0} (xs ys : List A) (n : ℕ) (x : A) → slice_get xs n ≡ Some x → slice_get (xs ++ ys) n ≡ Some x
get_before [] ys n x e = absurd (cc)
get_before (y ∷ xs) ys zero x e = e
get_before (y ∷ xs) ys (suc n) x e = get_before xs ys n x e

pub get_last : {A : Type 0} (xs : List A) (x : A) → slice_get (xs ++ x ∷ []) (length xs) ≡ Some x
get_last [] x = refl
get_last (y ∷ xs) x = get_last xs x

-- the element at a place, and those behind it up to another
pub drop_take : {A : Type 0} (xs : List A) (start end : ℕ) (x : A) → start < end → slice_get xs start ≡ Some x → drop start (take end xs) ≡ x ∷ drop (suc start) (take end xs)
drop_take [] start end x lt e = absurd (cc)
drop_take (y ∷ xs) start zero x lt e = absurd (omega arith)
drop_take (y ∷ xs) zero (suc end) x lt e = let same : y ≡ x = cc in ap (λ z. z ∷ take end xs) same
drop_take (y ∷ xs) (suc start) (suc end) x lt e = let less : start < end = omega arith in drop_take xs start end x less e

-- nothing stands behind the end
pub drop_past : {A : Type 0} (xs : List A) (start end : ℕ) → end ≤ start → drop start (take end xs) ≡ []
drop_past [] zero zero le = refl
drop_past [] (suc start) zero le = refl
drop_past [] zero (suc end) le = refl
drop_past [] (suc start) (suc end) le = refl
drop_past (y ∷ xs) zero zero le = refl
drop_past (y ∷ xs) zero (suc end) le = absurd (omega (arith, le))
drop_past (y ∷ xs) (suc start) zero le = refl
drop_past (y ∷ xs) (suc start) (suc end) le = let less : end ≤ start = omega (arith, le) in drop_past xs start end less

pub drop_beyond : {A : Type 0} (xs : List A) (start end : ℕ) → slice_get xs start ≡ None → drop start (take end xs) ≡ []
drop_beyond [] zero zero e = refl
drop_beyond [] (suc start) zero e = refl
drop_beyond [] zero (suc end) e = refl
drop_beyond [] (suc start) (suc end) e = refl
drop_beyond (x ∷ xs) zero end e = absurd (cc)
drop_beyond (x ∷ xs) (suc start) zero e = refl
drop_beyond (x ∷ xs) (suc start) (suc end) e = drop_beyond xs start end e

pub none_past : {A : Type 0} (xs : List A) (n : ℕ) → slice_get xs n ≡ None → slice_get xs (suc n) ≡ None
none_past [] n e = refl
none_past (x ∷ xs) zero e = absurd (cc)
none_past (x ∷ xs) (suc n) e = none_past xs n e

-- ---- what holds of all elements

pub all_none : {A : Type 0} (P : A → Type 0) → All P []
all_none P k d lt = absurd (omega (arith, lt))

pub all_head : {A : Type 0} (P : A → Type 0) (x : A) (xs : List A) → All P (x ∷ xs) → P x
all_head P x xs h = let some : 0 < length (x ∷ xs) = omega arith in h 0 x some

pub all_tail : {A : Type 0} (P : A → Type 0) (x : A) (xs : List A) → All P (x ∷ xs) → All P xs
all_tail P x xs h k d lt = let more : suc k < length (x ∷ xs) = omega (arith, lt) in h (suc k) d more

pub all_cons : {A : Type 0} (P : A → Type 0) (x : A) (xs : List A) → P x → All P xs → All P (x ∷ xs)
all_cons P x xs p h zero d lt = p
all_cons P x xs p h (suc k) d lt = let less : k < length xs = omega (arith, lt) in h k d less

pub all_push : {A : Type 0} (P : A → Type 0) (xs : List A) (x : A) → All P xs → P x → All P (xs ++ x ∷ [])
all_push P [] x h p = all_cons P x [] p (all_none P)
all_push P (y ∷ xs) x h p = all_cons P y (xs ++ x ∷ []) (all_head P y xs h) (all_push P xs x (all_tail P y xs h) p)

-- ---- options

pub nothing : {A : Type 0} (o : Option A) (b : Bool) → is_some o ≡ not b → b ≡ true → o ≡ None
nothing None b e t = refl
nothing (Some x) true e t = absurd (true≢false e)
nothing (Some x) false e t = absurd (true≢false (sym t))

-- ---- results

pub if_ok : {A E : Type 0} (r : Result A E) (P Q : A → Type 0) → ((x : A) → P x → Q x) → IfOk r P → IfOk r Q
if_ok (Ok x) P Q so h = so x h
if_ok (Err e) P Q so h = h

-- what references point at
pub copied_map : {A B : Type 0} (f : A → B) (o : Option (Bor A)) → option_map (λ r. f r.now) o ≡ option_map f (option_copied o)
copied_map f None = refl
copied_map f (Some r) = refl

-- what a reference to an element points at is the element
pub item_at : {A : Type 0} (xs : List A) (i : ℕ) (r : Option (Bor A)) → IsItemAt xs i r → option_copied r ≡ slice_get xs i
item_at xs i None h = sym (slice_get_past xs i h.3)
item_at xs i (Some x) h = sym (slice_get_read xs (length xs) i x.now refl h.3.0 h.1)
