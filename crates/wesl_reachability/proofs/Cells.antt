-- Tables, once a value is put.
use Rattle.std.proofs.Common.{◌≡◌, refl, sym, ap, ◌∙◌, subst, ℕ, zero, suc, ◌<◌, ◌⊎◌, inl, inr, List, [], ◌∷◌, ◌++◌, length, Option, Some, None, Bool, true, false, slice_get, slice_set, is_some, arith}
use Rattle.std.specs.Option.{option_map}
use Rattle.std.specs.Prelude.{Vec}
use Rattle.std.specs.declared.alloc.Global.{Global}
use Rattle.wesl_reachability.specs.Cells.{Rows, row_at, cell, Differ, PutsOne, Puts, is_unset, IsSet, HasRoom, SetsOne, Sets}

pub get_set_here : {X : Type 0} (xs : List X) (r : ℕ) (old v : X) → slice_get xs r ≡ Some old → slice_get (slice_set xs r v) r ≡ Some v
get_set_here [] r old v is = absurd (cc)
get_set_here (x ∷ xs) zero old v is = refl
get_set_here (x ∷ xs) (suc r) old v is = get_set_here xs r old v is

pub get_set_other : {X : Type 0} (xs : List X) (r m : ℕ) (v : X) → (m ≡ r → ⊥) → slice_get (slice_set xs r v) m ≡ slice_get xs m
get_set_other [] r m v n = refl
get_set_other (x ∷ xs) zero zero v n = absurd (n refl)
get_set_other (x ∷ xs) zero (suc m) v n = refl
get_set_other (x ∷ xs) (suc r) zero v n = refl
get_set_other (x ∷ xs) (suc r) (suc m) v n = get_set_other xs r m v (λ e. n (ap suc e))

length_set : {X : Type 0} (xs : List X) (r : ℕ) (v : X) → length (slice_set xs r v) ≡ length xs
length_set [] r v = refl
length_set (x ∷ xs) zero v = refl
length_set (x ∷ xs) (suc r) v = ap suc (length_set xs r v)

pub same_or : (m r : ℕ) → (m ≡ r) ⊎ (m ≡ r → ⊥)
same_or zero zero = inl refl
same_or zero (suc r) = inr (λ e. absurd (omega (arith, e)))
same_or (suc m) zero = inr (λ e. absurd (omega (arith, e)))
same_or (suc m) (suc r) = elim (same_or m r) [ inl e ↦ inl (ap suc e) | inr n ↦ inr (λ e. n (let f : m ≡ r = omega (arith, e) in f)) ]

pub same_place : (m k row at : ℕ) → ((m ≡ row) × (k ≡ at)) ⊎ Differ m k row at
same_place m k row at = by (same_or m row) (same_or k at)
  where
    by : (m ≡ row) ⊎ (m ≡ row → ⊥) → (k ≡ at) ⊎ (k ≡ at → ⊥) → ((m ≡ row) × (k ≡ at)) ⊎ Differ m k row at
    by (inl e) (inl f) = inl (e, f)
    by (inr n) f = inr (λ p. n p.0)
    by (inl e) (inr n) = inr (λ p. n p.1)

-- ---- a value is put

pub put_here : {X : Type 0} (xs : List X) (at : ℕ) (old v : X) → slice_get xs at ≡ Some old → PutsOne xs at v (slice_set xs at v)
put_here xs at old v is = record {
  here = get_set_here xs at old v is ∙ ap (option_map (λ x. v)) (sym is);
  others = λ k n. get_set_other xs at k v n;
}

pub put_again : {X : Type 0} (xs : List X) (at : ℕ) (v : X) → slice_get xs at ≡ Some v → PutsOne xs at v xs
put_again xs at v is = record { here = is ∙ ap (option_map (λ x. v)) (sym is); others = λ k n. refl }

pub put_nowhere : {X : Type 0} (xs : List X) (at : ℕ) (v : X) → slice_get xs at ≡ None → PutsOne xs at v xs
put_nowhere xs at v is = record { here = is ∙ ap (option_map (λ x. v)) (sym is); others = λ k n. refl }

pub puts_row : {X : Type 0} (rows : Rows X) (r at : ℕ) (v : X) (old new : Vec X Global) → slice_get rows r ≡ Some old → PutsOne old.items at v new.items → Puts rows r at v (slice_set rows r new)
puts_row rows r at v old new is s = record {
  here = ap (λ o. row_at o at) (get_set_here rows r old new is) ∙ s.here ∙ ap (λ o. option_map (λ x. v) (row_at o at)) (sym is);
  others = λ m k other. at_row m k other (same_or m r);
}
  where
    at_row : (m k : ℕ) → Differ m k r at → (m ≡ r) ⊎ (m ≡ r → ⊥) → cell (slice_set rows r new) m k ≡ cell rows m k
    at_row m k other (inl e) =
        ap (λ n. cell (slice_set rows r new) n k) e ∙ ap (λ o. row_at o k) (get_set_here rows r old new is)
        ∙ s.others k (λ f. other (e, f)) ∙ ap (λ o. row_at o k) (sym is) ∙ ap (λ n. cell rows n k) (sym e)
    at_row m k other (inr n) = ap (λ o. row_at o k) (get_set_other rows r m new n)

pub puts_none : {X : Type 0} (rows : Rows X) (r at : ℕ) (v : X) → slice_get rows r ≡ None → Puts rows r at v rows
puts_none rows r at v is = record { here = ap (λ o. row_at o at) is ∙ ap (λ o. option_map (λ x. v) (row_at o at)) (sym is); others = λ m k other. refl }

pub sets_row : (rows : Rows Bool) (r at : ℕ) (old new : Vec Bool Global) (first : Bool) → slice_get rows r ≡ Some old → SetsOne old.items at new.items first → Sets rows r at (slice_set rows r new) first
sets_row rows r at old new first is s = record { puts = puts_row rows r at true old new is s.puts; told = s.told ∙ ap (λ o. is_unset (row_at o at)) (sym is); rows = length_set rows r new }

pub sets_none : (rows : Rows Bool) (r at : ℕ) → slice_get rows r ≡ None → Sets rows r at rows false
sets_none rows r at is = record { puts = puts_none rows r at true is; told = sym (ap (λ o. is_unset (row_at o at)) is); rows = refl }

-- ---- what stands there then

pub there_put : {X : Type 0} (v : X) (o : Option X) → is_some o ≡ true → option_map (λ x. v) o ≡ Some v
there_put v None e = absurd (cc)
there_put v (Some b) e = refl

pub some_put : {X : Type 0} (v : X) (o : Option X) → is_some (option_map (λ x. v) o) ≡ is_some o
some_put v None = refl
some_put v (Some b) = refl

pub was_set : (o : Option Bool) → false ≡ is_unset o → option_map (λ x. true) o ≡ o
was_set None e = refl
was_set (Some true) e = refl
was_set (Some false) e = absurd (cc)

pub not_set : (o : Option Bool) → true ≡ is_unset o → o ≡ Some false
not_set None e = absurd (cc)
not_set (Some true) e = absurd (cc)
not_set (Some false) e = refl

module _ {X : Type 0} (old : Rows X) (row at : ℕ) (v : X) (new : Rows X) (s : Puts old row at v new) where
  -- it is the value, or what it was
  pub cell_now : (m k : ℕ) → ((m ≡ row) × (k ≡ at) × (cell new m k ≡ option_map (λ x. v) (cell old m k))) ⊎ (cell new m k ≡ cell old m k)
  cell_now m k = elim (same_place m k row at) [
    | inl p ↦ inl (p.0, p.1, ap (λ n. cell new n k) p.0 ∙ ap (cell new row) p.1 ∙ s.here ∙ ap (option_map (λ x. v)) (ap (cell old row) (sym p.1) ∙ ap (λ n. cell old n k) (sym p.0)))
    | inr n ↦ inr (s.others m k n)
  ]

  pub kept_room : (m k : ℕ) → HasRoom old m k → HasRoom new m k
  kept_room m k h = elim (cell_now m k) [
    | inl e ↦ ap is_some e.2 ∙ some_put v (cell old m k) ∙ h
    | inr e ↦ ap is_some e ∙ h
  ]

module _ (old : Rows Bool) (row at : ℕ) (new : Rows Bool) (s : Puts old row at true new) where
  pub kept_set : (m k : ℕ) → IsSet old m k → IsSet new m k
  kept_set m k h = elim (cell_now old row at true new s m k) [
    | inl e ↦ e.2 ∙ ap (option_map (λ x. true)) h
    | inr e ↦ e ∙ h
  ]

  pub only_set : (m k : ℕ) → IsSet new m k → IsSet old m k ⊎ ((m ≡ row) × (k ≡ at))
  only_set m k h = elim (cell_now old row at true new s m k) [
    | inl e ↦ inr (e.0, e.1)
    | inr e ↦ inl (sym e ∙ h)
  ]

  pub set_there : HasRoom old row at → IsSet new row at
  set_there room = s.here ∙ there_put true (cell old row at) room

-- nothing changes where the flag was set before, or is not there
pub same_cells : (old : Rows Bool) (row at : ℕ) (new : Rows Bool) → Sets old row at new false → (m k : ℕ) → cell new m k ≡ cell old m k
same_cells old row at new s m k = elim (cell_now old row at true new s.puts m k) [
  | inl e ↦ e.2 ∙ was_set (cell old m k) (s.told ∙ (λ i. is_unset (cell old (sym e.0 i) (sym e.1 i))))
  | inr e ↦ e
]

-- ---- a row grows

pub get_push : {X : Type 0} (xs : List X) (x : X) (k : ℕ) (y : X) → slice_get (xs ++ x ∷ []) k ≡ Some y → (slice_get xs k ≡ Some y) ⊎ ((k ≡ length xs) × (y ≡ x))
get_push [] x zero y is = inr (refl, (let f : x ≡ y = cc in sym f))
get_push [] x (suc k) y is = absurd (cc)
get_push (z ∷ xs) x zero y is = inl is
get_push (z ∷ xs) x (suc k) y is = elim (get_push xs x k y is) [ inl e ↦ inl e | inr e ↦ inr (ap suc e.0, e.1) ]
