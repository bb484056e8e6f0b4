-- A unit is compiled or refused in one way: each refusal says that the steps before it went well, and each step is determined.
use Rattle.std.proofs.Common.{◌≡◌, ◌⊎◌, inl, inr, ℕ, ◌<◌, List, [], Some, None, Ok, Err, refl, sym, ap, ◌∙◌, subst}
use Rattle.std.specs.Prelude.{slice_get}
use Rattle.std.proofs.lemmas.Bool.{cases_order}
use Rattle.core_syntax.specs.Tree.{UnitTree as Module}
use Rattle.core_syntax.specs.Print.{unit_text}
use Rattle.wgsl_words.specs.Names.{Name}
use Rattle.wgsl_words.specs.Builtin.{builtin_names}
use Rattle.core_validate.specs.declared.error.ValidateError.TheVariants.{Cycle}
use Rattle.core_validate.specs.declared.error.ValidateFault.{ValidateFault}
use Rattle.core_validate.specs.declared.place.Row.{Row}
use Rattle.core_validate.specs.First.{first}
use Rattle.core_validate.specs.Rings.{IsFirstOnRing}
use Rattle.core_lower.specs.DeclarationFault.{DeclarationFault}
use Rattle.core_lower.specs.Lowered.{Lowers}
use Rattle.core_lower.proofs.Once.{lowered_once}
use Rattle.core_validate.specs.Faults.{fault, IsFaultless, IsFirstFault, duplicate, undefined, miscall, ring}
use Rattle.core_unit.specs.declared.error.UnitRefusal.TheVariants.{Validate, UnclearName, Eval, Unprintable, GaveUp, OutOfMemory}
use Rattle.core_texts.specs.Texts.{IsTextOf, IsUnprintable}
use Rattle.core_texts.proofs.Whole.{units_are_told_once}
use Rattle.core_unit.specs.Compiled.{IsLowered, IsCompiled}
use Rattle.core_unit.specs.Once.{CompiledOnce, RefusedOnce, CompiledOrRefused}

-- ---- the first of a list

none : {A : Type 0} (xs : List A) (x : A) → xs ≡ [] → first xs ≡ Some x → ⊥
none xs x e h = let same : first xs ≡ None = ap first e in cc

same_first : {A : Type 0} (xs : List A) (x y : A) → first xs ≡ Some x → first xs ≡ Some y → x ≡ y
same_first xs x y h k = cc

-- ---- faults

module _ (rows : List Row) where
  same_ring : (i j : ℕ) → IsFirstOnRing rows i → IsFirstOnRing rows j → i ≡ j
  same_ring i j a b = at (cases_order i j)
    where
      at : (i ≡ j) ⊎ ((i < j) ⊎ (j < i)) → i ≡ j
      at (inl e) = e
      at (inr (inl l)) = absurd (b.before i l a.ring)
      at (inr (inr l)) = absurd (a.before j l b.ring)

  same_row : (i j : ℕ) (r q : Row) → i ≡ j → slice_get rows i ≡ Some r → slice_get rows j ≡ Some q → r ≡ q
  same_row i j r q e h k = cc

module _ (unit : Module) (table : List Name) where
  -- a unit without fault has no first fault
  pub faultless_or_faulty : (f : ValidateFault) → IsFaultless unit table → IsFirstFault unit table f → ⊥
  faultless_or_faulty _ n (duplicate f h) = none _ f n.flat.distinct h
  faultless_or_faulty _ n (undefined f d h) = none _ f n.flat.defined h
  faultless_or_faulty _ n (miscall f d u h) = none _ f n.flat.called h
  faultless_or_faulty _ n (ring i r flat h k) = n.ringless i k.ring

  -- a unit has one first fault
  pub faulty_once : (f g : ValidateFault) → IsFirstFault unit table f → IsFirstFault unit table g → f ≡ g
  faulty_once _ _ (duplicate f h) (duplicate g k) = same_first _ f g h k
  faulty_once _ _ (duplicate f h) (undefined g d k) = absurd (none _ f d h)
  faulty_once _ _ (duplicate f h) (miscall g d u k) = absurd (none _ f d h)
  faulty_once _ _ (duplicate f h) (ring j q flat l k) = absurd (none _ f flat.distinct h)
  faulty_once _ _ (undefined f d h) (duplicate g k) = absurd (none _ g d k)
  faulty_once _ _ (undefined f d h) (undefined g e k) = same_first _ f g h k
  faulty_once _ _ (undefined f d h) (miscall g e u k) = absurd (none _ f u h)
  faulty_once _ _ (undefined f d h) (ring j q flat l k) = absurd (none _ f flat.defined h)
  faulty_once _ _ (miscall f d u h) (duplicate g k) = absurd (none _ g d k)
  faulty_once _ _ (miscall f d u h) (undefined g e k) = absurd (none _ g u k)
  faulty_once _ _ (miscall f d u h) (miscall g e v k) = same_first _ f g h k
  faulty_once _ _ (miscall f d u h) (ring j q flat l k) = absurd (none _ f flat.called h)
  faulty_once _ _ (ring i r flat s a) (duplicate g k) = absurd (none _ g flat.distinct k)
  faulty_once _ _ (ring i r flat s a) (undefined g d k) = absurd (none _ g flat.defined k)
  faulty_once _ _ (ring i r flat s a) (miscall g d u k) = absurd (none _ g flat.called k)
  faulty_once _ _ (ring i r flat s a) (ring j q level l b) =
      ap (λ w. fault Cycle w.name w.name) (same_row _ i j r q (same_ring _ i j a b) s l)

-- ---- what a unit is lowered to

same_low : (steps : ℕ) (unit low other : Module) → IsLowered steps unit low → IsLowered steps unit other → low ≡ other
same_low steps unit low other a b = let is : Ok low ≡ Ok other = lowered_once steps unit (Ok low) (Ok other) a.lowered b.lowered in cc

-- it is not refused then
not_refused : (steps : ℕ) (unit low : Module) (r : DeclarationFault) → IsLowered steps unit low → Lowers steps unit (Err r) → ⊥
not_refused steps unit low r a h = let is : Ok low ≡ Err r = lowered_once steps unit (Ok low) (Err r) a.lowered h in cc

-- ---- the laws

pub compiled_once : CompiledOnce
compiled_once steps unit one other a b = a.whole ∙ ap unit_text (same_low steps unit a.low b.low a.lowered b.lowered) ∙ sym b.whole

pub refused_once : RefusedOnce
refused_once steps unit (Validate f) (Validate g) a b = faulty_once unit builtin_names f g a b
refused_once steps unit (Validate f) (UnclearName y) a b = absurd (faultless_or_faulty unit builtin_names f b.0 a)
refused_once steps unit (Validate f) (Eval q) a b = absurd (faultless_or_faulty unit builtin_names f b.0 a)
refused_once steps unit (Validate f) (Unprintable y) a b = absurd (faultless_or_faulty unit builtin_names f b.1.valid a)
refused_once steps unit (Validate f) OutOfMemory a b = tt
refused_once steps unit (Validate f) (GaveUp h) a b = tt
refused_once steps unit (UnclearName x) (Validate g) a b = absurd (faultless_or_faulty unit builtin_names g a.0 b)
refused_once steps unit (UnclearName x) (UnclearName y) a b = same_first _ x y a.1 b.1
refused_once steps unit (UnclearName x) (Eval q) a b = absurd (none _ x b.1 a.1)
refused_once steps unit (UnclearName x) (Unprintable y) a b = absurd (none _ x b.1.clear a.1)
refused_once steps unit (UnclearName x) OutOfMemory a b = tt
refused_once steps unit (UnclearName x) (GaveUp h) a b = tt
refused_once steps unit (Eval r) (Validate g) a b = absurd (faultless_or_faulty unit builtin_names g a.0 b)
refused_once steps unit (Eval r) (UnclearName y) a b = absurd (none _ y a.1 b.1)
refused_once steps unit (Eval r) (Eval q) a b = let is : Err r ≡ Err q = lowered_once steps unit (Err r) (Err q) a.2 b.2 in cc
refused_once steps unit (Eval r) (Unprintable y) a b = absurd (not_refused steps unit b.0 r b.1 a.2)
refused_once steps unit (Eval r) OutOfMemory a b = tt
refused_once steps unit (Eval r) (GaveUp h) a b = tt
refused_once steps unit (Unprintable x) (Validate g) a b = absurd (faultless_or_faulty unit builtin_names g a.1.valid b)
refused_once steps unit (Unprintable x) (UnclearName y) a b = absurd (none _ y a.1.clear b.1)
refused_once steps unit (Unprintable x) (Eval q) a b = absurd (not_refused steps unit a.0 q a.1 b.2)
refused_once steps unit (Unprintable x) (Unprintable y) a b =
    units_are_told_once a.0 x y a.2 (subst (λ low. IsUnprintable low y) (same_low steps unit b.0 a.0 b.1 a.1) b.2)
refused_once steps unit (Unprintable x) OutOfMemory a b = tt
refused_once steps unit (Unprintable x) (GaveUp h) a b = tt
refused_once steps unit OutOfMemory q a b = tt
refused_once steps unit (GaveUp g) q a b = tt

pub compiled_or_refused : CompiledOrRefused
compiled_or_refused steps unit text (Validate f) a b = absurd (faultless_or_faulty unit builtin_names f a.lowered.valid b)
compiled_or_refused steps unit text (UnclearName x) a b = absurd (none _ x a.lowered.clear b.1)
compiled_or_refused steps unit text (Eval r) a b = absurd (not_refused steps unit a.low r a.lowered b.2)
compiled_or_refused steps unit text (Unprintable x) a b =
    absurd (b.2.no_text (text, subst (λ l. IsTextOf l text) (same_low steps unit a.low b.0 a.lowered b.1) a.reads))
compiled_or_refused steps unit text (GaveUp r) a b = tt
compiled_or_refused steps unit text OutOfMemory a b = tt
