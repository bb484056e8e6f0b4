-- What converts to i32 or u32 where it is returned is what the constructor makes of it.
use Rattle.std.proofs.Common.{◌≡◌, Option, Some, None, Bool, true, false, Result, Ok, Err, refl, sym, ap, ◌∙◌, subst}
use Rattle.std.specs.Prelude.{is_some, if◌then◌else◌}
use Rattle.wgsl_shader_type.specs.declared.error.Error.{Error}
use Rattle.wgsl_shader_type.specs.declared.literal.LiteralInstance.{LiteralInstance}
use Rattle.wgsl_shader_type.specs.declared.literal.LiteralInstance.TheVariants as scalar
use Rattle.wgsl_shader_type.specs.declared.tree.ShaderType.{ShaderType, out-ShaderType}
use Rattle.wgsl_shader_type.specs.declared.tree.ShaderType.TheVariants as type
use Rattle.wgsl_shader_type.specs.declared.tree.ShaderType.TheOpen.{ShaderType-F}
use Rattle.wgsl_shader_type.specs.Alike.{same}
use Rattle.wgsl_shader_type.specs.Rank.{rank_of, rank_layer, converts}
use Rattle.wgsl_shader_type.proofs.Ranks.{rank_out}
use Rattle.wgsl_scalar.specs.declared.scalar.ScalarType.TheVariants.{Integer}
use Rattle.wgsl_scalar.specs.declared.scalar.IntegerType.{IntegerType}
use Rattle.wgsl_scalar.specs.declared.scalar.IntegerType.TheVariants.{AbstractInt, I32, U32}
use Rattle.wgsl_scalar.specs.Scalars as scalars
use Rattle.wgsl_scalar.specs.Scalars.{scalar_type}
use Rattle.wgsl_scalar.specs.Conversions as conversions
use Rattle.wgsl_scalar.specs.OperatorTypes as scalar_types
use Rattle.wgsl_instance.specs.declared.tree.Instance.{Instance, roll-Instance, out-Instance, roll-out-Instance}
use Rattle.wgsl_instance.specs.declared.tree.Instance.TheVariants as v
use Rattle.wgsl_instance.specs.declared.tree.Instance.TheOpen.{Instance-F}
use Rattle.wgsl_instance.specs.Typed.{type_of, type_layer}
use Rattle.wgsl_instance.specs.Converted.{converted}
use Rattle.wgsl_instance_operators.specs.Operators.{as_literal}
use Rattle.wgsl_instance_operators.specs.Built.{built_scalar}
use Rattle.core_computations.specs.Machine.{pure, fail, bind}
use Rattle.core_computations.specs.Lift.{Same}
use Rattle.core_computations.specs.Compare.{Better}
use Rattle.core_computations.proofs.Kept.{kept_better}
use Rattle.core_programs.specs.Faults.{Fault, OfName, ReturnType}
use Rattle.core_programs.specs.Computing.{M, computed, is_deferred_layer, is_deferred, used}
use Rattle.core_programs.specs.Names.{Name}
use Rattle.core_programs.specs.Calls.{handed_back}
use Rattle.core_programs.proofs.Scalars.{used_literal, type_of_literal, converts_of_scalars, IsInRange, converted_scalar, built_of_scalar}

-- i32 or u32
abbrev pub IsConcrete : IntegerType → Type 0
IsConcrete AbstractInt = ⊥
IsConcrete I32 = Unit {0}
IsConcrete U32 = Unit {0}

-- ---- what converts to them

-- of the other types none does
no_rank : (a b : ShaderType) (x y : ShaderType-F ShaderType) → out-ShaderType a ≡ x → out-ShaderType b ≡ y → rank_layer same rank_of x y ≡ None → converts a b ≡ true → ⊥
no_rank a b x y e f none h = let wrong : false ≡ true = sym (ap is_some (rank_out a b ∙ (λ k. rank_layer same rank_of (e k) (f k)) ∙ none)) ∙ h in cc

never : (t : IntegerType) → IsConcrete t → (a : ShaderType) (x : ShaderType-F ShaderType) → out-ShaderType a ≡ x → rank_layer same rank_of x ShaderType-F.I32 ≡ None → rank_layer same rank_of x ShaderType-F.U32 ≡ None
    → converts a (scalar_type (Integer t)) ≡ true → ⊥
never AbstractInt c a x e m n h = absurd c
never I32 c a x e m n h = no_rank a type.I32 x ShaderType-F.I32 e type.outs-I32 m h
never U32 c a x e m n h = no_rank a type.U32 x ShaderType-F.U32 e type.outs-U32 n h

abbrev IsScalar : Instance → Type 0
IsScalar x = (l : LiteralInstance) × (x ≡ v.Literal l)

scalar_value : (t : IntegerType) → IsConcrete t → (x : Instance) → is_deferred x ≡ false → converts (type_of x) (scalar_type (Integer t)) ≡ true → IsScalar x
scalar_value t c x known h = at (out-Instance x) refl known h
  where
    at : (y : Instance-F Instance) → out-Instance x ≡ y → is_deferred_layer y ≡ false → converts (type_layer y) (scalar_type (Integer t)) ≡ true → IsScalar x
    at (Instance-F.Literal l) e d g = (l, sym (roll-out-Instance x) ∙ ap roll-Instance e ∙ v.rolls-Literal l)
    at (Instance-F.Struct s) e d g = absurd (never t c (type.Struct s.ty) _ (type.outs-Struct s.ty) refl refl g)
    at (Instance-F.Array a) e d g = absurd (never t c _ _ (type.outs-Array a.element _) refl refl g)
    at (Instance-F.Vec w) e d g = absurd (never t c _ _ (type.outs-Vec _ _) refl refl g)
    at (Instance-F.Ptr p) e d g = absurd (never t c _ _ (type.outs-Ptr p.reference.space p.reference.ty p.reference.access) refl refl g)
    at (Instance-F.Ref r) e d g = absurd (never t c _ _ (type.outs-Ref r.space r.ty r.access) refl refl g)
    at (Instance-F.Deferred u) e d g = absurd (cc)

-- ---- scalars

record Makes (t : IntegerType) (l y : LiteralInstance) : Type 0 where
  made : conversions.constructed (Integer t) l ≡ Ok y
  typed : scalars.type_of y ≡ Integer t

from_abstract : (t : IntegerType) → IsConcrete t → (b : Bool) (w y : LiteralInstance) (e : Error) → scalars.type_of w ≡ Integer t → (if b then Ok w else Err e) ≡ Ok y → scalars.type_of y ≡ Integer t
from_abstract t c true w y e has h = let is : w ≡ y = cc in ap scalars.type_of (sym is) ∙ has
from_abstract t c false w y e has h = absurd (cc)

makes : (t : IntegerType) → IsConcrete t → (l y : LiteralInstance) → conversions.converted (Integer t) l ≡ Ok y → Makes t l y
makes AbstractInt c l y h = absurd c
makes I32 c (scalar.Bool b) y h = absurd (cc)
makes I32 c (scalar.AbstractInt z) y h = record { made = h; typed = from_abstract I32 c (scalars.fits I32 z) (scalar.I32 z) y _ refl h }
makes I32 c (scalar.I32 z) y h = let is : scalar.I32 z ≡ y = cc in record { made = h; typed = ap scalars.type_of (sym is) }
makes I32 c (scalar.U32 n) y h = absurd (cc)
makes U32 c (scalar.Bool b) y h = absurd (cc)
makes U32 c (scalar.AbstractInt z) y h = record { made = h; typed = from_abstract U32 c (scalars.fits U32 z) (scalars.value_at U32 z) y _ refl h }
makes U32 c (scalar.I32 z) y h = absurd (cc)
makes U32 c (scalar.U32 n) y h = let is : scalar.U32 n ≡ y = cc in record { made = h; typed = ap scalars.type_of (sym is) }

converts_itself : (t : IntegerType) → scalar_types.converts (Integer t) (Integer t) ≡ true
converts_itself AbstractInt = refl
converts_itself I32 = refl
converts_itself U32 = refl

own_value : (t : IntegerType) → IsConcrete t → (y : LiteralInstance) → scalars.type_of y ≡ Integer t → converted (v.Literal y) (scalar_type (Integer t)) ≡ Ok (v.Literal y)
own_value AbstractInt c y h = absurd c
own_value I32 c (scalar.I32 z) h = converted_scalar (scalar.I32 z) (Integer I32) tt
own_value U32 c (scalar.U32 n) h = converted_scalar (scalar.U32 n) (Integer U32) tt
own_value t c y h = absurd (cc)

module _ (f : Name) (t : IntegerType) (concrete : IsConcrete t) where
  abbrev pub T : ShaderType
  T = scalar_type (Integer t)

  abbrev pub given : Bool → ShaderType → Result Instance Error → M (Option Instance)
  given b u r = if b then bind (computed r) (λ y. pure (Some y)) else fail (OfName (ReturnType u T) f)

  -- a value of the function's type is handed back as it is
  pub own : (y : LiteralInstance) → scalars.type_of y ≡ Integer t → handed_back f (Some T) (Some (v.Literal y)) ≡ pure (Some (v.Literal y))
  own y h = (λ k. given (is k) (type_of (v.Literal y)) (own_value t concrete y h k))
    where
      is : converts (type_of (v.Literal y)) T ≡ true
      is = ap (λ u. converts u T) (type_of_literal y ∙ ap scalar_type h) ∙ converts_of_scalars (Integer t) (Integer t) ∙ converts_itself t

  abbrev pub constructed_first : Result Instance Error → M (Option Instance)
  constructed_first r = bind (bind (computed r) used) (λ y. handed_back f (Some T) (Some y))

  there : (l : LiteralInstance) (y : LiteralInstance) → conversions.converted (Integer t) l ≡ Ok y → constructed_first (built_scalar T (v.Literal l)) ≡ pure (Some (v.Literal y))
  there l y h =
      let m = makes t concrete l y h in
      ap constructed_first (built_of_scalar l (Integer t) ∙ ap as_literal m.made)
      ∙ ap (λ n. bind n (λ z. handed_back f (Some T) (Some z))) (used_literal y)
      ∙ own y m.typed

  abbrev pub BetterHere : M (Option Instance) → M (Option Instance) → Type 0
  BetterHere m n = Better Fault (Option Instance) (Option Instance) Same m n

  returned_at : (b : Bool) (u : ShaderType) (l : LiteralInstance) (r : Result LiteralInstance Error) → conversions.converted (Integer t) l ≡ r → BetterHere (given b u (as_literal r)) (constructed_first (built_scalar T (v.Literal l)))
  returned_at true u l (Ok y) e = subst (λ n. BetterHere (pure (Some (v.Literal y))) n) (sym (there l y e)) ((kept_better Fault Same).kept.pure_of (Option Instance) (Option Instance) Same (Some (v.Literal y)) (Some (v.Literal y)) refl)
  returned_at true u l (Err g) e = record { from = λ s q begin. tt }
  returned_at false u l r e = record { from = λ s q begin. tt }

  returned_scalar : (l : LiteralInstance) → BetterHere (handed_back f (Some T) (Some (v.Literal l))) (constructed_first (built_scalar T (v.Literal l)))
  returned_scalar l =
      subst (λ r. BetterHere (given (converts (type_of (v.Literal l)) T) (type_of (v.Literal l)) r) (constructed_first (built_scalar T (v.Literal l)))) (sym (converted_scalar l (Integer t) (in_range t concrete l)))
      (returned_at (converts (type_of (v.Literal l)) T) (type_of (v.Literal l)) l (conversions.converted (Integer t) l) refl)
    where
      in_range : (t : IntegerType) → IsConcrete t → (l : LiteralInstance) → IsInRange (Integer t) l
      in_range AbstractInt c l = absurd c
      in_range I32 c l = tt
      in_range U32 c l = tt

  pub better_returned : (x : Instance) → is_deferred x ≡ false → BetterHere (handed_back f (Some T) (Some x)) (constructed_first (built_scalar T x))
  better_returned x known = at (converts (type_of x) T) refl
    where
      at : (b : Bool) → converts (type_of x) T ≡ b → BetterHere (handed_back f (Some T) (Some x)) (constructed_first (built_scalar T x))
      at true is = let l = scalar_value t concrete x known is in subst (λ z. BetterHere (handed_back f (Some T) (Some z)) (constructed_first (built_scalar T z))) (sym l.1) (returned_scalar l.0)
      at false is = subst (λ b. BetterHere (given b (type_of x) (converted x T)) (constructed_first (built_scalar T x))) (sym is) (record { from = λ s q begin. tt })
