-- The types of zero values and of converted values.
use Rattle.std.proofs.Common.{◌≡◌, refl, sym, ap, ◌∙◌, subst, ℕ, zero, suc, ◌≤◌, ◌==◌, Bool, true, false, cond, ◌&&◌, List, [], ◌∷◌, length, replicate, map, Option, Some, None, Result, Ok, Err, true≢false, eqb-true, arith, All}
use Rattle.std.specs.Prelude.{min, nat_le, ℤ, pos}
use Rattle.std.specs.Option.{is_some, option_eq}
use Rattle.std.specs.Result.{is_ok}
use Rattle.std.specs.Cmp.{first_so, second_so}
use Rattle.std.proofs.lemmas.List.{length-replicate}
use Rattle.std.proofs.lemmas.List.Elements.{All-replicate}
use Rattle.wgsl_shader_type.specs.declared.error.Error.{Error}
use Rattle.wgsl_shader_type.specs.declared.error.Error.TheVariants.{NotConstructible}
use Rattle.wgsl_shader_type.specs.declared.literal.LiteralInstance.{LiteralInstance}
use Rattle.wgsl_shader_type.specs.declared.literal.LiteralInstance.TheVariants as l
use Rattle.wgsl_shader_type.specs.declared.tree.StructMemberTypeOf.{StructMemberTypeOf}
use Rattle.wgsl_shader_type.specs.declared.tree.StructTypeOf.{StructTypeOf}
use Rattle.wgsl_shader_type.specs.declared.tree.ShaderType.{ShaderType, roll-ShaderType, out-ShaderType, roll-out-ShaderType}
use Rattle.wgsl_shader_type.specs.declared.tree.ShaderType.TheVariants as type
use Rattle.wgsl_shader_type.specs.declared.tree.ShaderType.TheOpen.{ShaderType-F}
use Rattle.wgsl_shader_type.specs.Literal.{zero_of, zero_layer, zero_fault}
use Rattle.wgsl_shader_type.specs.Trees.{AllMembers, Cases, induction}
use Rattle.wgsl_scalar.specs.Scalars as scalars
use Rattle.wgsl_instance.specs.declared.tree.StructInstanceOf.{StructInstanceOf}
use Rattle.wgsl_instance.specs.declared.tree.ArrayInstanceOf.{ArrayInstanceOf}
use Rattle.wgsl_instance.specs.declared.tree.VecInstance.{VecInstance}
use Rattle.wgsl_instance.specs.declared.tree.Instance.{Instance, out-Instance}
use Rattle.wgsl_instance.specs.declared.tree.Instance.TheVariants as v
use Rattle.wgsl_instance.specs.Answer.{then_with, collected}
use Rattle.wgsl_instance.specs.Typed.{literal_type, type_of, type_layer, component_count, element_count, vector_type, array_type, IsVector, IsWellFormed, AreMembers, AreElements, HasType}
use Rattle.wgsl_instance.specs.Zero.{Made, zero_value, zero_member, zero_scalar, zero_literal, zero_vector, zero_array, or_fault, struct_of, splat, filled_array, is_vector_size}
use Rattle.wgsl_instance.proofs.Zeros.{zero_of_struct, zero_of_array, zero_of_vector, zero_of_pointer, zero_of_reference, zero_of_bool, zero_of_abstract_int, zero_of_abstract_float, zero_of_i32, zero_of_u32, zero_of_f32, zero_of_f16}
use Rattle.wgsl_instance.specs.Laws.{ZeroHasType}

-- ---- plain facts

abbrev pub IsOkOf : {A : Type 0} → Result A Error → A → Type 0
IsOkOf r x = r ≡ Ok x

pub same_ok : {A : Type 0} (x y : A) → IsOkOf (Ok x) y → x ≡ y
same_ok x y h = cc

pub not_ok : {A G : Type 0} (e : Error) (y : A) → IsOkOf (Err e) y → G
not_ok e y h = absurd (true≢false (sym (ap is_ok h)))

pub nothing : {A G : Type 0} (x : A) → None ≡ Some x → G
nothing x h = absurd (true≢false (sym (ap is_some h)))

pub inside : {A : Type 0} (x y : A) → Some x ≡ Some y → x ≡ y
inside x y h = cc

-- what a step that gives a value was
pub record Then {A B : Type 0} (r : Result A Error) (f : A → Result B Error) (y : B) : Type 0 where
  pub value : A
  pub was : r ≡ Ok value
  pub gives : f value ≡ Ok y

pub then_of : {A B : Type 0} (r : Result A Error) (f : A → Result B Error) (y : B) → then_with r f ≡ Ok y → Then r f y
then_of (Ok x) f y h = record { value = x; was = refl; gives = h }
then_of (Err e) f y h = not_ok e y h

-- ---- types of values by variant

pub literal_typed : (x : LiteralInstance) → type_of (v.Literal x) ≡ literal_type x
literal_typed x = ap type_layer (v.outs-Literal x)

-- ---- zero values

zero_literal_typed : (t : ShaderType) (x : LiteralInstance) → zero_of t ≡ Some x → literal_type x ≡ t
zero_literal_typed t x h = by_layer (out-ShaderType t) h ∙ roll-out-ShaderType t
  where
    at : (y : LiteralInstance) (z : ShaderType-F ShaderType) → literal_type y ≡ roll-ShaderType z → Some y ≡ Some x → literal_type x ≡ roll-ShaderType z
    at y z e h = ap literal_type (sym (inside y x h)) ∙ e

    by_layer : (z : ShaderType-F ShaderType) → zero_layer z ≡ Some x → literal_type x ≡ roll-ShaderType z
    by_layer ShaderType-F.Bool h = at (l.Bool false) ShaderType-F.Bool (sym type.rolls-Bool) h
    by_layer ShaderType-F.AbstractInt h = at (l.AbstractInt (pos 0)) ShaderType-F.AbstractInt (sym type.rolls-AbstractInt) h
    by_layer ShaderType-F.I32 h = at (l.I32 (pos 0)) ShaderType-F.I32 (sym type.rolls-I32) h
    by_layer ShaderType-F.U32 h = at (l.U32 0) ShaderType-F.U32 (sym type.rolls-U32) h
    by_layer z h = nothing x h

zero_literal_is : (t : ShaderType) (x : LiteralInstance) → zero_literal t ≡ Ok x → zero_of t ≡ Some x
zero_literal_is t x h = by_option (zero_of t) h
  where
    by_option : (o : Option LiteralInstance) → or_fault t o ≡ Ok x → o ≡ Some x
    by_option (Some y) h = ap Some (same_ok y x h)
    by_option None h = not_ok (zero_fault t) x h

scalar_zero : (t : ShaderType) (x : Instance) → zero_scalar t ≡ Ok x → HasType x t
scalar_zero t x h =
    let s = then_of (zero_literal t) (λ z. Ok (v.Literal z)) x h in
    let e = zero_literal_typed t s.value (zero_literal_is t s.value s.was) in
    subst (λ y. HasType y t) (same_ok (v.Literal s.value) x s.gives) (record { formed = IsWellFormed.literal s.value; typed = literal_typed s.value ∙ e })

filled : (t : ShaderType) (x : Instance) → IsWellFormed x → type_of x ≡ t → (n : ℕ) → AreElements t (replicate n x)
filled t x formed typed zero = AreElements.no_elements
filled t x formed typed (suc n) = AreElements.element formed typed (filled t x formed typed n)

abbrev P : ShaderType → Type 0
P t = (x : Instance) → zero_value t ≡ Ok x → HasType x t

array_zero : (t : ShaderType) (n : Option ℕ) → P t → P (type.Array t n)
array_zero t None one x h = not_ok (NotConstructible (type.Array t None)) x (sym (zero_of_array t None) ∙ h)
array_zero t (Some n) value x h =
    let s = then_of (zero_value t) (λ z. Ok (filled_array t n z)) x (sym (zero_of_array t (Some n)) ∙ h) in
    let one = value s.value s.was in
    let a : ArrayInstanceOf Instance = record { element = t; components = replicate n s.value; runtime_sized = false } in
    subst (λ y. HasType y (type.Array t (Some n))) (same_ok (v.Array a) x s.gives) (record {
      formed = IsWellFormed.array a (filled t s.value one.formed one.typed n);
      typed = ap type_layer (v.outs-Array a) ∙ ap (λ k. type.Array t (Some k)) (length-replicate n s.value);
    })

members_zero : (ms : List (StructMemberTypeOf ShaderType)) (xs : List Instance) → AllMembers P ms → collected zero_member ms ≡ Ok xs → AreMembers ms xs
members_zero [] xs all h = subst (AreMembers []) (same_ok [] xs h) AreMembers.no_members
members_zero (m ∷ ms) xs all h =
    let s = then_of (zero_member m) (λ y. then_with (collected zero_member ms) (λ ys. Ok (y ∷ ys))) xs h in
    let r = then_of (collected zero_member ms) (λ ys. Ok (s.value ∷ ys)) xs s.gives in
    let one = all.0 s.value s.was in
    subst (AreMembers (m ∷ ms)) (same_ok (s.value ∷ r.value) xs r.gives) (AreMembers.member one.formed one.typed (members_zero ms r.value all.1 r.was))

struct_zero : (s : StructTypeOf ShaderType) → AllMembers P s.members → P (type.Struct s)
struct_zero s all x h =
    let r = then_of (collected zero_member s.members) (struct_of s) x (sym (zero_of_struct s) ∙ h) in
    let w : StructInstanceOf Instance = record { ty = s; members = r.value } in
    subst (λ y. HasType y (type.Struct s)) (same_ok (v.Struct w) x r.gives) (record {
      formed = IsWellFormed.struct w (members_zero s.members r.value all r.was);
      typed = ap type_layer (v.outs-Struct w);
    })

-- a vector's size, from its test
sizes : (n : ℕ) → is_vector_size n ≡ true → (2 ≤ n) × (n ≤ 4) × (min n 255 ≡ n)
sizes n h = (grind arith, grind arith, grind arith)

vector_zero : (n : ℕ) (t : ShaderType) → P (type.Vec n t)
vector_zero n t x h = by_size (is_vector_size n) refl (sym (zero_of_vector n t) ∙ h)
  where
    made : is_vector_size n ≡ true → (z : LiteralInstance) → zero_literal t ≡ Ok z → HasType (splat n z) (type.Vec n t)
    made size z was =
        let k = length-replicate n z in
        let s = sizes n size in
        let w : VecInstance = record { ty = scalars.type_of z; components = replicate n z } in
        record {
          formed = IsWellFormed.vector w (record {
            two = subst (λ m. 2 ≤ m) (sym k) s.0;
            four = subst (λ m. m ≤ 4) (sym k) s.1;
            alike = All-replicate (λ y. scalars.type_of y ≡ scalars.type_of z) n z refl;
          });
          typed = ap type_layer (v.outs-Vec w) ∙ (λ i. type.Vec ((ap (λ m. min m 255) k ∙ s.2) i) (zero_literal_typed t z (zero_literal_is t z was) i));
        }

    by_size : (b : Bool) → is_vector_size n ≡ b → cond b (then_with (zero_literal t) (λ z. Ok (splat n z))) (Err (NotConstructible (type.Vec n t))) ≡ Ok x → HasType x (type.Vec n t)
    by_size true size h =
        let s = then_of (zero_literal t) (λ z. Ok (splat n z)) x h in
        subst (λ y. HasType y (type.Vec n t)) (same_ok (splat n s.value) x s.gives) (made size s.value s.was)
    by_size false size h = not_ok (NotConstructible (type.Vec n t)) x h

zero_cases : Cases P
zero_cases = record {
  boolean = λ x h. scalar_zero type.Bool x (sym zero_of_bool ∙ h);
  abstract_int = λ x h. scalar_zero type.AbstractInt x (sym zero_of_abstract_int ∙ h);
  abstract_float = λ x h. scalar_zero type.AbstractFloat x (sym zero_of_abstract_float ∙ h);
  i32 = λ x h. scalar_zero type.I32 x (sym zero_of_i32 ∙ h);
  u32 = λ x h. scalar_zero type.U32 x (sym zero_of_u32 ∙ h);
  f32 = λ x h. scalar_zero type.F32 x (sym zero_of_f32 ∙ h);
  f16 = λ x h. scalar_zero type.F16 x (sym zero_of_f16 ∙ h);
  struct = struct_zero;
  array = array_zero;
  vector = λ n t _. vector_zero n t;
  pointer = λ s t a _ x h. not_ok (NotConstructible (type.Ptr s t a)) x (sym (zero_of_pointer s t a) ∙ h);
  reference = λ s t a _ x h. not_ok (NotConstructible (type.Ref s t a)) x (sym (zero_of_reference s t a) ∙ h);
}

pub zero_has_type : ZeroHasType
zero_has_type = induction P zero_cases
