-- The test of equality decides it.
use Rattle.std.proofs.Common.{◌≡◌, refl, sym, ap, ◌∙◌, subst, ℕ, ◌==◌, Bool, true, false, ◌&&◌, List, [], ◌∷◌, map, true≢false}
use Rattle.std.specs.Bool.{beq, Decides}
use Rattle.std.specs.Cmp.{first_so, second_so, both_ways, IsEquivalence, unsigned_Decides}
use Rattle.std.specs.Cmp.Lexicographic.{pointwise}
use Rattle.std.proofs.lemmas.Slice.Eq.{slice_eq-Decides}
use Rattle.std.proofs.lemmas.Bool.Decides.{Decides-int_eq}
use denote.Enum.Bare.{same_true, true_same}
use Rattle.wgsl_words.specs.contracts.enumerations.address.AddressSpace.{the_type as space_type}
use Rattle.wgsl_words.specs.contracts.enumerations.address.AccessMode.{the_type as access_type}
use Rattle.wgsl_words.specs.contracts.enumerations.address.AddressSpacePartialEq.TheImpl as space
use Rattle.wgsl_words.specs.contracts.enumerations.address.AccessModePartialEq.TheImpl as access
use Rattle.wgsl_words.specs.declared.enumerations.address.AddressSpace.{AddressSpace}
use Rattle.wgsl_words.specs.declared.enumerations.address.AccessMode.{AccessMode}
use Rattle.wgsl_shader_type.specs.declared.tree.StructTypeOf.{StructTypeOf}
use Rattle.wgsl_shader_type.specs.declared.tree.ShaderType.{ShaderType, out-ShaderType}
use Rattle.wgsl_shader_type.specs.declared.tree.ShaderType.TheVariants as type
use Rattle.wgsl_shader_type.specs.declared.tree.ShaderType.TheOpen.{ShaderType-F}
use Rattle.wgsl_shader_type.specs.Alike as types
use Rattle.wgsl_shader_type.specs.Equality as types_equal
use Rattle.wgsl_shader_type.specs.declared.literal.LiteralInstance.{LiteralInstance}
use Rattle.wgsl_shader_type.specs.declared.literal.LiteralInstance.TheVariants as l
use Rattle.wgsl_shader_type.specs.contracts.literal.LiteralInstancePartialEq.TheImpl as literal
use Rattle.wgsl_scalar.specs.declared.scalar.ScalarType.{ScalarType}
use Rattle.wgsl_scalar.specs.declared.scalar.ScalarType.TheVariants as t
use Rattle.wgsl_scalar.specs.declared.scalar.IntegerType.{IntegerType}
use Rattle.wgsl_scalar.specs.declared.scalar.IntegerType.TheVariants as i
use Rattle.wgsl_scalar.specs.contracts.scalar.ScalarTypePartialEq.TheImpl as scalar
use Rattle.wgsl_instance.specs.contracts.tree.StepPartialEq.TheImpl as step
use Rattle.wgsl_instance.specs.declared.tree.Step.{Step}
use Rattle.wgsl_instance.specs.declared.tree.Step.TheVariants as s
use Rattle.wgsl_instance.specs.declared.tree.StructInstanceOf.{StructInstanceOf}
use Rattle.wgsl_instance.specs.declared.tree.ArrayInstanceOf.{ArrayInstanceOf}
use Rattle.wgsl_instance.specs.declared.tree.VecInstance.{VecInstance}
use Rattle.wgsl_instance.specs.declared.tree.RefInstance.{RefInstance}
use Rattle.wgsl_instance.specs.declared.tree.PtrInstance.{PtrInstance}
use Rattle.wgsl_instance.specs.declared.tree.Instance.{Instance, roll-Instance, out-Instance, out-roll-Instance, roll-out-Instance, map-Instance, fold_out-Instance, ind-Instance}
use Rattle.wgsl_instance.specs.declared.tree.Instance.TheVariants as v
use Rattle.wgsl_instance.specs.declared.tree.Instance.TheOpen.{Instance-F}
use Rattle.wgsl_instance.specs.Alike.{same, same_layer, same_struct, same_array, same_vector, same_reference, same_pointer}

-- ---- tests of what a value holds

no : {A : Type 0} → false ≡ true → A
no h = absurd (true≢false (sym h))

truths_decide : (a b : Bool) → Decides (beq a b) (a ≡ b)
truths_decide true true = ((λ h. refl), (λ e. refl))
truths_decide true false = ((λ h. no h), (λ e. no (sym e)))
truths_decide false true = ((λ h. no h), (λ e. no e))
truths_decide false false = ((λ h. refl), (λ e. refl))

-- a test that is true of equal ones at themselves, and of no others
by_self : {A : Type 0} {E : A → A → Bool} → ((x y : A) → E x y ≡ true → x ≡ y) → ((x : A) → E x x ≡ true) → (x y : A) → Decides (E x y) (x ≡ y)
by_self {A} {E} forth self x y = (forth x y, (λ e. subst (λ z. E x z ≡ true) e (self x)))

step_true : (x y : Step) → step.eq-value.it x y ≡ true → x ≡ y
step_true (s.Member a) (s.Member b) h = ap s.Member ((unsigned_Decides a b).0 h)
step_true (s.Element a) (s.Element b) h = ap s.Element ((unsigned_Decides a b).0 h)
step_true (s.Component a) (s.Component b) h = ap s.Component ((unsigned_Decides a b).0 h)
step_true (s.Member a) (s.Element b) h = no h
step_true (s.Member a) (s.Component b) h = no h
step_true (s.Element a) (s.Member b) h = no h
step_true (s.Element a) (s.Component b) h = no h
step_true (s.Component a) (s.Member b) h = no h
step_true (s.Component a) (s.Element b) h = no h

step_self : (x : Step) → step.eq-value.it x x ≡ true
step_self (s.Member a) = (unsigned_Decides a a).1 refl
step_self (s.Element a) = (unsigned_Decides a a).1 refl
step_self (s.Component a) = (unsigned_Decides a a).1 refl

pub steps_decide : (x y : Step) → Decides (step.eq-value.it x y) (x ≡ y)
steps_decide = by_self step_true step_self

literal_true : (x y : LiteralInstance) → literal.eq-value.it x y ≡ true → x ≡ y
literal_true (l.Bool a) (l.Bool b) h = ap l.Bool ((truths_decide a b).0 h)
literal_true (l.AbstractInt a) (l.AbstractInt b) h = ap l.AbstractInt ((Decides-int_eq a b).0 h)
literal_true (l.I32 a) (l.I32 b) h = ap l.I32 ((Decides-int_eq a b).0 h)
literal_true (l.U32 a) (l.U32 b) h = ap l.U32 ((unsigned_Decides a b).0 h)
literal_true (l.Bool a) (l.AbstractInt b) h = no h
literal_true (l.Bool a) (l.I32 b) h = no h
literal_true (l.Bool a) (l.U32 b) h = no h
literal_true (l.AbstractInt a) (l.Bool b) h = no h
literal_true (l.AbstractInt a) (l.I32 b) h = no h
literal_true (l.AbstractInt a) (l.U32 b) h = no h
literal_true (l.I32 a) (l.Bool b) h = no h
literal_true (l.I32 a) (l.AbstractInt b) h = no h
literal_true (l.I32 a) (l.U32 b) h = no h
literal_true (l.U32 a) (l.Bool b) h = no h
literal_true (l.U32 a) (l.AbstractInt b) h = no h
literal_true (l.U32 a) (l.I32 b) h = no h

literal_self : (x : LiteralInstance) → literal.eq-value.it x x ≡ true
literal_self (l.Bool a) = (truths_decide a a).1 refl
literal_self (l.AbstractInt a) = (Decides-int_eq a a).1 refl
literal_self (l.I32 a) = (Decides-int_eq a a).1 refl
literal_self (l.U32 a) = (unsigned_Decides a a).1 refl

scalar_true : (x y : ScalarType) → scalar.eq-value.it x y ≡ true → x ≡ y
scalar_true t.Bool t.Bool h = refl
scalar_true (t.Integer i.AbstractInt) (t.Integer i.AbstractInt) h = refl
scalar_true (t.Integer i.I32) (t.Integer i.I32) h = refl
scalar_true (t.Integer i.U32) (t.Integer i.U32) h = refl
scalar_true t.Bool (t.Integer b) h = no h
scalar_true (t.Integer a) t.Bool h = no h
scalar_true (t.Integer i.AbstractInt) (t.Integer i.I32) h = no h
scalar_true (t.Integer i.AbstractInt) (t.Integer i.U32) h = no h
scalar_true (t.Integer i.I32) (t.Integer i.AbstractInt) h = no h
scalar_true (t.Integer i.I32) (t.Integer i.U32) h = no h
scalar_true (t.Integer i.U32) (t.Integer i.AbstractInt) h = no h
scalar_true (t.Integer i.U32) (t.Integer i.I32) h = no h

scalar_self : (x : ScalarType) → scalar.eq-value.it x x ≡ true
scalar_self t.Bool = refl
scalar_self (t.Integer i.AbstractInt) = refl
scalar_self (t.Integer i.I32) = refl
scalar_self (t.Integer i.U32) = refl

types_decide : (x y : ShaderType) → Decides (types.same x y) (x ≡ y)
types_decide x y = (types_equal.equal_if_same x y, types_equal.same_if_equal x y)

abbrev struct_or : StructTypeOf ShaderType → ShaderType-F ShaderType → StructTypeOf ShaderType
struct_or d (ShaderType-F.Struct x) = x
struct_or d x = d

pub struct_types_decide : (x y : StructTypeOf ShaderType) → Decides (types.same_struct types.same x y) (x ≡ y)
struct_types_decide x y = (
  (λ h. sym (ap (struct_or x) (type.outs-Struct x))
      ∙ ap (λ z. struct_or x (out-ShaderType z)) (types_equal.equal_if_same (type.Struct x) (type.Struct y) (types_equal.same_of_struct x y ∙ h))
      ∙ ap (struct_or x) (type.outs-Struct y)),
  (λ e. sym (types_equal.same_of_struct x y) ∙ types_equal.same_if_equal (type.Struct x) (type.Struct y) (ap type.Struct e)),
)

paths_decide : (xs ys : List Step) → Decides (pointwise step.eq-value.it xs ys) (xs ≡ ys)
paths_decide xs ys = slice_eq-Decides (by_self step_true step_self) xs ys (pointwise step.eq-value.it xs ys) refl

literals_decide : (xs ys : List LiteralInstance) → Decides (pointwise literal.eq-value.it xs ys) (xs ≡ ys)
literals_decide xs ys = slice_eq-Decides (by_self literal_true literal_self) xs ys (pointwise literal.eq-value.it xs ys) refl

reference_true : (x y : RefInstance) → same_reference x y ≡ true → x ≡ y
reference_true x y h =
    let cell = x.cell == y.cell in
    let path = pointwise step.eq-value.it x.path y.path in
    let ty = types.same x.ty y.ty in
    let sp = space.eq-value.it x.space y.space in
    let ac = access.eq-value.it x.access y.access in
    let to_space = first_so (cell && path && ty && sp) ac h in
    let to_type = first_so (cell && path && ty) sp to_space in
    let to_path = first_so (cell && path) ty to_type in
    λ k. record {
      cell = (unsigned_Decides x.cell y.cell).0 (first_so cell path to_path) k;
      path = (paths_decide x.path y.path).0 (second_so cell path to_path) k;
      ty = (types_decide x.ty y.ty).0 (second_so (cell && path) ty to_type) k;
      space = same_true space_type (search) x.space y.space (second_so (cell && path && ty) sp to_space) k;
      access = same_true access_type (search) x.access y.access (second_so (cell && path && ty && sp) ac h) k;
    }

reference_self : (x : RefInstance) → same_reference x x ≡ true
reference_self x = λ k.
    (unsigned_Decides x.cell x.cell).1 refl k && (paths_decide x.path x.path).1 refl k && (types_decide x.ty x.ty).1 refl k
    && true_same space_type x.space x.space refl k && true_same access_type x.access x.access refl k

vector_true : (x y : VecInstance) → same_vector x y ≡ true → x ≡ y
vector_true x y h =
    let ty = scalar.eq-value.it x.ty y.ty in
    let parts = pointwise literal.eq-value.it x.components y.components in
    λ k. record {
      ty = scalar_true x.ty y.ty (first_so ty parts h) k;
      components = (literals_decide x.components y.components).0 (second_so ty parts h) k;
    }

vector_self : (x : VecInstance) → same_vector x x ≡ true
vector_self x = λ k. scalar_self x.ty k && (literals_decide x.components x.components).1 refl k

-- ---- layers of the tree

-- a test of layers looks through a map
module _ {A B C : Type 0} (E : B → C → Bool) (f : A → B) where
  parts-map : (xs : List A) (ys : List C) → pointwise E (map f xs) ys ≡ pointwise (λ a. E (f a)) xs ys
  parts-map [] [] = refl
  parts-map [] (y ∷ ys) = refl
  parts-map (x ∷ xs) [] = refl
  parts-map (x ∷ xs) (y ∷ ys) = ap (λ b. E (f x) y && b) (parts-map xs ys)

  pub same_layer-map : (x : Instance-F A) (y : Instance-F C) → same_layer E (map-Instance A B f x) y ≡ same_layer (λ a. E (f a)) x y
  same_layer-map (Instance-F.Struct x) (Instance-F.Struct y) = ap (λ b. types.same_struct types.same x.ty y.ty && b) (parts-map x.members y.members)
  same_layer-map (Instance-F.Array x) (Instance-F.Array y) = ap (λ b. beq x.runtime_sized y.runtime_sized && types.same x.element y.element && b) (parts-map x.components y.components)
  same_layer-map x y = refl

pub same_out : (a b : Instance) → same a b ≡ same_layer same (out-Instance a) (out-Instance b)
same_out a b =
    ap (λ f. f b) (fold_out-Instance (Instance → Bool) (λ x t. same_layer (λ test y. test y) x (out-Instance t)) a)
    ∙ same_layer-map (λ (test : Instance → Bool) y. test y) same (out-Instance a) (out-Instance b)

pub same_of_struct : (x y : StructInstanceOf Instance) → same (v.Struct x) (v.Struct y) ≡ same_struct same x y
same_of_struct x y = same_out (v.Struct x) (v.Struct y) ∙ (λ k. same_layer same (v.outs-Struct x k) (v.outs-Struct y k))

pub same_of_array : (x y : ArrayInstanceOf Instance) → same (v.Array x) (v.Array y) ≡ same_array same x y
same_of_array x y = same_out (v.Array x) (v.Array y) ∙ (λ k. same_layer same (v.outs-Array x k) (v.outs-Array y k))

pub ruleset same_parts = (same_of_struct, same_of_array)

-- layers that pass the test are equal, if children that pass it are
module _ {A : Type 0} (E : A → Instance → Bool) (f : A → Instance) (child : (x : A) (y : Instance) → E x y ≡ true → f x ≡ y) where
  parts_true : (xs : List A) (ys : List Instance) → pointwise E xs ys ≡ true → map f xs ≡ ys
  parts_true [] [] h = refl
  parts_true [] (y ∷ ys) h = no h
  parts_true (x ∷ xs) [] h = no h
  parts_true (x ∷ xs) (y ∷ ys) h = λ k. child x y (first_so (E x y) (pointwise E xs ys) h) k ∷ parts_true xs ys (second_so (E x y) (pointwise E xs ys) h) k

  pub layer_true : (x : Instance-F A) (y : Instance-F Instance) → same_layer E x y ≡ true → map-Instance A Instance f x ≡ y
  layer_true (Instance-F.Literal x) (Instance-F.Literal y) h = ap Instance-F.Literal (literal_true x y h)
  layer_true (Instance-F.Struct x) (Instance-F.Struct y) h =
      let ty = types.same_struct types.same x.ty y.ty in
      let parts = pointwise E x.members y.members in
      λ k. Instance-F.Struct (record {
        ty = (struct_types_decide x.ty y.ty).0 (first_so ty parts h) k;
        members = parts_true x.members y.members (second_so ty parts h) k;
      })
  layer_true (Instance-F.Array x) (Instance-F.Array y) h =
      let sized = beq x.runtime_sized y.runtime_sized in
      let ty = types.same x.element y.element in
      let parts = pointwise E x.components y.components in
      let both = first_so (sized && ty) parts h in
      λ k. Instance-F.Array (record {
        element = (types_decide x.element y.element).0 (second_so sized ty both) k;
        components = parts_true x.components y.components (second_so (sized && ty) parts h) k;
        runtime_sized = (truths_decide x.runtime_sized y.runtime_sized).0 (first_so sized ty both) k;
      })
  layer_true (Instance-F.Vec x) (Instance-F.Vec y) h = ap Instance-F.Vec (vector_true x y h)
  layer_true (Instance-F.Ptr x) (Instance-F.Ptr y) h = λ k. Instance-F.Ptr (record { reference = reference_true x.reference y.reference h k })
  layer_true (Instance-F.Ref x) (Instance-F.Ref y) h = ap Instance-F.Ref (reference_true x y h)
  layer_true (Instance-F.Deferred x) (Instance-F.Deferred y) h = ap Instance-F.Deferred ((types_decide x y).0 h)
  layer_true x y h = no h

-- a value with what is shown of it
module _ (P : Instance → Type 0) where
  abbrev pub Shown : Type 0
  Shown = (x : Instance) × P x

  abbrev pub first : Shown → Instance
  first c = c.0

abbrev EqualIfSame : Instance → Type 0
EqualIfSame x = (b : Instance) → same x b ≡ true → x ≡ b

pub equal_if_same : (a b : Instance) → same a b ≡ true → a ≡ b
equal_if_same = ind-Instance EqualIfSame (λ x y is. subst (λ z. EqualIfSame (roll-Instance z)) is (λ b h.
    let shown : Shown EqualIfSame → Instance = first EqualIfSame in
    let layer = map-Instance (Shown EqualIfSame) Instance shown y in
    ap roll-Instance (layer_true (λ p. same (shown p)) shown (λ p. p.1) y (out-Instance b)
    (sym (same_layer-map same shown y (out-Instance b))
    ∙ ap (λ z. same_layer same z (out-Instance b)) (sym (out-roll-Instance layer))
    ∙ sym (same_out (roll-Instance layer) b) ∙ h))
    ∙ roll-out-Instance b))

-- a layer passes the test at itself, if its children do
module _ {A : Type 0} (E : A → Instance → Bool) (f : A → Instance) (child : (x : A) → E x (f x) ≡ true) where
  parts_self : (xs : List A) → pointwise E xs (map f xs) ≡ true
  parts_self [] = refl
  parts_self (x ∷ xs) = λ k. child x k && parts_self xs k

  pub layer_self : (x : Instance-F A) → same_layer E x (map-Instance A Instance f x) ≡ true
  layer_self (Instance-F.Literal x) = literal_self x
  layer_self (Instance-F.Struct x) = λ k. (struct_types_decide x.ty x.ty).1 refl k && parts_self x.members k
  layer_self (Instance-F.Array x) = λ k.
      (truths_decide x.runtime_sized x.runtime_sized).1 refl k && (types_decide x.element x.element).1 refl k && parts_self x.components k
  layer_self (Instance-F.Vec x) = vector_self x
  layer_self (Instance-F.Ptr x) = reference_self x.reference
  layer_self (Instance-F.Ref x) = reference_self x
  layer_self (Instance-F.Deferred x) = (types_decide x x).1 refl

abbrev IsSelfSame : Instance → Type 0
IsSelfSame x = same x x ≡ true

pub same_self : (a : Instance) → same a a ≡ true
same_self = ind-Instance IsSelfSame (λ x y is. subst (λ z. IsSelfSame (roll-Instance z)) is (
    let shown : Shown IsSelfSame → Instance = first IsSelfSame in
    let layer = map-Instance (Shown IsSelfSame) Instance shown y in
    same_out (roll-Instance layer) (roll-Instance layer)
    ∙ (λ k. same_layer same (out-roll-Instance layer k) (out-roll-Instance layer k))
    ∙ same_layer-map same shown y layer
    ∙ layer_self (λ p. same (shown p)) shown (λ p. p.1) y))

pub same_if_equal : (a b : Instance) → a ≡ b → same a b ≡ true
same_if_equal a b e = subst (λ x. same a x ≡ true) e (same_self a)

pub same_equiv : IsEquivalence same
same_equiv = record {
  refl = same_self;
  symm = λ x y. both_ways (same x y) (same y x) (λ h. same_if_equal y x (sym (equal_if_same x y h))) (λ h. same_if_equal x y (sym (equal_if_same y x h)));
  congr = λ x y z h. ap (λ x. same x z) (equal_if_same x y h);
}

-- ---- equality of the structs that a value holds

by_truth : {A : Type 0} {E : A → A → Bool} → ((x y : A) → Decides (E x y) (x ≡ y)) → IsEquivalence E
by_truth {A} {E} decide = record {
  refl = λ x. (decide x x).1 refl;
  symm = λ x y. both_ways (E x y) (E y x) (λ h. (decide y x).1 (sym ((decide x y).0 h))) (λ h. (decide x y).1 (sym ((decide y x).0 h)));
  congr = λ x y z h. ap (λ x. E x z) ((decide x y).0 h);
}

pub reference_equiv : IsEquivalence same_reference
reference_equiv = by_truth (by_self reference_true reference_self)

pub vector_equiv : IsEquivalence same_vector
vector_equiv = by_truth (by_self vector_true vector_self)

struct_inside : (x y : StructInstanceOf Instance) → Instance-F.Struct x ≡ Instance-F.Struct y → x ≡ y
struct_inside x y h = cc

struct_true : (x y : StructInstanceOf Instance) → same_struct same x y ≡ true → x ≡ y
struct_true x y h =
    struct_inside x y (sym (v.outs-Struct x) ∙ ap out-Instance (equal_if_same (v.Struct x) (v.Struct y) (same_of_struct x y ∙ h)) ∙ v.outs-Struct y)

pub struct_equiv : IsEquivalence (same_struct same)
struct_equiv = by_truth (by_self struct_true (λ x. sym (same_of_struct x x) ∙ same_self (v.Struct x)))

array_inside : (x y : ArrayInstanceOf Instance) → Instance-F.Array x ≡ Instance-F.Array y → x ≡ y
array_inside x y h = cc

array_true : (x y : ArrayInstanceOf Instance) → same_array same x y ≡ true → x ≡ y
array_true x y h =
    array_inside x y (sym (v.outs-Array x) ∙ ap out-Instance (equal_if_same (v.Array x) (v.Array y) (same_of_array x y ∙ h)) ∙ v.outs-Array y)

pub array_equiv : IsEquivalence (same_array same)
array_equiv = by_truth (by_self array_true (λ x. sym (same_of_array x x) ∙ same_self (v.Array x)))

pointer_true : (x y : PtrInstance) → same_pointer x y ≡ true → x ≡ y
pointer_true x y h = λ k. record { reference = reference_true x.reference y.reference h k }

pub pointer_equiv : IsEquivalence same_pointer
pointer_equiv = by_truth (by_self pointer_true (λ x. reference_self x.reference))
