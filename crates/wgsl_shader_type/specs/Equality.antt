-- The test of equality decides it.
use Rattle.std.proofs.Common.{◌≡◌, refl, sym, ap, ◌∙◌, subst, ℕ, ◌==◌, Bool, true, ◌&&◌, List, [], ◌∷◌, map, Option, Some, None, true≢false, eqb-true, eq-eqb}
use Rattle.std.specs.Option.{option_eq}
use Rattle.std.specs.Str.{bytes_eq}
use Rattle.std.specs.Cmp.{first_so, second_so, both_ways, IsEquivalence}
use Rattle.std.specs.Cmp.Lexicographic.{pointwise}
use Rattle.std.proofs.lemmas.Slice.Eq.{bytes_eq-Decides}
use denote.Enum.Bare.{same_true, true_same}
use Rattle.wgsl_words.specs.contracts.enumerations.address.AddressSpace.{the_type as space_type}
use Rattle.wgsl_words.specs.contracts.enumerations.address.AccessMode.{the_type as access_type}
use Rattle.wgsl_words.specs.contracts.enumerations.address.AddressSpacePartialEq.TheImpl as space
use Rattle.wgsl_words.specs.contracts.enumerations.address.AccessModePartialEq.TheImpl as access
use Rattle.wgsl_shader_type.specs.declared.tree.StructTypeOf.{StructTypeOf}
use Rattle.wgsl_shader_type.specs.declared.tree.StructMemberTypeOf.{StructMemberTypeOf}
use Rattle.wgsl_shader_type.specs.declared.tree.ShaderType.{ShaderType, roll-ShaderType, out-ShaderType, out-roll-ShaderType, roll-out-ShaderType, map-ShaderType, fold_out-ShaderType, ind-ShaderType}
use Rattle.wgsl_shader_type.specs.declared.tree.ShaderType.TheVariants as v
use Rattle.wgsl_shader_type.specs.declared.tree.ShaderType.TheOpen.{ShaderType-F}
use Rattle.wgsl_shader_type.specs.Alike.{same, same_layer, same_struct, same_member}
use Rattle.wgsl_shader_type.specs.Trees.{member_at, Shown, first}

-- a test of layers looks through a map
module _ {A B C : Type 0} (E : B → C → Bool) (f : A → B) where
  members-map : (ms : List (StructMemberTypeOf A)) (ns : List (StructMemberTypeOf C))
      → pointwise (same_member E) (map (member_at f) ms) ns ≡ pointwise (same_member (λ a. E (f a))) ms ns
  members-map [] [] = refl
  members-map [] (n ∷ ns) = refl
  members-map (m ∷ ms) [] = refl
  members-map (m ∷ ms) (n ∷ ns) = ap (λ b. same_member (λ a. E (f a)) m n && b) (members-map ms ns)

  pub same_layer-map : (x : ShaderType-F A) (y : ShaderType-F C) → same_layer E (map-ShaderType A B f x) y ≡ same_layer (λ a. E (f a)) x y
  same_layer-map (ShaderType-F.Struct x) (ShaderType-F.Struct y) = ap (λ b. bytes_eq x.name y.name && b) (members-map x.members y.members)
  same_layer-map x y = refl

pub same_out : (a b : ShaderType) → same a b ≡ same_layer same (out-ShaderType a) (out-ShaderType b)
same_out a b =
    ap (λ f. f b) (fold_out-ShaderType (ShaderType → Bool) (λ x t. same_layer (λ test y. test y) x (out-ShaderType t)) a)
    ∙ same_layer-map (λ (test : ShaderType → Bool) y. test y) same (out-ShaderType a) (out-ShaderType b)

pub same_of_struct : (x y : StructTypeOf ShaderType) → same (v.Struct x) (v.Struct y) ≡ same_struct same x y
same_of_struct x y = same_out (v.Struct x) (v.Struct y) ∙ (λ i. same_layer same (v.outs-Struct x i) (v.outs-Struct y i))

pub option_true : (a b : Option ℕ) → option_eq ◌==◌ a b ≡ true → a ≡ b
option_true None None h = refl
option_true None (Some y) h = absurd (true≢false (sym h))
option_true (Some x) None h = absurd (true≢false (sym h))
option_true (Some x) (Some y) h = ap Some (eqb-true x y h)

pub option_self : (a : Option ℕ) → option_eq ◌==◌ a a ≡ true
option_self None = refl
option_self (Some x) = eq-eqb x x refl

both : (a b : Bool) → a ≡ true → b ≡ true → (a && b) ≡ true
both a b p q = λ i. p i && q i

-- layers that pass the test are equal, if children that pass it are
module _ {A : Type 0} (E : A → ShaderType → Bool) (f : A → ShaderType) (child : (x : A) (y : ShaderType) → E x y ≡ true → f x ≡ y) where
  member_true : (m : StructMemberTypeOf A) (n : StructMemberTypeOf ShaderType) → same_member E m n ≡ true → member_at f m ≡ n
  member_true m n h =
      let name = bytes_eq m.name n.name in
      let ty = E m.ty n.ty in
      let size = option_eq ◌==◌ m.size n.size in
      let align = option_eq ◌==◌ m.align n.align in
      let upto_size = first_so (name && ty && size) align h in
      let upto_type = first_so (name && ty) size upto_size in
      λ i. record {
        name = (bytes_eq-Decides m.name n.name).0 (first_so name ty upto_type) i;
        ty = child m.ty n.ty (second_so name ty upto_type) i;
        size = option_true m.size n.size (second_so (name && ty) size upto_size) i;
        align = option_true m.align n.align (second_so (name && ty && size) align h) i;
      }

  members_true : (ms : List (StructMemberTypeOf A)) (ns : List (StructMemberTypeOf ShaderType)) → pointwise (same_member E) ms ns ≡ true → map (member_at f) ms ≡ ns
  members_true [] [] h = refl
  members_true [] (n ∷ ns) h = absurd (true≢false (sym h))
  members_true (m ∷ ms) [] h = absurd (true≢false (sym h))
  members_true (m ∷ ms) (n ∷ ns) h = λ i.
      member_true m n (first_so (same_member E m n) (pointwise (same_member E) ms ns) h) i ∷ members_true ms ns (second_so (same_member E m n) (pointwise (same_member E) ms ns) h) i

  pub layer_true : (x : ShaderType-F A) (y : ShaderType-F ShaderType) → same_layer E x y ≡ true → map-ShaderType A ShaderType f x ≡ y
  layer_true ShaderType-F.Bool ShaderType-F.Bool h = refl
  layer_true ShaderType-F.AbstractInt ShaderType-F.AbstractInt h = refl
  layer_true ShaderType-F.AbstractFloat ShaderType-F.AbstractFloat h = refl
  layer_true ShaderType-F.I32 ShaderType-F.I32 h = refl
  layer_true ShaderType-F.U32 ShaderType-F.U32 h = refl
  layer_true ShaderType-F.F32 ShaderType-F.F32 h = refl
  layer_true ShaderType-F.F16 ShaderType-F.F16 h = refl
  layer_true (ShaderType-F.Struct x) (ShaderType-F.Struct y) h = λ i. ShaderType-F.Struct (record {
    name = (bytes_eq-Decides x.name y.name).0 (first_so (bytes_eq x.name y.name) (pointwise (same_member E) x.members y.members) h) i;
    members = members_true x.members y.members (second_so (bytes_eq x.name y.name) (pointwise (same_member E) x.members y.members) h) i;
  })
  layer_true (ShaderType-F.Array x n) (ShaderType-F.Array y m) h = λ i.
      ShaderType-F.Array (child x y (second_so (option_eq ◌==◌ n m) (E x y) h) i) (option_true n m (first_so (option_eq ◌==◌ n m) (E x y) h) i)
  layer_true (ShaderType-F.Vec n x) (ShaderType-F.Vec m y) h = λ i.
      ShaderType-F.Vec (eqb-true n m (first_so (n == m) (E x y) h) i) (child x y (second_so (n == m) (E x y) h) i)
  layer_true (ShaderType-F.Ptr s x a) (ShaderType-F.Ptr t y b) h =
      let sa = first_so (space.eq-value.it s t && access.eq-value.it a b) (E x y) h in
      λ i. ShaderType-F.Ptr
      (same_true space_type (search) s t (first_so (space.eq-value.it s t) (access.eq-value.it a b) sa) i)
      (child x y (second_so (space.eq-value.it s t && access.eq-value.it a b) (E x y) h) i)
      (same_true access_type (search) a b (second_so (space.eq-value.it s t) (access.eq-value.it a b) sa) i)
  layer_true (ShaderType-F.Ref s x a) (ShaderType-F.Ref t y b) h =
      let sa = first_so (space.eq-value.it s t && access.eq-value.it a b) (E x y) h in
      λ i. ShaderType-F.Ref
      (same_true space_type (search) s t (first_so (space.eq-value.it s t) (access.eq-value.it a b) sa) i)
      (child x y (second_so (space.eq-value.it s t && access.eq-value.it a b) (E x y) h) i)
      (same_true access_type (search) a b (second_so (space.eq-value.it s t) (access.eq-value.it a b) sa) i)
  layer_true x y h = absurd (true≢false (sym h))

abbrev EqualIfSame : ShaderType → Type 0
EqualIfSame t = (b : ShaderType) → same t b ≡ true → t ≡ b

pub equal_if_same : (a b : ShaderType) → same a b ≡ true → a ≡ b
equal_if_same = ind-ShaderType EqualIfSame (λ x y is. subst (λ z. EqualIfSame (roll-ShaderType z)) is (λ b h.
    let shown : Shown EqualIfSame → ShaderType = first EqualIfSame in
    let layer = map-ShaderType (Shown EqualIfSame) ShaderType shown y in
    ap roll-ShaderType (layer_true (λ p. same (shown p)) shown (λ p. p.1) y (out-ShaderType b)
    (sym (same_layer-map same shown y (out-ShaderType b))
    ∙ ap (λ z. same_layer same z (out-ShaderType b)) (sym (out-roll-ShaderType layer))
    ∙ sym (same_out (roll-ShaderType layer) b) ∙ h))
    ∙ roll-out-ShaderType b))

-- a layer passes the test at itself, if its children do
module _ {A : Type 0} (E : A → ShaderType → Bool) (f : A → ShaderType) (child : (x : A) → E x (f x) ≡ true) where
  members_self : (ms : List (StructMemberTypeOf A)) → pointwise (same_member E) ms (map (member_at f) ms) ≡ true
  members_self [] = refl
  members_self (m ∷ ms) = λ i.
      ((bytes_eq-Decides m.name m.name).1 refl i && child m.ty i && option_self m.size i && option_self m.align i) && members_self ms i

  pub layer_self : (x : ShaderType-F A) → same_layer E x (map-ShaderType A ShaderType f x) ≡ true
  layer_self ShaderType-F.Bool = refl
  layer_self ShaderType-F.AbstractInt = refl
  layer_self ShaderType-F.AbstractFloat = refl
  layer_self ShaderType-F.I32 = refl
  layer_self ShaderType-F.U32 = refl
  layer_self ShaderType-F.F32 = refl
  layer_self ShaderType-F.F16 = refl
  layer_self (ShaderType-F.Struct x) = λ i. (bytes_eq-Decides x.name x.name).1 refl i && members_self x.members i
  layer_self (ShaderType-F.Array x n) = λ i. option_self n i && child x i
  layer_self (ShaderType-F.Vec n x) = λ i. eq-eqb n n refl i && child x i
  layer_self (ShaderType-F.Ptr s x a) = λ i. true_same space_type s s refl i && true_same access_type a a refl i && child x i
  layer_self (ShaderType-F.Ref s x a) = λ i. true_same space_type s s refl i && true_same access_type a a refl i && child x i

abbrev IsSelfSame : ShaderType → Type 0
IsSelfSame t = same t t ≡ true

pub same_self : (a : ShaderType) → same a a ≡ true
same_self = ind-ShaderType IsSelfSame (λ x y is. subst (λ z. IsSelfSame (roll-ShaderType z)) is (
    let shown : Shown IsSelfSame → ShaderType = first IsSelfSame in
    let layer = map-ShaderType (Shown IsSelfSame) ShaderType shown y in
    same_out (roll-ShaderType layer) (roll-ShaderType layer)
    ∙ (λ i. same_layer same (out-roll-ShaderType layer i) (out-roll-ShaderType layer i))
    ∙ same_layer-map same shown y layer
    ∙ layer_self (λ p. same (shown p)) shown (λ p. p.1) y))

pub same_if_equal : (a b : ShaderType) → a ≡ b → same a b ≡ true
same_if_equal a b e = subst (λ t. same a t ≡ true) e (same_self a)

pub same_equiv : IsEquivalence same
same_equiv = record {
  refl = same_self;
  symm = λ x y. both_ways (same x y) (same y x) (λ h. same_if_equal y x (sym (equal_if_same x y h))) (λ h. same_if_equal x y (sym (equal_if_same y x h)));
  congr = λ x y z h. ap (λ t. same t z) (equal_if_same x y h);
}
