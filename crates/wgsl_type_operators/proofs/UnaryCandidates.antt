-- What is computed of one operand is the result of the one candidate of the least rank, and where nothing is computed there is no candidate.
use Rattle.std.proofs.Common.{◌≡◌, refl, sym, ap, ◌∙◌, subst, ℕ, ◌&&◌, ◌||◌, not, Bool, true, false, cond, Option, Some, None, true≢false, MatchOption, arith}
use Rattle.wgsl_shader_type.specs.AddressSpace.{AddressSpace}
use Rattle.wgsl_shader_type.specs.AddressSpace.TheVariants.{Function, Private, Workgroup, Uniform, Storage, Handle}
use Rattle.wgsl_shader_type.specs.AccessMode.{AccessMode}
use Rattle.wgsl_words.specs.declared.operators.UnaryOperator.{UnaryOperator}
use Rattle.wgsl_words.specs.declared.operators.UnaryOperator.TheVariants.{LogicalNegation, Negation, BitwiseComplement, AddressOf, Indirection}
use Rattle.wgsl_shader_type.specs.declared.tree.ShaderType.{ShaderType, roll-ShaderType, out-ShaderType, roll-out-ShaderType, out-roll-ShaderType}
use Rattle.wgsl_shader_type.specs.declared.tree.ShaderType.TheVariants as v
use Rattle.wgsl_shader_type.specs.declared.tree.ShaderType.TheOpen.{ShaderType-F}
use Rattle.wgsl_shader_type.specs.Rank.{rank_of}
use Rattle.wgsl_shader_type.specs.Conversion.{Step, Path}
use Rattle.wgsl_shader_type.specs.Class.{is_numeric, bool_layer, integer_layer, float_layer, vector_layer, handle_layer, is_handle, is_vector}
use Rattle.wgsl_shader_type.proofs.Ranks.{path_if_rank, rank_if_path, rank_if_some, rank_self}
use Rattle.wgsl_shader_type.proofs.Commons.{equal_if_zero}
use Rattle.wgsl_type_operators.specs.Operator.{is_unsigned, unsigned_layer, unary_takes, UnarySignature, IsUnaryResult, HasNoUnaryCandidate}
use Rattle.wgsl_type_operators.specs.ResultOf.{referenced, pointed, unary_shape, unary_result}
use Rattle.wgsl_type_operators.proofs.Shapes.{to_vector, flat_if_not, GoesDown, goes_down, bool_goes, integer_goes}

second_of : (a b : Bool) → (a && b) ≡ true → b ≡ true
second_of true b h = h
second_of false b h = absurd (true≢false (sym h))

abbrev numeric_layer : ShaderType-F ShaderType → Bool
numeric_layer x = integer_layer x || float_layer x

abbrev signed_layer : ShaderType-F ShaderType → Bool
signed_layer x = numeric_layer x && not (unsigned_layer x)

signed_goes : GoesDown (λ t. is_numeric t && not (is_unsigned t))
signed_goes = record {
  from_f32 = λ h. ap signed_layer v.outs-AbstractFloat;
  from_f16 = λ h. ap signed_layer v.outs-AbstractFloat;
  from_i32 = λ h. ap signed_layer v.outs-AbstractInt;
  from_u32 = λ h. ap signed_layer v.outs-AbstractInt;
  from_abstract_float = λ h. ap signed_layer v.outs-AbstractInt;
  no_vector = λ n t. ap signed_layer (v.outs-Vec n t);
  no_array = λ t n. ap signed_layer (v.outs-Array t n);
}

none_goes : GoesDown (λ t. false)
none_goes = record {
  from_f32 = λ h. h;
  from_f16 = λ h. h;
  from_i32 = λ h. h;
  from_u32 = λ h. h;
  from_abstract_float = λ h. h;
  no_vector = λ n t. refl;
  no_array = λ t n. refl;
}

taken_goes : (operator : UnaryOperator) → GoesDown (unary_takes operator)
taken_goes LogicalNegation = bool_goes
taken_goes Negation = signed_goes
taken_goes BitwiseComplement = integer_goes
taken_goes AddressOf = none_goes
taken_goes Indirection = none_goes

-- no step leads to a pointer or a reference
no_handle : {s t : ShaderType} {w : ℕ} → Step s t w → is_handle t ≡ false
no_handle Step.abstract_float_to_f32 = ap handle_layer v.outs-F32
no_handle Step.abstract_float_to_f16 = ap handle_layer v.outs-F16
no_handle Step.abstract_int_to_i32 = ap handle_layer v.outs-I32
no_handle Step.abstract_int_to_u32 = ap handle_layer v.outs-U32
no_handle Step.abstract_int_to_abstract_float = ap handle_layer v.outs-AbstractFloat
no_handle (Step.in_vector {to = t} n step) = ap handle_layer (v.outs-Vec n t)
no_handle (Step.in_array {to = t} n step) = ap handle_layer (v.outs-Array t n)

no_source : {s t : ShaderType} {w : ℕ} → Step s t w → is_handle s ≡ false
no_source Step.abstract_float_to_f32 = ap handle_layer v.outs-AbstractFloat
no_source Step.abstract_float_to_f16 = ap handle_layer v.outs-AbstractFloat
no_source Step.abstract_int_to_i32 = ap handle_layer v.outs-AbstractInt
no_source Step.abstract_int_to_u32 = ap handle_layer v.outs-AbstractInt
no_source Step.abstract_int_to_abstract_float = ap handle_layer v.outs-AbstractInt
no_source (Step.in_vector {from = s} n step) = ap handle_layer (v.outs-Vec n s)
no_source (Step.in_array {from = s} n step) = ap handle_layer (v.outs-Array s n)

handle_from : {s t : ShaderType} {m : ℕ} → Path s t m → is_handle t ≡ true → is_handle s ≡ true
handle_from Path.stay h = h
handle_from (Path.go step path) h = absurd (true≢false (sym (handle_from path h) ∙ no_handle step))

handle_stays : {s t : ShaderType} {m : ℕ} → Path s t m → is_handle s ≡ true → s ≡ t
handle_stays Path.stay h = refl
handle_stays (Path.go step path) h = absurd (true≢false (sym h ∙ no_source step))

-- an operand that a signature leaves as it is
kept : (operator : UnaryOperator) (operand : ShaderType) (taken : ShaderType) → unary_takes operator taken ≡ true → UnarySignature operator operand operand → IsUnaryResult operator operand operand
kept operator operand taken t here = record {
  first = operand;
  rank = 0;
  candidate = record { here = here; converts = rank_if_some operand operand 0 (rank_self operand) };
  least = λ a b other q. omega arith;
  alone = λ a b other q zero_rank. let e : operand ≡ a = equal_if_zero q.converts.path zero_rank in (sym e, same operator a b t q.here ∙ sym e);
}
  where
    same : (o : UnaryOperator) (a b : ShaderType) → unary_takes o taken ≡ true → UnarySignature o a b → b ≡ a
    same o a b t (UnarySignature.scalar p u h) = refl
    same o a b t (UnarySignature.vector p n u h) = refl
    same o a b t (UnarySignature.address s u x h) = absurd (true≢false (sym t))
    same o a b t (UnarySignature.indirection s u x) = absurd (true≢false (sym t))

abbrev Found : UnaryOperator → ShaderType → Option ShaderType → Type 0
Found operator operand o = MatchOption o (HasNoUnaryCandidate operator operand) (IsUnaryResult operator operand)

-- an operand that is no vector, no pointer and no reference
flat_found : (operator : UnaryOperator) (operand : ShaderType) → is_vector operand ≡ false → is_handle operand ≡ false → (test : Bool) → unary_takes operator operand ≡ test → Found operator operand (cond test (Some operand) None)
flat_found operator operand flat plain true t = kept operator operand operand t (UnarySignature.scalar operator operand t)
flat_found operator operand flat plain false t = λ a b rank q. by operator a b rank t q.here q.converts.path
  where
    by : (o : UnaryOperator) (a b : ShaderType) (rank : ℕ) → unary_takes o operand ≡ false → UnarySignature o a b → Path operand a rank → ⊥
    by o a b rank t (UnarySignature.scalar p u h) path = true≢false (sym (goes_down (taken_goes p) path h) ∙ t)
    by o a b rank t (UnarySignature.vector p n u h) path = let w = to_vector n u operand rank (rank_if_path path) in flat_if_not operand flat n w.0 w.1
    by o a b rank t (UnarySignature.address s u x h) path = true≢false (sym (handle_from path (ap handle_layer (v.outs-Ref s u x))) ∙ plain)
    by o a b rank t (UnarySignature.indirection s u x) path = true≢false (sym (handle_from path (ap handle_layer (v.outs-Ptr s u x))) ∙ plain)

vector_found : (operator : UnaryOperator) (n : ℕ) (c : ShaderType) → (test : Bool) → unary_takes operator c ≡ test → Found operator (v.Vec n c) (cond test (Some (v.Vec n c)) None)
vector_found operator n c true t = kept operator (v.Vec n c) c t (UnarySignature.vector operator n c t)
vector_found operator n c false t = λ a b rank q. by operator a b rank t q.here q.converts.path
  where
    by : (o : UnaryOperator) (a b : ShaderType) (rank : ℕ) → unary_takes o c ≡ false → UnarySignature o a b → Path (v.Vec n c) a rank → ⊥
    by o a b rank t (UnarySignature.scalar p u h) path = true≢false (sym (goes_down (taken_goes p) path h) ∙ (taken_goes p).no_vector n c)
    by o a b rank t (UnarySignature.vector p k u h) path =
        let w = to_vector k u (v.Vec n c) rank (rank_if_path path) in
        let e : c ≡ w.0 = ap component (sym (v.outs-Vec n c) ∙ ap out-ShaderType w.1 ∙ v.outs-Vec k w.0) in
        true≢false (sym (goes_down (taken_goes p) (path_if_rank c u rank (subst (λ s. rank_of s u ≡ Some rank) (sym e) w.2)) h) ∙ t)
      where
        component : ShaderType-F ShaderType → ShaderType
        component (ShaderType-F.Vec n s) = s
        component x = c
    by o a b rank t (UnarySignature.address s u x h) path = true≢false (sym (handle_from path (ap handle_layer (v.outs-Ref s u x))) ∙ ap handle_layer (v.outs-Vec n c))
    by o a b rank t (UnarySignature.indirection s u x) path = true≢false (sym (handle_from path (ap handle_layer (v.outs-Ptr s u x))) ∙ ap handle_layer (v.outs-Vec n c))

-- ---- references and pointers

takes_no_reference : (operator : UnaryOperator) (s : AddressSpace) (t : ShaderType) (a : AccessMode) → unary_takes operator (v.Ref s t a) ≡ false
takes_no_reference LogicalNegation s t a = ap bool_layer (v.outs-Ref s t a)
takes_no_reference Negation s t a = ap signed_layer (v.outs-Ref s t a)
takes_no_reference BitwiseComplement s t a = ap integer_layer (v.outs-Ref s t a)
takes_no_reference AddressOf s t a = refl
takes_no_reference Indirection s t a = refl

takes_no_pointer : (operator : UnaryOperator) (s : AddressSpace) (t : ShaderType) (a : AccessMode) → unary_takes operator (v.Ptr s t a) ≡ false
takes_no_pointer LogicalNegation s t a = ap bool_layer (v.outs-Ptr s t a)
takes_no_pointer Negation s t a = ap signed_layer (v.outs-Ptr s t a)
takes_no_pointer BitwiseComplement s t a = ap integer_layer (v.outs-Ptr s t a)
takes_no_pointer AddressOf s t a = refl
takes_no_pointer Indirection s t a = refl

reference_layer : {A : Type 0} → ShaderType-F A → Bool
reference_layer (ShaderType-F.Ref s t a) = true
reference_layer x = false

no_reference_is_pointer : (s s' : AddressSpace) (t t' : ShaderType) (a a' : AccessMode) → v.Ref s t a ≡ v.Ptr s' t' a' → ⊥
unfolding reference_layer
no_reference_is_pointer s s' t t' a a' e = true≢false (ap reference_layer (sym (v.outs-Ref s t a) ∙ ap out-ShaderType e ∙ v.outs-Ptr s' t' a'))

space_layer : ShaderType-F ShaderType → AddressSpace
space_layer (ShaderType-F.Ref s t a) = s
space_layer x = Handle

same_space : (s s' : AddressSpace) (t t' : ShaderType) (a a' : AccessMode) → v.Ref s t a ≡ v.Ref s' t' a' → s ≡ s'
unfolding space_layer
same_space s s' t t' a a' e = ap space_layer (sym (v.outs-Ref s t a) ∙ ap out-ShaderType e ∙ v.outs-Ref s' t' a')

pointer_layer : ShaderType-F ShaderType → ShaderType
pointer_layer (ShaderType-F.Ref s t a) = v.Ptr s t a
pointer_layer x = v.Bool

same_pointer : (s s' : AddressSpace) (t t' : ShaderType) (a a' : AccessMode) → v.Ref s t a ≡ v.Ref s' t' a' → v.Ptr s t a ≡ v.Ptr s' t' a'
unfolding pointer_layer
same_pointer s s' t t' a a' e = ap pointer_layer (sym (v.outs-Ref s t a) ∙ ap out-ShaderType e ∙ v.outs-Ref s' t' a')

target_layer : ShaderType-F ShaderType → ShaderType
target_layer (ShaderType-F.Ptr s t a) = v.Ref s t a
target_layer x = v.Bool

same_target : (s s' : AddressSpace) (t t' : ShaderType) (a a' : AccessMode) → v.Ptr s t a ≡ v.Ptr s' t' a' → v.Ref s t a ≡ v.Ref s' t' a'
unfolding target_layer
same_target s s' t t' a a' e = ap target_layer (sym (v.outs-Ptr s t a) ∙ ap out-ShaderType e ∙ v.outs-Ptr s' t' a')

reference_none : (operator : UnaryOperator) (s : AddressSpace) (t : ShaderType) (a : AccessMode) → (operator ≡ AddressOf → s ≡ Handle) → HasNoUnaryCandidate operator (v.Ref s t a)
reference_none operator s t a only b c rank q = by operator b c rank only q.here q.converts.path
  where
    by : (o : UnaryOperator) (b c : ShaderType) (rank : ℕ) → (o ≡ AddressOf → s ≡ Handle) → UnarySignature o b c → Path (v.Ref s t a) b rank → ⊥
    by o b c rank only (UnarySignature.scalar p u h) path = true≢false (sym (goes_down (taken_goes p) path h) ∙ takes_no_reference p s t a)
    by o b c rank only (UnarySignature.vector p n u h) path =
        let w = to_vector n u (v.Ref s t a) rank (rank_if_path path) in flat_if_not (v.Ref s t a) (ap vector_layer (v.outs-Ref s t a)) n w.0 w.1
    by o b c rank only (UnarySignature.address s' u x h) path =
        h (sym (same_space s s' t u a x (handle_stays path (ap handle_layer (v.outs-Ref s t a)))) ∙ only refl)
    by o b c rank only (UnarySignature.indirection s' u x) path = no_reference_is_pointer s s' t u a x (handle_stays path (ap handle_layer (v.outs-Ref s t a)))

pointer_none : (operator : UnaryOperator) (s : AddressSpace) (t : ShaderType) (a : AccessMode) → (operator ≡ Indirection → ⊥) → HasNoUnaryCandidate operator (v.Ptr s t a)
pointer_none operator s t a never b c rank q = by operator b c rank never q.here q.converts.path
  where
    by : (o : UnaryOperator) (b c : ShaderType) (rank : ℕ) → (o ≡ Indirection → ⊥) → UnarySignature o b c → Path (v.Ptr s t a) b rank → ⊥
    by o b c rank never (UnarySignature.scalar p u h) path = true≢false (sym (goes_down (taken_goes p) path h) ∙ takes_no_pointer p s t a)
    by o b c rank never (UnarySignature.vector p n u h) path =
        let w = to_vector n u (v.Ptr s t a) rank (rank_if_path path) in flat_if_not (v.Ptr s t a) (ap vector_layer (v.outs-Ptr s t a)) n w.0 w.1
    by o b c rank never (UnarySignature.address s' u x h) path = no_reference_is_pointer s' s u t x a (sym (handle_stays path (ap handle_layer (v.outs-Ptr s t a))))
    by o b c rank never (UnarySignature.indirection s' u x) path = never refl

address_found : (s : AddressSpace) (t : ShaderType) (a : AccessMode) → (s ≡ Handle → ⊥) → IsUnaryResult AddressOf (v.Ref s t a) (v.Ptr s t a)
address_found s t a open_space = record {
  first = v.Ref s t a;
  rank = 0;
  candidate = record { here = UnarySignature.address s t a open_space; converts = rank_if_some (v.Ref s t a) (v.Ref s t a) 0 (rank_self (v.Ref s t a)) };
  least = λ b c other q. omega arith;
  alone = λ b c other q zero_rank. let e : v.Ref s t a ≡ b = equal_if_zero q.converts.path zero_rank in (sym e, by b c q.here e);
}
  where
    by : (b c : ShaderType) → UnarySignature AddressOf b c → v.Ref s t a ≡ b → c ≡ v.Ptr s t a
    by b c (UnarySignature.scalar p u h) e = absurd (true≢false (sym h))
    by b c (UnarySignature.vector p n u h) e = absurd (true≢false (sym h))
    by b c (UnarySignature.address s' u x h) e = sym (same_pointer s s' t u a x e)

indirection_found : (s : AddressSpace) (t : ShaderType) (a : AccessMode) → IsUnaryResult Indirection (v.Ptr s t a) (v.Ref s t a)
indirection_found s t a = record {
  first = v.Ptr s t a;
  rank = 0;
  candidate = record { here = UnarySignature.indirection s t a; converts = rank_if_some (v.Ptr s t a) (v.Ptr s t a) 0 (rank_self (v.Ptr s t a)) };
  least = λ b c other q. omega arith;
  alone = λ b c other q zero_rank. let e : v.Ptr s t a ≡ b = equal_if_zero q.converts.path zero_rank in (sym e, by b c q.here e);
}
  where
    by : (b c : ShaderType) → UnarySignature Indirection b c → v.Ptr s t a ≡ b → c ≡ v.Ref s t a
    by b c (UnarySignature.scalar p u h) e = absurd (true≢false (sym h))
    by b c (UnarySignature.vector p n u h) e = absurd (true≢false (sym h))
    by b c (UnarySignature.indirection s' u x) e = sym (same_target s s' t u a x e)

reference_found : (operator : UnaryOperator) (s : AddressSpace) (t : ShaderType) (a : AccessMode) → Found operator (v.Ref s t a) (referenced operator s t a)
reference_found LogicalNegation s t a = reference_none LogicalNegation s t a (λ e. absurd (cc))
reference_found Negation s t a = reference_none Negation s t a (λ e. absurd (cc))
reference_found BitwiseComplement s t a = reference_none BitwiseComplement s t a (λ e. absurd (cc))
reference_found Indirection s t a = reference_none Indirection s t a (λ e. absurd (cc))
reference_found AddressOf Handle t a = reference_none AddressOf Handle t a (λ e. refl)
reference_found AddressOf Function t a = address_found Function t a (λ e. cc)
reference_found AddressOf Private t a = address_found Private t a (λ e. cc)
reference_found AddressOf Workgroup t a = address_found Workgroup t a (λ e. cc)
reference_found AddressOf Uniform t a = address_found Uniform t a (λ e. cc)
reference_found AddressOf Storage t a = address_found Storage t a (λ e. cc)

pointer_found : (operator : UnaryOperator) (s : AddressSpace) (t : ShaderType) (a : AccessMode) → Found operator (v.Ptr s t a) (pointed operator s t a)
pointer_found LogicalNegation s t a = pointer_none LogicalNegation s t a (λ e. cc)
pointer_found Negation s t a = pointer_none Negation s t a (λ e. cc)
pointer_found BitwiseComplement s t a = pointer_none BitwiseComplement s t a (λ e. cc)
pointer_found AddressOf s t a = pointer_none AddressOf s t a (λ e. cc)
pointer_found Indirection s t a = indirection_found s t a

-- ---- all shapes

plain_found : (operator : UnaryOperator) (operand : ShaderType) (x : ShaderType-F ShaderType) → roll-ShaderType x ≡ operand → vector_layer x ≡ false → handle_layer x ≡ false
    → Found operator operand (cond (unary_takes operator operand) (Some operand) None)
plain_found operator operand x e w h =
    let back : out-ShaderType operand ≡ x = ap out-ShaderType (sym e) ∙ out-roll-ShaderType x in
    flat_found operator operand (ap vector_layer back ∙ w) (ap handle_layer back ∙ h) (unary_takes operator operand) refl

shape_found : (operator : UnaryOperator) (operand : ShaderType) (x : ShaderType-F ShaderType) → roll-ShaderType x ≡ operand → Found operator operand (unary_shape operator operand x)
shape_found operator operand (ShaderType-F.Ref s t a) e =
    subst (λ u. Found operator u (referenced operator s t a)) (sym (v.rolls-Ref s t a) ∙ e) (reference_found operator s t a)
shape_found operator operand (ShaderType-F.Ptr s t a) e =
    subst (λ u. Found operator u (pointed operator s t a)) (sym (v.rolls-Ptr s t a) ∙ e) (pointer_found operator s t a)
shape_found operator operand (ShaderType-F.Vec n c) e =
    subst (λ u. Found operator u (cond (unary_takes operator c) (Some u) None)) (sym (v.rolls-Vec n c) ∙ e) (vector_found operator n c (unary_takes operator c) refl)
shape_found operator operand x e = plain_found operator operand x e refl refl

unary_found : (operator : UnaryOperator) (operand : ShaderType) → Found operator operand (unary_result operator operand)
unary_found operator operand = shape_found operator operand (out-ShaderType operand) (roll-out-ShaderType operand)

pub result_found : (operator : UnaryOperator) (operand result : ShaderType) → Some result ≡ unary_result operator operand → IsUnaryResult operator operand result
result_found operator operand result h = subst (Found operator operand) (sym h) (unary_found operator operand)

pub none_found : (operator : UnaryOperator) (operand : ShaderType) → None ≡ unary_result operator operand → HasNoUnaryCandidate operator operand
none_found operator operand h = subst (Found operator operand) (sym h) (unary_found operator operand)
