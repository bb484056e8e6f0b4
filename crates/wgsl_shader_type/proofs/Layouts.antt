-- What is computed of alignments and sizes is what the relations say.
use Rattle.std.proofs.Common.{◌≡◌, refl, sym, ap, ◌∙◌, subst, ℕ, ◌+◌, ◌*◌, ◌<◌, ◌≤◌, ◌==◌, max, Bool, true, false, cond, List, [], ◌∷◌, Option, Some, None, true≢false, eqb-true, arith, MatchOption}
use Rattle.std.specs.Option.{is_some}
use Rattle.wgsl_shader_type.specs.declared.tree.StructTypeOf.{StructTypeOf}
use Rattle.wgsl_shader_type.specs.declared.tree.StructMemberTypeOf.{StructMemberTypeOf}
use Rattle.wgsl_shader_type.specs.declared.tree.ShaderType.{ShaderType, roll-ShaderType, out-ShaderType, roll-out-ShaderType}
use Rattle.wgsl_shader_type.specs.declared.tree.ShaderType.TheVariants as v
use Rattle.wgsl_shader_type.specs.declared.tree.ShaderType.TheOpen.{ShaderType-F}
use Rattle.wgsl_shader_type.specs.Trees.{AllMembers, Cases, induction}
use Rattle.wgsl_shader_type.specs.Layout.{IsScalarSize, IsVectorAlignment, given_or, IsAlignment, IsLargestAlignment, Fits, IsMultiple, Extent, Placement, count_or, IsSize, HasExtents}
use Rattle.wgsl_shader_type.specs.LayoutOf.{◌>>=◌, scalar_layer, scalar_size, vector_scalars, nonzero, within, own_align, largest_after, align_of, rounded, member_end, end_after, struct_size, size_of}
use Rattle.wgsl_shader_type.proofs.LayoutSteps as step
use Rattle.std.proofs.Math.Nat.{mul-pos}
use Rattle.wgsl_shader_type.proofs.Rounding.{round_up, rounds, bound, fits_if_within, within_if_fits, positive_if_nonzero, nonzero_if_positive, rounded_if, rounds_if}

nothing : {A G : Type 0} (n : A) → None ≡ Some n → G
nothing n h = absurd (true≢false (sym (ap is_some h)))

in_some : (m n : ℕ) → Some m ≡ Some n → m ≡ n
in_some m n h = cc

-- ---- scalars and vectors

pub scalar_if : {t : ShaderType} {n : ℕ} → IsScalarSize t n → scalar_size t ≡ Some n
scalar_if IsScalarSize.bool = ap scalar_layer v.outs-Bool
scalar_if IsScalarSize.i32 = ap scalar_layer v.outs-I32
scalar_if IsScalarSize.u32 = ap scalar_layer v.outs-U32
scalar_if IsScalarSize.f32 = ap scalar_layer v.outs-F32
scalar_if IsScalarSize.f16 = ap scalar_layer v.outs-F16

at_scalar : (t : ShaderType) (x : ShaderType-F ShaderType) (m n : ℕ) → roll-ShaderType x ≡ t → Some m ≡ Some n → IsScalarSize t m → IsScalarSize (roll-ShaderType x) n
at_scalar t x m n e h s = subst (λ u. IsScalarSize u n) (sym e) (subst (IsScalarSize t) (in_some m n h) s)

scalar_layer_is : (x : ShaderType-F ShaderType) (n : ℕ) → scalar_layer x ≡ Some n → IsScalarSize (roll-ShaderType x) n
scalar_layer_is ShaderType-F.Bool n h = at_scalar v.Bool ShaderType-F.Bool 4 n v.rolls-Bool h IsScalarSize.bool
scalar_layer_is ShaderType-F.I32 n h = at_scalar v.I32 ShaderType-F.I32 4 n v.rolls-I32 h IsScalarSize.i32
scalar_layer_is ShaderType-F.U32 n h = at_scalar v.U32 ShaderType-F.U32 4 n v.rolls-U32 h IsScalarSize.u32
scalar_layer_is ShaderType-F.F32 n h = at_scalar v.F32 ShaderType-F.F32 4 n v.rolls-F32 h IsScalarSize.f32
scalar_layer_is ShaderType-F.F16 n h = at_scalar v.F16 ShaderType-F.F16 2 n v.rolls-F16 h IsScalarSize.f16
scalar_layer_is x n h = nothing n h

pub scalar_is : (t : ShaderType) (n : ℕ) → scalar_size t ≡ Some n → IsScalarSize t n
scalar_is t n h = subst (λ u. IsScalarSize u n) (roll-out-ShaderType t) (scalar_layer_is (out-ShaderType t) n h)

scalar_positive : {t : ShaderType} {n : ℕ} → IsScalarSize t n → 0 < n
scalar_positive IsScalarSize.bool = omega arith
scalar_positive IsScalarSize.i32 = omega arith
scalar_positive IsScalarSize.u32 = omega arith
scalar_positive IsScalarSize.f32 = omega arith
scalar_positive IsScalarSize.f16 = omega arith

vector_if : {k m : ℕ} → IsVectorAlignment k m → vector_scalars k ≡ Some m
vector_if IsVectorAlignment.two = refl
vector_if IsVectorAlignment.three = refl
vector_if IsVectorAlignment.four = refl

at_vector : (k j m n : ℕ) → (k == j) ≡ true → Some m ≡ Some n → IsVectorAlignment j m → IsVectorAlignment k n
at_vector k j m n e h s = subst (λ i. IsVectorAlignment i n) (sym (eqb-true k j e)) (subst (IsVectorAlignment j) (in_some m n h) s)

by_tests : (k n : ℕ) (a b c : Bool) → (k == 2) ≡ a → (k == 3) ≡ b → (k == 4) ≡ c → cond a (Some 2) (cond b (Some 4) (cond c (Some 4) None)) ≡ Some n → IsVectorAlignment k n
by_tests k n true b c p q r h = at_vector k 2 2 n p h IsVectorAlignment.two
by_tests k n false true c p q r h = at_vector k 3 4 n q h IsVectorAlignment.three
by_tests k n false false true p q r h = at_vector k 4 4 n r h IsVectorAlignment.four
by_tests k n false false false p q r h = nothing n h

vector_is : (k n : ℕ) → vector_scalars k ≡ Some n → IsVectorAlignment k n
vector_is k n h = by_tests k n (k == 2) (k == 3) (k == 4) refl refl refl h

vector_positive : {k m : ℕ} → IsVectorAlignment k m → 0 < m
vector_positive IsVectorAlignment.two = omega arith
vector_positive IsVectorAlignment.three = omega arith
vector_positive IsVectorAlignment.four = omega arith

-- ---- alignments

scalar_align : {t : ShaderType} {n : ℕ} → IsScalarSize t n → align_of t ≡ Some n
scalar_align IsScalarSize.bool = step.align_of_bool
scalar_align IsScalarSize.i32 = step.align_of_i32
scalar_align IsScalarSize.u32 = step.align_of_u32
scalar_align IsScalarSize.f32 = step.align_of_f32
scalar_align IsScalarSize.f16 = step.align_of_f16

own_if : (m : StructMemberTypeOf ShaderType) (a : ℕ) → align_of m.ty ≡ Some a → 0 < given_or m.align a → own_align align_of m ≡ Some (given_or m.align a)
own_if m a h positive = ap (λ o. o >>= λ natural. nonzero (given_or m.align natural)) h ∙ nonzero_if_positive (given_or m.align a) positive

mutual
  pub align_if : {t : ShaderType} {a : ℕ} → IsAlignment t a → align_of t ≡ Some a
  align_if (IsAlignment.scalar s) = scalar_align s
  align_if (IsAlignment.vector {t = t} {components = k} s w) =
      step.align_of_vector k t ∙ (λ i. scalar_if s i >>= λ size. vector_if w i >>= λ scalars. Some (scalars * size))
  align_if (IsAlignment.array {t = t} count h) = step.align_of_array t count ∙ align_if h
  align_if (IsAlignment.struct s {largest = n} h positive) =
      let most : max 0 n ≡ n = omega arith in
      step.align_of_struct s ∙ ap (λ o. o >>= nonzero) (largest_if h 0) ∙ ap nonzero most ∙ nonzero_if_positive n positive

  largest_if : {ms : List (StructMemberTypeOf ShaderType)} {n : ℕ} → IsLargestAlignment ms n → (most : ℕ) → largest_after align_of most ms ≡ Some (max most n)
  largest_if IsLargestAlignment.none most = let e : most ≡ max most 0 = omega arith in ap Some e
  largest_if (IsLargestAlignment.more {m = m} {ms = ms} {align = a} {rest = rest} h positive others) most =
      let own = given_or m.align a in
      let e : max (max most own) rest ≡ max most (max own rest) = omega arith in
      ap (λ o. o >>= λ here. largest_after align_of (max most here) ms) (own_if m a (align_if h) positive) ∙ largest_if others (max most own) ∙ ap Some e

pub align_positive : {t : ShaderType} {a : ℕ} → IsAlignment t a → 0 < a
align_positive (IsAlignment.scalar s) = scalar_positive s
align_positive (IsAlignment.vector {n = n} {scalars = k} s w) = let p = scalar_positive s in let q = vector_positive w in mul-pos q p
align_positive (IsAlignment.array count h) = align_positive h
align_positive (IsAlignment.struct s h positive) = positive

abbrev AlignIs : ShaderType → Type 0
AlignIs t = (a : ℕ) → align_of t ≡ Some a → IsAlignment t a

own_is : (m : StructMemberTypeOf ShaderType) → AlignIs m.ty → (own : ℕ) → own_align align_of m ≡ Some own
    → (a : ℕ) × IsAlignment m.ty a × (0 < given_or m.align a) × (given_or m.align a ≡ own)
own_is m is own h =
    let b = bound (align_of m.ty) (λ natural. nonzero (given_or m.align natural)) own h in
    let p = positive_if_nonzero (given_or m.align b.0) own b.2 in
    (b.0, is b.0 b.1, p.0, p.1)

largest_is : (ms : List (StructMemberTypeOf ShaderType)) → AllMembers AlignIs ms → (most n : ℕ) → largest_after align_of most ms ≡ Some n
    → (rest : ℕ) × IsLargestAlignment ms rest × (n ≡ max most rest)
largest_is [] all most n h = let e : most ≡ n = in_some most n h in (0, IsLargestAlignment.none, omega arith)
largest_is (m ∷ ms) all most n h =
    let b = bound (own_align align_of m) (λ own. largest_after align_of (max most own) ms) n h in
    let o = own_is m all.0 b.0 b.1 in
    let r = largest_is ms all.1 (max most b.0) n b.2 in
    (max (given_or m.align o.0) r.0, IsLargestAlignment.more o.1 o.2 r.1, omega arith)

align_cases : Cases AlignIs
align_cases = record {
  boolean = λ a h. at 4 a v.Bool (sym step.align_of_bool ∙ h) (IsAlignment.scalar IsScalarSize.bool);
  abstract_int = λ a h. nothing a (sym step.align_of_abstract_int ∙ h);
  abstract_float = λ a h. nothing a (sym step.align_of_abstract_float ∙ h);
  i32 = λ a h. at 4 a v.I32 (sym step.align_of_i32 ∙ h) (IsAlignment.scalar IsScalarSize.i32);
  u32 = λ a h. at 4 a v.U32 (sym step.align_of_u32 ∙ h) (IsAlignment.scalar IsScalarSize.u32);
  f32 = λ a h. at 4 a v.F32 (sym step.align_of_f32 ∙ h) (IsAlignment.scalar IsScalarSize.f32);
  f16 = λ a h. at 2 a v.F16 (sym step.align_of_f16 ∙ h) (IsAlignment.scalar IsScalarSize.f16);
  struct = λ s all a h.
      let b = bound (largest_after align_of 0 s.members) nonzero a (sym (step.align_of_struct s) ∙ h) in
      let r = largest_is s.members all 0 b.0 b.1 in
      let p = positive_if_nonzero b.0 a b.2 in
      let e : r.0 ≡ a = omega arith in
      subst (IsAlignment (v.Struct s)) e (IsAlignment.struct s r.1 (omega arith));
  array = λ t n is a h. IsAlignment.array n (is a (sym (step.align_of_array t n) ∙ h));
  vector = λ n t is a h.
      let b = bound (scalar_size t) (λ size. vector_scalars n >>= λ scalars. Some (scalars * size)) a (sym (step.align_of_vector n t) ∙ h) in
      let k = bound (vector_scalars n) (λ scalars. Some (scalars * b.0)) a b.2 in
      subst (IsAlignment (v.Vec n t)) (in_some (k.0 * b.0) a k.2) (IsAlignment.vector (scalar_is t b.0 b.1) (vector_is n k.0 k.1));
  pointer = λ s t x is a h. nothing a (sym (step.align_of_pointer s t x) ∙ h);
  reference = λ s t x is a h. nothing a (sym (step.align_of_reference s t x) ∙ h);
}
  where
    at : (m n : ℕ) (t : ShaderType) → Some m ≡ Some n → IsAlignment t m → IsAlignment t n
    at m n t h is = subst (IsAlignment t) (in_some m n h) is

pub align_is : (t : ShaderType) (a : ℕ) → align_of t ≡ Some a → IsAlignment t a
align_is = induction AlignIs align_cases

-- what is computed is the alignment, and where nothing is there is none
pub alignment_is : (t : ShaderType) (o : Option ℕ) → o ≡ align_of t → MatchOption o ((a : ℕ) → IsAlignment t a → ⊥) (IsAlignment t)
alignment_is t None h = λ a is. nothing a (h ∙ align_if is)
alignment_is t (Some a) h = align_is t a (sym h)

-- ---- placements

placement_end : {es : List Extent} {from total : ℕ} → Placement es from total → from ≤ total
placement_end (Placement.done h) = h
placement_end (Placement.place at h multiple rest) = let e = placement_end rest in omega arith

placement_earlier : {es : List Extent} {from total : ℕ} (before : ℕ) → before ≤ from → Placement es from total → Placement es before total
placement_earlier before h (Placement.done p) = Placement.done (omega arith)
placement_earlier before h (Placement.place at p multiple rest) = Placement.place at (omega arith) multiple rest

placement_later : {es : List Extent} {from total : ℕ} (after : ℕ) → total ≤ after → Placement es from total → Placement es from after
placement_later after h (Placement.done p) = Placement.done (omega arith)
placement_later after h (Placement.place at p multiple rest) = Placement.place at p multiple (placement_later after h rest)

done_inverted : {from total : ℕ} → Placement [] from total → from ≤ total
done_inverted (Placement.done h) = h

place_inverted : {e : Extent} {es : List Extent} {from total : ℕ} → Placement (e ∷ es) from total
    → (at : ℕ) × (from ≤ at) × IsMultiple e.align at × Placement es (at + e.size) total
place_inverted (Placement.place at h multiple rest) = (at, h, multiple, rest)

module _ (unsized : Option ℕ) where
  abbrev Has : ShaderType → ℕ → Type 0
  Has t n = size_of unsized t ≡ Some n

  end_step : (m : StructMemberTypeOf ShaderType) (a s from at : ℕ) → own_align align_of m ≡ Some a → Has m.ty s → rounded a from ≡ Some at → Fits (at + given_or m.size s)
      → member_end align_of (size_of unsized) from m ≡ Some (at + given_or m.size s)
  end_step m a s from at p q r fits =
      (λ i. p i >>= λ own. q i >>= λ natural. rounded own from >>= λ here. within (here + given_or m.size natural))
      ∙ ap (λ o. o >>= λ here. within (here + given_or m.size s)) r ∙ within_if_fits (at + given_or m.size s) fits

  scalar_has : {t : ShaderType} {n : ℕ} → IsScalarSize t n → Has t n
  scalar_has IsScalarSize.bool = step.size_of_bool unsized
  scalar_has IsScalarSize.i32 = step.size_of_i32 unsized
  scalar_has IsScalarSize.u32 = step.size_of_u32 unsized
  scalar_has IsScalarSize.f32 = step.size_of_f32 unsized
  scalar_has IsScalarSize.f16 = step.size_of_f16 unsized

  mutual
    pub size_if : {t : ShaderType} {n : ℕ} → IsSize unsized t n → Has t n
    size_if (IsSize.scalar s) = scalar_has s
    size_if (IsSize.vector {t = t} {components = k} s w) =
        step.size_of_vector unsized k t ∙ (λ i. scalar_if s i >>= λ size. vector_if w i >>= λ scalars. Some (k * size))
    size_if (IsSize.array {t = t} {align = a} {size = s} {stride = d} {count = c} {length = l} is has round fits counts total) =
        step.size_of_array unsized t l
        ∙ (λ i. align_if is i >>= λ align. size_if has i >>= λ size. rounded align size >>= λ stride. counts i >>= λ count. within (count * stride))
        ∙ ap (λ o. o >>= λ stride. within (c * stride)) (rounded_if a s d (align_positive is) round fits) ∙ within_if_fits (c * d) total
    size_if (IsSize.struct s {align = a} {total = n} {extents = es} is has least fits) =
        let e = end_if has 0 n fits least.placement in
        step.size_of_struct unsized s ∙ (λ i. struct_size (align_if is i) (e.1 i))
        ∙ rounded_if a e.0 n (align_positive is) (record {
          multiple = least.multiple;
          past = e.2;
          least = λ m multiple past. least.least m multiple (placement_later m past e.3);
        }) fits

    end_if : {ms : List (StructMemberTypeOf ShaderType)} {es : List Extent} → HasExtents unsized ms es → (from total : ℕ) → Fits total → Placement es from total
        → (end : ℕ) × (end_after align_of (size_of unsized) from ms ≡ Some end) × (end ≤ total) × Placement es from end
    end_if HasExtents.none from total fits p = let h = done_inverted p in (from, refl, h, Placement.done (omega arith))
    end_if (HasExtents.more {m = m} {ms = ms} {align = a} {size = s} {extents = es} is positive has others) from total fits p =
        let own = given_or m.align a in
        let long = given_or m.size s in
        let q = place_inverted p in
        let r = rounds own from positive in
        let at = round_up own from in
        let near : at ≤ q.0 = r.least q.0 q.2 q.1 in
        let rest = placement_earlier (at + long) (omega arith) q.3 in
        let last = placement_end rest in
        let e = end_if others (at + long) total fits rest in
        let first = end_step m own s from at (own_if m a (align_if is) positive) (size_if has) (rounded_if own from at positive r (omega arith)) (omega arith) in
        (e.0, ap (λ o. o >>= λ end. end_after align_of (size_of unsized) end ms) first ∙ e.1, e.2, Placement.place at r.past r.multiple e.3)

  abbrev SizeIs : ShaderType → Type 0
  SizeIs t = (n : ℕ) → Has t n → IsSize unsized t n

  end_is : (ms : List (StructMemberTypeOf ShaderType)) → AllMembers SizeIs ms → (from end : ℕ) → end_after align_of (size_of unsized) from ms ≡ Some end
      → (es : List Extent) × HasExtents unsized ms es × Placement es from end × ((total : ℕ) → Placement es from total → end ≤ total)
  end_is [] all from end h =
      let e : from ≡ end = in_some from end h in
      ([], HasExtents.none, Placement.done (omega arith), λ total p. let q = done_inverted p in omega arith)
  end_is (m ∷ ms) all from end h =
      let b = bound (member_end align_of (size_of unsized) from m) (λ end. end_after align_of (size_of unsized) end ms) end h in
      let own = bound (own_align align_of m) (λ own. size_of unsized m.ty >>= λ natural. rounded own from >>= λ at. within (at + given_or m.size natural)) b.0 b.1 in
      let natural = bound (size_of unsized m.ty) (λ natural. rounded own.0 from >>= λ at. within (at + given_or m.size natural)) b.0 own.2 in
      let at = bound (rounded own.0 from) (λ at. within (at + given_or m.size natural.0)) b.0 natural.2 in
      let o = own_is m (align_is m.ty) own.0 own.1 in
      let positive : 0 < own.0 = omega arith in
      let long = given_or m.size natural.0 in
      let round = rounds_if own.0 from at.0 positive at.1 in
      let fits = fits_if_within (at.0 + long) b.0 at.2 in
      let r = end_is ms all.1 b.0 end b.2 in
      let multiple = subst (λ k. IsMultiple k at.0) (sym o.3) round.0.multiple in (
        record { size = long; align = given_or m.align o.0 } ∷ r.0,
        HasExtents.more o.1 o.2 (all.0 natural.0 natural.1) r.1,
        Placement.place at.0 round.0.past multiple (subst (λ k. Placement r.0 k end) (sym fits.1) r.2),
        λ total p.
            let q = place_inverted p in
            let near : at.0 ≤ q.0 = round.0.least q.0 (subst (λ k. IsMultiple k q.0) o.3 q.2) q.1 in
            r.3 total (subst (λ k. Placement r.0 k total) fits.1 (placement_earlier (at.0 + long) (omega arith) q.3)),
      )

  scalar_at : (m n : ℕ) (t : ShaderType) → Some m ≡ Some n → IsSize unsized t m → IsSize unsized t n
  scalar_at m n t h is = subst (IsSize unsized t) (in_some m n h) is

  struct_is : (s : StructTypeOf ShaderType) → AllMembers SizeIs s.members → SizeIs (v.Struct s)
  struct_is s all n h =
      let align = bound (align_of (v.Struct s)) (λ a. end_after align_of (size_of unsized) 0 s.members >>= λ e. rounded a e) n (sym (step.size_of_struct unsized s) ∙ h) in
      let end = bound (end_after align_of (size_of unsized) 0 s.members) (λ e. rounded align.0 e) n align.2 in
      let is = align_is (v.Struct s) align.0 align.1 in
      let round = rounds_if align.0 end.0 n (align_positive is) end.2 in
      let e = end_is s.members all 0 end.0 end.1 in
      IsSize.struct s is e.1 (record {
        multiple = round.0.multiple;
        placement = placement_later n round.0.past e.2;
        least = λ m multiple p. round.0.least m multiple (e.3 m p);
      }) round.1

  array_is : (t : ShaderType) (l : Option ℕ) → SizeIs t → SizeIs (v.Array t l)
  array_is t l part n h =
      let align = bound (align_of t) (λ a. size_of unsized t >>= λ s. rounded a s >>= λ d. count_or l unsized >>= λ c. within (c * d)) n (sym (step.size_of_array unsized t l) ∙ h) in
      let size = bound (size_of unsized t) (λ s. rounded align.0 s >>= λ d. count_or l unsized >>= λ c. within (c * d)) n align.2 in
      let stride = bound (rounded align.0 size.0) (λ d. count_or l unsized >>= λ c. within (c * d)) n size.2 in
      let count = bound (count_or l unsized) (λ c. within (c * stride.0)) n stride.2 in
      let is = align_is t align.0 align.1 in
      let round = rounds_if align.0 size.0 stride.0 (align_positive is) stride.1 in
      let total = fits_if_within (count.0 * stride.0) n count.2 in
      subst (IsSize unsized (v.Array t l)) total.1 (IsSize.array is (part size.0 size.1) round.0 round.1 count.1 total.0)

  vector_is_size : (k : ℕ) (t : ShaderType) → SizeIs (v.Vec k t)
  vector_is_size k t n h =
      let size = bound (scalar_size t) (λ size. vector_scalars k >>= λ scalars. Some (k * size)) n (sym (step.size_of_vector unsized k t) ∙ h) in
      let scalars = bound (vector_scalars k) (λ scalars. Some (k * size.0)) n size.2 in
      subst (IsSize unsized (v.Vec k t)) (in_some (k * size.0) n scalars.2) (IsSize.vector (scalar_is t size.0 size.1) (vector_is k scalars.0 scalars.1))

  size_cases : Cases SizeIs
  size_cases = record {
    boolean = λ n h. scalar_at 4 n v.Bool (sym (step.size_of_bool unsized) ∙ h) (IsSize.scalar IsScalarSize.bool);
    abstract_int = λ n h. nothing n (sym (step.size_of_abstract_int unsized) ∙ h);
    abstract_float = λ n h. nothing n (sym (step.size_of_abstract_float unsized) ∙ h);
    i32 = λ n h. scalar_at 4 n v.I32 (sym (step.size_of_i32 unsized) ∙ h) (IsSize.scalar IsScalarSize.i32);
    u32 = λ n h. scalar_at 4 n v.U32 (sym (step.size_of_u32 unsized) ∙ h) (IsSize.scalar IsScalarSize.u32);
    f32 = λ n h. scalar_at 4 n v.F32 (sym (step.size_of_f32 unsized) ∙ h) (IsSize.scalar IsScalarSize.f32);
    f16 = λ n h. scalar_at 2 n v.F16 (sym (step.size_of_f16 unsized) ∙ h) (IsSize.scalar IsScalarSize.f16);
    struct = struct_is;
    array = array_is;
    vector = λ k t part. vector_is_size k t;
    pointer = λ s t x part n h. nothing n (sym (step.size_of_pointer unsized s t x) ∙ h);
    reference = λ s t x part n h. nothing n (sym (step.size_of_reference unsized s t x) ∙ h);
  }

  size_is : (t : ShaderType) → SizeIs t
  size_is = induction SizeIs size_cases

  -- what is computed is the size, and where nothing is there is none
  pub size_found : (t : ShaderType) (o : Option ℕ) → o ≡ size_of unsized t → MatchOption o ((n : ℕ) → IsSize unsized t n → ⊥) (IsSize unsized t)
  size_found t None h = λ n is. nothing n (h ∙ size_if is)
  size_found t (Some n) h = size_is t n (sym h)
