-- What is read is what the tables of words say.
use Rattle.std.proofs.Common.{◌≡◌, ◌≢◌, refl, sym, ap, ◌∙◌, subst, ℕ, List, [], ◌∷◌, Bool, true, false, Option, Some, None, codes}
use Rattle.std.proofs.lemmas.Slice.Eq.{bytes_eq-Decides}
use Rattle.std.specs.Str.{bytes_eq}
use Rattle.wgsl_words.specs.declared.enumerations.words.DiagnosticSeverity.{DiagnosticSeverity}
use Rattle.wgsl_words.specs.declared.enumerations.words.DiagnosticSeverity.TheVariants as diagnostic_severity
use Rattle.wgsl_words.specs.declared.enumerations.words.InterpolationType.{InterpolationType}
use Rattle.wgsl_words.specs.declared.enumerations.words.InterpolationType.TheVariants as interpolation_type
use Rattle.wgsl_words.specs.declared.enumerations.words.InterpolationSampling.{InterpolationSampling}
use Rattle.wgsl_words.specs.declared.enumerations.words.InterpolationSampling.TheVariants as interpolation_sampling
use Rattle.wgsl_words.specs.declared.enumerations.builtin.BuiltinValue.{BuiltinValue}
use Rattle.wgsl_words.specs.declared.enumerations.builtin.BuiltinValue.TheVariants as builtin_value
use Rattle.wgsl_words.specs.declared.enumerations.address.AddressSpace.{AddressSpace}
use Rattle.wgsl_words.specs.declared.enumerations.address.AddressSpace.TheVariants as address_space
use Rattle.wgsl_words.specs.declared.enumerations.address.AccessMode.{AccessMode}
use Rattle.wgsl_words.specs.declared.enumerations.address.AccessMode.TheVariants as access_mode
use Rattle.wgsl_words.specs.Texts.{diagnostic_severity_spelled, interpolation_type_spelled, interpolation_sampling_spelled, builtin_value_spelled, address_space_spelled, access_mode_spelled}
use Rattle.wgsl_attribute_words.specs.Choices.{is_spelled, named, severity_of, interpolation_type_of, interpolation_sampling_of, builtin_value_of, address_space_of, access_mode_of}

value_or : List ℕ → Option (List ℕ) → List ℕ
value_or word None = word
value_or word (Some text) = text

some_injective : {a b : List ℕ} → Some a ≡ Some b → a ≡ b
unfolding value_or
some_injective {a = a} e = ap (value_or a) e

false_of : (b : Bool) → (b ≡ true → ⊥) → b ≡ false
false_of true h = absurd (h refl)
false_of false h = refl

not_spelled : (o : Option (List ℕ)) (word : List ℕ) → (o ≢ Some word) → is_spelled o word ≡ false
not_spelled None word h = refl
not_spelled (Some text) word h = false_of (bytes_eq text word) (λ e. h (ap Some ((bytes_eq-Decides text word).0 e)))

pub none_named : {A : Type 0} (spelled : A → Option (List ℕ)) (xs : List A) (word : List ℕ) → ((x : A) → spelled x ≢ Some word) → named spelled xs word ≡ None
none_named spelled [] word h = refl
none_named spelled (x ∷ xs) word h = rw (not_spelled (spelled x) word (h x)) (none_named spelled xs word h)

pub severity_found : (x : DiagnosticSeverity) (word : List ℕ) → diagnostic_severity_spelled x ≡ Some word → severity_of word ≡ Some x
severity_found diagnostic_severity.Error word e = subst (λ w. severity_of w ≡ Some diagnostic_severity.Error) (some_injective e) refl
severity_found diagnostic_severity.Warning word e = subst (λ w. severity_of w ≡ Some diagnostic_severity.Warning) (some_injective e) refl
severity_found diagnostic_severity.Info word e = subst (λ w. severity_of w ≡ Some diagnostic_severity.Info) (some_injective e) refl
severity_found diagnostic_severity.Off word e = subst (λ w. severity_of w ≡ Some diagnostic_severity.Off) (some_injective e) refl

pub severity_none : (word : List ℕ) → ((x : DiagnosticSeverity) → diagnostic_severity_spelled x ≢ Some word) → severity_of word ≡ None
severity_none word h = none_named diagnostic_severity_spelled (diagnostic_severity.Error ∷ diagnostic_severity.Warning ∷ diagnostic_severity.Info ∷ diagnostic_severity.Off ∷ []) word h

pub interpolation_type_found : (x : InterpolationType) (word : List ℕ) → interpolation_type_spelled x ≡ Some word → interpolation_type_of word ≡ Some x
interpolation_type_found interpolation_type.Perspective word e = subst (λ w. interpolation_type_of w ≡ Some interpolation_type.Perspective) (some_injective e) refl
interpolation_type_found interpolation_type.Linear word e = subst (λ w. interpolation_type_of w ≡ Some interpolation_type.Linear) (some_injective e) refl
interpolation_type_found interpolation_type.Flat word e = subst (λ w. interpolation_type_of w ≡ Some interpolation_type.Flat) (some_injective e) refl

pub interpolation_type_none : (word : List ℕ) → ((x : InterpolationType) → interpolation_type_spelled x ≢ Some word) → interpolation_type_of word ≡ None
interpolation_type_none word h = none_named interpolation_type_spelled (interpolation_type.Perspective ∷ interpolation_type.Linear ∷ interpolation_type.Flat ∷ []) word h

pub interpolation_sampling_found : (x : InterpolationSampling) (word : List ℕ) → interpolation_sampling_spelled x ≡ Some word → interpolation_sampling_of word ≡ Some x
interpolation_sampling_found interpolation_sampling.Center word e = subst (λ w. interpolation_sampling_of w ≡ Some interpolation_sampling.Center) (some_injective e) refl
interpolation_sampling_found interpolation_sampling.Centroid word e = subst (λ w. interpolation_sampling_of w ≡ Some interpolation_sampling.Centroid) (some_injective e) refl
interpolation_sampling_found interpolation_sampling.Sample word e = subst (λ w. interpolation_sampling_of w ≡ Some interpolation_sampling.Sample) (some_injective e) refl
interpolation_sampling_found interpolation_sampling.First word e = subst (λ w. interpolation_sampling_of w ≡ Some interpolation_sampling.First) (some_injective e) refl
interpolation_sampling_found interpolation_sampling.Either word e = subst (λ w. interpolation_sampling_of w ≡ Some interpolation_sampling.Either) (some_injective e) refl

pub interpolation_sampling_none : (word : List ℕ) → ((x : InterpolationSampling) → interpolation_sampling_spelled x ≢ Some word) → interpolation_sampling_of word ≡ None
interpolation_sampling_none word h = none_named interpolation_sampling_spelled (interpolation_sampling.Center ∷ interpolation_sampling.Centroid ∷ interpolation_sampling.Sample ∷ interpolation_sampling.First ∷ interpolation_sampling.Either ∷ []) word h

pub builtin_value_found : (x : BuiltinValue) (word : List ℕ) → builtin_value_spelled x ≡ Some word → builtin_value_of word ≡ Some x
builtin_value_found builtin_value.VertexIndex word e = subst (λ w. builtin_value_of w ≡ Some builtin_value.VertexIndex) (some_injective e) refl
builtin_value_found builtin_value.InstanceIndex word e = subst (λ w. builtin_value_of w ≡ Some builtin_value.InstanceIndex) (some_injective e) refl
builtin_value_found builtin_value.ClipDistances word e = subst (λ w. builtin_value_of w ≡ Some builtin_value.ClipDistances) (some_injective e) refl
builtin_value_found builtin_value.Position word e = subst (λ w. builtin_value_of w ≡ Some builtin_value.Position) (some_injective e) refl
builtin_value_found builtin_value.FrontFacing word e = subst (λ w. builtin_value_of w ≡ Some builtin_value.FrontFacing) (some_injective e) refl
builtin_value_found builtin_value.FragDepth word e = subst (λ w. builtin_value_of w ≡ Some builtin_value.FragDepth) (some_injective e) refl
builtin_value_found builtin_value.SampleIndex word e = subst (λ w. builtin_value_of w ≡ Some builtin_value.SampleIndex) (some_injective e) refl
builtin_value_found builtin_value.SampleMask word e = subst (λ w. builtin_value_of w ≡ Some builtin_value.SampleMask) (some_injective e) refl
builtin_value_found builtin_value.LocalInvocationId word e = subst (λ w. builtin_value_of w ≡ Some builtin_value.LocalInvocationId) (some_injective e) refl
builtin_value_found builtin_value.LocalInvocationIndex word e = subst (λ w. builtin_value_of w ≡ Some builtin_value.LocalInvocationIndex) (some_injective e) refl
builtin_value_found builtin_value.GlobalInvocationId word e = subst (λ w. builtin_value_of w ≡ Some builtin_value.GlobalInvocationId) (some_injective e) refl
builtin_value_found builtin_value.WorkgroupId word e = subst (λ w. builtin_value_of w ≡ Some builtin_value.WorkgroupId) (some_injective e) refl
builtin_value_found builtin_value.NumWorkgroups word e = subst (λ w. builtin_value_of w ≡ Some builtin_value.NumWorkgroups) (some_injective e) refl
builtin_value_found builtin_value.SubgroupInvocationId word e = subst (λ w. builtin_value_of w ≡ Some builtin_value.SubgroupInvocationId) (some_injective e) refl
builtin_value_found builtin_value.SubgroupSize word e = subst (λ w. builtin_value_of w ≡ Some builtin_value.SubgroupSize) (some_injective e) refl

pub builtin_value_none : (word : List ℕ) → ((x : BuiltinValue) → builtin_value_spelled x ≢ Some word) → builtin_value_of word ≡ None
builtin_value_none word h = none_named builtin_value_spelled (builtin_value.VertexIndex ∷ builtin_value.InstanceIndex ∷ builtin_value.ClipDistances ∷ builtin_value.Position ∷ builtin_value.FrontFacing ∷ builtin_value.FragDepth ∷ builtin_value.SampleIndex ∷ builtin_value.SampleMask ∷ builtin_value.LocalInvocationId ∷ builtin_value.LocalInvocationIndex ∷ builtin_value.GlobalInvocationId ∷ builtin_value.WorkgroupId ∷ builtin_value.NumWorkgroups ∷ builtin_value.SubgroupInvocationId ∷ builtin_value.SubgroupSize ∷ []) word h

pub address_space_found : (x : AddressSpace) (word : List ℕ) → address_space_spelled x ≡ Some word → address_space_of word ≡ Some x
address_space_found address_space.Function word e = subst (λ w. address_space_of w ≡ Some address_space.Function) (some_injective e) refl
address_space_found address_space.Private word e = subst (λ w. address_space_of w ≡ Some address_space.Private) (some_injective e) refl
address_space_found address_space.Workgroup word e = subst (λ w. address_space_of w ≡ Some address_space.Workgroup) (some_injective e) refl
address_space_found address_space.Uniform word e = subst (λ w. address_space_of w ≡ Some address_space.Uniform) (some_injective e) refl
address_space_found address_space.Storage word e = subst (λ w. address_space_of w ≡ Some address_space.Storage) (some_injective e) refl
address_space_found address_space.Handle word e = absurd cc

pub address_space_none : (word : List ℕ) → ((x : AddressSpace) → address_space_spelled x ≢ Some word) → address_space_of word ≡ None
address_space_none word h = none_named address_space_spelled (address_space.Function ∷ address_space.Private ∷ address_space.Workgroup ∷ address_space.Uniform ∷ address_space.Storage ∷ []) word h

pub access_mode_found : (x : AccessMode) (word : List ℕ) → access_mode_spelled x ≡ Some word → access_mode_of word ≡ Some x
access_mode_found access_mode.Read word e = subst (λ w. access_mode_of w ≡ Some access_mode.Read) (some_injective e) refl
access_mode_found access_mode.Write word e = subst (λ w. access_mode_of w ≡ Some access_mode.Write) (some_injective e) refl
access_mode_found access_mode.ReadWrite word e = subst (λ w. access_mode_of w ≡ Some access_mode.ReadWrite) (some_injective e) refl

pub access_mode_none : (word : List ℕ) → ((x : AccessMode) → access_mode_spelled x ≢ Some word) → access_mode_of word ≡ None
access_mode_none word h = none_named access_mode_spelled (access_mode.Read ∷ access_mode.Write ∷ access_mode.ReadWrite ∷ []) word h
