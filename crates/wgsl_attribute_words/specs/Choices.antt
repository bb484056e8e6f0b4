-- The value of fixed choice that a word names, if it names one.
use Rattle.std.specs.Prelude.{ℕ, List, [], ◌∷◌, Bool, false, Option, Some, None, if◌then◌else◌}
use Rattle.std.specs.Str.{bytes_eq}
use Rattle.wgsl_words.specs.declared.enumerations.words.DiagnosticSeverity.{DiagnosticSeverity}
use Rattle.wgsl_words.specs.declared.enumerations.words.DiagnosticSeverity.TheVariants as diagnostic_severity
use Rattle.wgsl_words.specs.declared.enumerations.words.InterpolationType.{InterpolationType}
use Rattle.wgsl_words.specs.declared.enumerations.words.InterpolationType.TheVariants as interpolation_type
use Rattle.wgsl_words.specs.declared.enumerations.words.InterpolationSampling.{InterpolationSampling}
use Rattle.wgsl_words.specs.declared.enumerations.words.InterpolationSampling.TheVariants as interpolation_sampling
use Rattle.wgsl_words.specs.declared.enumerations.builtin.BuiltinValue.{BuiltinValue}
use Rattle.wgsl_words.specs.declared.enumerations.builtin.BuiltinValue.TheVariants as builtin_value
use Rattle.wgsl_words.specs.declared.enumerations.address.AddressSpace.{AddressSpace}
use Rattle.wgsl_words.specs.declared.enumerations.address.AddressSpace.TheVariants as address_space
use Rattle.wgsl_words.specs.declared.enumerations.address.AccessMode.{AccessMode}
use Rattle.wgsl_words.specs.declared.enumerations.address.AccessMode.TheVariants as access_mode
use Rattle.wgsl_words.specs.Texts.{diagnostic_severity_spelled, interpolation_type_spelled, interpolation_sampling_spelled, builtin_value_spelled, address_space_spelled, access_mode_spelled}

abbrev pub is_spelled : Option (List ℕ) → List ℕ → Bool
is_spelled None word = false
is_spelled (Some text) word = bytes_eq text word

-- the first of these values whose text the word is
abbrev pub named : {A : Type 0} → (A → Option (List ℕ)) → List A → List ℕ → Option A
named spelled [] word = None
named spelled (x ∷ xs) word = if is_spelled (spelled x) word then Some x else named spelled xs word

abbrev pub severity_of : List ℕ → Option DiagnosticSeverity
severity_of word = named diagnostic_severity_spelled (diagnostic_severity.Error ∷ diagnostic_severity.Warning ∷ diagnostic_severity.Info ∷ diagnostic_severity.Off ∷ []) word

abbrev pub interpolation_type_of : List ℕ → Option InterpolationType
interpolation_type_of word = named interpolation_type_spelled (interpolation_type.Perspective ∷ interpolation_type.Linear ∷ interpolation_type.Flat ∷ []) word

abbrev pub interpolation_sampling_of : List ℕ → Option InterpolationSampling
interpolation_sampling_of word = named interpolation_sampling_spelled (interpolation_sampling.Center ∷ interpolation_sampling.Centroid ∷ interpolation_sampling.Sample ∷ interpolation_sampling.First ∷ interpolation_sampling.Either ∷ []) word

abbrev pub builtin_value_of : List ℕ → Option BuiltinValue
builtin_value_of word = named builtin_value_spelled (builtin_value.VertexIndex ∷ builtin_value.InstanceIndex ∷ builtin_value.ClipDistances ∷ builtin_value.Position ∷ builtin_value.FrontFacing ∷ builtin_value.FragDepth ∷ builtin_value.SampleIndex ∷ builtin_value.SampleMask ∷ builtin_value.LocalInvocationId ∷ builtin_value.LocalInvocationIndex ∷ builtin_value.GlobalInvocationId ∷ builtin_value.WorkgroupId ∷ builtin_value.NumWorkgroups ∷ builtin_value.SubgroupInvocationId ∷ builtin_value.SubgroupSize ∷ []) word

abbrev pub address_space_of : List ℕ → Option AddressSpace
address_space_of word = named address_space_spelled (address_space.Function ∷ address_space.Private ∷ address_space.Workgroup ∷ address_space.Uniform ∷ address_space.Storage ∷ []) word

abbrev pub access_mode_of : List ℕ → Option AccessMode
access_mode_of word = named access_mode_spelled (access_mode.Read ∷ access_mode.Write ∷ access_mode.ReadWrite ∷ []) word
