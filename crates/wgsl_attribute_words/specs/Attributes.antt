-- What attributes and the templates of `var` are, by their words and arguments. Nothing stands for what fails a check.
use Rattle.std.specs.Prelude.{ℕ, List, [], ◌∷◌, Option, Some, None}
use Rattle.std.specs.Option.{option_map}
use Rattle.wgsl_path.specs.declared.span.Spanned.{Spanned}
use Rattle.wgsl_words.specs.declared.enumerations.address.AddressSpace.{AddressSpace}
use Rattle.wgsl_words.specs.declared.enumerations.address.AccessMode.{AccessMode}
use Rattle.wgsl_words.specs.declared.enumerations.words.DiagnosticSeverity.{DiagnosticSeverity}
use Rattle.wgsl_words.specs.declared.enumerations.words.InterpolationType.{InterpolationType}
use Rattle.wgsl_words.specs.declared.enumerations.words.InterpolationSampling.{InterpolationSampling}
use Rattle.wgsl_expressions.specs.declared.expression.Expression.{Expression}
use Rattle.wgsl_expressions.specs.declared.attributes.attribute.Attribute.{Attribute}
use Rattle.wgsl_expressions.specs.declared.attributes.attribute.Attribute.TheVariants as attribute
use Rattle.wgsl_attribute_words.specs.declared.word.AttributeWord.{AttributeWord}
use Rattle.wgsl_attribute_words.specs.declared.word.AttributeWord.TheVariants as word
use Rattle.wgsl_attribute_words.specs.Words.{word_named}
use Rattle.wgsl_attribute_words.specs.Names.{severity_in, interpolation_type_in, interpolation_sampling_in, builtin_value_in, address_space_in, access_mode_in, rule_of}

-- without parentheses
abbrev pub without_arguments : AttributeWord → Option Attribute
without_arguments word.Const = Some attribute.Const
without_arguments word.Invariant = Some attribute.Invariant
without_arguments word.MustUse = Some attribute.MustUse
without_arguments word.Vertex = Some attribute.Vertex
without_arguments word.Fragment = Some attribute.Fragment
without_arguments word.Compute = Some attribute.Compute
without_arguments word.Publish = Some attribute.Publish
without_arguments word.Else = Some attribute.Else
without_arguments _ = None

abbrev pub interpolated : Option InterpolationType → Option InterpolationSampling → Option Attribute
interpolated None sampling = None
interpolated (Some ty) sampling = Some (attribute.Interpolate (record { ty = ty; sampling = sampling }))

abbrev pub workgroup : Spanned Expression → Option (Spanned Expression) → Option (Spanned Expression) → Attribute
workgroup x y z = attribute.WorkgroupSize (record { x = x; y = y; z = z })

abbrev pub builtin : Spanned Expression → Option Attribute
builtin x = option_map attribute.Builtin (builtin_value_in x)

-- with one argument
abbrev pub with_one : AttributeWord → Spanned Expression → Option Attribute
with_one word.Align x = Some (attribute.Align x)
with_one word.Binding x = Some (attribute.Binding x)
with_one word.BlendSrc x = Some (attribute.BlendSrc x)
with_one word.Group x = Some (attribute.Group x)
with_one word.Id x = Some (attribute.Id x)
with_one word.Location x = Some (attribute.Location x)
with_one word.Size x = Some (attribute.Size x)
with_one word.If x = Some (attribute.If x)
with_one word.Elif x = Some (attribute.Elif x)
with_one word.Builtin x = builtin x
with_one word.Interpolate x = interpolated (interpolation_type_in x) None
with_one word.WorkgroupSize x = Some (workgroup x None None)
with_one _ x = None

abbrev pub sampled : Option InterpolationType → Option InterpolationSampling → Option Attribute
sampled ty None = None
sampled ty (Some sampling) = interpolated ty (Some sampling)

abbrev pub diagnosed : Option DiagnosticSeverity → Option (List ℕ) → Option Attribute
diagnosed (Some severity) (Some rule) = Some (attribute.Diagnostic (record { severity = severity; rule = rule }))
diagnosed _ _ = None

-- with two arguments
abbrev pub with_two : AttributeWord → Spanned Expression → Spanned Expression → Option Attribute
with_two word.Interpolate x y = sampled (interpolation_type_in x) (interpolation_sampling_in y)
with_two word.Diagnostic x y = diagnosed (severity_in x) (rule_of y.node)
with_two word.WorkgroupSize x y = Some (workgroup x (Some y) None)
with_two _ x y = None

-- with three arguments
abbrev pub with_three : AttributeWord → Spanned Expression → Spanned Expression → Spanned Expression → Option Attribute
with_three word.WorkgroupSize x y z = Some (workgroup x (Some y) (Some z))
with_three _ x y z = None

-- with parentheses
abbrev pub with_arguments : AttributeWord → List (Spanned Expression) → Option Attribute
with_arguments w (x ∷ []) = with_one w x
with_arguments w (x ∷ y ∷ []) = with_two w x y
with_arguments w (x ∷ y ∷ z ∷ []) = with_three w x y z
with_arguments w _ = None

abbrev pub known_attribute : AttributeWord → Option (List (Spanned Expression)) → Option Attribute
known_attribute w None = without_arguments w
known_attribute w (Some arguments) = with_arguments w arguments

-- any other word, with any arguments
abbrev pub custom : List ℕ → Option (List (Spanned Expression)) → Attribute
custom name arguments = attribute.Custom (record { name = name; arguments = arguments })

abbrev pub attribute_named : Option AttributeWord → List ℕ → Option (List (Spanned Expression)) → Option Attribute
attribute_named (Some w) name arguments = known_attribute w arguments
attribute_named None name arguments = Some (custom name arguments)

-- the attribute of this word and these arguments; without parentheses it has none, which an empty list is not
abbrev pub attribute_of : List ℕ → Option (List (Spanned Expression)) → Option Attribute
attribute_of name arguments = attribute_named (word_named name) name arguments

-- ---- the templates of `var`

abbrev pub space_alone : Spanned Expression → Option (AddressSpace × Option AccessMode)
space_alone x = option_map (λ space. (space, None)) (address_space_in x)

abbrev pub moded : Option AddressSpace → Option AccessMode → Option (AddressSpace × Option AccessMode)
moded (Some space) (Some mode) = Some (space, Some mode)
moded _ _ = None

abbrev pub space_and_mode : Spanned Expression → Spanned Expression → Option (AddressSpace × Option AccessMode)
space_and_mode x y = moded (address_space_in x) (access_mode_in y)

-- an address space, and maybe an access mode
abbrev pub template_of : List (Spanned Expression) → Option (AddressSpace × Option AccessMode)
template_of (x ∷ []) = space_alone x
template_of (x ∷ y ∷ []) = space_and_mode x y
template_of _ = None
