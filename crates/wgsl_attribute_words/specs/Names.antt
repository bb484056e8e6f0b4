-- The names that expressions are.
use Rattle.std.specs.Prelude.{ℕ, List, ◌++◌, codes, Option, Some, None, Bool, ◌&&◌, is_some}
use Rattle.std.specs.Option.{option_map, option_and_then}
use Rattle.wgsl_path.specs.declared.span.Spanned.{Spanned}
use Rattle.wgsl_words.specs.declared.enumerations.address.AddressSpace.{AddressSpace}
use Rattle.wgsl_words.specs.declared.enumerations.address.AccessMode.{AccessMode}
use Rattle.wgsl_words.specs.declared.enumerations.builtin.BuiltinValue.{BuiltinValue}
use Rattle.wgsl_words.specs.declared.enumerations.words.DiagnosticSeverity.{DiagnosticSeverity}
use Rattle.wgsl_words.specs.declared.enumerations.words.InterpolationType.{InterpolationType}
use Rattle.wgsl_words.specs.declared.enumerations.words.InterpolationSampling.{InterpolationSampling}
use Rattle.wgsl_attribute_words.specs.Choices.{severity_of, interpolation_type_of, interpolation_sampling_of, builtin_value_of, address_space_of, access_mode_of}
use Rattle.wgsl_expressions.specs.declared.expression.Expression.{Expression, out-Expression}
use Rattle.wgsl_expressions.specs.declared.expression.Expression.TheOpen.{Expression-F}
use Rattle.wgsl_expressions.specs.declared.expression.NamedComponentExpressionOf.{NamedComponentExpressionOf}

-- a name without path and template
abbrev pub alone : {P T : Type 0} → Option P → Option T → List ℕ → Option (List ℕ)
alone None None name = Some name
alone _ _ name = None

abbrev pub layer_name : {A : Type 0} → Expression-F A → Option (List ℕ)
layer_name (Expression-F.TypeOrIdentifier x) = alone x.path x.template_args x.ident.name
layer_name _ = None

-- the name that an expression is, if it is no more than a name
abbrev pub name_of : Expression → Option (List ℕ)
name_of x = layer_name (out-Expression x)

abbrev pub two_names : NamedComponentExpressionOf Expression → Option (List ℕ)
two_names x = option_map (λ first. first ++ codes "." ++ x.component.name) (name_of x.base.node)

-- a rule of a diagnostic: a name, or two names with a period between
abbrev pub layer_rule : Expression-F Expression → Option (List ℕ)
layer_rule (Expression-F.NamedComponent x) = two_names x
layer_rule x = layer_name x

abbrev pub rule_of : Expression → Option (List ℕ)
rule_of x = layer_rule (out-Expression x)

-- whether two arguments have the form of a diagnostic's: a name, known as a severity or not, and a rule
abbrev pub is_setting : Spanned Expression → Spanned Expression → Bool
is_setting x y = is_some (name_of x.node) && is_some (rule_of y.node)

-- ---- the values of fixed choice that expressions name

abbrev pub severity_in : Spanned Expression → Option DiagnosticSeverity
severity_in x = option_and_then severity_of (name_of x.node)

abbrev pub interpolation_type_in : Spanned Expression → Option InterpolationType
interpolation_type_in x = option_and_then interpolation_type_of (name_of x.node)

abbrev pub interpolation_sampling_in : Spanned Expression → Option InterpolationSampling
interpolation_sampling_in x = option_and_then interpolation_sampling_of (name_of x.node)

abbrev pub builtin_value_in : Spanned Expression → Option BuiltinValue
builtin_value_in x = option_and_then builtin_value_of (name_of x.node)

abbrev pub address_space_in : Spanned Expression → Option AddressSpace
address_space_in x = option_and_then address_space_of (name_of x.node)

abbrev pub access_mode_in : Spanned Expression → Option AccessMode
access_mode_in x = option_and_then access_mode_of (name_of x.node)
