-- Which checks fail: of the arguments of an attribute, of the template of `var`, and of the severity of a diagnostic.
use Rattle.std.specs.Prelude.{List, [], ◌∷◌, Option, Some, None, Bool, true, false}
use Rattle.std.specs.Option.{option_map}
use Rattle.wgsl_base.specs.Tops.{first}
use Rattle.wgsl_path.specs.declared.span.Span.{Span}
use Rattle.wgsl_path.specs.declared.span.Spanned.{Spanned}
use Rattle.wgsl_expressions.specs.declared.expression.Expression.{Expression}
use Rattle.wgsl_expressions.specs.declared.attributes.attribute.Attribute.{Attribute}
use Rattle.wgsl_expressions.specs.declared.attributes.attribute.Attribute.TheVariants.{Custom}
use Rattle.wgsl_simple_statements.specs.declared.declaration.DeclarationKind.TheVariants.{Var}
use Rattle.wgsl_words.specs.declared.enumerations.words.DiagnosticSeverity.{DiagnosticSeverity}
use Rattle.wgsl_attribute_words.specs.Choices.{severity_of}
use Rattle.wgsl_reduce_actions.specs.AttributeWord.{AttributeWord}
use Rattle.wgsl_reduce_actions.specs.AttributeWord.TheVariants.{Diagnostic}
use Rattle.wgsl_reduce_actions.specs.Words.{word_named}
use Rattle.wgsl_reduce_actions.specs.Names.{severity_in, is_setting}
use Rattle.wgsl_semantic_values.specs.declared.part.Part.{Part}
use Rattle.wgsl_semantic_values.specs.declared.part.Part.TheVariants as part
use Rattle.wgsl_semantic_values.specs.declared.label.Label.{Label}
use Rattle.wgsl_semantic_values.specs.declared.label.Label.TheVariants as l
use Rattle.wgsl_semantic_values.specs.declared.label.AttributeLabel.TheVariants.{VarIn}
use Rattle.wgsl_semantic_values.specs.declared.label.DirectiveLabel.TheVariants as directive
use Rattle.wgsl_lr_driver.specs.declared.phrase.Check.{Check}
use Rattle.wgsl_lr_driver.specs.declared.phrase.Check.TheVariants as check
use Rattle.wgsl_lr_driver.specs.declared.phrase.Failure.{Failure}

abbrev pub unless_severity : Option DiagnosticSeverity → Check
unless_severity (Some severity) = check.Attribute
unless_severity None = check.DiagnosticSeverity

-- arguments of a diagnostic that fail: by their form, else by the severity
abbrev pub of_setting : Bool → Option DiagnosticSeverity → Check
of_setting false severity = check.Attribute
of_setting true severity = unless_severity severity

abbrev pub of_word : AttributeWord → Option (List (Spanned Expression)) → Check
of_word Diagnostic (Some (x ∷ y ∷ [])) = of_setting (is_setting x y) (severity_in x)
of_word _ _ = check.Attribute

-- An attribute that is custom though its word is known has failed its check.
abbrev pub attribute_failed : Attribute → Option Check
attribute_failed (Custom x) = option_map (λ w. of_word w x.arguments) (word_named x.name)
attribute_failed _ = None

-- So has a template of `var` that says nothing.
abbrev pub template_failed : Label → Option Check
template_failed (l.Attribute VarIn) = Some check.VarTemplate
template_failed _ = None

abbrev pub made_failed : Label → Part → Option Check
made_failed label (part.Attribute x) = attribute_failed x.node
made_failed label (part.Kind (Var None)) = template_failed label
made_failed _ _ = None

abbrev pub unknown_severity : Option DiagnosticSeverity → Option Check
unknown_severity (Some severity) = None
unknown_severity None = Some check.DiagnosticSeverity

abbrev pub part_severity : Option Part → Option Check
part_severity (Some (part.Ident x)) = unknown_severity (severity_of x.name)
part_severity _ = None

-- the severity of a directive, its first part
abbrev pub severity_failed : Label → List Part → Option Check
severity_failed (l.Directive directive.Diagnostic) parts = part_severity (first parts)
severity_failed _ _ = None

abbrev pub first_check : Option Check → Option Check → Option Check
first_check (Some c) other = Some c
first_check None other = other

abbrev pub failure_at : Span → Option Check → Option Failure
failure_at s None = None
failure_at s (Some c) = Some (record { check = c; span = s })

-- a check that fails in what a production of this label makes of these parts; the token at this place ends it
abbrev pub failure_in : Label → List Part → Part → Span → Option Failure
failure_in label parts made last = failure_at last (first_check (severity_failed label parts) (made_failed label made))
