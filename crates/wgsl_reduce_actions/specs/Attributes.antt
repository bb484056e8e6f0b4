-- What the productions of attributes, and of what `var` says of a variable, make of their parts. Where parts do not fit, it is nothing.
use Rattle.std.specs.Prelude.{ℕ, List, [], ◌∷◌, Option, Some, None}
use Rattle.wgsl_path.specs.declared.span.Span.{Span}
use Rattle.wgsl_path.specs.declared.span.Spanned.{Spanned}
use Rattle.wgsl_token.specs.declared.token.Fixed.{Fixed}
use Rattle.wgsl_token.specs.Spelling.{spelling}
use Rattle.wgsl_expressions.specs.declared.expression.Expression.{Expression}
use Rattle.wgsl_expressions.specs.declared.attributes.attribute.Attribute.{Attribute}
use Rattle.wgsl_simple_statements.specs.declared.declaration.DeclarationKind.TheVariants.{Var}
use Rattle.wgsl_attribute_words.specs.Attributes.{custom, attribute_of, template_of}
use Rattle.wgsl_semantic_values.specs.declared.part.Part.{Part}
use Rattle.wgsl_semantic_values.specs.declared.part.Part.TheVariants as part
use Rattle.wgsl_semantic_values.specs.declared.label.AttributeLabel.{AttributeLabel}
use Rattle.wgsl_semantic_values.specs.declared.label.AttributeLabel.TheVariants as label
use Rattle.wgsl_semantic_values.specs.Reading.{expressions_of}
use Rattle.wgsl_reduce_actions.specs.Reading.{arguments_in}

-- ---- the name of an attribute: any word, also a reserved one or a keyword

abbrev pub name_word : List Part → Part
name_word (part.Ident x ∷ []) = part.Word x.name
name_word _ = part.Absent

abbrev pub reserved_word : List Part → Part
reserved_word (part.Reserved word ∷ []) = part.Word word
reserved_word _ = part.Absent

abbrev pub keyword : Fixed → Part
keyword kind = part.Word (spelling kind)

-- ---- attributes

abbrev pub all_arguments : List Part → Part
all_arguments (arguments ∷ []) = part.Arguments (expressions_of arguments)
all_arguments _ = part.Absent

abbrev pub or_else : Option Attribute → Attribute → Attribute
or_else (Some x) y = x
or_else None y = y

-- the attribute of a word and arguments; where they fail its check it is custom
abbrev pub checked : List ℕ → Option (List (Spanned Expression)) → Attribute
checked word arguments = or_else (attribute_of word arguments) (custom word arguments)

abbrev pub whole_attribute : Span → List Part → Part
whole_attribute s (part.Word word ∷ arguments ∷ []) = part.Attribute (record { node = checked word (arguments_in arguments); span = s })
whole_attribute s _ = part.Absent

-- ---- what `var` says of a variable; a template that fails its check says nothing

abbrev pub var_kind : List Part → Part
var_kind [] = part.Kind (Var None)
var_kind _ = part.Absent

abbrev pub var_in : List Part → Part
var_in (part.Expressions arguments ∷ []) = part.Kind (Var (template_of arguments))
var_in _ = part.Absent

abbrev pub make_attribute : AttributeLabel → Span → List Part → Part
make_attribute label.Word s parts = name_word parts
make_attribute label.ReservedWord s parts = reserved_word parts
make_attribute (label.Keyword kind) s parts = keyword kind
make_attribute label.Arguments s parts = all_arguments parts
make_attribute label.Attribute s parts = whole_attribute s parts
make_attribute label.VarKind s parts = var_kind parts
make_attribute label.VarIn s parts = var_in parts
