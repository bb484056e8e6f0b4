-- The tokens of an attribute as it is printed: `@`, its word, and its arguments in parentheses (WGSL, "Attributes").
use Rattle.std.specs.Prelude.{◌≡◌, ℕ, true, List, [], ◌∷◌, ◌++◌, codes, Option, Some, None}
use Rattle.wgsl_token.specs.declared.token.Token.TheVariants as t
use Rattle.wgsl_token.specs.declared.token.Fixed.{Fixed}
use Rattle.wgsl_token.specs.declared.token.Fixed.TheVariants as f
use Rattle.wgsl_token.specs.Spelling.{spelling}
use Rattle.wgsl_templates.specs.declared.meaning.token.TemplateToken.{TemplateToken}
use Rattle.wgsl_templates.specs.declared.meaning.token.TemplateToken.TheVariants.{Plain}
use Rattle.wgsl_words.specs.declared.enumerations.builtin.BuiltinValue.{BuiltinValue}
use Rattle.wgsl_words.specs.declared.enumerations.words.DiagnosticSeverity.{DiagnosticSeverity}
use Rattle.wgsl_words.specs.declared.enumerations.words.InterpolationType.{InterpolationType}
use Rattle.wgsl_words.specs.declared.enumerations.words.InterpolationSampling.{InterpolationSampling}
use Rattle.wgsl_words.specs.Texts.{builtin_value_text, diagnostic_severity_text, interpolation_type_text, interpolation_sampling_text}
use Rattle.wgsl_expressions.specs.Tree.{Exp, component, named, exps, simple}
use Rattle.wgsl_expressions.specs.AttributesTree.{Attr, align, binding, blend_src, builtin, constant, diagnostic, group, id_number, interpolate, invariant, location, must_use, byte_size, workgroup_size, vertex, fragment, compute, publish, if_true, else_if, otherwise, custom}
use Rattle.wgsl_print_laws.specs.OptionalMarks.{is_any_word}
use Rattle.wgsl_print_laws.specs.Tokens.{mark, word, exps_tokens}
use Rattle.wgsl_print_laws.specs.Printable.{arguments_are_apart}

-- the expression that is this name alone
abbrev pub name_exp : List ℕ → Exp
name_exp x = named (simple None x)

-- a rule of a diagnostic as an expression: a name, or two names with a period between
pub data IsRuleExp : List ℕ → Exp → Type 0 where
  one_name : (x : List ℕ) → IsRuleExp x (name_exp x)
  two_names : (x y : List ℕ) → IsRuleExp (x ++ codes "." ++ y) (component (name_exp x) y)

-- an attribute is written as this word and, where it has parentheses, these arguments
pub data IsWritten : Attr → List ℕ → Option (List Exp) → Type 0 where
  align_is : (x : Exp) → IsWritten (align x) (codes "align") (Some (x ∷ []))
  binding_is : (x : Exp) → IsWritten (binding x) (codes "binding") (Some (x ∷ []))
  blend_src_is : (x : Exp) → IsWritten (blend_src x) (codes "blend_src") (Some (x ∷ []))
  builtin_is : (value : BuiltinValue) → IsWritten (builtin value) (codes "builtin") (Some (name_exp (builtin_value_text value) ∷ []))
  constant_is : IsWritten constant (codes "const") None
  diagnostic_is : (severity : DiagnosticSeverity) {rule : List ℕ} {e : Exp} → IsRuleExp rule e → IsWritten (diagnostic severity rule) (codes "diagnostic") (Some (name_exp (diagnostic_severity_text severity) ∷ e ∷ []))
  group_is : (x : Exp) → IsWritten (group x) (codes "group") (Some (x ∷ []))
  id_is : (x : Exp) → IsWritten (id_number x) (codes "id") (Some (x ∷ []))
  interpolate_is : (type : InterpolationType) → IsWritten (interpolate type None) (codes "interpolate") (Some (name_exp (interpolation_type_text type) ∷ []))
  sampled_is : (type : InterpolationType) (sampling : InterpolationSampling)
      → IsWritten (interpolate type (Some sampling)) (codes "interpolate") (Some (name_exp (interpolation_type_text type) ∷ name_exp (interpolation_sampling_text sampling) ∷ []))
  invariant_is : IsWritten invariant (codes "invariant") None
  location_is : (x : Exp) → IsWritten (location x) (codes "location") (Some (x ∷ []))
  must_use_is : IsWritten must_use (codes "must_use") None
  size_is : (x : Exp) → IsWritten (byte_size x) (codes "size") (Some (x ∷ []))
  size_of_one : (x : Exp) → IsWritten (workgroup_size x None None) (codes "workgroup_size") (Some (x ∷ []))
  size_of_two : (x y : Exp) → IsWritten (workgroup_size x (Some y) None) (codes "workgroup_size") (Some (x ∷ y ∷ []))
  size_of_three : (x y z : Exp) → IsWritten (workgroup_size x (Some y) (Some z)) (codes "workgroup_size") (Some (x ∷ y ∷ z ∷ []))
  vertex_is : IsWritten vertex (codes "vertex") None
  fragment_is : IsWritten fragment (codes "fragment") None
  compute_is : IsWritten compute (codes "compute") None
  publish_is : IsWritten publish (codes "publish") None
  if_is : (x : Exp) → IsWritten (if_true x) (codes "if") (Some (x ∷ []))
  elif_is : (x : Exp) → IsWritten (else_if x) (codes "elif") (Some (x ∷ []))
  otherwise_is : IsWritten otherwise (codes "else") None
  custom_is : (name : List ℕ) (arguments : Option (List Exp)) → IsWritten (custom name arguments) name arguments

-- any word may stand behind `@`
pub data IsWord : List ℕ → TemplateToken → Type 0 where
  identifier : (x : List ℕ) → IsWord x (word x)
  reserved : (x : List ℕ) → IsWord x (Plain (t.Reserved x))
  keyword : (g : Fixed) → is_any_word (mark g) ≡ true → IsWord (spelling g) (mark g)

abbrev pub arguments_tokens : Option (List Exp) → List TemplateToken
arguments_tokens None = []
arguments_tokens (Some es) = mark f.ParenLeft ∷ (exps_tokens (exps es) ++ (mark f.ParenRight ∷ []))

-- the tokens of an attribute
pub data AttributeTokens : Attr → List TemplateToken → Type 0 where
  an_attribute : {a : Attr} {name : List ℕ} {t : TemplateToken} {es : Option (List Exp)} → IsWritten a name es → IsWord name t → arguments_are_apart es ≡ true → AttributeTokens a (mark f.Attr ∷ t ∷ arguments_tokens es)
