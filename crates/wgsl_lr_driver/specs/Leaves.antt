-- What a token stands for.
use Rattle.std.specs.Prelude.{true, false}
use Rattle.wgsl_path.specs.Paths.{ident_of}
use Rattle.wgsl_token.specs.declared.token.Fixed.{Fixed}
use Rattle.wgsl_token.specs.declared.token.Fixed.TheVariants as fixed
use Rattle.wgsl_token.specs.declared.token.Token.{Token}
use Rattle.wgsl_token.specs.declared.token.Token.TheVariants as token
use Rattle.wgsl_templates.specs.declared.meaning.token.TemplateToken.{TemplateToken}
use Rattle.wgsl_templates.specs.declared.meaning.token.TemplateToken.TheVariants.{Plain}
use Rattle.wgsl_expressions.specs.declared.expression.LiteralExpression.TheVariants as literal
use Rattle.wgsl_simple_statements.specs.declared.declaration.DeclarationKind.TheVariants as kind
use Rattle.wgsl_semantic_values.specs.declared.part.Part.{Part}
use Rattle.wgsl_semantic_values.specs.declared.part.Part.TheVariants as part

abbrev pub fixed_leaf : Fixed → Part
fixed_leaf fixed.True = part.Literal (literal.Bool true)
fixed_leaf fixed.False = part.Literal (literal.Bool false)
fixed_leaf fixed.Const = part.Kind kind.Const
fixed_leaf fixed.Override = part.Kind kind.Override
fixed_leaf fixed.Let = part.Kind kind.Let
fixed_leaf _ = part.Mark

abbrev pub plain_leaf : Token → Part
plain_leaf (token.Fixed mark) = fixed_leaf mark
plain_leaf (token.Identifier name) = part.Ident (ident_of name)
plain_leaf (token.Reserved word) = part.Reserved word
plain_leaf (token.AbstractInt n) = part.Literal (literal.AbstractInt n)
plain_leaf (token.I32 n) = part.Literal (literal.I32 n)
plain_leaf (token.U32 n) = part.Literal (literal.U32 n)
plain_leaf (token.AbstractFloat spelled) = part.Literal (literal.AbstractFloat spelled)
plain_leaf (token.F32 spelled) = part.Literal (literal.F32 spelled)
plain_leaf (token.F16 spelled) = part.Literal (literal.F16 spelled)
plain_leaf token.Invalid = part.Mark

-- a name, a reserved word, a literal or a kind of declaration; of any other token no more than that it is there
abbrev pub leaf : TemplateToken → Part
leaf (Plain k) = plain_leaf k
leaf _ = part.Mark
