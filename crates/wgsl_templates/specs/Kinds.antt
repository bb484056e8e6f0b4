-- What the grammar of expressions sees of a token.
use Rattle.std.specs.Prelude.{List, map}
use Rattle.wgsl_lex.specs.Token.{Token}
use Rattle.wgsl_lex.specs.Token.TheVariants.{Fixed, Identifier, Reserved, Invalid}
use Rattle.wgsl_lex.specs.Fixed.{Fixed as FixedToken}
use Rattle.wgsl_lex.specs.Fixed.TheVariants as f
use Rattle.wgsl_templates.specs.declared.meaning.kind.Kind.{Kind}
use Rattle.wgsl_templates.specs.declared.meaning.kind.Kind.TheVariants as k
use Rattle.wgsl_templates.specs.declared.meaning.token.TemplateToken.{TemplateToken}
use Rattle.wgsl_templates.specs.declared.meaning.token.TemplateToken.TheVariants.{Plain, TemplateArgsStart, TemplateArgsEnd}
use Rattle.wgsl_templates.specs.declared.meaning.token.SpannedTemplateToken.{SpannedTemplateToken}

abbrev pub fixed_kind : FixedToken → Kind
fixed_kind f.True = k.Literal
fixed_kind f.False = k.Literal
fixed_kind f.ParenLeft = k.ParenLeft
fixed_kind f.ParenRight = k.ParenRight
fixed_kind f.BracketLeft = k.BracketLeft
fixed_kind f.BracketRight = k.BracketRight
fixed_kind f.Comma = k.Comma
fixed_kind f.Period = k.Period
fixed_kind f.PathSeparator = k.PathSeparator
fixed_kind f.Package = k.Package
fixed_kind f.Super = k.Super
fixed_kind f.LessThan = k.Comparison
fixed_kind f.LessThanEqual = k.Comparison
fixed_kind f.GreaterThan = k.Comparison
fixed_kind f.GreaterThanEqual = k.Comparison
fixed_kind f.EqualEqual = k.Comparison
fixed_kind f.NotEqual = k.Comparison
fixed_kind f.ShiftLeft = k.Shift
fixed_kind f.ShiftRight = k.Shift
fixed_kind f.Plus = k.Plus
fixed_kind f.Minus = k.Minus
fixed_kind f.Star = k.Star
fixed_kind f.ForwardSlash = k.Division
fixed_kind f.Modulo = k.Division
fixed_kind f.And = k.And
fixed_kind f.Or = k.Or
fixed_kind f.Xor = k.Xor
fixed_kind f.AndAnd = k.AndAnd
fixed_kind f.OrOr = k.OrOr
fixed_kind f.Bang = k.Not
fixed_kind f.Tilde = k.Not
fixed_kind _ = k.Other

-- All other tokens are numbers.
abbrev pub plain_kind : Token → Kind
plain_kind (Fixed fixed) = fixed_kind fixed
plain_kind (Identifier name) = k.Word
plain_kind (Reserved word) = k.Other
plain_kind Invalid = k.Other
plain_kind _ = k.Literal

abbrev pub kind : TemplateToken → Kind
kind (Plain token) = plain_kind token
kind TemplateArgsStart = k.TemplateArgsStart
kind TemplateArgsEnd = k.TemplateArgsEnd

abbrev pub kinds : List SpannedTemplateToken → List Kind
kinds tokens = map (λ t. kind t.token) tokens
