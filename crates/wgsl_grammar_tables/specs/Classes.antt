-- The class of a token: a fixed token has its own; identifiers, literals and reserved words are one each.
use Rattle.std.specs.Prelude.{ℕ}
use Rattle.wgsl_token.specs.declared.token.Token.{Token}
use Rattle.wgsl_token.specs.declared.token.Token.TheVariants.{Fixed as OfFixed, Identifier, Reserved, AbstractInt, I32, U32, AbstractFloat, F32, F16, Invalid}
use Rattle.wgsl_token.specs.declared.token.Fixed.{Fixed}
use Rattle.wgsl_token.specs.declared.token.Fixed.TheVariants as f
use Rattle.wgsl_templates.specs.declared.meaning.token.TemplateToken.{TemplateToken}
use Rattle.wgsl_templates.specs.declared.meaning.token.TemplateToken.TheVariants.{Plain, TemplateArgsStart, TemplateArgsEnd}

abbrev pub fixed_class : Fixed → ℕ
fixed_class f.Alias = 0
fixed_class f.Break = 1
fixed_class f.Case = 2
fixed_class f.Const = 3
fixed_class f.ConstAssert = 4
fixed_class f.Continue = 5
fixed_class f.Continuing = 6
fixed_class f.Default = 7
fixed_class f.Diagnostic = 8
fixed_class f.Discard = 9
fixed_class f.Else = 10
fixed_class f.Enable = 11
fixed_class f.False = 12
fixed_class f.Fn = 13
fixed_class f.For = 14
fixed_class f.If = 15
fixed_class f.Let = 16
fixed_class f.Loop = 17
fixed_class f.Override = 18
fixed_class f.Requires = 19
fixed_class f.Return = 20
fixed_class f.Struct = 21
fixed_class f.Switch = 22
fixed_class f.True = 23
fixed_class f.Var = 24
fixed_class f.While = 25
fixed_class f.And = 26
fixed_class f.AndAnd = 27
fixed_class f.Arrow = 28
fixed_class f.Attr = 29
fixed_class f.ForwardSlash = 30
fixed_class f.Bang = 31
fixed_class f.BracketLeft = 32
fixed_class f.BracketRight = 33
fixed_class f.BraceLeft = 34
fixed_class f.BraceRight = 35
fixed_class f.Colon = 36
fixed_class f.PathSeparator = 37
fixed_class f.Comma = 38
fixed_class f.Equal = 39
fixed_class f.EqualEqual = 40
fixed_class f.NotEqual = 41
fixed_class f.GreaterThan = 42
fixed_class f.GreaterThanEqual = 43
fixed_class f.ShiftRight = 44
fixed_class f.LessThan = 45
fixed_class f.LessThanEqual = 46
fixed_class f.ShiftLeft = 47
fixed_class f.Modulo = 48
fixed_class f.Minus = 49
fixed_class f.MinusMinus = 50
fixed_class f.Period = 51
fixed_class f.Plus = 52
fixed_class f.PlusPlus = 53
fixed_class f.Or = 54
fixed_class f.OrOr = 55
fixed_class f.ParenLeft = 56
fixed_class f.ParenRight = 57
fixed_class f.Semicolon = 58
fixed_class f.Star = 59
fixed_class f.Tilde = 60
fixed_class f.Underscore = 61
fixed_class f.Xor = 62
fixed_class f.PlusEqual = 63
fixed_class f.MinusEqual = 64
fixed_class f.TimesEqual = 65
fixed_class f.DivisionEqual = 66
fixed_class f.ModuloEqual = 67
fixed_class f.AndEqual = 68
fixed_class f.OrEqual = 69
fixed_class f.XorEqual = 70
fixed_class f.ShiftRightAssign = 71
fixed_class f.ShiftLeftAssign = 72
fixed_class f.Import = 73
fixed_class f.Package = 74
fixed_class f.Super = 75
fixed_class f.As = 76

abbrev pub plain_class : Token → ℕ
plain_class (OfFixed kind) = fixed_class kind
plain_class (Identifier name) = 77
plain_class (AbstractInt x) = 78
plain_class (I32 x) = 78
plain_class (U32 x) = 78
plain_class (AbstractFloat x) = 78
plain_class (F32 x) = 78
plain_class (F16 x) = 78
plain_class (Reserved name) = 79
plain_class Invalid = 82

abbrev pub class_of : TemplateToken → ℕ
class_of (Plain token) = plain_class token
class_of TemplateArgsStart = 80
class_of TemplateArgsEnd = 81
