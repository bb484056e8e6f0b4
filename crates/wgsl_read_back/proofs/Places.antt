-- Which token is of which class.
use Rattle.std.proofs.Common.{◌≡◌, refl, sym, ap, ◌∙◌, ℕ, zero, suc, nat_lt, true, false, List, [], ◌∷◌, arith}
use Rattle.wgsl_token.specs.declared.token.Token.TheVariants as t
use Rattle.wgsl_token.specs.declared.token.Fixed.{Fixed}
use Rattle.wgsl_token.specs.declared.token.Fixed.TheVariants as f
use Rattle.wgsl_templates.specs.declared.meaning.token.TemplateToken.{TemplateToken}
use Rattle.wgsl_templates.specs.declared.meaning.token.TemplateToken.TheVariants.{Plain, TemplateArgsStart, TemplateArgsEnd}
use Rattle.wgsl_expressions.specs.declared.expression.LiteralExpression.{LiteralExpression}
use Rattle.wgsl_expressions.specs.declared.expression.LiteralExpression.TheVariants as l
use Rattle.wgsl_print_laws.specs.Tokens.{mark, word, literal_token}
use Rattle.wgsl_grammar_tables.specs.Classes.{fixed_class, class_of}

fixeds : List Fixed
fixeds =
    f.Alias ∷ f.Break ∷ f.Case ∷ f.Const ∷ f.ConstAssert ∷ f.Continue ∷ f.Continuing ∷ f.Default ∷ f.Diagnostic ∷ f.Discard ∷ f.Else ∷ f.Enable ∷ f.False ∷ f.Fn ∷ f.For ∷ f.If ∷ f.Let ∷ f.Loop ∷ f.Override ∷ f.Requires ∷ f.Return ∷
    f.Struct ∷ f.Switch ∷ f.True ∷ f.Var ∷ f.While ∷ f.And ∷ f.AndAnd ∷ f.Arrow ∷ f.Attr ∷ f.ForwardSlash ∷ f.Bang ∷ f.BracketLeft ∷ f.BracketRight ∷ f.BraceLeft ∷ f.BraceRight ∷ f.Colon ∷ f.PathSeparator ∷ f.Comma ∷ f.Equal ∷
    f.EqualEqual ∷ f.NotEqual ∷ f.GreaterThan ∷ f.GreaterThanEqual ∷ f.ShiftRight ∷ f.LessThan ∷ f.LessThanEqual ∷ f.ShiftLeft ∷ f.Modulo ∷ f.Minus ∷ f.MinusMinus ∷ f.Period ∷ f.Plus ∷ f.PlusPlus ∷ f.Or ∷ f.OrOr ∷ f.ParenLeft ∷
    f.ParenRight ∷ f.Semicolon ∷ f.Star ∷ f.Tilde ∷ f.Underscore ∷ f.Xor ∷ f.PlusEqual ∷ f.MinusEqual ∷ f.TimesEqual ∷ f.DivisionEqual ∷ f.ModuloEqual ∷ f.AndEqual ∷ f.OrEqual ∷ f.XorEqual ∷ f.ShiftRightAssign ∷ f.ShiftLeftAssign ∷
    f.Import ∷ f.Package ∷ f.Super ∷ f.As ∷ []

fixed_at : List Fixed → ℕ → Fixed
fixed_at [] n = f.Alias
fixed_at (g ∷ gs) zero = g
fixed_at (g ∷ gs) (suc n) = fixed_at gs n

at_class : (g : Fixed) → fixed_at fixeds (fixed_class g) ≡ g
unfolding fixed_at fixeds
at_class f.Alias = refl
at_class _ = refl

below : (g : Fixed) → nat_lt (fixed_class g) 77 ≡ true
below f.Alias = refl
below _ = refl

same_fixed : (g h : Fixed) → fixed_class g ≡ fixed_class h → g ≡ h
same_fixed g h e = sym (at_class g) ∙ ap (fixed_at fixeds) e ∙ at_class h

past : {A : Type 0} (g : Fixed) (n : ℕ) → nat_lt n 77 ≡ false → n ≡ fixed_class g → A
past g n h e = absurd (let wrong : true ≡ false = sym (below g) ∙ ap (λ z. nat_lt z 77) (sym e) ∙ h in cc)

-- a fixed token has its own class
pub mark_of : (t : TemplateToken) (g : Fixed) → class_of t ≡ fixed_class g → t ≡ mark g
mark_of (Plain (t.Fixed h)) g e = ap mark (same_fixed h g e)
mark_of (Plain (t.Identifier x)) g e = past g 77 refl e
mark_of (Plain (t.Reserved x)) g e = past g 79 refl e
mark_of (Plain (t.AbstractInt x)) g e = past g 78 refl e
mark_of (Plain (t.I32 x)) g e = past g 78 refl e
mark_of (Plain (t.U32 x)) g e = past g 78 refl e
mark_of (Plain (t.AbstractFloat x)) g e = past g 78 refl e
mark_of (Plain (t.F32 x)) g e = past g 78 refl e
mark_of (Plain (t.F16 x)) g e = past g 78 refl e
mark_of (Plain t.Invalid) g e = past g 82 refl e
mark_of TemplateArgsStart g e = past g 80 refl e
mark_of TemplateArgsEnd g e = past g 81 refl e

no_fixed_so : {A : Type 0} (h : Fixed) (n : ℕ) → nat_lt n 77 ≡ false → fixed_class h ≡ n → A
no_fixed_so h n e g = past h n e (sym g)

-- identifiers have one
pub word_of : (t : TemplateToken) → class_of t ≡ 77 → (x : List ℕ) × (t ≡ word x)
word_of (Plain (t.Fixed h)) e = no_fixed_so h 77 refl e
word_of (Plain (t.Identifier x)) e = (x, refl)
word_of (Plain (t.Reserved x)) e = absurd (omega arith)
word_of (Plain (t.AbstractInt x)) e = absurd (omega arith)
word_of (Plain (t.I32 x)) e = absurd (omega arith)
word_of (Plain (t.U32 x)) e = absurd (omega arith)
word_of (Plain (t.AbstractFloat x)) e = absurd (omega arith)
word_of (Plain (t.F32 x)) e = absurd (omega arith)
word_of (Plain (t.F16 x)) e = absurd (omega arith)
word_of (Plain t.Invalid) e = absurd (omega arith)
word_of TemplateArgsStart e = absurd (omega arith)
word_of TemplateArgsEnd e = absurd (omega arith)

-- and numbers
pub number_of : (t : TemplateToken) → class_of t ≡ 78 → (x : LiteralExpression) × (t ≡ Plain (literal_token x))
number_of (Plain (t.Fixed h)) e = no_fixed_so h 78 refl e
number_of (Plain (t.Identifier x)) e = absurd (omega arith)
number_of (Plain (t.Reserved x)) e = absurd (omega arith)
number_of (Plain (t.AbstractInt x)) e = (l.AbstractInt x, refl)
number_of (Plain (t.I32 x)) e = (l.I32 x, refl)
number_of (Plain (t.U32 x)) e = (l.U32 x, refl)
number_of (Plain (t.AbstractFloat x)) e = (l.AbstractFloat x, refl)
number_of (Plain (t.F32 x)) e = (l.F32 x, refl)
number_of (Plain (t.F16 x)) e = (l.F16 x, refl)
number_of (Plain t.Invalid) e = absurd (omega arith)
number_of TemplateArgsStart e = absurd (omega arith)
number_of TemplateArgsEnd e = absurd (omega arith)

-- the ends of template lists
pub start_of : (t : TemplateToken) → class_of t ≡ 80 → t ≡ TemplateArgsStart
start_of (Plain (t.Fixed h)) e = no_fixed_so h 80 refl e
start_of TemplateArgsStart e = refl
start_of _ e = absurd (omega arith)

pub end_of : (t : TemplateToken) → class_of t ≡ 81 → t ≡ TemplateArgsEnd
end_of (Plain (t.Fixed h)) e = no_fixed_so h 81 refl e
end_of TemplateArgsEnd e = refl
end_of _ e = absurd (omega arith)

-- reserved words
pub reserved_of : (k : TemplateToken) → class_of k ≡ 79 → (x : List ℕ) × (k ≡ Plain (t.Reserved x))
reserved_of (Plain (t.Fixed h)) e = no_fixed_so h 79 refl e
reserved_of (Plain (t.Reserved x)) e = (x, refl)
reserved_of _ e = absurd (omega arith)
