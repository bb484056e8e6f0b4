-- There is a token of each class.
use Rattle.std.proofs.Common.{◌≡◌, refl, ℕ, zero, suc, true, nat_lt, ◌==◌, List, [], ◌∷◌}
use Rattle.std.proofs.lemmas.Bool.{eqb-true}
use Rattle.wgsl_token.specs.declared.token.Token.TheVariants.{Fixed as OfFixed, Identifier, Reserved, I32, Invalid}
use Rattle.std.specs.Prelude.{pos}
use Rattle.wgsl_token.specs.declared.token.Fixed.TheVariants as f
use Rattle.wgsl_templates.specs.declared.meaning.token.TemplateToken.{TemplateToken}
use Rattle.wgsl_templates.specs.declared.meaning.token.TemplateToken.TheVariants.{Plain, TemplateArgsStart, TemplateArgsEnd}
use Rattle.wgsl_grammar_tables.specs.Tests.{all_below}
use Rattle.wgsl_grammar_tables.proofs.Facts.{each_below}
use Rattle.wgsl_grammar_tables.specs.Classes.{class_of}
use Rattle.wgsl_grammar_tables.specs.Decoded.{listed}

token_in : List TemplateToken → ℕ → TemplateToken
token_in [] c = TemplateArgsStart
token_in (k ∷ ks) zero = k
token_in (k ∷ ks) (suc c) = token_in ks c

examples : List TemplateToken
examples =
    Plain (OfFixed f.Alias) ∷
    Plain (OfFixed f.Break) ∷
    Plain (OfFixed f.Case) ∷
    Plain (OfFixed f.Const) ∷
    Plain (OfFixed f.ConstAssert) ∷
    Plain (OfFixed f.Continue) ∷
    Plain (OfFixed f.Continuing) ∷
    Plain (OfFixed f.Default) ∷
    Plain (OfFixed f.Diagnostic) ∷
    Plain (OfFixed f.Discard) ∷
    Plain (OfFixed f.Else) ∷
    Plain (OfFixed f.Enable) ∷
    Plain (OfFixed f.False) ∷
    Plain (OfFixed f.Fn) ∷
    Plain (OfFixed f.For) ∷
    Plain (OfFixed f.If) ∷
    Plain (OfFixed f.Let) ∷
    Plain (OfFixed f.Loop) ∷
    Plain (OfFixed f.Override) ∷
    Plain (OfFixed f.Requires) ∷
    Plain (OfFixed f.Return) ∷
    Plain (OfFixed f.Struct) ∷
    Plain (OfFixed f.Switch) ∷
    Plain (OfFixed f.True) ∷
    Plain (OfFixed f.Var) ∷
    Plain (OfFixed f.While) ∷
    Plain (OfFixed f.And) ∷
    Plain (OfFixed f.AndAnd) ∷
    Plain (OfFixed f.Arrow) ∷
    Plain (OfFixed f.Attr) ∷
    Plain (OfFixed f.ForwardSlash) ∷
    Plain (OfFixed f.Bang) ∷
    Plain (OfFixed f.BracketLeft) ∷
    Plain (OfFixed f.BracketRight) ∷
    Plain (OfFixed f.BraceLeft) ∷
    Plain (OfFixed f.BraceRight) ∷
    Plain (OfFixed f.Colon) ∷
    Plain (OfFixed f.PathSeparator) ∷
    Plain (OfFixed f.Comma) ∷
    Plain (OfFixed f.Equal) ∷
    Plain (OfFixed f.EqualEqual) ∷
    Plain (OfFixed f.NotEqual) ∷
    Plain (OfFixed f.GreaterThan) ∷
    Plain (OfFixed f.GreaterThanEqual) ∷
    Plain (OfFixed f.ShiftRight) ∷
    Plain (OfFixed f.LessThan) ∷
    Plain (OfFixed f.LessThanEqual) ∷
    Plain (OfFixed f.ShiftLeft) ∷
    Plain (OfFixed f.Modulo) ∷
    Plain (OfFixed f.Minus) ∷
    Plain (OfFixed f.MinusMinus) ∷
    Plain (OfFixed f.Period) ∷
    Plain (OfFixed f.Plus) ∷
    Plain (OfFixed f.PlusPlus) ∷
    Plain (OfFixed f.Or) ∷
    Plain (OfFixed f.OrOr) ∷
    Plain (OfFixed f.ParenLeft) ∷
    Plain (OfFixed f.ParenRight) ∷
    Plain (OfFixed f.Semicolon) ∷
    Plain (OfFixed f.Star) ∷
    Plain (OfFixed f.Tilde) ∷
    Plain (OfFixed f.Underscore) ∷
    Plain (OfFixed f.Xor) ∷
    Plain (OfFixed f.PlusEqual) ∷
    Plain (OfFixed f.MinusEqual) ∷
    Plain (OfFixed f.TimesEqual) ∷
    Plain (OfFixed f.DivisionEqual) ∷
    Plain (OfFixed f.ModuloEqual) ∷
    Plain (OfFixed f.AndEqual) ∷
    Plain (OfFixed f.OrEqual) ∷
    Plain (OfFixed f.XorEqual) ∷
    Plain (OfFixed f.ShiftRightAssign) ∷
    Plain (OfFixed f.ShiftLeftAssign) ∷
    Plain (OfFixed f.Import) ∷
    Plain (OfFixed f.Package) ∷
    Plain (OfFixed f.Super) ∷
    Plain (OfFixed f.As) ∷
    Plain (Identifier []) ∷ Plain (I32 (pos 0)) ∷ Plain (Reserved []) ∷ TemplateArgsStart ∷ TemplateArgsEnd ∷ Plain Invalid ∷ []

examples_are : all_below 83 (λ c. class_of (token_in examples c) == c) ≡ true
unfolding token_in examples
examples_are = refl

pub each_class : (c : ℕ) → nat_lt c listed.class_count ≡ true → (k : TemplateToken) × (class_of k ≡ c)
unfolding listed
each_class c lt = (token_in examples c, eqb-true (class_of (token_in examples c)) c (each_below 83 (λ c. class_of (token_in examples c) == c) c examples_are lt))
