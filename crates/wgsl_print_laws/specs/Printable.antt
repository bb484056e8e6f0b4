-- Expressions of which each token is one that a text can have, and that are printed as these tokens.
use Rattle.std.specs.Prelude.{◌≡◌, ℕ, Bool, true, false, not, ◌&&◌, ◌||◌, List, [], ◌∷◌, Option, Some, None}
use Rattle.std.specs.Str.{all_scalars}
use Rattle.wgsl_token.specs.declared.token.Token.{Token}
use Rattle.wgsl_lex.specs.Tokens.{form, token}
use Rattle.wgsl_templates.specs.declared.meaning.token.TemplateToken.{TemplateToken}
use Rattle.wgsl_templates.specs.declared.meaning.token.TemplateToken.TheVariants.{Plain, TemplateArgsStart, TemplateArgsEnd}
use Rattle.wgsl_expressions.specs.Print.{is_number, is_numeric}
use Rattle.wgsl_expressions.specs.Tree.{Exp, literal, parenthesized, component, indexed, unary, binary, call, named, Exps, nil, cons, exps, Typ, simple, templated}

-- some characters are this token
pub record IsSpelled (k : Token) : Type 0 where
  pub characters : List ℕ
  pub scalars : all_scalars characters ≡ true
  pub forms : form characters ≡ Some (token k)

-- of each of some tokens; a template list's ends are spelled in one way
abbrev pub AreSpelled : List TemplateToken → Type 0
AreSpelled [] = Unit {0}
AreSpelled (Plain k ∷ ts) = IsSpelled k × AreSpelled ts
AreSpelled (TemplateArgsStart ∷ ts) = AreSpelled ts
AreSpelled (TemplateArgsEnd ∷ ts) = AreSpelled ts

-- the text ends in a number
abbrev pub ends_in_number : Exp → Bool
ends_in_number (literal l) = is_number l
ends_in_number (unary o x) = ends_in_number x
ends_in_number (binary o x y) = ends_in_number y
ends_in_number _ = false

-- Before `.` stands no operator with a number behind it, of which the point would be a part.
abbrev mutual
  pub is_apart : Exp → Bool
  is_apart (literal l) = true
  is_apart (parenthesized x) = is_apart x
  is_apart (component x name) = (is_numeric x || not (ends_in_number x)) && is_apart x
  is_apart (indexed x y) = is_apart x && is_apart y
  is_apart (unary o x) = is_apart x
  is_apart (binary o x y) = is_apart x && is_apart y
  is_apart (call t xs) = type_is_apart t && are_apart xs
  is_apart (named t) = type_is_apart t

  pub are_apart : Exps → Bool
  are_apart nil = true
  are_apart (cons x xs) = is_apart x && are_apart xs

  pub type_is_apart : Typ → Bool
  type_is_apart (simple path name) = true
  type_is_apart (templated path name xs) = are_apart xs

-- of arguments
abbrev pub arguments_are_apart : Option (List Exp) → Bool
arguments_are_apart None = true
arguments_are_apart (Some es) = are_apart (exps es)
