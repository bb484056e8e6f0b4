-- The tokens of an expression as it is printed, one behind the other.
use Rattle.std.specs.Prelude.{ℕ, zero, suc, true, false, List, [], ◌∷◌, ◌++◌, Option, Some, None, codes}
use Rattle.std.specs.List.{flat_map}
use Rattle.wgsl_words.specs.declared.operators.UnaryOperator.{UnaryOperator}
use Rattle.wgsl_words.specs.declared.operators.UnaryOperator.TheVariants.{LogicalNegation, Negation, BitwiseComplement, AddressOf, Indirection}
use Rattle.wgsl_words.specs.declared.operators.BinaryOperator.{BinaryOperator}
use Rattle.wgsl_words.specs.declared.operators.BinaryOperator.TheVariants.{ShortCircuitOr, ShortCircuitAnd, Addition, Subtraction, Multiplication, Division, Remainder, Equality, Inequality, LessThan, LessThanEqual, GreaterThan, GreaterThanEqual, BitwiseOr, BitwiseAnd, BitwiseXor, ShiftLeft, ShiftRight}
use Rattle.wgsl_path.specs.declared.path.PathOrigin.{PathOrigin}
use Rattle.wgsl_path.specs.declared.path.PathOrigin.TheVariants.{Absolute, Relative, Package}
use Rattle.wgsl_path.specs.declared.path.ModulePath.{ModulePath}
use Rattle.wgsl_token.specs.declared.token.Token.{Token}
use Rattle.wgsl_token.specs.declared.token.Token.TheVariants as t
use Rattle.wgsl_token.specs.declared.token.Fixed.{Fixed}
use Rattle.wgsl_token.specs.declared.token.Fixed.TheVariants as f
use Rattle.wgsl_templates.specs.declared.meaning.token.TemplateToken.{TemplateToken}
use Rattle.wgsl_templates.specs.declared.meaning.token.TemplateToken.TheVariants.{Plain, TemplateArgsStart, TemplateArgsEnd}
use Rattle.wgsl_expressions.specs.declared.expression.LiteralExpression.{LiteralExpression}
use Rattle.wgsl_expressions.specs.declared.expression.LiteralExpression.TheVariants as l
use Rattle.wgsl_expressions.specs.Tree.{Exp, literal, parenthesized, component, indexed, unary, binary, call, named, Exps, nil, cons, Typ, simple, templated}

abbrev pub mark : Fixed → TemplateToken
mark g = Plain (t.Fixed g)

abbrev pub word : List ℕ → TemplateToken
word name = Plain (t.Identifier name)

abbrev pub literal_token : LiteralExpression → Token
literal_token (l.Bool true) = t.Fixed f.True
literal_token (l.Bool false) = t.Fixed f.False
literal_token (l.AbstractInt n) = t.AbstractInt n
literal_token (l.AbstractFloat spelled) = t.AbstractFloat spelled
literal_token (l.I32 n) = t.I32 n
literal_token (l.U32 n) = t.U32 n
literal_token (l.F32 spelled) = t.F32 spelled
literal_token (l.F16 spelled) = t.F16 spelled

abbrev pub unary_sign : UnaryOperator → Fixed
unary_sign LogicalNegation = f.Bang
unary_sign Negation = f.Minus
unary_sign BitwiseComplement = f.Tilde
unary_sign AddressOf = f.And
unary_sign Indirection = f.Star

abbrev pub binary_sign : BinaryOperator → Fixed
binary_sign ShortCircuitOr = f.OrOr
binary_sign ShortCircuitAnd = f.AndAnd
binary_sign Addition = f.Plus
binary_sign Subtraction = f.Minus
binary_sign Multiplication = f.Star
binary_sign Division = f.ForwardSlash
binary_sign Remainder = f.Modulo
binary_sign Equality = f.EqualEqual
binary_sign Inequality = f.NotEqual
binary_sign LessThan = f.LessThan
binary_sign LessThanEqual = f.LessThanEqual
binary_sign GreaterThan = f.GreaterThan
binary_sign GreaterThanEqual = f.GreaterThanEqual
binary_sign BitwiseOr = f.Or
binary_sign BitwiseAnd = f.And
binary_sign BitwiseXor = f.Xor
binary_sign ShiftLeft = f.ShiftLeft
binary_sign ShiftRight = f.ShiftRight

-- `::super` so many times
abbrev pub supers_tokens : ℕ → List TemplateToken
supers_tokens zero = []
supers_tokens (suc n) = supers_tokens n ++ (mark f.PathSeparator ∷ mark f.Super ∷ [])

-- (`self` is a reserved word, which no text has in a path)
abbrev pub origin_tokens : PathOrigin → List TemplateToken
origin_tokens Absolute = mark f.Package ∷ []
origin_tokens (Relative zero) = Plain (t.Reserved (codes "self")) ∷ []
origin_tokens (Relative (suc n)) = mark f.Super ∷ supers_tokens n
origin_tokens (Package name) = word name ∷ []

abbrev pub components_tokens : List (List ℕ) → List TemplateToken
components_tokens components = flat_map (λ component. mark f.PathSeparator ∷ word component ∷ []) components

abbrev pub path_tokens : ModulePath → List TemplateToken
path_tokens path = origin_tokens path.origin ++ components_tokens path.components

-- what stands before a name: the path of its module and `::`
abbrev pub qualifier_tokens : Option ModulePath → List TemplateToken
qualifier_tokens None = []
qualifier_tokens (Some path) = path_tokens path ++ (mark f.PathSeparator ∷ [])

abbrev mutual
  pub exp_tokens : Exp → List TemplateToken
  exp_tokens (literal l) = Plain (literal_token l) ∷ []
  exp_tokens (parenthesized x) = mark f.ParenLeft ∷ (exp_tokens x ++ (mark f.ParenRight ∷ []))
  exp_tokens (component x name) = exp_tokens x ++ (mark f.Period ∷ word name ∷ [])
  exp_tokens (indexed x y) = exp_tokens x ++ (mark f.BracketLeft ∷ (exp_tokens y ++ (mark f.BracketRight ∷ [])))
  exp_tokens (unary o x) = mark (unary_sign o) ∷ exp_tokens x
  exp_tokens (binary o x y) = exp_tokens x ++ (mark (binary_sign o) ∷ exp_tokens y)
  exp_tokens (call t xs) = typ_tokens t ++ (mark f.ParenLeft ∷ (exps_tokens xs ++ (mark f.ParenRight ∷ [])))
  exp_tokens (named t) = typ_tokens t

  -- with commas between them
  pub exps_tokens : Exps → List TemplateToken
  exps_tokens nil = []
  exps_tokens (cons x xs) = exp_tokens x ++ more_tokens xs

  -- behind the first
  pub more_tokens : Exps → List TemplateToken
  more_tokens nil = []
  more_tokens (cons x xs) = mark f.Comma ∷ (exp_tokens x ++ more_tokens xs)

  pub typ_tokens : Typ → List TemplateToken
  typ_tokens (simple path name) = qualifier_tokens path ++ (word name ∷ [])
  typ_tokens (templated path name xs) = qualifier_tokens path ++ (word name ∷ TemplateArgsStart ∷ (exps_tokens xs ++ (TemplateArgsEnd ∷ [])))
