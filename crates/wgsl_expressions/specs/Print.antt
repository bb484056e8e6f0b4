-- How an expression is printed (this project's own layout): `, ` in lists, single spaces round the sign of a binary operator,
-- and no parentheses but the tree's own.
use Rattle.std.specs.Prelude.{ℕ, ◌*◌, ◌==◌, Bool, true, false, if◌then◌else◌, List, [], ◌∷◌, ◌++◌, Option, Some, None, codes, replicate}
use Rattle.std.specs.List.{flat_map}
use Rattle.std.specs.Fmt.{decimal, signed_decimal}
use Rattle.wgsl_words.specs.Operators.{unary_text, binary_text}
use Rattle.wgsl_words.specs.declared.operators.UnaryOperator.{UnaryOperator}
use Rattle.wgsl_words.specs.declared.operators.UnaryOperator.TheVariants.{Negation, AddressOf}
use Rattle.wgsl_path.specs.declared.path.ModulePath.{ModulePath}
use Rattle.wgsl_path.specs.Paths.{path_text}
use Rattle.wgsl_expressions.specs.declared.expression.LiteralExpression.{LiteralExpression}
use Rattle.wgsl_expressions.specs.declared.expression.LiteralExpression.TheVariants as literals
use Rattle.wgsl_expressions.specs.Tree.{Exp, literal, parenthesized, component, indexed, unary, binary, call, named, Exps, nil, cons, Typ, simple, templated}

-- a whole number in decimal and a float as it is spelled, each with its suffix
abbrev pub literal_text : LiteralExpression → List ℕ
literal_text (literals.Bool truth) = if truth then codes "true" else codes "false"
literal_text (literals.AbstractInt n) = signed_decimal n
literal_text (literals.AbstractFloat spelled) = spelled
literal_text (literals.I32 n) = signed_decimal n ++ codes "i"
literal_text (literals.U32 n) = decimal n ++ codes "u"
literal_text (literals.F32 spelled) = spelled ++ codes "f"
literal_text (literals.F16 spelled) = spelled ++ codes "h"

abbrev pub is_number : LiteralExpression → Bool
is_number (literals.Bool truth) = false
is_number _ = true

abbrev pub is_numeric : Exp → Bool
is_numeric (literal l) = is_number l
is_numeric _ = false

-- what stands before `.` and a name: behind a number a space, since `1.` would be another number
abbrev pub gap : Exp → List ℕ
gap x = if is_numeric x then codes " " else []

abbrev pub begins_with : ℕ → List ℕ → Bool
begins_with c [] = false
begins_with c (x ∷ xs) = x == c

-- Would an operator in front of this text make another sign with it (`--` or `&&`)?
abbrev pub clings : UnaryOperator → List ℕ → Bool
clings Negation text = begins_with 45 text
clings AddressOf text = begins_with 38 text
clings _ text = false

-- an operator in front of its operand, with a space where they would make another sign
abbrev pub prefixed : UnaryOperator → List ℕ → List ℕ
prefixed o text = unary_text o ++ (if clings o text then codes " " else []) ++ text

-- parts, with `, ` between them
abbrev pub commas : {A : Type 0} → (A → List ℕ) → List A → List ℕ
commas text [] = []
commas text (x ∷ xs) = text x ++ flat_map (λ y. codes ", " ++ text y) xs

-- what stands before a name: the path of its module and `::`
abbrev pub qualifier_text : Option ModulePath → List ℕ
qualifier_text None = []
qualifier_text (Some path) = path_text path ++ codes "::"

-- template arguments in their brackets
unfoldable pub angled : List ℕ → List ℕ
angled text = codes "<" ++ text ++ codes ">"

abbrev mutual
  pub exp_text : Exp → List ℕ
  exp_text (literal l) = literal_text l
  exp_text (parenthesized x) = codes "(" ++ exp_text x ++ codes ")"
  exp_text (component x name) = exp_text x ++ gap x ++ codes "." ++ name
  exp_text (indexed x y) = exp_text x ++ codes "[" ++ exp_text y ++ codes "]"
  exp_text (unary o x) = prefixed o (exp_text x)
  exp_text (binary o x y) = exp_text x ++ codes " " ++ binary_text o ++ codes " " ++ exp_text y
  exp_text (call t xs) = typ_text t ++ codes "(" ++ exps_text xs ++ codes ")"
  exp_text (named t) = typ_text t

  -- with `, ` between them
  pub exps_text : Exps → List ℕ
  exps_text nil = []
  exps_text (cons x xs) = exp_text x ++ more_text xs

  -- behind the first
  pub more_text : Exps → List ℕ
  more_text nil = []
  more_text (cons x xs) = codes ", " ++ exp_text x ++ more_text xs

  pub typ_text : Typ → List ℕ
  typ_text (simple path name) = qualifier_text path ++ name
  typ_text (templated path name xs) = qualifier_text path ++ name ++ angled (exps_text xs)

abbrev pub brackets_text : Option Exps → List ℕ
brackets_text None = []
brackets_text (Some xs) = angled (exps_text xs)

-- the spaces at the beginning of a line
abbrev pub indent : ℕ → List ℕ
indent level = replicate (4 * level) 32
