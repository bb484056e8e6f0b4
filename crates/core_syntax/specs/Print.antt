-- How a tree is printed (this project's own layout): a line for each import, declaration and statement, four spaces a level,
-- `, ` in lists, single spaces round the sign of a binary operator, and no parentheses but the tree's own.
use Rattle.std.specs.Prelude.{ℕ, ◌+◌, ◌*◌, ◌==◌, Bool, false, if◌then◌else◌, List, [], ◌∷◌, ◌++◌, Option, Some, None, codes, replicate}
use Rattle.std.specs.List.{flat_map}
use Rattle.std.specs.Option.{option_map}
use Rattle.std.specs.Fmt.{decimal, signed_decimal}
use Rattle.wgsl_words.specs.Operators.{unary_text, binary_text}
use Rattle.wgsl_words.specs.declared.operators.UnaryOperator.{UnaryOperator}
use Rattle.wgsl_words.specs.declared.operators.UnaryOperator.TheVariants.{Negation, AddressOf}
use Rattle.wgsl_path.specs.declared.path.ModulePath.{ModulePath}
use Rattle.wgsl_path.specs.Paths.{path_text}
use Rattle.core_syntax.specs.declared.expression.LiteralExpression.{LiteralExpression}
use Rattle.core_syntax.specs.declared.expression.LiteralExpression.TheVariants.{AbstractInt, I32, U32}
use Rattle.core_syntax.specs.declared.declaration.DeclarationKind.{DeclarationKind}
use Rattle.core_syntax.specs.declared.declaration.DeclarationKind.TheVariants.{Const}
use Rattle.core_syntax.specs.declared.import.ImportContent.{ImportContent}
use Rattle.core_syntax.specs.declared.import.ImportContent.TheVariants.{Item}
use Rattle.core_syntax.specs.Tree.{Exp, literal, parenthesized, unary, binary, call, named, Exps, nil, cons, Typ, simple, templated, Attr, fragment, location, Stm, returning, Block, Param, Decl, variable, function, Imp, UnitTree}

-- a whole number in decimal, with its suffix
abbrev pub literal_text : LiteralExpression → List ℕ
literal_text (AbstractInt n) = signed_decimal n
literal_text (I32 n) = signed_decimal n ++ codes "i"
literal_text (U32 n) = decimal n ++ codes "u"

abbrev pub begins_with : ℕ → List ℕ → Bool
begins_with c [] = false
begins_with c (x ∷ xs) = x == c

-- Would an operator in front of this text make another sign with it (`--` or `&&`)?
abbrev pub clings : UnaryOperator → List ℕ → Bool
clings Negation text = begins_with 45 text
clings AddressOf text = begins_with 38 text
clings _ text = false

-- an operator in front of its operand, with a space where they would make another sign
abbrev pub prefixed : UnaryOperator → List ℕ → List ℕ
prefixed o text = unary_text o ++ (if clings o text then codes " " else []) ++ text

-- parts, with `, ` between them
abbrev pub commas : {A : Type 0} → (A → List ℕ) → List A → List ℕ
commas text [] = []
commas text (x ∷ xs) = text x ++ flat_map (λ y. codes ", " ++ text y) xs

-- what stands before a name: the path of its module and `::`
abbrev pub qualifier_text : Option ModulePath → List ℕ
qualifier_text None = []
qualifier_text (Some path) = path_text path ++ codes "::"

-- template arguments in their brackets
unfoldable pub angled : List ℕ → List ℕ
angled text = codes "<" ++ text ++ codes ">"

abbrev mutual
  pub exp_text : Exp → List ℕ
  exp_text (literal l) = literal_text l
  exp_text (parenthesized x) = codes "(" ++ exp_text x ++ codes ")"
  exp_text (unary o x) = prefixed o (exp_text x)
  exp_text (binary o x y) = exp_text x ++ codes " " ++ binary_text o ++ codes " " ++ exp_text y
  exp_text (call t xs) = typ_text t ++ codes "(" ++ exps_text xs ++ codes ")"
  exp_text (named t) = typ_text t

  -- with `, ` between them
  pub exps_text : Exps → List ℕ
  exps_text nil = []
  exps_text (cons x xs) = exp_text x ++ more_text xs

  -- behind the first
  pub more_text : Exps → List ℕ
  more_text nil = []
  more_text (cons x xs) = codes ", " ++ exp_text x ++ more_text xs

  pub typ_text : Typ → List ℕ
  typ_text (simple path name) = qualifier_text path ++ name
  typ_text (templated path name xs) = qualifier_text path ++ name ++ angled (exps_text xs)

abbrev pub brackets_text : Option Exps → List ℕ
brackets_text None = []
brackets_text (Some xs) = angled (exps_text xs)

abbrev pub attr_text : Attr → List ℕ
attr_text fragment = codes "@fragment"
attr_text (location x) = codes "@location(" ++ exp_text x ++ codes ")"

-- attributes before their node, a space after each
abbrev pub attrs_text : List Attr → List ℕ
attrs_text attributes = flat_map (λ a. attr_text a ++ codes " ") attributes

abbrev pub indent : ℕ → List ℕ
indent level = replicate (4 * level) 32

abbrev pub value_text : Option Exp → List ℕ
value_text None = []
value_text (Some x) = codes " " ++ exp_text x

-- a statement's line, at a level
abbrev pub stm_text : ℕ → Stm → List ℕ
stm_text level (returning attributes value) = indent level ++ attrs_text attributes ++ codes "return" ++ value_text value ++ codes ";\n"

-- statements in braces: nothing, or lines a level deeper
abbrev pub braces_text : ℕ → List Stm → List ℕ
braces_text level [] = codes "{}"
braces_text level (s ∷ ss) = codes "{\n" ++ flat_map (stm_text (level + 1)) (s ∷ ss) ++ indent level ++ codes "}"

abbrev pub block_text : ℕ → Block → List ℕ
block_text level block = attrs_text block.attributes ++ braces_text level block.statements

-- the body of a function, to the end of its line
unfoldable pub body_text : Block → List ℕ
body_text block = codes " " ++ block_text 0 block ++ codes "\n"

abbrev pub param_text : Param → List ℕ
param_text p = attrs_text p.attributes ++ p.name ++ codes ": " ++ typ_text p.type

abbrev pub annotation_text : Option Typ → List ℕ
annotation_text None = []
annotation_text (Some t) = codes ": " ++ typ_text t

abbrev pub initializer_text : Option Exp → List ℕ
initializer_text None = []
initializer_text (Some x) = codes " = " ++ exp_text x

abbrev pub result_text : List Attr → Option Typ → List ℕ
result_text attributes None = []
result_text attributes (Some t) = codes " -> " ++ attrs_text attributes ++ typ_text t

abbrev pub kind_text : DeclarationKind → List ℕ
kind_text Const = codes "const"

abbrev pub variable_text : List Attr → DeclarationKind → List ℕ → Option Typ → Option Exp → List ℕ
variable_text attributes kind name type value =
    attrs_text attributes ++ kind_text kind ++ codes " " ++ name ++ (annotation_text type ++ initializer_text value ++ codes ";\n")

unfoldable pub head_text : List Attr → List ℕ → List Param → List ℕ
head_text attributes name params = attrs_text attributes ++ codes "fn " ++ name ++ codes "(" ++ commas param_text params ++ codes ")"

abbrev pub decl_text : Decl → List ℕ
decl_text (variable attributes kind name type value) = variable_text attributes kind name type value
decl_text (function attributes name params result_attributes result block) =
    head_text attributes name params ++ result_text result_attributes result ++ body_text block

abbrev pub rename_text : Option (List ℕ) → List ℕ
rename_text None = []
rename_text (Some name) = codes " as " ++ name

-- one item of an import, maybe under another name
abbrev pub item_text : List ℕ → Option (List ℕ) → List ℕ
item_text name rename = name ++ rename_text rename

abbrev pub content_text : ImportContent → List ℕ
content_text (Item x) = item_text x.ident.name (option_map (λ r. r.name) x.rename)

abbrev pub imp_text : Imp → List ℕ
imp_text i = attrs_text i.attributes ++ codes "import " ++ qualifier_text i.path ++ item_text i.item i.rename ++ codes ";\n"

-- the imports, and then the declarations
abbrev pub unit_text : UnitTree → List ℕ
unit_text u = flat_map imp_text u.imports ++ flat_map decl_text u.declarations
