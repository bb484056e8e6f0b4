-- What of the trees the part of the language has that `link` and `compile` read: imports from the root that rename nothing, constants, and
-- functions with at most one `return`; `@fragment` and `@location(..)` before functions, parameters and results alone; whole numbers, names, calls,
-- parentheses, `-` in front, and `+ - * / %`. No path or template arguments stand at a name.
use Rattle.std.specs.Prelude.{Bool, true, false, ◌&&◌, List, [], ◌∷◌, Option, Some, None, IsTrue}
use Rattle.std.specs.List.{list_all}
use Rattle.wgsl_words.specs.declared.operators.UnaryOperator.{UnaryOperator}
use Rattle.wgsl_words.specs.declared.operators.UnaryOperator.TheVariants.{Negation}
use Rattle.wgsl_words.specs.declared.operators.BinaryOperator.{BinaryOperator}
use Rattle.wgsl_words.specs.declared.operators.BinaryOperator.TheVariants.{Addition, Subtraction, Multiplication, Division, Remainder}
use Rattle.wgsl_path.specs.declared.path.ModulePath.{ModulePath}
use Rattle.wgsl_path.specs.declared.path.PathOrigin.{PathOrigin}
use Rattle.wgsl_path.specs.declared.path.PathOrigin.TheVariants.{Absolute, Relative, Package}
use Rattle.core_syntax.specs.Tree.{Exp, literal, parenthesized, unary, binary, call, named, Exps, nil, cons, Typ, simple, templated, Attr, fragment, location, Stm, returning, Block, Param, Decl, variable, function, Imp, UnitTree}

abbrev pub is_none : {A : Type 0} → Option A → Bool
is_none None = true
is_none (Some x) = false

abbrev pub are_none : {A : Type 0} → List A → Bool
are_none [] = true
are_none (x ∷ xs) = false

-- ---- expressions

abbrev pub is_sign : UnaryOperator → Bool
is_sign Negation = true
is_sign _ = false

abbrev pub is_arithmetic : BinaryOperator → Bool
is_arithmetic Addition = true
is_arithmetic Subtraction = true
is_arithmetic Multiplication = true
is_arithmetic Division = true
is_arithmetic Remainder = true
is_arithmetic _ = false

-- a name alone
abbrev pub is_name : Typ → Bool
is_name (simple path name) = is_none path
is_name (templated path name arguments) = false

abbrev mutual
  pub is_expression : Exp → Bool
  is_expression (literal l) = true
  is_expression (parenthesized x) = is_expression x
  is_expression (unary o x) = is_sign o && is_expression x
  is_expression (binary o x y) = is_arithmetic o && (is_expression x && is_expression y)
  is_expression (call t xs) = is_name t && are_expressions xs
  is_expression (named t) = is_name t

  pub are_expressions : Exps → Bool
  are_expressions nil = true
  are_expressions (cons x xs) = is_expression x && are_expressions xs

-- it may be absent
abbrev pub maybe_expression : Option Exp → Bool
maybe_expression None = true
maybe_expression (Some x) = is_expression x

-- it is there
abbrev pub some_expression : Option Exp → Bool
some_expression None = false
some_expression (Some x) = is_expression x

abbrev pub maybe_name : Option Typ → Bool
maybe_name None = true
maybe_name (Some t) = is_name t

-- ---- declarations

abbrev pub is_attribute : Attr → Bool
is_attribute fragment = true
is_attribute (location x) = is_expression x

abbrev pub are_attributes : List Attr → Bool
are_attributes attributes = list_all is_attribute attributes

abbrev pub is_statement : Stm → Bool
is_statement (returning attributes value) = are_none attributes && maybe_expression value

-- at most one statement
abbrev pub is_body : List Stm → Bool
is_body [] = true
is_body (s ∷ []) = is_statement s
is_body (s ∷ t ∷ ss) = false

abbrev pub is_block : Block → Bool
is_block b = are_none b.attributes && is_body b.statements

abbrev pub is_parameter : Param → Bool
is_parameter p = are_attributes p.attributes && is_name p.type

-- attributes stand before a type alone
abbrev pub is_result : List Attr → Option Typ → Bool
is_result attributes None = are_none attributes
is_result attributes (Some t) = are_attributes attributes && is_name t

abbrev pub is_declaration : Decl → Bool
is_declaration (variable attributes kind name type value) = are_none attributes && (maybe_name type && some_expression value)
is_declaration (function attributes name params result_attributes result body) =
    are_attributes attributes && (list_all is_parameter params && (is_result result_attributes result && is_block body))

-- ---- modules

abbrev pub is_absolute : PathOrigin → Bool
is_absolute Absolute = true
is_absolute (Relative n) = false
is_absolute (Package name) = false

abbrev pub is_from_root : Option ModulePath → Bool
is_from_root None = false
is_from_root (Some path) = is_absolute path.origin

abbrev pub is_import : Imp → Bool
is_import i = are_none i.attributes && (is_from_root i.path && is_none i.rename)

abbrev pub is_unit : UnitTree → Bool
is_unit u = list_all is_import u.imports && list_all is_declaration u.declarations

-- The unit has nothing else.
abbrev pub IsInCore : UnitTree → Type 0
IsInCore u = IsTrue (is_unit u)
