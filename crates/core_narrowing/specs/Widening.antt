-- The trees of `core_syntax` among those of the whole language: what each of them is there.
use Rattle.std.specs.Prelude.{List, [], ◌∷◌, map}
use Rattle.std.specs.Option.{option_map}
use Rattle.core_syntax.specs.declared.expression.LiteralExpression.{LiteralExpression}
use Rattle.core_syntax.specs.declared.expression.LiteralExpression.TheVariants as number
use Rattle.core_syntax.specs.declared.declaration.DeclarationKind.{DeclarationKind}
use Rattle.core_syntax.specs.declared.declaration.DeclarationKind.TheVariants as kind
use Rattle.core_syntax.specs.Tree.{Exp, literal, parenthesized, unary, binary, call, named, Exps, nil, cons, Typ, simple, templated, Attr, fragment, location, Stm, returning, Block, Param, Decl, variable, function, Imp, UnitTree}
use Rattle.wgsl_expressions.specs.declared.expression.LiteralExpression as whole_literal
use Rattle.wgsl_expressions.specs.declared.expression.LiteralExpression.TheVariants as whole_number
use Rattle.wgsl_expressions.specs.Tree as exp
use Rattle.wgsl_expressions.specs.AttributesTree as attr
use Rattle.wgsl_simple_statements.specs.declared.declaration.DeclarationKind as whole_kind
use Rattle.wgsl_simple_statements.specs.declared.declaration.DeclarationKind.TheVariants as whole_kinds
use Rattle.wgsl_simple_statements.specs.Tree as simple_stm
use Rattle.wgsl_statements.specs.Tree as stm
use Rattle.wgsl_declarations.specs.ImportsTree as imp
use Rattle.wgsl_declarations.specs.Tree as decl

abbrev pub widen_literal : LiteralExpression → whole_literal.LiteralExpression
widen_literal (number.AbstractInt n) = whole_number.AbstractInt n
widen_literal (number.I32 n) = whole_number.I32 n
widen_literal (number.U32 n) = whole_number.U32 n

abbrev mutual
  pub widen_exp : Exp → exp.Exp
  widen_exp (literal l) = exp.literal (widen_literal l)
  widen_exp (parenthesized x) = exp.parenthesized (widen_exp x)
  widen_exp (unary o x) = exp.unary o (widen_exp x)
  widen_exp (binary o x y) = exp.binary o (widen_exp x) (widen_exp y)
  widen_exp (call t xs) = exp.call (widen_typ t) (widen_exps xs)
  widen_exp (named t) = exp.named (widen_typ t)

  pub widen_exps : Exps → exp.Exps
  widen_exps nil = exp.nil
  widen_exps (cons x xs) = exp.cons (widen_exp x) (widen_exps xs)

  pub widen_typ : Typ → exp.Typ
  widen_typ (simple path name) = exp.simple path name
  widen_typ (templated path name xs) = exp.templated path name (widen_exps xs)

abbrev pub widen_attr : Attr → attr.Attr
widen_attr fragment = attr.fragment
widen_attr (location x) = attr.location (widen_exp x)

abbrev pub widen_attrs : List Attr → List attr.Attr
widen_attrs attributes = map widen_attr attributes

abbrev pub widen_stm : Stm → stm.Stm
widen_stm (returning attributes value) = stm.simple (simple_stm.returning (widen_attrs attributes) (option_map widen_exp value))

abbrev pub widen_stms : List Stm → stm.Stms
widen_stms [] = stm.nil
widen_stms (s ∷ ss) = stm.cons (widen_stm s) (widen_stms ss)

abbrev pub widen_block : Block → stm.Block
widen_block b = stm.block (widen_attrs b.attributes) (widen_stms b.statements)

abbrev pub widen_param : Param → decl.Param
widen_param p = record { attributes = widen_attrs p.attributes; name = p.name; type = widen_typ p.type }

abbrev pub widen_kind : DeclarationKind → whole_kind.DeclarationKind
widen_kind kind.Const = whole_kinds.Const

abbrev pub widen_decl : Decl → decl.Decl
widen_decl (variable attributes kind name type value) =
    decl.variable (widen_attrs attributes) (widen_kind kind) name (option_map widen_typ type) (option_map widen_exp value)
widen_decl (function attributes name params result_attributes result body) =
    decl.function (widen_attrs attributes) name (map widen_param params) (widen_attrs result_attributes) (option_map widen_typ result) (widen_block body)

abbrev pub widen_imp : Imp → imp.Importing
widen_imp i = record { attributes = widen_attrs i.attributes; path = i.path; content = imp.item i.item i.rename }

abbrev pub widen_unit : UnitTree → decl.UnitTree
widen_unit u = record { imports = map widen_imp u.imports; directives = []; declarations = map widen_decl u.declarations }
