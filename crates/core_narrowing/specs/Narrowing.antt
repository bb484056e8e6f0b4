-- The tree of a unit that a tree of the whole language is, where it is one.
use Rattle.std.specs.Prelude.{◌≡◌, ⊤, ℕ, List, [], ◌∷◌, ◌++◌, Option, Some, None, Result, Ok, Err}
use Rattle.std.specs.Option.{option_map, option_zip}
use Rattle.core_syntax.specs.declared.expression.LiteralExpression.{LiteralExpression}
use Rattle.core_syntax.specs.declared.expression.LiteralExpression.TheVariants as number
use Rattle.core_syntax.specs.declared.declaration.DeclarationKind.{DeclarationKind}
use Rattle.core_syntax.specs.declared.declaration.DeclarationKind.TheVariants as kind
use Rattle.core_syntax.specs.declared.unit.TranslationUnit.{TranslationUnit}
use Rattle.core_syntax.specs.View.{unit_tree}
use Rattle.core_syntax.specs.Tree.{Exp, literal, parenthesized, unary, binary, call, named, Exps, nil, cons, Typ, simple, templated, Attr, fragment, location, Stm, returning, Block, Param, Decl, variable, function, Imp, UnitTree}
use Rattle.wgsl_expressions.specs.declared.expression.LiteralExpression as whole_literal
use Rattle.wgsl_expressions.specs.declared.expression.LiteralExpression.TheVariants as whole_number
use Rattle.wgsl_expressions.specs.Tree as exp
use Rattle.wgsl_expressions.specs.AttributesTree as attr
use Rattle.wgsl_simple_statements.specs.declared.declaration.DeclarationKind as whole_kind
use Rattle.wgsl_simple_statements.specs.declared.declaration.DeclarationKind.TheVariants as whole_kinds
use Rattle.wgsl_simple_statements.specs.Tree as simple_stm
use Rattle.wgsl_statements.specs.Tree as stm
use Rattle.wgsl_declarations.specs.ImportsTree as imp
use Rattle.wgsl_declarations.specs.Tree as decl
use Rattle.core_narrowing.specs.Widening.{widen_unit}
use Rattle.core_narrowing.specs.declared.error.NarrowError.{NarrowError}
use Rattle.core_narrowing.specs.declared.error.NarrowError.TheVariants.{Unsupported, OutOfMemory}

-- two, where both are there
abbrev pub both : {A B C : Type 0} → (A → B → C) → Option A → Option B → Option C
both f None o = None
both f (Some x) None = None
both f (Some x) (Some y) = Some (f x y)

-- all of a list, where each is there
abbrev pub each : {A B : Type 0} → (A → Option B) → List A → Option (List B)
each f [] = Some []
each f (x ∷ xs) = both (λ y ys. y ∷ ys) (f x) (each f xs)

-- what may be absent
abbrev pub maybe : {A B : Type 0} → (A → Option B) → Option A → Option (Option B)
maybe f None = Some None
maybe f (Some x) = option_map (λ y. Some y) (f x)

abbrev pub narrow_literal : whole_literal.LiteralExpression → Option LiteralExpression
narrow_literal (whole_number.AbstractInt n) = Some (number.AbstractInt n)
narrow_literal (whole_number.I32 n) = Some (number.I32 n)
narrow_literal (whole_number.U32 n) = Some (number.U32 n)
narrow_literal (whole_number.Bool b) = None
narrow_literal (whole_number.AbstractFloat text) = None
narrow_literal (whole_number.F32 text) = None
narrow_literal (whole_number.F16 text) = None

abbrev mutual
  pub narrow_exp : exp.Exp → Option Exp
  narrow_exp (exp.literal l) = option_map literal (narrow_literal l)
  narrow_exp (exp.parenthesized x) = option_map parenthesized (narrow_exp x)
  narrow_exp (exp.component x name) = None
  narrow_exp (exp.indexed x y) = None
  narrow_exp (exp.unary o x) = option_map (unary o) (narrow_exp x)
  narrow_exp (exp.binary o x y) = both (binary o) (narrow_exp x) (narrow_exp y)
  narrow_exp (exp.call t xs) = both call (narrow_typ t) (narrow_exps xs)
  narrow_exp (exp.named t) = option_map named (narrow_typ t)

  pub narrow_exps : exp.Exps → Option Exps
  narrow_exps exp.nil = Some nil
  narrow_exps (exp.cons x xs) = both cons (narrow_exp x) (narrow_exps xs)

  pub narrow_typ : exp.Typ → Option Typ
  narrow_typ (exp.simple path name) = Some (simple path name)
  narrow_typ (exp.templated path name xs) = option_map (templated path name) (narrow_exps xs)

abbrev pub narrow_attr : attr.Attr → Option Attr
narrow_attr attr.fragment = Some fragment
narrow_attr (attr.location x) = option_map location (narrow_exp x)
narrow_attr _ = None

abbrev pub narrow_attrs : List attr.Attr → Option (List Attr)
narrow_attrs attributes = each narrow_attr attributes

abbrev pub narrow_stm : stm.Stm → Option Stm
narrow_stm (stm.simple (simple_stm.returning attributes value)) = both returning (narrow_attrs attributes) (maybe narrow_exp value)
narrow_stm _ = None

abbrev pub narrow_stms : stm.Stms → Option (List Stm)
narrow_stms stm.nil = Some []
narrow_stms (stm.cons s ss) = both (λ t ts. t ∷ ts) (narrow_stm s) (narrow_stms ss)

abbrev pub narrow_block : stm.Block → Option Block
narrow_block (stm.block attributes ss) = both (λ a b. record { attributes = a; statements = b }) (narrow_attrs attributes) (narrow_stms ss)

abbrev pub narrow_param : decl.Param → Option Param
narrow_param p = both (λ a t. record { attributes = a; name = p.name; type = t }) (narrow_attrs p.attributes) (narrow_typ p.type)

abbrev pub narrow_kind : whole_kind.DeclarationKind → Option DeclarationKind
narrow_kind whole_kinds.Const = Some kind.Const
narrow_kind _ = None

abbrev pub narrow_decl : decl.Decl → Option Decl
narrow_decl (decl.variable attributes kind name type value) =
    both (λ front back. variable front.0 front.1 name back.0 back.1) (option_zip (narrow_attrs attributes) (narrow_kind kind))
    (option_zip (maybe narrow_typ type) (maybe narrow_exp value))
narrow_decl (decl.function attributes name params result_attributes result body) =
    both (λ front back. function front.0 name front.1 back.0 back.1.0 back.1.1) (option_zip (narrow_attrs attributes) (each narrow_param params))
    (option_zip (narrow_attrs result_attributes) (option_zip (maybe narrow_typ result) (narrow_block body)))
narrow_decl _ = None

abbrev pub narrow_content : imp.Content → Option (List ℕ × Option (List ℕ))
narrow_content (imp.item name rename) = Some (name, rename)
narrow_content (imp.collection is) = None

abbrev pub narrow_imp : imp.Importing → Option Imp
narrow_imp i = both (λ a x. record { attributes = a; path = i.path; item = x.0; rename = x.1 }) (narrow_attrs i.attributes) (narrow_content i.content)

abbrev pub without_directives : List imp.Directive → Option Unit
without_directives [] = Some tt
without_directives (d ∷ ds) = None

abbrev pub narrow_unit : decl.UnitTree → Option UnitTree
narrow_unit u =
    both (λ x parts. record { imports = parts.0; declarations = parts.1 }) (without_directives u.directives)
    (option_zip (each narrow_imp u.imports) (each narrow_decl u.declarations))

-- some in front of the others, where those are there
abbrev pub in_front : {A : Type 0} → List A → Option (List A) → Option (List A)
in_front xs o = option_map (λ ys. xs ++ ys) o

abbrev pub exps_behind : List Exp → Exps → Exps
exps_behind [] ys = ys
exps_behind (x ∷ xs) ys = cons x (exps_behind xs ys)

abbrev pub ahead : List Exp → Option Exps → Option Exps
ahead xs o = option_map (exps_behind xs) o

-- what a function answers that narrows a tree
abbrev pub Answers : {A T : Type 0} → (A → T) → Option T → Result A NarrowError → Type 0
Answers tree o (Ok x) = o ≡ Some (tree x)
Answers tree o (Err Unsupported) = o ≡ None
Answers tree o (Err OutOfMemory) = ⊤

-- likewise of what may be a `;`
abbrev pub AnswersOptional : {A T U : Type 0} → (A → T) → (U → Option T) → Option U → Result (Option A) NarrowError → Type 0
AnswersOptional tree narrow o (Ok x) = maybe narrow o ≡ Some (option_map tree x)
AnswersOptional tree narrow o (Err Unsupported) = maybe narrow o ≡ None
AnswersOptional tree narrow o (Err OutOfMemory) = ⊤

-- Memory aside: a unit that the module is, or there is none.
abbrev pub Narrows : decl.UnitTree → Result TranslationUnit NarrowError → Type 0
Narrows u (Ok unit) = widen_unit (unit_tree unit) ≡ u
Narrows u (Err Unsupported) = (v : UnitTree) → widen_unit v ≡ u → ⊥
Narrows u (Err OutOfMemory) = ⊤
