-- A unit of the part is printed as the module of the whole language that it is.
use Rattle.std.proofs.Common.{◌≡◌, refl, sym, ap, ◌∙◌, ℕ, ◌+◌, if◌then◌else◌, List, [], ◌∷◌, ◌++◌, map, codes, Option, Some, None, append-nil, append_assoc}
use Rattle.std.specs.Option.{option_map}
use Rattle.std.specs.List.{flat_map}
use Rattle.wgsl_words.specs.Operators.{unary_text, binary_text}
use Rattle.wgsl_words.specs.declared.operators.UnaryOperator.{UnaryOperator}
use Rattle.wgsl_words.specs.declared.operators.UnaryOperator.TheVariants as operator
use Rattle.wgsl_path.specs.declared.path.ModulePath.{ModulePath}
use Rattle.core_syntax.specs.declared.expression.LiteralExpression.{LiteralExpression}
use Rattle.core_syntax.specs.declared.expression.LiteralExpression.TheVariants as number
use Rattle.core_syntax.specs.declared.declaration.DeclarationKind.TheVariants as kind
use Rattle.core_syntax.specs.Tree.{Exp, literal, parenthesized, unary, binary, call, named, Exps, nil, cons, Typ, simple, templated, Attr, fragment, location, Stm, returning, Block, Param, Decl, variable, function, Imp, UnitTree}
use Rattle.core_syntax.specs.Print as part
use Rattle.wgsl_expressions.specs.Print as exp
use Rattle.wgsl_expressions.specs.AttributesPrint as attr
use Rattle.wgsl_simple_statements.specs.Print as simple_stm
use Rattle.wgsl_statements.specs.Print as stm
use Rattle.wgsl_declarations.specs.ImportsPrint as imp
use Rattle.wgsl_declarations.specs.Print as decl
use Rattle.core_narrowing.specs.Widening.{widen_literal, widen_exp, widen_exps, widen_typ, widen_attr, widen_attrs, widen_stm, widen_stms, widen_block, widen_param, widen_decl, widen_imp, widen_unit}

literal_alike : (l : LiteralExpression) → exp.literal_text (widen_literal l) ≡ part.literal_text l
literal_alike (number.AbstractInt n) = refl
literal_alike (number.I32 n) = refl
literal_alike (number.U32 n) = refl

begins_alike : (c : ℕ) (t : List ℕ) → exp.begins_with c t ≡ part.begins_with c t
begins_alike c [] = refl
begins_alike c (x ∷ t) = refl

clings_alike : (o : UnaryOperator) (t : List ℕ) → exp.clings o t ≡ part.clings o t
clings_alike operator.AddressOf t = begins_alike 38 t
clings_alike operator.Negation t = begins_alike 45 t
clings_alike operator.LogicalNegation t = refl
clings_alike operator.BitwiseComplement t = refl
clings_alike operator.Indirection t = refl

prefixed_alike : (o : UnaryOperator) (t : List ℕ) → exp.prefixed o t ≡ part.prefixed o t
prefixed_alike o t = ap (λ b. unary_text o ++ (if b then codes " " else []) ++ t) (clings_alike o t)

qualifier_alike : (path : Option ModulePath) → exp.qualifier_text path ≡ part.qualifier_text path
qualifier_alike None = refl
qualifier_alike (Some path) = refl

angled_alike : (t : List ℕ) → exp.angled t ≡ part.angled t
unfolding exp.angled part.angled
angled_alike t = refl

mutual
  pub exp_alike : (x : Exp) → exp.exp_text (widen_exp x) ≡ part.exp_text x
  exp_alike (literal l) = literal_alike l
  exp_alike (parenthesized x) = ap (λ t. codes "(" ++ t ++ codes ")") (exp_alike x)
  exp_alike (unary o x) = ap (exp.prefixed o) (exp_alike x) ∙ prefixed_alike o (part.exp_text x)
  exp_alike (binary o x y) = λ i. exp_alike x i ++ codes " " ++ binary_text o ++ codes " " ++ exp_alike y i
  exp_alike (call t xs) = λ i. typ_alike t i ++ codes "(" ++ exps_alike xs i ++ codes ")"
  exp_alike (named t) = typ_alike t

  exps_alike : (xs : Exps) → exp.exps_text (widen_exps xs) ≡ part.exps_text xs
  exps_alike nil = refl
  exps_alike (cons x xs) = λ i. exp_alike x i ++ more_alike xs i

  more_alike : (xs : Exps) → exp.more_text (widen_exps xs) ≡ part.more_text xs
  more_alike nil = refl
  more_alike (cons x xs) = λ i. codes ", " ++ exp_alike x i ++ more_alike xs i

  pub typ_alike : (t : Typ) → exp.typ_text (widen_typ t) ≡ part.typ_text t
  typ_alike (simple path name) = ap (λ q. q ++ name) (qualifier_alike path)
  typ_alike (templated path name xs) = (λ i. qualifier_alike path i ++ name ++ exp.angled (exps_alike xs i)) ∙ ap (λ t. part.qualifier_text path ++ name ++ t) (angled_alike (part.exps_text xs))

-- ---- attributes

argued_alike : (t : List ℕ) → attr.argued (codes "location") t ≡ codes "@location(" ++ t ++ codes ")"
unfolding attr.argued
argued_alike t = refl

attr_alike : (a : Attr) → attr.attr_text (widen_attr a) ≡ part.attr_text a
attr_alike fragment = refl
attr_alike (location x) = ap (attr.argued (codes "location")) (exp_alike x) ∙ argued_alike (part.exp_text x)

attrs_alike : (attributes : List Attr) → attr.attrs_text (widen_attrs attributes) ≡ part.attrs_text attributes
attrs_alike [] = refl
attrs_alike (a ∷ attributes) = λ i. (attr_alike a i ++ codes " ") ++ attrs_alike attributes i

-- ---- statements

value_alike : (value : Option Exp) → simple_stm.value_text (option_map widen_exp value) ≡ part.value_text value
value_alike None = refl
value_alike (Some x) = ap (λ t. codes " " ++ t) (exp_alike x)

four : (a b c d : List ℕ) → a ++ (b ++ c ++ d) ≡ a ++ b ++ c ++ d
four a b c d = sym (append_assoc a (b ++ c) d) ∙ ap (λ z. z ++ d) (sym (append_assoc a b c))

stm_alike : (level : ℕ) (s : Stm) → stm.stm_text level (widen_stm s) ≡ part.stm_text level s
stm_alike level (returning attributes value) =
    (λ i. exp.indent level ++ (attrs_alike attributes i ++ codes "return" ++ value_alike value i) ++ codes ";\n")
    ∙ ap (λ z. z ++ codes ";\n") (four (exp.indent level) (part.attrs_text attributes) (codes "return") (part.value_text value))

stms_alike : (level : ℕ) (ss : List Stm) → stm.stms_text level (widen_stms ss) ≡ flat_map (part.stm_text level) ss
stms_alike level [] = refl
stms_alike level (s ∷ ss) = λ i. stm_alike level s i ++ stms_alike level ss i

filled : (level : ℕ) (y z : List ℕ) → stm.braced level (y ++ 59 ∷ z) ≡ codes "{\n" ++ (y ++ 59 ∷ z) ++ exp.indent level ++ codes "}"
filled level [] z = refl
filled level (c ∷ y) z = refl

braces_alike : (level : ℕ) (ss : List Stm) → stm.braced level (flat_map (part.stm_text (level + 1)) ss) ≡ part.braces_text level ss
braces_alike level [] = refl
braces_alike level (returning attributes value ∷ ss) =
    let front = exp.indent (level + 1) ++ part.attrs_text attributes ++ codes "return" ++ part.value_text value in
    let rest = flat_map (part.stm_text (level + 1)) ss in
    let same : front ++ codes ";\n" ++ rest ≡ front ++ 59 ∷ 10 ∷ rest = append_assoc front (codes ";\n") rest in
    ap (stm.braced level) same ∙ filled level front (10 ∷ rest) ∙ ap (λ t. codes "{\n" ++ t ++ exp.indent level ++ codes "}") (sym same)

block_alike : (level : ℕ) (b : Block) → stm.block_text level (widen_block b) ≡ part.block_text level b
block_alike level b =
    (λ i. attrs_alike b.attributes i ++ stm.braced level (stms_alike (level + 1) b.statements i)) ∙ ap (λ t. part.attrs_text b.attributes ++ t) (braces_alike level b.statements)

body_alike : (b : Block) → decl.body_text (widen_block b) ≡ part.body_text b
unfolding decl.body_text part.body_text
body_alike b = ap (λ t. codes " " ++ t ++ codes "\n") (block_alike 0 b)

-- ---- declarations

param_alike : (p : Param) → decl.param_text (widen_param p) ≡ part.param_text p
param_alike p = λ i. attrs_alike p.attributes i ++ p.name ++ codes ": " ++ typ_alike p.type i

more_params : (ps : List Param) → flat_map (λ y. codes ", " ++ decl.param_text y) (map widen_param ps) ≡ flat_map (λ y. codes ", " ++ part.param_text y) ps
more_params [] = refl
more_params (p ∷ ps) = λ i. (codes ", " ++ param_alike p i) ++ more_params ps i

params_alike : (ps : List Param) → exp.commas decl.param_text (map widen_param ps) ≡ part.commas part.param_text ps
params_alike [] = refl
params_alike (p ∷ ps) = λ i. param_alike p i ++ more_params ps i

annotation_alike : (type : Option Typ) → simple_stm.annotation_text (option_map widen_typ type) ≡ part.annotation_text type
annotation_alike None = refl
annotation_alike (Some t) = ap (λ z. codes ": " ++ z) (typ_alike t)

initializer_alike : (value : Option Exp) → simple_stm.initializer_text (option_map widen_exp value) ≡ part.initializer_text value
initializer_alike None = refl
initializer_alike (Some x) = ap (λ z. codes " = " ++ z) (exp_alike x)

result_alike : (attributes : List Attr) (result : Option Typ) → decl.result_text (widen_attrs attributes) (option_map widen_typ result) ≡ part.result_text attributes result
result_alike attributes None = refl
result_alike attributes (Some t) = λ i. codes " -> " ++ attrs_alike attributes i ++ typ_alike t i

head_alike : (attributes : List Attr) (name : List ℕ) (params : List Param) → decl.head_text (widen_attrs attributes) name (map widen_param params) ≡ part.head_text attributes name params
unfolding decl.head_text part.head_text
head_alike attributes name params = λ i. attrs_alike attributes i ++ codes "fn " ++ name ++ codes "(" ++ params_alike params i ++ codes ")"

six : (a b c d e f : List ℕ) → a ++ (b ++ c ++ d ++ e ++ f) ≡ a ++ b ++ c ++ d ++ (e ++ f)
six a b c d e f =
    ap (λ z. a ++ z) (append_assoc (b ++ c ++ d) e f) ∙ sym (append_assoc a (b ++ c ++ d) (e ++ f)) ∙ ap (λ z. z ++ (e ++ f)) (sym (append_assoc a (b ++ c) d) ∙ ap (λ z. z ++ d) (sym (append_assoc a b c)))

variable_alike : (attributes : List Attr) (name : List ℕ) (type : Option Typ) (value : Option Exp)
    → decl.decl_text (widen_decl (variable attributes kind.Const name type value)) ≡ part.decl_text (variable attributes kind.Const name type value)
variable_alike attributes name type value =
    let a = part.attrs_text attributes in
    let e = part.annotation_text type in
    let f = part.initializer_text value in
    (λ i. attrs_alike attributes i ++ (codes "const" ++ codes " " ++ name ++ annotation_alike type i ++ initializer_alike value i) ++ codes ";\n")
    ∙ ap (λ z. z ++ codes ";\n") (six a (codes "const") (codes " ") name e f)
    ∙ append_assoc (a ++ codes "const" ++ codes " " ++ name) (e ++ f) (codes ";\n")

pub decl_alike : (d : Decl) → decl.decl_text (widen_decl d) ≡ part.decl_text d
decl_alike (variable attributes kind.Const name type value) = variable_alike attributes name type value
decl_alike (function attributes name params result_attributes result body) =
    λ i. head_alike attributes name params i ++ result_alike result_attributes result i ++ body_alike body i

decls_alike : (ds : List Decl) → flat_map decl.decl_text (map widen_decl ds) ≡ flat_map part.decl_text ds
decls_alike [] = refl
decls_alike (d ∷ ds) = λ i. decl_alike d i ++ decls_alike ds i

-- ---- modules

rename_alike : (rename : Option (List ℕ)) → imp.rename_text rename ≡ part.rename_text rename
rename_alike None = refl
rename_alike (Some name) = refl

imp_alike : (x : Imp) → imp.importing_text (widen_imp x) ≡ part.imp_text x
imp_alike x = λ i. attrs_alike x.attributes i ++ codes "import " ++ qualifier_alike x.path i ++ (x.item ++ rename_alike x.rename i) ++ codes ";\n"

imps_alike : (xs : List Imp) → flat_map imp.importing_text (map widen_imp xs) ≡ flat_map part.imp_text xs
imps_alike [] = refl
imps_alike (x ∷ xs) = λ i. imp_alike x i ++ imps_alike xs i

pub unit_alike : (u : UnitTree) → decl.unit_text (widen_unit u) ≡ part.unit_text u
unit_alike u = ap (λ z. z ++ flat_map decl.decl_text (map widen_decl u.declarations)) (append-nil (flat_map imp.importing_text (map widen_imp u.imports))) ∙ (λ i. imps_alike u.imports i ++ decls_alike u.declarations i)
