-- A tree of the whole language lies in the part exactly where it is narrowed.
use Rattle.std.proofs.Common.{◌≡◌, refl, sym, ap, ◌∙◌, ℕ, List, [], ◌∷◌, map, Option, Some, None, Result, Ok, Err}
use Rattle.std.specs.Option.{option_map, option_zip}
use Rattle.core_syntax.specs.declared.expression.LiteralExpression.{LiteralExpression}
use Rattle.core_syntax.specs.declared.expression.LiteralExpression.TheVariants as number
use Rattle.core_syntax.specs.declared.declaration.DeclarationKind.{DeclarationKind}
use Rattle.core_syntax.specs.declared.declaration.DeclarationKind.TheVariants as kind
use Rattle.core_syntax.specs.declared.unit.TranslationUnit.{TranslationUnit}
use Rattle.core_syntax.specs.View.{unit_tree}
use Rattle.core_syntax.specs.Tree.{Exp, literal, parenthesized, unary, binary, call, named, Exps, nil, cons, Typ, simple, templated, Attr, fragment, location, Stm, returning, Block, Param, Decl, variable, function, Imp, UnitTree}
use Rattle.wgsl_expressions.specs.declared.expression.LiteralExpression as whole_literal
use Rattle.wgsl_expressions.specs.declared.expression.LiteralExpression.TheVariants as whole_number
use Rattle.wgsl_expressions.specs.Tree as exp
use Rattle.wgsl_expressions.specs.AttributesTree as attr
use Rattle.wgsl_simple_statements.specs.declared.declaration.DeclarationKind as whole_kind
use Rattle.wgsl_simple_statements.specs.declared.declaration.DeclarationKind.TheVariants as whole_kinds
use Rattle.wgsl_simple_statements.specs.Tree as simple_stm
use Rattle.wgsl_statements.specs.Tree as stm
use Rattle.wgsl_declarations.specs.ImportsTree as imp
use Rattle.wgsl_declarations.specs.Tree as decl
use Rattle.core_narrowing.specs.declared.error.NarrowError.{NarrowError}
use Rattle.core_narrowing.specs.declared.error.NarrowError.TheVariants.{Unsupported, OutOfMemory}
use Rattle.core_narrowing.specs.Widening.{widen_literal, widen_exp, widen_exps, widen_typ, widen_attr, widen_attrs, widen_stm, widen_stms, widen_block, widen_param, widen_kind, widen_decl, widen_imp, widen_unit}
use Rattle.core_narrowing.specs.Narrowing.{both, each, maybe, narrow_literal, narrow_exp, narrow_exps, narrow_typ, narrow_attr, narrow_attrs, narrow_stm, narrow_stms, narrow_block, narrow_param, narrow_kind, narrow_decl, narrow_content, narrow_imp, without_directives, narrow_unit, Answers, Narrows}

-- ---- what is widened is narrowed again

mapped : {A B : Type 0} (w : A → B) (n : B → Option A) → ((a : A) → n (w a) ≡ Some a) → (zs : List A) → each n (map w zs) ≡ Some zs
mapped w n h [] = refl
mapped w n h (a ∷ zs) = ap (λ o. both (λ y ys. y ∷ ys) o (each n (map w zs))) (h a) ∙ ap (both (λ y ys. y ∷ ys) (Some a)) (mapped w n h zs)

perhaps : {A B : Type 0} (w : A → B) (n : B → Option A) → ((a : A) → n (w a) ≡ Some a) → (o : Option A) → maybe n (option_map w o) ≡ Some o
perhaps w n h None = refl
perhaps w n h (Some a) = ap (option_map (λ y. Some y)) (h a)

literal_again : (l : LiteralExpression) → narrow_literal (widen_literal l) ≡ Some l
literal_again (number.AbstractInt n) = refl
literal_again (number.I32 n) = refl
literal_again (number.U32 n) = refl

two : {A B C : Type 0} (f : A → B → C) {o : Option A} {p : Option B} {a : A} {b : B} → o ≡ Some a → p ≡ Some b → both f o p ≡ Some (f a b)
two f {p = p} {a = a} h k = ap (λ z. both f z p) h ∙ ap (both f (Some a)) k

mutual
  pub exp_again : (x : Exp) → narrow_exp (widen_exp x) ≡ Some x
  exp_again (literal l) = ap (option_map literal) (literal_again l)
  exp_again (parenthesized x) = ap (option_map parenthesized) (exp_again x)
  exp_again (unary o x) = ap (option_map (unary o)) (exp_again x)
  exp_again (binary o x y) = two (binary o) (exp_again x) (exp_again y)
  exp_again (call t xs) = two call (typ_again t) (exps_again xs)
  exp_again (named t) = ap (option_map named) (typ_again t)

  pub exps_again : (xs : Exps) → narrow_exps (widen_exps xs) ≡ Some xs
  exps_again nil = refl
  exps_again (cons x xs) = two cons (exp_again x) (exps_again xs)

  pub typ_again : (t : Typ) → narrow_typ (widen_typ t) ≡ Some t
  typ_again (simple path name) = refl
  typ_again (templated path name xs) = ap (option_map (templated path name)) (exps_again xs)

attr_again : (a : Attr) → narrow_attr (widen_attr a) ≡ Some a
attr_again fragment = refl
attr_again (location x) = ap (option_map location) (exp_again x)

attrs_again : (attributes : List Attr) → narrow_attrs (widen_attrs attributes) ≡ Some attributes
attrs_again attributes = mapped widen_attr narrow_attr attr_again attributes

stm_again : (s : Stm) → narrow_stm (widen_stm s) ≡ Some s
stm_again (returning attributes value) = two returning (attrs_again attributes) (perhaps widen_exp narrow_exp exp_again value)

stms_again : (ss : List Stm) → narrow_stms (widen_stms ss) ≡ Some ss
stms_again [] = refl
stms_again (s ∷ ss) = two (λ t ts. t ∷ ts) (stm_again s) (stms_again ss)

block_again : (b : Block) → narrow_block (widen_block b) ≡ Some b
block_again b = two (λ a s. record { attributes = a; statements = s }) (attrs_again b.attributes) (stms_again b.statements)

param_again : (p : Param) → narrow_param (widen_param p) ≡ Some p
param_again p = two (λ a t. record { attributes = a; name = p.name; type = t }) (attrs_again p.attributes) (typ_again p.type)

kind_again : (k : DeclarationKind) → narrow_kind (widen_kind k) ≡ Some k
kind_again kind.Const = refl

zipped : {A B : Type 0} {o : Option A} {p : Option B} {a : A} {b : B} → o ≡ Some a → p ≡ Some b → option_zip o p ≡ Some (a, b)
zipped {p = p} {a = a} h k = ap (λ z. option_zip z p) h ∙ ap (option_zip (Some a)) k

decl_again : (d : Decl) → narrow_decl (widen_decl d) ≡ Some d
decl_again (variable attributes kind name type value) =
    two (λ front back. variable front.0 front.1 name back.0 back.1) (zipped (attrs_again attributes) (kind_again kind))
    (zipped (perhaps widen_typ narrow_typ typ_again type) (perhaps widen_exp narrow_exp exp_again value))
decl_again (function attributes name params result_attributes result body) =
    two (λ front back. function front.0 name front.1 back.0 back.1.0 back.1.1) (zipped (attrs_again attributes) (mapped widen_param narrow_param param_again params))
    (zipped (attrs_again result_attributes) (zipped (perhaps widen_typ narrow_typ typ_again result) (block_again body)))

imp_again : (i : Imp) → narrow_imp (widen_imp i) ≡ Some i
imp_again i = ap (λ o. both (λ a (x : List ℕ × Option (List ℕ)). record { attributes = a; path = i.path; item = x.0; rename = x.1 }) o (Some (i.item, i.rename))) (attrs_again i.attributes)

pub unit_again : (u : UnitTree) → narrow_unit (widen_unit u) ≡ Some u
unit_again u = ap (both (λ x parts. record { imports = parts.0; declarations = parts.1 }) (Some (tt {0}))) (zipped (mapped widen_imp narrow_imp imp_again u.imports) (mapped widen_decl narrow_decl decl_again u.declarations))

-- ---- what is narrowed is widened again

-- what two are, where both are there
abbrev Both : {A B C : Type 0} → (A → B → C) → Option A → Option B → C → Type 0
Both {A = A} {B = B} f o p c = (a : A) × (b : B) × (o ≡ Some a) × (p ≡ Some b) × (f a b ≡ c)

apart : {A B C : Type 0} (f : A → B → C) (o : Option A) (p : Option B) (c : C) → both f o p ≡ Some c → Both f o p c
apart f None p c h = absurd (cc)
apart f (Some a) None c h = absurd (cc)
apart f (Some a) (Some b) c h = (a, b, refl, refl, let same : f a b ≡ c = cc in same)

unmapped : {A B : Type 0} (f : A → B) (o : Option A) (b : B) → option_map f o ≡ Some b → (a : A) × (o ≡ Some a) × (f a ≡ b)
unmapped f None b h = absurd (cc)
unmapped f (Some a) b h = (a, refl, let same : f a ≡ b = cc in same)

unzipped : {A B : Type 0} (o : Option A) (p : Option B) (a : A) (b : B) → option_zip o p ≡ Some (a, b) → (o ≡ Some a) × (p ≡ Some b)
unzipped None p a b h = absurd (cc)
unzipped (Some x) None a b h = absurd (cc)
unzipped {A = A} {B = B} (Some x) (Some y) a b h = let one : A × B = (x, y) in let other : A × B = (a, b) in let same : one ≡ other = cc in (ap (λ z. Some z.0) same, ap (λ z. Some z.1) same)

each_back : {A B : Type 0} (w : A → B) (n : B → Option A) → ((b : B) (a : A) → n b ≡ Some a → w a ≡ b) → (bs : List B) (zs : List A) → each n bs ≡ Some zs → map w zs ≡ bs
each_back w n h [] zs k = let same : [] ≡ zs = cc in ap (map w) (sym same)
each_back w n h (b ∷ bs) zs k =
    let s = apart (λ y ys. y ∷ ys) (n b) (each n bs) zs k in
    ap (map w) (sym s.4) ∙ (λ i. h b s.0 s.2 i ∷ each_back w n h bs s.1 s.3 i)

perhaps_back : {A B : Type 0} (w : A → B) (n : B → Option A) → ((b : B) (a : A) → n b ≡ Some a → w a ≡ b) → (o : Option B) (p : Option A) → maybe n o ≡ Some p → option_map w p ≡ o
perhaps_back w n h None p k = let same : None ≡ p = cc in ap (option_map w) (sym same)
perhaps_back w n h (Some b) p k =
    let s = unmapped (λ y. Some y) (n b) p k in
    ap (option_map w) (sym s.2) ∙ ap (λ t. Some t) (h b s.0 s.1)

literal_back : (l : whole_literal.LiteralExpression) (k : LiteralExpression) → narrow_literal l ≡ Some k → widen_literal k ≡ l
literal_back (whole_number.AbstractInt n) k h = let same : number.AbstractInt n ≡ k = cc in ap widen_literal (sym same)
literal_back (whole_number.I32 n) k h = let same : number.I32 n ≡ k = cc in ap widen_literal (sym same)
literal_back (whole_number.U32 n) k h = let same : number.U32 n ≡ k = cc in ap widen_literal (sym same)
literal_back (whole_number.Bool b) k h = absurd (cc)
literal_back (whole_number.AbstractFloat text) k h = absurd (cc)
literal_back (whole_number.F32 text) k h = absurd (cc)
literal_back (whole_number.F16 text) k h = absurd (cc)

mutual
  pub exp_back : (x : exp.Exp) (y : Exp) → narrow_exp x ≡ Some y → widen_exp y ≡ x
  exp_back (exp.literal l) y h = let s = unmapped literal (narrow_literal l) y h in ap widen_exp (sym s.2) ∙ ap exp.literal (literal_back l s.0 s.1)
  exp_back (exp.parenthesized x) y h = let s = unmapped parenthesized (narrow_exp x) y h in ap widen_exp (sym s.2) ∙ ap exp.parenthesized (exp_back x s.0 s.1)
  exp_back (exp.component x name) y h = absurd (cc)
  exp_back (exp.indexed x z) y h = absurd (cc)
  exp_back (exp.unary o x) y h = let s = unmapped (unary o) (narrow_exp x) y h in ap widen_exp (sym s.2) ∙ ap (exp.unary o) (exp_back x s.0 s.1)
  exp_back (exp.binary o x z) y h =
      let s = apart (binary o) (narrow_exp x) (narrow_exp z) y h in ap widen_exp (sym s.4) ∙ (λ i. exp.binary o (exp_back x s.0 s.2 i) (exp_back z s.1 s.3 i))
  exp_back (exp.call t xs) y h = let s = apart call (narrow_typ t) (narrow_exps xs) y h in ap widen_exp (sym s.4) ∙ (λ i. exp.call (typ_back t s.0 s.2 i) (exps_back xs s.1 s.3 i))
  exp_back (exp.named t) y h = let s = unmapped named (narrow_typ t) y h in ap widen_exp (sym s.2) ∙ ap exp.named (typ_back t s.0 s.1)

  pub exps_back : (xs : exp.Exps) (ys : Exps) → narrow_exps xs ≡ Some ys → widen_exps ys ≡ xs
  exps_back exp.nil ys h = let same : nil ≡ ys = cc in ap widen_exps (sym same)
  exps_back (exp.cons x xs) ys h = let s = apart cons (narrow_exp x) (narrow_exps xs) ys h in ap widen_exps (sym s.4) ∙ (λ i. exp.cons (exp_back x s.0 s.2 i) (exps_back xs s.1 s.3 i))

  pub typ_back : (t : exp.Typ) (u : Typ) → narrow_typ t ≡ Some u → widen_typ u ≡ t
  typ_back (exp.simple path name) u h = let same : simple path name ≡ u = cc in ap widen_typ (sym same)
  typ_back (exp.templated path name xs) u h = let s = unmapped (templated path name) (narrow_exps xs) u h in ap widen_typ (sym s.2) ∙ ap (exp.templated path name) (exps_back xs s.0 s.1)

attr_back : (a : attr.Attr) (y : Attr) → narrow_attr a ≡ Some y → widen_attr y ≡ a
attr_back attr.fragment y h = let same : fragment ≡ y = cc in ap widen_attr (sym same)
attr_back (attr.location x) y h = let s = unmapped location (narrow_exp x) y h in ap widen_attr (sym s.2) ∙ ap attr.location (exp_back x s.0 s.1)
attr_back (attr.align x) y h = absurd (cc)
attr_back (attr.binding x) y h = absurd (cc)
attr_back (attr.blend_src x) y h = absurd (cc)
attr_back (attr.builtin value) y h = absurd (cc)
attr_back attr.constant y h = absurd (cc)
attr_back (attr.diagnostic severity rule) y h = absurd (cc)
attr_back (attr.group x) y h = absurd (cc)
attr_back (attr.id_number x) y h = absurd (cc)
attr_back (attr.interpolate type sampling) y h = absurd (cc)
attr_back attr.invariant y h = absurd (cc)
attr_back attr.must_use y h = absurd (cc)
attr_back (attr.byte_size x) y h = absurd (cc)
attr_back (attr.workgroup_size x z w) y h = absurd (cc)
attr_back attr.vertex y h = absurd (cc)
attr_back attr.compute y h = absurd (cc)
attr_back attr.publish y h = absurd (cc)
attr_back (attr.if_true x) y h = absurd (cc)
attr_back (attr.else_if x) y h = absurd (cc)
attr_back attr.otherwise y h = absurd (cc)
attr_back (attr.custom name arguments) y h = absurd (cc)

attrs_back : (attributes : List attr.Attr) (ys : List Attr) → narrow_attrs attributes ≡ Some ys → widen_attrs ys ≡ attributes
attrs_back attributes ys h = each_back widen_attr narrow_attr attr_back attributes ys h

stm_back : (s : stm.Stm) (y : Stm) → narrow_stm s ≡ Some y → widen_stm y ≡ s
stm_back (stm.simple (simple_stm.returning attributes value)) y h =
    let s = apart returning (narrow_attrs attributes) (maybe narrow_exp value) y h in
    ap widen_stm (sym s.4) ∙ (λ i. stm.simple (simple_stm.returning (attrs_back attributes s.0 s.2 i) (perhaps_back widen_exp narrow_exp exp_back value s.1 s.3 i)))
stm_back (stm.simple (simple_stm.assignment attributes o x z)) y h = absurd (cc)
stm_back (stm.simple (simple_stm.increment attributes x)) y h = absurd (cc)
stm_back (stm.simple (simple_stm.decrement attributes x)) y h = absurd (cc)
stm_back (stm.simple (simple_stm.breaking attributes)) y h = absurd (cc)
stm_back (stm.simple (simple_stm.continuing attributes)) y h = absurd (cc)
stm_back (stm.simple (simple_stm.discarding attributes)) y h = absurd (cc)
stm_back (stm.simple (simple_stm.calling attributes t xs)) y h = absurd (cc)
stm_back (stm.simple (simple_stm.asserting attributes x)) y h = absurd (cc)
stm_back (stm.simple (simple_stm.declaring attributes k name type value)) y h = absurd (cc)
stm_back (stm.compound_statement b) y h = absurd (cc)
stm_back (stm.if_statement attributes x b es) y h = absurd (cc)
stm_back (stm.switch_statement attributes x inner cs) y h = absurd (cc)
stm_back (stm.loop_statement attributes b c) y h = absurd (cc)
stm_back (stm.for_statement attributes first x next b) y h = absurd (cc)
stm_back (stm.while_statement attributes x b) y h = absurd (cc)

stms_back : (ss : stm.Stms) (ys : List Stm) → narrow_stms ss ≡ Some ys → widen_stms ys ≡ ss
stms_back stm.nil ys h = let same : [] ≡ ys = cc in ap widen_stms (sym same)
stms_back (stm.cons t ss) ys h =
    let s = apart (λ z zs. z ∷ zs) (narrow_stm t) (narrow_stms ss) ys h in ap widen_stms (sym s.4) ∙ (λ i. stm.cons (stm_back t s.0 s.2 i) (stms_back ss s.1 s.3 i))

block_back : (b : stm.Block) (y : Block) → narrow_block b ≡ Some y → widen_block y ≡ b
block_back (stm.block attributes ss) y h =
    let s = apart (λ a t. record { attributes = a; statements = t }) (narrow_attrs attributes) (narrow_stms ss) y h in
    ap widen_block (sym s.4) ∙ (λ i. stm.block (attrs_back attributes s.0 s.2 i) (stms_back ss s.1 s.3 i))

param_back : (p : decl.Param) (y : Param) → narrow_param p ≡ Some y → widen_param y ≡ p
param_back p y h =
    let s = apart (λ a t. record { attributes = a; name = p.name; type = t }) (narrow_attrs p.attributes) (narrow_typ p.type) y h in
    ap widen_param (sym s.4) ∙ (λ i. record { attributes = attrs_back p.attributes s.0 s.2 i; name = p.name; type = typ_back p.type s.1 s.3 i })

kind_back : (k : whole_kind.DeclarationKind) (y : DeclarationKind) → narrow_kind k ≡ Some y → widen_kind y ≡ k
kind_back whole_kinds.Const y h = let same : kind.Const ≡ y = cc in ap widen_kind (sym same)
kind_back whole_kinds.Override y h = absurd (cc)
kind_back whole_kinds.Let y h = absurd (cc)
kind_back (whole_kinds.Var space) y h = absurd (cc)

decl_back : (d : decl.Decl) (y : Decl) → narrow_decl d ≡ Some y → widen_decl y ≡ d
decl_back (decl.variable attributes k name type value) y h =
    let s = apart (λ front back. variable front.0 front.1 name back.0 back.1) (option_zip (narrow_attrs attributes) (narrow_kind k)) (option_zip (maybe narrow_typ type) (maybe narrow_exp value)) y h in
    let fronts = unzipped (narrow_attrs attributes) (narrow_kind k) s.0.0 s.0.1 s.2 in
    let backs = unzipped (maybe narrow_typ type) (maybe narrow_exp value) s.1.0 s.1.1 s.3 in
    ap widen_decl (sym s.4)
    ∙ (λ i. decl.variable (attrs_back attributes s.0.0 fronts.0 i) (kind_back k s.0.1 fronts.1 i) name (perhaps_back widen_typ narrow_typ typ_back type s.1.0 backs.0 i) (perhaps_back widen_exp narrow_exp exp_back value s.1.1 backs.1 i))
decl_back (decl.function attributes name params result_attributes result body) y h =
    let s = apart (λ front back. function front.0 name front.1 back.0 back.1.0 back.1.1) (option_zip (narrow_attrs attributes) (each narrow_param params))
    (option_zip (narrow_attrs result_attributes) (option_zip (maybe narrow_typ result) (narrow_block body))) y h in
    let fronts = unzipped (narrow_attrs attributes) (each narrow_param params) s.0.0 s.0.1 s.2 in
    let backs = unzipped (narrow_attrs result_attributes) (option_zip (maybe narrow_typ result) (narrow_block body)) s.1.0 s.1.1 s.3 in
    let ends = unzipped (maybe narrow_typ result) (narrow_block body) s.1.1.0 s.1.1.1 backs.1 in
    ap widen_decl (sym s.4)
    ∙ (λ i. decl.function (attrs_back attributes s.0.0 fronts.0 i) name (each_back widen_param narrow_param param_back params s.0.1 fronts.1 i) (attrs_back result_attributes s.1.0 backs.0 i)
    (perhaps_back widen_typ narrow_typ typ_back result s.1.1.0 ends.0 i) (block_back body s.1.1.1 ends.1 i))
decl_back (decl.alias attributes name type) y h = absurd (cc)
decl_back (decl.structure attributes name members) y h = absurd (cc)
decl_back (decl.assertion attributes x) y h = absurd (cc)

content_back : (c : imp.Content) (x : List ℕ × Option (List ℕ)) → narrow_content c ≡ Some x → imp.item x.0 x.1 ≡ c
content_back (imp.item name rename) x h =
    let one : List ℕ × Option (List ℕ) = (name, rename) in let same : one ≡ x = cc in ap (λ z. imp.item z.0 z.1) (sym same)
content_back (imp.collection is) x h = absurd (cc)

imp_back : (i : imp.Importing) (y : Imp) → narrow_imp i ≡ Some y → widen_imp y ≡ i
imp_back i y h =
    let s = apart (λ a x. record { attributes = a; path = i.path; item = x.0; rename = x.1 }) (narrow_attrs i.attributes) (narrow_content i.content) y h in
    ap widen_imp (sym s.4) ∙ (λ k. record { attributes = attrs_back i.attributes s.0 s.2 k; path = i.path; content = content_back i.content s.1 s.3 k })

directives_back : (ds : List imp.Directive) (x : Unit) → without_directives ds ≡ Some x → [] ≡ ds
directives_back [] x h = refl
directives_back (d ∷ ds) x h = absurd (cc)

pub unit_back : (u : decl.UnitTree) (y : UnitTree) → narrow_unit u ≡ Some y → widen_unit y ≡ u
unit_back u y h =
    let s = apart (λ x parts. record { imports = parts.0; declarations = parts.1 }) (without_directives u.directives) (option_zip (each narrow_imp u.imports) (each narrow_decl u.declarations)) y h in
    let parts = unzipped (each narrow_imp u.imports) (each narrow_decl u.declarations) s.1.0 s.1.1 s.3 in
    ap widen_unit (sym s.4)
    ∙ (λ i. record { imports = each_back widen_imp narrow_imp imp_back u.imports s.1.0 parts.0 i; directives = directives_back u.directives s.0 s.2 i; declarations = each_back widen_decl narrow_decl decl_back u.declarations s.1.1 parts.1 i })

pub one_unit : (u v : UnitTree) → widen_unit u ≡ widen_unit v → u ≡ v
one_unit u v h = let same : Some u ≡ Some v = sym (unit_again u) ∙ ap narrow_unit h ∙ unit_again v in cc

-- ---- what is answered

none_lies : (u : decl.UnitTree) → narrow_unit u ≡ None → (v : UnitTree) → widen_unit v ≡ u → ⊥
none_lies u h v is = let wrong : Some v ≡ None = sym (unit_again v) ∙ ap narrow_unit is ∙ h in cc

pub narrows : (u : decl.UnitTree) (r : Result TranslationUnit NarrowError) → Answers unit_tree (narrow_unit u) r → Narrows u r
narrows u (Ok x) h = unit_back u (unit_tree x) h
narrows u (Err Unsupported) h = none_lies u h
narrows u (Err OutOfMemory) h = tt
