-- The tree of the part that is narrowed from each kind of expression, and from lists.
use Rattle.std.proofs.Common.{◌≡◌, refl, sym, ap, ◌∙◌, ℕ, suc, ◌+◌, ◌<◌, ◌≤◌, length, drop, get_or, drop-cons, add-one, append_assoc, List, [], ◌∷◌, ◌++◌, map, Option, Some, None, Err}
use Rattle.std.specs.Option.{option_map}
use Rattle.std.specs.List.{cons_option}
use Rattle.std.proofs.lemmas.List.{drop_all}
use Rattle.wgsl_path.specs.declared.ident.Ident.{Ident}
use Rattle.wgsl_path.specs.declared.path.ModulePath.{ModulePath}
use Rattle.wgsl_path.specs.declared.span.Spanned.{Spanned}
use Rattle.wgsl_expressions.specs.declared.expression.Expression.{Expression as WholeExpression}
use Rattle.wgsl_expressions.specs.declared.expression.Expression.TheVariants as code
use Rattle.wgsl_expressions.specs.declared.expression.ParenthesizedExpressionOf.{ParenthesizedExpressionOf as WholeParenthesized}
use Rattle.wgsl_expressions.specs.declared.expression.UnaryExpressionOf.{UnaryExpressionOf as WholeUnary}
use Rattle.wgsl_expressions.specs.declared.expression.FunctionCallOf.{FunctionCallOf as WholeCall}
use Rattle.wgsl_expressions.specs.declared.expression.TypeExpressionOf.{TypeExpressionOf as WholeType}
use Rattle.wgsl_expressions.specs.declared.expression.TemplateArgOf.{TemplateArgOf as WholeArgument}
use Rattle.wgsl_expressions.specs.Tree as exp
use Rattle.wgsl_expressions.specs.View as whole
use Rattle.wgsl_expressions.proofs.Trees as whole_trees
use Rattle.wgsl_statements.specs.declared.statement.Statement.{Statement as WholeStatement}
use Rattle.wgsl_statements.specs.Tree as stm
use Rattle.wgsl_statements.specs.View as whole_statements
use Rattle.wgsl_declarations.specs.declared.declaration.GlobalDeclaration.{GlobalDeclaration as WholeDeclaration}
use Rattle.wgsl_declarations.specs.Tree as decl
use Rattle.wgsl_declarations.specs.View as whole_declarations
use Rattle.core_syntax.specs.declared.statement.Statement.{Statement}
use Rattle.core_syntax.specs.declared.declaration.GlobalDeclaration.{GlobalDeclaration}
use Rattle.core_syntax.specs.declared.expression.Expression.{Expression}
use Rattle.core_syntax.specs.declared.expression.Expression.TheVariants as part
use Rattle.core_syntax.specs.declared.expression.FunctionCallOf.{FunctionCallOf}
use Rattle.core_syntax.specs.declared.expression.TypeExpressionOf.{TypeExpressionOf}
use Rattle.core_syntax.specs.declared.expression.TemplateArgOf.{TemplateArgOf}
use Rattle.core_syntax.specs.Tree.{Exp, parenthesized, unary, named, Exps, nil, cons, templated, exps, Stm, Decl}
use Rattle.core_syntax.specs.View.{tree, node_tree, type_tree, statement_tree, declaration_tree}
use Rattle.core_syntax.proofs.Trees as trees
use Rattle.core_narrowing.specs.declared.error.NarrowError.{NarrowError}
use Rattle.core_narrowing.specs.declared.error.NarrowError.TheVariants.{Unsupported, OutOfMemory}
use Rattle.core_narrowing.specs.Trees.{call_tree, arguments_tree, statements_tree, declarations_tree}
use Rattle.core_narrowing.specs.Narrowing.{Answers, both, each, maybe, narrow_exp, narrow_exps, narrow_typ, narrow_stm, narrow_stms, narrow_decl, exps_behind, ahead, in_front}

-- ---- expressions

pub parenthesized_so : (e : WholeExpression) (x : WholeParenthesized WholeExpression) (n : Spanned Expression) → e ≡ code.Parenthesized x
    → narrow_exp (whole.node_tree x.expression) ≡ Some (node_tree n) → narrow_exp (whole.tree e) ≡ Some (tree (part.Parenthesized (record { expression = n })))
parenthesized_so e x n is h =
    ap (λ z. narrow_exp (whole.tree z)) is ∙ ap narrow_exp (whole_trees.tree_of_parenthesized x) ∙ ap (option_map parenthesized) h ∙ ap (λ t. Some t) (sym (trees.tree_of_parenthesized (record { expression = n })))

pub unary_so : (e : WholeExpression) (x : WholeUnary WholeExpression) (n : Spanned Expression) → e ≡ code.Unary x
    → narrow_exp (whole.node_tree x.operand) ≡ Some (node_tree n) → narrow_exp (whole.tree e) ≡ Some (tree (part.Unary (record { operator = x.operator; operand = n })))
unary_so e x n is h =
    ap (λ z. narrow_exp (whole.tree z)) is ∙ ap narrow_exp (whole_trees.tree_of_unary x) ∙ ap (option_map (unary x.operator)) h ∙ ap (λ t. Some t) (sym (trees.tree_of_unary (record { operator = x.operator; operand = n })))

pub call_so : (e : WholeExpression) (x y : WholeCall WholeExpression) (c d : FunctionCallOf Expression) → e ≡ code.FunctionCall x → y ≡ x
    → narrow_exp (whole.call_layer whole.tree y) ≡ Some (call_tree c) → d ≡ c → narrow_exp (whole.tree e) ≡ Some (tree (part.FunctionCall d))
call_so e x y c d is same h made =
    ap (λ z. narrow_exp (whole.tree z)) is ∙ ap narrow_exp (whole_trees.tree_of_call x) ∙ ap (λ z. narrow_exp (whole.call_layer whole.tree z)) (sym same) ∙ h
    ∙ ap (λ z. Some (call_tree z)) (sym made) ∙ ap (λ t. Some t) (sym (trees.tree_of_call d))

pub call_not : (e : WholeExpression) (x y : WholeCall WholeExpression) (err : NarrowError) → e ≡ code.FunctionCall x → y ≡ x
    → Answers call_tree (narrow_exp (whole.call_layer whole.tree y)) (Err err) → Answers tree (narrow_exp (whole.tree e)) (Err err)
call_not e x y Unsupported is same h = ap (λ z. narrow_exp (whole.tree z)) is ∙ ap narrow_exp (whole_trees.tree_of_call x) ∙ ap (λ z. narrow_exp (whole.call_layer whole.tree z)) (sym same) ∙ h
call_not e x y OutOfMemory is same h = tt

pub named_so : (e : WholeExpression) (x : WholeType WholeExpression) (t : TypeExpressionOf Expression) → e ≡ code.TypeOrIdentifier x
    → narrow_typ (whole.type_tree x) ≡ Some (type_tree t) → narrow_exp (whole.tree e) ≡ Some (tree (part.TypeOrIdentifier t))
named_so e x t is h =
    ap (λ z. narrow_exp (whole.tree z)) is ∙ ap narrow_exp (whole_trees.tree_of_named x) ∙ ap (option_map named) h ∙ ap (λ t. Some t) (sym (trees.tree_of_named t))

pub named_not : (e : WholeExpression) (x : WholeType WholeExpression) (err : NarrowError) → e ≡ code.TypeOrIdentifier x
    → Answers type_tree (narrow_typ (whole.type_tree x)) (Err err) → Answers tree (narrow_exp (whole.tree e)) (Err err)
named_not e x Unsupported is h = ap (λ z. narrow_exp (whole.tree z)) is ∙ ap narrow_exp (whole_trees.tree_of_named x) ∙ ap (option_map named) h
named_not e x OutOfMemory is h = tt

-- ---- types

abbrev whole_arguments : List (WholeArgument WholeExpression) → exp.Exps
whole_arguments xs = exp.exps (map (λ a. whole.node_tree a.expression) xs)

pub type_not : (t : WholeType WholeExpression) (xs ys : List (WholeArgument WholeExpression)) (err : NarrowError) → t.template_args ≡ Some xs → ys ≡ xs
    → Answers arguments_tree (narrow_exps (whole_arguments ys)) (Err err) → Answers type_tree (narrow_typ (whole.type_tree t)) (Err err)
type_not t xs ys Unsupported is same h =
    ap (λ o. narrow_typ (whole.typed whole.tree t.path t.ident.name o)) is ∙ ap (λ z. option_map (templated t.path t.ident.name) (narrow_exps (whole_arguments z))) (sym same)
    ∙ ap (option_map (templated t.path t.ident.name)) h
type_not t xs ys OutOfMemory is same h = tt

pub plain_type_so : (t : WholeType WholeExpression) (p : Option ModulePath) (i : Ident) → t.template_args ≡ None → p ≡ t.path → i ≡ t.ident
    → narrow_typ (whole.type_tree t) ≡ Some (type_tree (record { path = p; ident = i; template_args = None }))
plain_type_so t p i is same_path same_ident =
    ap (λ o. narrow_typ (whole.typed whole.tree t.path t.ident.name o)) is
    ∙ (λ k. Some (type_tree (record { path = sym same_path k; ident = sym same_ident k; template_args = None })))

pub type_so : (t : WholeType WholeExpression) (p : Option ModulePath) (i : Ident) (xs ys : List (WholeArgument WholeExpression)) (ms ns : List (TemplateArgOf Expression))
    → t.template_args ≡ Some xs → ys ≡ xs → narrow_exps (whole_arguments ys) ≡ Some (arguments_tree ms) → ns ≡ ms → p ≡ t.path → i ≡ t.ident
    → narrow_typ (whole.type_tree t) ≡ Some (type_tree (record { path = p; ident = i; template_args = Some ns }))
type_so t p i xs ys ms ns is same h made same_path same_ident =
    ap (λ o. narrow_typ (whole.typed whole.tree t.path t.ident.name o)) is ∙ ap (λ z. option_map (templated t.path t.ident.name) (narrow_exps (whole_arguments z))) (sym same)
    ∙ ap (option_map (templated t.path t.ident.name)) h
    ∙ (λ k. Some (type_tree (record { path = sym same_path k; ident = sym same_ident k; template_args = Some (sym made k) })))

-- ---- lists

behind_more : (xs : List Exp) (x : Exp) (ys : Exps) → exps_behind (xs ++ x ∷ []) ys ≡ exps_behind xs (cons x ys)
behind_more [] x ys = refl
behind_more (z ∷ xs) x ys = ap (cons z) (behind_more xs x ys)

ahead_more : (xs : List Exp) (x : Exp) (o : Option Exps) → ahead (xs ++ x ∷ []) o ≡ ahead xs (both cons (Some x) o)
ahead_more xs x None = refl
ahead_more xs x (Some ys) = ap (λ t. Some t) (behind_more xs x ys)

behind_none : (xs : List Exp) → exps_behind xs nil ≡ exps xs
behind_none [] = refl
behind_none (x ∷ xs) = ap (cons x) (behind_none xs)

map_more : {A B : Type 0} (f : A → B) (xs : List A) (x : A) → map f (xs ++ x ∷ []) ≡ map f xs ++ f x ∷ []
map_more f [] x = refl
map_more f (y ∷ xs) x = ap (λ t. f y ∷ t) (map_more f xs x)

pub front : {A : Type 0} (ds : List A) (k : ℕ) (d : A) → k < length ds → d ≡ get_or ds k d → drop k ds ≡ d ∷ drop (k + 1) ds
front ds k d h is = drop-cons ds k d h ∙ ap (λ x. x ∷ drop (suc k) ds) (sym is) ∙ ap (λ n. d ∷ drop n ds) (sym (add-one k))

module _ {A M : Type 0} (f : A → exp.Exp) (g : M → Exp) where
  pub one_more : (ns : List A) (k : ℕ) (n : A) (ms new : List M) (m : M) (total : Option Exps) → k < length ns → n ≡ get_or ns k n → new ≡ ms ++ m ∷ []
      → narrow_exp (f n) ≡ Some (g m) → ahead (map g ms) (narrow_exps (exp.exps (map f (drop k ns)))) ≡ total
      → ahead (map g new) (narrow_exps (exp.exps (map f (drop (k + 1) ns)))) ≡ total
  one_more ns k n ms new m total within is pushed h before =
      let rest : Option Exps = narrow_exps (exp.exps (map f (drop (k + 1) ns))) in
      ap (λ z. ahead (map g z) rest) pushed ∙ ap (λ z. ahead z rest) (map_more g ms m) ∙ ahead_more (map g ms) (g m) rest
      ∙ ap (λ o. ahead (map g ms) (both cons o rest)) (sym h) ∙ ap (λ z. ahead (map g ms) (narrow_exps (exp.exps (map f z)))) (sym (front ns k n within is)) ∙ before

  pub no_more : (ns : List A) (k : ℕ) (ms : List M) (total : Option Exps) → length ns ≤ k → ahead (map g ms) (narrow_exps (exp.exps (map f (drop k ns)))) ≡ total
      → total ≡ Some (exps (map g ms))
  no_more ns k ms total e before =
      sym before ∙ ap (λ z. ahead (map g ms) (narrow_exps (exp.exps (map f z)))) (drop_all k ns e) ∙ ap (λ t. Some t) (behind_none (map g ms))

in_front_more : {T : Type 0} (xs : List T) (x : T) (o : Option (List T)) → in_front (xs ++ x ∷ []) o ≡ in_front xs (both (λ y ys. y ∷ ys) (Some x) o)
in_front_more xs x None = refl
in_front_more xs x (Some ys) = ap (λ t. Some t) (append_assoc xs (x ∷ []) ys)

-- one more of a list
pub one_listed : {A U T M : Type 0} (f : A → U) (narrow : U → Option T) (g : M → T) (ns : List A) (k : ℕ) (n : A) (ms new : List M) (m : M) (total : Option (List T))
    → k < length ns → n ≡ get_or ns k n → new ≡ ms ++ m ∷ [] → narrow (f n) ≡ Some (g m) → in_front (map g ms) (each narrow (map f (drop k ns))) ≡ total
    → in_front (map g new) (each narrow (map f (drop (k + 1) ns))) ≡ total
one_listed f narrow g ns k n ms new m total within is pushed h before =
    let rest = each narrow (map f (drop (k + 1) ns)) in
    ap (λ z. in_front (map g z) rest) pushed ∙ ap (λ z. in_front z rest) (map_more g ms m) ∙ in_front_more (map g ms) (g m) rest
    ∙ ap (λ o. in_front (map g ms) (both (λ y ys. y ∷ ys) o rest)) (sym h) ∙ ap (λ z. in_front (map g ms) (each narrow (map f z))) (sym (front ns k n within is)) ∙ before

grown : {T : Type 0} (r : Option T) (t : T) (xs : List T) (rest : Option (List T)) → option_map (λ y. Some y) r ≡ Some (Some t)
    → in_front (xs ++ t ∷ []) rest ≡ in_front xs (both (λ y ys. y ∷ ys) r rest)
grown None t xs rest h = absurd (cc)
grown (Some u) t xs rest h =
    let same : t ≡ u = cc in
    ap (λ z. in_front (xs ++ z ∷ []) rest) same ∙ in_front_more xs u rest

-- ---- statements

statement_grows : (o : Option stm.Stm) (os : List (Option stm.Stm)) (xs : List Stm) (t : Stm) → maybe narrow_stm o ≡ Some (Some t)
    → in_front (xs ++ t ∷ []) (narrow_stms (whole_statements.stms os)) ≡ in_front xs (narrow_stms (whole_statements.stms (o ∷ os)))
statement_grows None os xs t h = absurd (cc)
statement_grows (Some s) os xs t h = grown (narrow_stm s) t xs (narrow_stms (whole_statements.stms os)) h

statement_absent : (o : Option stm.Stm) (os : List (Option stm.Stm)) → maybe narrow_stm o ≡ Some None → narrow_stms (whole_statements.stms os) ≡ narrow_stms (whole_statements.stms (o ∷ os))
statement_absent None os h = refl
statement_absent (Some s) os h = go (narrow_stm s) h
  where
    go : (r : Option Stm) → option_map (λ y. Some y) r ≡ Some None → narrow_stms (whole_statements.stms os) ≡ both (λ t ts. t ∷ ts) r (narrow_stms (whole_statements.stms os))
    go None h = absurd (cc)
    go (Some t) h = absurd (cc)

module _ (ns : List (Spanned WholeStatement)) (k : ℕ) (n : Spanned WholeStatement) (within : k < length ns) (is : n ≡ get_or ns k n) (ms : List (Spanned Statement)) (total : Option (List Stm))
    (w : WholeStatement) (w_is : w ≡ n.node) (r : Option Statement) (h : maybe narrow_stm (whole_statements.statement_tree w) ≡ Some (option_map statement_tree r))
    (before : in_front (statements_tree ms) (narrow_stms (whole_statements.statements_tree (drop k ns))) ≡ total) where
  at_front : in_front (statements_tree ms) (narrow_stms (whole_statements.statements_tree (n ∷ drop (k + 1) ns))) ≡ total
  at_front = ap (λ z. in_front (statements_tree ms) (narrow_stms (whole_statements.statements_tree z))) (sym (front ns k n within is)) ∙ before

  so : maybe narrow_stm (whole_statements.statement_tree n.node) ≡ Some (option_map statement_tree r)
  so = ap (λ z. maybe narrow_stm (whole_statements.statement_tree z)) (sym w_is) ∙ h

  pub statement_more : (new : List (Spanned Statement)) (m : Spanned Statement) (s : Statement) → new ≡ ms ++ m ∷ [] → m.node ≡ s → r ≡ Some s
      → in_front (statements_tree new) (narrow_stms (whole_statements.statements_tree (drop (k + 1) ns))) ≡ total
  statement_more new m s pushed m_is r_is =
      let os = map (λ x. whole_statements.statement_tree x.node) (drop (k + 1) ns) in
      let rest = narrow_stms (whole_statements.stms os) in
      ap (λ z. in_front (statements_tree z) rest) pushed ∙ ap (λ z. in_front z rest) (map_more (λ x. statement_tree x.node) ms m)
      ∙ ap (λ z. in_front (statements_tree ms ++ statement_tree z ∷ []) rest) m_is
      ∙ statement_grows (whole_statements.statement_tree n.node) os (statements_tree ms) (statement_tree s) (so ∙ ap (λ z. Some (option_map statement_tree z)) r_is) ∙ at_front

  pub statement_skipped : r ≡ None → in_front (statements_tree ms) (narrow_stms (whole_statements.statements_tree (drop (k + 1) ns))) ≡ total
  statement_skipped r_is =
      let os = map (λ x. whole_statements.statement_tree x.node) (drop (k + 1) ns) in
      ap (in_front (statements_tree ms)) (statement_absent (whole_statements.statement_tree n.node) os (so ∙ ap (λ z. Some (option_map statement_tree z)) r_is)) ∙ at_front

-- ---- declarations

declaration_grows : (o : Option decl.Decl) (ds : List decl.Decl) (xs : List Decl) (t : Decl) → maybe narrow_decl o ≡ Some (Some t)
    → in_front (xs ++ t ∷ []) (each narrow_decl ds) ≡ in_front xs (each narrow_decl (cons_option o ds))
declaration_grows None ds xs t h = absurd (cc)
declaration_grows (Some s) ds xs t h = grown (narrow_decl s) t xs (each narrow_decl ds) h

declaration_absent : (o : Option decl.Decl) (ds : List decl.Decl) → maybe narrow_decl o ≡ Some None → each narrow_decl ds ≡ each narrow_decl (cons_option o ds)
declaration_absent None ds h = refl
declaration_absent (Some s) ds h = go (narrow_decl s) h
  where
    go : (r : Option Decl) → option_map (λ y. Some y) r ≡ Some None → each narrow_decl ds ≡ both (λ t ts. t ∷ ts) r (each narrow_decl ds)
    go None h = absurd (cc)
    go (Some t) h = absurd (cc)

module _ (ns : List (Spanned WholeDeclaration)) (k : ℕ) (n : Spanned WholeDeclaration) (within : k < length ns) (is : n ≡ get_or ns k n) (ms : List (Spanned GlobalDeclaration)) (total : Option (List Decl))
    (w : WholeDeclaration) (w_is : w ≡ n.node) (r : Option GlobalDeclaration) (h : maybe narrow_decl (whole_declarations.declaration_tree w) ≡ Some (option_map declaration_tree r))
    (before : in_front (declarations_tree ms) (each narrow_decl (whole_declarations.declarations_tree (drop k ns))) ≡ total) where
  declared_at_front : in_front (declarations_tree ms) (each narrow_decl (whole_declarations.declarations_tree (n ∷ drop (k + 1) ns))) ≡ total
  declared_at_front = ap (λ z. in_front (declarations_tree ms) (each narrow_decl (whole_declarations.declarations_tree z))) (sym (front ns k n within is)) ∙ before

  declared_so : maybe narrow_decl (whole_declarations.declaration_tree n.node) ≡ Some (option_map declaration_tree r)
  declared_so = ap (λ z. maybe narrow_decl (whole_declarations.declaration_tree z)) (sym w_is) ∙ h

  pub declaration_more : (new : List (Spanned GlobalDeclaration)) (m : Spanned GlobalDeclaration) (s : GlobalDeclaration) → new ≡ ms ++ m ∷ [] → m.node ≡ s → r ≡ Some s
      → in_front (declarations_tree new) (each narrow_decl (whole_declarations.declarations_tree (drop (k + 1) ns))) ≡ total
  declaration_more new m s pushed m_is r_is =
      let ds = whole_declarations.declarations_tree (drop (k + 1) ns) in
      let rest = each narrow_decl ds in
      ap (λ z. in_front (declarations_tree z) rest) pushed ∙ ap (λ z. in_front z rest) (map_more (λ x. declaration_tree x.node) ms m)
      ∙ ap (λ z. in_front (declarations_tree ms ++ declaration_tree z ∷ []) rest) m_is
      ∙ declaration_grows (whole_declarations.declaration_tree n.node) ds (declarations_tree ms) (declaration_tree s) (declared_so ∙ ap (λ z. Some (option_map declaration_tree z)) r_is) ∙ declared_at_front

  pub declaration_skipped : r ≡ None → in_front (declarations_tree ms) (each narrow_decl (whole_declarations.declarations_tree (drop (k + 1) ns))) ≡ total
  declaration_skipped r_is =
      ap (in_front (declarations_tree ms)) (declaration_absent (whole_declarations.declaration_tree n.node) (whole_declarations.declarations_tree (drop (k + 1) ns)) (declared_so ∙ ap (λ z. Some (option_map declaration_tree z)) r_is)) ∙ declared_at_front
