-- What is said behind an expression or a statement of each kind.
use Rattle.std.proofs.Common.{◌≡◌, refl, sym, ap, ◌∙◌, subst, List, ◌∷◌, ◌++◌, map, Option, Some, None, Result, Ok, Err, OnOk, append_assoc, append-nil}
use Rattle.wgsl_path.specs.declared.span.Spanned.{Spanned}
use Rattle.wgsl_expressions.specs.declared.expression.BinaryExpressionOf.{BinaryExpressionOf}
use Rattle.wgsl_expressions.specs.declared.expression.FunctionCallOf.{FunctionCallOf}
use Rattle.wgsl_expressions.specs.declared.expression.TypeExpressionOf.{TypeExpressionOf}
use Rattle.wgsl_expressions.specs.declared.expression.Expression.{Expression}
use Rattle.wgsl_expressions.specs.declared.expression.Expression.TheVariants as code
use Rattle.wgsl_expressions.specs.Tree.{Exp, exps, binary, named}
use Rattle.wgsl_expressions.specs.View.{call_layer, tree, node_tree, type_tree}
use Rattle.wgsl_expressions.proofs.Trees as trees
use Rattle.wgsl_expressions.specs.AttributesView.{attributes_tree}
use Rattle.wgsl_simple_statements.specs.declared.statement.AssignmentStatement.{AssignmentStatement}
use Rattle.wgsl_simple_statements.specs.declared.statement.IncrementStatement.{IncrementStatement}
use Rattle.wgsl_simple_statements.specs.declared.statement.DecrementStatement.{DecrementStatement}
use Rattle.wgsl_simple_statements.specs.declared.statement.BreakStatement.{BreakStatement}
use Rattle.wgsl_simple_statements.specs.declared.statement.ContinueStatement.{ContinueStatement}
use Rattle.wgsl_simple_statements.specs.declared.statement.ReturnStatement.{ReturnStatement}
use Rattle.wgsl_simple_statements.specs.declared.statement.DiscardStatement.{DiscardStatement}
use Rattle.wgsl_simple_statements.specs.declared.statement.FunctionCallStatement.{FunctionCallStatement}
use Rattle.wgsl_simple_statements.specs.declared.declaration.ConstAssert.{ConstAssert}
use Rattle.wgsl_simple_statements.specs.declared.declaration.Declaration.{Declaration}
use Rattle.wgsl_simple_statements.specs.View.{assignment_tree, return_tree, call_tree, assertion_tree, value_tree}
use Rattle.wgsl_statements.specs.declared.statement.Statement.{Statement}
use Rattle.wgsl_statements.specs.declared.statement.Statement.TheVariants as stated
use Rattle.wgsl_statements.specs.Tree.{Stm}
use Rattle.wgsl_statements.specs.View.{stms, statement_tree, part, part_layer}
use Rattle.wgsl_statements.proofs.Trees as statements
use Rattle.wesl_mark.specs.declared.mark.MarkList.{MarkList}
use Rattle.wesl_mark.specs.Flats.{Flat}
use Rattle.wesl_mark.specs.Lists.{OnlyGrows}
use Rattle.wesl_marks.specs.Laid.{in_exp, in_exps, in_typ, in_attrs, in_simple, in_optional_stm, in_stms, in_part}

-- what is so of an answer that is good
pub if_ok : {A E P Q : Type 0} (r : Result A E) → (P → Q) → OnOk r P → OnOk r Q
if_ok (Ok x) f h = f h
if_ok (Err e) f h = h

-- what is so of any answer
pub always : {A E P : Type 0} (r : Result A E) → P → OnOk r P
always (Ok x) h = h
always (Err e) h = tt

-- what had grown before a last call has grown behind it
pub grown : {A E : Type 0} (r : Result A E) (old mid new : MarkList) → OnlyGrows old mid → OnOk r (OnlyGrows mid new) → OnOk r (OnlyGrows old new)
grown (Ok x) old mid new before last = λ first h. last first (before first h)
grown (Err e) old mid new before last = last

-- ---- expressions

behind_tree : (old new : List Flat) (e : Expression) (t : Exp) → tree e ≡ t → new ≡ old ++ in_exp t → new ≡ old ++ in_exp (tree e)
behind_tree old new e t same h = let P : Exp → Type 0 = λ t. new ≡ old ++ in_exp t in subst P (sym same) h

pub of_binary : (old mid new : List Flat) (e : Expression) (x : BinaryExpressionOf Expression) → e ≡ code.Binary x → mid ≡ old ++ in_exp (node_tree x.left) → new ≡ mid ++ in_exp (node_tree x.right) → new ≡ old ++ in_exp (tree e)
of_binary old mid new e x is left right =
    behind_tree old new e (binary x.operator (node_tree x.left) (node_tree x.right)) (ap tree is ∙ trees.tree_of_binary x)
    (right ∙ ap (λ m. m ++ in_exp (node_tree x.right)) left ∙ append_assoc old (in_exp (node_tree x.left)) (in_exp (node_tree x.right)))

pub of_call : (old new : List Flat) (e : Expression) (x y : FunctionCallOf Expression) → e ≡ code.FunctionCall x → y ≡ x
    → new ≡ old ++ (in_typ (type_tree y.ty) ++ in_exps (exps (map node_tree y.arguments))) → new ≡ old ++ in_exp (tree e)
of_call old new e x y is same h =
    let P : FunctionCallOf Expression → Type 0 = λ z. new ≡ old ++ (in_typ (type_tree z.ty) ++ in_exps (exps (map node_tree z.arguments))) in
    behind_tree old new e (call_layer tree x) (ap tree is ∙ trees.tree_of_call x) (subst P same h)

pub of_named : (old new : List Flat) (e : Expression) (x : TypeExpressionOf Expression) → e ≡ code.TypeOrIdentifier x → new ≡ old ++ in_typ (type_tree x) → new ≡ old ++ in_exp (tree e)
of_named old new e x is h = behind_tree old new e (named (type_tree x)) (ap tree is ∙ trees.tree_of_named x) h

-- ---- statements

behind_statement : (old new : List Flat) (s : Statement) (o : Option Stm) → statement_tree s ≡ o → new ≡ old ++ in_optional_stm o → new ≡ old ++ in_optional_stm (statement_tree s)
behind_statement old new s o same h = let P : Option Stm → Type 0 = λ o. new ≡ old ++ in_optional_stm o in subst P (sym same) h

pub of_void : (old : List Flat) → old ≡ old ++ in_optional_stm (statement_tree stated.Void)
of_void old = behind_statement old old _ _ statements.tree_of_void (sym (append-nil old))

-- a statement that holds others
pub of_layer : {A : Type 0} (wrap : A → Statement) (marks : A → List Flat) → ((x : A) → in_optional_stm (statement_tree (wrap x)) ≡ marks x)
    → (old new : List Flat) (s : Statement) (x y : A) → s ≡ wrap x → y ≡ x → new ≡ old ++ marks y → new ≡ old ++ in_optional_stm (statement_tree s)
of_layer wrap marks law old new s x y is same h =
    h ∙ ap (λ z. old ++ marks z) same ∙ sym (ap (λ m. old ++ m) (ap (λ t. in_optional_stm (statement_tree t)) is ∙ law x))

pub of_assignment : (old new : List Flat) (x : AssignmentStatement) → new ≡ old ++ in_simple (assignment_tree x) → new ≡ old ++ in_optional_stm (statement_tree (stated.Assignment x))
of_assignment old new x h = behind_statement old new _ _ (statements.tree_of_assignment x) h

pub of_increment : (old new : List Flat) (x : IncrementStatement) → new ≡ old ++ (in_attrs (attributes_tree x.attributes) ++ in_exp (node_tree x.expression)) → new ≡ old ++ in_optional_stm (statement_tree (stated.Increment x))
of_increment old new x h = behind_statement old new _ _ (statements.tree_of_increment x) h

pub of_decrement : (old new : List Flat) (x : DecrementStatement) → new ≡ old ++ (in_attrs (attributes_tree x.attributes) ++ in_exp (node_tree x.expression)) → new ≡ old ++ in_optional_stm (statement_tree (stated.Decrement x))
of_decrement old new x h = behind_statement old new _ _ (statements.tree_of_decrement x) h

pub of_break : (old new : List Flat) (x : BreakStatement) → new ≡ old ++ in_attrs (attributes_tree x.attributes) → new ≡ old ++ in_optional_stm (statement_tree (stated.Break x))
of_break old new x h = behind_statement old new _ _ (statements.tree_of_break x) h

pub of_continue : (old new : List Flat) (x : ContinueStatement) → new ≡ old ++ in_attrs (attributes_tree x.attributes) → new ≡ old ++ in_optional_stm (statement_tree (stated.Continue x))
of_continue old new x h = behind_statement old new _ _ (statements.tree_of_continue x) h

pub of_return : (old new : List Flat) (x : ReturnStatement) → new ≡ old ++ in_simple (return_tree x) → new ≡ old ++ in_optional_stm (statement_tree (stated.Return x))
of_return old new x h = behind_statement old new _ _ (statements.tree_of_return x) h

pub of_discard : (old new : List Flat) (x : DiscardStatement) → new ≡ old ++ in_attrs (attributes_tree x.attributes) → new ≡ old ++ in_optional_stm (statement_tree (stated.Discard x))
of_discard old new x h = behind_statement old new _ _ (statements.tree_of_discard x) h

pub of_call_statement : (old new : List Flat) (x : FunctionCallStatement) → new ≡ old ++ in_simple (call_tree x) → new ≡ old ++ in_optional_stm (statement_tree (stated.FunctionCall x))
of_call_statement old new x h = behind_statement old new _ _ (statements.tree_of_call x) h

pub of_assertion : (old new : List Flat) (x : ConstAssert) → new ≡ old ++ in_simple (assertion_tree x) → new ≡ old ++ in_optional_stm (statement_tree (stated.ConstAssert x))
of_assertion old new x h = behind_statement old new _ _ (statements.tree_of_assertion x) h

pub of_value : (old new : List Flat) (x : Declaration) → new ≡ old ++ in_simple (value_tree x) → new ≡ old ++ in_optional_stm (statement_tree (stated.Declaration x))
of_value old new x h = behind_statement old new _ _ (statements.tree_of_value x) h

-- the first of some statements
pub in_first : (o : Option Stm) (os : List (Option Stm)) → in_stms (stms (o ∷ os)) ≡ in_optional_stm o ++ in_stms (stms os)
in_first None os = refl
in_first (Some t) os = refl

pub in_present : (old new : List Flat) (n : Spanned Statement) → new ≡ old ++ in_optional_stm (statement_tree n.node) → new ≡ old ++ in_part (part_layer statement_tree (Some n))
in_present old new n h = go (statement_tree n.node) h
  where
    go : (o : Option Stm) → new ≡ old ++ in_optional_stm o → new ≡ old ++ in_part (part o)
    go None h = h
    go (Some t) h = h
