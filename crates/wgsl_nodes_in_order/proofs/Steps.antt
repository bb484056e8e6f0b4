-- What a list of nodes is behind those inside an expression or a statement of each kind.
use Rattle.std.proofs.Common.{◌≡◌, refl, sym, ap, ◌∙◌, subst, Bool, true, false, List, [], ◌∷◌, ◌++◌, map, Option, Some, None, Result, Ok, Err, OnOk, append_assoc, append-nil}
use Rattle.std.specs.Option.{is_some}
use Rattle.wgsl_path.specs.declared.span.Spanned.{Spanned}
use Rattle.wgsl_expressions.specs.declared.expression.FunctionCallOf.{FunctionCallOf}
use Rattle.wgsl_expressions.specs.declared.expression.TypeExpressionOf.{TypeExpressionOf}
use Rattle.wgsl_expressions.specs.declared.expression.Expression.{Expression}
use Rattle.wgsl_expressions.specs.declared.expression.Expression.TheVariants as code
use Rattle.wgsl_expressions.specs.Tree.{Exp, exps, named}
use Rattle.wgsl_expressions.specs.View.{call_layer, tree, node_tree, type_tree}
use Rattle.wgsl_expressions.proofs.Trees as trees
use Rattle.wgsl_expressions.specs.AttributesView.{attributes_tree}
use Rattle.wgsl_simple_statements.specs.declared.statement.AssignmentStatement.{AssignmentStatement}
use Rattle.wgsl_simple_statements.specs.declared.statement.IncrementStatement.{IncrementStatement}
use Rattle.wgsl_simple_statements.specs.declared.statement.DecrementStatement.{DecrementStatement}
use Rattle.wgsl_simple_statements.specs.declared.statement.BreakStatement.{BreakStatement}
use Rattle.wgsl_simple_statements.specs.declared.statement.ContinueStatement.{ContinueStatement}
use Rattle.wgsl_simple_statements.specs.declared.statement.ReturnStatement.{ReturnStatement}
use Rattle.wgsl_simple_statements.specs.declared.statement.DiscardStatement.{DiscardStatement}
use Rattle.wgsl_simple_statements.specs.declared.statement.FunctionCallStatement.{FunctionCallStatement}
use Rattle.wgsl_simple_statements.specs.declared.declaration.ConstAssert.{ConstAssert}
use Rattle.wgsl_simple_statements.specs.declared.declaration.Declaration.{Declaration}
use Rattle.wgsl_simple_statements.specs.View.{assignment_tree, return_tree, call_tree, assertion_tree, value_tree}
use Rattle.wgsl_statements.specs.declared.statement.CompoundStatementOf.{CompoundStatementOf}
use Rattle.wgsl_statements.specs.declared.statement.IfStatementOf.{IfStatementOf}
use Rattle.wgsl_statements.specs.declared.statement.SwitchStatementOf.{SwitchStatementOf}
use Rattle.wgsl_statements.specs.declared.statement.LoopStatementOf.{LoopStatementOf}
use Rattle.wgsl_statements.specs.declared.statement.ForStatementOf.{ForStatementOf}
use Rattle.wgsl_statements.specs.declared.statement.WhileStatementOf.{WhileStatementOf}
use Rattle.wgsl_statements.specs.declared.statement.Statement.{Statement}
use Rattle.wgsl_statements.specs.declared.statement.Statement.TheVariants as stated
use Rattle.wgsl_statements.specs.Tree.{Stm}
use Rattle.wgsl_statements.specs.View.{stms, block_tree, if_layer, switch_layer, loop_layer, for_layer, while_layer, statement_tree, part, part_layer}
use Rattle.wgsl_statements.proofs.Trees as statements
use Rattle.wgsl_nodes_in_order.specs.Nodes.{Node, statement_node, inside_exp, in_exp, in_exps, in_typ, in_attrs, inside_simple, inside_stm, inside_optional, in_optional_stm, in_stms, in_block, in_part}

-- what is so of an answer that is good
pub if_ok : {A E P Q : Type 0} (r : Result A E) → (P → Q) → OnOk r P → OnOk r Q
if_ok (Ok x) f h = f h
if_ok (Err e) f h = h

-- ---- expressions

behind_tree : (old new : List Node) (e : Expression) (t : Exp) → tree e ≡ t → new ≡ old ++ inside_exp t → new ≡ old ++ inside_exp (tree e)
behind_tree old new e t same h = let P : Exp → Type 0 = λ t. new ≡ old ++ inside_exp t in subst P (sym same) h

pub of_call : (old new : List Node) (e : Expression) (x y : FunctionCallOf Expression) → e ≡ code.FunctionCall x → y ≡ x
    → new ≡ old ++ (in_typ (type_tree y.ty) ++ in_exps (exps (map node_tree y.arguments))) → new ≡ old ++ inside_exp (tree e)
of_call old new e x y is same h =
    let P : FunctionCallOf Expression → Type 0 = λ z. new ≡ old ++ (in_typ (type_tree z.ty) ++ in_exps (exps (map node_tree z.arguments))) in
    behind_tree old new e (call_layer tree x) (ap tree is ∙ trees.tree_of_call x) (subst P same h)

pub of_named : (old new : List Node) (e : Expression) (x : TypeExpressionOf Expression) → e ≡ code.TypeOrIdentifier x → new ≡ old ++ in_typ (type_tree x) → new ≡ old ++ inside_exp (tree e)
of_named old new e x is h = behind_tree old new e (named (type_tree x)) (ap tree is ∙ trees.tree_of_named x) h

-- ---- statements

behind_statement : (old new : List Node) (s : Statement) (o : Option Stm) → statement_tree s ≡ o → new ≡ old ++ inside_optional o → new ≡ old ++ inside_optional (statement_tree s)
behind_statement old new s o same h = let P : Option Stm → Type 0 = λ o. new ≡ old ++ inside_optional o in subst P (sym same) h

pub of_void : (old : List Node) → old ≡ old ++ inside_optional (statement_tree stated.Void)
of_void old = behind_statement old old _ _ statements.tree_of_void (sym (append-nil old))

pub of_compound : (old new : List Node) (x : CompoundStatementOf Statement) → new ≡ old ++ in_block (block_tree x) → new ≡ old ++ inside_optional (statement_tree (stated.Compound x))
of_compound old new x h = behind_statement old new _ _ (statements.tree_of_compound x) h

pub of_assignment : (old new : List Node) (x : AssignmentStatement) → new ≡ old ++ inside_simple (assignment_tree x) → new ≡ old ++ inside_optional (statement_tree (stated.Assignment x))
of_assignment old new x h = behind_statement old new _ _ (statements.tree_of_assignment x) h

pub of_increment : (old new : List Node) (x : IncrementStatement) → new ≡ old ++ (in_attrs (attributes_tree x.attributes) ++ in_exp (node_tree x.expression)) → new ≡ old ++ inside_optional (statement_tree (stated.Increment x))
of_increment old new x h = behind_statement old new _ _ (statements.tree_of_increment x) h

pub of_decrement : (old new : List Node) (x : DecrementStatement) → new ≡ old ++ (in_attrs (attributes_tree x.attributes) ++ in_exp (node_tree x.expression)) → new ≡ old ++ inside_optional (statement_tree (stated.Decrement x))
of_decrement old new x h = behind_statement old new _ _ (statements.tree_of_decrement x) h

pub of_if : (old new : List Node) (x : IfStatementOf Statement) → new ≡ old ++ inside_stm (if_layer statement_tree x) → new ≡ old ++ inside_optional (statement_tree (stated.If x))
of_if old new x h = behind_statement old new _ _ (statements.tree_of_if x) h

pub of_switch : (old new : List Node) (x : SwitchStatementOf Statement) → new ≡ old ++ inside_stm (switch_layer statement_tree x) → new ≡ old ++ inside_optional (statement_tree (stated.Switch x))
of_switch old new x h = behind_statement old new _ _ (statements.tree_of_switch x) h

pub of_loop : (old new : List Node) (x : LoopStatementOf Statement) → new ≡ old ++ inside_stm (loop_layer statement_tree x) → new ≡ old ++ inside_optional (statement_tree (stated.Loop x))
of_loop old new x h = behind_statement old new _ _ (statements.tree_of_loop x) h

pub of_for : (old new : List Node) (x : ForStatementOf Statement) → new ≡ old ++ inside_stm (for_layer statement_tree x) → new ≡ old ++ inside_optional (statement_tree (stated.For x))
of_for old new x h = behind_statement old new _ _ (statements.tree_of_for x) h

pub of_while : (old new : List Node) (x : WhileStatementOf Statement) → new ≡ old ++ inside_stm (while_layer statement_tree x) → new ≡ old ++ inside_optional (statement_tree (stated.While x))
of_while old new x h = behind_statement old new _ _ (statements.tree_of_while x) h

pub of_break : (old new : List Node) (x : BreakStatement) → new ≡ old ++ in_attrs (attributes_tree x.attributes) → new ≡ old ++ inside_optional (statement_tree (stated.Break x))
of_break old new x h = behind_statement old new _ _ (statements.tree_of_break x) h

pub of_continue : (old new : List Node) (x : ContinueStatement) → new ≡ old ++ in_attrs (attributes_tree x.attributes) → new ≡ old ++ inside_optional (statement_tree (stated.Continue x))
of_continue old new x h = behind_statement old new _ _ (statements.tree_of_continue x) h

pub of_return : (old new : List Node) (x : ReturnStatement) → new ≡ old ++ inside_simple (return_tree x) → new ≡ old ++ inside_optional (statement_tree (stated.Return x))
of_return old new x h = behind_statement old new _ _ (statements.tree_of_return x) h

pub of_discard : (old new : List Node) (x : DiscardStatement) → new ≡ old ++ in_attrs (attributes_tree x.attributes) → new ≡ old ++ inside_optional (statement_tree (stated.Discard x))
of_discard old new x h = behind_statement old new _ _ (statements.tree_of_discard x) h

pub of_call_statement : (old new : List Node) (x : FunctionCallStatement) → new ≡ old ++ inside_simple (call_tree x) → new ≡ old ++ inside_optional (statement_tree (stated.FunctionCall x))
of_call_statement old new x h = behind_statement old new _ _ (statements.tree_of_call x) h

pub of_assertion : (old new : List Node) (x : ConstAssert) → new ≡ old ++ inside_simple (assertion_tree x) → new ≡ old ++ inside_optional (statement_tree (stated.ConstAssert x))
of_assertion old new x h = behind_statement old new _ _ (statements.tree_of_assertion x) h

pub of_value : (old new : List Node) (x : Declaration) → new ≡ old ++ inside_simple (value_tree x) → new ≡ old ++ inside_optional (statement_tree (stated.Declaration x))
of_value old new x h = behind_statement old new _ _ (statements.tree_of_value x) h

never : {b : Bool} → b ≡ true → b ≡ false → ⊥
never e h = let wrong : true ≡ false = sym e ∙ h in cc

-- a `;` is no node
pub void_none : (old : List Node) (s : Statement) → is_some (statement_tree s) ≡ false → old ≡ old ++ in_optional_stm (statement_tree s)
void_none old s e = go (statement_tree s) e
  where
    go : (o : Option Stm) → is_some o ≡ false → old ≡ old ++ in_optional_stm o
    go None e = sym (append-nil old)
    go (Some t) e = absurd (never refl e)

-- a statement stands behind what is inside it
pub with_itself : (old mid new : List Node) (s : Statement) → is_some (statement_tree s) ≡ true → mid ≡ old ++ inside_optional (statement_tree s)
    → new ≡ mid ++ (statement_node (stms (statement_tree s ∷ [])) ∷ []) → new ≡ old ++ in_optional_stm (statement_tree s)
with_itself old mid new s e h k = go (statement_tree s) e h k
  where
    go : (o : Option Stm) → is_some o ≡ true → mid ≡ old ++ inside_optional o → new ≡ mid ++ (statement_node (stms (o ∷ [])) ∷ []) → new ≡ old ++ in_optional_stm o
    go None e h k = absurd (never e refl)
    go (Some t) e h k = k ∙ ap (λ l. l ++ (statement_node (stms (Some t ∷ [])) ∷ [])) h ∙ append_assoc old (inside_stm t) (statement_node (stms (Some t ∷ [])) ∷ [])

-- the first of some statements
pub in_first : (o : Option Stm) (os : List (Option Stm)) → in_stms (stms (o ∷ os)) ≡ in_optional_stm o ++ in_stms (stms os)
in_first None os = refl
in_first (Some t) os = refl

pub in_present : (old new : List Node) (n : Spanned Statement) → new ≡ old ++ in_optional_stm (statement_tree n.node) → new ≡ old ++ in_part (part_layer statement_tree (Some n))
in_present old new n h = go (statement_tree n.node) h
  where
    go : (o : Option Stm) → new ≡ old ++ in_optional_stm o → new ≡ old ++ in_part (part o)
    go None h = h
    go (Some t) h = h
