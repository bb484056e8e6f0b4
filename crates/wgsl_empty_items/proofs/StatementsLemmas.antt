-- Where two statements are equal, they stand for the same tree. An empty item stands for none, so that two with the same tree may not be equal.
use Rattle.std.proofs.Common.{◌≡◌, refl, sym, ap, ◌∙◌, subst, Bool, true, false, ◌&&◌, List, [], ◌∷◌, map, Option, Some, None, true≢false}
use Rattle.std.specs.Option.{option_eq, option_map}
use Rattle.std.specs.Cmp.{first_so, second_so}
use Rattle.std.specs.Cmp.Lexicographic.{pointwise}
use Rattle.wgsl_path.specs.declared.span.Spanned.{Spanned}
use Rattle.wgsl_expressions.specs.declared.attributes.attribute.Attribute.{Attribute}
use Rattle.wgsl_expressions.specs.AttributesView.{attributes_tree}
use Rattle.wgsl_simple_statements.specs.contracts.declaration.DeclarationPartialEq.TheImpl as value
use Rattle.wgsl_simple_statements.specs.contracts.declaration.ConstAssertPartialEq.TheImpl as assertion
use Rattle.wgsl_simple_statements.specs.contracts.statement.AssignmentStatementPartialEq.TheImpl as assigned
use Rattle.wgsl_simple_statements.specs.contracts.statement.IncrementStatementPartialEq.TheImpl as incremented
use Rattle.wgsl_simple_statements.specs.contracts.statement.DecrementStatementPartialEq.TheImpl as decremented
use Rattle.wgsl_simple_statements.specs.contracts.statement.BreakStatementPartialEq.TheImpl as broken
use Rattle.wgsl_simple_statements.specs.contracts.statement.ContinueStatementPartialEq.TheImpl as continued
use Rattle.wgsl_simple_statements.specs.contracts.statement.ReturnStatementPartialEq.TheImpl as returned
use Rattle.wgsl_simple_statements.specs.contracts.statement.DiscardStatementPartialEq.TheImpl as discarded
use Rattle.wgsl_simple_statements.specs.contracts.statement.FunctionCallStatementPartialEq.TheImpl as called
use Rattle.wgsl_simple_statements.specs.contracts.statement.BreakIfStatementPartialEq.TheImpl as broken_if
use Rattle.wgsl_simple_statements.specs.contracts.statement.CaseSelectorPartialEq.TheImpl as selector
use Rattle.wgsl_simple_statements.specs.declared.declaration.Declaration.{Declaration}
use Rattle.wgsl_simple_statements.specs.declared.declaration.ConstAssert.{ConstAssert}
use Rattle.wgsl_simple_statements.specs.declared.statement.AssignmentStatement.{AssignmentStatement}
use Rattle.wgsl_simple_statements.specs.declared.statement.IncrementStatement.{IncrementStatement}
use Rattle.wgsl_simple_statements.specs.declared.statement.DecrementStatement.{DecrementStatement}
use Rattle.wgsl_simple_statements.specs.declared.statement.BreakStatement.{BreakStatement}
use Rattle.wgsl_simple_statements.specs.declared.statement.ContinueStatement.{ContinueStatement}
use Rattle.wgsl_simple_statements.specs.declared.statement.ReturnStatement.{ReturnStatement}
use Rattle.wgsl_simple_statements.specs.declared.statement.DiscardStatement.{DiscardStatement}
use Rattle.wgsl_simple_statements.specs.declared.statement.FunctionCallStatement.{FunctionCallStatement}
use Rattle.wgsl_simple_statements.specs.declared.statement.BreakIfStatement.{BreakIfStatement}
use Rattle.wgsl_simple_statements.specs.declared.statement.CaseSelector.{CaseSelector}
use Rattle.wgsl_simple_statements.specs.Tree.{Simple}
use Rattle.wgsl_simple_statements.specs.View.{assignment_tree, increment_tree, decrement_tree, break_tree, continue_tree, return_tree, discard_tree, call_tree, assertion_tree, value_tree, break_if_tree, selector_tree}
use Rattle.wgsl_statements.specs.contracts.statement.StatementPartialEq.TheImpl as e
use Rattle.wgsl_statements.specs.contracts.statement.StatementPartialEq.TheImpl.Laws as law
use Rattle.wgsl_statements.specs.declared.statement.CompoundStatementOf.{CompoundStatementOf}
use Rattle.wgsl_statements.specs.declared.statement.IfStatementOf.{IfStatementOf}
use Rattle.wgsl_statements.specs.declared.statement.ElseIfClauseOf.{ElseIfClauseOf}
use Rattle.wgsl_statements.specs.declared.statement.ElseClauseOf.{ElseClauseOf}
use Rattle.wgsl_statements.specs.declared.statement.SwitchStatementOf.{SwitchStatementOf}
use Rattle.wgsl_statements.specs.declared.statement.SwitchClauseOf.{SwitchClauseOf}
use Rattle.wgsl_statements.specs.declared.statement.LoopStatementOf.{LoopStatementOf}
use Rattle.wgsl_statements.specs.declared.statement.ContinuingStatementOf.{ContinuingStatementOf}
use Rattle.wgsl_statements.specs.declared.statement.ForStatementOf.{ForStatementOf}
use Rattle.wgsl_statements.specs.declared.statement.WhileStatementOf.{WhileStatementOf}
use Rattle.wgsl_statements.specs.declared.statement.Statement.{Statement, out-Statement, roll-Statement, out-roll-Statement, map-Statement, ind-Statement}
use Rattle.wgsl_statements.specs.declared.statement.Statement.TheOpen.{Statement-F}
use Rattle.wgsl_statements.specs.declared.statement.Statement.TheVariants.{Compound, outs-Compound}
use Rattle.wgsl_statements.specs.Tree.{Stm, Block, simple, compound_statement, if_statement, switch_statement, loop_statement, for_statement, while_statement, block, else_clause, else_if_clause, switch_clause, continuing_statement}
use Rattle.wgsl_statements.specs.View.{stms, part, else_layer, elses_layer, if_layer, clauses_layer, continuing_layer, loop_layer, part_layer, for_layer, layer, statement_tree, block_tree}
use Rattle.wgsl_statements.proofs.Trees.{tree_out, tree_of_compound}
use Rattle.wgsl_empty_items.proofs.Parts.{options_true, lists_true}
use Rattle.wgsl_empty_items.proofs.Attributes.{equal_node, node_true, maybe_nodes_true, equal_attributes, attribute_lists_decide}
use Rattle.wgsl_empty_items.proofs.SimpleStatements.{same_simple, simple_decides, assignments_agree, increments_agree, decrements_agree, breaks_agree, continues_agree, returns_agree, discards_agree, calls_agree, assertions_agree, values_agree, break_ifs_decide, selectors_decide}

abbrev pub equal : Statement → Statement → Bool
equal = e.eq-value.it

-- ---- equality of a layer, from that of its parts

abbrev pub equal_in : Spanned Statement → Spanned Statement → Bool
equal_in x y = equal x.node y.node

abbrev pub same_block : CompoundStatementOf Statement → CompoundStatementOf Statement → Bool
same_block x y = equal_attributes x.attributes y.attributes && pointwise equal_in x.statements y.statements

abbrev pub same_else_if : ElseIfClauseOf Statement → ElseIfClauseOf Statement → Bool
same_else_if x y = equal_node x.expression y.expression && same_block x.body y.body

abbrev pub same_else : ElseClauseOf Statement → ElseClauseOf Statement → Bool
same_else x y = same_block x.body y.body

abbrev pub same_if : IfStatementOf Statement → IfStatementOf Statement → Bool
same_if x y =
    equal_attributes x.attributes y.attributes && ((equal_node x.if_clause.expression y.if_clause.expression && same_block x.if_clause.body y.if_clause.body)
    && (pointwise same_else_if x.else_if_clauses y.else_if_clauses && option_eq same_else x.else_clause y.else_clause))

abbrev pub same_clause : SwitchClauseOf Statement → SwitchClauseOf Statement → Bool
same_clause x y = pointwise selector.eq-value.it x.case_selectors y.case_selectors && same_block x.body y.body

abbrev pub same_switch : SwitchStatementOf Statement → SwitchStatementOf Statement → Bool
same_switch x y =
    equal_attributes x.attributes y.attributes && (equal_node x.expression y.expression && (equal_attributes x.body_attributes y.body_attributes
    && pointwise same_clause x.clauses y.clauses))

abbrev pub same_continuing : ContinuingStatementOf Statement → ContinuingStatementOf Statement → Bool
same_continuing x y = equal_attributes x.attributes y.attributes && (same_block x.body y.body && option_eq broken_if.eq-value.it x.break_if y.break_if)

abbrev pub same_loop : LoopStatementOf Statement → LoopStatementOf Statement → Bool
same_loop x y = equal_attributes x.attributes y.attributes && (same_block x.body y.body && option_eq same_continuing x.continuing y.continuing)

abbrev pub same_for : ForStatementOf Statement → ForStatementOf Statement → Bool
same_for x y =
    equal_attributes x.attributes y.attributes && (option_eq equal_in x.initializer y.initializer && (option_eq equal_node x.condition y.condition
    && (option_eq equal_in x.update y.update && same_block x.body y.body)))

abbrev pub same_while : WhileStatementOf Statement → WhileStatementOf Statement → Bool
same_while x y = equal_attributes x.attributes y.attributes && (equal_node x.condition y.condition && same_block x.body y.body)

abbrev pub same_layer : Statement-F Statement → Statement-F Statement → Bool
same_layer Statement-F.Void Statement-F.Void = true
same_layer (Statement-F.Compound x) (Statement-F.Compound y) = same_block x y
same_layer (Statement-F.Assignment x) (Statement-F.Assignment y) = assigned.eq-value.it x y
same_layer (Statement-F.Increment x) (Statement-F.Increment y) = incremented.eq-value.it x y
same_layer (Statement-F.Decrement x) (Statement-F.Decrement y) = decremented.eq-value.it x y
same_layer (Statement-F.If x) (Statement-F.If y) = same_if x y
same_layer (Statement-F.Switch x) (Statement-F.Switch y) = same_switch x y
same_layer (Statement-F.Loop x) (Statement-F.Loop y) = same_loop x y
same_layer (Statement-F.For x) (Statement-F.For y) = same_for x y
same_layer (Statement-F.While x) (Statement-F.While y) = same_while x y
same_layer (Statement-F.Break x) (Statement-F.Break y) = broken.eq-value.it x y
same_layer (Statement-F.Continue x) (Statement-F.Continue y) = continued.eq-value.it x y
same_layer (Statement-F.Return x) (Statement-F.Return y) = returned.eq-value.it x y
same_layer (Statement-F.Discard x) (Statement-F.Discard y) = discarded.eq-value.it x y
same_layer (Statement-F.FunctionCall x) (Statement-F.FunctionCall y) = called.eq-value.it x y
same_layer (Statement-F.ConstAssert x) (Statement-F.ConstAssert y) = assertion.eq-value.it x y
same_layer (Statement-F.Declaration x) (Statement-F.Declaration y) = value.eq-value.it x y
same_layer _ _ = false

-- where the first is open already, which keeps each step small
abbrev Opens : Statement-F Statement → Type 0
Opens x = (a b : Statement) (y : Statement-F Statement) → out-Statement a ≡ x → out-Statement b ≡ y → law.unfolded a b ≡ same_layer x y

opens_void : Opens Statement-F.Void
opens_void a b Statement-F.Void p q = rw p (rw q refl)
opens_void a b y p q = rw p (rw q refl)

opens_compound : (x : CompoundStatementOf Statement) → Opens (Statement-F.Compound x)
opens_compound x a b (Statement-F.Compound y) p q = rw p (rw q refl)
opens_compound x a b y p q = rw p (rw q refl)

opens_assignment : (x : AssignmentStatement) → Opens (Statement-F.Assignment x)
opens_assignment x a b (Statement-F.Assignment y) p q = rw p (rw q refl)
opens_assignment x a b y p q = rw p (rw q refl)

opens_increment : (x : IncrementStatement) → Opens (Statement-F.Increment x)
opens_increment x a b (Statement-F.Increment y) p q = rw p (rw q refl)
opens_increment x a b y p q = rw p (rw q refl)

opens_decrement : (x : DecrementStatement) → Opens (Statement-F.Decrement x)
opens_decrement x a b (Statement-F.Decrement y) p q = rw p (rw q refl)
opens_decrement x a b y p q = rw p (rw q refl)

opens_if : (x : IfStatementOf Statement) → Opens (Statement-F.If x)
opens_if x a b (Statement-F.If y) p q = rw p (rw q refl)
opens_if x a b y p q = rw p (rw q refl)

opens_switch : (x : SwitchStatementOf Statement) → Opens (Statement-F.Switch x)
opens_switch x a b (Statement-F.Switch y) p q = rw p (rw q refl)
opens_switch x a b y p q = rw p (rw q refl)

opens_loop : (x : LoopStatementOf Statement) → Opens (Statement-F.Loop x)
opens_loop x a b (Statement-F.Loop y) p q = rw p (rw q refl)
opens_loop x a b y p q = rw p (rw q refl)

opens_for : (x : ForStatementOf Statement) → Opens (Statement-F.For x)
opens_for x a b (Statement-F.For y) p q = rw p (rw q refl)
opens_for x a b y p q = rw p (rw q refl)

opens_while : (x : WhileStatementOf Statement) → Opens (Statement-F.While x)
opens_while x a b (Statement-F.While y) p q = rw p (rw q refl)
opens_while x a b y p q = rw p (rw q refl)

opens_break : (x : BreakStatement) → Opens (Statement-F.Break x)
opens_break x a b (Statement-F.Break y) p q = rw p (rw q refl)
opens_break x a b y p q = rw p (rw q refl)

opens_continue : (x : ContinueStatement) → Opens (Statement-F.Continue x)
opens_continue x a b (Statement-F.Continue y) p q = rw p (rw q refl)
opens_continue x a b y p q = rw p (rw q refl)

opens_return : (x : ReturnStatement) → Opens (Statement-F.Return x)
opens_return x a b (Statement-F.Return y) p q = rw p (rw q refl)
opens_return x a b y p q = rw p (rw q refl)

opens_discard : (x : DiscardStatement) → Opens (Statement-F.Discard x)
opens_discard x a b (Statement-F.Discard y) p q = rw p (rw q refl)
opens_discard x a b y p q = rw p (rw q refl)

opens_call : (x : FunctionCallStatement) → Opens (Statement-F.FunctionCall x)
opens_call x a b (Statement-F.FunctionCall y) p q = rw p (rw q refl)
opens_call x a b y p q = rw p (rw q refl)

opens_assert : (x : ConstAssert) → Opens (Statement-F.ConstAssert x)
opens_assert x a b (Statement-F.ConstAssert y) p q = rw p (rw q refl)
opens_assert x a b y p q = rw p (rw q refl)

opens_value : (x : Declaration) → Opens (Statement-F.Declaration x)
opens_value x a b (Statement-F.Declaration y) p q = rw p (rw q refl)
opens_value x a b y p q = rw p (rw q refl)

opens : (x : Statement-F Statement) → Opens x
opens Statement-F.Void = opens_void
opens (Statement-F.Compound x) = opens_compound x
opens (Statement-F.Assignment x) = opens_assignment x
opens (Statement-F.Increment x) = opens_increment x
opens (Statement-F.Decrement x) = opens_decrement x
opens (Statement-F.If x) = opens_if x
opens (Statement-F.Switch x) = opens_switch x
opens (Statement-F.Loop x) = opens_loop x
opens (Statement-F.For x) = opens_for x
opens (Statement-F.While x) = opens_while x
opens (Statement-F.Break x) = opens_break x
opens (Statement-F.Continue x) = opens_continue x
opens (Statement-F.Return x) = opens_return x
opens (Statement-F.Discard x) = opens_discard x
opens (Statement-F.FunctionCall x) = opens_call x
opens (Statement-F.ConstAssert x) = opens_assert x
opens (Statement-F.Declaration x) = opens_value x

pub same_out : (a b : Statement) → equal a b ≡ same_layer (out-Statement a) (out-Statement b)
same_out a b = law.is a b ∙ opens (out-Statement a) a b (out-Statement b) refl refl

-- ---- layers that pass the test stand for the same tree, where parts that pass it do

simple_if : (test : Bool) (x y : Simple) → test ≡ same_simple x y → test ≡ true → Some (simple x) ≡ Some (simple y)
simple_if test x y is h = ap (λ t. Some (simple t)) ((simple_decides x y).0 (sym is ∙ h))

attributes_true : (xs ys : List (Spanned Attribute)) → equal_attributes xs ys ≡ true → attributes_tree xs ≡ attributes_tree ys
attributes_true xs ys = (attribute_lists_decide xs ys).0

selectors_true : (xs ys : List CaseSelector) → pointwise selector.eq-value.it xs ys ≡ true → map selector_tree xs ≡ map selector_tree ys
selectors_true = lists_true selector.eq-value.it selector_tree (λ x y. (selectors_decide x y).0)

maybe_break_if_true : (x y : Option BreakIfStatement) → option_eq broken_if.eq-value.it x y ≡ true → option_map break_if_tree x ≡ option_map break_if_tree y
maybe_break_if_true = options_true broken_if.eq-value.it break_if_tree (λ x y. (break_ifs_decide x y).0)

module _ {A : Type 0} (f : A → Statement) (child : (x : A) (y : Statement) → equal (f x) y ≡ true → statement_tree (f x) ≡ statement_tree y) where
  abbrev node_at : Spanned A → Spanned Statement
  node_at n = record { node = f n.node; span = n.span }

  abbrev block_at : CompoundStatementOf A → CompoundStatementOf Statement
  block_at x = record { attributes = x.attributes; statements = map node_at x.statements }

  abbrev else_if_at : ElseIfClauseOf A → ElseIfClauseOf Statement
  else_if_at c = record { expression = c.expression; body = block_at c.body }

  abbrev else_at : ElseClauseOf A → ElseClauseOf Statement
  else_at c = record { body = block_at c.body }

  abbrev clause_at : SwitchClauseOf A → SwitchClauseOf Statement
  clause_at c = record { case_selectors = c.case_selectors; body = block_at c.body }

  abbrev continuing_at : ContinuingStatementOf A → ContinuingStatementOf Statement
  continuing_at c = record { attributes = c.attributes; body = block_at c.body; break_if = c.break_if }

  nodes_true : (xs : List (Spanned A)) (ys : List (Spanned Statement)) → pointwise equal_in (map node_at xs) ys ≡ true
      → map (λ n. statement_tree n.node) (map node_at xs) ≡ map (λ n. statement_tree n.node) ys
  nodes_true [] [] h = refl
  nodes_true [] (y ∷ ys) h = absurd (true≢false (sym h))
  nodes_true (x ∷ xs) [] h = absurd (true≢false (sym h))
  nodes_true (x ∷ xs) (y ∷ ys) h =
      let first = equal (f x.node) y.node in
      let rest = pointwise equal_in (map node_at xs) ys in
      λ i. child x.node y.node (first_so first rest h) i ∷ nodes_true xs ys (second_so first rest h) i

  block_true : (x : CompoundStatementOf A) (y : CompoundStatementOf Statement) → same_block (block_at x) y ≡ true → block_tree (block_at x) ≡ block_tree y
  block_true x y h =
      let first = equal_attributes x.attributes y.attributes in
      let rest = pointwise equal_in (map node_at x.statements) y.statements in
      λ i. block (attributes_true x.attributes y.attributes (first_so first rest h) i) (stms (nodes_true x.statements y.statements (second_so first rest h) i))

  else_true : (x : Option (ElseClauseOf A)) (y : Option (ElseClauseOf Statement)) → option_eq same_else (option_map else_at x) y ≡ true
      → else_layer statement_tree (option_map else_at x) ≡ else_layer statement_tree y
  else_true None None h = refl
  else_true None (Some y) h = absurd (true≢false (sym h))
  else_true (Some x) None h = absurd (true≢false (sym h))
  else_true (Some x) (Some y) h = ap else_clause (block_true x.body y.body h)

  elses_true : (xs : List (ElseIfClauseOf A)) (ys : List (ElseIfClauseOf Statement)) (o : Option (ElseClauseOf A)) (r : Option (ElseClauseOf Statement))
      → pointwise same_else_if (map else_if_at xs) ys ≡ true → option_eq same_else (option_map else_at o) r ≡ true
      → elses_layer statement_tree (map else_if_at xs) (option_map else_at o) ≡ elses_layer statement_tree ys r
  elses_true [] [] o r h last = else_true o r last
  elses_true [] (y ∷ ys) o r h last = absurd (true≢false (sym h))
  elses_true (x ∷ xs) [] o r h last = absurd (true≢false (sym h))
  elses_true (x ∷ xs) (y ∷ ys) o r h last =
      let condition = equal_node x.expression y.expression in
      let body = same_block (block_at x.body) y.body in
      let rest = pointwise same_else_if (map else_if_at xs) ys in
      let first = first_so (condition && body) rest h in
      λ i. else_if_clause (node_true x.expression y.expression (first_so condition body first) i) (block_true x.body y.body (second_so condition body first) i)
      (elses_true xs ys o r (second_so (condition && body) rest h) last i)

  abbrev True : Statement-F A → Statement-F Statement → Type 0
  True x y = same_layer (map-Statement A Statement f x) y ≡ true → layer statement_tree (map-Statement A Statement f x) ≡ layer statement_tree y

  abbrev if_at : IfStatementOf A → Option (ElseClauseOf A) → IfStatementOf Statement
  if_at x o = record {
    attributes = x.attributes;
    if_clause = record { expression = x.if_clause.expression; body = block_at x.if_clause.body };
    else_if_clauses = map else_if_at x.else_if_clauses;
    else_clause = option_map else_at o;
  }

  if_true : (x : IfStatementOf A) (o : Option (ElseClauseOf A)) (y : IfStatementOf Statement) → same_if (if_at x o) y ≡ true
      → Some (if_layer statement_tree (if_at x o)) ≡ Some (if_layer statement_tree y)
  if_true x o y h =
      let attributes = equal_attributes x.attributes y.attributes in
      let condition = equal_node x.if_clause.expression y.if_clause.expression in
      let body = same_block (block_at x.if_clause.body) y.if_clause.body in
      let else_ifs = pointwise same_else_if (map else_if_at x.else_if_clauses) y.else_if_clauses in
      let last = option_eq same_else (option_map else_at o) y.else_clause in
      let rest = second_so attributes ((condition && body) && (else_ifs && last)) h in
      let clause = first_so (condition && body) (else_ifs && last) rest in
      let ends = second_so (condition && body) (else_ifs && last) rest in
      λ i. Some (if_statement (attributes_true x.attributes y.attributes (first_so attributes ((condition && body) && (else_ifs && last)) h) i)
      (node_true x.if_clause.expression y.if_clause.expression (first_so condition body clause) i)
      (block_true x.if_clause.body y.if_clause.body (second_so condition body clause) i)
      (elses_true x.else_if_clauses y.else_if_clauses o y.else_clause (first_so else_ifs last ends) (second_so else_ifs last ends) i))

  abbrev with_else : IfStatementOf A → Option (ElseClauseOf A) → IfStatementOf A
  with_else x o = record { attributes = x.attributes; if_clause = x.if_clause; else_if_clauses = x.else_if_clauses; else_clause = o }

  if_layer_true : (x : IfStatementOf A) (o : Option (ElseClauseOf A)) (y : IfStatementOf Statement) → True (Statement-F.If (with_else x o)) (Statement-F.If y)
  if_layer_true x None y h = if_true x None y h
  if_layer_true x (Some c) y h = if_true x (Some c) y h

  clauses_true : (xs : List (SwitchClauseOf A)) (ys : List (SwitchClauseOf Statement)) → pointwise same_clause (map clause_at xs) ys ≡ true
      → clauses_layer statement_tree (map clause_at xs) ≡ clauses_layer statement_tree ys
  clauses_true [] [] h = refl
  clauses_true [] (y ∷ ys) h = absurd (true≢false (sym h))
  clauses_true (x ∷ xs) [] h = absurd (true≢false (sym h))
  clauses_true (x ∷ xs) (y ∷ ys) h =
      let selectors = pointwise selector.eq-value.it x.case_selectors y.case_selectors in
      let body = same_block (block_at x.body) y.body in
      let rest = pointwise same_clause (map clause_at xs) ys in
      let first = first_so (selectors && body) rest h in
      λ i. switch_clause (selectors_true x.case_selectors y.case_selectors (first_so selectors body first) i) (block_true x.body y.body (second_so selectors body first) i)
      (clauses_true xs ys (second_so (selectors && body) rest h) i)

  switch_true : (x : SwitchStatementOf A) (y : SwitchStatementOf Statement) → True (Statement-F.Switch x) (Statement-F.Switch y)
  switch_true x y h =
      let attributes = equal_attributes x.attributes y.attributes in
      let value = equal_node x.expression y.expression in
      let inner = equal_attributes x.body_attributes y.body_attributes in
      let clauses = pointwise same_clause (map clause_at x.clauses) y.clauses in
      let rest = second_so attributes (value && (inner && clauses)) h in
      let body = second_so value (inner && clauses) rest in
      λ i. Some (switch_statement (attributes_true x.attributes y.attributes (first_so attributes (value && (inner && clauses)) h) i)
      (node_true x.expression y.expression (first_so value (inner && clauses) rest) i)
      (attributes_true x.body_attributes y.body_attributes (first_so inner clauses body) i)
      (clauses_true x.clauses y.clauses (second_so inner clauses body) i))

  continuing_true : (x : Option (ContinuingStatementOf A)) (y : Option (ContinuingStatementOf Statement)) → option_eq same_continuing (option_map continuing_at x) y ≡ true
      → continuing_layer statement_tree (option_map continuing_at x) ≡ continuing_layer statement_tree y
  continuing_true None None h = refl
  continuing_true None (Some y) h = absurd (true≢false (sym h))
  continuing_true (Some x) None h = absurd (true≢false (sym h))
  continuing_true (Some x) (Some y) h =
      let attributes = equal_attributes x.attributes y.attributes in
      let body = same_block (block_at x.body) y.body in
      let last = option_eq broken_if.eq-value.it x.break_if y.break_if in
      let rest = second_so attributes (body && last) h in
      λ i. continuing_statement (attributes_true x.attributes y.attributes (first_so attributes (body && last) h) i)
      (block_true x.body y.body (first_so body last rest) i) (maybe_break_if_true x.break_if y.break_if (second_so body last rest) i)

  abbrev loop_at : LoopStatementOf A → Option (ContinuingStatementOf A) → LoopStatementOf Statement
  loop_at x o = record { attributes = x.attributes; body = block_at x.body; continuing = option_map continuing_at o }

  loop_true : (x : LoopStatementOf A) (o : Option (ContinuingStatementOf A)) (y : LoopStatementOf Statement) → same_loop (loop_at x o) y ≡ true
      → Some (loop_layer statement_tree (loop_at x o)) ≡ Some (loop_layer statement_tree y)
  loop_true x o y h =
      let attributes = equal_attributes x.attributes y.attributes in
      let body = same_block (block_at x.body) y.body in
      let last = option_eq same_continuing (option_map continuing_at o) y.continuing in
      let rest = second_so attributes (body && last) h in
      λ i. Some (loop_statement (attributes_true x.attributes y.attributes (first_so attributes (body && last) h) i)
      (block_true x.body y.body (first_so body last rest) i) (continuing_true o y.continuing (second_so body last rest) i))

  abbrev with_continuing : LoopStatementOf A → Option (ContinuingStatementOf A) → LoopStatementOf A
  with_continuing x o = record { attributes = x.attributes; body = x.body; continuing = o }

  loop_layer_true : (x : LoopStatementOf A) (o : Option (ContinuingStatementOf A)) (y : LoopStatementOf Statement)
      → True (Statement-F.Loop (with_continuing x o)) (Statement-F.Loop y)
  loop_layer_true x None y h = loop_true x None y h
  loop_layer_true x (Some c) y h = loop_true x (Some c) y h

  part_true : (x : Option (Spanned A)) (y : Option (Spanned Statement)) → option_eq equal_in (option_map node_at x) y ≡ true
      → part_layer statement_tree (option_map node_at x) ≡ part_layer statement_tree y
  part_true None None h = refl
  part_true None (Some y) h = absurd (true≢false (sym h))
  part_true (Some x) None h = absurd (true≢false (sym h))
  part_true (Some x) (Some y) h = ap part (child x.node y.node h)

  abbrev for_at : ForStatementOf A → Option (Spanned A) → Option (Spanned A) → ForStatementOf Statement
  for_at x o u = record {
    attributes = x.attributes;
    initializer = option_map node_at o;
    condition = x.condition;
    update = option_map node_at u;
    body = block_at x.body;
  }

  for_true : (x : ForStatementOf A) (o u : Option (Spanned A)) (y : ForStatementOf Statement) → same_for (for_at x o u) y ≡ true
      → Some (for_layer statement_tree (for_at x o u)) ≡ Some (for_layer statement_tree y)
  for_true x o u y h =
      let attributes = equal_attributes x.attributes y.attributes in
      let initializer = option_eq equal_in (option_map node_at o) y.initializer in
      let condition = option_eq equal_node x.condition y.condition in
      let update = option_eq equal_in (option_map node_at u) y.update in
      let body = same_block (block_at x.body) y.body in
      let parts = second_so attributes (initializer && (condition && (update && body))) h in
      let rest = second_so initializer (condition && (update && body)) parts in
      let ends = second_so condition (update && body) rest in
      λ i. Some (for_statement (attributes_true x.attributes y.attributes (first_so attributes (initializer && (condition && (update && body))) h) i)
      (part_true o y.initializer (first_so initializer (condition && (update && body)) parts) i)
      (maybe_nodes_true x.condition y.condition (first_so condition (update && body) rest) i)
      (part_true u y.update (first_so update body ends) i) (block_true x.body y.body (second_so update body ends) i))

  abbrev with_parts : ForStatementOf A → Option (Spanned A) → Option (Spanned A) → ForStatementOf A
  with_parts x o u = record { attributes = x.attributes; initializer = o; condition = x.condition; update = u; body = x.body }

  for_layer_true : (x : ForStatementOf A) (o u : Option (Spanned A)) (y : ForStatementOf Statement) → True (Statement-F.For (with_parts x o u)) (Statement-F.For y)
  for_layer_true x None None y h = for_true x None None y h
  for_layer_true x None (Some u) y h = for_true x None (Some u) y h
  for_layer_true x (Some o) None y h = for_true x (Some o) None y h
  for_layer_true x (Some o) (Some u) y h = for_true x (Some o) (Some u) y h

  while_true : (x : WhileStatementOf A) (y : WhileStatementOf Statement) → True (Statement-F.While x) (Statement-F.While y)
  while_true x y h =
      let attributes = equal_attributes x.attributes y.attributes in
      let condition = equal_node x.condition y.condition in
      let body = same_block (block_at x.body) y.body in
      let rest = second_so attributes (condition && body) h in
      λ i. Some (while_statement (attributes_true x.attributes y.attributes (first_so attributes (condition && body) h) i)
      (node_true x.condition y.condition (first_so condition body rest) i) (block_true x.body y.body (second_so condition body rest) i))

  layer_true : (x : Statement-F A) (y : Statement-F Statement) → True x y
  layer_true Statement-F.Void Statement-F.Void h = refl
  layer_true (Statement-F.Compound x) (Statement-F.Compound y) h = ap (λ t. Some (compound_statement t)) (block_true x y h)
  layer_true (Statement-F.Assignment x) (Statement-F.Assignment y) h = simple_if (assigned.eq-value.it x y) (assignment_tree x) (assignment_tree y) (assignments_agree x y) h
  layer_true (Statement-F.Increment x) (Statement-F.Increment y) h = simple_if (incremented.eq-value.it x y) (increment_tree x) (increment_tree y) (increments_agree x y) h
  layer_true (Statement-F.Decrement x) (Statement-F.Decrement y) h = simple_if (decremented.eq-value.it x y) (decrement_tree x) (decrement_tree y) (decrements_agree x y) h
  layer_true (Statement-F.If x) (Statement-F.If y) h = if_layer_true x x.else_clause y h
  layer_true (Statement-F.Switch x) (Statement-F.Switch y) h = switch_true x y h
  layer_true (Statement-F.Loop x) (Statement-F.Loop y) h = loop_layer_true x x.continuing y h
  layer_true (Statement-F.For x) (Statement-F.For y) h = for_layer_true x x.initializer x.update y h
  layer_true (Statement-F.While x) (Statement-F.While y) h = while_true x y h
  layer_true (Statement-F.Break x) (Statement-F.Break y) h = simple_if (broken.eq-value.it x y) (break_tree x) (break_tree y) (breaks_agree x y) h
  layer_true (Statement-F.Continue x) (Statement-F.Continue y) h = simple_if (continued.eq-value.it x y) (continue_tree x) (continue_tree y) (continues_agree x y) h
  layer_true (Statement-F.Return x) (Statement-F.Return y) h = simple_if (returned.eq-value.it x y) (return_tree x) (return_tree y) (returns_agree x y) h
  layer_true (Statement-F.Discard x) (Statement-F.Discard y) h = simple_if (discarded.eq-value.it x y) (discard_tree x) (discard_tree y) (discards_agree x y) h
  layer_true (Statement-F.FunctionCall x) (Statement-F.FunctionCall y) h = simple_if (called.eq-value.it x y) (call_tree x) (call_tree y) (calls_agree x y) h
  layer_true (Statement-F.ConstAssert x) (Statement-F.ConstAssert y) h = simple_if (assertion.eq-value.it x y) (assertion_tree x) (assertion_tree y) (assertions_agree x y) h
  layer_true (Statement-F.Declaration x) (Statement-F.Declaration y) h = simple_if (value.eq-value.it x y) (value_tree x) (value_tree y) (values_agree x y) h
  layer_true x y h = absurd (true≢false (sym h))

-- ---- statements

abbrev TreeIfEqual : Statement → Type 0
TreeIfEqual a = (b : Statement) → equal a b ≡ true → statement_tree a ≡ statement_tree b

abbrev Shown : Type 0
Shown = (a : Statement) × TreeIfEqual a

abbrev shown : Shown → Statement
shown c = c.0

of_layer : (y : Statement-F Shown) → TreeIfEqual (roll-Statement (map-Statement Shown Statement shown y))
of_layer y b h =
    let x = map-Statement Shown Statement shown y in
    let open_x = out-roll-Statement x in
    tree_out (roll-Statement x)
    ∙ ap (layer statement_tree) open_x
    ∙ layer_true shown (λ c. c.1) y (out-Statement b) (ap (λ z. same_layer z (out-Statement b)) (sym open_x) ∙ sym (same_out (roll-Statement x) b) ∙ h)
    ∙ sym (tree_out b)

pub statements_true : (a b : Statement) → equal a b ≡ true → statement_tree a ≡ statement_tree b
statements_true = ind-Statement TreeIfEqual (λ x y is. subst (λ z. TreeIfEqual (roll-Statement z)) is (of_layer y))

-- ---- blocks, as statements that are blocks

pub blocks_true : (x y : CompoundStatementOf Statement) → same_block x y ≡ true → block_tree x ≡ block_tree y
blocks_true x y h = of_compound (block_tree x) (block_tree y) (sym (tree_of_compound x)
    ∙ statements_true (Compound x) (Compound y) (same_out (Compound x) (Compound y) ∙ (λ i. same_layer (outs-Compound x i) (outs-Compound y i)) ∙ h)
    ∙ tree_of_compound y)
  where
    block_in : Block → Option Stm → Block
    block_in b (Some (compound_statement c)) = c
    block_in b _ = b

    of_compound : (b c : Block) → Some (compound_statement b) ≡ Some (compound_statement c) → b ≡ c
    of_compound b c same = ap (block_in b) same
