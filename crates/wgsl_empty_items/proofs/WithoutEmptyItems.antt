-- Statements without empty items are equal where they stand for the same tree.
use Rattle.std.proofs.Common.{◌≡◌, refl, sym, ap, ◌∙◌, subst, arith, ℕ, ◌+◌, Bool, true, false, ◌&&◌, List, [], ◌∷◌, map, Option, Some, None}
use Rattle.std.specs.Option.{option_eq, option_map}
use Rattle.std.specs.Cmp.Lexicographic.{pointwise}
use Rattle.wgsl_path.specs.declared.span.Spanned.{Spanned}
use Rattle.wgsl_simple_statements.specs.contracts.statement.BreakIfStatementPartialEq.TheImpl as broken_if
use Rattle.wgsl_simple_statements.specs.contracts.statement.CaseSelectorPartialEq.TheImpl as selector
use Rattle.wgsl_simple_statements.specs.View.{break_if_tree, selector_tree}
use Rattle.wgsl_statements.specs.declared.statement.CompoundStatementOf.{CompoundStatementOf}
use Rattle.wgsl_statements.specs.declared.statement.IfStatementOf.{IfStatementOf}
use Rattle.wgsl_statements.specs.declared.statement.ElseIfClauseOf.{ElseIfClauseOf}
use Rattle.wgsl_statements.specs.declared.statement.ElseClauseOf.{ElseClauseOf}
use Rattle.wgsl_statements.specs.declared.statement.SwitchClauseOf.{SwitchClauseOf}
use Rattle.wgsl_statements.specs.declared.statement.LoopStatementOf.{LoopStatementOf}
use Rattle.wgsl_statements.specs.declared.statement.ContinuingStatementOf.{ContinuingStatementOf}
use Rattle.wgsl_statements.specs.declared.statement.ForStatementOf.{ForStatementOf}
use Rattle.wgsl_statements.specs.declared.statement.Statement.{Statement, out-Statement, roll-Statement, out-roll-Statement, map-Statement, ind-Statement}
use Rattle.wgsl_statements.specs.declared.statement.Statement.TheOpen.{Statement-F}
use Rattle.wgsl_statements.specs.declared.statement.Statement.TheVariants.{Compound, outs-Compound}
use Rattle.wgsl_statements.specs.Tree.{Stm, nil, absent}
use Rattle.wgsl_statements.specs.View.{stms, part, else_layer, elses_layer, clauses_layer, continuing_layer, part_layer, layer, statement_tree, block_tree}
use Rattle.wgsl_statements.proofs.Trees.{tree_out, tree_of_compound}
use Rattle.wgsl_empty_items.specs.Counts.{in_nodes, in_block, in_else_ifs, in_else, in_clauses, in_continuing, in_part, in_layer, voids}
use Rattle.wgsl_empty_items.proofs.Counting.{voids_out}
use Rattle.wgsl_empty_items.proofs.Parts.{options_agree, lists_agree}
use Rattle.wgsl_empty_items.proofs.Attributes.{nodes_agree, maybe_nodes_agree, attribute_lists_agree}
use Rattle.wgsl_empty_items.proofs.SimpleStatements.{same_break_if, same_selector, break_ifs_agree, selectors_agree, assignments_agree, increments_agree, decrements_agree, breaks_agree, continues_agree, returns_agree, discards_agree, calls_agree, assertions_agree, values_agree}
use Rattle.wgsl_empty_items.proofs.StatementsLemmas.{equal, equal_in, same_block, same_else_if, same_else, same_clause, same_continuing as same_code_continuing, same_layer, same_out}
use Rattle.wgsl_empty_items.proofs.StatementTest.{same_stm, same_stms, same_tree_block, same_elses, same_clauses, same_continuing, same_part, stm_self, block_self}

-- ---- sums that are nothing

pub first_none : (m n : ℕ) → m + n ≡ 0 → m ≡ 0
first_none m n none = omega (arith, none)

pub second_none : (m n : ℕ) → m + n ≡ 0 → n ≡ 0
second_none m n none = omega (arith, none)

-- ---- what stands for a statement

-- a test of statements that may be none
abbrev same_maybe : Option Stm → Option Stm → Bool
same_maybe (Some x) (Some y) = same_stm x y
same_maybe None None = true
same_maybe _ _ = false

abbrev IsSome : Option Stm → Type 0
IsSome o = (s : Stm) × (o ≡ Some s)

layer_is_some : (x : Statement-F Statement) → in_layer voids x ≡ 0 → IsSome (layer statement_tree x)
layer_is_some Statement-F.Void none = absurd (omega (arith, none))
layer_is_some (Statement-F.Compound x) none = (_, refl)
layer_is_some (Statement-F.Assignment x) none = (_, refl)
layer_is_some (Statement-F.Increment x) none = (_, refl)
layer_is_some (Statement-F.Decrement x) none = (_, refl)
layer_is_some (Statement-F.If x) none = (_, refl)
layer_is_some (Statement-F.Switch x) none = (_, refl)
layer_is_some (Statement-F.Loop x) none = (_, refl)
layer_is_some (Statement-F.For x) none = (_, refl)
layer_is_some (Statement-F.While x) none = (_, refl)
layer_is_some (Statement-F.Break x) none = (_, refl)
layer_is_some (Statement-F.Continue x) none = (_, refl)
layer_is_some (Statement-F.Return x) none = (_, refl)
layer_is_some (Statement-F.Discard x) none = (_, refl)
layer_is_some (Statement-F.FunctionCall x) none = (_, refl)
layer_is_some (Statement-F.ConstAssert x) none = (_, refl)
layer_is_some (Statement-F.Declaration x) none = (_, refl)

is_some : (s : Statement) → voids s ≡ 0 → IsSome (statement_tree s)
is_some s none =
    let found = layer_is_some (out-Statement s) (sym (voids_out s) ∙ none) in
    (found.0, tree_out s ∙ found.1)

-- ---- the equality of a layer is the test of its tree, where that of its parts is

and_assoc : (a b c : Bool) → (a && b) && c ≡ (a && (b && c))
and_assoc true b c = refl
and_assoc false b c = refl

heads_agree : (x y : Option Stm) (xs ys : List (Option Stm)) → IsSome x → IsSome y → (same_maybe x y && same_stms (stms xs) (stms ys)) ≡ same_stms (stms (x ∷ xs)) (stms (y ∷ ys))
heads_agree x y xs ys a b =
    (λ i. same_maybe (a.1 i) (b.1 i) && same_stms (stms xs) (stms ys)) ∙ sym (λ i. same_stms (stms (a.1 i ∷ xs)) (stms (b.1 i ∷ ys)))

no_head : (y : Option Stm) (ys : List (Option Stm)) → IsSome y → false ≡ same_stms nil (stms (y ∷ ys))
no_head y ys b = sym (λ i. same_stms nil (stms (b.1 i ∷ ys)))

only_head : (x : Option Stm) (xs : List (Option Stm)) → IsSome x → false ≡ same_stms (stms (x ∷ xs)) nil
only_head x xs a = sym (λ i. same_stms (stms (a.1 i ∷ xs)) nil)

parts_agree : (x y : Option Stm) → IsSome x → IsSome y → same_maybe x y ≡ same_part (part x) (part y)
parts_agree x y a b = (λ i. same_maybe (a.1 i) (b.1 i)) ∙ sym (λ i. same_part (part (a.1 i)) (part (b.1 i)))

module _ {A : Type 0} (f : A → Statement) (child : (x : A) (y : Statement) → voids (f x) ≡ 0 → voids y ≡ 0 → equal (f x) y ≡ same_maybe (statement_tree (f x)) (statement_tree y)) where
  abbrev node_at : Spanned A → Spanned Statement
  node_at n = record { node = f n.node; span = n.span }

  abbrev block_at : CompoundStatementOf A → CompoundStatementOf Statement
  block_at x = record { attributes = x.attributes; statements = map node_at x.statements }

  abbrev else_if_at : ElseIfClauseOf A → ElseIfClauseOf Statement
  else_if_at c = record { expression = c.expression; body = block_at c.body }

  abbrev else_at : ElseClauseOf A → ElseClauseOf Statement
  else_at c = record { body = block_at c.body }

  abbrev clause_at : SwitchClauseOf A → SwitchClauseOf Statement
  clause_at c = record { case_selectors = c.case_selectors; body = block_at c.body }

  abbrev continuing_at : ContinuingStatementOf A → ContinuingStatementOf Statement
  continuing_at c = record { attributes = c.attributes; body = block_at c.body; break_if = c.break_if }

  abbrev trees : List (Spanned Statement) → List (Option Stm)
  trees ns = map (λ n. statement_tree n.node) ns

  statements_agree : (xs : List (Spanned A)) (ys : List (Spanned Statement)) → in_nodes voids (map node_at xs) ≡ 0 → in_nodes voids ys ≡ 0
      → pointwise equal_in (map node_at xs) ys ≡ same_stms (stms (trees (map node_at xs))) (stms (trees ys))
  statements_agree [] [] a b = refl
  statements_agree [] (y ∷ ys) a b = no_head (statement_tree y.node) (trees ys) (is_some y.node (first_none (voids y.node) (in_nodes voids ys) b))
  statements_agree (x ∷ xs) [] a b = only_head (statement_tree (f x.node)) (trees (map node_at xs)) (is_some (f x.node) (first_none (voids (f x.node)) (in_nodes voids (map node_at xs)) a))
  statements_agree (x ∷ xs) (y ∷ ys) a b =
      let none_x = first_none (voids (f x.node)) (in_nodes voids (map node_at xs)) a in
      let none_y = first_none (voids y.node) (in_nodes voids ys) b in
      let rest = statements_agree xs ys (second_none (voids (f x.node)) (in_nodes voids (map node_at xs)) a) (second_none (voids y.node) (in_nodes voids ys) b) in
      (λ i. child x.node y.node none_x none_y i && rest i)
      ∙ heads_agree (statement_tree (f x.node)) (statement_tree y.node) (trees (map node_at xs)) (trees ys) (is_some (f x.node) none_x) (is_some y.node none_y)

  block_agrees : (x : CompoundStatementOf A) (y : CompoundStatementOf Statement) → in_block voids (block_at x) ≡ 0 → in_block voids y ≡ 0
      → same_block (block_at x) y ≡ same_tree_block (block_tree (block_at x)) (block_tree y)
  block_agrees x y a b = λ i. attribute_lists_agree x.attributes y.attributes i && statements_agree x.statements y.statements a b i

  else_agrees : (x : Option (ElseClauseOf A)) (y : Option (ElseClauseOf Statement)) → in_else voids (option_map else_at x) ≡ 0 → in_else voids y ≡ 0
      → option_eq same_else (option_map else_at x) y ≡ same_elses (else_layer statement_tree (option_map else_at x)) (else_layer statement_tree y)
  else_agrees None None a b = refl
  else_agrees None (Some y) a b = refl
  else_agrees (Some x) None a b = refl
  else_agrees (Some x) (Some y) a b = block_agrees x.body y.body a b

  elses_agree : (xs : List (ElseIfClauseOf A)) (ys : List (ElseIfClauseOf Statement)) (o : Option (ElseClauseOf A)) (r : Option (ElseClauseOf Statement))
      → in_else_ifs voids (map else_if_at xs) ≡ 0 → in_else_ifs voids ys ≡ 0 → in_else voids (option_map else_at o) ≡ 0 → in_else voids r ≡ 0
      → (pointwise same_else_if (map else_if_at xs) ys && option_eq same_else (option_map else_at o) r)
      ≡ same_elses (elses_layer statement_tree (map else_if_at xs) (option_map else_at o)) (elses_layer statement_tree ys r)
  elses_agree [] [] o r a b c d = else_agrees o r c d
  elses_agree [] (y ∷ ys) None r a b c d = refl
  elses_agree [] (y ∷ ys) (Some o) r a b c d = refl
  elses_agree (x ∷ xs) [] o None a b c d = refl
  elses_agree (x ∷ xs) [] o (Some r) a b c d = refl
  elses_agree (x ∷ xs) (y ∷ ys) o r a b c d =
      let in_x = in_block voids (block_at x.body) in
      let in_y = in_block voids y.body in
      let body = block_agrees x.body y.body (first_none in_x (in_else_ifs voids (map else_if_at xs)) a) (first_none in_y (in_else_ifs voids ys) b) in
      let rest = elses_agree xs ys o r (second_none in_x (in_else_ifs voids (map else_if_at xs)) a) (second_none in_y (in_else_ifs voids ys) b) c d in
      and_assoc (same_else_if (else_if_at x) y) (pointwise same_else_if (map else_if_at xs) ys) (option_eq same_else (option_map else_at o) r)
      ∙ (λ i. (nodes_agree x.expression y.expression i && body i) && rest i)

  clauses_agree : (xs : List (SwitchClauseOf A)) (ys : List (SwitchClauseOf Statement)) → in_clauses voids (map clause_at xs) ≡ 0 → in_clauses voids ys ≡ 0
      → pointwise same_clause (map clause_at xs) ys ≡ same_clauses (clauses_layer statement_tree (map clause_at xs)) (clauses_layer statement_tree ys)
  clauses_agree [] [] a b = refl
  clauses_agree [] (y ∷ ys) a b = refl
  clauses_agree (x ∷ xs) [] a b = refl
  clauses_agree (x ∷ xs) (y ∷ ys) a b =
      let in_x = in_block voids (block_at x.body) in
      let in_y = in_block voids y.body in
      let selectors = lists_agree selector.eq-value.it same_selector selector_tree selectors_agree x.case_selectors y.case_selectors in
      let body = block_agrees x.body y.body (first_none in_x (in_clauses voids (map clause_at xs)) a) (first_none in_y (in_clauses voids ys) b) in
      let rest = clauses_agree xs ys (second_none in_x (in_clauses voids (map clause_at xs)) a) (second_none in_y (in_clauses voids ys) b) in
      λ i. (selectors i && body i) && rest i

  continuing_agrees : (x : Option (ContinuingStatementOf A)) (y : Option (ContinuingStatementOf Statement)) → in_continuing voids (option_map continuing_at x) ≡ 0 → in_continuing voids y ≡ 0
      → option_eq same_code_continuing (option_map continuing_at x) y ≡ same_continuing (continuing_layer statement_tree (option_map continuing_at x)) (continuing_layer statement_tree y)
  continuing_agrees None None a b = refl
  continuing_agrees None (Some y) a b = refl
  continuing_agrees (Some x) None a b = refl
  continuing_agrees (Some x) (Some y) a b = λ i.
      attribute_lists_agree x.attributes y.attributes i && (block_agrees x.body y.body a b i
      && options_agree broken_if.eq-value.it same_break_if break_if_tree break_ifs_agree x.break_if y.break_if i)

  part_agrees : (x : Option (Spanned A)) (y : Option (Spanned Statement)) → in_part voids (option_map node_at x) ≡ 0 → in_part voids y ≡ 0
      → option_eq equal_in (option_map node_at x) y ≡ same_part (part_layer statement_tree (option_map node_at x)) (part_layer statement_tree y)
  part_agrees None None a b = refl
  part_agrees None (Some y) a b = sym (λ i. same_part absent (part ((is_some y.node b).1 i)))
  part_agrees (Some x) None a b = sym (λ i. same_part (part ((is_some (f x.node) a).1 i)) absent)
  part_agrees (Some x) (Some y) a b = child x.node y.node a b ∙ parts_agree (statement_tree (f x.node)) (statement_tree y.node) (is_some (f x.node) a) (is_some y.node b)

  abbrev at : Statement-F A → Statement-F Statement
  at x = map-Statement A Statement f x

  -- of a layer that was mapped already
  abbrev AgreeAt : Statement-F Statement → Statement-F Statement → Type 0
  AgreeAt x y = in_layer voids x ≡ 0 → in_layer voids y ≡ 0 → same_layer x y ≡ same_maybe (layer statement_tree x) (layer statement_tree y)

  abbrev Agree : Statement-F A → Statement-F Statement → Type 0
  Agree x y = AgreeAt (at x) y

  abbrev if_at : IfStatementOf A → Option (ElseClauseOf A) → IfStatementOf Statement
  if_at x o = record {
    attributes = x.attributes;
    if_clause = record { expression = x.if_clause.expression; body = block_at x.if_clause.body };
    else_if_clauses = map else_if_at x.else_if_clauses;
    else_clause = option_map else_at o;
  }

  abbrev with_else : IfStatementOf A → Option (ElseClauseOf A) → IfStatementOf A
  with_else x o = record { attributes = x.attributes; if_clause = x.if_clause; else_if_clauses = x.else_if_clauses; else_clause = o }

  if_agrees : (x : IfStatementOf A) (o : Option (ElseClauseOf A)) (y : IfStatementOf Statement) → AgreeAt (Statement-F.If (if_at x o)) (Statement-F.If y)
  if_agrees x o y a b =
      let in_x = in_block voids (block_at x.if_clause.body) in
      let in_y = in_block voids y.if_clause.body in
      let elses_x = in_else_ifs voids (map else_if_at x.else_if_clauses) in
      let elses_y = in_else_ifs voids y.else_if_clauses in
      let last_x = in_else voids (option_map else_at o) in
      let last_y = in_else voids y.else_clause in
      let rest_x = second_none in_x (elses_x + last_x) a in
      let rest_y = second_none in_y (elses_y + last_y) b in
      let body = block_agrees x.if_clause.body y.if_clause.body (first_none in_x (elses_x + last_x) a) (first_none in_y (elses_y + last_y) b) in
      let rest = elses_agree x.else_if_clauses y.else_if_clauses o y.else_clause
      (first_none elses_x last_x rest_x) (first_none elses_y last_y rest_y) (second_none elses_x last_x rest_x) (second_none elses_y last_y rest_y) in
      λ i. attribute_lists_agree x.attributes y.attributes i && ((nodes_agree x.if_clause.expression y.if_clause.expression i && body i) && rest i)

  if_layer_agrees : (x : IfStatementOf A) (o : Option (ElseClauseOf A)) (y : IfStatementOf Statement) → Agree (Statement-F.If (with_else x o)) (Statement-F.If y)
  if_layer_agrees x None y a b = if_agrees x None y a b
  if_layer_agrees x (Some c) y a b = if_agrees x (Some c) y a b

  abbrev loop_at : LoopStatementOf A → Option (ContinuingStatementOf A) → LoopStatementOf Statement
  loop_at x o = record { attributes = x.attributes; body = block_at x.body; continuing = option_map continuing_at o }

  abbrev with_continuing : LoopStatementOf A → Option (ContinuingStatementOf A) → LoopStatementOf A
  with_continuing x o = record { attributes = x.attributes; body = x.body; continuing = o }

  loop_agrees : (x : LoopStatementOf A) (o : Option (ContinuingStatementOf A)) (y : LoopStatementOf Statement)
      → AgreeAt (Statement-F.Loop (loop_at x o)) (Statement-F.Loop y)
  loop_agrees x o y a b =
      let in_x = in_block voids (block_at x.body) in
      let in_y = in_block voids y.body in
      let last_x = in_continuing voids (option_map continuing_at o) in
      let last_y = in_continuing voids y.continuing in
      let body = block_agrees x.body y.body (first_none in_x last_x a) (first_none in_y last_y b) in
      let rest = continuing_agrees o y.continuing (second_none in_x last_x a) (second_none in_y last_y b) in
      λ i. attribute_lists_agree x.attributes y.attributes i && (body i && rest i)

  loop_layer_agrees : (x : LoopStatementOf A) (o : Option (ContinuingStatementOf A)) (y : LoopStatementOf Statement)
      → Agree (Statement-F.Loop (with_continuing x o)) (Statement-F.Loop y)
  loop_layer_agrees x None y a b = loop_agrees x None y a b
  loop_layer_agrees x (Some c) y a b = loop_agrees x (Some c) y a b

  abbrev for_at : ForStatementOf A → Option (Spanned A) → Option (Spanned A) → ForStatementOf Statement
  for_at x o u = record {
    attributes = x.attributes;
    initializer = option_map node_at o;
    condition = x.condition;
    update = option_map node_at u;
    body = block_at x.body;
  }

  abbrev with_parts : ForStatementOf A → Option (Spanned A) → Option (Spanned A) → ForStatementOf A
  with_parts x o u = record { attributes = x.attributes; initializer = o; condition = x.condition; update = u; body = x.body }

  for_agrees : (x : ForStatementOf A) (o u : Option (Spanned A)) (y : ForStatementOf Statement) → AgreeAt (Statement-F.For (for_at x o u)) (Statement-F.For y)
  for_agrees x o u y a b =
      let first_x = in_part voids (option_map node_at o) in
      let first_y = in_part voids y.initializer in
      let update_x = in_part voids (option_map node_at u) in
      let update_y = in_part voids y.update in
      let in_x = in_block voids (block_at x.body) in
      let in_y = in_block voids y.body in
      let rest_x = second_none first_x (update_x + in_x) a in
      let rest_y = second_none first_y (update_y + in_y) b in
      let initializer = part_agrees o y.initializer (first_none first_x (update_x + in_x) a) (first_none first_y (update_y + in_y) b) in
      let update = part_agrees u y.update (first_none update_x in_x rest_x) (first_none update_y in_y rest_y) in
      let body = block_agrees x.body y.body (second_none update_x in_x rest_x) (second_none update_y in_y rest_y) in
      λ i. attribute_lists_agree x.attributes y.attributes i && (initializer i && (maybe_nodes_agree x.condition y.condition i && (update i && body i)))

  for_layer_agrees : (x : ForStatementOf A) (o u : Option (Spanned A)) (y : ForStatementOf Statement) → Agree (Statement-F.For (with_parts x o u)) (Statement-F.For y)
  for_layer_agrees x None None y a b = for_agrees x None None y a b
  for_layer_agrees x None (Some u) y a b = for_agrees x None (Some u) y a b
  for_layer_agrees x (Some o) None y a b = for_agrees x (Some o) None y a b
  for_layer_agrees x (Some o) (Some u) y a b = for_agrees x (Some o) (Some u) y a b

  layers_agree : (x : Statement-F A) (y : Statement-F Statement) → Agree x y
  layers_agree Statement-F.Void y a b = absurd (omega (arith, a))
  layers_agree x Statement-F.Void a b = absurd (omega (arith, b))
  layers_agree (Statement-F.Compound x) (Statement-F.Compound y) a b = block_agrees x y a b
  layers_agree (Statement-F.Assignment x) (Statement-F.Assignment y) a b = assignments_agree x y
  layers_agree (Statement-F.Increment x) (Statement-F.Increment y) a b = increments_agree x y
  layers_agree (Statement-F.Decrement x) (Statement-F.Decrement y) a b = decrements_agree x y
  layers_agree (Statement-F.If x) (Statement-F.If y) a b = if_layer_agrees x x.else_clause y a b
  layers_agree (Statement-F.Switch x) (Statement-F.Switch y) a b = λ i.
      attribute_lists_agree x.attributes y.attributes i && (nodes_agree x.expression y.expression i
      && (attribute_lists_agree x.body_attributes y.body_attributes i && clauses_agree x.clauses y.clauses a b i))
  layers_agree (Statement-F.Loop x) (Statement-F.Loop y) a b = loop_layer_agrees x x.continuing y a b
  layers_agree (Statement-F.For x) (Statement-F.For y) a b = for_layer_agrees x x.initializer x.update y a b
  layers_agree (Statement-F.While x) (Statement-F.While y) a b = λ i.
      attribute_lists_agree x.attributes y.attributes i && (nodes_agree x.condition y.condition i && block_agrees x.body y.body a b i)
  layers_agree (Statement-F.Break x) (Statement-F.Break y) a b = breaks_agree x y
  layers_agree (Statement-F.Continue x) (Statement-F.Continue y) a b = continues_agree x y
  layers_agree (Statement-F.Return x) (Statement-F.Return y) a b = returns_agree x y
  layers_agree (Statement-F.Discard x) (Statement-F.Discard y) a b = discards_agree x y
  layers_agree (Statement-F.FunctionCall x) (Statement-F.FunctionCall y) a b = calls_agree x y
  layers_agree (Statement-F.ConstAssert x) (Statement-F.ConstAssert y) a b = assertions_agree x y
  layers_agree (Statement-F.Declaration x) (Statement-F.Declaration y) a b = values_agree x y
  layers_agree x y a b = refl

-- ---- statements

abbrev Agrees : Statement → Type 0
Agrees a = (b : Statement) → voids a ≡ 0 → voids b ≡ 0 → equal a b ≡ same_maybe (statement_tree a) (statement_tree b)

abbrev Shown : Type 0
Shown = (a : Statement) × Agrees a

abbrev shown : Shown → Statement
shown c = c.0

of_layer : (y : Statement-F Shown) → Agrees (roll-Statement (map-Statement Shown Statement shown y))
of_layer y b none none_b =
    let x = map-Statement Shown Statement shown y in
    let open_x = out-roll-Statement x in
    same_out (roll-Statement x) b
    ∙ ap (λ z. same_layer z (out-Statement b)) open_x
    ∙ layers_agree shown (λ c. c.1) y (out-Statement b) (ap (in_layer voids) (sym open_x) ∙ sym (voids_out (roll-Statement x)) ∙ none) (sym (voids_out b) ∙ none_b)
    ∙ ap (λ z. same_maybe (layer statement_tree z) (layer statement_tree (out-Statement b))) (sym open_x)
    ∙ (λ i. same_maybe (sym (tree_out (roll-Statement x)) i) (sym (tree_out b) i))

agrees : (a : Statement) → Agrees a
agrees = ind-Statement Agrees (λ x y is. subst (λ z. Agrees (roll-Statement z)) is (of_layer y))

maybe_self : (o : Option Stm) → same_maybe o o ≡ true
maybe_self None = refl
maybe_self (Some s) = stm_self s

pub statements_equal : (a b : Statement) → voids a ≡ 0 → voids b ≡ 0 → statement_tree a ≡ statement_tree b → equal a b ≡ true
statements_equal a b none none_b same = agrees a b none none_b ∙ subst (λ o. same_maybe (statement_tree a) o ≡ true) same (maybe_self (statement_tree a))

-- the equality of blocks is the test of their trees, as of statements that are blocks
pub block_agrees_with_test : (x y : CompoundStatementOf Statement) → in_block voids x ≡ 0 → in_block voids y ≡ 0 → same_block x y ≡ same_tree_block (block_tree x) (block_tree y)
block_agrees_with_test x y none none_y =
    sym (same_out (Compound x) (Compound y) ∙ (λ i. same_layer (outs-Compound x i) (outs-Compound y i)))
    ∙ agrees (Compound x) (Compound y) (voids_out (Compound x) ∙ ap (in_layer voids) (outs-Compound x) ∙ none) (voids_out (Compound y) ∙ ap (in_layer voids) (outs-Compound y) ∙ none_y)
    ∙ (λ i. same_maybe (tree_of_compound x i) (tree_of_compound y i))

pub blocks_equal : (x y : CompoundStatementOf Statement) → in_block voids x ≡ 0 → in_block voids y ≡ 0 → block_tree x ≡ block_tree y → same_block x y ≡ true
blocks_equal x y none none_y same = block_agrees_with_test x y none none_y ∙ subst (λ b. same_tree_block (block_tree x) b ≡ true) same (block_self (block_tree x))
