use Rattle.wgsl_simple_statements.specs.View.{assignment_tree, increment_tree, decrement_tree, break_tree, continue_tree, return_tree, discard_tree, call_tree, assertion_tree, value_tree}
use Rattle.wgsl_empty_items.proofs.SimpleStatements.{by_simple, assignments_agree, increments_agree, decrements_agree, breaks_agree, continues_agree, returns_agree, discards_agree, calls_agree, assertions_agree, values_agree, break_ifs_decide, selectors_decide}
use Rattle.wgsl_empty_items.proofs.equality.statement_laws.simple_statements_are_equal_where_their_trees_are.Goals as goal

pub returns-clause-assignment : goal.returns-clause-assignment
returns-clause-assignment c = λ a b. by_simple _ (assignment_tree a) (assignment_tree b) (assignments_agree a b)

pub returns-clause-increment : goal.returns-clause-increment
returns-clause-increment c = λ a b. by_simple _ (increment_tree a) (increment_tree b) (increments_agree a b)

pub returns-clause-decrement : goal.returns-clause-decrement
returns-clause-decrement c = λ a b. by_simple _ (decrement_tree a) (decrement_tree b) (decrements_agree a b)

pub returns-clause-breaks : goal.returns-clause-breaks
returns-clause-breaks c = λ a b. by_simple _ (break_tree a) (break_tree b) (breaks_agree a b)

pub returns-clause-continues : goal.returns-clause-continues
returns-clause-continues c = λ a b. by_simple _ (continue_tree a) (continue_tree b) (continues_agree a b)

pub returns-clause-returned : goal.returns-clause-returned
returns-clause-returned c = λ a b. by_simple _ (return_tree a) (return_tree b) (returns_agree a b)

pub returns-clause-discard : goal.returns-clause-discard
returns-clause-discard c = λ a b. by_simple _ (discard_tree a) (discard_tree b) (discards_agree a b)

pub returns-clause-call : goal.returns-clause-call
returns-clause-call c = λ a b. by_simple _ (call_tree a) (call_tree b) (calls_agree a b)

pub returns-clause-assertion : goal.returns-clause-assertion
returns-clause-assertion c = λ a b. by_simple _ (assertion_tree a) (assertion_tree b) (assertions_agree a b)

pub returns-clause-value : goal.returns-clause-value
returns-clause-value c = λ a b. by_simple _ (value_tree a) (value_tree b) (values_agree a b)

pub returns-clause-break_if : goal.returns-clause-break_if
returns-clause-break_if c = break_ifs_decide

pub returns-clause-selector : goal.returns-clause-selector
returns-clause-selector c = selectors_decide
