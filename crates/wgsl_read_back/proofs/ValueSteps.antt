-- What each production of declared values, places, statements that hold no other, clauses and selectors makes of what stands in its row, alone, in a row and in lists.
use Rattle.std.proofs.Common.{refl, ℕ, [], ◌∷◌}
use Rattle.wgsl_words.specs.declared.operators.UnaryOperator.TheVariants as u
use Rattle.wgsl_words.specs.declared.enumerations.words.AssignmentOperator.{AssignmentOperator}
use Rattle.wgsl_words.specs.declared.enumerations.words.AssignmentOperator.TheVariants as a
use Rattle.wgsl_token.specs.declared.token.Fixed.TheVariants as f
use Rattle.wgsl_simple_statements.specs.declared.declaration.DeclarationKind.TheVariants as kinds
use Rattle.wgsl_simple_statements.specs.Tree as s
use Rattle.wgsl_statements.specs.declared.statement.Statement.TheVariants as statement
use Rattle.wgsl_print_laws.specs.Simple.{breaks, continues, discards}
use Rattle.wgsl_grammar_tables.specs.Grammars.{token, phrase}
use Rattle.wgsl_semantic_values.specs.declared.label.Label.TheVariants as l
use Rattle.wgsl_semantic_values.specs.declared.label.ExpressionLabel.TheVariants as expression
use Rattle.wgsl_semantic_values.specs.declared.label.ValueLabel.TheVariants as value
use Rattle.wgsl_semantic_values.specs.declared.label.PlainLabel.TheVariants as plainly
use Rattle.wgsl_semantic_values.specs.declared.label.StatementLabel.TheVariants as label
use Rattle.wgsl_semantic_values.specs.declared.label.ClauseLabel.TheVariants as clause
use Rattle.wgsl_grammar_tables.specs.Classes.{fixed_class}
use Rattle.wgsl_read_back.proofs.Rows.{Rebuild}
use Rattle.wgsl_read_back.proofs.Families.{Expressed, Typed}
use Rattle.wgsl_read_back.proofs.Operands.{Named, Called}
use Rattle.wgsl_read_back.proofs.DeclarationKinds.{Kinded}
use Rattle.wgsl_read_back.proofs.Values.{NameTyped, ValueDeclared, Asserted, typed_alone, typed_as, variable_alone, var_set, value_set, const_makes, let_makes, override_makes, override_alone, assertion}
use Rattle.wgsl_read_back.proofs.Plain.{Placed, Phony, PlainStated, Headed, unary_placed, pass_placed, name_placed, parenthesized_placed, component_placed, indexed_placed, phony_alone, word_stated, break_tree_is, continue_tree_is, discard_tree_is, call_stated, assignment_row, assigned, phony_assigned, incremented, decremented, return_alone, return_with, local_stated, assertion_stated, pass_stated, pass_declared, headed}
use Rattle.wgsl_read_back.proofs.Blocks.{Blocked, StatementRead, StatementsRead, Otherwise, ElseIfRead, ElseIfsRead, Selected, SelectorsSeparated, SelectorsListed, Claused, ClausesRead, BrokenIf}
use Rattle.wgsl_read_back.proofs.Lines.{first_statement, more_statements}
use Rattle.wgsl_read_back.proofs.Clauses.{else_block, else_if_read, first_else_if, more_else_ifs, default_selected, expression_selected, first_selector, more_selectors, selectors_without, selectors_with, break_if_read, default_row, bare_default_row, default_with, default_without, case_row, bare_case_row, case_with, case_without, first_clause, more_clauses}
use Rattle.wgsl_read_back.proofs.AttributeRows.{AttributesRowed}
use Rattle.wgsl_read_back.proofs.Statements.{void_statement, plain_row, attributes_plain_row, plain_bare, plain_attributed, compound}
use Rattle.wgsl_read_back.proofs.Steps.{Is, As, Makes, good_end, good_next}

-- values

pub s_typed : (k : ℕ) → Is NameTyped k → Makes k (token 77 ∷ []) (l.Value value.Typed) (2 ∷ [])
s_typed k out rebuild _ _ (good_next _ z0 good_end) = out _ _ (typed_alone k rebuild z0)

pub s_typed_as : (k m : ℕ) → Is NameTyped k → As Typed m → Makes k (token 77 ∷ token (fixed_class f.Colon) ∷ phrase m ∷ []) (l.Value value.TypedAs) (2 ∷ 1 ∷ 2 ∷ [])
s_typed_as k m out q0 rebuild _ _ (good_next _ z0 (good_next _ z1 (good_next _ z2 good_end))) = out _ _ (typed_as k m rebuild z0 z1 (q0 _ _ z2))

pub s_variable : (k m r : ℕ) → Is ValueDeclared k → As Kinded m → As NameTyped r → Makes k (phrase m ∷ phrase r ∷ []) (l.Value value.Var) (2 ∷ 2 ∷ [])
s_variable k m r out q0 q1 rebuild _ _ (good_next _ z0 (good_next _ z1 good_end)) = out _ _ (variable_alone k m r rebuild (q0 _ _ z0) (q1 _ _ z1))

pub s_variable_set : (k m r e : ℕ) → Is ValueDeclared k → As Kinded m → As NameTyped r → As Expressed e → Makes k (phrase m ∷ phrase r ∷ token (fixed_class f.Equal) ∷ phrase e ∷ []) (l.Value value.VarSet) (2 ∷ 2 ∷ 1 ∷ 2 ∷ [])
s_variable_set k m r e out q0 q1 q2 rebuild _ _ (good_next _ z0 (good_next _ z1 (good_next _ z2 (good_next _ z3 good_end)))) = out _ _ (var_set k m r e rebuild (q0 _ _ z0) (q1 _ _ z1) z2 (q2 _ _ z3))

pub s_const : (k r e : ℕ) → Is ValueDeclared k → As NameTyped r → As Expressed e → Makes k (token (fixed_class f.Const) ∷ phrase r ∷ token (fixed_class f.Equal) ∷ phrase e ∷ []) (l.Value value.Const) (1 ∷ 2 ∷ 1 ∷ 2 ∷ [])
s_const k r e out q0 q1 rebuild _ _ (good_next _ z0 (good_next _ z1 (good_next _ z2 (good_next _ z3 good_end)))) = out _ _ (value_set f.Const kinds.Const value.Const refl const_makes (λ b o. refl) k r e rebuild z0 (q0 _ _ z1) z2 (q1 _ _ z3))

pub s_let : (k r e : ℕ) → Is ValueDeclared k → As NameTyped r → As Expressed e → Makes k (token (fixed_class f.Let) ∷ phrase r ∷ token (fixed_class f.Equal) ∷ phrase e ∷ []) (l.Value value.Let) (1 ∷ 2 ∷ 1 ∷ 2 ∷ [])
s_let k r e out q0 q1 rebuild _ _ (good_next _ z0 (good_next _ z1 (good_next _ z2 (good_next _ z3 good_end)))) = out _ _ (value_set f.Let kinds.Let value.Let refl let_makes (λ b o. refl) k r e rebuild z0 (q0 _ _ z1) z2 (q1 _ _ z3))

pub s_override_set : (k r e : ℕ) → Is ValueDeclared k → As NameTyped r → As Expressed e → Makes k (token (fixed_class f.Override) ∷ phrase r ∷ token (fixed_class f.Equal) ∷ phrase e ∷ []) (l.Value value.OverrideSet) (1 ∷ 2 ∷ 1 ∷ 2 ∷ [])
s_override_set k r e out q0 q1 rebuild _ _ (good_next _ z0 (good_next _ z1 (good_next _ z2 (good_next _ z3 good_end)))) = out _ _ (value_set f.Override kinds.Override value.OverrideSet refl override_makes (λ b o. refl) k r e rebuild z0 (q0 _ _ z1) z2 (q1 _ _ z3))

pub s_override : (k r : ℕ) → Is ValueDeclared k → As NameTyped r → Makes k (token (fixed_class f.Override) ∷ phrase r ∷ []) (l.Value value.Override) (1 ∷ 2 ∷ [])
s_override k r out q0 rebuild _ _ (good_next _ z0 (good_next _ z1 good_end)) = out _ _ (override_alone k r rebuild z0 (q0 _ _ z1))

pub s_pass_declared : (k m : ℕ) → Is ValueDeclared k → As ValueDeclared m → Makes k (phrase m ∷ []) (l.Pass) (2 ∷ [])
s_pass_declared k m out q0 rebuild _ _ (good_next _ z0 good_end) = out _ _ (pass_declared k m rebuild (q0 _ _ z0))

pub s_assertion : (k m : ℕ) → Is Asserted k → As Expressed m → Makes k (token (fixed_class f.ConstAssert) ∷ phrase m ∷ []) (l.Value value.Assertion) (1 ∷ 2 ∷ [])
s_assertion k m out q0 rebuild _ _ (good_next _ z0 (good_next _ z1 good_end)) = out _ _ (assertion k m rebuild z0 (q0 _ _ z1))

-- places

pub s_place_behind : (k m : ℕ) → Is Placed k → As Placed m → Makes k (token (fixed_class f.Star) ∷ phrase m ∷ []) (l.Expression (expression.Unary u.Indirection)) (1 ∷ 2 ∷ [])
s_place_behind k m out q0 rebuild _ _ (good_next _ z0 (good_next _ z1 good_end)) = out _ _ (unary_placed u.Indirection k m rebuild z0 (q0 _ _ z1))

pub s_place_of : (k m : ℕ) → Is Placed k → As Placed m → Makes k (token (fixed_class f.And) ∷ phrase m ∷ []) (l.Expression (expression.Unary u.AddressOf)) (1 ∷ 2 ∷ [])
s_place_of k m out q0 rebuild _ _ (good_next _ z0 (good_next _ z1 good_end)) = out _ _ (unary_placed u.AddressOf k m rebuild z0 (q0 _ _ z1))

pub s_pass_placed : (k m : ℕ) → Is Placed k → As Placed m → Makes k (phrase m ∷ []) (l.Pass) (2 ∷ [])
s_pass_placed k m out q0 rebuild _ _ (good_next _ z0 good_end) = out _ _ (pass_placed k m rebuild (q0 _ _ z0))

pub s_place_name : (k m : ℕ) → Is Placed k → As Named m → Makes k (phrase m ∷ []) (l.Expression expression.PlaceName) (2 ∷ [])
s_place_name k m out q0 rebuild _ _ (good_next _ z0 good_end) = out _ _ (name_placed k m rebuild (q0 _ _ z0))

pub s_place_parenthesized : (k m : ℕ) → Is Placed k → As Placed m → Makes k (token (fixed_class f.ParenLeft) ∷ phrase m ∷ token (fixed_class f.ParenRight) ∷ []) (l.Expression expression.Parenthesized) (1 ∷ 2 ∷ 1 ∷ [])
s_place_parenthesized k m out q0 rebuild _ _ (good_next _ z0 (good_next _ z1 (good_next _ z2 good_end))) = out _ _ (parenthesized_placed k m rebuild z0 (q0 _ _ z1) z2)

pub s_place_component : (k m : ℕ) → Is Placed k → As Placed m → Makes k (phrase m ∷ token (fixed_class f.Period) ∷ token 77 ∷ []) (l.Expression expression.Component) (2 ∷ 1 ∷ 2 ∷ [])
s_place_component k m out q0 rebuild _ _ (good_next _ z0 (good_next _ z1 (good_next _ z2 good_end))) = out _ _ (component_placed k m rebuild (q0 _ _ z0) z1 z2)

pub s_place_indexed : (k m r : ℕ) → Is Placed k → As Placed m → As Expressed r → Makes k (phrase m ∷ token (fixed_class f.BracketLeft) ∷ phrase r ∷ token (fixed_class f.BracketRight) ∷ []) (l.Expression expression.Indexed) (2 ∷ 1 ∷ 2 ∷ 1 ∷ [])
s_place_indexed k m r out q0 q1 rebuild _ _ (good_next _ z0 (good_next _ z1 (good_next _ z2 (good_next _ z3 good_end)))) = out _ _ (indexed_placed k m r rebuild (q0 _ _ z0) z1 (q1 _ _ z2) z3)

pub s_phony : (k : ℕ) → Is Phony k → Makes k (token (fixed_class f.Underscore) ∷ []) (l.Expression expression.Underscore) (1 ∷ [])
s_phony k out rebuild _ _ (good_next _ z0 good_end) = out _ _ (phony_alone k rebuild z0)

-- statements that hold no other

pub s_call_stated : (k m : ℕ) → Is PlainStated k → As Called m → Makes k (phrase m ∷ []) (l.Plain plainly.CalledStatement) (2 ∷ [])
s_call_stated k m out q0 rebuild _ _ (good_next _ z0 good_end) = out _ _ (call_stated k m rebuild (q0 _ _ z0))

pub s_assigned : (o : AssignmentOperator) (k m r : ℕ) → Is PlainStated k → As Placed m → As Expressed r → Makes k (assignment_row o m r) (l.Plain (plainly.Assignment o)) (2 ∷ 1 ∷ 2 ∷ [])
s_assigned o k m r out q0 q1 rebuild _ _ (good_next _ z0 (good_next _ z1 (good_next _ z2 good_end))) = out _ _ (assigned o k m r rebuild (q0 _ _ z0) z1 (q1 _ _ z2))

pub s_phony_assigned : (k m r : ℕ) → Is PlainStated k → As Phony m → As Expressed r → Makes k (assignment_row a.Equal m r) (l.Plain (plainly.Assignment a.Equal)) (2 ∷ 1 ∷ 2 ∷ [])
s_phony_assigned k m r out q0 q1 rebuild _ _ (good_next _ z0 (good_next _ z1 (good_next _ z2 good_end))) = out _ _ (phony_assigned k m r rebuild (q0 _ _ z0) z1 (q1 _ _ z2))

pub s_incremented : (k m : ℕ) → Is PlainStated k → As Placed m → Makes k (phrase m ∷ token (fixed_class f.PlusPlus) ∷ []) (l.Plain plainly.Increment) (2 ∷ 1 ∷ [])
s_incremented k m out q0 rebuild _ _ (good_next _ z0 (good_next _ z1 good_end)) = out _ _ (incremented k m rebuild (q0 _ _ z0) z1)

pub s_decremented : (k m : ℕ) → Is PlainStated k → As Placed m → Makes k (phrase m ∷ token (fixed_class f.MinusMinus) ∷ []) (l.Plain plainly.Decrement) (2 ∷ 1 ∷ [])
s_decremented k m out q0 rebuild _ _ (good_next _ z0 (good_next _ z1 good_end)) = out _ _ (decremented k m rebuild (q0 _ _ z0) z1)

pub s_break : (k : ℕ) → Is PlainStated k → Makes k (token (fixed_class f.Break) ∷ []) (l.Plain plainly.Break) (1 ∷ [])
s_break k out rebuild _ _ (good_next _ z0 good_end) = out _ _ (word_stated f.Break plainly.Break (statement.Break (record { attributes = [] })) (s.breaking []) breaks refl break_tree_is (λ b o. refl) k rebuild z0)

pub s_continue : (k : ℕ) → Is PlainStated k → Makes k (token (fixed_class f.Continue) ∷ []) (l.Plain plainly.Continue) (1 ∷ [])
s_continue k out rebuild _ _ (good_next _ z0 good_end) = out _ _ (word_stated f.Continue plainly.Continue (statement.Continue (record { attributes = [] })) (s.continuing []) continues refl continue_tree_is (λ b o. refl) k rebuild z0)

pub s_discard : (k : ℕ) → Is PlainStated k → Makes k (token (fixed_class f.Discard) ∷ []) (l.Plain plainly.Discard) (1 ∷ [])
s_discard k out rebuild _ _ (good_next _ z0 good_end) = out _ _ (word_stated f.Discard plainly.Discard (statement.Discard (record { attributes = [] })) (s.discarding []) discards refl discard_tree_is (λ b o. refl) k rebuild z0)

pub s_return : (k : ℕ) → Is PlainStated k → Makes k (token (fixed_class f.Return) ∷ []) (l.Plain plainly.Return) (1 ∷ 0 ∷ [])
s_return k out rebuild _ _ (good_next _ z0 good_end) = out _ _ (return_alone k rebuild z0)

pub s_return_with : (k m : ℕ) → Is PlainStated k → As Expressed m → Makes k (token (fixed_class f.Return) ∷ phrase m ∷ []) (l.Plain plainly.Return) (1 ∷ 2 ∷ [])
s_return_with k m out q0 rebuild _ _ (good_next _ z0 (good_next _ z1 good_end)) = out _ _ (return_with k m rebuild z0 (q0 _ _ z1))

pub s_local : (k m : ℕ) → Is PlainStated k → As ValueDeclared m → Makes k (phrase m ∷ []) (l.Plain plainly.Local) (2 ∷ [])
s_local k m out q0 rebuild _ _ (good_next _ z0 good_end) = out _ _ (local_stated k m rebuild (q0 _ _ z0))

pub s_pass_stated : (k m : ℕ) → Is PlainStated k → As PlainStated m → Makes k (phrase m ∷ []) (l.Pass) (2 ∷ [])
s_pass_stated k m out q0 rebuild _ _ (good_next _ z0 good_end) = out _ _ (pass_stated k m rebuild (q0 _ _ z0))

pub s_asserted : (k m : ℕ) → Is PlainStated k → As Asserted m → Makes k (phrase m ∷ []) (l.Plain plainly.Asserted) (2 ∷ [])
s_asserted k m out q0 rebuild _ _ (good_next _ z0 good_end) = out _ _ (assertion_stated k m rebuild (q0 _ _ z0))

pub s_headed : (k m : ℕ) → Is Headed k → As PlainStated m → Makes k (phrase m ∷ []) (l.Statement label.Header) (2 ∷ [])
s_headed k m out q0 rebuild _ _ (good_next _ z0 good_end) = out _ _ (headed k m rebuild (q0 _ _ z0))

-- statements

pub s_void_statement : (k : ℕ) → Is StatementRead k → Makes k (token (fixed_class f.Semicolon) ∷ []) (l.Statement label.VoidStatement) (1 ∷ [])
s_void_statement k out rebuild _ _ (good_next _ z0 good_end) = out _ _ (void_statement k rebuild z0)

pub s_plain_bare : (k m : ℕ) → Is StatementRead k → As PlainStated m → Makes k (plain_row m) (l.Statement label.PlainStatement) (0 ∷ 2 ∷ 1 ∷ [])
s_plain_bare k m out q0 rebuild _ _ (good_next _ z0 (good_next _ z1 good_end)) = out _ _ (plain_bare k m rebuild (q0 _ _ z0) z1)

pub s_plain_attributed : (k r m : ℕ) → Is StatementRead k → As AttributesRowed r → As PlainStated m → Makes k (attributes_plain_row r m) (l.Statement label.PlainStatement) (2 ∷ 2 ∷ 1 ∷ [])
s_plain_attributed k r m out q0 q1 rebuild _ _ (good_next _ z0 (good_next _ z1 (good_next _ z2 good_end))) = out _ _ (plain_attributed k r m rebuild (q0 _ _ z0) (q1 _ _ z1) z2)

pub s_compound : (k m : ℕ) → Is StatementRead k → As Blocked m → Makes k (phrase m ∷ []) (l.Statement label.Compound) (2 ∷ [])
s_compound k m out q0 rebuild _ _ (good_next _ z0 good_end) = out _ _ (compound k m rebuild (q0 _ _ z0))

pub s_else_if : (k m r : ℕ) → Is ElseIfRead k → As Expressed m → As Blocked r → Makes k (token (fixed_class f.Else) ∷ token (fixed_class f.If) ∷ phrase m ∷ phrase r ∷ []) (l.Clause clause.ElseIf) (1 ∷ 1 ∷ 2 ∷ 2 ∷ [])
s_else_if k m r out q0 q1 rebuild _ _ (good_next _ z0 (good_next _ z1 (good_next _ z2 (good_next _ z3 good_end)))) = out _ _ (else_if_read k m r rebuild z0 z1 (q0 _ _ z2) (q1 _ _ z3))

pub s_else : (k m : ℕ) → Is Otherwise k → As Blocked m → Makes k (token (fixed_class f.Else) ∷ phrase m ∷ []) (l.Pass) (1 ∷ 2 ∷ [])
s_else k m out q0 rebuild _ _ (good_next _ z0 (good_next _ z1 good_end)) = out _ _ (else_block k m rebuild z0 (q0 _ _ z1))

-- clauses

pub s_default_selector : (k : ℕ) → Is Selected k → Makes k (token (fixed_class f.Default) ∷ []) (l.Clause clause.DefaultSelector) (1 ∷ [])
s_default_selector k out rebuild _ _ (good_next _ z0 good_end) = out _ _ (default_selected k rebuild z0)

pub s_selector : (k m : ℕ) → Is Selected k → As Expressed m → Makes k (phrase m ∷ []) (l.Clause clause.Selector) (2 ∷ [])
s_selector k m out q0 rebuild _ _ (good_next _ z0 good_end) = out _ _ (expression_selected k m rebuild (q0 _ _ z0))

pub s_case : (k m r : ℕ) → Is Claused k → As SelectorsListed r → As Blocked m → Rebuild k (default_row m) (l.Clause clause.Default) (1 ∷ 1 ∷ 2 ∷ []) → Rebuild k (case_row m r) (l.Clause clause.Case) (1 ∷ 2 ∷ 1 ∷ 2 ∷ []) → Makes k (bare_case_row m r) (l.Clause clause.Case) (1 ∷ 2 ∷ 2 ∷ [])
s_case k m r out q0 q1 alone cased rebuild _ _ (good_next _ z0 (good_next _ z1 (good_next _ z2 good_end))) = out _ _ (case_without k m alone r cased rebuild z0 (q0 _ _ z1) (q1 _ _ z2))

pub s_case_colon : (k m r : ℕ) → Is Claused k → As SelectorsListed r → As Blocked m → Rebuild k (default_row m) (l.Clause clause.Default) (1 ∷ 1 ∷ 2 ∷ []) → Makes k (case_row m r) (l.Clause clause.Case) (1 ∷ 2 ∷ 1 ∷ 2 ∷ [])
s_case_colon k m r out q0 q1 alone rebuild _ _ (good_next _ z0 (good_next _ z1 (good_next _ z2 (good_next _ z3 good_end)))) = out _ _ (case_with k m alone r rebuild z0 (q0 _ _ z1) z2 (q1 _ _ z3))

pub s_default : (k m : ℕ) → Is Claused k → As Blocked m → Rebuild k (default_row m) (l.Clause clause.Default) (1 ∷ 1 ∷ 2 ∷ []) → Makes k (bare_default_row m) (l.Clause clause.Default) (1 ∷ 2 ∷ [])
s_default k m out q0 alone rebuild _ _ (good_next _ z0 (good_next _ z1 good_end)) = out _ _ (default_without k m alone rebuild z0 (q0 _ _ z1))

pub s_default_colon : (k m : ℕ) → Is Claused k → As Blocked m → Makes k (default_row m) (l.Clause clause.Default) (1 ∷ 1 ∷ 2 ∷ [])
s_default_colon k m out q0 rebuild _ _ (good_next _ z0 (good_next _ z1 (good_next _ z2 good_end))) = out _ _ (default_with k m rebuild z0 z1 (q0 _ _ z2))

pub s_break_if : (k m : ℕ) → Is BrokenIf k → As Expressed m → Makes k (token (fixed_class f.Break) ∷ token (fixed_class f.If) ∷ phrase m ∷ token (fixed_class f.Semicolon) ∷ []) (l.Clause clause.BreakIf) (1 ∷ 1 ∷ 2 ∷ 1 ∷ [])
s_break_if k m out q0 rebuild _ _ (good_next _ z0 (good_next _ z1 (good_next _ z2 (good_next _ z3 good_end)))) = out _ _ (break_if_read k m rebuild z0 z1 (q0 _ _ z2) z3)

-- in a row, and in lists

pub s_first_else_if : (k m : ℕ) → Is ElseIfsRead k → As ElseIfRead m → Makes k (phrase m ∷ []) (l.First) (2 ∷ [])
s_first_else_if k m out q0 rebuild _ _ (good_next _ z0 good_end) = out _ _ (first_else_if k m rebuild (q0 _ _ z0))

pub s_more_else_if : (k m : ℕ) → Is ElseIfsRead k → As ElseIfsRead k → As ElseIfRead m → Makes k (phrase k ∷ phrase m ∷ []) l.More (2 ∷ 2 ∷ [])
s_more_else_if k m out q0 q1 rebuild _ _ (good_next _ z0 (good_next _ z1 good_end)) = out _ _ (more_else_ifs k m rebuild (q0 _ _ z0) (q1 _ _ z1))

pub s_first_clause : (k m : ℕ) → Is ClausesRead k → As Claused m → Makes k (phrase m ∷ []) (l.First) (2 ∷ [])
s_first_clause k m out q0 rebuild _ _ (good_next _ z0 good_end) = out _ _ (first_clause k m rebuild (q0 _ _ z0))

pub s_more_clause : (k m : ℕ) → Is ClausesRead k → As ClausesRead k → As Claused m → Makes k (phrase k ∷ phrase m ∷ []) l.More (2 ∷ 2 ∷ [])
s_more_clause k m out q0 q1 rebuild _ _ (good_next _ z0 (good_next _ z1 good_end)) = out _ _ (more_clauses k m rebuild (q0 _ _ z0) (q1 _ _ z1))

pub s_first_statement : (k m : ℕ) → Is StatementsRead k → As StatementRead m → Makes k (phrase m ∷ []) (l.First) (2 ∷ [])
s_first_statement k m out q0 rebuild _ _ (good_next _ z0 good_end) = out _ _ (first_statement k m rebuild (q0 _ _ z0))

pub s_more_statements : (k m : ℕ) → Is StatementsRead k → As StatementsRead k → As StatementRead m → Rebuild k (phrase m ∷ []) l.First (2 ∷ []) → Makes k (phrase k ∷ phrase m ∷ []) l.More (2 ∷ 2 ∷ [])
s_more_statements k m out q0 q1 first rebuild _ _ (good_next _ z0 (good_next _ z1 good_end)) = out _ _ (more_statements k m first rebuild (q0 _ _ z0) (q1 _ _ z1))

pub s_first_selector : (k m : ℕ) → Is SelectorsSeparated k → As Selected m → Makes k (phrase m ∷ []) (l.First) (2 ∷ [])
s_first_selector k m out q0 rebuild _ _ (good_next _ z0 good_end) = out _ _ (first_selector k m rebuild (q0 _ _ z0))

pub s_more_selectors : (k m : ℕ) → Is SelectorsSeparated k → As SelectorsSeparated k → As Selected m → Makes k (phrase k ∷ token (fixed_class f.Comma) ∷ phrase m ∷ []) l.More (2 ∷ 1 ∷ 2 ∷ [])
s_more_selectors k m out q0 q1 rebuild _ _ (good_next _ z0 (good_next _ z1 (good_next _ z2 good_end))) = out _ _ (more_selectors k m rebuild (q0 _ _ z0) z1 (q1 _ _ z2))

pub s_selectors_without : (k m : ℕ) → Is SelectorsListed k → As SelectorsSeparated m → Makes k (phrase m ∷ []) (l.Pass) (2 ∷ [])
s_selectors_without k m out q0 rebuild _ _ (good_next _ z0 good_end) = out _ _ (selectors_without k m rebuild (q0 _ _ z0))

pub s_selectors_with : (k m : ℕ) → Is SelectorsListed k → As SelectorsSeparated m → Rebuild k (phrase m ∷ []) l.Pass (2 ∷ []) → Makes k (phrase m ∷ token (fixed_class f.Comma) ∷ []) l.Pass (2 ∷ 1 ∷ [])
s_selectors_with k m out q0 bare rebuild _ _ (good_next _ z0 (good_next _ z1 good_end)) = out _ _ (selectors_with k m rebuild bare (q0 _ _ z0) z1)
