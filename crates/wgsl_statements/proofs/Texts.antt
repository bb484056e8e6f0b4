-- The text of each kind of statement, and texts from their pieces.
use Rattle.std.proofs.Common.{◌≡◌, refl, sym, ap, ◌∙◌, ℕ, ◌+◌, ◌==◌, Bool, true, false, not, ◌||◌, List, [], ◌∷◌, ◌++◌, append_assoc, map, length, Option, Some, None, is_some, codes, arith}
use Rattle.std.proofs.lemmas.Bool.{ne_eqb}
use Rattle.std.specs.List.{flat_map, list_any}
use Rattle.std.specs.Option.{option_map}
use Rattle.wgsl_simple_statements.specs.Spanned.{Spanned}
use Rattle.wgsl_simple_statements.specs.declared.declaration.Declaration.{Declaration}
use Rattle.wgsl_simple_statements.specs.declared.declaration.ConstAssert.{ConstAssert}
use Rattle.wgsl_simple_statements.specs.declared.statement.AssignmentStatement.{AssignmentStatement}
use Rattle.wgsl_simple_statements.specs.declared.statement.IncrementStatement.{IncrementStatement}
use Rattle.wgsl_simple_statements.specs.declared.statement.DecrementStatement.{DecrementStatement}
use Rattle.wgsl_simple_statements.specs.declared.statement.BreakStatement.{BreakStatement}
use Rattle.wgsl_simple_statements.specs.declared.statement.ContinueStatement.{ContinueStatement}
use Rattle.wgsl_simple_statements.specs.declared.statement.ReturnStatement.{ReturnStatement}
use Rattle.wgsl_simple_statements.specs.declared.statement.DiscardStatement.{DiscardStatement}
use Rattle.wgsl_simple_statements.specs.declared.statement.FunctionCallStatement.{FunctionCallStatement}
use Rattle.wgsl_statements.specs.declared.statement.CompoundStatementOf.{CompoundStatementOf}
use Rattle.wgsl_statements.specs.declared.statement.IfStatementOf.{IfStatementOf}
use Rattle.wgsl_statements.specs.declared.statement.ElseIfClauseOf.{ElseIfClauseOf}
use Rattle.wgsl_statements.specs.declared.statement.ElseClauseOf.{ElseClauseOf}
use Rattle.wgsl_statements.specs.declared.statement.SwitchStatementOf.{SwitchStatementOf}
use Rattle.wgsl_statements.specs.declared.statement.SwitchClauseOf.{SwitchClauseOf}
use Rattle.wgsl_statements.specs.declared.statement.LoopStatementOf.{LoopStatementOf}
use Rattle.wgsl_statements.specs.declared.statement.ContinuingStatementOf.{ContinuingStatementOf}
use Rattle.wgsl_statements.specs.declared.statement.ForStatementOf.{ForStatementOf}
use Rattle.wgsl_statements.specs.declared.statement.WhileStatementOf.{WhileStatementOf}
use Rattle.wgsl_simple_statements.specs.ExpressionsView.{node_tree}
use Rattle.wgsl_simple_statements.specs.ExpressionsPrint.{indent}
use Rattle.wgsl_simple_statements.specs.AttributesView.{attributes_tree}
use Rattle.wgsl_simple_statements.specs.AttributesPrint.{attrs_text}
use Rattle.wgsl_simple_statements.specs.declared.statement.BreakIfStatement.{BreakIfStatement}
use Rattle.wgsl_simple_statements.specs.View.{assignment_tree, increment_tree, decrement_tree, break_tree, continue_tree, return_tree, discard_tree, call_tree, assertion_tree, value_tree, break_if_tree, selector_tree}
use Rattle.wgsl_simple_statements.specs.Print.{simple_text, break_if_text, case_head}
use Rattle.wgsl_statements.specs.declared.statement.Statement.{Statement}
use Rattle.wgsl_statements.specs.declared.statement.Statement.TheVariants.{Void, Compound, Assignment, Increment, Decrement, If, Switch, Loop, For, While, Break, Continue, Return, Discard, FunctionCall, ConstAssert as Assert, Declaration as Value}
use Rattle.wgsl_statements.specs.Tree.{Stm, simple, compound_statement, if_statement, switch_statement, loop_statement, for_statement, while_statement}
use Rattle.wgsl_statements.specs.View.{stms, part, part_layer, nodes_layer, else_layer, elses_layer, if_layer, clauses_layer, switch_layer, continuing_layer, loop_layer, for_layer, while_layer, statement_tree, statements_tree, block_tree}
use Rattle.wgsl_statements.specs.Print.{braced, opening, closing, head_text, condition_text, header_text, break_line, end_text, behind_text, bare_text, stms_text, block_text, extended_text, elses_text, clauses_text, continuing_text, part_text, lines_text}
use Rattle.wgsl_statements.proofs.Trees.{tree_of_void, tree_of_compound, tree_of_assignment, tree_of_increment, tree_of_decrement, tree_of_if, tree_of_switch, tree_of_loop, tree_of_for, tree_of_while, tree_of_break, tree_of_continue, tree_of_return, tree_of_discard, tree_of_call, tree_of_assertion, tree_of_value}

pub text_of_void : (level : ℕ) → part_text level (part (statement_tree Void)) ≡ []
text_of_void level = ap (λ t. part_text level (part t)) tree_of_void

pub text_of_compound : (level : ℕ) (x : CompoundStatementOf Statement) → part_text level (part (statement_tree (Compound x))) ≡ block_text level (block_tree x)
text_of_compound level x = ap (λ t. part_text level (part t)) (tree_of_compound x)

pub text_of_assignment : (level : ℕ) (x : AssignmentStatement) → part_text level (part (statement_tree (Assignment x))) ≡ simple_text (assignment_tree x)
text_of_assignment level x = ap (λ t. part_text level (part t)) (tree_of_assignment x)

pub text_of_increment : (level : ℕ) (x : IncrementStatement) → part_text level (part (statement_tree (Increment x))) ≡ simple_text (increment_tree x)
text_of_increment level x = ap (λ t. part_text level (part t)) (tree_of_increment x)

pub text_of_decrement : (level : ℕ) (x : DecrementStatement) → part_text level (part (statement_tree (Decrement x))) ≡ simple_text (decrement_tree x)
text_of_decrement level x = ap (λ t. part_text level (part t)) (tree_of_decrement x)

pub text_of_if : (level : ℕ) (x : IfStatementOf Statement) → part_text level (part (statement_tree (If x))) ≡ bare_text level (if_layer statement_tree x)
text_of_if level x = ap (λ t. part_text level (part t)) (tree_of_if x)

pub text_of_switch : (level : ℕ) (x : SwitchStatementOf Statement) → part_text level (part (statement_tree (Switch x))) ≡ bare_text level (switch_layer statement_tree x)
text_of_switch level x = ap (λ t. part_text level (part t)) (tree_of_switch x)

pub text_of_loop : (level : ℕ) (x : LoopStatementOf Statement) → part_text level (part (statement_tree (Loop x))) ≡ bare_text level (loop_layer statement_tree x)
text_of_loop level x = ap (λ t. part_text level (part t)) (tree_of_loop x)

pub text_of_for : (level : ℕ) (x : ForStatementOf Statement) → part_text level (part (statement_tree (For x))) ≡ bare_text level (for_layer statement_tree x)
text_of_for level x = ap (λ t. part_text level (part t)) (tree_of_for x)

pub text_of_while : (level : ℕ) (x : WhileStatementOf Statement) → part_text level (part (statement_tree (While x))) ≡ bare_text level (while_layer statement_tree x)
text_of_while level x = ap (λ t. part_text level (part t)) (tree_of_while x)

pub text_of_break : (level : ℕ) (x : BreakStatement) → part_text level (part (statement_tree (Break x))) ≡ simple_text (break_tree x)
text_of_break level x = ap (λ t. part_text level (part t)) (tree_of_break x)

pub text_of_continue : (level : ℕ) (x : ContinueStatement) → part_text level (part (statement_tree (Continue x))) ≡ simple_text (continue_tree x)
text_of_continue level x = ap (λ t. part_text level (part t)) (tree_of_continue x)

pub text_of_return : (level : ℕ) (x : ReturnStatement) → part_text level (part (statement_tree (Return x))) ≡ simple_text (return_tree x)
text_of_return level x = ap (λ t. part_text level (part t)) (tree_of_return x)

pub text_of_discard : (level : ℕ) (x : DiscardStatement) → part_text level (part (statement_tree (Discard x))) ≡ simple_text (discard_tree x)
text_of_discard level x = ap (λ t. part_text level (part t)) (tree_of_discard x)

pub text_of_call : (level : ℕ) (x : FunctionCallStatement) → part_text level (part (statement_tree (FunctionCall x))) ≡ simple_text (call_tree x)
text_of_call level x = ap (λ t. part_text level (part t)) (tree_of_call x)

pub text_of_assertion : (level : ℕ) (x : ConstAssert) → part_text level (part (statement_tree (Assert x))) ≡ simple_text (assertion_tree x)
text_of_assertion level x = ap (λ t. part_text level (part t)) (tree_of_assertion x)

pub text_of_value : (level : ℕ) (x : Declaration) → part_text level (part (statement_tree (Value x))) ≡ simple_text (value_tree x)
text_of_value level x = ap (λ t. part_text level (part t)) (tree_of_value x)

pub behind_void : behind_text (statement_tree Void) ≡ []
behind_void = ap behind_text tree_of_void

pub behind_compound : (x : CompoundStatementOf Statement) → behind_text (statement_tree (Compound x)) ≡ codes "\n"
behind_compound x = ap behind_text (tree_of_compound x)

pub behind_assignment : (x : AssignmentStatement) → behind_text (statement_tree (Assignment x)) ≡ codes ";\n"
behind_assignment x = ap behind_text (tree_of_assignment x)

pub behind_increment : (x : IncrementStatement) → behind_text (statement_tree (Increment x)) ≡ codes ";\n"
behind_increment x = ap behind_text (tree_of_increment x)

pub behind_decrement : (x : DecrementStatement) → behind_text (statement_tree (Decrement x)) ≡ codes ";\n"
behind_decrement x = ap behind_text (tree_of_decrement x)

pub behind_if : (x : IfStatementOf Statement) → behind_text (statement_tree (If x)) ≡ codes "\n"
behind_if x = ap behind_text (tree_of_if x)

pub behind_switch : (x : SwitchStatementOf Statement) → behind_text (statement_tree (Switch x)) ≡ codes "\n"
behind_switch x = ap behind_text (tree_of_switch x)

pub behind_loop : (x : LoopStatementOf Statement) → behind_text (statement_tree (Loop x)) ≡ codes "\n"
behind_loop x = ap behind_text (tree_of_loop x)

pub behind_for : (x : ForStatementOf Statement) → behind_text (statement_tree (For x)) ≡ codes "\n"
behind_for x = ap behind_text (tree_of_for x)

pub behind_while : (x : WhileStatementOf Statement) → behind_text (statement_tree (While x)) ≡ codes "\n"
behind_while x = ap behind_text (tree_of_while x)

pub behind_break : (x : BreakStatement) → behind_text (statement_tree (Break x)) ≡ codes ";\n"
behind_break x = ap behind_text (tree_of_break x)

pub behind_continue : (x : ContinueStatement) → behind_text (statement_tree (Continue x)) ≡ codes ";\n"
behind_continue x = ap behind_text (tree_of_continue x)

pub behind_return : (x : ReturnStatement) → behind_text (statement_tree (Return x)) ≡ codes ";\n"
behind_return x = ap behind_text (tree_of_return x)

pub behind_discard : (x : DiscardStatement) → behind_text (statement_tree (Discard x)) ≡ codes ";\n"
behind_discard x = ap behind_text (tree_of_discard x)

pub behind_call : (x : FunctionCallStatement) → behind_text (statement_tree (FunctionCall x)) ≡ codes ";\n"
behind_call x = ap behind_text (tree_of_call x)

pub behind_assertion : (x : ConstAssert) → behind_text (statement_tree (Assert x)) ≡ codes ";\n"
behind_assertion x = ap behind_text (tree_of_assertion x)

pub behind_value : (x : Declaration) → behind_text (statement_tree (Value x)) ≡ codes ";\n"
behind_value x = ap behind_text (tree_of_value x)

pub lines_some : (level : ℕ) (t : Option Stm) → is_some t ≡ true → lines_text level t ≡ indent level ++ part_text level (part t) ++ behind_text t
lines_some level None e = cc
lines_some level (Some s) e = refl

pub lines_none : (level : ℕ) (t : Option Stm) → is_some t ≡ false → lines_text level t ≡ []
lines_none level None e = refl
lines_none level (Some s) e = cc

stms_flat : {A : Type 0} (level : ℕ) (f : A → Option Stm) (ns : List (Spanned A)) → stms_text level (nodes_layer f ns) ≡ flat_map (λ n. lines_text level (f n.node)) ns
stms_flat level f [] = refl
stms_flat level f (n ∷ ns) = one (f n.node) ∙ ap (λ t. lines_text level (f n.node) ++ t) (stms_flat level f ns)
  where
    one : (o : Option Stm) → stms_text level (stms (o ∷ map (λ n. f n.node) ns)) ≡ lines_text level o ++ stms_text level (nodes_layer f ns)
    one None = refl
    one (Some s) = refl

-- has it a character?
abbrev is_filled : List ℕ → Bool
is_filled [] = false
is_filled (c ∷ cs) = true

filled_last : (xs : List ℕ) (c : ℕ) (ys : List ℕ) → is_filled (xs ++ (c ∷ ys)) ≡ true
filled_last [] c ys = refl
filled_last (x ∷ xs) c ys = refl

filled_front : (xs ys : List ℕ) → is_filled xs ≡ true → is_filled (xs ++ ys) ≡ true
filled_front [] ys e = cc
filled_front (x ∷ xs) ys e = refl

filled_more : (xs ys : List ℕ) → is_filled (xs ++ ys) ≡ (is_filled xs || is_filled ys)
filled_more [] ys = refl
filled_more (x ∷ xs) ys = refl

filled_end : (xs : List ℕ) (s : Stm) → is_filled (xs ++ end_text s) ≡ true
filled_end (x ∷ xs) s = refl
filled_end [] (simple s) = refl
filled_end [] (compound_statement b) = refl
filled_end [] (if_statement a x b m) = refl
filled_end [] (switch_statement a x i c) = refl
filled_end [] (loop_statement a b c) = refl
filled_end [] (for_statement a i c u b) = refl
filled_end [] (while_statement a x b) = refl

filled_one : (level : ℕ) (o : Option Stm) (os : List (Option Stm)) (b : Bool) → is_filled (stms_text level (stms os)) ≡ b
    → is_filled (stms_text level (stms (o ∷ os))) ≡ (is_some o || b)
filled_one level None os b e = e
filled_one level (Some s) os b e =
    filled_front (indent level ++ bare_text level s ++ end_text s) (stms_text level (stms os)) (filled_end (indent level ++ bare_text level s) s)

filled_statements : {A : Type 0} (level : ℕ) (f : A → Option Stm) (ns : List (Spanned A)) → is_filled (stms_text level (nodes_layer f ns)) ≡ list_any (λ n. is_some (f n.node)) ns
filled_statements level f [] = refl
filled_statements level f (n ∷ ns) =
    filled_one level (f n.node) (map (λ n. f n.node) ns) (list_any (λ n. is_some (f n.node)) ns) (filled_statements level f ns)

filled_continuing : (level : ℕ) (o : Option (ContinuingStatementOf Statement)) → is_filled (continuing_text level (continuing_layer statement_tree o)) ≡ is_some o
filled_continuing level None = refl
filled_continuing level (Some c) =
    filled_last (indent level ++ (attrs_text (attributes_tree c.attributes) ++ (codes "continuing " ++ extended_text level (block_tree c.body) (break_line (level + 1) (option_map break_if_tree c.break_if))))) 10 []

filled_break : (level : ℕ) (o : Option BreakIfStatement) → is_filled (break_line level (option_map break_if_tree o)) ≡ is_some o
filled_break level None = refl
filled_break level (Some b) = filled_last (indent level ++ break_if_text (break_if_tree b)) 59 (10 ∷ [])

filled_clauses : (level : ℕ) (cs : List (SwitchClauseOf Statement)) → is_filled (clauses_text level (clauses_layer statement_tree cs)) ≡ not (length cs == 0)
filled_clauses level [] = refl
filled_clauses level (c ∷ cs) =
    let one = indent level ++ (case_head (map selector_tree c.case_selectors) ++ codes ": " ++ block_text level (block_tree c.body)) in
    filled_front (one ++ codes "\n") (clauses_text level (clauses_layer statement_tree cs)) (filled_last one 10 [])
    ∙ sym (ap not (ne_eqb (length (c ∷ cs)) 0 (λ e. omega arith)))

pieces : (level : ℕ) (lines : List ℕ) (b : Bool) → is_filled lines ≡ b → braced level lines ≡ opening b ++ lines ++ closing level b
pieces level lines b e = of_lines lines ∙ ap (λ b. opening b ++ lines ++ closing level b) e
  where
    of_lines : (lines : List ℕ) → braced level lines ≡ opening (is_filled lines) ++ lines ++ closing level (is_filled lines)
    of_lines [] = refl
    of_lines (c ∷ cs) = append_assoc (codes "{\n" ++ (c ∷ cs)) (indent level) (codes "}")

-- pieces one behind the other
left : (xs ys zs : List ℕ) → xs ++ (ys ++ zs) ≡ xs ++ ys ++ zs
left xs ys zs = sym (append_assoc xs ys zs)

left_of_three : (xs us vs ws : List ℕ) → xs ++ (us ++ vs ++ ws) ≡ xs ++ us ++ vs ++ ws
left_of_three xs us vs ws = left xs (us ++ vs) ws ∙ ap (λ t. t ++ ws) (left xs us vs)

left_of_four : (xs us vs ws zs : List ℕ) → xs ++ (us ++ vs ++ ws ++ zs) ≡ xs ++ us ++ vs ++ ws ++ zs
left_of_four xs us vs ws zs = left xs (us ++ vs ++ ws) zs ∙ ap (λ t. t ++ zs) (left_of_three xs us vs ws)

pub block_pieces : (level : ℕ) (ns : List (Spanned Statement)) (b : Bool) → b ≡ list_any (λ n. is_some (statement_tree n.node)) ns
    → braced level (stms_text (level + 1) (statements_tree ns)) ≡ opening b ++ flat_map (λ n. lines_text (level + 1) (statement_tree n.node)) ns ++ closing level b
block_pieces level ns b e =
    pieces level (stms_text (level + 1) (statements_tree ns)) b (filled_statements (level + 1) statement_tree ns ∙ sym e)
    ∙ ap (λ t. opening b ++ t ++ closing level b) (stms_flat (level + 1) statement_tree ns)

extended : (level : ℕ) (ns : List (Spanned Statement)) (more : List ℕ) (b c : Bool) → is_filled more ≡ b
    → c ≡ (list_any (λ n. is_some (statement_tree n.node)) ns || b)
    → braced level (stms_text (level + 1) (statements_tree ns) ++ more)
    ≡ opening c ++ flat_map (λ n. lines_text (level + 1) (statement_tree n.node)) ns ++ more ++ closing level c
extended level ns more b c e same =
    let lines = stms_text (level + 1) (statements_tree ns) in
    pieces level (lines ++ more) c (filled_more lines more ∙ (λ k. filled_statements (level + 1) statement_tree ns k || e k) ∙ sym same)
    ∙ ap (λ t. opening c ++ (t ++ more) ++ closing level c) (stms_flat (level + 1) statement_tree ns)
    ∙ ap (λ t. t ++ closing level c) (left (opening c) (flat_map (λ n. lines_text (level + 1) (statement_tree n.node)) ns) more)

pub loop_whole : (level : ℕ) (x : LoopStatementOf Statement) (b : Bool) → b ≡ (list_any (λ n. is_some (statement_tree n.node)) x.body.statements || is_some x.continuing)
    → bare_text level (loop_layer statement_tree x)
    ≡ attrs_text (attributes_tree x.attributes) ++ codes "loop " ++ attrs_text (attributes_tree x.body.attributes) ++ opening b
    ++ flat_map (λ n. lines_text (level + 1) (statement_tree n.node)) x.body.statements
    ++ continuing_text (level + 1) (continuing_layer statement_tree x.continuing) ++ closing level b
loop_whole level x b e =
    let front = attrs_text (attributes_tree x.attributes) ++ codes "loop " in
    let attributes = attrs_text (attributes_tree x.body.attributes) in
    let more = continuing_text (level + 1) (continuing_layer statement_tree x.continuing) in
    ap (λ t. front ++ (attributes ++ t)) (extended level x.body.statements more (is_some x.continuing) b (filled_continuing (level + 1) x.continuing) e)
    ∙ left front attributes (opening b ++ flat_map (λ n. lines_text (level + 1) (statement_tree n.node)) x.body.statements ++ more ++ closing level b)
    ∙ left_of_four (front ++ attributes) (opening b) (flat_map (λ n. lines_text (level + 1) (statement_tree n.node)) x.body.statements) more (closing level b)

pub continuing_whole : (level : ℕ) (x : ContinuingStatementOf Statement) (b : Bool) → b ≡ (list_any (λ n. is_some (statement_tree n.node)) x.body.statements || is_some x.break_if)
    → continuing_text level (continuing_layer statement_tree (Some x))
    ≡ indent level ++ (attrs_text (attributes_tree x.attributes) ++ codes "continuing " ++ attrs_text (attributes_tree x.body.attributes) ++ opening b)
    ++ flat_map (λ n. lines_text (level + 1) (statement_tree n.node)) x.body.statements
    ++ break_line (level + 1) (option_map break_if_tree x.break_if) ++ (closing level b ++ codes "\n")
continuing_whole level x b e =
    let front = attrs_text (attributes_tree x.attributes) in
    let word = codes "continuing " in
    let attributes = attrs_text (attributes_tree x.body.attributes) in
    let more = break_line (level + 1) (option_map break_if_tree x.break_if) in
    let lines = flat_map (λ n. lines_text (level + 1) (statement_tree n.node)) x.body.statements in
    let inner = opening b ++ lines ++ more ++ closing level b in
    ap (λ t. indent level ++ (front ++ (word ++ (attributes ++ t))) ++ codes "\n") (extended level x.body.statements more (is_some x.break_if) b (filled_break (level + 1) x.break_if) e)
    ∙ ap (λ t. t ++ codes "\n")
    (ap (λ t. indent level ++ t) (left front word (attributes ++ inner) ∙ left (front ++ word) attributes inner ∙ left_of_four (front ++ word ++ attributes) (opening b) lines more (closing level b))
    ∙ left_of_three (indent level) (front ++ word ++ attributes ++ opening b ++ lines) more (closing level b)
    ∙ ap (λ t. t ++ more ++ closing level b) (left (indent level) (front ++ word ++ attributes ++ opening b) lines))
    ∙ append_assoc (indent level ++ (front ++ word ++ attributes ++ opening b) ++ lines ++ more) (closing level b) (codes "\n")

pub switch_whole : (level : ℕ) (x : SwitchStatementOf Statement) (b : Bool) → b ≡ not (length x.clauses == 0)
    → bare_text level (switch_layer statement_tree x)
    ≡ attrs_text (attributes_tree x.attributes) ++ head_text (codes "switch ") (node_tree x.expression) ++ attrs_text (attributes_tree x.body_attributes) ++ opening b
    ++ flat_map (λ c. indent (level + 1) ++ case_head (map selector_tree c.case_selectors) ++ codes ": " ++ block_text (level + 1) (block_tree c.body) ++ codes "\n") x.clauses ++ closing level b
switch_whole level x b e =
    let front = attrs_text (attributes_tree x.attributes) ++ head_text (codes "switch ") (node_tree x.expression) ++ attrs_text (attributes_tree x.body_attributes) in
    ap (λ t. front ++ t) (pieces level (clauses_text (level + 1) (clauses_layer statement_tree x.clauses)) b (filled_clauses (level + 1) x.clauses ∙ sym e))
    ∙ ap (λ t. front ++ (opening b ++ t ++ closing level b)) (flat (level + 1) x.clauses)
    ∙ left_of_three front (opening b) (flat_map (λ c. one (level + 1) c) x.clauses) (closing level b)
  where
    one : ℕ → SwitchClauseOf Statement → List ℕ
    one level c = indent level ++ case_head (map selector_tree c.case_selectors) ++ codes ": " ++ block_text level (block_tree c.body) ++ codes "\n"

    flat : (level : ℕ) (cs : List (SwitchClauseOf Statement)) → clauses_text level (clauses_layer statement_tree cs) ≡ flat_map (λ c. one level c) cs
    flat level [] = refl
    flat level (c ∷ cs) =
        (λ k. (left_of_three (indent level) (case_head (map selector_tree c.case_selectors)) (codes ": ") (block_text level (block_tree c.body)) k ++ codes "\n") ++ flat level cs k)

pub if_whole : (level : ℕ) (x : IfStatementOf Statement)
    → bare_text level (if_layer statement_tree x)
    ≡ attrs_text (attributes_tree x.attributes) ++ head_text (codes "if ") (node_tree x.if_clause.expression) ++ block_text level (block_tree x.if_clause.body)
    ++ flat_map (λ c. codes " " ++ head_text (codes "else if ") (node_tree c.expression) ++ block_text level (block_tree c.body)) x.else_if_clauses
    ++ elses_text level (else_layer statement_tree x.else_clause)
if_whole level x =
    let front = attrs_text (attributes_tree x.attributes) ++ head_text (codes "if ") (node_tree x.if_clause.expression) ++ block_text level (block_tree x.if_clause.body) in
    ap (λ t. front ++ t) (flat x.else_if_clauses)
    ∙ left front (flat_map one x.else_if_clauses) (elses_text level (else_layer statement_tree x.else_clause))
  where
    one : ElseIfClauseOf Statement → List ℕ
    one c = codes " " ++ head_text (codes "else if ") (node_tree c.expression) ++ block_text level (block_tree c.body)

    flat : (cs : List (ElseIfClauseOf Statement)) → elses_text level (elses_layer statement_tree cs x.else_clause) ≡ flat_map one cs ++ elses_text level (else_layer statement_tree x.else_clause)
    flat [] = refl
    flat (c ∷ cs) = ap (λ t. one c ++ t) (flat cs) ∙ left (one c) (flat_map one cs) (elses_text level (else_layer statement_tree x.else_clause))

pub for_whole : (level : ℕ) (x : ForStatementOf Statement)
    → bare_text level (for_layer statement_tree x)
    ≡ (attrs_text (attributes_tree x.attributes) ++ codes "for (") ++ part_text level (part_layer statement_tree x.initializer)
    ++ (codes "; " ++ condition_text (option_map node_tree x.condition) ++ codes "; ")
    ++ part_text level (part_layer statement_tree x.update) ++ codes ") " ++ block_text level (block_tree x.body)
unfolding header_text
for_whole level x =
    let front = attrs_text (attributes_tree x.attributes) in
    let first = part_text level (part_layer statement_tree x.initializer) in
    let condition = condition_text (option_map node_tree x.condition) in
    let update = part_text level (part_layer statement_tree x.update) in
    ap (λ t. t ++ block_text level (block_tree x.body))
    (left front (codes "for (" ++ first ++ codes "; " ++ condition ++ codes "; " ++ update) (codes ") ")
    ∙ ap (λ t. t ++ codes ") ")
    (left front (codes "for (" ++ first ++ codes "; " ++ condition ++ codes "; ") update
    ∙ ap (λ t. t ++ update)
    (left_of_three front (codes "for (" ++ first ++ codes "; ") condition (codes "; ")
    ∙ ap (λ t. t ++ condition ++ codes "; ") (left_of_three front (codes "for (") first (codes "; "))
    ∙ sym (left_of_three (front ++ codes "for (" ++ first) (codes "; ") condition (codes "; ")))))
