-- Statements, and the clauses of `if` and `switch`, are written one by one.
use Rattle.std.proofs.Common.{◌≡◌, refl, sym, ap, ◌∙◌, ℕ, ◌≤◌, List, [], ◌∷◌, map, length, Option, Some, None}
use Rattle.wgsl_path.specs.declared.span.Spanned.{Spanned}
use Rattle.wgsl_expressions.specs.Tree.{Exp}
use Rattle.wgsl_expressions.specs.View.{node_tree}
use Rattle.wgsl_expressions.specs.AttributesTree.{Attr}
use Rattle.wgsl_declarations.specs.SimpleStatementsTree.{Selector}
use Rattle.wgsl_simple_statements.specs.View.{selector_tree}
use Rattle.wgsl_statements.specs.declared.statement.Statement.{Statement}
use Rattle.wgsl_statements.specs.declared.statement.ElseIfClauseOf.{ElseIfClauseOf}
use Rattle.wgsl_statements.specs.declared.statement.ElseClauseOf.{ElseClauseOf}
use Rattle.wgsl_statements.specs.declared.statement.SwitchClauseOf.{SwitchClauseOf}
use Rattle.wgsl_statements.specs.Tree.{Stm, if_statement, Stms, cons, Block, Elses, else_if_clause, Clauses, no_clauses, switch_clause}
use Rattle.wgsl_statements.specs.View.{stms, statement_tree, statements_tree, block_tree, else_layer, elses_layer, clauses_layer}
use Rattle.wesl_marks_mut.specs.Walks.{each, if_there}
use Rattle.wesl_marks_mut.specs.Written.{Left, written}
use Rattle.wesl_marks_mut.specs.WrittenAttributes.{attributes_written}
use Rattle.wesl_marks_mut.specs.WrittenStatements.{else_if_tree, else_if_written, statement_written, statements_written, block_written, elses_written, clauses_written, selector_written}
use Rattle.wesl_marks_mut.proofs.Each.{Wrote, wrote_all}

-- ---- statements

abbrev pub maybe_written : Option Stm → Left → Option Stm × Left
maybe_written = if_there statement_written

abbrev pub tree_at : Spanned Statement → Option Stm
tree_at n = statement_tree n.node

statements_by : (xs : List (Option Stm)) (s : Left) → (let r = each maybe_written xs s in (stms r.0, r.1)) ≡ statements_written (stms xs) s
statements_by [] s = refl
statements_by (None ∷ xs) s = statements_by xs s
statements_by (Some x ∷ xs) s = let a = statement_written x s in ap (λ r. (cons a.0 r.0, r.1)) (statements_by xs a.1)

pub statements_wrote : {i : ℕ} {xs ys : List (Spanned Statement)} {s t : Left} → Wrote maybe_written tree_at i xs ys s t → length xs ≤ i
    → (let r : Stms × Left = (statements_tree ys, t) in r) ≡ statements_written (statements_tree xs) s
statements_wrote {xs = xs} {s = s} r less = ap (λ p. (stms p.0, p.1)) (wrote_all maybe_written tree_at r less) ∙ statements_by (map tree_at xs) s

-- ---- clauses of `switch`

abbrev pub clause_tree : SwitchClauseOf Statement → List Selector × Block
clause_tree c = (map selector_tree c.case_selectors, block_tree c.body)

abbrev pub clause_written : List Selector × Block → Left → (List Selector × Block) × Left
clause_written c s = let a = each selector_written c.0 s in let b = block_written c.1 a.1 in ((a.0, b.0), b.1)

abbrev clauses_of : List (List Selector × Block) → Clauses
clauses_of [] = no_clauses
clauses_of (c ∷ cs) = switch_clause c.0 c.1 (clauses_of cs)

clauses_are : (cs : List (SwitchClauseOf Statement)) → clauses_layer statement_tree cs ≡ clauses_of (map clause_tree cs)
clauses_are [] = refl
clauses_are (c ∷ cs) = ap (λ t. switch_clause (map selector_tree c.case_selectors) (block_tree c.body) t) (clauses_are cs)

clauses_by : (cs : List (List Selector × Block)) (s : Left) → (let r = each clause_written cs s in (clauses_of r.0, r.1)) ≡ clauses_written (clauses_of cs) s
clauses_by [] s = refl
clauses_by (c ∷ cs) s = let a = clause_written c s in ap (λ r. (switch_clause a.0.0 a.0.1 r.0, r.1)) (clauses_by cs a.1)

pub clauses_wrote : {i : ℕ} {xs ys : List (SwitchClauseOf Statement)} {s t : Left} → Wrote clause_written clause_tree i xs ys s t → length xs ≤ i
    → (let r : Clauses × Left = (clauses_layer statement_tree ys, t) in r) ≡ clauses_written (clauses_layer statement_tree xs) s
clauses_wrote {xs = xs} {ys = ys} {s = s} {t = t} r less =
    ap (λ c. (c, t)) (clauses_are ys)
    ∙ ap (λ p. (clauses_of p.0, p.1)) (wrote_all clause_written clause_tree r less)
    ∙ clauses_by (map clause_tree xs) s
    ∙ ap (λ c. clauses_written c s) (sym (clauses_are xs))

-- ---- clauses of `if`

abbrev elses_of : List (Exp × Block) → Elses → Elses
elses_of [] last = last
elses_of (c ∷ cs) last = else_if_clause c.0 c.1 (elses_of cs last)

abbrev last_tree : Option (ElseClauseOf Statement) → Elses
last_tree = else_layer statement_tree

elses_are : (cs : List (ElseIfClauseOf Statement)) (l : Option (ElseClauseOf Statement)) → elses_layer statement_tree cs l ≡ elses_of (map else_if_tree cs) (last_tree l)
elses_are [] l = refl
elses_are (c ∷ cs) l = ap (λ t. else_if_clause (node_tree c.expression) (block_tree c.body) t) (elses_are cs l)

elses_by : (cs : List (Exp × Block)) (e : Elses) (s : Left)
    → (let r = each else_if_written cs s in let q = elses_written e r.1 in (elses_of r.0 q.0, q.1)) ≡ elses_written (elses_of cs e) s
elses_by [] e s = refl
elses_by (c ∷ cs) e s = let a = else_if_written c s in ap (λ r. (else_if_clause a.0.0 a.0.1 r.0, r.1)) (elses_by cs e a.1)

elses_wrote : (xs ys : List (ElseIfClauseOf Statement)) (l m : Option (ElseClauseOf Statement)) (s t u : Left) → map else_if_tree ys ≡ (each else_if_written (map else_if_tree xs) s).0
    → t ≡ (each else_if_written (map else_if_tree xs) s).1 → last_tree m ≡ (elses_written (last_tree l) t).0 → u ≡ (elses_written (last_tree l) t).1
    → (let r : Elses × Left = (elses_layer statement_tree ys m, u) in r) ≡ elses_written (elses_layer statement_tree xs l) s
elses_wrote xs ys l m s t u a b e f =
    ap (λ c. (c, u)) (elses_are ys m)
    ∙ (λ k. (elses_of (map else_if_tree ys) (e k), f k))
    ∙ (λ k. let q = elses_written (last_tree l) (b k) in (elses_of (a k) q.0, q.1))
    ∙ elses_by (map else_if_tree xs) (last_tree l) s
    ∙ ap (λ c. elses_written c s) (sym (elses_are xs l))

pub if_wrote : (olds bs : List Attr) (x y : Exp) (b d : Block) (xs ys : List (ElseIfClauseOf Statement)) (l m : Option (ElseClauseOf Statement)) (s t u v w : Left)
    → bs ≡ (attributes_written olds s).0 → y ≡ (written x (attributes_written olds s).1).0 → t ≡ (written x (attributes_written olds s).1).1
    → d ≡ (block_written b t).0 → u ≡ (block_written b t).1
    → map else_if_tree ys ≡ (each else_if_written (map else_if_tree xs) u).0 → v ≡ (each else_if_written (map else_if_tree xs) u).1
    → last_tree m ≡ (elses_written (last_tree l) v).0 → w ≡ (elses_written (last_tree l) v).1
    → (let r : Stm × Left = (if_statement bs y d (elses_layer statement_tree ys m), w) in r) ≡ statement_written (if_statement olds x b (elses_layer statement_tree xs l)) s
if_wrote olds bs x y b d xs ys l m s t u v w is_attributes is_condition is_t is_block is_u is_else_ifs is_v is_last is_w =
    ap (λ p. (if_statement bs y d p.0, p.1)) (elses_wrote xs ys l m u v w is_else_ifs is_v is_last is_w)
    ∙ (λ k. let o = elses_written (elses_layer statement_tree xs l) (is_u k) in (if_statement bs y (is_block k) o.0, o.1))
    ∙ (λ k. let q = block_written b (is_t k) in let o = elses_written (elses_layer statement_tree xs l) q.1 in (if_statement bs (is_condition k) q.0 o.0, o.1))
    ∙ (λ k. let p = written x (attributes_written olds s).1 in let q = block_written b p.1 in let o = elses_written (elses_layer statement_tree xs l) q.1 in (if_statement (is_attributes k) p.0 q.0 o.0, o.1))
