-- The productions of statements: of those in which pieces may be absent, whichever of them are there (`StatementSteps` has each case).
use Rattle.std.proofs.Common.{◌≡◌, refl, sym, ap, ◌∙◌, subst, ℕ, Bool, true, List, [], ◌∷◌, ◌++◌, append_assoc, append-nil, map, Option, Some, None}
use Rattle.std.specs.Option.{option_map}
use Rattle.wgsl_path.specs.declared.span.Span.{Span}
use Rattle.wgsl_path.specs.declared.span.Spanned.{Spanned}
use Rattle.wgsl_token.specs.declared.token.Fixed.TheVariants as f
use Rattle.wgsl_templates.specs.declared.meaning.token.TemplateToken.{TemplateToken}
use Rattle.wgsl_templates.specs.declared.meaning.token.SpannedTemplateToken.{SpannedTemplateToken}
use Rattle.wgsl_print_laws.specs.Laws.{without_places}
use Rattle.wgsl_print_laws.specs.OptionalMarks.{Before, outside}
use Rattle.wgsl_expressions.specs.Tree.{Exp}
use Rattle.wgsl_expressions.specs.View.{node_tree}
use Rattle.wgsl_expressions.specs.declared.attributes.attribute.Attribute.{Attribute}
use Rattle.wgsl_expressions.specs.AttributesTree.{Attr}
use Rattle.wgsl_expressions.specs.AttributesView.{attributes_tree}
use Rattle.wgsl_simple_statements.specs.Tree as s
use Rattle.wgsl_simple_statements.specs.View.{assignment_tree, increment_tree, decrement_tree, break_tree, continue_tree, return_tree, discard_tree, call_tree, assertion_tree, value_tree}
use Rattle.wgsl_statements.specs.declared.statement.Statement.{Statement, out-Statement}
use Rattle.wgsl_statements.specs.declared.statement.Statement.TheOpen.{Statement-F}
use Rattle.wgsl_statements.specs.declared.statement.Statement.TheVariants as statement
use Rattle.wgsl_statements.specs.declared.statement.ElseClauseOf.{ElseClauseOf}
use Rattle.wgsl_statements.specs.declared.statement.ElseIfClauseOf.{ElseIfClauseOf}
use Rattle.wgsl_statements.specs.Tree.{simple, compound_statement, if_statement, switch_statement, loop_statement, for_statement, while_statement, Stms, Block, block, Elses, no_else, else_clause, else_if_clause, Clauses, Continuing, Part as HeaderPart, absent, present}
use Rattle.wgsl_statements.specs.View.{layer, statement_tree, block_tree, elses_layer, continuing_layer, part_layer, part as header_part}
use Rattle.wgsl_parser.specs.NodesStatements.{with_in, statement_with}
use Rattle.wgsl_statements.proofs.Trees.{tree_out, tree_of_assignment, tree_of_increment, tree_of_decrement, tree_of_break, tree_of_continue, tree_of_return, tree_of_discard, tree_of_call, tree_of_assertion, tree_of_value, tree_of_void, tree_of_compound, tree_of_if, tree_of_switch, tree_of_loop, tree_of_for, tree_of_while}
use Rattle.wgsl_print_laws.specs.Tokens.{mark, exp_tokens}
use Rattle.wgsl_print_laws.specs.Printable.{is_apart}
use Rattle.wgsl_print_laws.specs.Imports.{AttributesTokens, no_attributes}
use Rattle.wgsl_print_laws.specs.Simple.{SimpleTokens, attributed, value_tokens, value_is_apart}
use Rattle.wgsl_print_laws.specs.Statements.{PartTokens, no_part, a_part, in_braces, StmTokens, a_simple, a_compound, an_if, a_switch, a_loop, a_for, a_while, StmsTokens, BlockTokens, ElsesTokens, ClausesTokens, ContinuingTokens}
use Rattle.wgsl_print_laws.specs.Statements as m
use Rattle.wgsl_grammar_tables.specs.Grammars.{Symbol, token, phrase, Derives, done, next}
use Rattle.wgsl_semantic_values.specs.Reading.{attributes_of, expression_in}
use Rattle.wgsl_semantic_values.specs.declared.part.Part.{Part}
use Rattle.wgsl_semantic_values.specs.declared.label.Label.TheVariants as l
use Rattle.wgsl_semantic_values.specs.declared.label.StatementLabel.TheVariants as label
use Rattle.wgsl_parser.specs.Phrase.{Phrase}
use Rattle.wgsl_parser.specs.Phrases.{grammar}
use Rattle.wgsl_parser.specs.Gathering.{either}
use Rattle.wgsl_parser.specs.Reading.{statement_in, else_in, continuing_in, statements_of, else_ifs_of}
use Rattle.wgsl_parser.specs.Statements as make
use Rattle.wgsl_grammar_tables.specs.Classes.{fixed_class}
use Rattle.wgsl_read_back.proofs.Views.{View, view_tokens, Stands, an_expression, a_value, no_value, a_plain, a_header, no_header, a_statement, a_block, an_else, some_else_ifs, some_clauses, an_ending}
use Rattle.wgsl_read_back.proofs.Views as v
use Rattle.wgsl_read_back.proofs.Items.{OneToken, AgainAs}
use Rattle.wgsl_read_back.proofs.Rows.{make_of, Rebuild}
use Rattle.wgsl_read_back.proofs.Pieces.{StandAll, Pieces, end, a_mark, Fine, pieces_steps, Made, made_as, made_of_parts, pieces_back, of_no_part, of_two_parts, of_three_parts, of_four_parts, of_five_parts, phrase_back}
use Rattle.wgsl_read_back.proofs.Pieces as p
use Rattle.wgsl_read_back.proofs.Families.{mark_item, mark_tokens}
use Rattle.wgsl_read_back.proofs.AttributeRows.{AttributesRowed, attributes_are}
use Rattle.wgsl_read_back.proofs.Plain.{PlainStated}
use Rattle.wgsl_read_back.proofs.Blocks.{Blocked, StatementRead, a_stated, a_void, IsVoidStatement, ElseIfsTokens, no_else_ifs, else_ifs_and}
use Rattle.wgsl_read_back.proofs.Clauses.{statements_are}

-- ---- a `;` alone, and statements that end in one

pub void_statement : (n : ℕ) → Rebuild n (token (fixed_class f.Semicolon) ∷ []) (l.Statement label.VoidStatement) (1 ∷ []) → {u : List SpannedTemplateToken} {x : Phrase Part} → OneToken (fixed_class f.Semicolon) u x
    → StatementRead n (u ++ []) (make_of (l.Statement label.VoidStatement) (1 ∷ []) (x ∷ []))
void_statement n rebuild {u = u} {x = x} k = a_void (void x.span) refl tree_of_void (passes x (ap (λ z. z.failure) (sym k.value))) (ap without_places (append-nil u) ∙ mark_tokens f.Semicolon k) likewise
  where
    void : Span → Spanned Statement
    void s = record { node = statement.Void; span = s }

    passes : (x : Phrase Part) → x.failure ≡ None → (make_of (l.Statement label.VoidStatement) (1 ∷ []) (x ∷ [])).failure ≡ None
    passes x e = ap (λ z. either z None) e

    likewise : (w : List SpannedTemplateToken) → without_places w ≡ without_places (u ++ []) → AgainAs (phrase n) IsVoidStatement w
    likewise w e =
        let a = (mark_item f.Semicolon u x k).likewise w (e ∙ ap without_places (append-nil u)) in
        let P : List SpannedTemplateToken → Type 0 = λ z. Derives grammar (phrase n) z (make_of (l.Statement label.VoidStatement) (1 ∷ []) (a.value ∷ [])) in record {
          value = make_of (l.Statement label.VoidStatement) (1 ∷ []) (a.value ∷ []);
          derives = subst P (append-nil w) (rebuild (w ++ []) (a.value ∷ []) (next a.derives done));
          is = (void a.value.span, refl, tree_of_void);
          passes = passes a.value a.passes;
        }

-- a statement that holds no other with other attributes
with_tree : (y : Statement) (x : s.Simple) → statement_tree y ≡ Some (simple x) → (zs : List (Spanned Attribute)) → statement_tree (statement_with y zs) ≡ Some (simple (attributed (attributes_tree zs) x))
with_tree y x e zs = go (out-Statement y) (sym (tree_out y) ∙ e)
  where
    other : (z : s.Simple) (w : Statement) → statement_tree w ≡ Some (simple (attributed (attributes_tree zs) z)) → Some (simple z) ≡ Some (simple x) → statement_tree w ≡ Some (simple (attributed (attributes_tree zs) x))
    other z w tree e = let same : z ≡ x = cc in tree ∙ ap (λ r. Some (simple (attributed (attributes_tree zs) r))) same

    go : (z : Statement-F Statement) → layer statement_tree z ≡ Some (simple x) → statement_tree (with_in z zs) ≡ Some (simple (attributed (attributes_tree zs) x))
    go Statement-F.Void e = absurd cc
    go (Statement-F.Compound z) e = absurd cc
    go (Statement-F.Assignment z) e = other (assignment_tree z) (statement.Assignment (record z { attributes = zs })) (tree_of_assignment (record z { attributes = zs })) e
    go (Statement-F.Increment z) e = other (increment_tree z) (statement.Increment (record z { attributes = zs })) (tree_of_increment (record z { attributes = zs })) e
    go (Statement-F.Decrement z) e = other (decrement_tree z) (statement.Decrement (record z { attributes = zs })) (tree_of_decrement (record z { attributes = zs })) e
    go (Statement-F.If z) e = absurd cc
    go (Statement-F.Switch z) e = absurd cc
    go (Statement-F.Loop z) e = absurd cc
    go (Statement-F.For z) e = absurd cc
    go (Statement-F.While z) e = absurd cc
    go (Statement-F.Break z) e = other (break_tree z) (statement.Break (record z { attributes = zs })) (tree_of_break (record z { attributes = zs })) e
    go (Statement-F.Continue z) e = other (continue_tree z) (statement.Continue (record z { attributes = zs })) (tree_of_continue (record z { attributes = zs })) e
    go (Statement-F.Return z) e = other (return_tree z) (statement.Return (record z { attributes = zs })) (tree_of_return (record z { attributes = zs })) e
    go (Statement-F.Discard z) e = other (discard_tree z) (statement.Discard (record z { attributes = zs })) (tree_of_discard (record z { attributes = zs })) e
    go (Statement-F.FunctionCall z) e = other (call_tree z) (statement.FunctionCall (record z { attributes = zs })) (tree_of_call (record z { attributes = zs })) e
    go (Statement-F.ConstAssert z) e = other (assertion_tree z) (statement.ConstAssert (record z { attributes = zs })) (tree_of_assertion (record z { attributes = zs })) e
    go (Statement-F.Declaration z) e = other (value_tree z) (statement.Declaration (record z { attributes = zs })) (tree_of_value (record z { attributes = zs })) e

plain_makes : (xs : List Attr) (ts : List TemplateToken) (x : s.Simple) (us ws : List TemplateToken) (p q : Part) → Stands p (v.attributes xs ts) → Stands q (v.plain x us) → Made (l.Statement label.PlainStatement) (p ∷ q ∷ []) (v.statement (simple (attributed xs x)) ws)
plain_makes xs ts x us ws p q h (a_plain y is tree) =
    made_as (l.Statement label.PlainStatement) (p ∷ q ∷ []) (v.statement (simple (attributed xs x)) ws) (λ z. make.statement_at z (statement_with y (attributes_of p))) (λ z i. make.attributed z (p ∷ is i ∷ []))
    (λ z. a_statement _ refl (with_tree y x tree (attributes_of p) ∙ ap (λ zs. Some (simple (attributed zs x))) (attributes_are p xs ts h))) (λ z. refl) refl

abbrev pub plain_row : ℕ → List Symbol
plain_row m = phrase m ∷ token (fixed_class f.Semicolon) ∷ []

abbrev pub attributes_plain_row : ℕ → ℕ → List Symbol
attributes_plain_row r m = phrase r ∷ plain_row m

pub plain_bare : (n m : ℕ) → Rebuild n (plain_row m) (l.Statement label.PlainStatement) (0 ∷ 2 ∷ 1 ∷ []) → {a b : List SpannedTemplateToken} {x y : Phrase Part} → PlainStated m a x → OneToken (fixed_class f.Semicolon) b y
    → StatementRead n (a ++ (b ++ [])) (make_of (l.Statement label.PlainStatement) (0 ∷ 2 ∷ 1 ∷ []) (x ∷ y ∷ []))
plain_bare n m rebuild {b = b} {y = y} g k =
    let ts : List TemplateToken = g.1 ++ (mark f.Semicolon ∷ []) in
    a_stated (a_simple no_attributes g.2)
    (pieces_back n (plain_row m) (0 ∷ 2 ∷ 1 ∷ []) (phrase m) (token (fixed_class f.Semicolon) ∷ []) (0 ∷ 2 ∷ 1 ∷ []) (l.Statement label.PlainStatement) rebuild rebuild (v.statement (simple (attributed [] g.0)) ts)
    (p.no_part (v.attributes [] []) (v.no_attributes refl) (p.a_part g.3 (a_mark (mark_item f.Semicolon b y k) end))) refl
    (of_two_parts (λ qs. Made (l.Statement label.PlainStatement) qs (v.statement (simple (attributed [] g.0)) ts)) (plain_makes [] [] g.0 g.1 ts)) (λ b o. tt) (λ b o. refl) (λ b o. refl))

pub plain_attributed : (n r m : ℕ) → Rebuild n (attributes_plain_row r m) (l.Statement label.PlainStatement) (2 ∷ 2 ∷ 1 ∷ []) → {e a b : List SpannedTemplateToken} {w x y : Phrase Part} → AttributesRowed r e w → PlainStated m a x → OneToken (fixed_class f.Semicolon) b y
    → StatementRead n (e ++ (a ++ (b ++ []))) (make_of (l.Statement label.PlainStatement) (2 ∷ 2 ∷ 1 ∷ []) (w ∷ x ∷ y ∷ []))
plain_attributed n r m rebuild {b = b} {y = y} h g k =
    let ts : List TemplateToken = h.2 ++ (g.1 ++ (mark f.Semicolon ∷ [])) in
    a_stated (a_simple h.3 g.2)
    (pieces_back n (attributes_plain_row r m) (2 ∷ 2 ∷ 1 ∷ []) (phrase r) (plain_row m) (2 ∷ 2 ∷ 1 ∷ []) (l.Statement label.PlainStatement) rebuild rebuild (v.statement (simple (attributed (h.0 ∷ h.1) g.0)) ts)
    (p.a_part h.4 (p.a_part g.3 (a_mark (mark_item f.Semicolon b y k) end))) refl
    (of_two_parts (λ qs. Made (l.Statement label.PlainStatement) qs (v.statement (simple (attributed (h.0 ∷ h.1) g.0)) ts)) (plain_makes (h.0 ∷ h.1) h.2 g.0 g.1 ts)) (λ b o. tt) (λ b o. refl) (λ b o. refl))

pub compound : (n m : ℕ) → Rebuild n (phrase m ∷ []) (l.Statement label.Compound) (2 ∷ []) → {u : List SpannedTemplateToken} {x : Phrase Part} → Blocked m u x → StatementRead n (u ++ []) (make_of (l.Statement label.Compound) (2 ∷ []) (x ∷ []))
compound n m rebuild g =
    a_stated (a_compound g.2)
    (phrase_back n m (l.Statement label.Compound) rebuild (v.statement (compound_statement g.0) g.1) g.4 (append-nil g.1) (makes g.0 g.1) (λ b o. g.4.ended b o))
  where
    makes : (b : Block) (ts : List TemplateToken) (q : Part) → Stands q (v.block b ts) → Made (l.Statement label.Compound) (q ∷ []) (v.statement (compound_statement b) ts)
    makes b ts q (a_block y is tree) =
        made_as (l.Statement label.Compound) (q ∷ []) (v.statement (compound_statement b) ts) (λ z. make.statement_at z (statement.Compound y)) (λ z i. make.compound z (is i ∷ [])) (λ z. a_statement _ refl (tree_of_compound y ∙ (λ i. Some (compound_statement (tree i))))) (λ z. refl) refl

-- ---- `if`

abbrev pub elses_of : List (Exp × Block) → Option Block → Elses
elses_of [] None = no_else
elses_of [] (Some b) = else_clause b
elses_of ((e, b) ∷ es) o = else_if_clause e b (elses_of es o)

pub data OtherwiseTokens : Option Block → List TemplateToken → Type 0 where
  nothing_else : OtherwiseTokens None []
  else_tokens : {b : Block} {ts : List TemplateToken} → BlockTokens b ts → OtherwiseTokens (Some b) (mark f.Else ∷ ts)

elses_tokens : {es : List (Exp × Block)} {o : Option Block} {ts us : List TemplateToken} → ElseIfsTokens es ts → OtherwiseTokens o us → ElsesTokens (elses_of es o) (ts ++ us)
elses_tokens no_else_ifs nothing_else = m.none
elses_tokens no_else_ifs (else_tokens h) = m.otherwise h
elses_tokens {o = o} {us = ws} (else_ifs_and {e = e} {b = b} {es = es} {ts = ts} {us = us} i j k) h =
    subst (ElsesTokens (else_if_clause e b (elses_of es o)))
    (λ q. mark f.Else ∷ mark f.If ∷ ((ap (λ z. exp_tokens e ++ z) (sym (append_assoc ts us ws)) ∙ sym (append_assoc (exp_tokens e) (ts ++ us) ws) ∙ ap (λ z. z ++ ws) (sym (append_assoc (exp_tokens e) ts us))) q))
    (m.else_if i j (elses_tokens k h))

abbrev body_tree : ElseClauseOf Statement → Block
body_tree c = block_tree c.body

layer_is : (ys : List (ElseIfClauseOf Statement)) (last : Option (ElseClauseOf Statement)) → elses_layer statement_tree ys last ≡ elses_of (map (λ y. (node_tree y.expression, block_tree y.body)) ys) (option_map body_tree last)
layer_is [] None = refl
layer_is [] (Some c) = refl
layer_is (y ∷ ys) last = ap (λ z. else_if_clause (node_tree y.expression) (block_tree y.body) z) (layer_is ys last)

else_ifs_are : (p : Part) (es : List (Exp × Block)) (ts : List TemplateToken) → Stands p (v.else_ifs es ts) → map (λ y. (node_tree y.expression, block_tree y.body)) (else_ifs_of p) ≡ es
else_ifs_are p es ts (some_else_ifs ys is trees) = ap (λ z. map (λ y. (node_tree y.expression, block_tree y.body)) (else_ifs_of z)) is ∙ trees
else_ifs_are p _ _ (v.no_else_ifs is) = ap (λ z. map (λ y. (node_tree y.expression, block_tree y.body)) (else_ifs_of z)) is

else_is : (p : Part) (o : Option Block) (ts : List TemplateToken) → Stands p (v.otherwise o ts) → option_map body_tree (else_in p) ≡ o
else_is p _ ts (an_else y is tree) = ap (λ z. option_map body_tree (else_in z)) is ∙ ap Some tree
else_is p _ _ (v.no_else is) = ap (λ z. option_map body_tree (else_in z)) is

if_made : (xs : List Attr) (e : Exp) (b : Block) (es : List (Exp × Block)) (o : Option Block) (ts us vs ws zs : List TemplateToken) (qs : List Part)
    → StandAll qs (v.attributes xs ts ∷ v.expression e ∷ v.block b us ∷ v.else_ifs es vs ∷ v.otherwise o ws ∷ []) → Made (l.Statement label.If) qs (v.statement (if_statement xs e b (elses_of es o)) zs)
if_made xs e b es o ts us vs ws zs = of_five_parts (λ qs. Made (l.Statement label.If) qs (v.statement (if_statement xs e b (elses_of es o)) zs)) go
  where
    go : (p q r x y : Part) → Stands p (v.attributes xs ts) → Stands q (v.expression e) → Stands r (v.block b us) → Stands x (v.else_ifs es vs) → Stands y (v.otherwise o ws) → Made (l.Statement label.If) (p ∷ q ∷ r ∷ x ∷ y ∷ []) (v.statement (if_statement xs e b (elses_of es o)) zs)
    go p q r x y h (an_expression n is same) (a_block k at tree) g i =
        made_as (l.Statement label.If) (p ∷ q ∷ r ∷ x ∷ y ∷ []) (v.statement (if_statement xs e b (elses_of es o)) zs)
        (λ z. make.statement_at z (statement.If (record { attributes = attributes_of p; if_clause = record { expression = n; body = k }; else_if_clauses = else_ifs_of x; else_clause = else_in y })))
        (λ z j. make.if_statement z (p ∷ is j ∷ at j ∷ x ∷ y ∷ []))
        (λ z. a_statement _ refl (tree_of_if (record { attributes = attributes_of p; if_clause = record { expression = n; body = k }; else_if_clauses = else_ifs_of x; else_clause = else_in y })
        ∙ (λ j. Some (if_statement (attributes_are p xs ts h j) (same j) (tree j) ((layer_is (else_ifs_of x) (else_in y) ∙ (λ k. elses_of (else_ifs_are x es vs g k) (else_is y o ws i k))) j)))))
        (λ z. refl) refl

pub if_of : (n : ℕ) {ss : List Symbol} {ns : List ℕ} {r : Symbol} {rs : List Symbol} {ms : List ℕ} (read : Rebuild n ss (l.Statement label.If) ns) (rebuild : Rebuild n (r ∷ rs) (l.Statement label.If) ms) {u : List SpannedTemplateToken} {x : Phrase Part} {ys : List (Phrase Part)} {xs : List Attr} {e : Exp} {b : Block} {es : List (Exp × Block)} {o : Option Block}
    (ts us vs ws tail : List TemplateToken) → tail ≡ us ++ (vs ++ ws) → AttributesTokens xs ts → is_apart e ≡ true → BlockTokens b us → ElseIfsTokens es vs → OtherwiseTokens o ws
    → (p : Pieces ss ns (r ∷ rs) ms (ts ++ (mark f.If ∷ (exp_tokens e ++ tail))) (v.attributes xs ts ∷ v.expression e ∷ v.block b us ∷ v.else_ifs es vs ∷ v.otherwise o ws ∷ []) u (x ∷ ys)) → (fine : (b : Before) (q : List Bool) → Fine p b q)
    → ((b : Before) (q : List Bool) → (pieces_steps p b q (fine b q)).opened ≡ q) → ((b : Before) (q : List Bool) → (pieces_steps p b q (fine b q)).last ≡ outside) → StatementRead n u (make_of (l.Statement label.If) ns (x ∷ ys))
if_of n {ss = ss} {ns = ns} {r = r} {rs = rs} {ms = ms} read rebuild {xs = xs} {e = e} {b = b} {es = es} {o = o} ts us vs ws tail same h i j k q p fine level ended =
    let zs : List TemplateToken = ts ++ (mark f.If ∷ (exp_tokens e ++ (us ++ (vs ++ ws)))) in
    a_stated (an_if h i j (elses_tokens k q)) (pieces_back n ss ns r rs ms (l.Statement label.If) read rebuild (v.statement (if_statement xs e b (elses_of es o)) zs) p (ap (λ z. ts ++ (mark f.If ∷ (exp_tokens e ++ z))) same) (if_made xs e b es o ts us vs ws zs) fine level ended)

-- ---- `switch`

switch_made : (xs inner : List Attr) (e : Exp) (cs : Clauses) (ts us vs zs : List TemplateToken) (qs : List Part) → StandAll qs (v.attributes xs ts ∷ v.expression e ∷ v.attributes inner us ∷ v.clauses cs vs ∷ []) → Made (l.Statement label.Switch) qs (v.statement (switch_statement xs e inner cs) zs)
switch_made xs inner e cs ts us vs zs = of_four_parts (λ qs. Made (l.Statement label.Switch) qs (v.statement (switch_statement xs e inner cs) zs)) go
  where
    go : (p q r x : Part) → Stands p (v.attributes xs ts) → Stands q (v.expression e) → Stands r (v.attributes inner us) → Stands x (v.clauses cs vs) → Made (l.Statement label.Switch) (p ∷ q ∷ r ∷ x ∷ []) (v.statement (switch_statement xs e inner cs) zs)
    go p q r x h (an_expression n is same) g (some_clauses ys at cases) =
        made_as (l.Statement label.Switch) (p ∷ q ∷ r ∷ x ∷ []) (v.statement (switch_statement xs e inner cs) zs)
        (λ z. make.statement_at z (statement.Switch (record { attributes = attributes_of p; expression = n; body_attributes = attributes_of r; clauses = ys }))) (λ z j. make.switch_statement z (p ∷ is j ∷ r ∷ at j ∷ []))
        (λ z. a_statement _ refl (tree_of_switch (record { attributes = attributes_of p; expression = n; body_attributes = attributes_of r; clauses = ys }) ∙ (λ j. Some (switch_statement (attributes_are p xs ts h j) (same j) (attributes_are r inner us g j) (cases j))))) (λ z. refl) refl

pub switch_of : (n : ℕ) {ss : List Symbol} {ns : List ℕ} {r : Symbol} {rs : List Symbol} {ms : List ℕ} (read : Rebuild n ss (l.Statement label.Switch) ns) (rebuild : Rebuild n (r ∷ rs) (l.Statement label.Switch) ms) {u : List SpannedTemplateToken} {x : Phrase Part} {ys : List (Phrase Part)} {xs inner : List Attr} {e : Exp} {cs : Clauses} (ts us vs : List TemplateToken)
    → AttributesTokens xs ts → is_apart e ≡ true → AttributesTokens inner us → ClausesTokens cs vs → (p : Pieces ss ns (r ∷ rs) ms (ts ++ (mark f.Switch ∷ (exp_tokens e ++ (us ++ in_braces vs)))) (v.attributes xs ts ∷ v.expression e ∷ v.attributes inner us ∷ v.clauses cs vs ∷ []) u (x ∷ ys))
    → (fine : (b : Before) (q : List Bool) → Fine p b q) → ((b : Before) (q : List Bool) → (pieces_steps p b q (fine b q)).opened ≡ q) → ((b : Before) (q : List Bool) → (pieces_steps p b q (fine b q)).last ≡ outside) → StatementRead n u (make_of (l.Statement label.Switch) ns (x ∷ ys))
switch_of n {ss = ss} {ns = ns} {r = r} {rs = rs} {ms = ms} read rebuild {xs = xs} {inner = inner} {e = e} {cs = cs} ts us vs h i j k p fine level ended =
    let zs : List TemplateToken = ts ++ (mark f.Switch ∷ (exp_tokens e ++ (us ++ in_braces vs))) in
    a_stated (a_switch h i j k) (pieces_back n ss ns r rs ms (l.Statement label.Switch) read rebuild (v.statement (switch_statement xs e inner cs) zs) p refl (switch_made xs inner e cs ts us vs zs) fine level ended)

-- ---- `loop`

continuing_is : (p : Part) (c : Continuing) (ts : List TemplateToken) → Stands p (v.ending c ts) → continuing_layer statement_tree (continuing_in p) ≡ c
continuing_is p c ts (an_ending y is tree) = ap (λ z. continuing_layer statement_tree (continuing_in z)) is ∙ tree
continuing_is p _ _ (v.no_ending is) = ap (λ z. continuing_layer statement_tree (continuing_in z)) is

loop_made : (xs inner : List Attr) (body : Stms) (c : Continuing) (ts us vs ws zs : List TemplateToken) (qs : List Part) → StandAll qs (v.attributes xs ts ∷ v.attributes inner us ∷ v.statements body vs ∷ v.ending c ws ∷ []) → Made (l.Statement label.Loop) qs (v.statement (loop_statement xs (block inner body) c) zs)
loop_made xs inner body c ts us vs ws zs = of_four_parts (λ qs. Made (l.Statement label.Loop) qs (v.statement (loop_statement xs (block inner body) c) zs)) (λ p q r x h g i k.
    made_as (l.Statement label.Loop) (p ∷ q ∷ r ∷ x ∷ []) (v.statement (loop_statement xs (block inner body) c) zs)
    (λ z. make.statement_at z (statement.Loop (record { attributes = attributes_of p; body = record { attributes = attributes_of q; statements = statements_of r }; continuing = continuing_in x }))) (λ z. refl)
    (λ z. a_statement _ refl (tree_of_loop (record { attributes = attributes_of p; body = record { attributes = attributes_of q; statements = statements_of r }; continuing = continuing_in x })
    ∙ (λ j. Some (loop_statement (attributes_are p xs ts h j) (block (attributes_are q inner us g j) (statements_are r body vs i j)) (continuing_is x c ws k j))))) (λ z. refl) refl)

pub loop_of : (n : ℕ) {ss : List Symbol} {ns : List ℕ} {r : Symbol} {rs : List Symbol} {ms : List ℕ} (read : Rebuild n ss (l.Statement label.Loop) ns) (rebuild : Rebuild n (r ∷ rs) (l.Statement label.Loop) ms) {u : List SpannedTemplateToken} {x : Phrase Part} {ys : List (Phrase Part)} {xs inner : List Attr} {body : Stms} {c : Continuing} (ts us vs ws : List TemplateToken)
    → AttributesTokens xs ts → AttributesTokens inner us → StmsTokens body vs → ContinuingTokens c ws
    → (p : Pieces ss ns (r ∷ rs) ms (ts ++ (mark f.Loop ∷ (us ++ (mark f.BraceLeft ∷ (vs ++ (ws ++ (mark f.BraceRight ∷ []))))))) (v.attributes xs ts ∷ v.attributes inner us ∷ v.statements body vs ∷ v.ending c ws ∷ []) u (x ∷ ys)) → (fine : (b : Before) (q : List Bool) → Fine p b q)
    → ((b : Before) (q : List Bool) → (pieces_steps p b q (fine b q)).opened ≡ q) → ((b : Before) (q : List Bool) → (pieces_steps p b q (fine b q)).last ≡ outside) → StatementRead n u (make_of (l.Statement label.Loop) ns (x ∷ ys))
loop_of n {ss = ss} {ns = ns} {r = r} {rs = rs} {ms = ms} read rebuild {xs = xs} {inner = inner} {body = body} {c = c} ts us vs ws h i j k p fine level ended =
    let zs : List TemplateToken = ts ++ (mark f.Loop ∷ (us ++ in_braces (vs ++ ws))) in
    a_stated (a_loop h i j k)
    (pieces_back n ss ns r rs ms (l.Statement label.Loop) read rebuild (v.statement (loop_statement xs (block inner body) c) zs) p (ap (λ z. ts ++ (mark f.Loop ∷ (us ++ (mark f.BraceLeft ∷ z)))) (sym (append_assoc vs ws (mark f.BraceRight ∷ [])))) (loop_made xs inner body c ts us vs ws zs) fine level ended)

-- ---- `for` and `while`

abbrev pub head_tree : Option s.Simple → HeaderPart
head_tree None = absent
head_tree (Some x) = present (simple x)

head_is : (p : Part) (o : Option s.Simple) (ts : List TemplateToken) → Stands p (v.header o ts) → part_layer statement_tree (statement_in p) ≡ head_tree o
head_is p _ ts (a_header y is tree) = ap (λ z. part_layer statement_tree (statement_in z)) is ∙ ap header_part tree
head_is p _ _ (no_header is) = ap (λ z. part_layer statement_tree (statement_in z)) is

condition_is : (p : Part) (o : Option Exp) → Stands p (v.value o) → option_map node_tree (expression_in p) ≡ o
condition_is p _ (a_value n is same) = ap (λ z. option_map node_tree (expression_in z)) is ∙ ap Some same
condition_is p _ (no_value is) = ap (λ z. option_map node_tree (expression_in z)) is

for_made : (xs : List Attr) (first : Option s.Simple) (e : Option Exp) (update : Option s.Simple) (b : Block) (ts us vs ws zs : List TemplateToken) (qs : List Part)
    → StandAll qs (v.attributes xs ts ∷ v.header first us ∷ v.value e ∷ v.header update vs ∷ v.block b ws ∷ []) → Made (l.Statement label.For) qs (v.statement (for_statement xs (head_tree first) e (head_tree update) b) zs)
for_made xs first e update b ts us vs ws zs = of_five_parts (λ qs. Made (l.Statement label.For) qs (v.statement (for_statement xs (head_tree first) e (head_tree update) b) zs)) go
  where
    go : (p q r x y : Part) → Stands p (v.attributes xs ts) → Stands q (v.header first us) → Stands r (v.value e) → Stands x (v.header update vs) → Stands y (v.block b ws)
        → Made (l.Statement label.For) (p ∷ q ∷ r ∷ x ∷ y ∷ []) (v.statement (for_statement xs (head_tree first) e (head_tree update) b) zs)
    go p q r x y h g i j (a_block k at tree) =
        made_as (l.Statement label.For) (p ∷ q ∷ r ∷ x ∷ y ∷ []) (v.statement (for_statement xs (head_tree first) e (head_tree update) b) zs)
        (λ z. make.statement_at z (statement.For (record { attributes = attributes_of p; initializer = statement_in q; condition = expression_in r; update = statement_in x; body = k }))) (λ z n. make.for_statement z (p ∷ q ∷ r ∷ x ∷ at n ∷ []))
        (λ z. a_statement _ refl (tree_of_for (record { attributes = attributes_of p; initializer = statement_in q; condition = expression_in r; update = statement_in x; body = k })
        ∙ (λ n. Some (for_statement (attributes_are p xs ts h n) (head_is q first us g n) (condition_is r e i n) (head_is x update vs j n) (tree n))))) (λ z. refl) refl

pub data HeadTokens : Option s.Simple → List TemplateToken → Type 0 where
  no_head : HeadTokens None []
  a_head : {x : s.Simple} {ts : List TemplateToken} → SimpleTokens x ts → HeadTokens (Some x) ts

head_tokens : {o : Option s.Simple} {ts : List TemplateToken} → HeadTokens o ts → PartTokens (head_tree o) ts
head_tokens no_head = no_part
head_tokens (a_head h) = a_part h

pub for_of : (n : ℕ) {ss : List Symbol} {ns : List ℕ} {r : Symbol} {rs : List Symbol} {ms : List ℕ} (read : Rebuild n ss (l.Statement label.For) ns) (rebuild : Rebuild n (r ∷ rs) (l.Statement label.For) ms) {u : List SpannedTemplateToken} {x : Phrase Part} {ys : List (Phrase Part)} {xs : List Attr} {first update : Option s.Simple} {e : Option Exp} {b : Block} (ts us vs ws : List TemplateToken)
    → AttributesTokens xs ts → HeadTokens first us → value_is_apart e ≡ true → HeadTokens update vs → BlockTokens b ws
    → (p : Pieces ss ns (r ∷ rs) ms (ts ++ (mark f.For ∷ mark f.ParenLeft ∷ (us ++ (mark f.Semicolon ∷ (value_tokens e ++ (mark f.Semicolon ∷ (vs ++ (mark f.ParenRight ∷ (ws ++ []))))))))) (v.attributes xs ts ∷ v.header first us ∷ v.value e ∷ v.header update vs ∷ v.block b ws ∷ []) u (x ∷ ys))
    → (fine : (b : Before) (q : List Bool) → Fine p b q) → ((b : Before) (q : List Bool) → (pieces_steps p b q (fine b q)).opened ≡ q) → ((b : Before) (q : List Bool) → (pieces_steps p b q (fine b q)).last ≡ outside) → StatementRead n u (make_of (l.Statement label.For) ns (x ∷ ys))
for_of n {ss = ss} {ns = ns} {r = r} {rs = rs} {ms = ms} read rebuild {xs = xs} {first = first} {update = update} {e = e} {b = b} ts us vs ws h i j k g p fine level ended =
    let zs : List TemplateToken = ts ++ (mark f.For ∷ mark f.ParenLeft ∷ (us ++ (mark f.Semicolon ∷ (value_tokens e ++ (mark f.Semicolon ∷ (vs ++ (mark f.ParenRight ∷ ws))))))) in
    a_stated (a_for h (head_tokens i) j (head_tokens k) g)
    (pieces_back n ss ns r rs ms (l.Statement label.For) read rebuild (v.statement (for_statement xs (head_tree first) e (head_tree update) b) zs) p (ap (λ z. ts ++ (mark f.For ∷ mark f.ParenLeft ∷ (us ++ (mark f.Semicolon ∷ (value_tokens e ++ (mark f.Semicolon ∷ (vs ++ (mark f.ParenRight ∷ z)))))))) (append-nil ws))
    (for_made xs first e update b ts us vs ws zs) fine level ended)

while_made : (xs : List Attr) (e : Exp) (b : Block) (ts us zs : List TemplateToken) (qs : List Part) → StandAll qs (v.attributes xs ts ∷ v.expression e ∷ v.block b us ∷ []) → Made (l.Statement label.While) qs (v.statement (while_statement xs e b) zs)
while_made xs e b ts us zs = of_three_parts (λ qs. Made (l.Statement label.While) qs (v.statement (while_statement xs e b) zs)) go
  where
    go : (p q r : Part) → Stands p (v.attributes xs ts) → Stands q (v.expression e) → Stands r (v.block b us) → Made (l.Statement label.While) (p ∷ q ∷ r ∷ []) (v.statement (while_statement xs e b) zs)
    go p q r h (an_expression n is same) (a_block k at tree) =
        made_as (l.Statement label.While) (p ∷ q ∷ r ∷ []) (v.statement (while_statement xs e b) zs) (λ z. make.statement_at z (statement.While (record { attributes = attributes_of p; condition = n; body = k }))) (λ z j. make.while_statement z (p ∷ is j ∷ at j ∷ []))
        (λ z. a_statement _ refl (tree_of_while (record { attributes = attributes_of p; condition = n; body = k }) ∙ (λ j. Some (while_statement (attributes_are p xs ts h j) (same j) (tree j))))) (λ z. refl) refl

pub while_of : (n : ℕ) {ss : List Symbol} {ns : List ℕ} {r : Symbol} {rs : List Symbol} {ms : List ℕ} (read : Rebuild n ss (l.Statement label.While) ns) (rebuild : Rebuild n (r ∷ rs) (l.Statement label.While) ms) {u : List SpannedTemplateToken} {x : Phrase Part} {ys : List (Phrase Part)} {xs : List Attr} {e : Exp} {b : Block} (ts us : List TemplateToken)
    → AttributesTokens xs ts → is_apart e ≡ true → BlockTokens b us → (p : Pieces ss ns (r ∷ rs) ms (ts ++ (mark f.While ∷ (exp_tokens e ++ (us ++ [])))) (v.attributes xs ts ∷ v.expression e ∷ v.block b us ∷ []) u (x ∷ ys)) → (fine : (b : Before) (q : List Bool) → Fine p b q)
    → ((b : Before) (q : List Bool) → (pieces_steps p b q (fine b q)).opened ≡ q) → ((b : Before) (q : List Bool) → (pieces_steps p b q (fine b q)).last ≡ outside) → StatementRead n u (make_of (l.Statement label.While) ns (x ∷ ys))
while_of n {ss = ss} {ns = ns} {r = r} {rs = rs} {ms = ms} read rebuild {xs = xs} {e = e} {b = b} ts us h i j p fine level ended =
    let zs : List TemplateToken = ts ++ (mark f.While ∷ (exp_tokens e ++ us)) in
    a_stated (a_while h i j) (pieces_back n ss ns r rs ms (l.Statement label.While) read rebuild (v.statement (while_statement xs e b) zs) p (ap (λ z. ts ++ (mark f.While ∷ (exp_tokens e ++ z))) (append-nil us)) (while_made xs e b ts us zs) fine level ended)
