-- The productions of what statements consist of: blocks, clauses of `if` and `switch`, and what ends a loop.
use Rattle.std.proofs.Common.{◌≡◌, refl, sym, ap, ◌∙◌, subst, ℕ, Bool, true, List, [], ◌∷◌, ◌++◌, append_assoc, append-nil, map, Option, Some}
use Rattle.std.proofs.lemmas.List.{map-append}
use Rattle.std.specs.Option.{option_map}
use Rattle.std.proofs.lemmas.Bool.{and_parts}
use Rattle.wgsl_lex.specs.Tokens.{form, token_form, fixed_of}
use Rattle.wgsl_path.specs.declared.span.Span.{Span}
use Rattle.wgsl_token.specs.declared.token.Fixed.{Fixed}
use Rattle.wgsl_token.specs.declared.token.Fixed.TheVariants as f
use Rattle.wgsl_templates.specs.declared.meaning.token.TemplateToken.{TemplateToken}
use Rattle.wgsl_templates.specs.declared.meaning.token.SpannedTemplateToken.{SpannedTemplateToken}
use Rattle.wgsl_print_laws.specs.Laws.{without_places}
use Rattle.wgsl_print_laws.specs.OptionalMarks.{Before, outside, comma, begins_outside}
use Rattle.wgsl_expressions.specs.Tree.{Exp}
use Rattle.wgsl_expressions.specs.View.{node_tree}
use Rattle.wgsl_expressions.specs.AttributesTree.{Attr}
use Rattle.wgsl_simple_statements.specs.declared.statement.CaseSelector.TheVariants as selectors
use Rattle.wgsl_simple_statements.specs.Tree.{BreakIf, Selector, default_selector, selected}
use Rattle.wgsl_simple_statements.specs.View.{break_if_tree, selector_tree}
use Rattle.wgsl_statements.specs.declared.statement.Statement.{Statement}
use Rattle.wgsl_statements.specs.declared.statement.CompoundStatementOf.{CompoundStatementOf}
use Rattle.wgsl_statements.specs.declared.statement.ElseIfClauseOf.{ElseIfClauseOf}
use Rattle.wgsl_statements.specs.declared.statement.SwitchClauseOf.{SwitchClauseOf}
use Rattle.wgsl_statements.specs.Tree.{Stms, Block, block, Clauses, no_clauses, switch_clause, continuing_statement}
use Rattle.wgsl_statements.specs.View.{statement_tree, statements_tree, block_tree, clauses_layer}
use Rattle.wgsl_print_laws.specs.Tokens.{mark, exp_tokens}
use Rattle.wgsl_print_laws.specs.Printable.{AreSpelled, is_apart}
use Rattle.wgsl_print_laws.specs.Attributes.{an_attribute}
use Rattle.wgsl_print_laws.specs.Imports.{AttributesTokens, no_attributes, attributes_and}
use Rattle.wgsl_print_laws.specs.Simple.{selector_tokens, more_selectors_tokens, selectors_tokens, case_tokens, selector_is_apart, selectors_are_apart}
use Rattle.wgsl_print_laws.specs.Statements.{BreakIfTokens, a_break_if as tokens_of_break_if, in_braces, StmsTokens, BlockTokens, a_block as tokens_of_block, ClausesTokens, no_clause, clause_and, an_end}
use Rattle.wgsl_grammar_tables.specs.Grammars.{Symbol, token, phrase}
use Rattle.wgsl_semantic_values.specs.Reading.{attributes_of}
use Rattle.wgsl_semantic_values.specs.declared.part.Part.{Part}
use Rattle.wgsl_semantic_values.specs.declared.part.Part.TheVariants as part
use Rattle.wgsl_semantic_values.specs.declared.label.Label.TheVariants as l
use Rattle.wgsl_semantic_values.specs.declared.label.ClauseLabel.TheVariants as label
use Rattle.wgsl_parser.specs.Phrase.{Phrase}
use Rattle.wgsl_semantic_values.specs.Lists as lists
use Rattle.wgsl_parser.specs.Reading.{statements_of, break_if_in}
use Rattle.wgsl_parser.specs.Statements as make
use Rattle.wgsl_grammar_tables.specs.Classes.{fixed_class}
use Rattle.wgsl_parser.specs.Phrases.{leaf}
use Rattle.wgsl_read_back.proofs.Views.{View, view_tokens, Stands, an_expression, a_block, an_else, an_else_if, some_else_ifs, a_selector, some_selectors, a_clause, some_clauses, an_ending, a_break_if}
use Rattle.wgsl_read_back.proofs.Views as v
use Rattle.wgsl_read_back.proofs.Items.{BeginsOutside, begins_then, Back, CutList, OneToken, Again}
use Rattle.wgsl_read_back.proofs.Rows.{make_of, Rebuild}
use Rattle.wgsl_read_back.proofs.Pieces.{StandAll, Pieces, end, a_mark, a_part, some_lines, a_cut_list, outside_gone, mark_added, Fine, pieces_steps, Lined, lined_of, again_of, likewise_of, Made, made_as, pieces_back, pieces_lined, of_no_part, of_one_part, of_two_parts, of_three_parts, more_back, phrase_back}
use Rattle.wgsl_read_back.proofs.Families.{Expressed, mark_item, mark_tokens}
use Rattle.wgsl_read_back.proofs.Operands.{both}
use Rattle.wgsl_read_back.proofs.Lists.{separated_back, cut_without, cut_with}
use Rattle.wgsl_read_back.proofs.AttributeRows.{attributes_are}
use Rattle.wgsl_read_back.proofs.Blocks.{Blocked, Otherwise, ElseIfRead, else_if_tokens, ElseIfsTokens, no_else_ifs, else_ifs_and, ElseIfsRead, Selected, SelectorsSeparated, SelectorsListed, clause_tokens, Claused, ClausesRead, BrokenIf, Continued}

-- ---- what parts say that may be absent

pub statements_are : (p : Part) (xs : Stms) (ts : List TemplateToken) → Stands p (v.statements xs ts) → statements_tree (statements_of p) ≡ xs
statements_are p xs ts (v.some_statements ys is trees) = ap (λ z. statements_tree (statements_of z)) is ∙ trees
statements_are p _ _ (v.no_statements is) = ap (λ z. statements_tree (statements_of z)) is

pub break_if_is : (p : Part) (o : Option BreakIf) (ts : List TemplateToken) → Stands p (v.break_if o ts) → option_map break_if_tree (break_if_in p) ≡ o
break_if_is p _ ts (a_break_if y is tree) = ap (λ z. option_map break_if_tree (break_if_in z)) is ∙ ap Some tree
break_if_is p _ _ (v.no_break_if is) = ap (λ z. option_map break_if_tree (break_if_in z)) is

pub block_part : (p : Part) (b : Block) (ts : List TemplateToken) → Stands p (v.block b ts) → (y : CompoundStatementOf Statement) × (p ≡ part.Block y) × (block_tree y ≡ b)
block_part p b ts (a_block y is tree) = (y, is, tree)

-- ---- blocks

-- in front of a brace stand attributes, or nothing
pub brace_begins : {xs : List Attr} {ts : List TemplateToken} (us : List TemplateToken) → AttributesTokens xs ts → BeginsOutside (ts ++ in_braces us)
brace_begins us no_attributes ws = refl
brace_begins us (attributes_and (an_attribute a b c) h) ws = refl

pub mark_begins : (g : Fixed) → BeginsOutside (mark g ∷ []) → (u w : List SpannedTemplateToken) {x : Phrase Part} → OneToken (fixed_class g) u x → BeginsOutside (without_places (u ++ w))
mark_begins g h u w k = begins_then u w (λ us. ap (λ z. begins_outside (z ++ us)) (mark_tokens g k) ∙ h us)

block_made : (xs : List Attr) (ss : Stms) (ts us vs : List TemplateToken) (qs : List Part) → StandAll qs (v.attributes xs ts ∷ v.statements ss us ∷ []) → Made (l.Clause label.Block) qs (v.block (block xs ss) vs)
block_made xs ss ts us vs = of_two_parts (λ qs. Made (l.Clause label.Block) qs (v.block (block xs ss) vs)) (λ p q h g.
    made_as (l.Clause label.Block) (p ∷ q ∷ []) (v.block (block xs ss) vs) (λ s. part.Block (record { attributes = attributes_of p; statements = statements_of q })) (λ s. refl)
    (λ s. a_block _ refl (λ i. block (attributes_are p xs ts h i) (statements_are q ss us g i))) (λ s. refl) refl)

pub block_of : (n : ℕ) {ss : List Symbol} {ns : List ℕ} {r : Symbol} {rs : List Symbol} {ms : List ℕ} (read : Rebuild n ss (l.Clause label.Block) ns) (rebuild : Rebuild n (r ∷ rs) (l.Clause label.Block) ms) {u : List SpannedTemplateToken} {x : Phrase Part} {ys : List (Phrase Part)} {xs : List Attr} {body : Stms} (ts us : List TemplateToken)
    → AttributesTokens xs ts → StmsTokens body us → (p : Pieces ss ns (r ∷ rs) ms (ts ++ in_braces us) (v.attributes xs ts ∷ v.statements body us ∷ []) u (x ∷ ys)) → (fine : (b : Before) (o : List Bool) → Fine p b o)
    → ((b : Before) (o : List Bool) → (pieces_steps p b o (fine b o)).opened ≡ o) → ((b : Before) (o : List Bool) → (pieces_steps p b o (fine b o)).last ≡ outside) → BeginsOutside (without_places u) → Blocked n u (make_of (l.Clause label.Block) ns (x ∷ ys))
block_of n {ss = ss} {ns = ns} {r = r} {rs = rs} {ms = ms} read rebuild {xs = xs} {body = body} ts us h g p fine level ended begins = (
  block xs body,
  ts ++ in_braces us,
  tokens_of_block h g,
  brace_begins us h,
  pieces_back n ss ns r rs ms (l.Clause label.Block) read rebuild (v.block (block xs body) (ts ++ in_braces us)) p refl (block_made xs body ts us (ts ++ in_braces us)) fine level ended,
  begins,
)

-- ---- `else`

pub else_block : (n m : ℕ) → Rebuild n (token (fixed_class f.Else) ∷ phrase m ∷ []) l.Pass (1 ∷ 2 ∷ []) → {a b : List SpannedTemplateToken} {x y : Phrase Part} → OneToken (fixed_class f.Else) a x → Blocked m b y
    → Otherwise n (a ++ (b ++ [])) (make_of l.Pass (1 ∷ 2 ∷ []) (x ∷ y ∷ []))
else_block n m rebuild {a = a} {x = x} k g = (
  g.0,
  g.1,
  g.2,
  pieces_back n (token (fixed_class f.Else) ∷ phrase m ∷ []) (1 ∷ 2 ∷ []) (token (fixed_class f.Else)) (phrase m ∷ []) (1 ∷ 2 ∷ []) l.Pass rebuild rebuild (v.otherwise (Some g.0) (mark f.Else ∷ g.1)) (a_mark (mark_item f.Else a x k) (a_part g.4 end))
      (ap (λ z. mark f.Else ∷ z) (append-nil g.1)) (makes g.0 g.1 (mark f.Else ∷ g.1)) (λ b o. tt) (λ b o. refl) (λ b o. g.4.ended _ _),
)
  where
    makes : (b : Block) (ts us : List TemplateToken) (qs : List Part) → StandAll qs (v.block b ts ∷ []) → Made l.Pass qs (v.otherwise (Some b) us)
    makes b ts us = of_one_part (λ qs. Made l.Pass qs (v.otherwise (Some b) us)) go
      where
        go : (p : Part) → Stands p (v.block b ts) → Made l.Pass (p ∷ []) (v.otherwise (Some b) us)
        go p (a_block y is tree) = made_as l.Pass (p ∷ []) (v.otherwise (Some b) us) (λ s. part.Block y) (λ s. is) (λ s. an_else y refl tree) (λ s. refl) refl

abbrev pub else_if_row : ℕ → ℕ → List Symbol
else_if_row m r = token (fixed_class f.Else) ∷ token (fixed_class f.If) ∷ phrase m ∷ phrase r ∷ []

pub else_if_read : (n m r : ℕ) → Rebuild n (else_if_row m r) (l.Clause label.ElseIf) (1 ∷ 1 ∷ 2 ∷ 2 ∷ []) → {a b c d : List SpannedTemplateToken} {x y z w : Phrase Part} → OneToken (fixed_class f.Else) a x → OneToken (fixed_class f.If) b y → Expressed m c z → Blocked r d w
    → ElseIfRead n (a ++ (b ++ (c ++ (d ++ [])))) (make_of (l.Clause label.ElseIf) (1 ∷ 1 ∷ 2 ∷ 2 ∷ []) (x ∷ y ∷ z ∷ w ∷ []))
else_if_read n m r rebuild {a = a} {b = b} {x = x} {y = y} i j e g = (
  e.0,
  g.0,
  g.1,
  e.1,
  g.2,
  pieces_back n (else_if_row m r) (1 ∷ 1 ∷ 2 ∷ 2 ∷ []) (token (fixed_class f.Else)) (token (fixed_class f.If) ∷ phrase m ∷ phrase r ∷ []) (1 ∷ 1 ∷ 2 ∷ 2 ∷ []) (l.Clause label.ElseIf) rebuild rebuild (v.else_if e.0 g.0 (else_if_tokens e.0 g.1))
      (a_mark (mark_item f.Else a x i) (a_mark (mark_item f.If b y j) (a_part e.2 (a_part g.4 end)))) (λ i. mark f.Else ∷ mark f.If ∷ (exp_tokens e.0 ++ append-nil g.1 i)) (makes e.0 g.0 g.1 (else_if_tokens e.0 g.1)) (λ b o. tt) (λ b o. refl) (λ b o. g.4.ended _ _),
)
  where
    makes : (e : Exp) (b : Block) (ts us : List TemplateToken) (qs : List Part) → StandAll qs (v.expression e ∷ v.block b ts ∷ []) → Made (l.Clause label.ElseIf) qs (v.else_if e b us)
    makes e b ts us = of_two_parts (λ qs. Made (l.Clause label.ElseIf) qs (v.else_if e b us)) go
      where
        go : (p q : Part) → Stands p (v.expression e) → Stands q (v.block b ts) → Made (l.Clause label.ElseIf) (p ∷ q ∷ []) (v.else_if e b us)
        go p q (an_expression n is same) (a_block y at tree) =
            made_as (l.Clause label.ElseIf) (p ∷ q ∷ []) (v.else_if e b us) (λ s. part.ElseIf (record { expression = n; body = y })) (λ s i. make.else_if (is i ∷ at i ∷ [])) (λ s. an_else_if _ refl same tree) (λ s. refl) refl

else_ifs_last : {es : List (Exp × Block)} {ts : List TemplateToken} (e : Exp) (b : Block) (us : List TemplateToken) → ElseIfsTokens es ts → is_apart e ≡ true → BlockTokens b us → ElseIfsTokens (es ++ ((e, b) ∷ [])) (ts ++ else_if_tokens e us)
else_ifs_last e b us no_else_ifs h g = subst (ElseIfsTokens ((e, b) ∷ [])) (append-nil (else_if_tokens e us)) (else_ifs_and h g no_else_ifs)
else_ifs_last e b us (else_ifs_and {e = d} {b = c} {es = es} {ts = ts} {us = vs} i j k) h g =
    subst (ElseIfsTokens ((d, c) ∷ (es ++ ((e, b) ∷ [])))) (sym (append_assoc (else_if_tokens d ts) vs (else_if_tokens e us))) (else_ifs_and i j (else_ifs_last e b us k h g))

abbrev else_if_pair : ElseIfClauseOf Statement → Exp × Block
else_if_pair y = (node_tree y.expression, block_tree y.body)

pub first_else_if : (n m : ℕ) → Rebuild n (phrase m ∷ []) l.First (2 ∷ []) → {u : List SpannedTemplateToken} {x : Phrase Part} → ElseIfRead m u x → ElseIfsRead n (u ++ []) (make_of l.First (2 ∷ []) (x ∷ []))
first_else_if n m rebuild g =
    let ts : List TemplateToken = else_if_tokens g.0 g.2 in (
      (g.0, g.1),
      [],
      ts,
      subst (ElseIfsTokens ((g.0, g.1) ∷ [])) (append-nil ts) (else_ifs_and g.3 g.4 no_else_ifs),
      phrase_back n m l.First rebuild (v.else_ifs ((g.0, g.1) ∷ []) ts) g.5 (append-nil ts) (makes g.0 g.1 ts) (λ b o. g.5.ended _ _),
    )
  where
    makes : (e : Exp) (b : Block) (ts : List TemplateToken) (p : Part) → Stands p (v.else_if e b ts) → Made l.First (p ∷ []) (v.else_ifs ((e, b) ∷ []) ts)
    makes e b ts p (an_else_if y is same tree) = made_as l.First (p ∷ []) (v.else_ifs ((e, b) ∷ []) ts) (λ s. part.ElseIfs (y ∷ [])) (λ s i. lists.started (is i)) (λ s. some_else_ifs (y ∷ []) refl (λ i. (same i, tree i) ∷ [])) (λ s. refl) refl

pub more_else_ifs : (n m : ℕ) → Rebuild n (phrase n ∷ phrase m ∷ []) l.More (2 ∷ 2 ∷ []) → {a b : List SpannedTemplateToken} {x y : Phrase Part} → ElseIfsRead n a x → ElseIfRead m b y → ElseIfsRead n (a ++ (b ++ [])) (make_of l.More (2 ∷ 2 ∷ []) (x ∷ y ∷ []))
more_else_ifs n m rebuild g h =
    let ts : List TemplateToken = else_if_tokens h.0 h.2 in (
      g.0,
      g.1 ++ ((h.0, h.1) ∷ []),
      g.2 ++ ts,
      else_ifs_last h.0 h.1 h.2 g.3 h.3 h.4,
      more_back n m rebuild (v.else_ifs (g.0 ∷ (g.1 ++ ((h.0, h.1) ∷ []))) (g.2 ++ ts)) g.4 h.5 (ap (λ z. g.2 ++ z) (append-nil ts)) (makes g.0 g.1 g.2 h.0 h.1 ts) (λ b o. h.5.ended _ _),
    )
  where
    makes : (d : Exp × Block) (es : List (Exp × Block)) (ts : List TemplateToken) (e : Exp) (b : Block) (us : List TemplateToken) (p q : Part) → Stands p (v.else_ifs (d ∷ es) ts) → Stands q (v.else_if e b us) → Made l.More (p ∷ q ∷ []) (v.else_ifs (d ∷ (es ++ ((e, b) ∷ []))) (ts ++ us))
    makes d es ts e b us p q (some_else_ifs ys is trees) (an_else_if y at same tree) =
        made_as l.More (p ∷ q ∷ []) (v.else_ifs (d ∷ (es ++ ((e, b) ∷ []))) (ts ++ us)) (λ s. part.ElseIfs (ys ++ (y ∷ []))) (λ s i. lists.joined (is i) (at i)) (λ s. some_else_ifs (ys ++ (y ∷ [])) refl (map-append else_if_pair ys (y ∷ []) ∙ (λ i. trees i ++ ((same i, tree i) ∷ [])))) (λ s. refl) refl

-- ---- selectors

pub default_selected : (n : ℕ) → Rebuild n (token (fixed_class f.Default) ∷ []) (l.Clause label.DefaultSelector) (1 ∷ []) → {u : List SpannedTemplateToken} {x : Phrase Part} → OneToken (fixed_class f.Default) u x → Selected n (u ++ []) (make_of (l.Clause label.DefaultSelector) (1 ∷ []) (x ∷ []))
default_selected n rebuild {u = u} {x = x} k = (
  default_selector,
  refl,
  pieces_back n (token (fixed_class f.Default) ∷ []) (1 ∷ []) (token (fixed_class f.Default)) [] (1 ∷ []) (l.Clause label.DefaultSelector) rebuild rebuild (v.selector default_selector) (a_mark (mark_item f.Default u x k) end) refl
      (of_no_part (λ qs. Made (l.Clause label.DefaultSelector) qs (v.selector default_selector))
      (made_as (l.Clause label.DefaultSelector) [] (v.selector default_selector) (λ s. part.Selector selectors.Default) (λ s. refl) (λ s. a_selector selectors.Default refl refl) (λ s. refl) refl)) (λ b o. tt) (λ b o. refl) (λ b o. tt),
)

pub expression_selected : (n m : ℕ) → Rebuild n (phrase m ∷ []) (l.Clause label.Selector) (2 ∷ []) → {u : List SpannedTemplateToken} {x : Phrase Part} → Expressed m u x → Selected n (u ++ []) (make_of (l.Clause label.Selector) (2 ∷ []) (x ∷ []))
expression_selected n m rebuild g = (
  selected g.0,
  g.1,
  phrase_back n m (l.Clause label.Selector) rebuild (v.selector (selected g.0)) g.2 (append-nil (exp_tokens g.0)) (makes g.0) (λ b o. tt),
)
  where
    makes : (e : Exp) (p : Part) → Stands p (v.expression e) → Made (l.Clause label.Selector) (p ∷ []) (v.selector (selected e))
    makes e p (an_expression y is same) =
        made_as (l.Clause label.Selector) (p ∷ []) (v.selector (selected e)) (λ s. part.Selector (selectors.Expression y)) (λ s i. make.selector (is i ∷ [])) (λ s. a_selector (selectors.Expression y) refl (ap selected same)) (λ s. refl) refl

pub first_selector : (n m : ℕ) → Rebuild n (phrase m ∷ []) l.First (2 ∷ []) → {u : List SpannedTemplateToken} {x : Phrase Part} → Selected m u x → SelectorsSeparated n (u ++ []) (make_of l.First (2 ∷ []) (x ∷ []))
first_selector n m rebuild g = (
  g.0,
  [],
  both (selector_is_apart g.0) true g.1 refl,
  phrase_back n m l.First rebuild (v.selectors (g.0 ∷ [])) g.2 refl (makes g.0) (λ b o. tt),
)
  where
    makes : (x : Selector) (p : Part) → Stands p (v.selector x) → Made l.First (p ∷ []) (v.selectors (x ∷ []))
    makes x p (a_selector y is tree) = made_as l.First (p ∷ []) (v.selectors (x ∷ [])) (λ s. part.Selectors (y ∷ [])) (λ s i. lists.started (is i)) (λ s. some_selectors (y ∷ []) refl (λ i. tree i ∷ [])) (λ s. refl) refl

selectors_last : (xs : List Selector) (y : Selector) → more_selectors_tokens (xs ++ (y ∷ [])) ≡ more_selectors_tokens xs ++ (comma ∷ selector_tokens y)
selectors_last [] y = ap (λ z. comma ∷ z) (append-nil (selector_tokens y))
selectors_last (x ∷ xs) y = ap (λ z. comma ∷ (selector_tokens x ++ z)) (selectors_last xs y) ∙ ap (λ z. comma ∷ z) (sym (append_assoc (selector_tokens x) (more_selectors_tokens xs) (comma ∷ selector_tokens y)))

apart_last : (xs : List Selector) (y : Selector) → selectors_are_apart xs ≡ true → selector_is_apart y ≡ true → selectors_are_apart (xs ++ (y ∷ [])) ≡ true
apart_last [] y h g = both (selector_is_apart y) true g refl
apart_last (x ∷ xs) y h g = let p = and_parts (selector_is_apart x) (selectors_are_apart xs) h in both (selector_is_apart x) (selectors_are_apart (xs ++ (y ∷ []))) p.0 (apart_last xs y p.1 g)

pub more_selectors : (n m : ℕ) → Rebuild n (phrase n ∷ token (fixed_class f.Comma) ∷ phrase m ∷ []) l.More (2 ∷ 1 ∷ 2 ∷ []) → {a b c : List SpannedTemplateToken} {x y z : Phrase Part} → SelectorsSeparated n a x → OneToken (fixed_class f.Comma) b y → Selected m c z
    → SelectorsSeparated n (a ++ (b ++ (c ++ []))) (make_of l.More (2 ∷ 1 ∷ 2 ∷ []) (x ∷ y ∷ z ∷ []))
more_selectors n m rebuild g k h = (
  g.0,
  g.1 ++ (h.0 ∷ []),
  apart_last (g.0 ∷ g.1) h.0 g.2 h.1,
  separated_back n m rebuild (v.selectors (g.0 ∷ (g.1 ++ (h.0 ∷ [])))) g.3 k h.2
      (append_assoc (selector_tokens g.0) (more_selectors_tokens g.1) (comma ∷ (selector_tokens h.0 ++ [])) ∙ ap (λ z. selector_tokens g.0 ++ (more_selectors_tokens g.1 ++ (comma ∷ z))) (append-nil (selector_tokens h.0)) ∙ ap (λ z. selector_tokens g.0 ++ z) (sym (selectors_last g.1 h.0)))
      (makes g.0 g.1 h.0) (λ b o. tt),
)
  where
    makes : (x : Selector) (xs : List Selector) (y : Selector) (p q : Part) → Stands p (v.selectors (x ∷ xs)) → Stands q (v.selector y) → Made l.More (p ∷ q ∷ []) (v.selectors (x ∷ (xs ++ (y ∷ []))))
    makes x xs y p q (some_selectors ys is trees) (a_selector k at tree) =
        made_as l.More (p ∷ q ∷ []) (v.selectors (x ∷ (xs ++ (y ∷ [])))) (λ s. part.Selectors (ys ++ (k ∷ []))) (λ s i. lists.joined (is i) (at i))
        (λ s. some_selectors (ys ++ (k ∷ [])) refl (map-append selector_tree ys (k ∷ []) ∙ (λ i. trees i ++ (tree i ∷ [])))) (λ s. refl) refl

pub selectors_without : (n m : ℕ) → Rebuild n (phrase m ∷ []) l.Pass (2 ∷ []) → {u : List SpannedTemplateToken} {x : Phrase Part} → SelectorsSeparated m u x → SelectorsListed n (u ++ []) (make_of l.Pass (2 ∷ []) (x ∷ []))
selectors_without n m rebuild g = (g.0, g.1, g.2, cut_without n m (v.selectors (g.0 ∷ g.1)) rebuild g.3)

pub selectors_with : (n m : ℕ) → Rebuild n (phrase m ∷ token (fixed_class f.Comma) ∷ []) l.Pass (2 ∷ 1 ∷ []) → Rebuild n (phrase m ∷ []) l.Pass (2 ∷ []) → {a b : List SpannedTemplateToken} {x y : Phrase Part} → SelectorsSeparated m a x → OneToken (fixed_class f.Comma) b y → SelectorsListed n (a ++ (b ++ [])) (make_of l.Pass (2 ∷ 1 ∷ []) (x ∷ y ∷ []))
selectors_with n m read rebuild g k = (g.0, g.1, g.2, cut_with n m (v.selectors (g.0 ∷ g.1)) read rebuild g.3 k)

-- ---- what ends a loop

pub break_if_read : (n m : ℕ) → Rebuild n (token (fixed_class f.Break) ∷ token (fixed_class f.If) ∷ phrase m ∷ token (fixed_class f.Semicolon) ∷ []) (l.Clause label.BreakIf) (1 ∷ 1 ∷ 2 ∷ 1 ∷ []) → {a b c d : List SpannedTemplateToken} {x y z w : Phrase Part}
    → OneToken (fixed_class f.Break) a x → OneToken (fixed_class f.If) b y → Expressed m c z → OneToken (fixed_class f.Semicolon) d w → BrokenIf n (a ++ (b ++ (c ++ (d ++ [])))) (make_of (l.Clause label.BreakIf) (1 ∷ 1 ∷ 2 ∷ 1 ∷ []) (x ∷ y ∷ z ∷ w ∷ []))
break_if_read n m rebuild {a = a} {b = b} {d = d} {x = x} {y = y} {w = w} i j e k =
    let o : BreakIf = record { attributes = []; condition = e.0 } in
    let ts : List TemplateToken = mark f.Break ∷ mark f.If ∷ (exp_tokens e.0 ++ (mark f.Semicolon ∷ [])) in (
      o,
      ts,
      tokens_of_break_if e.1,
      pieces_back n (token (fixed_class f.Break) ∷ token (fixed_class f.If) ∷ phrase m ∷ token (fixed_class f.Semicolon) ∷ []) (1 ∷ 1 ∷ 2 ∷ 1 ∷ []) (token (fixed_class f.Break)) (token (fixed_class f.If) ∷ phrase m ∷ token (fixed_class f.Semicolon) ∷ []) (1 ∷ 1 ∷ 2 ∷ 1 ∷ []) (l.Clause label.BreakIf) rebuild rebuild (v.break_if (Some o) ts)
          (a_mark (mark_item f.Break a x i) (a_mark (mark_item f.If b y j) (a_part e.2 (a_mark (mark_item f.Semicolon d w k) end)))) refl (makes e.0 ts) (λ b o. tt) (λ b o. refl) (λ b o. refl),
    )
  where
    makes : (e : Exp) (ts : List TemplateToken) (qs : List Part) → StandAll qs (v.expression e ∷ []) → Made (l.Clause label.BreakIf) qs (v.break_if (Some (record { attributes = []; condition = e })) ts)
    makes e ts = of_one_part (λ qs. Made (l.Clause label.BreakIf) qs (v.break_if (Some (record { attributes = []; condition = e })) ts)) go
      where
        go : (p : Part) → Stands p (v.expression e) → Made (l.Clause label.BreakIf) (p ∷ []) (v.break_if (Some (record { attributes = []; condition = e })) ts)
        go p (an_expression y is same) =
            made_as (l.Clause label.BreakIf) (p ∷ []) (v.break_if (Some (record { attributes = []; condition = e })) ts) (λ s. part.BreakIf (record { attributes = []; expression = y })) (λ s i. make.break_where (is i ∷ [])) (λ s. a_break_if _ refl (λ i. record { attributes = []; condition = same i })) (λ s. refl) refl

continuing_made : (xs : List Attr) (ss : Stms) (o : Option BreakIf) (ts us vs ws : List TemplateToken) (qs : List Part) → StandAll qs (v.attributes xs ts ∷ v.statements ss us ∷ v.break_if o vs ∷ []) → Made (l.Clause label.Continuing) qs (v.ending (continuing_statement [] (block xs ss) o) ws)
continuing_made xs ss o ts us vs ws = of_three_parts (λ qs. Made (l.Clause label.Continuing) qs (v.ending (continuing_statement [] (block xs ss) o) ws)) (λ p q r h g k.
    made_as (l.Clause label.Continuing) (p ∷ q ∷ r ∷ []) (v.ending (continuing_statement [] (block xs ss) o) ws)
    (λ s. part.Continuing (record { attributes = []; body = record { attributes = attributes_of p; statements = statements_of q }; break_if = break_if_in r })) (λ s. refl)
    (λ s. an_ending _ refl (λ i. continuing_statement [] (block (attributes_are p xs ts h i) (statements_are q ss us g i)) (break_if_is r o vs k i))) (λ s. refl) refl)

pub continuing_of : (n : ℕ) {ss : List Symbol} {ns : List ℕ} {r : Symbol} {rs : List Symbol} {ms : List ℕ} (read : Rebuild n ss (l.Clause label.Continuing) ns) (rebuild : Rebuild n (r ∷ rs) (l.Clause label.Continuing) ms) {u : List SpannedTemplateToken} {x : Phrase Part} {ys : List (Phrase Part)} {xs : List Attr} {body : Stms} {o : Option BreakIf} (ts us vs : List TemplateToken)
    → AttributesTokens xs ts → StmsTokens body us → BreakIfTokens o vs → (p : Pieces ss ns (r ∷ rs) ms (mark f.Continuing ∷ (ts ++ (mark f.BraceLeft ∷ (us ++ (vs ++ (mark f.BraceRight ∷ [])))))) (v.attributes xs ts ∷ v.statements body us ∷ v.break_if o vs ∷ []) u (x ∷ ys))
    → (fine : (b : Before) (q : List Bool) → Fine p b q) → ((b : Before) (q : List Bool) → (pieces_steps p b q (fine b q)).opened ≡ q) → ((b : Before) (q : List Bool) → (pieces_steps p b q (fine b q)).last ≡ outside) → Continued n u (make_of (l.Clause label.Continuing) ns (x ∷ ys))
continuing_of n {ss = ss} {ns = ns} {r = r} {rs = rs} {ms = ms} read rebuild {xs = xs} {body = body} {o = o} ts us vs h g k p fine level ended =
    let ws : List TemplateToken = mark f.Continuing ∷ (ts ++ in_braces (us ++ vs)) in (
      continuing_statement [] (block xs body) o,
      ws,
      an_end h g k,
      pieces_back n ss ns r rs ms (l.Clause label.Continuing) read rebuild (v.ending (continuing_statement [] (block xs body) o) ws) p (ap (λ z. mark f.Continuing ∷ (ts ++ (mark f.BraceLeft ∷ z))) (sym (append_assoc us vs (mark f.BraceRight ∷ []))))
          (continuing_made xs body o ts us vs ws) fine level ended,
    )

-- ---- clauses of `switch`

colon_spelled : AreSpelled (mark f.Colon ∷ [])
unfolding form token_form fixed_of
colon_spelled = (record { characters = 58 ∷ []; scalars = refl; forms = refl }, tt)

case_made : (xs : List Selector) (b : Block) (ts us : List TemplateToken) (qs : List Part) → StandAll qs (v.selectors xs ∷ v.block b ts ∷ []) → Made (l.Clause label.Case) qs (v.clause xs b us)
case_made xs b ts us = of_two_parts (λ qs. Made (l.Clause label.Case) qs (v.clause xs b us)) go
  where
    go : (p q : Part) → Stands p (v.selectors xs) → Stands q (v.block b ts) → Made (l.Clause label.Case) (p ∷ q ∷ []) (v.clause xs b us)
    go p q (some_selectors ys is trees) (a_block y at tree) =
        made_as (l.Clause label.Case) (p ∷ q ∷ []) (v.clause xs b us) (λ s. part.Clause (record { case_selectors = ys; body = y })) (λ s i. make.case_clause (is i ∷ at i ∷ [])) (λ s. a_clause _ refl trees tree) (λ s. refl) refl

default_made : (b : Block) (ts us : List TemplateToken) (qs : List Part) → StandAll qs (v.block b ts ∷ []) → Made (l.Clause label.Default) qs (v.clause (default_selector ∷ []) b us)
default_made b ts us = of_one_part (λ qs. Made (l.Clause label.Default) qs (v.clause (default_selector ∷ []) b us)) go
  where
    go : (q : Part) → Stands q (v.block b ts) → Made (l.Clause label.Default) (q ∷ []) (v.clause (default_selector ∷ []) b us)
    go q (a_block y at tree) =
        made_as (l.Clause label.Default) (q ∷ []) (v.clause (default_selector ∷ []) b us) (λ s. part.Clause (record { case_selectors = selectors.Default ∷ []; body = y })) (λ s i. make.default_clause (at i ∷ [])) (λ s. a_clause _ refl refl tree) (λ s. refl) refl

-- `default`, printed with a colon
abbrev pub default_row : ℕ → List Symbol
default_row m = token (fixed_class f.Default) ∷ token (fixed_class f.Colon) ∷ phrase m ∷ []

abbrev pub bare_default_row : ℕ → List Symbol
bare_default_row m = token (fixed_class f.Default) ∷ phrase m ∷ []

abbrev pub case_row : ℕ → ℕ → List Symbol
case_row m r = token (fixed_class f.Case) ∷ phrase r ∷ token (fixed_class f.Colon) ∷ phrase m ∷ []

abbrev pub bare_case_row : ℕ → ℕ → List Symbol
bare_case_row m r = token (fixed_class f.Case) ∷ phrase r ∷ phrase m ∷ []

module _ (n m : ℕ) (colon : Rebuild n (default_row m) (l.Clause label.Default) (1 ∷ 1 ∷ 2 ∷ [])) where
  pub default_with : {a b c : List SpannedTemplateToken} {x y z : Phrase Part} → OneToken (fixed_class f.Default) a x → OneToken (fixed_class f.Colon) b y → Blocked m c z → Claused n (a ++ (b ++ (c ++ []))) (make_of (l.Clause label.Default) (1 ∷ 1 ∷ 2 ∷ []) (x ∷ y ∷ z ∷ []))
  default_with {a = a} {b = b} {x = x} {y = y} i k g = (
    default_selector ∷ [],
    g.0,
    g.1,
    refl,
    g.2,
    pieces_lined n (default_row m) (1 ∷ 1 ∷ 2 ∷ []) (token (fixed_class f.Default)) (token (fixed_class f.Colon) ∷ phrase m ∷ []) (1 ∷ 1 ∷ 2 ∷ []) (l.Clause label.Default) colon colon (v.clause (default_selector ∷ []) g.0 (clause_tokens (default_selector ∷ []) g.1))
        (a_mark (mark_item f.Default a x i) (a_mark (mark_item f.Colon b y k) (a_part g.4 end))) (ap (λ z. mark f.Default ∷ mark f.Colon ∷ z) (append-nil g.1)) (default_made g.0 g.1 (clause_tokens (default_selector ∷ []) g.1)) (λ o. tt) (λ o. refl) (λ o. g.4.ended _ _),
  )

  pub default_without : Rebuild n (bare_default_row m) (l.Clause label.Default) (1 ∷ 2 ∷ []) → {a c : List SpannedTemplateToken} {x z : Phrase Part} → OneToken (fixed_class f.Default) a x → Blocked m c z → Claused n (a ++ (c ++ [])) (make_of (l.Clause label.Default) (1 ∷ 2 ∷ []) (x ∷ z ∷ []))
  default_without read {a = a} {c = c} {x = x} i g = (
    default_selector ∷ [],
    g.0,
    g.1,
    refl,
    g.2,
    pieces_lined n (bare_default_row m) (1 ∷ 2 ∷ []) (token (fixed_class f.Default)) (token (fixed_class f.Colon) ∷ phrase m ∷ []) (1 ∷ 1 ∷ 2 ∷ []) (l.Clause label.Default) read colon (v.clause (default_selector ∷ []) g.0 (clause_tokens (default_selector ∷ []) g.1))
        (a_mark (mark_item f.Default a x i) (mark_added (mark f.Colon) colon_spelled refl (begins_then c [] g.5) (a_part g.4 end))) (ap (λ z. mark f.Default ∷ mark f.Colon ∷ z) (append-nil g.1)) (default_made g.0 g.1 (clause_tokens (default_selector ∷ []) g.1)) (λ o. tt) (λ o. refl) (λ o. g.4.ended _ _),
  )

  -- `case default`, which is printed as `default`
  a_place : Span
  a_place = record { start = 0; end = 0 }

  written : (g : Fixed) → let k : SpannedTemplateToken = record { token = mark g; span = a_place } in OneToken (fixed_class g) (k ∷ []) (leaf k)
  written g = record { one = record { token = mark g; span = a_place }; whole = refl; class = refl; value = refl }

  default_again : {b : Block} {ts : List TemplateToken} {c : List SpannedTemplateToken} {z : Phrase Part} → Back m (v.block b ts) c z → (w : List SpannedTemplateToken) → without_places w ≡ clause_tokens (default_selector ∷ []) ts
      → Again (phrase n) (v.clause (default_selector ∷ []) b (clause_tokens (default_selector ∷ []) ts)) w
  default_again {b = b} {ts = ts} g =
      again_of n (default_row m) (1 ∷ 1 ∷ 2 ∷ []) (token (fixed_class f.Default)) (token (fixed_class f.Colon) ∷ phrase m ∷ []) (1 ∷ 1 ∷ 2 ∷ []) (l.Clause label.Default) colon colon (v.clause (default_selector ∷ []) b (clause_tokens (default_selector ∷ []) ts))
      (a_mark (mark_item f.Default _ _ (written f.Default)) (a_mark (mark_item f.Colon _ _ (written f.Colon)) (a_part g end))) (ap (λ z. mark f.Default ∷ mark f.Colon ∷ z) (append-nil ts)) (default_made b ts (clause_tokens (default_selector ∷ []) ts))

  module _ (r : ℕ) (cased : Rebuild n (case_row m r) (l.Clause label.Case) (1 ∷ 2 ∷ 1 ∷ 2 ∷ [])) where
    -- of a clause that is printed with `case`
    case_lined : {ss : List Symbol} {ns : List ℕ} → Rebuild n ss (l.Clause label.Case) ns → {u : List SpannedTemplateToken} {x : Phrase Part} {ys : List (Phrase Part)} (xs : List Selector) (b : Block) (ts : List TemplateToken) → mark f.Case ∷ selectors_tokens xs ≡ case_tokens xs
        → (p : Pieces ss ns (case_row m r) (1 ∷ 2 ∷ 1 ∷ 2 ∷ []) (mark f.Case ∷ (selectors_tokens xs ++ (mark f.Colon ∷ (ts ++ [])))) (v.selectors xs ∷ v.block b ts ∷ []) u (x ∷ ys)) → (fine : (o : List Bool) → Fine p outside o)
        → ((o : List Bool) → (pieces_steps p outside o (fine o)).opened ≡ o) → ((o : List Bool) → (pieces_steps p outside o (fine o)).last ≡ outside) → Lined n (v.clause xs b (clause_tokens xs ts)) u (make_of (l.Clause label.Case) ns (x ∷ ys))
    case_lined {ss = ss} {ns = ns} read xs b ts same p fine level ended =
        pieces_lined n ss ns (token (fixed_class f.Case)) (phrase r ∷ token (fixed_class f.Colon) ∷ phrase m ∷ []) (1 ∷ 2 ∷ 1 ∷ 2 ∷ []) (l.Clause label.Case) read cased (v.clause xs b (clause_tokens xs ts)) p
        ((λ i. mark f.Case ∷ (selectors_tokens xs ++ (mark f.Colon ∷ append-nil ts i))) ∙ ap (λ z. z ++ (mark f.Colon ∷ ts)) same) (case_made xs b ts (clause_tokens xs ts)) fine level ended

    -- of one that is not
    lone_lined : {ss rs : List Symbol} {ns ms : List ℕ} → Rebuild n ss (l.Clause label.Case) ns → {u : List SpannedTemplateToken} {x : Phrase Part} {ys : List (Phrase Part)} {c : List SpannedTemplateToken} {z : Phrase Part} (b : Block) (ts : List TemplateToken) → Back m (v.block b ts) c z
        → (p : Pieces ss ns rs ms (mark f.Default ∷ (mark f.Colon ∷ (ts ++ []))) (v.selectors (default_selector ∷ []) ∷ v.block b ts ∷ []) u (x ∷ ys)) → (fine : (o : List Bool) → Fine p outside o)
        → ((o : List Bool) → (pieces_steps p outside o (fine o)).opened ≡ o) → ((o : List Bool) → (pieces_steps p outside o (fine o)).last ≡ outside)
        → Lined n (v.clause (default_selector ∷ []) b (clause_tokens (default_selector ∷ []) ts)) u (make_of (l.Clause label.Case) ns (x ∷ ys))
    lone_lined {ss = ss} {ns = ns} read b ts g p fine level ended =
        lined_of (l.Clause label.Case) ns (v.clause (default_selector ∷ []) b (clause_tokens (default_selector ∷ []) ts)) p (ap (λ z. mark f.Default ∷ mark f.Colon ∷ z) (append-nil ts)) (case_made (default_selector ∷ []) b ts (clause_tokens (default_selector ∷ []) ts)) (default_again g)
        (likewise_of n ss ns (l.Clause label.Case) read (v.clause (default_selector ∷ []) b (clause_tokens (default_selector ∷ []) ts)) p (case_made (default_selector ∷ []) b ts (clause_tokens (default_selector ∷ []) ts))) fine level ended

    pub case_with : {a b c d : List SpannedTemplateToken} {x y z w : Phrase Part} → OneToken (fixed_class f.Case) a x → SelectorsListed r b y → OneToken (fixed_class f.Colon) c z → Blocked m d w
        → Claused n (a ++ (b ++ (c ++ (d ++ [])))) (make_of (l.Clause label.Case) (1 ∷ 2 ∷ 1 ∷ 2 ∷ []) (x ∷ y ∷ z ∷ w ∷ []))
    case_with {a = a} {b = b} {c = c} {d = d} {x = x} {y = y} {z = z} {w = w} i s k g = (s.0 ∷ s.1, g.0, g.1, s.2, g.2, lined s.0 s.1 s.3)
      where
        lined : (q : Selector) (qs : List Selector) → CutList r (v.selectors (q ∷ qs)) b y → Lined n (v.clause (q ∷ qs) g.0 (clause_tokens (q ∷ qs) g.1)) (a ++ (b ++ (c ++ (d ++ [])))) (make_of (l.Clause label.Case) (1 ∷ 2 ∷ 1 ∷ 2 ∷ []) (x ∷ y ∷ z ∷ w ∷ []))
        lined default_selector [] h =
            lone_lined cased g.0 g.1 g.4 (outside_gone (mark f.Case) (mark_item f.Case a x i) (mark_tokens f.Case i) refl (a_cut_list h (mark_begins f.Colon (λ us. refl) c (d ++ []) k) (λ us. refl) (a_mark (mark_item f.Colon c z k) (a_part g.4 end))))
            (λ o. (refl, tt)) (λ o. refl) (λ o. g.4.ended _ _)
        lined default_selector (p ∷ ps) h =
            case_lined cased (default_selector ∷ p ∷ ps) g.0 g.1 refl (a_mark (mark_item f.Case a x i) (a_cut_list h (mark_begins f.Colon (λ us. refl) c (d ++ []) k) (λ us. refl) (a_mark (mark_item f.Colon c z k) (a_part g.4 end)))) (λ o. tt) (λ o. refl) (λ o. g.4.ended _ _)
        lined (selected e) qs h =
            case_lined cased (selected e ∷ qs) g.0 g.1 refl (a_mark (mark_item f.Case a x i) (a_cut_list h (mark_begins f.Colon (λ us. refl) c (d ++ []) k) (λ us. refl) (a_mark (mark_item f.Colon c z k) (a_part g.4 end)))) (λ o. tt) (λ o. refl) (λ o. g.4.ended _ _)

    pub case_without : Rebuild n (bare_case_row m r) (l.Clause label.Case) (1 ∷ 2 ∷ 2 ∷ []) → {a b d : List SpannedTemplateToken} {x y w : Phrase Part} → OneToken (fixed_class f.Case) a x → SelectorsListed r b y → Blocked m d w
        → Claused n (a ++ (b ++ (d ++ []))) (make_of (l.Clause label.Case) (1 ∷ 2 ∷ 2 ∷ []) (x ∷ y ∷ w ∷ []))
    case_without read {a = a} {b = b} {d = d} {x = x} {y = y} {w = w} i s g = (s.0 ∷ s.1, g.0, g.1, s.2, g.2, lined s.0 s.1 s.3)
      where
        lined : (q : Selector) (qs : List Selector) → CutList r (v.selectors (q ∷ qs)) b y → Lined n (v.clause (q ∷ qs) g.0 (clause_tokens (q ∷ qs) g.1)) (a ++ (b ++ (d ++ []))) (make_of (l.Clause label.Case) (1 ∷ 2 ∷ 2 ∷ []) (x ∷ y ∷ w ∷ []))
        lined default_selector [] h =
            lone_lined read g.0 g.1 g.4 (outside_gone (mark f.Case) (mark_item f.Case a x i) (mark_tokens f.Case i) refl (a_cut_list h (begins_then d [] g.5) (λ us. refl) (mark_added (mark f.Colon) colon_spelled refl (begins_then d [] g.5) (a_part g.4 end))))
            (λ o. (refl, tt)) (λ o. refl) (λ o. g.4.ended _ _)
        lined default_selector (p ∷ ps) h =
            case_lined read (default_selector ∷ p ∷ ps) g.0 g.1 refl (a_mark (mark_item f.Case a x i) (a_cut_list h (begins_then d [] g.5) (λ us. refl) (mark_added (mark f.Colon) colon_spelled refl (begins_then d [] g.5) (a_part g.4 end)))) (λ o. tt) (λ o. refl) (λ o. g.4.ended _ _)
        lined (selected e) qs h =
            case_lined read (selected e ∷ qs) g.0 g.1 refl (a_mark (mark_item f.Case a x i) (a_cut_list h (begins_then d [] g.5) (λ us. refl) (mark_added (mark f.Colon) colon_spelled refl (begins_then d [] g.5) (a_part g.4 end)))) (λ o. tt) (λ o. refl) (λ o. g.4.ended _ _)

-- ---- clauses in a row

abbrev pub clauses_last : Clauses → List Selector → Block → Clauses
clauses_last no_clauses xs b = switch_clause xs b no_clauses
clauses_last (switch_clause ys c more) xs b = switch_clause ys c (clauses_last more xs b)

layer_last : (ys : List (SwitchClauseOf Statement)) (y : SwitchClauseOf Statement) → clauses_layer statement_tree (ys ++ (y ∷ [])) ≡ clauses_last (clauses_layer statement_tree ys) (map selector_tree y.case_selectors) (block_tree y.body)
layer_last [] y = refl
layer_last (z ∷ ys) y = ap (λ k. switch_clause (map selector_tree z.case_selectors) (block_tree z.body) k) (layer_last ys y)

clause_alone : (xs : List Selector) (b : Block) (ts : List TemplateToken) → selectors_are_apart xs ≡ true → BlockTokens b ts → ClausesTokens (switch_clause xs b no_clauses) (clause_tokens xs ts)
clause_alone xs b ts h g = subst (ClausesTokens (switch_clause xs b no_clauses)) (ap (λ z. case_tokens xs ++ (mark f.Colon ∷ z)) (append-nil ts)) (clause_and h g no_clause)

clauses_tokens_last : {cs : Clauses} {ts : List TemplateToken} (xs : List Selector) (b : Block) (us : List TemplateToken) → ClausesTokens cs ts → selectors_are_apart xs ≡ true → BlockTokens b us → ClausesTokens (clauses_last cs xs b) (ts ++ clause_tokens xs us)
clauses_tokens_last xs b us no_clause h g = clause_alone xs b us h g
clauses_tokens_last xs b us (clause_and {selectors = ys} {b = c} {more = more} {ts = ts} {us = vs} i j k) h g =
    subst (ClausesTokens (switch_clause ys c (clauses_last more xs b))) (ap (λ z. case_tokens ys ++ (mark f.Colon ∷ z)) (sym (append_assoc ts vs (clause_tokens xs us))) ∙ sym (append_assoc (case_tokens ys) (mark f.Colon ∷ (ts ++ vs)) (clause_tokens xs us)))
    (clause_and i j (clauses_tokens_last xs b us k h g))

pub first_clause : (n m : ℕ) → Rebuild n (phrase m ∷ []) l.First (2 ∷ []) → {u : List SpannedTemplateToken} {x : Phrase Part} → Claused m u x → ClausesRead n (u ++ []) (make_of l.First (2 ∷ []) (x ∷ []))
first_clause n m rebuild g =
    let ts : List TemplateToken = clause_tokens g.0 g.2 in (
      switch_clause g.0 g.1 no_clauses,
      ts,
      clause_alone g.0 g.1 g.2 g.3 g.4,
      pieces_lined n (phrase m ∷ []) (2 ∷ []) (phrase m) [] (2 ∷ []) l.First rebuild rebuild (v.clauses (switch_clause g.0 g.1 no_clauses) ts) (some_lines g.5 end) (append-nil ts) (makes g.0 g.1 ts) (λ o. (refl, tt)) (λ o. refl) (λ o. refl),
    )
  where
    makes : (xs : List Selector) (b : Block) (ts : List TemplateToken) (qs : List Part) → StandAll qs (v.clause xs b ts ∷ []) → Made l.First qs (v.clauses (switch_clause xs b no_clauses) ts)
    makes xs b ts = of_one_part (λ qs. Made l.First qs (v.clauses (switch_clause xs b no_clauses) ts)) go
      where
        go : (p : Part) → Stands p (v.clause xs b ts) → Made l.First (p ∷ []) (v.clauses (switch_clause xs b no_clauses) ts)
        go p (a_clause y is trees tree) =
            made_as l.First (p ∷ []) (v.clauses (switch_clause xs b no_clauses) ts) (λ s. part.Clauses (y ∷ [])) (λ s i. lists.started (is i)) (λ s. some_clauses (y ∷ []) refl (λ i. switch_clause (trees i) (tree i) no_clauses)) (λ s. refl) refl

pub more_clauses : (n m : ℕ) → Rebuild n (phrase n ∷ phrase m ∷ []) l.More (2 ∷ 2 ∷ []) → {a b : List SpannedTemplateToken} {x y : Phrase Part} → ClausesRead n a x → Claused m b y → ClausesRead n (a ++ (b ++ [])) (make_of l.More (2 ∷ 2 ∷ []) (x ∷ y ∷ []))
more_clauses n m rebuild g h =
    let ts : List TemplateToken = clause_tokens h.0 h.2 in (
      clauses_last g.0 h.0 h.1,
      g.1 ++ ts,
      clauses_tokens_last h.0 h.1 h.2 g.2 h.3 h.4,
      pieces_lined n (phrase n ∷ phrase m ∷ []) (2 ∷ 2 ∷ []) (phrase n) (phrase m ∷ []) (2 ∷ 2 ∷ []) l.More rebuild rebuild (v.clauses (clauses_last g.0 h.0 h.1) (g.1 ++ ts)) (some_lines g.3 (some_lines h.5 end)) (ap (λ z. g.1 ++ z) (append-nil ts)) (makes g.0 g.1 h.0 h.1 ts)
          (λ o. (refl, (refl, tt))) (λ o. refl) (λ o. refl),
    )
  where
    makes : (cs : Clauses) (ts : List TemplateToken) (xs : List Selector) (b : Block) (us : List TemplateToken) (qs : List Part) → StandAll qs (v.clauses cs ts ∷ v.clause xs b us ∷ []) → Made l.More qs (v.clauses (clauses_last cs xs b) (ts ++ us))
    makes cs ts xs b us = of_two_parts (λ qs. Made l.More qs (v.clauses (clauses_last cs xs b) (ts ++ us))) go
      where
        go : (p q : Part) → Stands p (v.clauses cs ts) → Stands q (v.clause xs b us) → Made l.More (p ∷ q ∷ []) (v.clauses (clauses_last cs xs b) (ts ++ us))
        go p q (some_clauses ys is cases) (a_clause y at trees tree) =
            made_as l.More (p ∷ q ∷ []) (v.clauses (clauses_last cs xs b) (ts ++ us)) (λ s. part.Clauses (ys ++ (y ∷ []))) (λ s i. lists.joined (is i) (at i))
            (λ s. some_clauses (ys ++ (y ∷ [])) refl (layer_last ys y ∙ (λ i. clauses_last (cases i) (trees i) (tree i)))) (λ s. refl) refl
