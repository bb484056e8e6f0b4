-- The tokens of statements as they are printed (WGSL, "Statements"), whatever their level.
use Rattle.std.specs.Prelude.{◌≡◌, true, List, [], ◌∷◌, ◌++◌, Option, Some, None}
use Rattle.wgsl_token.specs.declared.token.Fixed.TheVariants as f
use Rattle.wgsl_templates.specs.declared.meaning.token.TemplateToken.{TemplateToken}
use Rattle.wgsl_expressions.specs.Tree.{Exp}
use Rattle.wgsl_expressions.specs.AttributesTree.{Attr}
use Rattle.wgsl_simple_statements.specs.Tree as s
use Rattle.wgsl_simple_statements.specs.Tree.{BreakIf, Selector}
use Rattle.wgsl_statements.specs.Tree.{Stm, simple, compound_statement, if_statement, switch_statement, loop_statement, for_statement, while_statement, Stms, nil, cons, Block, block, Elses, no_else, else_clause, else_if_clause, Clauses, no_clauses, switch_clause, Continuing, no_continuing, continuing_statement, Part, absent, present}
use Rattle.wgsl_print_laws.specs.Tokens.{mark, exp_tokens}
use Rattle.wgsl_print_laws.specs.Printable.{is_apart}
use Rattle.wgsl_print_laws.specs.Imports.{AttributesTokens}
use Rattle.wgsl_print_laws.specs.Simple.{SimpleTokens, attributed, value_is_apart, value_tokens, case_tokens, selectors_are_apart}

-- `break if` without attributes, and its `;`
pub data BreakIfTokens : Option BreakIf → List TemplateToken → Type 0 where
  no_break_if : BreakIfTokens None []
  a_break_if : {x : Exp} → is_apart x ≡ true → BreakIfTokens (Some (record { attributes = []; condition = x })) (mark f.Break ∷ mark f.If ∷ (exp_tokens x ++ (mark f.Semicolon ∷ [])))

-- a part of the header of `for`, which holds no block
pub data PartTokens : Part → List TemplateToken → Type 0 where
  no_part : PartTokens absent []
  a_part : {x : s.Simple} {ts : List TemplateToken} → SimpleTokens x ts → PartTokens (present (simple x)) ts

-- tokens in braces
abbrev pub in_braces : List TemplateToken → List TemplateToken
in_braces ts = mark f.BraceLeft ∷ (ts ++ (mark f.BraceRight ∷ []))

mutual
  pub data StmTokens : Stm → List TemplateToken → Type 0 where
    a_simple : {attributes : List Attr} {x : s.Simple} {ts us : List TemplateToken} → AttributesTokens attributes ts → SimpleTokens x us → StmTokens (simple (attributed attributes x)) (ts ++ (us ++ (mark f.Semicolon ∷ [])))
    a_compound : {b : Block} {ts : List TemplateToken} → BlockTokens b ts → StmTokens (compound_statement b) ts
    an_if : {attributes : List Attr} {x : Exp} {b : Block} {more : Elses} {ts us vs : List TemplateToken} → AttributesTokens attributes ts → is_apart x ≡ true → BlockTokens b us → ElsesTokens more vs
        → StmTokens (if_statement attributes x b more) (ts ++ (mark f.If ∷ (exp_tokens x ++ (us ++ vs))))
    a_switch : {attributes inner : List Attr} {x : Exp} {clauses : Clauses} {ts us vs : List TemplateToken} → AttributesTokens attributes ts → is_apart x ≡ true → AttributesTokens inner us → ClausesTokens clauses vs
        → StmTokens (switch_statement attributes x inner clauses) (ts ++ (mark f.Switch ∷ (exp_tokens x ++ (us ++ in_braces vs))))
    a_loop : {attributes inner : List Attr} {ss : Stms} {continuing : Continuing} {ts us vs ws : List TemplateToken} → AttributesTokens attributes ts → AttributesTokens inner us → StmsTokens ss vs → ContinuingTokens continuing ws
        → StmTokens (loop_statement attributes (block inner ss) continuing) (ts ++ (mark f.Loop ∷ (us ++ in_braces (vs ++ ws))))
    a_for : {attributes : List Attr} {first update : Part} {condition : Option Exp} {b : Block} {ts us vs ws : List TemplateToken} → AttributesTokens attributes ts → PartTokens first us → value_is_apart condition ≡ true → PartTokens update vs → BlockTokens b ws
        → StmTokens (for_statement attributes first condition update b) (ts ++ (mark f.For ∷ mark f.ParenLeft ∷ (us ++ (mark f.Semicolon ∷ (value_tokens condition ++ (mark f.Semicolon ∷ (vs ++ (mark f.ParenRight ∷ ws))))))))
    a_while : {attributes : List Attr} {x : Exp} {b : Block} {ts us : List TemplateToken} → AttributesTokens attributes ts → is_apart x ≡ true → BlockTokens b us → StmTokens (while_statement attributes x b) (ts ++ (mark f.While ∷ (exp_tokens x ++ us)))

  pub data StmsTokens : Stms → List TemplateToken → Type 0 where
    no_statements : StmsTokens nil []
    statements_and : {s : Stm} {ss : Stms} {ts us : List TemplateToken} → StmTokens s ts → StmsTokens ss us → StmsTokens (cons s ss) (ts ++ us)

  pub data BlockTokens : Block → List TemplateToken → Type 0 where
    a_block : {attributes : List Attr} {ss : Stms} {ts us : List TemplateToken} → AttributesTokens attributes ts → StmsTokens ss us → BlockTokens (block attributes ss) (ts ++ in_braces us)

  pub data ElsesTokens : Elses → List TemplateToken → Type 0 where
    none : ElsesTokens no_else []
    otherwise : {b : Block} {ts : List TemplateToken} → BlockTokens b ts → ElsesTokens (else_clause b) (mark f.Else ∷ ts)
    else_if : {x : Exp} {b : Block} {more : Elses} {ts us : List TemplateToken} → is_apart x ≡ true → BlockTokens b ts → ElsesTokens more us → ElsesTokens (else_if_clause x b more) (mark f.Else ∷ mark f.If ∷ (exp_tokens x ++ (ts ++ us)))

  pub data ClausesTokens : Clauses → List TemplateToken → Type 0 where
    no_clause : ClausesTokens no_clauses []
    clause_and : {selectors : List Selector} {b : Block} {more : Clauses} {ts us : List TemplateToken} → selectors_are_apart selectors ≡ true → BlockTokens b ts → ClausesTokens more us
        → ClausesTokens (switch_clause selectors b more) (case_tokens selectors ++ (mark f.Colon ∷ (ts ++ us)))

  -- without attributes before the word, since no text has them
  pub data ContinuingTokens : Continuing → List TemplateToken → Type 0 where
    no_end : ContinuingTokens no_continuing []
    an_end : {attributes : List Attr} {ss : Stms} {condition : Option BreakIf} {ts us vs : List TemplateToken} → AttributesTokens attributes ts → StmsTokens ss us → BreakIfTokens condition vs
        → ContinuingTokens (continuing_statement [] (block attributes ss) condition) (mark f.Continuing ∷ (ts ++ in_braces (us ++ vs)))
