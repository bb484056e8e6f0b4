-- What phrases of statements, and of what they consist of, are.
use Rattle.std.proofs.Common.{◌≡◌, ℕ, true, List, [], ◌∷◌, ◌++◌, Some, None}
use Rattle.wgsl_path.specs.declared.span.Spanned.{Spanned}
use Rattle.wgsl_token.specs.declared.token.Fixed.TheVariants as f
use Rattle.wgsl_templates.specs.declared.meaning.token.TemplateToken.{TemplateToken}
use Rattle.wgsl_templates.specs.declared.meaning.token.SpannedTemplateToken.{SpannedTemplateToken}
use Rattle.wgsl_print_laws.specs.Laws.{without_places}
use Rattle.wgsl_expressions.specs.Tree.{Exp}
use Rattle.wgsl_simple_statements.specs.Tree.{BreakIf, Selector}
use Rattle.wgsl_statements.specs.Tree.{Stm, Stms, nil, cons, Block, Clauses, Continuing}
use Rattle.wgsl_statements.specs.declared.statement.Statement.{Statement}
use Rattle.wgsl_statements.specs.View.{statement_tree, statements_tree}
use Rattle.wgsl_print_laws.specs.Tokens.{mark, exp_tokens}
use Rattle.wgsl_print_laws.specs.Printable.{is_apart}
use Rattle.wgsl_print_laws.specs.Simple.{case_tokens, selector_is_apart, selectors_are_apart}
use Rattle.wgsl_print_laws.specs.Statements.{BreakIfTokens, StmTokens, StmsTokens, BlockTokens, ClausesTokens, ContinuingTokens}
use Rattle.wgsl_grammar_tables.specs.Grammars.{phrase}
use Rattle.wgsl_semantic_values.specs.declared.part.Part.{Part}
use Rattle.wgsl_semantic_values.specs.declared.part.Part.TheVariants as part
use Rattle.wgsl_parser.specs.Phrase.{Phrase}
use Rattle.wgsl_read_back.proofs.Views as v
use Rattle.wgsl_read_back.proofs.Items.{BeginsOutside, Back, CutList, AgainAs}
use Rattle.wgsl_read_back.proofs.Pieces.{Lined, Vanished}

-- a block, before which a mark may be left out
abbrev pub Blocked : ℕ → List SpannedTemplateToken → Phrase Part → Type 0
Blocked n u x = (b : Block) × (ts : List TemplateToken) × BlockTokens b ts × BeginsOutside ts × Back n (v.block b ts) u x × BeginsOutside (without_places u)

-- a part is a `;` alone
abbrev pub IsVoidStatement : Part → Type 0
IsVoidStatement p = (y : Spanned Statement) × (p ≡ part.Statement y) × (statement_tree y.node ≡ None)

-- a statement, or a `;` alone, of which nothing is printed
pub data StatementRead (n : ℕ) (u : List SpannedTemplateToken) (x : Phrase Part) : Type 0 where
  a_stated : {s : Stm} {ts : List TemplateToken} → StmTokens s ts → Back n (v.statement s ts) u x → StatementRead n u x
  a_void : (y : Spanned Statement) → x.part ≡ part.Statement y → statement_tree y.node ≡ None → x.failure ≡ None → without_places u ≡ mark f.Semicolon ∷ []
      → ((w : List SpannedTemplateToken) → without_places w ≡ without_places u → AgainAs (phrase n) IsVoidStatement w) → StatementRead n u x

-- some in a row
pub data StatementsRead (n : ℕ) (u : List SpannedTemplateToken) (x : Phrase Part) : Type 0 where
  some_stated : {s : Stm} {ss : Stms} {ts : List TemplateToken} → StmsTokens (cons s ss) ts → Lined n (v.statements (cons s ss) ts) u x → StatementsRead n u x
  all_void : (ys : List (Spanned Statement)) → x.part ≡ part.Statements ys → statements_tree ys ≡ nil → Vanished n (v.statements nil []) u x → StatementsRead n u x

-- `else` and a block
abbrev pub Otherwise : ℕ → List SpannedTemplateToken → Phrase Part → Type 0
Otherwise n u x = (b : Block) × (ts : List TemplateToken) × BlockTokens b ts × Back n (v.otherwise (Some b) (mark f.Else ∷ ts)) u x

abbrev pub else_if_tokens : Exp → List TemplateToken → List TemplateToken
else_if_tokens e ts = mark f.Else ∷ mark f.If ∷ (exp_tokens e ++ ts)

abbrev pub ElseIfRead : ℕ → List SpannedTemplateToken → Phrase Part → Type 0
ElseIfRead n u x = (e : Exp) × (b : Block) × (ts : List TemplateToken) × (is_apart e ≡ true) × BlockTokens b ts × Back n (v.else_if e b (else_if_tokens e ts)) u x

pub data ElseIfsTokens : List (Exp × Block) → List TemplateToken → Type 0 where
  no_else_ifs : ElseIfsTokens [] []
  else_ifs_and : {e : Exp} {b : Block} {es : List (Exp × Block)} {ts us : List TemplateToken} → is_apart e ≡ true → BlockTokens b ts → ElseIfsTokens es us → ElseIfsTokens ((e, b) ∷ es) (else_if_tokens e ts ++ us)

abbrev pub ElseIfsRead : ℕ → List SpannedTemplateToken → Phrase Part → Type 0
ElseIfsRead n u x = (e : Exp × Block) × (es : List (Exp × Block)) × (ts : List TemplateToken) × ElseIfsTokens (e ∷ es) ts × Back n (v.else_ifs (e ∷ es) ts) u x

-- selectors of a clause, with commas between them, and the same where a last comma may stand
abbrev pub Selected : ℕ → List SpannedTemplateToken → Phrase Part → Type 0
Selected n u x = (y : Selector) × (selector_is_apart y ≡ true) × Back n (v.selector y) u x

abbrev pub SelectorsSeparated : ℕ → List SpannedTemplateToken → Phrase Part → Type 0
SelectorsSeparated n u x = (y : Selector) × (ys : List Selector) × (selectors_are_apart (y ∷ ys) ≡ true) × Back n (v.selectors (y ∷ ys)) u x

abbrev pub SelectorsListed : ℕ → List SpannedTemplateToken → Phrase Part → Type 0
SelectorsListed n u x = (y : Selector) × (ys : List Selector) × (selectors_are_apart (y ∷ ys) ≡ true) × CutList n (v.selectors (y ∷ ys)) u x

-- a clause, behind what stands in no expression, and some in a row
abbrev pub clause_tokens : List Selector → List TemplateToken → List TemplateToken
clause_tokens xs ts = case_tokens xs ++ (mark f.Colon ∷ ts)

abbrev pub Claused : ℕ → List SpannedTemplateToken → Phrase Part → Type 0
Claused n u x = (xs : List Selector) × (b : Block) × (ts : List TemplateToken) × (selectors_are_apart xs ≡ true) × BlockTokens b ts × Lined n (v.clause xs b (clause_tokens xs ts)) u x

abbrev pub ClausesRead : ℕ → List SpannedTemplateToken → Phrase Part → Type 0
ClausesRead n u x = (cs : Clauses) × (ts : List TemplateToken) × ClausesTokens cs ts × Lined n (v.clauses cs ts) u x

abbrev pub Continued : ℕ → List SpannedTemplateToken → Phrase Part → Type 0
Continued n u x = (c : Continuing) × (ts : List TemplateToken) × ContinuingTokens c ts × Back n (v.ending c ts) u x

abbrev pub BrokenIf : ℕ → List SpannedTemplateToken → Phrase Part → Type 0
BrokenIf n u x = (o : BreakIf) × (ts : List TemplateToken) × BreakIfTokens (Some o) ts × Back n (v.break_if (Some o) ts) u x
