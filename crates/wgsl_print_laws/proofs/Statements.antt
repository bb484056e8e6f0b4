-- What is printed of statements is laid out as their tokens, whatever their level.
use Rattle.std.proofs.Common.{◌≡◌, refl, sym, ap, ◌∙◌, ℕ, ◌+◌, true, List, [], ◌∷◌, ◌++◌, append_assoc, append-nil, subst, codes, Option, Some, None}
use Rattle.wgsl_token.specs.declared.token.Fixed.TheVariants as f
use Rattle.wgsl_templates.specs.declared.meaning.token.TemplateToken.{TemplateToken}
use Rattle.wgsl_print_laws.specs.Layout.{IsLaidOut, at_the_end}
use Rattle.wgsl_expressions.specs.Print.{exp_text, indent}
use Rattle.wgsl_expressions.specs.Tree.{Exp}
use Rattle.wgsl_expressions.specs.AttributesPrint.{attrs_text}
use Rattle.wgsl_simple_statements.specs.Tree.{BreakIf}
use Rattle.wgsl_simple_statements.specs.Print.{simple_text, case_head}
use Rattle.wgsl_statements.specs.Print.{braced, head_text, condition_text, header_text, break_line, end_text, bare_text, stms_text, block_text, elses_text, clauses_text, continuing_text, part_text}
use Rattle.wgsl_statements.specs.Tree.{Stm, Stms, Block, Elses, Clauses, Continuing, Part}
use Rattle.wgsl_print_laws.specs.Tokens.{mark, exp_tokens}
use Rattle.wgsl_print_laws.specs.Printable.{AreSpelled, is_apart}
use Rattle.wgsl_print_laws.proofs.Signs.{lays_space, lays_paren_left}
use Rattle.wgsl_print_laws.proofs.Expressions.{Run, run_as, sign_run, stops}
use Rattle.wgsl_print_laws.proofs.Imports.{lays_brace_left, lays_brace_right, nothing_run, attributes_run}
use Rattle.wgsl_print_laws.specs.Simple.{value_is_apart, value_tokens, case_tokens}
use Rattle.wgsl_print_laws.specs.Statements.{BreakIfTokens, no_break_if, a_break_if, PartTokens, no_part, a_part, in_braces, StmTokens, a_simple, a_compound, an_if, a_switch, a_loop, a_for, a_while, StmsTokens, no_statements, statements_and, BlockTokens, a_block, ElsesTokens, none, otherwise, else_if, ClausesTokens, no_clause, clause_and, ContinuingTokens, no_end, an_end}
use Rattle.wgsl_print_laws.specs.ModulesLaws.{StatementsAreLaidOut}
use Rattle.wgsl_print_laws.proofs.Runs.{any_rest, and_then, behind, stopped, run_as_text, sign_then, sign_alone, space, semicolon_space, semicolon_end, paren_right_space, colon_space, indent_run, blank_run, exp_run, word_then, parted, four, eight}
use Rattle.wgsl_print_laws.proofs.Simple.{simple_run, attributed_text, case_run}

-- ---- lines in braces

abbrev pub brace_left : Run any_rest (mark f.BraceLeft ∷ []) (codes "{")
brace_left = sign_run lays_brace_left refl

abbrev pub brace_right : Run any_rest (mark f.BraceRight ∷ []) (codes "}")
brace_right = sign_run lays_brace_right refl

pub braced_run : {ts : List TemplateToken} (level : ℕ) (lines : List ℕ) → Run any_rest ts lines → Run any_rest (in_braces ts) (braced level lines)
braced_run level [] p = and_then brace_left (and_then p brace_right)
braced_run level (c ∷ cs) p =
    run_as_text (sym (four (codes "{\n") (c ∷ cs) (indent level) (codes "}"))) (and_then brace_left (and_then blank_run (and_then p (and_then (indent_run level) brace_right))))

-- behind what ends a line
pub broken : {ts : List TemplateToken} {xs : List ℕ} → Run any_rest ts xs → Run any_rest ts (xs ++ codes "\n")
broken {ts = ts} p = run_as (append-nil ts) refl (and_then p blank_run)

-- ---- parts that hold no statements

-- an expression, and what stands in braces behind it
pub head_then : {us : List TemplateToken} {xs : List ℕ} (ts : List TemplateToken) (word : List ℕ) (x : Exp) → ((us : List TemplateToken) (ys : List ℕ) → Run any_rest us ys → Run any_rest (ts ++ us) (word ++ ys)) → AreSpelled (exp_tokens x) → is_apart x ≡ true
    → Run any_rest us xs → Run any_rest (ts ++ (exp_tokens x ++ us)) (head_text word x ++ xs)
unfolding head_text
head_then {us = us} {xs = xs} ts word x before s h p =
    run_as_text (sym (four word (exp_text x) (codes " ") xs)) (before (exp_tokens x ++ us) (exp_text x ++ (codes " " ++ xs)) (behind (exp_run x s h) (sign_then space p)))

condition_run : (o : Option Exp) → AreSpelled (value_tokens o) → value_is_apart o ≡ true → Run stops (value_tokens o) (condition_text o)
condition_run None s h = stopped nothing_run
condition_run (Some x) s h = exp_run x s h

part_run : (p : Part) (ts : List TemplateToken) → PartTokens p ts → AreSpelled ts → (level : ℕ) → Run stops ts (part_text level p)
part_run _ _ no_part s level = stopped nothing_run
part_run _ _ (a_part {x = x} {ts = ts} h) s level = simple_run x ts h s

break_run : (o : Option BreakIf) (ts : List TemplateToken) → BreakIfTokens o ts → AreSpelled ts → (level : ℕ) → Run any_rest ts (break_line level o)
break_run _ _ no_break_if s level = nothing_run
break_run _ _ (a_break_if {x = x} h) s level =
    let (first, others) = parted (exp_tokens x) (mark f.Semicolon ∷ []) s.1.1 in
    run_as_text (sym (append_assoc (indent level) (codes "break if " ++ exp_text x) (codes ";\n")))
    (and_then (indent_run level) (word_then f.Break refl (word_then f.If refl (behind (exp_run x first h) (sign_alone semicolon_end)))))

-- the header of `for`, from behind its word
header_run : {us vs ws : List TemplateToken} {first update body : List ℕ} (o : Option Exp) → Run stops us first → AreSpelled (value_tokens o) → value_is_apart o ≡ true → Run stops vs update → Run any_rest ws body
    → Run any_rest (mark f.For ∷ mark f.ParenLeft ∷ (us ++ (mark f.Semicolon ∷ (value_tokens o ++ (mark f.Semicolon ∷ (vs ++ (mark f.ParenRight ∷ ws))))))) (header_text first o update ++ body)
unfolding header_text
header_run {first = first} {update = update} {body = body} o p s h q b =
    let inner = and_then (sign_run lays_paren_left refl) (behind p (sign_then semicolon_space (behind (condition_run o s h) (sign_then semicolon_space (behind q (sign_then paren_right_space b)))))) in
    run_as_text (sym (eight (codes "for (") first (codes "; ") (condition_text o) (codes "; ") update (codes ") ") body)) (word_then f.For refl inner)

-- ---- statements

mutual
  -- from behind its line's spaces to the end of its last line
  line_run : (x : Stm) (ts : List TemplateToken) → StmTokens x ts → AreSpelled ts → (level : ℕ) → Run any_rest ts (bare_text level x ++ end_text x)
  line_run _ _ (a_simple {attributes = attributes} {x = x} {ts = ts} {us = us} h k) s level =
      let (first, others) = parted ts (us ++ (mark f.Semicolon ∷ [])) s in
      let (second, end) = parted us (mark f.Semicolon ∷ []) others in
      run_as_text (sym (append_assoc (attrs_text attributes) (simple_text x) (codes ";\n")) ∙ ap (λ z. z ++ codes ";\n") (attributed_text attributes x us k))
      (and_then (attributes_run attributes ts h first) (behind (simple_run x us k second) (sign_alone semicolon_end)))
  line_run _ _ (a_compound {b = b} {ts = ts} h) s level = broken (block_run b ts h s level)
  line_run _ _ (an_if {attributes = attributes} {x = x} {b = b} {more = more} {ts = ts} {us = us} {vs = vs} h apart k l) s level =
      let (first, others) = parted ts (mark f.If ∷ (exp_tokens x ++ (us ++ vs))) s in
      let (second, inner) = parted (exp_tokens x) (us ++ vs) others.1 in
      let (third, fourth) = parted us vs inner in
      let body = and_then (block_run b us k third level) (elses_run more vs l fourth level) in
      let head = head_then (mark f.If ∷ []) (codes "if ") x (λ us ys p. word_then f.If refl p) second apart body in
      broken (run_as_text (sym (four (attrs_text attributes) (head_text (codes "if ") x) (block_text level b) (elses_text level more))) (and_then (attributes_run attributes ts h first) head))
  line_run _ _ (a_switch {attributes = attributes} {inner = inner} {x = x} {clauses = clauses} {ts = ts} {us = us} {vs = vs} h apart k l) s level =
      let (first, others) = parted ts (mark f.Switch ∷ (exp_tokens x ++ (us ++ in_braces vs))) s in
      let (second, rest) = parted (exp_tokens x) (us ++ in_braces vs) others.1 in
      let (third, braces) = parted us (in_braces vs) rest in
      let (fourth, end) = parted vs (mark f.BraceRight ∷ []) braces.1 in
      let body = and_then (attributes_run inner us k third) (braced_run level (clauses_text (level + 1) clauses) (clauses_run clauses vs l fourth (level + 1))) in
      let head = head_then (mark f.Switch ∷ []) (codes "switch ") x (λ us ys p. word_then f.Switch refl p) second apart body in
      broken (run_as_text (sym (four (attrs_text attributes) (head_text (codes "switch ") x) (attrs_text inner) (braced level (clauses_text (level + 1) clauses)))) (and_then (attributes_run attributes ts h first) head))
  line_run _ _ (a_loop {attributes = attributes} {inner = inner} {ss = ss} {continuing = continuing} {ts = ts} {us = us} {vs = vs} {ws = ws} h k l m) s level =
      let (first, others) = parted ts (mark f.Loop ∷ (us ++ in_braces (vs ++ ws))) s in
      let (second, braces) = parted us (in_braces (vs ++ ws)) others.1 in
      let (lines, end) = parted (vs ++ ws) (mark f.BraceRight ∷ []) braces.1 in
      let (third, fourth) = parted vs ws lines in
      let text = stms_text (level + 1) ss ++ continuing_text (level + 1) continuing in
      let body = and_then (attributes_run inner us k second) (braced_run level text (and_then (stms_run ss vs l third (level + 1)) (continuing_run continuing ws m fourth (level + 1)))) in
      broken (run_as_text (sym (append_assoc (attrs_text attributes) (codes "loop ") (attrs_text inner ++ braced level text))) (and_then (attributes_run attributes ts h first) (word_then f.Loop refl body)))
  line_run _ _ (a_for {attributes = attributes} {first = first} {update = update} {condition = condition} {b = b} {ts = ts} {us = us} {vs = vs} {ws = ws} h k apart l m) s level =
      let (one, others) = parted ts (mark f.For ∷ mark f.ParenLeft ∷ (us ++ (mark f.Semicolon ∷ (value_tokens condition ++ (mark f.Semicolon ∷ (vs ++ (mark f.ParenRight ∷ ws))))))) s in
      let (two, behind_first) = parted us (mark f.Semicolon ∷ (value_tokens condition ++ (mark f.Semicolon ∷ (vs ++ (mark f.ParenRight ∷ ws))))) others.1.1 in
      let (three, behind_condition) = parted (value_tokens condition) (mark f.Semicolon ∷ (vs ++ (mark f.ParenRight ∷ ws))) behind_first.1 in
      let (last, behind_update) = parted vs (mark f.ParenRight ∷ ws) behind_condition.1 in
      let header = header_run condition (part_run first us k two level) three apart (part_run update vs l last level) (block_run b ws m behind_update.1 level) in
      broken (run_as_text (sym (append_assoc (attrs_text attributes) (header_text (part_text level first) condition (part_text level update)) (block_text level b))) (and_then (attributes_run attributes ts h one) header))
  line_run _ _ (a_while {attributes = attributes} {x = x} {b = b} {ts = ts} {us = us} h apart k) s level =
      let (first, others) = parted ts (mark f.While ∷ (exp_tokens x ++ us)) s in
      let (second, third) = parted (exp_tokens x) us others.1 in
      let head = head_then (mark f.While ∷ []) (codes "while ") x (λ us ys p. word_then f.While refl p) second apart (block_run b us k third level) in
      broken (run_as_text (sym (append_assoc (attrs_text attributes) (head_text (codes "while ") x) (block_text level b))) (and_then (attributes_run attributes ts h first) head))

  stms_run : (xs : Stms) (ts : List TemplateToken) → StmsTokens xs ts → AreSpelled ts → (level : ℕ) → Run any_rest ts (stms_text level xs)
  stms_run _ _ no_statements s level = nothing_run
  stms_run _ _ (statements_and {s = x} {ss = xs} {ts = ts} {us = us} h k) s level =
      let (first, others) = parted ts us s in
      run_as_text (ap (λ z. indent level ++ z) (append_assoc (bare_text level x) (end_text x) (stms_text level xs)) ∙ sym (four (indent level) (bare_text level x) (end_text x) (stms_text level xs))) (and_then (indent_run level) (and_then (line_run x ts h first level) (stms_run xs us k others level)))

  pub block_run : (b : Block) (ts : List TemplateToken) → BlockTokens b ts → AreSpelled ts → (level : ℕ) → Run any_rest ts (block_text level b)
  block_run _ _ (a_block {attributes = attributes} {ss = ss} {ts = ts} {us = us} h k) s level =
      let (first, braces) = parted ts (in_braces us) s in
      let (lines, end) = parted us (mark f.BraceRight ∷ []) braces.1 in
      and_then (attributes_run attributes ts h first) (braced_run level (stms_text (level + 1) ss) (stms_run ss us k lines (level + 1)))

  elses_run : (more : Elses) (ts : List TemplateToken) → ElsesTokens more ts → AreSpelled ts → (level : ℕ) → Run any_rest ts (elses_text level more)
  elses_run _ _ none s level = nothing_run
  elses_run _ _ (otherwise {b = b} {ts = ts} h) s level = and_then (sign_run lays_space refl) (word_then f.Else refl (block_run b ts h s.1 level))
  elses_run _ _ (else_if {x = x} {b = b} {more = more} {ts = ts} {us = us} apart h k) s level =
      let (first, others) = parted (exp_tokens x) (ts ++ us) s.1.1 in
      let (second, third) = parted ts us others in
      let head = head_then (mark f.Else ∷ mark f.If ∷ []) (codes "else if ") x (λ us ys p. word_then f.Else refl (word_then f.If refl p)) first apart (and_then (block_run b ts h second level) (elses_run more us k third level)) in
      run_as_text (sym (four (codes " ") (head_text (codes "else if ") x) (block_text level b) (elses_text level more))) (and_then (sign_run lays_space refl) head)

  clauses_run : (clauses : Clauses) (ts : List TemplateToken) → ClausesTokens clauses ts → AreSpelled ts → (level : ℕ) → Run any_rest ts (clauses_text level clauses)
  clauses_run _ _ no_clause s level = nothing_run
  clauses_run _ _ (clause_and {selectors = selectors} {b = b} {more = more} {ts = ts} {us = us} apart h k) s level =
      let (first, others) = parted (case_tokens selectors) (mark f.Colon ∷ (ts ++ us)) s in
      let (second, third) = parted ts us others.1 in
      let rest = codes "\n" ++ clauses_text level more in
      let one = behind (case_run selectors first apart) (sign_then colon_space (and_then (block_run b ts h second level) (and_then blank_run (clauses_run more us k third level)))) in
      run_as_text
      (ap (λ z. indent level ++ z) (sym (four (case_head selectors) (codes ": ") (block_text level b) rest)) ∙ sym (four (indent level) ((case_head selectors ++ codes ": ") ++ block_text level b) (codes "\n") (clauses_text level more)))
      (and_then (indent_run level) one)

  continuing_run : (c : Continuing) (ts : List TemplateToken) → ContinuingTokens c ts → AreSpelled ts → (level : ℕ) → Run any_rest ts (continuing_text level c)
  continuing_run _ _ no_end s level = nothing_run
  continuing_run _ _ (an_end {attributes = attributes} {ss = ss} {condition = condition} {ts = ts} {us = us} {vs = vs} h k l) s level =
      let (first, braces) = parted ts (in_braces (us ++ vs)) s.1 in
      let (lines, end) = parted (us ++ vs) (mark f.BraceRight ∷ []) braces.1 in
      let (second, third) = parted us vs lines in
      let text = stms_text (level + 1) ss ++ break_line (level + 1) condition in
      let body = and_then (attributes_run attributes ts h first) (braced_run level text (and_then (stms_run ss us k second (level + 1)) (break_run condition vs l third (level + 1)))) in
      broken (and_then (indent_run level) (word_then f.Continuing refl body))

pub statements_are_laid_out : StatementsAreLaidOut
statements_are_laid_out x ts h s level =
    let p = run_as_text (sym (append_assoc (indent level) (bare_text level x) (end_text x))) (and_then (indent_run level) (line_run x ts h s level)) in record {
      characters = p.characters;
      are_scalars = p.spells.scalars;
      spell = p.spells.encodes;
      laid_out = (let P : List ℕ × List TemplateToken → Type 0 = λ x. IsLaidOut x.0 x.1 in subst P (λ i. (append-nil p.characters i, append-nil ts i)) (p.lays.lays [] [] refl at_the_end));
    }
