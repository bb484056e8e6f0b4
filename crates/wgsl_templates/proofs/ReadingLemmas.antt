-- Reading a text, one step after another.
use Rattle.std.specs.Prelude.{Option, Some, None, Result, Ok, Err, IfOk, reverse}
use Rattle.std.proofs.Common.{◌≡◌, ℕ, ◌+◌, ◌<◌, ◌≤◌, Bool, true, false, List, [], ◌∷◌, ◌++◌, length, take, drop, refl, sym, ◌∙◌, ap, subst, arith, append-nil, length-drop}
use Rattle.std.specs.Str.{chars, IsUtf8}
use Rattle.std.proofs.lemmas.Str.{encodes-chars, scalars-chars}
use Rattle.wgsl_lex.specs.Tokens.{size}
use Rattle.wgsl_lex.proofs.Sizes.{size_parts}
use Rattle.wgsl_templates.specs.declared.meaning.token.Bracket.{Bracket}
use Rattle.wgsl_templates.specs.declared.meaning.token.TemplateToken.{TemplateToken}
use Rattle.wgsl_templates.specs.declared.meaning.token.SpannedTemplateToken.{SpannedTemplateToken}
use Rattle.wgsl_templates.specs.Tokens.{is_word, behind, State, start, past, after, spanned, Reads, nothing, behind_trivia, a_token, Stands, closing, asked, plain, Lexes, IsLexed}
use Rattle.wgsl_templates.proofs.Once.{first_takes, reads_then}
use Rattle.wgsl_templates.specs.declared.entry.Entry.{Entry}
use Rattle.wgsl_templates.specs.Levels.{IsTable}
use Rattle.wgsl_templates.specs.Steps.{StandsHere, trivia_here, token_here, state}
use Rattle.wgsl_templates.proofs.Entries.{table_back, parts}

-- something stands first
pub stands_more : (s : State) (text : List ℕ) (n : ℕ) (o : Option TemplateToken) → StandsHere s text n o → 0 < n
stands_more s text n _ (trivia_here h) = first_takes text n None h
stands_more s text n _ (token_here h) = takes n h
  where
    takes : (m : ℕ) {t : TemplateToken} → Stands s text m t → 0 < m
    takes _ (closing m t i e) = omega arith
    takes _ (asked m t i e o) = first_takes text m (Some t) i
    takes _ (plain m t i e o) = first_takes text m (Some t) i

step_trivia : (s : State) (text back : List ℕ) (n : ℕ) → back ≡ drop n text → StandsHere s text n None → Reads s text [] (past s (take n text)) back
step_trivia s text back n b (trivia_here h) = let P : List ℕ → Type 0 = λ x. Reads (past s (take n text)) (drop n text) [] (past s (take n text)) x in behind_trivia n h (subst P (sym b) nothing)

step_token : (s : State) (text back : List ℕ) (n : ℕ) (t : TemplateToken) → back ≡ drop n text → StandsHere s text n (Some t) → Reads s text (spanned s (take n text) t ∷ []) (after s (take n text) t) back
step_token s text back n _ b (token_here {t = t} h) = let P : List ℕ → Type 0 = λ x. Reads (after s (take n text) t) (drop n text) [] (after s (take n text) t) x in a_token n t h (subst P (sym b) nothing)

-- what is read of the characters of a whole text
pub record IsLexedTo (characters : List ℕ) (table : List Entry) (rest : List ℕ) (at : ℕ) (after_word : Bool) (opened : List Bracket) (done : List SpannedTemplateToken) : Type 0 where
  pub ends : at + size rest ≡ size characters
  pub reads : Reads start characters done (state at after_word opened) rest
  pub has : IsTable rest table
  pub covered : length rest ≤ length table

pub lex_start : (characters : List ℕ) (table : List Entry) (opened : List Bracket) (done : List SpannedTemplateToken) → IsTable characters table → length characters ≤ length table → opened ≡ [] → done ≡ []
    → IsLexedTo characters table characters 0 false opened done
lex_start characters table opened done has covered none empty =
    let P : List Bracket × List SpannedTemplateToken → Type 0 = λ x. Reads start characters x.1 (state 0 false x.0) characters in
    record { ends = omega arith; reads = subst P (λ i. (sym none i, sym empty i)) nothing; has = has; covered = covered }

module _ (rest : List ℕ) (table : List Entry) (has : IsTable rest table) (covered : length rest ≤ length table) (n : ℕ) (front back : List ℕ) (f : front ≡ take n rest) (b' : back ≡ drop n rest) where
  has_back : IsTable back table
  has_back = table_back rest front back table (parts rest front back n f b') has

  covered_back : length back ≤ length table
  covered_back = grind (arith, ap length b', length-drop n rest, covered)

module _ (characters : List ℕ) (table : List Entry) (rest : List ℕ) (at : ℕ) (after_word : Bool) (opened : List Bracket) (done : List SpannedTemplateToken) (still : IsLexedTo characters table rest at after_word opened done)
    (c : ℕ) (following : List ℕ) (is : rest ≡ c ∷ following) (n : ℕ) (front back : List ℕ) (f : front ≡ take n rest) (b' : back ≡ drop n rest) (bytes : ℕ) (sized : bytes ≡ size front)
    (brackets : List Bracket) (same : brackets ≡ opened) (o : Option TemplateToken) (stands : (at : ℕ) → StandsHere (state at after_word brackets) (c ∷ following) n o) where
  stood : (p : Option TemplateToken) → o ≡ p → StandsHere (state at after_word opened) rest n p
  stood p e = let P : List Bracket × List ℕ × Option TemplateToken → Type 0 = λ x. StandsHere (state at after_word x.0) x.1 n x.2 in subst P (λ i. (same i, sym is i, e i)) (stands at)

  taken : size (take n rest) ≡ bytes
  taken = ap size (sym f) ∙ sym sized

  next_ends : at + bytes + size back ≡ size characters
  next_ends = omega (arith, size_parts rest front back n f b', still.ends)

  pub lex_trivia : o ≡ None → IsLexedTo characters table back (at + bytes) after_word opened done
  lex_trivia none =
      let next = step_trivia (state at after_word opened) rest back n b' (stood None none) in
      let P : List SpannedTemplateToken × ℕ → Type 0 = λ x. Reads start (characters) x.0 (state (at + x.1) after_word opened) back in
      record {
        ends = next_ends;
        reads = subst P (λ i. (append-nil done i, taken i)) (reads_then start (characters) done _ rest still.reads [] _ back next);
        has = has_back rest table still.has still.covered n front back f b';
        covered = covered_back rest table still.has still.covered n front back f b';
      }

  pub lex_token : (t : TemplateToken) (word : Bool) (brackets' : List Bracket) (more : List SpannedTemplateToken) → o ≡ Some t → more ≡ done ++ record { token = t; span = record { start = at; end = at + bytes } } ∷ [] → word ≡ is_word t
      → reverse brackets' ≡ behind (reverse opened) t → IsLexedTo characters table back (at + bytes) word brackets' more
  lex_token t word brackets' more some pushed w k =
      let s = state at after_word opened in
      let next = step_token s rest back n t b' (stood (Some t) some) in
      let P : ℕ → Type 0 = λ x. Reads start (characters) (done ++ record { token = t; span = record { start = at; end = at + x } } ∷ []) (record { at = at + x; after_word = is_word t; opened = behind (reverse opened) t }) back in
      let Q : List SpannedTemplateToken × Bool × List Bracket → Type 0 = λ x. Reads start (characters) x.0 (record { at = at + bytes; after_word = x.1; opened = x.2 }) back in
      record {
        ends = next_ends;
        reads = subst Q (λ i. (sym pushed i, sym w i, sym k i)) (subst P taken (reads_then start (characters) done _ rest still.reads _ _ back next));
        has = has_back rest table still.has still.covered n front back f b';
        covered = covered_back rest table still.has still.covered n front back f b';
      }

pub lex_all : (characters : List ℕ) (table : List Entry) (rest : List ℕ) (at : ℕ) (after_word : Bool) (opened : List Bracket) (done : List SpannedTemplateToken) → IsLexedTo characters table rest at after_word opened done → length rest ≡ 0 → Lexes start characters done
lex_all characters table [] at after_word opened done still none = (state at after_word opened, still.reads)
lex_all characters table (c ∷ rest) at after_word opened done still none = absurd (omega arith)

pub lexed : (text characters : List ℕ) (tokens : List SpannedTemplateToken) → IsUtf8 text → characters ≡ chars text → Lexes start characters tokens → IsLexed text tokens
lexed text characters tokens utf8 spelled l =
    let P : List ℕ → Type 0 = λ x. Lexes start x tokens in
    record { characters = chars text; are_scalars = scalars-chars text utf8; spell = encodes-chars text utf8; lexes = subst P spelled l }

pub bounded : (text characters : List ℕ) → IsUtf8 text → characters ≡ chars text → size characters ≡ length text
bounded text characters utf8 spelled = ap size spelled ∙ ap length (encodes-chars text utf8)

pub if_lexed : {E L : Type 0} (listed : L → List SpannedTemplateToken) (text characters : List ℕ) (result : Result L E) → IsUtf8 text → characters ≡ chars text
    → IfOk result (λ tokens. Lexes start characters (listed tokens)) → IfOk result (λ tokens. IsLexed text (listed tokens))
if_lexed listed text characters (Ok tokens) utf8 spelled l = lexed text characters (listed tokens) utf8 spelled l
if_lexed listed text characters (Err e) utf8 spelled l = l
