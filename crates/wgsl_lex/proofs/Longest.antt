-- Longest runs and longest forms.
use Rattle.std.specs.Prelude.{◌≢◌, not}
use Rattle.std.proofs.Common.{◌≡◌, ℕ, zero, suc, ◌+◌, ◌<◌, ◌≤◌, Bool, true, false, ◌&&◌, ◌||◌, ◌==◌, List, [], ◌∷◌, ◌++◌, length, take, drop, get_or, refl, sym, ◌∙◌, ap, subst, arith, length-drop, get_or-drop, add-zero}
use Rattle.std.specs.Prelude.{Some, None}
use Rattle.std.specs.List.{list_all}
use Rattle.std.proofs.lemmas.List.Folds.{list_all-append, list_all_more}
use Rattle.std.proofs.Math.Seq.{take-append_seam, drop-append_seam}
use Rattle.unicode_ident.specs.Ident.{is_xid_continue}
use Rattle.wgsl_token.specs.declared.token.Token.{Token}
use Rattle.wgsl_lex.specs.Tokens.{is_blank, is_trivia, is_line_comment_tail, is_block_comment_tail, token_form, form, Form, trivia, token, NoLonger, IsLongest}
use Rattle.wgsl_lex.specs.Runs.{IsRun, IsLongestRun}
use Rattle.wgsl_lex.proofs.Bools.{and_false}
use Rattle.wgsl_lex.proofs.Tables.{begins_word, stays_word, spellings_stay_words, no_fixed}
use Rattle.wgsl_lex.proofs.Classes.{word_no_slash, word_no_number, word_no_blank, blank_no_slash, blank_no_number, blank_begins_no_word, slash_begins_no_word}
use Rattle.wgsl_lex.proofs.Forms.{trivia_form, token_form_is, opens_none, no_form, no_trivia, no_word}

-- the front of a run passes
run_front : (p : ℕ → Bool) (cs : List ℕ) (n : ℕ) → IsRun p cs n → (i : ℕ) → i ≤ n → list_all p (take i cs) ≡ true
run_front p cs n run zero h = refl
run_front p cs n run (suc i) h =
    let within : i < length cs = omega (arith, run.within) in
    let step : list_all p (take (i + 1) cs) ≡ true = list_all_more p cs i 0 within ∙ rw (run_front p cs n run i (omega arith), run.each i (omega arith)) in
    let one : suc i ≡ i + 1 = omega arith in
    ap (λ k. list_all p (take k cs)) one ∙ step

pub longest_run : (p : ℕ → Bool) (cs : List ℕ) (n : ℕ) → IsRun p cs n → IsLongestRun (list_all p) (take n cs) (drop n cs)
longest_run p cs n run = record {
  passes = run_front p cs n run n (omega arith);
  longest = λ more behind nonempty e. stops more behind nonempty e;
}
  where
    stops : (more behind : List ℕ) → more ≢ [] → drop n cs ≡ more ++ behind → list_all p (take n cs ++ more) ≡ false
    stops [] behind nonempty e = absurd (nonempty refl)
    stops (d ∷ more) behind nonempty e =
        let here : get_or cs n 0 ≡ d = ap (λ i. get_or cs i 0) (sym (add-zero n)) ∙ sym (get_or-drop n cs 0 0) ∙ ap (λ xs. get_or xs 0 0) e in
        let within : n < length cs = grind (arith, length-drop n cs, ap length e) in
        let stop : p d ≡ false = ap p (sym here) ∙ run.stops within in
        list_all-append p (take n cs) (d ∷ more) ∙ rw (stop) (and_false (list_all p (take n cs)))

-- The parts of a list as a prefix and what is behind.
pub longest_parts : (whole cs rest : List ℕ) (what : Form) → whole ≡ cs ++ rest → (n : ℕ) → n ≡ length cs → IsLongest cs rest what → IsLongest (take n whole) (drop n whole) what
longest_parts whole cs rest what e n m h =
    let front : cs ≡ take n whole = sym (take-append_seam cs rest) ∙ (λ i. take (sym m i) (sym e i)) in
    let back : rest ≡ drop n whole = sym (drop-append_seam cs rest) ∙ (λ i. drop (sym m i) (sym e i)) in
    subst (λ (x : List ℕ × List ℕ). IsLongest x.0 x.1 what) (λ i. (front i, back i)) h

-- Words

word_no_form : (c : ℕ) (es : List ℕ) → begins_word c ≡ true → list_all is_xid_continue es ≡ false → form (c ∷ es) ≡ None
word_no_form c [] w e = cc
word_no_form c (d ∷ es) w e =
    no_form c (d ∷ es) (no_trivia c d es (word_no_slash c w)) (no_fixed stays_word spellings_stay_words (c ∷ d ∷ es) (rw (w, e))) (rw (w, e)) (opens_none c (d ∷ es) (word_no_number c w))

pub word_no_longer : (c : ℕ) (ds rest : List ℕ) → begins_word c ≡ true → IsLongestRun (list_all is_xid_continue) ds rest → NoLonger (c ∷ ds) rest
word_no_longer c ds rest w run more behind nonempty e = word_no_form c (ds ++ more) w (run.longest more behind nonempty e)

pub word_is_no_trivia : (c : ℕ) (ds : List ℕ) → begins_word c ≡ true → is_trivia (c ∷ ds) ≡ false
word_is_no_trivia c [] w = word_no_blank c w
word_is_no_trivia c (d ∷ ds) w = no_trivia c d ds (word_no_slash c w)

pub word_longest : (c : ℕ) (ds rest : List ℕ) (t : Token) → begins_word c ≡ true → IsLongestRun (list_all is_xid_continue) ds rest → token_form (c ∷ ds) ≡ Some t
    → IsLongest (c ∷ ds) rest (token t)
word_longest c ds rest t w run e = record {
  is = token_form_is (c ∷ ds) (word_is_no_trivia c ds w) ∙ rw e;
  longest = word_no_longer c ds rest w run;
}

-- Blankspace

-- no spelling begins with blankspace
abbrev begins_no_blank : List ℕ → Bool
begins_no_blank [] = true
begins_no_blank (c ∷ cs) = not (is_blank c)

pub blank_longest : (c : ℕ) (rest : List ℕ) → is_blank c ≡ true → IsLongest (c ∷ []) rest trivia
blank_longest c rest blank = record {
  is = trivia_form (c ∷ []) blank;
  longest = λ more behind nonempty e. alone more nonempty;
}
  where
    alone : (more : List ℕ) → more ≢ [] → form (c ∷ more) ≡ None
    alone [] nonempty = absurd (nonempty refl)
    alone (d ∷ more) nonempty =
        let begins : begins_word c ≡ false = blank_begins_no_word c blank in
        no_form c (d ∷ more) (no_trivia c d more (blank_no_slash c blank)) (no_fixed begins_no_blank refl (c ∷ d ∷ more) (rw blank)) (no_word c (d ∷ more) begins) (opens_none c (d ∷ more) (blank_no_number c blank))

-- Comments

-- no spelling begins as a comment
abbrev begins_no_comment : List ℕ → Bool
begins_no_comment [] = true
begins_no_comment (c ∷ []) = true
begins_no_comment (c ∷ d ∷ cs) = not ((c == 47) && ((d == 47) || (d == 42)))

comment_no_form : (d : ℕ) (cs : List ℕ) → ((d == 47) || (d == 42)) ≡ true → is_trivia (47 ∷ d ∷ cs) ≡ false → form (47 ∷ d ∷ cs) ≡ None
comment_no_form d cs opens e =
    no_form 47 (d ∷ cs) e (no_fixed begins_no_comment refl (47 ∷ d ∷ cs) (rw opens)) (no_word 47 (d ∷ cs) slash_begins_no_word) refl

pub line_comment_longest : (cs rest : List ℕ) → IsLongestRun is_line_comment_tail cs rest → IsLongest (47 ∷ 47 ∷ cs) rest trivia
line_comment_longest cs rest run = record {
  is = trivia_form (47 ∷ 47 ∷ cs) (rw run.passes);
  longest = λ more behind nonempty e. comment_no_form 47 (cs ++ more) refl (rw (run.longest more behind nonempty e));
}

pub block_comment_longest : (cs rest : List ℕ) → IsLongestRun (is_block_comment_tail 1) cs rest → IsLongest (47 ∷ 42 ∷ cs) rest trivia
block_comment_longest cs rest run = record {
  is = trivia_form (47 ∷ 42 ∷ cs) run.passes;
  longest = λ more behind nonempty e. comment_no_form 42 (cs ++ more) refl (run.longest more behind nonempty e);
}
