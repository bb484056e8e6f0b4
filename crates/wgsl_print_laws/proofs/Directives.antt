-- What is printed of a directive behind its attributes is laid out as its tokens.
use Rattle.std.proofs.Common.{◌≡◌, refl, sym, ap, ◌∙◌, subst, ℕ, true, false, List, [], ◌∷◌, ◌++◌, append_assoc, codes}
use Rattle.unicode_ident.proofs.Computing.{unicode_ident}
use Rattle.wgsl_words.specs.declared.enumerations.words.DiagnosticSeverity.{DiagnosticSeverity}
use Rattle.wgsl_words.specs.Texts.{diagnostic_severity_text}
use Rattle.std.specs.List.{flat_map}
use Rattle.wgsl_token.specs.declared.token.Token.TheVariants as t
use Rattle.wgsl_token.specs.declared.token.Fixed.TheVariants as f
use Rattle.wgsl_print_laws.proofs.Spells.{spells_ascii}
use Rattle.wgsl_print_laws.proofs.Ends.{ends_word}
use Rattle.wgsl_templates.specs.declared.meaning.token.TemplateToken.{TemplateToken}
use Rattle.wgsl_declarations.specs.ImportsPrint.{setting_text, names_text}
use Rattle.wgsl_print_laws.specs.Tokens.{mark, word}
use Rattle.wgsl_print_laws.specs.Printable.{AreSpelled}
use Rattle.wgsl_print_laws.specs.Directives.{IsRule, one_name, two_names, more_names_tokens, names_tokens, setting_tokens}
use Rattle.wgsl_print_laws.proofs.Lays.{Lays, lays_nothing}
use Rattle.wgsl_print_laws.proofs.Signs.{begins_with_none, lays_sign, lays_paren_left, lays_paren_right, lays_comma, lays_space, lays_blank}
use Rattle.wgsl_print_laws.proofs.Leaves.{Leaf, word_leaf, keyword_leaf}
use Rattle.wgsl_print_laws.proofs.Expressions.{Run, run_then, run_as, sign_run, leaf_run, point_run, free, at_space, at_paren_left, at_paren_right, at_comma, at_period, are_front}

diagnostic_leaf : Leaf ends_word (t.Fixed f.Diagnostic) (codes "diagnostic")
unfolding unicode_ident
diagnostic_leaf = keyword_leaf f.Diagnostic 100 (codes "iagnostic") refl refl refl refl

pub enable_leaf : Leaf ends_word (t.Fixed f.Enable) (codes "enable")
unfolding unicode_ident
enable_leaf = keyword_leaf f.Enable 101 (codes "nable") refl refl refl refl

pub requires_leaf : Leaf ends_word (t.Fixed f.Requires) (codes "requires")
unfolding unicode_ident
requires_leaf = keyword_leaf f.Requires 114 (codes "equires") refl refl refl refl

pub lays_semicolon : Lays (begins_with_none []) (codes ";") (mark f.Semicolon ∷ [])
unfolding unicode_ident
lays_semicolon = lays_sign f.Semicolon 59 refl [] refl refl refl refl refl

pub at_semicolon : (rest : List ℕ) → ends_word (59 ∷ rest) ≡ true
unfolding unicode_ident
at_semicolon rest = refl

-- the end of a line
abbrev pub line_end : Run (begins_with_none []) (mark f.Semicolon ∷ []) (codes ";\n")
line_end = run_then (sign_run lays_semicolon refl) (sign_run lays_blank refl) (λ rest ok. free (10 ∷ rest))

rule_run : (rule : List ℕ) (ts : List TemplateToken) → IsRule rule ts → AreSpelled ts → Run ends_word ts rule
rule_run _ _ (one_name x) s = leaf_run (word_leaf x s.0)
rule_run _ _ (two_names x y) s =
    run_as refl (sym (append_assoc x (codes ".") y)) (run_then (leaf_run (word_leaf x s.0)) (point_run y s.1.1.0) (λ rest ok. at_period ((word_leaf y s.1.1.0).characters ++ rest)))

-- names behind the first
record Names (ts : List TemplateToken) (bytes : List ℕ) : Type 0 where
  run : Run ends_word ts bytes
  follows : (rest : List ℕ) → ends_word rest ≡ true → ends_word (run.characters ++ rest) ≡ true

no_names : Names [] []
no_names = record { run = record { characters = []; spells = spells_ascii [] refl; lays = lays_nothing }; follows = λ rest ok. ok }

more_names : (xs : List (List ℕ)) → AreSpelled (more_names_tokens xs) → Names (more_names_tokens xs) (flat_map (λ (y : List ℕ). codes ", " ++ y) xs)
more_names [] s = no_names
more_names (x ∷ xs) s =
    let p = more_names xs s.1.1 in
    let q = run_then (leaf_run (word_leaf x s.1.0)) p.run (λ rest ok. p.follows rest ok) in
    let run = run_then (sign_run lays_comma refl) (run_then (sign_run lays_space refl) q (λ rest ok. free (q.characters ++ rest))) (λ rest ok. free ((codes " " ++ q.characters) ++ rest)) in
    record {
      run = run;
      follows = λ rest ok. at_comma false ((codes " " ++ q.characters) ++ rest);
    }

names_run : (xs : List (List ℕ)) → AreSpelled (names_tokens xs) → Run ends_word (names_tokens xs) (names_text xs)
names_run [] s = no_names.run
names_run (x ∷ xs) s = let p = more_names xs s.1 in run_then (leaf_run (word_leaf x s.0)) p.run (λ rest ok. p.follows rest ok)

five : (a b c d e f : List ℕ) → ((((a ++ b) ++ c) ++ d) ++ e) ++ f ≡ a ++ (b ++ (c ++ (d ++ (e ++ f))))
five a b c d e f =
    append_assoc (((a ++ b) ++ c) ++ d) e f ∙ append_assoc ((a ++ b) ++ c) d (e ++ f) ∙ append_assoc (a ++ b) c (d ++ (e ++ f)) ∙ append_assoc a b (c ++ (d ++ (e ++ f)))

pub setting_run : (severity : DiagnosticSeverity) (rule : List ℕ) (ts : List TemplateToken) → IsRule rule ts → AreSpelled (setting_tokens severity ts ++ (mark f.Semicolon ∷ []))
    → Run (begins_with_none []) (setting_tokens severity ts ++ (mark f.Semicolon ∷ [])) (setting_text severity rule ++ codes ";\n")
unfolding setting_text
setting_run severity rule ts is s =
    let behind : AreSpelled (ts ++ (mark f.ParenRight ∷ (mark f.Semicolon ∷ []))) = subst AreSpelled (append_assoc ts (mark f.ParenRight ∷ []) (mark f.Semicolon ∷ [])) s.1.1.1.1 in
    let name = word_leaf (diagnostic_severity_text severity) s.1.1.0 in
    let one = rule_run rule ts is (are_front ts (mark f.ParenRight ∷ (mark f.Semicolon ∷ [])) behind) in
    let shut = run_then (sign_run lays_paren_right refl) line_end (λ rest ok. free (59 ∷ (10 ∷ rest))) in
    let inner = run_then one shut (λ rest ok. at_paren_right false (59 ∷ (10 ∷ rest))) in
    let spaced = run_then (sign_run lays_space refl) inner (λ rest ok. free (inner.characters ++ rest)) in
    let comma = run_then (sign_run lays_comma refl) spaced (λ rest ok. free (spaced.characters ++ rest)) in
    let named = run_then (leaf_run name) comma (λ rest ok. at_comma false (spaced.characters ++ rest)) in
    let opened = run_then (sign_run lays_paren_left refl) named (λ rest ok. free (named.characters ++ rest)) in
    run_as
    (ap (λ z. mark f.Diagnostic ∷ mark f.ParenLeft ∷ word (diagnostic_severity_text severity) ∷ mark f.Comma ∷ z) (sym (append_assoc ts (mark f.ParenRight ∷ []) (mark f.Semicolon ∷ []))))
    (sym (five (codes "diagnostic(") (diagnostic_severity_text severity) (codes ", ") rule (codes ")") (codes ";\n")))
    (run_then (leaf_run diagnostic_leaf) opened (λ rest ok. at_paren_left false (named.characters ++ rest)))

pub names_line : {ts : List TemplateToken} {word : List ℕ} (xs : List (List ℕ)) → Run ends_word ts word → AreSpelled (names_tokens xs ++ (mark f.Semicolon ∷ []))
    → Run (begins_with_none []) (ts ++ (names_tokens xs ++ (mark f.Semicolon ∷ []))) (word ++ (codes " " ++ (names_text xs ++ codes ";\n")))
names_line xs p s =
    let all = run_then (names_run xs (are_front (names_tokens xs) (mark f.Semicolon ∷ []) s)) line_end (λ rest ok. at_semicolon (10 ∷ rest)) in
    let spaced = run_then (sign_run lays_space refl) all (λ rest ok. free (all.characters ++ rest)) in
    run_then p spaced (λ rest ok. at_space false (all.characters ++ rest))
