-- What is printed of an import statement is laid out as its tokens.
use Rattle.std.proofs.Common.{◌≡◌, refl, sym, ap, ◌∙◌, subst, ℕ, true, false, List, [], ◌∷◌, ◌++◌, append_assoc, append-nil, codes, Option, Some, None}
use Rattle.unicode_ident.proofs.Computing.{unicode_ident}
use Rattle.wgsl_path.specs.declared.path.ModulePath.{ModulePath}
use Rattle.wgsl_token.specs.declared.token.Fixed.TheVariants as f
use Rattle.wgsl_print_laws.proofs.Ends.{ends_word}
use Rattle.wgsl_print_laws.proofs.Spells.{spells_ascii}
use Rattle.wgsl_templates.specs.declared.meaning.token.TemplateToken.{TemplateToken}
use Rattle.wgsl_print_laws.specs.Layout.{IsLaidOut, at_the_end}
use Rattle.wgsl_expressions.specs.Print.{qualifier_text}
use Rattle.wgsl_expressions.specs.AttributesPrint.{attrs_text}
use Rattle.wgsl_expressions.specs.AttributesTree.{Attr}
use Rattle.wgsl_declarations.specs.ImportsPrint.{rename_text, steps_text, content_text, imps_text, more_text, importing_text}
use Rattle.wgsl_declarations.specs.ImportsTree.{Content, item, collection, Imps, nil, cons, Importing}
use Rattle.wgsl_print_laws.specs.Tokens.{mark, path_tokens, qualifier_tokens}
use Rattle.wgsl_print_laws.specs.Printable.{AreSpelled}
use Rattle.wgsl_print_laws.specs.Imports.{AttributesTokens, no_attributes, attributes_and, steps_tokens, rename_tokens, content_tokens, imps_tokens, more_imps_tokens, import_rest, ImportTokens, an_import}
use Rattle.wgsl_print_laws.specs.TreesLaws.{ImportsAreLaidOut}
use Rattle.wgsl_print_laws.proofs.Lays.{Lays, lays_nothing}
use Rattle.wgsl_print_laws.proofs.Signs.{begins_with_none, lays_sign, lays_comma, lays_space, lays_separator}
use Rattle.wgsl_print_laws.proofs.Leaves.{word_leaf}
use Rattle.wgsl_print_laws.proofs.Expressions.{Run, run_then, run_as, sign_run, leaf_run, free, at_space, at_comma, at_colon, path_phrase, closed_run, are_front, are_behind}
use Rattle.wgsl_print_laws.proofs.Directives.{line_end, at_semicolon}
use Rattle.wgsl_print_laws.proofs.Attributes.{keyword_of, attribute_run}

pub lays_brace_left : Lays (begins_with_none []) (codes "{") (mark f.BraceLeft ∷ [])
unfolding unicode_ident
lays_brace_left = lays_sign f.BraceLeft 123 refl [] refl refl refl refl refl

pub lays_brace_right : Lays (begins_with_none []) (codes "}") (mark f.BraceRight ∷ [])
unfolding unicode_ident
lays_brace_right = lays_sign f.BraceRight 125 refl [] refl refl refl refl refl

at_brace_right : (rest : List ℕ) → ends_word (125 ∷ rest) ≡ true
unfolding unicode_ident
at_brace_right rest = refl

pub nothing_run : Run (begins_with_none []) [] []
nothing_run = record { characters = []; spells = spells_ascii [] refl; lays = lays_nothing }

-- ---- attributes, a space behind each

pub attributes_run : (xs : List Attr) (ts : List TemplateToken) → AttributesTokens xs ts → AreSpelled ts → Run (begins_with_none []) ts (attrs_text xs)
attributes_run _ _ no_attributes s = nothing_run
attributes_run _ _ (attributes_and {a = a} {xs = xs} {ts = ts} {us = us} h hs) s =
    let p = attribute_run a ts h (are_front ts us s) in
    let q = attributes_run xs us hs (are_behind ts us s) in
    let spaced = run_then (sign_run lays_space refl) q (λ rest ok. free (q.characters ++ rest)) in
    run_as refl (sym (append_assoc _ (codes " ") (attrs_text xs))) (run_then p spaced (λ rest ok. at_space false (q.characters ++ rest)))

-- ---- steps and contents

separator : Run (begins_with_none []) (mark f.PathSeparator ∷ []) (codes "::")
separator = sign_run lays_separator refl

steps_run : (steps : List (List ℕ)) → AreSpelled (steps_tokens steps) → Run (begins_with_none []) (steps_tokens steps) (steps_text steps)
steps_run [] s = nothing_run
steps_run (x ∷ steps) s =
    let q = steps_run steps s.1.1 in
    let behind = run_then (sign_run lays_separator refl) q (λ rest ok. free (q.characters ++ rest)) in
    run_as refl (sym (append_assoc x (codes "::") (steps_text steps))) (run_then (leaf_run (word_leaf x s.0)) behind (λ rest ok. at_colon (58 ∷ (q.characters ++ rest))))

-- what may be absent, or goes on
record More (ts : List TemplateToken) (bytes : List ℕ) : Type 0 where
  run : Run ends_word ts bytes
  follows : (rest : List ℕ) → ends_word rest ≡ true → ends_word (run.characters ++ rest) ≡ true

no_more : More [] []
no_more = record { run = record { characters = []; spells = spells_ascii [] refl; lays = lays_nothing }; follows = λ rest ok. ok }

rename_run : (o : Option (List ℕ)) → AreSpelled (rename_tokens o) → More (rename_tokens o) (rename_text o)
rename_run None s = no_more
rename_run (Some x) s =
    let name = leaf_run (word_leaf x s.1.0) in
    let spaced = run_then (sign_run lays_space refl) name (λ rest ok. free (name.characters ++ rest)) in
    let renamed = run_then (leaf_run (keyword_of f.As refl)) spaced (λ rest ok. at_space false (name.characters ++ rest)) in
    record { run = run_then (sign_run lays_space refl) renamed (λ rest ok. free (renamed.characters ++ rest)); follows = λ rest ok. at_space false (renamed.characters ++ rest) }

step_run : {ts : List TemplateToken} {bytes : List ℕ} (path : List (List ℕ)) → Run (begins_with_none []) (steps_tokens path) (steps_text path) → Run ends_word ts bytes → Run ends_word (steps_tokens path ++ ts) (steps_text path ++ bytes)
step_run path p q = run_then p q (λ rest ok. free (q.characters ++ rest))

mutual
  content_run : (c : Content) → AreSpelled (content_tokens c) → Run ends_word (content_tokens c) (content_text c)
  content_run (item x rename) s = let q = rename_run rename s.1 in run_then (leaf_run (word_leaf x s.0)) q.run (λ rest ok. q.follows rest ok)
  content_run (collection is) s =
      let p = imps_run is (are_front (imps_tokens is) (mark f.BraceRight ∷ []) s.1) in
      let shut = run_then p (closed_run _ (sign_run lays_brace_right refl)) (λ rest ok. at_brace_right rest) in
      run_as refl (sym (append_assoc (codes "{") (imps_text is) (codes "}"))) (run_then (sign_run lays_brace_left refl) shut (λ rest ok. free (shut.characters ++ rest)))

  imps_run : (is : Imps) → AreSpelled (imps_tokens is) → Run ends_word (imps_tokens is) (imps_text is)
  imps_run nil s = no_more.run
  imps_run (cons path c is) s =
      let first = are_front (steps_tokens path ++ content_tokens c) (more_imps_tokens is) s in
      let q = more_run is (are_behind (steps_tokens path ++ content_tokens c) (more_imps_tokens is) s) in
      run_then (step_run path (steps_run path (are_front (steps_tokens path) (content_tokens c) first)) (content_run c (are_behind (steps_tokens path) (content_tokens c) first))) q.run (λ rest ok. q.follows rest ok)

  more_run : (is : Imps) → AreSpelled (more_imps_tokens is) → More (more_imps_tokens is) (more_text is)
  more_run nil s = no_more
  more_run (cons path c is) s =
      let first = are_front (steps_tokens path ++ content_tokens c) (more_imps_tokens is) s.1 in
      let q = more_run is (are_behind (steps_tokens path ++ content_tokens c) (more_imps_tokens is) s.1) in
      let one = run_then (step_run path (steps_run path (are_front (steps_tokens path) (content_tokens c) first)) (content_run c (are_behind (steps_tokens path) (content_tokens c) first))) q.run (λ rest ok. q.follows rest ok) in
      let spaced = run_then (sign_run lays_space refl) one (λ rest ok. free (one.characters ++ rest)) in
      let all = run_then (sign_run lays_comma refl) spaced (λ rest ok. free (spaced.characters ++ rest)) in
      let P : List ℕ → Type 0 = λ z. More (more_imps_tokens (cons path c is)) z in
      subst P (ap (λ z. codes ", " ++ z) refl ∙ ap (λ z. z ++ more_text is) (sym (append_assoc (codes ", ") (steps_text path) (content_text c)))) (record { run = all; follows = λ rest ok. at_comma false (spaced.characters ++ rest) })

-- ---- import statements

qualifier_run : (q : Option ModulePath) → AreSpelled (qualifier_tokens q) → Run (begins_with_none []) (qualifier_tokens q) (qualifier_text q)
qualifier_run None s = nothing_run
qualifier_run (Some p) s =
    let path = path_phrase p (are_front (path_tokens p) (mark f.PathSeparator ∷ []) s) in
    run_then path.run (sign_run lays_separator refl) (λ rest ok. at_colon (58 ∷ rest))

pub import_run : (i : Importing) (ts : List TemplateToken) → ImportTokens i ts → AreSpelled ts → Run (begins_with_none []) ts (importing_text i)
import_run i _ (an_import {ts = ts} h) s =
    let behind = are_behind ts (import_rest i) s in
    let p = attributes_run i.attributes ts h (are_front ts (import_rest i) s) in
    let inner = are_behind (qualifier_tokens i.path) (content_tokens i.content ++ (mark f.Semicolon ∷ [])) behind.1 in
    let q = qualifier_run i.path (are_front (qualifier_tokens i.path) (content_tokens i.content ++ (mark f.Semicolon ∷ [])) behind.1) in
    let c = content_run i.content (are_front (content_tokens i.content) (mark f.Semicolon ∷ []) inner) in
    let ended = run_then c line_end (λ rest ok. at_semicolon (10 ∷ rest)) in
    let qualified = run_then q ended (λ rest ok. free (ended.characters ++ rest)) in
    let spaced = run_then (sign_run lays_space refl) qualified (λ rest ok. free (qualified.characters ++ rest)) in
    let word = run_then (leaf_run (keyword_of f.Import refl)) spaced (λ rest ok. at_space false (qualified.characters ++ rest)) in
    run_as refl
    (sym (append_assoc (((attrs_text i.attributes ++ codes "import ") ++ qualifier_text i.path)) (content_text i.content) (codes ";\n") ∙ append_assoc (attrs_text i.attributes ++ codes "import ") (qualifier_text i.path) (content_text i.content ++ codes ";\n")
    ∙ append_assoc (attrs_text i.attributes) (codes "import ") (qualifier_text i.path ++ (content_text i.content ++ codes ";\n"))))
    (run_then p word (λ rest ok. free (word.characters ++ rest)))

pub imports_are_laid_out : ImportsAreLaidOut
imports_are_laid_out i ts h s =
    let p = import_run i ts h s in record {
      characters = p.characters;
      are_scalars = p.spells.scalars;
      spell = p.spells.encodes;
      laid_out = (let P : List ℕ × List TemplateToken → Type 0 = λ x. IsLaidOut x.0 x.1 in subst P (λ i. (append-nil p.characters i, append-nil ts i)) (p.lays.lays [] [] refl at_the_end));
    }
