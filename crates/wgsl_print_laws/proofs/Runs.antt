-- Runs of characters one behind the other, and the signs of statements and declarations.
use Rattle.std.proofs.Common.{◌≡◌, refl, ap, ◌∙◌, ℕ, zero, suc, ◌*◌, Bool, true, false, nat_lt, List, [], ◌∷◌, ◌++◌, append_assoc, codes}
use Rattle.std.specs.Prelude.{replicate}
use Rattle.std.specs.List.{list_all}
use Rattle.unicode_ident.proofs.Computing.{unicode_ident}
use Rattle.wgsl_token.specs.declared.token.Token.TheVariants as t
use Rattle.wgsl_token.specs.declared.token.Fixed.{Fixed}
use Rattle.wgsl_token.specs.declared.token.Fixed.TheVariants as f
use Rattle.wgsl_token.specs.Spelling.{spelling}
use Rattle.wgsl_print_laws.proofs.Ends.{ends_word}
use Rattle.wgsl_print_laws.proofs.Spells.{spells_ascii}
use Rattle.wgsl_templates.specs.declared.meaning.token.TemplateToken.{TemplateToken}
use Rattle.wgsl_print_laws.specs.OptionalMarks.{is_any_word}
use Rattle.wgsl_expressions.specs.Print.{exp_text, typ_text, indent}
use Rattle.wgsl_expressions.specs.Tree.{Exp, Typ}
use Rattle.wgsl_print_laws.specs.Tokens.{mark, word, exp_tokens, typ_tokens}
use Rattle.wgsl_print_laws.specs.Printable.{IsSpelled, AreSpelled, ends_in_number, is_apart, type_is_apart}
use Rattle.wgsl_print_laws.proofs.Lays.{Lays, lays_then, lays_nothing}
use Rattle.wgsl_print_laws.proofs.Signs.{begins_with_none, lays_sign, lays_pair, lays_paren_left, lays_paren_right, lays_comma, lays_space, lays_blank}
use Rattle.wgsl_print_laws.proofs.Leaves.{word_leaf}
use Rattle.wgsl_print_laws.proofs.Expressions.{Run, run_then, run_as, run_where, sign_run, leaf_run, free, stops, stops_end, exp_phrase, typ_phrase, are_front, are_behind}
use Rattle.wgsl_print_laws.proofs.Directives.{lays_semicolon}
use Rattle.wgsl_print_laws.proofs.Attributes.{keyword_of}
use Rattle.wgsl_print_laws.proofs.Imports.{nothing_run}

-- what may stand behind a sign
abbrev pub any_rest : List ℕ → Bool
any_rest = begins_with_none []

-- a run behind one that anything may follow
abbrev pub and_then : {may : List ℕ → Bool} {ts us : List TemplateToken} {xs ys : List ℕ} → Run any_rest ts xs → Run may us ys → Run may (ts ++ us) (xs ++ ys)
and_then p q = run_then p q (λ rest ok. free (q.characters ++ rest))

-- a run that may stand behind a word or a number
pub record Sequel (may : List ℕ → Bool) (ts : List TemplateToken) (bytes : List ℕ) : Type 0 where
  pub run : Run may ts bytes
  pub follows : (rest : List ℕ) → may rest ≡ true → stops (run.characters ++ rest) ≡ true

pub no_sequel : Sequel stops [] []
no_sequel = record { run = record { characters = []; spells = spells_ascii [] refl; lays = lays_nothing }; follows = λ rest ok. ok }

-- behind a word or a number
abbrev pub behind : {may : List ℕ → Bool} {ts us : List TemplateToken} {xs ys : List ℕ} → Run stops ts xs → Sequel may us ys → Run may (ts ++ us) (xs ++ ys)
behind p q = run_then p q.run (λ rest ok. q.follows rest ok)

-- both may be absent
pub sequel_then : {may : List ℕ → Bool} {ts us : List TemplateToken} {xs ys : List ℕ} → Sequel stops ts xs → Sequel may us ys → Sequel may (ts ++ us) (xs ++ ys)
sequel_then p q = record {
  run = behind p.run q;
  follows = λ rest ok. ap stops (append_assoc p.run.characters q.run.characters rest) ∙ p.follows (q.run.characters ++ rest) (q.follows rest ok);
}

abbrev pub stopped : {ts : List TemplateToken} {xs : List ℕ} → Run any_rest ts xs → Run stops ts xs
stopped p = run_where (λ rest ok. free rest) p

-- what ends in a line's end or a brace leaves the tokens as they are
pub run_as_text : {may : List ℕ → Bool} {ts : List TemplateToken} {xs ys : List ℕ} → xs ≡ ys → Run may ts xs → Run may ts ys
run_as_text e p = run_as refl e p

-- ---- signs

-- a sign that may stand behind a word or a number, its first character apart
pub record Sign (c : ℕ) (cs : List ℕ) (ts : List TemplateToken) : Type 0 where
  pub lays : Lays any_rest (c ∷ cs) ts
  pub ascii : list_all (λ d. nat_lt d 128) (c ∷ cs) ≡ true
  pub stands : (rest : List ℕ) → stops (c ∷ rest) ≡ true

pub sign_then : {may : List ℕ → Bool} {c : ℕ} {cs ys : List ℕ} {ts us : List TemplateToken} → Sign c cs ts → Run may us ys → Sequel may (ts ++ us) (c ∷ (cs ++ ys))
sign_then {cs = cs} s q = record { run = and_then (sign_run s.lays s.ascii) q; follows = λ rest ok. s.stands ((cs ++ q.characters) ++ rest) }

pub sign_alone : {c : ℕ} {cs : List ℕ} {ts : List TemplateToken} → Sign c cs ts → Sequel any_rest ts (c ∷ cs)
sign_alone {cs = cs} s = record { run = sign_run s.lays s.ascii; follows = λ rest ok. s.stands (cs ++ rest) }

pub space : Sign 32 [] []
unfolding unicode_ident
space = record { lays = lays_space; ascii = refl; stands = λ rest. refl }

spaced_lays : {cs : List ℕ} {ts : List TemplateToken} → Lays any_rest cs ts → Lays any_rest (cs ++ codes " ") (ts ++ [])
spaced_lays p = lays_then p lays_space (λ rest ok. free (32 ∷ rest))

ended_lays : {cs : List ℕ} {ts : List TemplateToken} → Lays any_rest cs ts → Lays any_rest (cs ++ codes "\n") (ts ++ [])
ended_lays p = lays_then p lays_blank (λ rest ok. free (10 ∷ rest))

pub semicolon : Sign 59 [] (mark f.Semicolon ∷ [])
unfolding unicode_ident
semicolon = record { lays = lays_semicolon; ascii = refl; stands = λ rest. refl }

pub semicolon_space : Sign 59 (codes " ") (mark f.Semicolon ∷ [])
semicolon_space = record { lays = spaced_lays lays_semicolon; ascii = refl; stands = semicolon.stands }

pub semicolon_end : Sign 59 (codes "\n") (mark f.Semicolon ∷ [])
semicolon_end = record { lays = ended_lays lays_semicolon; ascii = refl; stands = semicolon.stands }

pub paren_left : Sign 40 [] (mark f.ParenLeft ∷ [])
unfolding unicode_ident
paren_left = record { lays = lays_paren_left; ascii = refl; stands = λ rest. refl }

pub paren_right : Sign 41 [] (mark f.ParenRight ∷ [])
unfolding unicode_ident
paren_right = record { lays = lays_paren_right; ascii = refl; stands = λ rest. refl }

pub paren_right_space : Sign 41 (codes " ") (mark f.ParenRight ∷ [])
paren_right_space = record { lays = spaced_lays lays_paren_right; ascii = refl; stands = paren_right.stands }

lays_colon : Lays (begins_with_none (58 ∷ [])) (codes ":") (mark f.Colon ∷ [])
unfolding unicode_ident
lays_colon = lays_sign f.Colon 58 refl (58 ∷ []) refl refl refl refl refl

pub colon_space : Sign 58 (codes " ") (mark f.Colon ∷ [])
unfolding unicode_ident
colon_space = record { lays = lays_then lays_colon lays_space (λ rest ok. refl); ascii = refl; stands = λ rest. refl }

pub comma : Sign 44 [] (mark f.Comma ∷ [])
unfolding unicode_ident
comma = record { lays = lays_comma; ascii = refl; stands = λ rest. refl }

pub comma_space : Sign 44 (codes " ") (mark f.Comma ∷ [])
comma_space = record { lays = spaced_lays lays_comma; ascii = refl; stands = comma.stands }

pub comma_end : Sign 44 (codes "\n") (mark f.Comma ∷ [])
comma_end = record { lays = ended_lays lays_comma; ascii = refl; stands = comma.stands }

pub lays_plus_plus : Lays any_rest (codes "++") (mark f.PlusPlus ∷ [])
unfolding unicode_ident
lays_plus_plus = lays_pair f.PlusPlus 43 43 refl [] refl refl refl refl refl

pub lays_minus_minus : Lays any_rest (codes "--") (mark f.MinusMinus ∷ [])
unfolding unicode_ident
lays_minus_minus = lays_pair f.MinusMinus 45 45 refl [] refl refl refl refl refl

-- behind what ends in no number
pub at_plus : (rest : List ℕ) → ends_word (43 ∷ rest) ≡ true
unfolding unicode_ident
at_plus rest = refl

pub at_minus : (rest : List ℕ) → ends_word (45 ∷ rest) ≡ true
unfolding unicode_ident
at_minus rest = refl

-- ---- indentation

pub spaces_run : (n : ℕ) → Run any_rest [] (replicate n 32)
spaces_run zero = nothing_run
spaces_run (suc n) = and_then (sign_run lays_space refl) (spaces_run n)

pub indent_run : (level : ℕ) → Run any_rest [] (indent level)
indent_run level = spaces_run (4 * level)

pub blank_run : Run any_rest [] (codes "\n")
blank_run = sign_run lays_blank refl

-- ---- words, names, expressions and types

pub keyword_run : (g : Fixed) → is_any_word (mark g) ≡ true → Run stops (mark g ∷ []) (spelling g)
keyword_run g e = run_where (λ rest ok. stops_end false rest ok) (leaf_run (keyword_of g e))

pub name_run : (x : List ℕ) → IsSpelled (t.Identifier x) → Run stops (word x ∷ []) x
name_run x s = run_where (λ rest ok. stops_end false rest ok) (leaf_run (word_leaf x s))

pub exp_run : (x : Exp) → AreSpelled (exp_tokens x) → is_apart x ≡ true → Run stops (exp_tokens x) (exp_text x)
exp_run x s h = run_where (λ rest ok. stops_end (ends_in_number x) rest ok) (exp_phrase x s h).run

pub typ_run : (t : Typ) → AreSpelled (typ_tokens t) → type_is_apart t ≡ true → Run stops (typ_tokens t) (typ_text t)
typ_run t s h = run_where (λ rest ok. stops_end false rest ok) (typ_phrase t s h).run

-- a word and a space
pub word_then : {may : List ℕ → Bool} {ts : List TemplateToken} {xs : List ℕ} (g : Fixed) → is_any_word (mark g) ≡ true → Run may ts xs → Run may (mark g ∷ ts) (spelling g ++ (32 ∷ xs))
word_then g e q = behind (keyword_run g e) (sign_then space q)

-- ---- what is spelled

pub parted : (ts us : List TemplateToken) → AreSpelled (ts ++ us) → AreSpelled ts × AreSpelled us
parted ts us s = (are_front ts us s, are_behind ts us s)

-- ---- texts one behind the other

pub four : (a b c d : List ℕ) → ((a ++ b) ++ c) ++ d ≡ a ++ (b ++ (c ++ d))
four a b c d = append_assoc (a ++ b) c d ∙ append_assoc a b (c ++ d)

pub five : (a b c d e : List ℕ) → (((a ++ b) ++ c) ++ d) ++ e ≡ a ++ (b ++ (c ++ (d ++ e)))
five a b c d e = four (a ++ b) c d e ∙ append_assoc a b (c ++ (d ++ e))

pub six : (a b c d e g : List ℕ) → ((((a ++ b) ++ c) ++ d) ++ e) ++ g ≡ a ++ (b ++ (c ++ (d ++ (e ++ g))))
six a b c d e g = five (a ++ b) c d e g ∙ append_assoc a b (c ++ (d ++ (e ++ g)))

pub seven : (a b c d e g h : List ℕ) → (((((a ++ b) ++ c) ++ d) ++ e) ++ g) ++ h ≡ a ++ (b ++ (c ++ (d ++ (e ++ (g ++ h)))))
seven a b c d e g h = six (a ++ b) c d e g h ∙ append_assoc a b (c ++ (d ++ (e ++ (g ++ h))))

pub eight : (a b c d e g h i : List ℕ) → ((((((a ++ b) ++ c) ++ d) ++ e) ++ g) ++ h) ++ i ≡ a ++ (b ++ (c ++ (d ++ (e ++ (g ++ (h ++ i))))))
eight a b c d e g h i = seven (a ++ b) c d e g h i ∙ append_assoc a b (c ++ (d ++ (e ++ (g ++ (h ++ i)))))
