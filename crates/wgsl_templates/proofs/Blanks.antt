-- Blankspace before a token.
use Rattle.std.specs.Prelude.{Option, Some, None, IfSome, reverse}
use Rattle.std.proofs.Common.{◌≡◌, ℕ, ◌+◌, ◌<◌, ◌≤◌, Bool, true, List, [], ◌∷◌, ◌++◌, length, take, drop, refl, sym, ◌∙◌, ap, subst, arith, append-nil, length-append}
use Rattle.std.specs.Char.{encode_utf8, len_utf8}
use Rattle.std.specs.Str.{encode_utf8_all}
use Rattle.std.proofs.lemmas.Str.{length-encode, len_utf8_ascii}
use Rattle.wgsl_lex.specs.Tokens.{size, is_blank}
use Rattle.wgsl_lex.specs.declared.short.ShortWord.{ShortWord}
use Rattle.wgsl_lex.specs.Pieces.{IsShortWord}
use Rattle.wgsl_lex.proofs.Sizes.{size_split}
use Rattle.wgsl_templates.proofs.Once.{first_takes}
use Rattle.wgsl_lex.proofs.First.{blank_first}
use Rattle.wgsl_templates.specs.declared.meaning.token.Bracket.{Bracket}
use Rattle.wgsl_templates.specs.declared.meaning.token.TemplateToken.TheVariants.{Plain}
use Rattle.wgsl_templates.specs.declared.meaning.token.TemplateToken.{TemplateToken}
use Rattle.wgsl_templates.specs.declared.meaning.token.SpannedTemplateToken.{SpannedTemplateToken}
use Rattle.wgsl_templates.specs.Tokens.{is_word, behind}
use Rattle.wgsl_templates.specs.declared.entry.Entry.{Entry}
use Rattle.wgsl_templates.specs.Steps.{StandsHere, state}
use Rattle.wgsl_templates.proofs.Here.{here_trivia, here_word, is_first}
use Rattle.wgsl_templates.proofs.ReadingLemmas.{IsLexedTo, lex_trivia, lex_token}

pub size_first : (cs : List ℕ) (c : ℕ) (following : List ℕ) → cs ≡ c ∷ following → size cs ≡ len_utf8 c + size following
size_first cs c following is = ap size is ∙ length-append (encode_utf8 c) (encode_utf8_all following) ∙ ap (λ n. n + size following) (length-encode c)

size_one : (c : ℕ) → size (c ∷ []) ≡ len_utf8 c
size_one c = ap length (append-nil (encode_utf8 c)) ∙ length-encode c

pub lex_blank : (characters : List ℕ) (table : List Entry) (rest : List ℕ) (at : ℕ) (after_word : Bool) (opened : List Bracket) (done : List SpannedTemplateToken) → IsLexedTo characters table rest at after_word opened done
    → (c : ℕ) (following : List ℕ) → rest ≡ c ∷ following → is_blank c ≡ true → (bytes : ℕ) → bytes ≡ len_utf8 c → IsLexedTo characters table following (at + bytes) after_word opened done
lex_blank characters table rest at after_word opened done still c following is blank bytes sized =
    lex_trivia characters table rest at after_word opened done still c following is 1 (c ∷ []) following (sym (ap (take 1) is)) (sym (ap (drop 1) is)) bytes (sized ∙ sym (size_one c)) opened refl None
    (λ k. here_trivia (state k after_word opened) c following 1 None (blank_first c following blank) refl) refl

pub lex_alone : (characters : List ℕ) (table : List Entry) (rest : List ℕ) (at : ℕ) (after_word : Bool) (opened : List Bracket) (done : List SpannedTemplateToken) → IsLexedTo characters table rest at after_word opened done
    → (c : ℕ) (following : List ℕ) → rest ≡ c ∷ following → c < 128 → (t : TemplateToken) (brackets : List Bracket) → brackets ≡ opened → ((n : ℕ) → StandsHere (state n after_word brackets) (c ∷ following) 1 (Some t))
    → (word : Bool) (brackets' : List Bracket) (more : List SpannedTemplateToken) → more ≡ done ++ record { token = t; span = record { start = at; end = at + 1 } } ∷ [] → word ≡ is_word t → reverse brackets' ≡ behind (reverse opened) t
    → IsLexedTo characters table following (at + 1) word brackets' more
lex_alone characters table rest at after_word opened done still c following is low t brackets same stands word brackets' more pushed w k =
    lex_token characters table rest at after_word opened done still c following is 1 (c ∷ []) following (sym (ap (take 1) is)) (sym (ap (drop 1) is)) 1 (sym (size_one c ∙ len_utf8_ascii c low)) brackets same (Some t) stands t word brackets' more refl pushed w k

pub lex_word : (characters : List ℕ) (table : List Entry) (rest : List ℕ) (at : ℕ) (after_word : Bool) (opened : List Bracket) (done : List SpannedTemplateToken) → IsLexedTo characters table rest at after_word opened done
    → (c : ℕ) (following : List ℕ) → rest ≡ c ∷ following → (found : ShortWord) → IsShortWord c following found → (back : List ℕ) → back ≡ drop found.length rest → (word : Bool) (brackets : List Bracket) (more : List SpannedTemplateToken)
    → more ≡ done ++ record { token = Plain found.token; span = record { start = at; end = at + found.length } } ∷ [] → word ≡ is_word (Plain found.token) → reverse brackets ≡ behind (reverse opened) (Plain found.token)
    → IsLexedTo characters table back (at + found.length) word brackets more
lex_word characters table rest at after_word opened done still c following is found short back b word brackets more pushed w k =
    lex_token characters table rest at after_word opened done still c following is found.length (take found.length rest) back refl b found.length (sym (ap (λ x. size (take found.length x)) is ∙ short.bytes)) opened refl (Some (Plain found.token))
    (λ n. here_word (state n after_word opened) c following found short) (Plain found.token) word brackets more refl pushed w k

pub found_word : (c : ℕ) (following : List ℕ) (o : Option ShortWord) (word : ShortWord) → IfSome o (IsShortWord c following) → o ≡ Some word → IsShortWord c following word
found_word c following o word h e = let P : Option ShortWord → Type 0 = λ x. IfSome x (IsShortWord c following) in subst P e h

-- a word stands within the text
pub word_ends : (characters : List ℕ) (rest : List ℕ) (at : ℕ) → at + size rest ≡ size characters → (c : ℕ) (following : List ℕ) → rest ≡ c ∷ following → (found : ShortWord) → IsShortWord c following found → (found.length ≤ length rest) × (at + found.length ≤ size characters) × (0 < found.length)
word_ends characters rest at ends c following is found short = (
  omega (arith, ap length is, short.within),
  omega (arith, ends, ap (λ x. size (take found.length x)) is, short.bytes, size_split rest found.length),
  first_takes (c ∷ following) found.length (Some found.token) (is_first c following found.length (Some found.token) short.stands),
)
