-- Tokens that open brackets, close them or separate: how they are spelled, and what is open behind them.
use Rattle.std.specs.Prelude.{Option, Some, None, if◌then◌else◌, ◌==◌, nat_le, pos}
use Rattle.std.specs.Str.{encode_utf8_all}
use Rattle.std.proofs.Common.{◌≡◌, ℕ, Bool, true, false, not, ◌&&◌, List, [], ◌∷◌, ◌++◌, take, drop, reverse, refl, sym, ◌∙◌, ap, subst, take-append-drop}
use Rattle.std.specs.Option.{option_map, option_or}
use Rattle.wgsl_token.specs.declared.token.Token.{Token}
use Rattle.wgsl_token.specs.declared.token.Token.TheVariants.{Fixed, Identifier, Reserved, AbstractInt, I32, U32, AbstractFloat, F32, F16, Invalid}
use Rattle.wgsl_token.specs.declared.token.Fixed.{Fixed as FixedToken}
use Rattle.wgsl_token.specs.declared.token.Fixed.TheVariants as f
use Rattle.wgsl_token.specs.Spelling.{spelling}
use Rattle.wgsl_lex.specs.Floats.{is_float, takes_float_suffix}
use Rattle.wgsl_lex.specs.Tokens.{is_trivia, is_word as is_word_text, is_reserved, begins_with_two_underscores, magnitude, abstract_token, signed_token, unsigned_token, word_token, plain_number, number_with, suffixed_number, number_token, fixed_of, token_form, form, Form, trivia, token}
use Rattle.wgsl_lex.specs.Pieces.{StandsFirst, trivia_first, token_first, nothing_first}
use Rattle.wgsl_lex.proofs.Bools.{is_number}
use Rattle.wgsl_lex.proofs.Tables.{spelled_as}
use Rattle.wgsl_templates.specs.declared.meaning.kind.Kind.{Kind}
use Rattle.wgsl_templates.specs.declared.meaning.kind.Kind.TheVariants as k
use Rattle.wgsl_templates.specs.declared.meaning.token.Bracket.{Bracket}
use Rattle.wgsl_templates.specs.declared.meaning.token.Bracket.TheVariants as b
use Rattle.wgsl_templates.specs.declared.meaning.token.TemplateToken.{TemplateToken}
use Rattle.wgsl_templates.specs.declared.meaning.token.TemplateToken.TheVariants.{Plain, TemplateArgsStart, TemplateArgsEnd}
use Rattle.wgsl_templates.specs.Kinds.{kind, plain_kind}
use Rattle.wgsl_templates.specs.Tokens.{is_word, is_less, is_in_list, closed, behind, State, less_or_start, IsFirst, Stands, closing, asked, plain}
use Rattle.wgsl_templates.specs.declared.recognizer.place.Enclosing.{Enclosing}
use Rattle.wgsl_templates.specs.declared.recognizer.place.Enclosing.TheVariants as e
use Rattle.wgsl_templates.proofs.Fits.{turns, is_closing, sign}
use Rattle.wgsl_templates.specs.Levels.{bracket}

-- Tokens of one spelling

-- a token of many spellings, or none
abbrev is_open : Option Token → Bool
is_open (Some (Fixed fixed)) = false
is_open _ = true

open_or : (o p : Option Token) → is_open o ≡ true → is_open p ≡ true → is_open (option_or o p) ≡ true
open_or None p h i = i
open_or (Some t) p h i = h

open_if : (holds : Bool) (o p : Option Token) → is_open o ≡ true → is_open p ≡ true → is_open (if holds then o else p) ≡ true
open_if true o p h i = h
open_if false o p h i = i

open_map : (make : ℕ → Token) → ((n : ℕ) → is_open (Some (make n)) ≡ true) → (o : Option ℕ) → is_open (option_map make o) ≡ true
open_map make h None = refl
open_map make h (Some n) = h n

open_one : (holds : Bool) (t u : Token) → is_open (Some t) ≡ true → is_open (Some u) ≡ true → is_open (Some (if holds then t else u)) ≡ true
open_one true t u h i = h
open_one false t u h i = i

signed_open : (n : ℕ) → is_open (Some (signed_token n)) ≡ true
signed_open n = open_one (nat_le n 2147483647) (I32 (pos n)) Invalid refl refl

unsigned_open : (n : ℕ) → is_open (Some (unsigned_token n)) ≡ true
unsigned_open n = open_one (nat_le n 4294967295) (U32 n) Invalid refl refl

abstract_open : (n : ℕ) → is_open (Some (abstract_token n)) ≡ true
abstract_open n = open_one (nat_le n 9223372036854775807) (AbstractInt (pos n)) Invalid refl refl

float_open : (short half : Bool) (cs : List ℕ) → is_open (if short then Some (F32 (encode_utf8_all cs)) else (if half then Some (F16 (encode_utf8_all cs)) else None)) ≡ true
float_open true half cs = refl
float_open false true cs = refl
float_open false false cs = refl

open_number_with : (suffix : ℕ) (cs : List ℕ) → is_open (number_with suffix cs) ≡ true
open_number_with suffix cs =
    let floats : Option Token = if (suffix == 102) && takes_float_suffix cs then Some (F32 (encode_utf8_all cs)) else (if (suffix == 104) && takes_float_suffix cs then Some (F16 (encode_utf8_all cs)) else None) in
    let unsigned : Option Token = option_map unsigned_token (magnitude cs) in
    open_if (suffix == 105) (option_map signed_token (magnitude cs)) (if suffix == 117 then unsigned else floats) (open_map signed_token signed_open (magnitude cs))
    (open_if (suffix == 117) unsigned floats (open_map unsigned_token unsigned_open (magnitude cs)) (float_open ((suffix == 102) && takes_float_suffix cs) ((suffix == 104) && takes_float_suffix cs) cs))

open_suffixed : (cs : List ℕ) → is_open (suffixed_number cs) ≡ true
open_suffixed [] = refl
open_suffixed (c ∷ cs) = open_number_with c (reverse cs)

open_number : (cs : List ℕ) → is_open (number_token cs) ≡ true
open_number cs =
    open_or (plain_number cs) (suffixed_number (reverse cs))
    (open_or (option_map abstract_token (magnitude cs)) (if is_float cs then Some (AbstractFloat (encode_utf8_all cs)) else None) (open_map abstract_token abstract_open (magnitude cs))
    (open_if (is_float cs) (Some (AbstractFloat (encode_utf8_all cs))) None refl refl)) (open_suffixed (reverse cs))

open_word : (cs : List ℕ) → is_open (Some (word_token cs)) ≡ true
open_word cs =
    open_one (begins_with_two_underscores cs) Invalid (if is_reserved cs then Reserved (encode_utf8_all cs) else Identifier (encode_utf8_all cs)) refl
    (open_one (is_reserved cs) (Reserved (encode_utf8_all cs)) (Identifier (encode_utf8_all cs)) refl refl)

fixed_or : (o : Option FixedToken) (p : Option Token) (fixed : FixedToken) → is_open p ≡ true → option_map token (option_or (option_map Fixed o) p) ≡ Some (token (Fixed fixed)) → o ≡ Some fixed
fixed_or (Some g) p fixed h e = cc
fixed_or None None fixed h e = absurd cc
fixed_or None (Some t) fixed h e =
    let same : t ≡ Fixed fixed = cc in
    let none : is_open (Some t) ≡ false = ap (λ x. is_open (Some x)) same in
    absurd cc

not_trivia : (holds : Bool) (o : Option Form) (t : Token) → (if holds then Some trivia else o) ≡ Some (token t) → o ≡ Some (token t)
not_trivia true o t e = absurd cc
not_trivia false o t e = e

pub fixed_form_is : (cs : List ℕ) (fixed : FixedToken) → form cs ≡ Some (token (Fixed fixed)) → spelling fixed ≡ cs
unfolding form token_form
fixed_form_is cs fixed e =
    spelled_as cs fixed
    (fixed_or (fixed_of cs) (if is_word_text cs then Some (word_token cs) else number_token cs) fixed (open_if (is_word_text cs) (Some (word_token cs)) (number_token cs) (open_word cs) (open_number cs))
    (not_trivia (is_trivia cs) _ (Fixed fixed) e))

-- such a token stands first
first_fixed : (text : List ℕ) (n : ℕ) (t : Token) (fixed : FixedToken) → IsFirst text n (Some t) → t ≡ Fixed fixed → take n text ≡ spelling fixed
first_fixed text n t fixed first same = stood t first.stands same
  where
    stood : (u : Token) → StandsFirst text n (Some u) → u ≡ Fixed fixed → take n text ≡ spelling fixed
    stood u (token_first h) e = sym (fixed_form_is (take n text) fixed (h.is ∙ ap (λ x. Some (token x)) e))
    stood _ (nothing_first one none longest) e = absurd cc

less_alone : (cs : List ℕ) → is_less cs ≡ true → cs ≡ 60 ∷ []
less_alone [] h = absurd cc
less_alone (c ∷ []) h = ap (λ x. x ∷ []) (is_number c 60 h)
less_alone (c ∷ d ∷ cs) h = absurd cc

-- Kinds

is_paren : (t : Token) → plain_kind t ≡ k.ParenLeft → t ≡ Fixed f.ParenLeft
is_paren (Fixed f.ParenLeft) h = refl
is_paren (Fixed _) h = absurd cc
is_paren _ h = absurd cc

is_bracket : (t : Token) → plain_kind t ≡ k.BracketLeft → t ≡ Fixed f.BracketLeft
is_bracket (Fixed f.BracketLeft) h = refl
is_bracket (Fixed _) h = absurd cc
is_bracket _ h = absurd cc

is_comma : (t : Token) → plain_kind t ≡ k.Comma → t ≡ Fixed f.Comma
is_comma (Fixed f.Comma) h = refl
is_comma (Fixed _) h = absurd cc
is_comma _ h = absurd cc

no_start : (t : Token) → plain_kind t ≡ k.TemplateArgsStart → ⊥
no_start (Fixed f.Comma) h = cc
no_start (Fixed _) h = cc
no_start _ h = cc

-- the character that opens such a bracket
abbrev pub mark : Enclosing → ℕ
mark e.List = 60
mark e.Arguments = 40
mark e.Parentheses = 40
mark e.Index = 91

paren_first : (text : List ℕ) (n : ℕ) (t : Token) → IsFirst text n (Some t) → plain_kind t ≡ k.ParenLeft → take n text ≡ 40 ∷ []
paren_first text n t first h = first_fixed text n t f.ParenLeft first (is_paren t h)

opens_plain : (bracketed : Enclosing) (text : List ℕ) (n : ℕ) (t : Token) → IsFirst text n (Some t) → plain_kind t ≡ sign bracketed → take n text ≡ mark bracketed ∷ []
opens_plain e.List text n t first h = absurd (no_start t h)
opens_plain e.Arguments text n t first h = paren_first text n t first h
opens_plain e.Parentheses text n t first h = paren_first text n t first h
opens_plain e.Index text n t first h = first_fixed text n t f.BracketLeft first (is_bracket t h)

opens_asked : (bracketed : Enclosing) (text : List ℕ) (n : ℕ) (t : Token) (opens : Bool) → IsFirst text n (Some t) → is_less (take n text) ≡ true → kind (less_or_start opens t) ≡ sign bracketed → take n text ≡ mark bracketed ∷ []
opens_asked bracketed text n t false first less h = opens_plain bracketed text n t first h
opens_asked e.List text n t true first less h = less_alone (take n text) less
opens_asked e.Arguments text n t true first less h = absurd cc
opens_asked e.Parentheses text n t true first less h = absurd cc
opens_asked e.Index text n t true first less h = absurd cc

no_end : (bracketed : Enclosing) → k.TemplateArgsEnd ≡ sign bracketed → ⊥
no_end e.List h = cc
no_end e.Arguments h = cc
no_end e.Parentheses h = cc
no_end e.Index h = cc

right : (a b : Bool) → (a && b) ≡ true → b ≡ true
right true b h = h
right false b h = absurd cc

pub opens_with : (bracketed : Enclosing) {s : State} {text : List ℕ} {n : ℕ} {t : TemplateToken} → Stands s text n t → kind t ≡ sign bracketed → take n text ≡ mark bracketed ∷ []
opens_with bracketed (closing n t first h) same = absurd (no_end bracketed same)
opens_with bracketed {s = s} {text = text} (asked {opens = opens} n t first h o) same = opens_asked bracketed text n t opens first (right s.after_word (is_less (take n text)) h) same
opens_with bracketed {text = text} (plain n t first h w) same = opens_plain bracketed text n t first same

comma_asked : (text : List ℕ) (n : ℕ) (t : Token) (opens : Bool) → IsFirst text n (Some t) → kind (less_or_start opens t) ≡ k.Comma → take n text ≡ 44 ∷ []
comma_asked text n t true first h = absurd cc
comma_asked text n t false first h = first_fixed text n t f.Comma first (is_comma t h)

pub comma_with : {s : State} {text : List ℕ} {n : ℕ} {t : TemplateToken} → Stands s text n t → kind t ≡ k.Comma → take n text ≡ 44 ∷ []
comma_with (closing n t first h) same = absurd cc
comma_with {text = text} (asked {opens = opens} n t first h o) same = comma_asked text n t opens first same
comma_with {text = text} (plain n t first h w) same = first_fixed text n t f.Comma first (is_comma t same)

-- What is open behind a token

pub turns_nothing : (opened : List Bracket) (t : TemplateToken) → turns (kind t) ≡ false → behind opened t ≡ opened
turns_nothing opened TemplateArgsStart h = absurd cc
turns_nothing opened TemplateArgsEnd h = absurd cc
turns_nothing opened (Plain (Fixed f.ParenLeft)) h = absurd cc
turns_nothing opened (Plain (Fixed f.BracketLeft)) h = absurd cc
turns_nothing opened (Plain (Fixed f.ParenRight)) h = absurd cc
turns_nothing opened (Plain (Fixed f.BracketRight)) h = absurd cc
turns_nothing opened (Plain (Fixed _)) h = refl
turns_nothing opened (Plain _) h = refl

pub closes_one : (bracket : Bracket) (opened : List Bracket) (t : TemplateToken) → is_closing (kind t) ≡ true → behind (bracket ∷ opened) t ≡ opened
closes_one bracket opened TemplateArgsStart h = absurd cc
closes_one bracket opened TemplateArgsEnd h = refl
closes_one bracket opened (Plain (Fixed f.ParenRight)) h = refl
closes_one bracket opened (Plain (Fixed f.BracketRight)) h = refl
closes_one bracket opened (Plain (Fixed _)) h = absurd cc
closes_one bracket opened (Plain _) h = absurd cc

opens_plainly : (bracketed : Enclosing) (opened : List Bracket) (t : Token) → plain_kind t ≡ sign bracketed → behind opened (Plain t) ≡ bracket bracketed ∷ opened
opens_plainly e.List opened t h = absurd (no_start t h)
opens_plainly e.Arguments opened t h = ap (λ x. behind opened (Plain x)) (is_paren t h)
opens_plainly e.Parentheses opened t h = ap (λ x. behind opened (Plain x)) (is_paren t h)
opens_plainly e.Index opened t h = ap (λ x. behind opened (Plain x)) (is_bracket t h)

start_is : (bracketed : Enclosing) → k.TemplateArgsStart ≡ sign bracketed → b.TemplateList ≡ bracket bracketed
start_is e.List h = refl
start_is e.Arguments h = absurd cc
start_is e.Parentheses h = absurd cc
start_is e.Index h = absurd cc

pub opens_one : (bracketed : Enclosing) (opened : List Bracket) (t : TemplateToken) → kind t ≡ sign bracketed → behind opened t ≡ bracket bracketed ∷ opened
opens_one bracketed opened TemplateArgsStart h = ap (λ x. x ∷ opened) (start_is bracketed h)
opens_one bracketed opened TemplateArgsEnd h = absurd (no_end bracketed h)
opens_one bracketed opened (Plain t) h = opens_plainly bracketed opened t h

-- no word
pub turns_no_word : (t : TemplateToken) → turns (kind t) ≡ true → is_word t ≡ false
turns_no_word TemplateArgsStart h = refl
turns_no_word TemplateArgsEnd h = refl
turns_no_word (Plain (Identifier name)) h = absurd cc
turns_no_word (Plain (Fixed f.Var)) h = absurd cc
turns_no_word (Plain (Fixed _)) h = refl
turns_no_word (Plain _) h = refl

pub comma_word : (t : TemplateToken) → kind t ≡ k.Comma → is_word t ≡ false
comma_word TemplateArgsStart h = refl
comma_word TemplateArgsEnd h = refl
comma_word (Plain (Identifier name)) h = absurd cc
comma_word (Plain (Fixed f.Var)) h = absurd cc
comma_word (Plain (Fixed _)) h = refl
comma_word (Plain _) h = refl

pub sign_turns : (bracketed : Enclosing) (kind : Kind) → kind ≡ sign bracketed → turns kind ≡ true
sign_turns e.List kind h = ap turns h
sign_turns e.Arguments kind h = ap turns h
sign_turns e.Parentheses kind h = ap turns h
sign_turns e.Index kind h = ap turns h

pub closing_turns : (kind : Kind) → is_closing kind ≡ true → turns kind ≡ true
closing_turns k.TemplateArgsEnd h = refl
closing_turns k.ParenRight h = refl
closing_turns k.BracketRight h = refl
closing_turns _ h = absurd cc

-- the text behind a sign
pub sign_parts : (text back : List ℕ) (n c : ℕ) → take n text ≡ c ∷ [] → back ≡ drop n text → text ≡ c ∷ back
sign_parts text back n c front is = sym (take-append-drop n text) ∙ (λ i. front i ++ sym is i)
