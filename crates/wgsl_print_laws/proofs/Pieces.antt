-- What the token that stands first says of the first characters.
use Rattle.std.proofs.Common.{◌≡◌, refl, sym, ap, ◌∙◌, subst, ℕ, zero, suc, ◌<◌, Bool, true, false, ◌==◌, List, [], ◌∷◌, take, Option, Some, None, arith}
use Rattle.std.specs.Prelude.{if◌then◌else◌}
use Rattle.std.specs.Str.{encode_utf8_all}
use Rattle.wgsl_base.proofs.Bools.{false_if}
use Rattle.unicode_ident.proofs.Computing.{unicode_ident}
use Rattle.wgsl_token.specs.declared.token.Token.{Token}
use Rattle.wgsl_token.specs.declared.token.Token.TheVariants.{Fixed, Identifier, Reserved, Invalid}
use Rattle.wgsl_token.specs.declared.token.Fixed.{Fixed as FixedToken}
use Rattle.wgsl_token.specs.declared.token.Fixed.TheVariants as f
use Rattle.wgsl_token.specs.Spelling.{spelling}
use Rattle.wgsl_lex.specs.Tokens.{is_trivia, is_word, is_reserved, word_token, begins_with_two_underscores, number_token, form, token}
use Rattle.wgsl_lex.specs.Pieces.{StandsFirst, trivia_first, token_first, nothing_first}
use Rattle.wgsl_lex.proofs.Bools.{is_number}
use Rattle.wgsl_lex.proofs.Forms.{fixed_form, no_number, no_word}
use Rattle.wgsl_lex.proofs.Tables.{fixed_of-spelling, begins_word}
use Rattle.wgsl_print_laws.proofs.Forms as m
use Rattle.wgsl_print_laws.proofs.Forms.{Made, made, Numeral, abstract, signed, unsigned, float, single, half, past, number_numeral}
use Rattle.wgsl_templates.specs.Tokens.{begins_with_greater, is_less, IsFirst}
use Rattle.wgsl_templates.proofs.Once.{first_takes}

-- a token that begins with `>`, and `<` alone
abbrev pub greater : Token → Bool
greater (Fixed g) = begins_with_greater (spelling g)
greater _ = false

abbrev pub less : Token → Bool
less (Fixed g) = is_less (spelling g)
less _ = false

-- Tokens of no fixed spelling

abbrev is_other : Token → Bool
is_other (Fixed g) = false
is_other _ = true

other_greater : (t : Token) → is_other t ≡ true → greater t ≡ false
other_greater (Fixed g) e = absurd cc
other_greater _ e = refl

other_less : (t : Token) → is_other t ≡ true → less t ≡ false
other_less (Fixed g) e = absurd cc
other_less _ e = refl

word_other : (cs : List ℕ) → is_other (word_token cs) ≡ true
word_other cs = go (begins_with_two_underscores cs) (is_reserved cs)
  where
    go : (b c : Bool) → is_other (if b then Invalid else (if c then Reserved (encode_utf8_all cs) else Identifier (encode_utf8_all cs))) ≡ true
    go true c = refl
    go false true = refl
    go false false = refl

numeral_other : (t : Token) → Numeral t → is_other t ≡ true
numeral_other _ (abstract n h) = refl
numeral_other _ (signed n h) = refl
numeral_other _ (unsigned n h) = refl
numeral_other _ (float text) = refl
numeral_other _ (single text) = refl
numeral_other _ (half text) = refl
numeral_other _ past = refl

-- What makes some characters a token

data Says (cs : List ℕ) (t : Token) : Type 0 where
  as_fixed : (g : FixedToken) → t ≡ Fixed g → spelling g ≡ cs → Says cs t
  as_other : is_other t ≡ true → begins_with_greater cs ≡ false → is_less cs ≡ false → Says cs t

-- a character that is none of the two signs
signs_off : (c : ℕ) (ds : List ℕ) → (c ≡ 62 → ⊥) → (c ≡ 60 → ⊥) → (begins_with_greater (c ∷ ds) ≡ false) × (is_less (c ∷ ds) ≡ false)
signs_off c ds g l = (false_if (c == 62) (λ e. g (is_number c 62 e)), alone ds)
  where
    alone : (ds : List ℕ) → is_less (c ∷ ds) ≡ false
    alone [] = false_if (c == 60) (λ e. l (is_number c 60 e))
    alone (d ∷ ds) = refl

no_word_at : (c m : ℕ) (ds : List ℕ) → ((es : List ℕ) → is_word (m ∷ es) ≡ false) → is_word (c ∷ ds) ≡ true → c ≡ m → ⊥
no_word_at c m ds none w e = let h : is_word (m ∷ ds) ≡ true = subst (λ x. is_word (x ∷ ds) ≡ true) e w in let k = sym h ∙ none ds in cc

no_number_at : (c m : ℕ) (ds : List ℕ) (t : Token) → ((es : List ℕ) → number_token (m ∷ es) ≡ None) → number_token (c ∷ ds) ≡ Some t → c ≡ m → ⊥
no_number_at c m ds t none w e = let h : number_token (m ∷ ds) ≡ Some t = subst (λ x. number_token (x ∷ ds) ≡ Some t) e w in let k = sym h ∙ none ds in cc

greater_begins_no_word : begins_word 62 ≡ false
unfolding unicode_ident
greater_begins_no_word = refl

less_begins_no_word : begins_word 60 ≡ false
unfolding unicode_ident
less_begins_no_word = refl

says : (c : ℕ) (ds : List ℕ) (t : Token) → Made (c ∷ ds) t → Says (c ∷ ds) t
says c ds t (m.as_fixed g e spelled) = as_fixed g e spelled
says c ds t (m.as_word w e) =
    let off = signs_off c ds (no_word_at c 62 ds (λ es. no_word 62 es greater_begins_no_word) w) (no_word_at c 60 ds (λ es. no_word 60 es less_begins_no_word) w) in
    as_other (ap is_other e ∙ word_other (c ∷ ds)) off.0 off.1
says c ds t (m.as_number is) =
    let off = signs_off c ds (no_number_at c 62 ds t (λ es. no_number 62 es refl) is) (no_number_at c 60 ds t (λ es. no_number 60 es refl) is) in
    as_other (numeral_other t (number_numeral (c ∷ ds) t is)) off.0 off.1

sign_form : (g : FixedToken) → is_trivia (spelling g) ≡ false → form (spelling g) ≡ None → ⊥
sign_form g h e = let k = sym (fixed_form (spelling g) g h (fixed_of-spelling g)) ∙ e in cc

nothing_made : (c : ℕ) → form (c ∷ []) ≡ None → Says (c ∷ []) Invalid
nothing_made c none =
    let off = signs_off c [] (λ e. sign_form f.GreaterThan refl (subst (λ x. form (x ∷ []) ≡ None) e none)) (λ e. sign_form f.LessThan refl (subst (λ x. form (x ∷ []) ≡ None) e none)) in
    as_other refl off.0 off.1

-- What is told

pub record Told (text : List ℕ) (n : ℕ) (t : Token) : Type 0 where
  pub greater_is : begins_with_greater text ≡ greater t
  pub less_is : is_less (take n text) ≡ less t

told_by : (c : ℕ) (cs : List ℕ) (m : ℕ) (t : Token) → Says (take (suc m) (c ∷ cs)) t → Told (c ∷ cs) (suc m) t
told_by c cs m t (as_fixed g is spelled) = record {
  greater_is = ap begins_with_greater (sym spelled) ∙ ap greater (sym is);
  less_is = ap is_less (sym spelled) ∙ ap less (sym is);
}
told_by c cs m t (as_other other g l) = record {
  greater_is = g ∙ sym (other_greater t other);
  less_is = l ∙ sym (other_less t other);
}

told_of : (c : ℕ) (cs : List ℕ) (m : ℕ) (o : Option Token) → StandsFirst (c ∷ cs) (suc m) o → (t : Token) → o ≡ Some t → Told (c ∷ cs) (suc m) t
told_of c cs m _ (trivia_first h) t e = absurd cc
told_of c cs m _ (token_first {t = u} h) t e = let same : u ≡ t = cc in told_by c cs m t (says c (take m cs) t (made (c ∷ take m cs) t (h.is ∙ ap (λ x. Some (token x)) same)))
told_of c cs m _ (nothing_first one is longest) t e =
    let same : Invalid ≡ t = cc in
    let zero_more : m ≡ 0 = omega arith in
    let P : Token → Type 0 = λ x. Told (c ∷ cs) (suc m) x in
    subst P same (let Q : ℕ → Type 0 = λ k. Told (c ∷ cs) (suc k) Invalid in subst Q (sym zero_more) (told_by c cs 0 Invalid (nothing_made c is)))

pub told : (text : List ℕ) (n : ℕ) (t : Token) → IsFirst text n (Some t) → Told text n t
told [] n t h = absurd (h.some refl)
told (c ∷ cs) zero t h = let some : 0 < zero = first_takes (c ∷ cs) zero (Some t) h in absurd (omega arith)
told (c ∷ cs) (suc m) t h = told_of c cs m (Some t) h.stands t refl

-- `<` alone doesn't begin with `>`, and is no word
less_list : (cs : List ℕ) → is_less cs ≡ true → begins_with_greater cs ≡ false
less_list [] e = absurd cc
less_list (c ∷ []) e = false_if (c == 62) (λ g. let h : c ≡ 60 = is_number c 60 e in let k : c ≡ 62 = is_number c 62 g in absurd (omega arith))
less_list (c ∷ d ∷ cs) e = absurd cc

pub less_not_greater : (t : Token) → less t ≡ true → greater t ≡ false
less_not_greater (Fixed g) e = less_list (spelling g) e
less_not_greater _ e = absurd cc
