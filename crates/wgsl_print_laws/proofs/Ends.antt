-- What may stand behind a word or a number: a character that goes on with none.
use Rattle.std.proofs.Common.{◌≡◌, refl, sym, ap, ◌∙◌, ℕ, Bool, true, false, not, ◌&&◌, List, [], ◌∷◌, ◌++◌, Some, None, inl, inr}
use Rattle.std.specs.Option.{option_map}
use Rattle.std.specs.Char.{is_ascii_digit}
use Rattle.std.proofs.lemmas.Bool.{and_parts, or_cases}
use Rattle.unicode_ident.specs.Ident.{is_xid_continue}
use Rattle.wgsl_base.proofs.Bools.{or_left}
use Rattle.wgsl_lex.specs.Token.{Token}
use Rattle.wgsl_lex.specs.Floats.{is_point}
use Rattle.wgsl_lex.specs.Pieces.{begins, opens_number}
use Rattle.wgsl_lex.specs.Tokens.{token, number_token, NoLonger}
use Rattle.wgsl_lex.proofs.Tables.{begins_word}
use Rattle.wgsl_lex.proofs.Forms.{no_number, opened_form}
use Rattle.wgsl_print_laws.proofs.Forms.{is_number_char}
use Rattle.wgsl_print_laws.proofs.Marks.{no_longer, all_fails, word_no_form}
use Rattle.wgsl_print_laws.proofs.Numbers.{no_number_with}

-- goes on with no word
abbrev pub ends_word : List ℕ → Bool
ends_word [] = true
ends_word (c ∷ cs) = not (is_xid_continue c)

-- goes on with no number
abbrev pub ends_number : List ℕ → Bool
ends_number [] = true
ends_number (c ∷ cs) = not (is_number_char c)

not_false : (b : Bool) → not b ≡ true → b ≡ false
not_false true h = absurd cc
not_false false h = refl

pub word_ends : (c : ℕ) (cs rest : List ℕ) → begins_word c ≡ true → ends_word rest ≡ true → NoLonger (c ∷ cs) rest
word_ends c cs rest w ok = no_longer ends_word (c ∷ cs) rest ok (λ d more behind h. word_no_form c (cs ++ d ∷ more) w (all_fails is_xid_continue cs d more (not_false (is_xid_continue d) h)))

-- a number begins so, whatever stands behind it
opens_longer : (c : ℕ) (cs more : List ℕ) → opens_number c cs ≡ true → opens_number c (cs ++ more) ≡ true
opens_longer c [] more h = elim (or_cases (is_ascii_digit c) (is_point c && false) h) [
  | inl x ↦ or_left (is_ascii_digit c) (is_point c && begins is_ascii_digit more) x
  | inr x ↦ absurd (let none = (and_parts (is_point c) false x).1 in cc)
]
opens_longer c (d ∷ cs) more h = h

number_opens : (c : ℕ) (cs : List ℕ) (k : Token) → number_token (c ∷ cs) ≡ Some k → opens_number c cs ≡ true
number_opens c cs k e = go (opens_number c cs) refl
  where
    go : (b : Bool) → opens_number c cs ≡ b → opens_number c cs ≡ true
    go true h = h
    go false h = let wrong : None ≡ Some k = sym (no_number c cs h) ∙ e in absurd cc

pub number_ends : (c : ℕ) (cs rest : List ℕ) (k : Token) → number_token (c ∷ cs) ≡ Some k → ends_number rest ≡ true → NoLonger (c ∷ cs) rest
number_ends c cs rest k e ok = no_longer ends_number (c ∷ cs) rest ok (λ d more behind h.
    opened_form c (cs ++ d ∷ more) (opens_longer c cs (d ∷ more) (number_opens c cs k e))
    ∙ ap (option_map token) (no_number_with (c ∷ cs) d more (not_false (is_number_char d) h)))
