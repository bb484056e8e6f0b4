-- Letters, digits and `_` in ASCII.
use Rattle.std.specs.Prelude.{Some}
use Rattle.std.proofs.Common.{◌≡◌, ℕ, zero, suc, ◌+◌, ◌<◌, Bool, true, false, ◌||◌, ◌==◌, List, [], ◌∷◌, length, take, get_or, refl, sym, ◌∙◌, ap, subst, arith, inl, inr}
use Rattle.std.proofs.lemmas.Bool.{cases_lt}
use Rattle.std.proofs.lemmas.Bool.Decides.{nat_tests}
use Rattle.std.proofs.lemmas.List.{get_or_read, take_more_set}
use Rattle.std.specs.Char.{is_ascii_alphabetic, is_ascii_alphanumeric}
use Rattle.std.specs.Str.{IsAscii, encode_utf8_all}
use Rattle.std.proofs.lemmas.Str.{IsAscii-append}
use Rattle.std.proofs.Math.ListN.{set}
use Rattle.unicode_ident.specs.Ident.{is_xid_continue}
use Rattle.unicode_ident.proofs.IdentLemmas.{is_xid_start-ascii, is_xid_continue-ascii}
use Rattle.wgsl_token.specs.declared.token.Token.{Token}
use Rattle.wgsl_lex.specs.Tokens.{size, is_word, token_form}
use Rattle.wgsl_lex.specs.Runs.{IsRun}
use Rattle.wgsl_lex.specs.Pieces.{opens_word, StandsFirst, IsShortWord}
use Rattle.wgsl_lex.proofs.Bools.{differs}
use Rattle.wgsl_lex.proofs.First.{is_the_word, word_first}

pub ascii_continues : (c : ℕ) → c < 128 → is_xid_continue c ≡ (is_ascii_alphanumeric c || (c == 95))
ascii_continues c h = is_xid_continue-ascii c h

letter_is_ascii : (c : ℕ) → is_ascii_alphabetic c ≡ true → c < 128
letter_is_ascii c e = grind (arith, nat_tests)

-- a letter in ASCII begins a word
pub letter_opens : (c : ℕ) (behind : List ℕ) → is_ascii_alphabetic c ≡ true → opens_word c behind ≡ true
letter_opens c behind e = rw (is_xid_start-ascii c (letter_is_ascii c e), e)

-- one character more
pub each_more : (test : ℕ → Bool) (cs : List ℕ) (n x : ℕ) → n < length cs → x ≡ get_or cs n x → test x ≡ true → ((k : ℕ) → k < n → test (get_or cs k 0) ≡ true) → (k : ℕ) → k < n + 1 → test (get_or cs k 0) ≡ true
each_more test cs n x within is passes so_far k h = elim (cases_lt k n) [
  | inl before ↦ so_far k before
  | inr from ↦
      let here : k ≡ n = omega arith in
      ap (λ i. test (get_or cs i 0)) here ∙ ap test (sym (get_or_read cs _ _ within is 0)) ∙ passes
]

pub letter_no_angle : (c : ℕ) → is_ascii_alphabetic c ≡ true → ((c == 60) || (c == 62)) ≡ false
letter_no_angle c e = rw (differs is_ascii_alphabetic c 60 e refl, differs is_ascii_alphabetic c 62 e refl)

-- a short word, of which these bytes are the text
pub short_is : (c : ℕ) (behind front bytes : List ℕ) (count : ℕ) (t : Token) → is_ascii_alphabetic c ≡ true → IsRun is_xid_continue behind count → front ≡ take count behind → length front ≡ count → length bytes ≡ count + 1
    → bytes ≡ encode_utf8_all (c ∷ take count behind) → token_form (c ∷ front) ≡ Some t → IsShortWord c behind (record { length = count + 1; token = t })
short_is c behind front bytes count t letter run f counted sized text form =
    let P : List ℕ → Type 0 = λ w. is_word (c ∷ w) ≡ true in
    let spelled = subst P (sym f) (is_the_word c behind count (letter_opens c behind letter) run) in
    let Q : ℕ → Type 0 = λ k. StandsFirst (c ∷ behind) k (Some t) in
    let same : 1 + length front ≡ count + 1 = omega arith in
    let next : suc count ≡ count + 1 = omega arith in
    record {
      within = omega (arith, run.within);
      bytes = ap (λ k. size (take k (c ∷ behind))) (sym next) ∙ ap length (sym text) ∙ sized;
      angle = letter_no_angle c letter;
      stands = subst Q same (word_first c behind front count t spelled run f counted form);
    }

-- one byte more
pub ascii_more : (bytes : List ℕ) (n c : ℕ) → n < length bytes → c < 128 → IsAscii (take n bytes) → IsAscii (take (n + 1) (set bytes n c))
ascii_more bytes n c room low so_far = let P : List ℕ → Type 0 = IsAscii in subst P (sym (take_more_set bytes n c room)) (IsAscii-append (take n bytes) (c ∷ []) so_far (one_ascii c low))
  where
    one_ascii : (x : ℕ) → x < 128 → IsAscii (x ∷ [])
    one_ascii x h zero = h
    one_ascii x h (suc i) = omega arith
