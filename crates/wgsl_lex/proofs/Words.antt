-- The table of words.
use Rattle.std.specs.Prelude.{not, nat_lt, Option, Some, None, is_none}
use Rattle.std.proofs.Math.Utf8.{encode}
use Rattle.std.proofs.Common.{◌≡◌, ℕ, zero, suc, ◌%◌, ◌<◌, Bool, true, false, ◌||◌, inl, inr, List, [], ◌∷◌, length, get_or, map, refl, sym, ◌∙◌, ap, arith}
use Rattle.std.specs.List.{list_all, list_any}
use Rattle.std.specs.Str.{bytes_eq, encode_utf8_all}
use Rattle.std.proofs.lemmas.Bool.{ltb-true}
use Rattle.std.proofs.lemmas.Slice.Eq.{bytes_eq-Decides}
use Rattle.std.proofs.lemmas.Str.{encodes_same}
use Rattle.unicode_ident.proofs.Computing.{unicode_ident}
use Rattle.wgsl_token.specs.declared.token.Fixed.{Fixed as FixedToken}
use Rattle.wgsl_token.specs.declared.token.Token.TheVariants.{Fixed, Identifier, Reserved, Invalid}
use Rattle.wgsl_token.specs.Spelling.{spelling}
use Rattle.wgsl_lex.specs.declared.word.TheConstants.{WORDS}
use Rattle.wgsl_lex.specs.Tokens.{all_fixed, fixed_of, reserved_words, is_reserved, is_word, begins_with_two_underscores, word_token, token_form}
use Rattle.wgsl_lex.specs.declared.rows.TheConstants.{ROWS}
use Rattle.wgsl_lex.specs.Rows.{row, IsRow, is_there, is_other}
use Rattle.wgsl_lex.specs.Pieces.{IsListed, listed, unlisted, is_meaning, is_listable}
use Rattle.wgsl_lex.proofs.Bools.{not_both}
use Rattle.wgsl_lex.proofs.Tables.{fixed_passes, no_fixed, fixed_of-spelling}
use Rattle.wgsl_base.proofs.Bools.{and_both as both, or_cases as either, false_if as fails}

-- What the rows say

pub at_row : {X : Type 0} (p : X → Bool) (xs : List X) → list_all p xs ≡ true → (k : ℕ) (d : X) → k < length xs → p (get_or xs k d) ≡ true
at_row p [] e k d h = absurd (omega arith)
at_row p (x ∷ xs) e zero d h = (both (p x) (list_all p xs) e).0
at_row p (x ∷ xs) e (suc k) d h = at_row p xs (both (p x) (list_all p xs) e).1 k d (omega arith)

-- each word that is fixed or reserved has a row
abbrev pub has_row : List ℕ → Bool
has_row cs = list_any (λ e. bytes_eq e.0.now cs) WORDS

abbrev word_has_row : List ℕ → Bool
word_has_row cs = not (is_word cs) || has_row cs

fixed_have_rows : list_all (λ g. word_has_row (spelling g)) all_fixed ≡ true
unfolding unicode_ident
fixed_have_rows = refl

reserved_have_rows : list_all has_row reserved_words ≡ true
reserved_have_rows = refl

-- ASCII
abbrev is_own_text : List ℕ → Bool
is_own_text cs = bytes_eq (encode_utf8_all cs) cs

fixed_are_own : list_all (λ g. is_own_text (spelling g)) all_fixed ≡ true
unfolding encode
fixed_are_own = refl

reserved_are_own : list_all is_own_text reserved_words ≡ true
unfolding encode
reserved_are_own = refl

own_text : (cs : List ℕ) → is_own_text cs ≡ true → encode_utf8_all cs ≡ cs
own_text cs e = (bytes_eq-Decides (encode_utf8_all cs) cs).0 e

fixed_own : (fixed : FixedToken) → encode_utf8_all (spelling fixed) ≡ spelling fixed
fixed_own fixed = own_text (spelling fixed) (fixed_passes is_own_text fixed_are_own (spelling fixed) fixed (fixed_of-spelling fixed))

any_passes : {X : Type 0} (spelled : X → List ℕ) (p : List ℕ → Bool) (xs : List X) (cs : List ℕ) → list_all (λ x. p (spelled x)) xs ≡ true
    → list_any (λ x. bytes_eq (spelled x) cs) xs ≡ true → p cs ≡ true
any_passes spelled p [] cs all e = cc
any_passes spelled p (x ∷ xs) cs all e =
    let here = both (p (spelled x)) (list_all (λ y. p (spelled y)) xs) all in
    elim (either (bytes_eq (spelled x) cs) (list_any (λ y. bytes_eq (spelled y) cs) xs) e) [
      | inl same ↦ ap p (sym ((bytes_eq-Decides (spelled x) cs).0 same)) ∙ here.0
      | inr later ↦ any_passes spelled p xs cs here.1 later
    ]

rows_listable : list_all (λ e. is_listable e.0.now) WORDS ≡ true
rows_listable = refl

pub not_listable : (word : List ℕ) → is_listable word ≡ false → has_row word ≡ false
not_listable word fail = fails (has_row word) (λ there. not_both (is_listable word) (any_passes (λ e. e.0.now) is_listable WORDS word rows_listable there) fail)

-- each word of the table stands in the row of its place
abbrev stands_in_row : List ℕ → Bool
stands_in_row word = bytes_eq (get_or (map (λ e. e.0.now) WORDS) (row word) []) word

rows_placed : list_all (λ e. stands_in_row e.0.now) WORDS ≡ true
rows_placed = refl

mapped_there : {X : Type 0} (f : X → List ℕ) (xs : List X) (k : ℕ) (d : X) → k < length xs → get_or (map f xs) k [] ≡ f (get_or xs k d)
mapped_there f [] k d h = absurd (omega arith)
mapped_there f (x ∷ xs) zero d h = refl
mapped_there f (x ∷ xs) (suc k) d h = mapped_there f xs k d (omega arith)

rows_within : list_all (λ k. nat_lt k 172) ROWS ≡ true
rows_within = refl

-- each row is one of the table
pub row_within : (k n d : ℕ) → k ≡ n % 1024 → get_or ROWS k d < 172
row_within k n d e = ltb-true (get_or ROWS k d) 172 (at_row (λ i. nat_lt i 172) ROWS rows_within k d (omega arith))

-- what a table that agrees with `WORDS` has in that row
pub listed_from : {X : Type 0} (spelled : X → List ℕ) (fixed : X → Option FixedToken) (xs : List X) (k : ℕ) (word : List ℕ) (answer : Option (Option FixedToken)) → list_all (λ e. is_meaning (spelled e) (fixed e)) xs ≡ true
    → map spelled xs ≡ map (λ e. e.0.now) WORDS → k ≡ row word → k < length xs → IsRow spelled fixed xs k word answer → IsListed word answer
listed_from spelled fixed xs k word _ mean agree e within (is_there d same) =
    listed (ap (λ w. is_meaning w (fixed (get_or xs k d))) (sym ((bytes_eq-Decides (spelled (get_or xs k d)) word).0 same)) ∙ at_row (λ r. is_meaning (spelled r) (fixed r)) xs mean k d within)
listed_from spelled fixed xs k word _ mean agree e within (is_other d other) =
    let here : get_or (map (λ r. r.0.now) WORDS) (row word) [] ≡ spelled (get_or xs k d) = ap (λ l. get_or l (row word) []) (sym agree) ∙ ap (λ j. get_or (map spelled xs) j []) (sym e) ∙ mapped_there spelled xs k d within in
    let there : stands_in_row word ≡ false = ap (λ w. bytes_eq w word) here ∙ other in
    unlisted (fails (has_row word) (λ h. not_both (stands_in_row word) (any_passes (λ r. r.0.now) stands_in_row WORDS word rows_placed h) there))

reserved_passes : (p : List ℕ → Bool) → list_all p reserved_words ≡ true → (cs : List ℕ) → is_reserved cs ≡ true → p cs ≡ true
unfolding is_reserved
reserved_passes p all cs e = any_passes (λ w. w) p reserved_words cs all e

-- The token of a word, from its row. Its text is b.

pub word_is_fixed : (cs : List ℕ) (fixed : FixedToken) → fixed_of cs ≡ Some fixed → token_form cs ≡ Some (Fixed fixed)
unfolding token_form
word_is_fixed cs fixed e = rw e

word_is_token : (cs : List ℕ) → fixed_of cs ≡ None → is_word cs ≡ true → token_form cs ≡ Some (word_token cs)
unfolding token_form
word_is_token cs e w = rw (e, w)

-- no spelling begins with two underscores
abbrev one_underscore : List ℕ → Bool
one_underscore cs = not (begins_with_two_underscores cs)

pub word_is_invalid : (cs : List ℕ) → is_word cs ≡ true → begins_with_two_underscores cs ≡ true → token_form cs ≡ Some Invalid
word_is_invalid cs w u = word_is_token cs (no_fixed one_underscore refl cs (rw u)) w ∙ ap Some (rw u)

module _ (cs b : List ℕ) (text : b ≡ encode_utf8_all cs) where
  pub row_fixed : (fixed : FixedToken) → is_meaning b (Some fixed) ≡ true → token_form cs ≡ Some (Fixed fixed)
  row_fixed fixed right =
      let spelled : spelling fixed ≡ b = (bytes_eq-Decides (spelling fixed) b).0 right in
      let same : spelling fixed ≡ cs = encodes_same (spelling fixed) cs (fixed_own fixed ∙ spelled ∙ text) in
      word_is_fixed cs fixed (ap fixed_of (sym same) ∙ fixed_of-spelling fixed)

  -- a text of its own bytes
  pub row_reserved : is_word cs ≡ true → begins_with_two_underscores cs ≡ false → is_meaning b None ≡ true → token_form cs ≡ Some (Reserved b)
  row_reserved w u right =
      let parts = both (is_reserved b) (is_none (fixed_of b)) right in
      let own : encode_utf8_all b ≡ b = own_text b (reserved_passes is_own_text reserved_are_own b parts.0) in
      let same : b ≡ cs = encodes_same b cs (own ∙ text) in
      let reserved : is_reserved cs ≡ true = ap is_reserved (sym same) ∙ parts.0 in
      let unfixed : fixed_of cs ≡ None = ap fixed_of (sym same) ∙ none_is (fixed_of b) parts.1 in
      word_is_token cs unfixed w ∙ ap Some (rw (u, reserved) (ap Reserved (sym text)))
    where
      none_is : (o : Option FixedToken) → is_none o ≡ true → o ≡ None
      none_is None e = refl
      none_is (Some fixed) e = cc

  pub no_row_identifier : is_word cs ≡ true → begins_with_two_underscores cs ≡ false → has_row b ≡ false → token_form cs ≡ Some (Identifier b)
  no_row_identifier w u none =
      let unfixed : fixed_of cs ≡ None =
      elim (fixed_of cs) as (λ o. fixed_of cs ≡ o → o ≡ None) [
        | None ↦ λ _. refl
        | Some g ↦ λ some.
            let known : word_has_row cs ≡ true = fixed_passes word_has_row fixed_have_rows cs g some in
            let there : has_row cs ≡ true = rw w at known in
            let own : encode_utf8_all cs ≡ cs = own_text cs (fixed_passes is_own_text fixed_are_own cs g some) in
            absurd (not_both (has_row cs) there (ap has_row (sym (text ∙ own)) ∙ none))
      ] refl
      in
      let unreserved : is_reserved cs ≡ false =
      fails (is_reserved cs)
      (λ r.
      let own : encode_utf8_all cs ≡ cs = own_text cs (reserved_passes is_own_text reserved_are_own cs r) in
      not_both (has_row cs) (reserved_passes has_row reserved_have_rows cs r) (ap has_row (sym (text ∙ own)) ∙ none))
      in
      word_is_token cs unfixed w ∙ ap Some (rw (u, unreserved) (ap Identifier (sym text)))

pub listed_right : (b : List ℕ) (answer : Option FixedToken) → IsListed b (Some answer) → is_meaning b answer ≡ true
listed_right b _ (listed right) = right

pub listed_nowhere : (b : List ℕ) → IsListed b None → has_row b ≡ false
listed_nowhere b (unlisted none) = none
