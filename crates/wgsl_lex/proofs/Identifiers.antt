-- Which texts are identifiers, by their characters.
use Rattle.std.proofs.Common.{◌≡◌, refl, sym, ap, ◌∙◌, ℕ, Bool, true, false, ◌&&◌, ◌||◌, ◌==◌, List, [], ◌∷◌, length, Some}
use Rattle.std.specs.List.{list_all}
use Rattle.std.specs.Str.{chars, all_scalars, IsUtf8}
use Rattle.std.proofs.lemmas.Str.{scalars-chars}
use Rattle.unicode_ident.specs.Ident.{is_xid_start, is_xid_continue}
use Rattle.wgsl_token.specs.declared.token.Token.{Token}
use Rattle.wgsl_token.specs.declared.token.Token.TheVariants.{Fixed, Identifier, Reserved, AbstractInt, I32, U32, AbstractFloat, F32, F16, Invalid}
use Rattle.wgsl_lex.specs.Tokens.{is_word, token_form}
use Rattle.wgsl_lex.specs.Identifiers.{is_identifier_of, is_identifier}

pub longer_word : (c : ℕ) (ds : List ℕ) → (length ds == 0) ≡ false → is_word (c ∷ ds) ≡ ((is_xid_start c || (c == 95)) && list_all is_xid_continue ds)
longer_word c [] h = absurd cc
longer_word c (d ∷ ds) h = refl

and_false : (b : Bool) → (b && false) ≡ false
and_false true = refl
and_false false = refl

module _ (name : List ℕ) (c : ℕ) (ds : List ℕ) (are : chars name ≡ c ∷ ds) where
  pub no_word : is_word (c ∷ ds) ≡ false → false ≡ is_identifier name
  no_word h = sym (ap (λ b. all_scalars (chars name) && (b && is_identifier_of name (token_form (chars name)))) (ap is_word are ∙ h) ∙ and_false (all_scalars (chars name)))

  pub with_token : (b : Bool) (k : Token) → IsUtf8 name → is_word (c ∷ ds) ≡ true → token_form (c ∷ ds) ≡ Some k → b ≡ is_identifier_of name (Some k) → b ≡ is_identifier name
  with_token b k utf8 word forms is =
      let here : is_identifier_of name (token_form (chars name)) ≡ b = ap (is_identifier_of name) (ap token_form are ∙ forms) ∙ sym is in
      sym (ap (λ a. a && (is_word (chars name) && is_identifier_of name (token_form (chars name)))) (scalars-chars name utf8)
      ∙ ap (λ a. a && is_identifier_of name (token_form (chars name))) (ap is_word are ∙ word) ∙ here)

pub other_token : (name : List ℕ) (k : Token) → ((x : List ℕ) → k ≡ Identifier x → ⊥) → false ≡ is_identifier_of name (Some k)
other_token name (Identifier x) h = absurd (h x refl)
other_token name (Fixed x) h = refl
other_token name (Reserved x) h = refl
other_token name (AbstractInt x) h = refl
other_token name (I32 x) h = refl
other_token name (U32 x) h = refl
other_token name (AbstractFloat x) h = refl
other_token name (F32 x) h = refl
other_token name (F16 x) h = refl
other_token name Invalid h = refl
