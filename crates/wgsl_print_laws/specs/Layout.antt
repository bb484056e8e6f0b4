-- Texts that are laid out as given tokens (WGSL, "Textual Structure"): one piece for each token, with blankspace and comments between
-- them. A piece is the longest one at its place, but for the `>` that ends a template list: it stands at the front of one.
use Rattle.std.specs.Prelude.{◌≡◌, ℕ, true, List, [], ◌∷◌, take, drop, Some, None}
use Rattle.std.specs.Str.{encode_utf8_all, all_scalars}
use Rattle.wgsl_token.specs.declared.token.Token.{Token}
use Rattle.wgsl_templates.specs.declared.meaning.token.TemplateToken.{TemplateToken}
use Rattle.wgsl_templates.specs.declared.meaning.token.TemplateToken.TheVariants.{Plain, TemplateArgsStart, TemplateArgsEnd}
use Rattle.wgsl_templates.specs.Tokens.{begins_with_greater, is_less, IsFirst}

-- so many characters at the front are a piece of this token
pub data IsPiece (text : List ℕ) : ℕ → TemplateToken → Type 0 where
  a_token : {n : ℕ} {t : Token} → IsFirst text n (Some t) → IsPiece text n (Plain t)
  list_start : {n : ℕ} {t : Token} → IsFirst text n (Some t) → is_less (take n text) ≡ true → IsPiece text n TemplateArgsStart
  list_end : {n : ℕ} {t : Token} → IsFirst text n (Some t) → begins_with_greater text ≡ true → IsPiece text 1 TemplateArgsEnd

pub data IsLaidOut : List ℕ → List TemplateToken → Type 0 where
  at_the_end : IsLaidOut [] []
  behind_trivia : {text : List ℕ} {tokens : List TemplateToken} (n : ℕ) → IsFirst text n None → IsLaidOut (drop n text) tokens → IsLaidOut text tokens
  a_piece : {text : List ℕ} {tokens : List TemplateToken} (n : ℕ) (t : TemplateToken) → IsPiece text n t → IsLaidOut (drop n text) tokens → IsLaidOut text (t ∷ tokens)

-- the same of a text in UTF-8
pub record IsTextOf (tokens : List TemplateToken) (text : List ℕ) : Type 0 where
  pub characters : List ℕ
  pub are_scalars : all_scalars characters ≡ true
  pub spell : encode_utf8_all characters ≡ text
  pub laid_out : IsLaidOut characters tokens
