-- Texts that are identifiers (WGSL, "Identifiers").
use Rattle.std.specs.Prelude.{ℕ, Bool, false, ◌&&◌, List, Option, Some}
use Rattle.std.specs.Str.{chars, all_scalars, bytes_eq}
use Rattle.wgsl_token.specs.declared.token.Token.{Token}
use Rattle.wgsl_token.specs.declared.token.Token.TheVariants.{Identifier}
use Rattle.wgsl_lex.specs.Tokens.{is_word, token_form}

-- the token is the identifier of this name
abbrev pub is_identifier_of : List ℕ → Option Token → Bool
is_identifier_of name (Some (Identifier found)) = bytes_eq found name
is_identifier_of name _ = false

-- the text spells one word, and that is the identifier of this name
abbrev pub is_identifier : List ℕ → Bool
is_identifier name = all_scalars (chars name) && (is_word (chars name) && is_identifier_of name (token_form (chars name)))
