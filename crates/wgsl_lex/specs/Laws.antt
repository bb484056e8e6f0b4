-- Laws of tokens.
use Rattle.std.specs.Prelude.{◌≡◌, ℕ, List}
use Rattle.wgsl_token.specs.declared.token.SpannedToken.{SpannedToken}
use Rattle.wgsl_lex.specs.Tokens.{IsLexed}

-- A text has its tokens once.
abbrev pub LexedOnce : Type 0
LexedOnce = (text : List ℕ) (a b : List SpannedToken) → IsLexed text a → IsLexed text b → a ≡ b
