-- The tokens of a text up to the first one that is none (WGSL, "Textual Structure").
use Rattle.std.specs.Prelude.{◌≡◌, ℕ, Bool, true, false, List, [], ◌∷◌, if◌then◌else◌}
use Rattle.wgsl_token.specs.declared.token.Token.TheVariants.{Invalid}
use Rattle.wgsl_templates.specs.declared.meaning.token.TemplateToken.{TemplateToken}
use Rattle.wgsl_templates.specs.declared.meaning.token.TemplateToken.TheVariants.{Plain}
use Rattle.wgsl_templates.specs.declared.meaning.token.SpannedTemplateToken.{SpannedTemplateToken}
use Rattle.wgsl_templates.specs.Tokens.{IsLexed}
use Rattle.wgsl_templates.specs.declared.reading.tokens.Lexer.{Lexer}

abbrev pub is_invalid : TemplateToken → Bool
is_invalid (Plain Invalid) = true
is_invalid _ = false

abbrev pub is_fault : SpannedTemplateToken → Bool
is_fault t = is_invalid t.token

-- up to the first invalid token, with it
abbrev pub ends_at_fault : List SpannedTemplateToken → List SpannedTemplateToken
ends_at_fault [] = []
ends_at_fault (t ∷ ts) = if is_fault t then t ∷ [] else t ∷ ends_at_fault ts

-- what a lexer gives of a text
pub record Lexed (text : List ℕ) (given : List SpannedTemplateToken) : Type 0 where
  pub tokens : List SpannedTemplateToken
  pub lexed : IsLexed text tokens
  pub up_to_fault : given ≡ ends_at_fault tokens

-- what is left to give
abbrev pub left : Lexer → List SpannedTemplateToken
left lexer = lexer.tokens.items

-- how many entries its table has
abbrev pub entries : Lexer → ℕ
entries lexer = lexer.table_entries
