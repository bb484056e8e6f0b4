-- Laws of tokens and template lists.
use Rattle.std.specs.Prelude.{◌≡◌, ◌↔◌, ℕ, Bool, true, List, ◌++◌}
use Rattle.wgsl_templates.specs.declared.meaning.kind.Kind.{Kind}
use Rattle.wgsl_templates.specs.declared.meaning.token.SpannedTemplateToken.{SpannedTemplateToken}
use Rattle.wgsl_templates.specs.Kinds.{kinds}
use Rattle.wgsl_templates.specs.Grammar.{IsListBody}
use Rattle.wgsl_templates.specs.Tokens.{in_list, Lexes, Opens, IsLexed}

-- A text has its tokens once.
abbrev pub LexedOnce : Type 0
LexedOnce = (text : List ℕ) (a b : List SpannedTemplateToken) → IsLexed text a → IsLexed text b → a ≡ b

-- Whether a `<` before a text opens a list is decided in one way.
abbrev pub OpensOnce : Type 0
OpensOnce = (text : List ℕ) (a b : Bool) → Opens text a → Opens text b → a ≡ b

-- some kinds from the front are what stands in a template list
pub record BeginsWithList (tokens : List Kind) : Type 0 where
  pub body : List Kind
  pub rest : List Kind
  pub whole : tokens ≡ body ++ rest
  pub is_list : IsListBody body

-- A `<` opens a list exactly where the tokens of all that stands behind it, read as what stands in a list, begin with one.
abbrev pub OpensAsRead : Type 0
OpensAsRead = (text : List ℕ) (inside : List SpannedTemplateToken) → Lexes in_list text inside → Opens text true ↔ BeginsWithList (kinds inside)
