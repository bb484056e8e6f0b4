-- Laws of texts with the same tokens.
use Rattle.std.specs.Prelude.{◌≡◌, ℕ, List, [], map}
use Rattle.wgsl_templates.specs.declared.meaning.token.TemplateToken.{TemplateToken}
use Rattle.wgsl_templates.specs.declared.meaning.token.SpannedTemplateToken.{SpannedTemplateToken}
use Rattle.wgsl_templates.specs.Tokens.{IsLexed}
use Rattle.wgsl_print_laws.specs.Layout.{IsTextOf}
use Rattle.wgsl_print_laws.specs.OptionalMarks.{outside, AreAlike}

-- tokens without their places
abbrev pub without_places : List SpannedTemplateToken → List TemplateToken
without_places tokens = map (λ t. t.token) tokens

-- A text is laid out as its tokens.
abbrev pub LaidOutAsItsTokens : Type 0
LaidOutAsItsTokens = (text : List ℕ) (tokens : List SpannedTemplateToken) → IsLexed text tokens → IsTextOf (without_places tokens) text

-- A text that is laid out as the tokens of another has these tokens, at places of its own.
abbrev pub LaidOutAlike : Type 0
LaidOutAlike = (text other : List ℕ) (tokens : List SpannedTemplateToken) → IsLexed text tokens → IsTextOf (without_places tokens) other
    → (found : List SpannedTemplateToken) × IsLexed other found × (without_places found ≡ without_places tokens)

-- Nor do marks count that may be left out, last commas among them: the tokens of a text are told alike with them and without.
abbrev pub LaidOutButForOptionalMarks : Type 0
LaidOutButForOptionalMarks = (text other : List ℕ) (tokens : List SpannedTemplateToken) (us : List TemplateToken) → IsLexed text tokens → AreAlike outside [] (without_places tokens) us → IsTextOf us other
    → (found : List SpannedTemplateToken) × IsLexed other found × (without_places found ≡ us)
