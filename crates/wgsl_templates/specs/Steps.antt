-- What the code finds at a place.
use Rattle.std.specs.Prelude.{ℕ, Bool, List, reverse, Option, Some, None}
use Rattle.wgsl_templates.specs.declared.meaning.token.Bracket.{Bracket}
use Rattle.wgsl_templates.specs.declared.meaning.token.TemplateToken.{TemplateToken}
use Rattle.wgsl_templates.specs.Tokens.{State, IsFirst, Stands}

-- So many characters stand first, with this token if they have one.
pub data StandsHere (s : State) (text : List ℕ) (n : ℕ) : Option TemplateToken → Type 0 where
  trivia_here : IsFirst text n None → StandsHere s text n None
  token_here : {t : TemplateToken} → Stands s text n t → StandsHere s text n (Some t)

-- the state, where the bracket that was opened last stands at the end
abbrev pub state : ℕ → Bool → List Bracket → State
state at after_word opened = record { at = at; after_word = after_word; opened = reverse opened }
