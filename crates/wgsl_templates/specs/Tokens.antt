-- The tokens of a text in which template lists are told (WGSL, "Template Lists": what stands here in place of "Template List
-- Discovery" decides by the grammar, and not by counting brackets). The longest piece at a place is that of `wgsl_lex`.
use Rattle.std.specs.Prelude.{◌≡◌, ◌≢◌, ℕ, ◌+◌, Bool, true, false, ◌&&◌, ◌==◌, List, [], ◌∷◌, ◌++◌, take, drop, Option, Some, None}
use Rattle.std.specs.Str.{encode_utf8_all, all_scalars}
use Rattle.wgsl_lex.specs.Token.{Token}
use Rattle.wgsl_lex.specs.Token.TheVariants.{Fixed, Identifier}
use Rattle.wgsl_lex.specs.Fixed.TheVariants as f
use Rattle.wgsl_lex.specs.Tokens.{size}
use Rattle.wgsl_lex.specs.Pieces.{StandsFirst}
use Rattle.wgsl_templates.specs.declared.meaning.kind.Kind.{Kind}
use Rattle.wgsl_templates.specs.declared.meaning.token.Bracket.{Bracket}
use Rattle.wgsl_templates.specs.declared.meaning.token.Bracket.TheVariants as b
use Rattle.wgsl_templates.specs.declared.meaning.token.TemplateToken.{TemplateToken}
use Rattle.wgsl_templates.specs.declared.meaning.token.TemplateToken.TheVariants.{Plain, TemplateArgsStart, TemplateArgsEnd}
use Rattle.wgsl_templates.specs.declared.meaning.token.SpannedTemplateToken.{SpannedTemplateToken}
use Rattle.wgsl_templates.specs.Kinds.{kinds}
use Rattle.wgsl_templates.specs.Grammar.{IsListBody}

-- a `<` behind these may open a template list: an identifier, or `var`
abbrev pub is_word : TemplateToken → Bool
is_word (Plain (Identifier name)) = true
is_word (Plain (Fixed f.Var)) = true
is_word _ = false

-- `>` stands first
abbrev pub begins_with_greater : List ℕ → Bool
begins_with_greater [] = false
begins_with_greater (c ∷ cs) = c == 62

-- `<` alone
abbrev pub is_less : List ℕ → Bool
is_less (c ∷ []) = c == 60
is_less _ = false

-- What was opened last is a template list, which a `>` ends.
abbrev pub is_in_list : List Bracket → Bool
is_in_list (b.TemplateList ∷ opened) = true
is_in_list _ = false

-- without the one that was opened last
abbrev pub closed : List Bracket → List Bracket
closed [] = []
closed (bracket ∷ opened) = opened

-- what is open behind a token
abbrev pub behind : List Bracket → TemplateToken → List Bracket
behind opened TemplateArgsStart = b.TemplateList ∷ opened
behind opened TemplateArgsEnd = closed opened
behind opened (Plain (Fixed f.ParenLeft)) = b.Plain ∷ opened
behind opened (Plain (Fixed f.BracketLeft)) = b.Plain ∷ opened
behind opened (Plain (Fixed f.ParenRight)) = closed opened
behind opened (Plain (Fixed f.BracketRight)) = closed opened
behind opened _ = opened

-- Where a token stands: at which byte, behind a word or not, and what is open there, the last one first.
pub record State : Type 0 where
  pub at : ℕ
  pub after_word : Bool
  pub opened : List Bracket

abbrev pub start : State
start = record { at = 0; after_word = false; opened = [] }

-- Behind the `<` of a template list. Places count from there, so that what the list is doesn't depend on where it stands.
abbrev pub in_list : State
in_list = record { at = 0; after_word = false; opened = b.TemplateList ∷ [] }

-- behind blankspace or a comment
abbrev pub past : State → List ℕ → State
past s cs = record { at = s.at + size cs; after_word = s.after_word; opened = s.opened }

-- behind a token
abbrev pub after : State → List ℕ → TemplateToken → State
after s cs t = record { at = s.at + size cs; after_word = is_word t; opened = behind s.opened t }

abbrev pub spanned : State → List ℕ → TemplateToken → SpannedTemplateToken
spanned s cs t = record { token = t; span = record { start = s.at; end = s.at + size cs } }

-- of a `<` behind a word
abbrev pub less_or_start : Bool → Token → TemplateToken
less_or_start true t = TemplateArgsStart
less_or_start false t = Plain t

-- the longest piece at the front of a text that isn't empty: blankspace or a comment, or a token
pub record IsFirst (text : List ℕ) (n : ℕ) (what : Option Token) : Type 0 where
  pub some : text ≢ []
  pub stands : StandsFirst text n what

-- No template list's inside stands first, whatever stands behind these tokens: nothing, if the text ends there.
abbrev pub BeginsNoList : List Kind → List ℕ → Type 0
BeginsNoList front left = (more body later : List Kind) → (left ≡ [] → more ≡ []) → front ++ more ≡ body ++ later → IsListBody body → ⊥

mutual
  -- Some tokens from the front of a text, with the state and the text behind them: at every place the token that stands there,
  -- blankspace and comments being left out.
  pub data Reads : State → List ℕ → List SpannedTemplateToken → State → List ℕ → Type 0 where
    nothing : {s : State} {text : List ℕ} → Reads s text [] s text
    behind_trivia : {s last : State} {text left : List ℕ} {tokens : List SpannedTemplateToken} (n : ℕ) → IsFirst text n None
        → Reads (past s (take n text)) (drop n text) tokens last left → Reads s text tokens last left
    a_token : {s last : State} {text left : List ℕ} {tokens : List SpannedTemplateToken} (n : ℕ) (t : TemplateToken) → Stands s text n t
        → Reads (after s (take n text) t) (drop n text) tokens last left → Reads s text (spanned s (take n text) t ∷ tokens) last left

  -- So many characters are this token. In a template list, a `>` at the front of a token ends the list; behind a word, of a token `<`
  -- is asked whether it opens a list; else it is the longest piece.
  pub data Stands : State → List ℕ → ℕ → TemplateToken → Type 0 where
    closing : {s : State} {text : List ℕ} (n : ℕ) (t : Token) → IsFirst text n (Some t) → (is_in_list s.opened && begins_with_greater text) ≡ true → Stands s text 1 TemplateArgsEnd
    asked : {s : State} {text : List ℕ} {opens : Bool} (n : ℕ) (t : Token) → IsFirst text n (Some t) → (s.after_word && is_less (take n text)) ≡ true → Opens (drop n text) opens
        → Stands s text n (less_or_start opens t)
    plain : {s : State} {text : List ℕ} (n : ℕ) (t : Token) → IsFirst text n (Some t) → (is_in_list s.opened && begins_with_greater text) ≡ false
        → (s.after_word && is_less (take n text)) ≡ false → Stands s text n (Plain t)

  -- Whether a `<` before this text opens a template list: some tokens from its front are the inside of one, or no inside of one begins
  -- with them.
  pub data Opens : List ℕ → Bool → Type 0 where
    list : {text left : List ℕ} {body : List SpannedTemplateToken} {last : State} → Reads in_list text body last left → IsListBody (kinds body) → Opens text true
    no_list : {text left : List ℕ} {front : List SpannedTemplateToken} {last : State} → Reads in_list text front last left → BeginsNoList (kinds front) left → Opens text false

-- all tokens of some characters from a state on
abbrev pub Lexes : State → List ℕ → List SpannedTemplateToken → Type 0
Lexes s text tokens = (last : State) × Reads s text tokens last []

-- The tokens of a text in UTF-8.
pub record IsLexed (text : List ℕ) (tokens : List SpannedTemplateToken) : Type 0 where
  pub characters : List ℕ
  pub are_scalars : all_scalars characters ≡ true
  pub spell : encode_utf8_all characters ≡ text
  pub lexes : Lexes start characters tokens
