-- What reading tokens from a start says of them.
use Rattle.std.specs.Prelude.{◌≡◌, ℕ, Bool, true, false, List, [], ◌∷◌, Option, Some, None, Result, Ok, Err}
use Rattle.wgsl_templates.specs.declared.meaning.token.SpannedTemplateToken.{SpannedTemplateToken}
use Rattle.wgsl_base.specs.Tops.{first}
use Rattle.wgsl_grammar_tables.specs.declared.shift_reduce.machine.Entry.{Entry}
use Rattle.wgsl_grammar_tables.specs.Machine.{stops, Comes}
use Rattle.wgsl_grammar_tables.specs.Laws.{IsRead, IsStopped}
use Rattle.wgsl_semantic_values.specs.declared.part.Part.{Part}
use Rattle.wgsl_lr_driver.specs.declared.phrase.Phrase.{Phrase}
use Rattle.wgsl_lr_driver.specs.declared.phrase.Failure.{Failure}
use Rattle.wgsl_lr_driver.specs.Gathering.{either}
use Rattle.wgsl_grammar_tables.specs.Starts.{start}
use Rattle.wgsl_lr_driver.specs.declared.driver.Start.{Start as From}
use Rattle.wgsl_lr_driver.specs.declared.answer.Unread.{Unread}
use Rattle.wgsl_lr_driver.specs.declared.answer.Unread.TheVariants.{Refused, Failed, FailedAtEnd, Unexpected}
use Rattle.wgsl_lr_driver.specs.Phrases.{grammar, number, tables_of}

-- The nonterminal of what is read.
abbrev pub goal_of : From → ℕ
goal_of s = (start (number s)).goal

-- the first check that fails in the trees of a stack, of which the last was read first
abbrev pub first_failed : {P : Type 0} → List (Entry (Phrase P)) → Option Failure
first_failed [] = None
first_failed (e ∷ es) = either (first_failed es) e.value.failure

-- what a phrase is, unless a check fails in it
abbrev pub passing : {P : Type 0} → Option Failure → P → Result P Unread
passing None part = Ok part
passing (Some f) part = Err (Failed f)

-- why a parser stopped, by the first check that fails and the next token
abbrev pub stopping : Option Failure → Option SpannedTemplateToken → Unread
stopping (Some f) (Some k) = Failed f
stopping (Some f) None = FailedAtEnd f
stopping None next = Unexpected next

-- The tokens derive this tree, and no other.
abbrev pub Derived : From → List SpannedTemplateToken → Phrase Part → Type 0
Derived s tokens x = IsRead grammar (goal_of s) tokens x

-- The parser by the grammar's tables stops with this stack and these tokens left; it stops in one way alone.
abbrev pub StopsAt : From → List SpannedTemplateToken → List (Entry (Phrase Part)) → List SpannedTemplateToken → Type 0
StopsAt s tokens stack left = Comes grammar (tables_of s) (number s) [] tokens (stops stack) left

-- A check fails: in the tree that the tokens derive, or in what was read before a token with which no phrase goes on.
pub data IsFailed (s : From) (tokens : List SpannedTemplateToken) (f : Failure) : Type 0 where
  in_tree : (x : Phrase Part) → Derived s tokens x → x.failure ≡ Some f → IsFailed s tokens f
  in_front : (stack : List (Entry (Phrase Part))) (left : List SpannedTemplateToken) (next : SpannedTemplateToken) → IsStopped grammar (goal_of s) tokens stack left → StopsAt s tokens stack left
      → first_failed stack ≡ Some f → first left ≡ Some next → IsFailed s tokens f

-- A check fails in what was read, and the tokens end where no phrase does.
pub record IsFailedAtEnd (s : From) (tokens : List SpannedTemplateToken) (f : Failure) : Type 0 where
  pub stack : List (Entry (Phrase Part))
  pub left : List SpannedTemplateToken
  pub stopped : IsStopped grammar (goal_of s) tokens stack left
  pub comes : StopsAt s tokens stack left
  pub failed : first_failed stack ≡ Some f
  pub ended : first left ≡ None

-- No phrase goes on with this token, or ends at the end; and no check fails in what was read before.
pub record IsUnexpected (s : From) (tokens : List SpannedTemplateToken) (next : Option SpannedTemplateToken) : Type 0 where
  pub stack : List (Entry (Phrase Part))
  pub left : List SpannedTemplateToken
  pub stopped : IsStopped grammar (goal_of s) tokens stack left
  pub comes : StopsAt s tokens stack left
  pub passed : first_failed stack ≡ None
  pub first_left : next ≡ first left

pub record IsPart (s : From) (tokens : List SpannedTemplateToken) (part : Part) : Type 0 where
  pub phrase : Phrase Part
  pub derived : Derived s tokens phrase
  pub passed : phrase.failure ≡ None
  pub same : part ≡ phrase.part

abbrev pub Reads : From → List SpannedTemplateToken → Result Part Unread → Type 0
Reads s tokens (Ok part) = IsPart s tokens part
Reads s tokens (Err (Failed f)) = IsFailed s tokens f
Reads s tokens (Err (FailedAtEnd f)) = IsFailedAtEnd s tokens f
Reads s tokens (Err (Unexpected next)) = IsUnexpected s tokens next
Reads s tokens (Err (Refused e)) = Unit

-- whether the parser gave up
abbrev pub is_refused : Unread → Bool
is_refused (Failed f) = false
is_refused (FailedAtEnd f) = false
is_refused (Unexpected next) = false
is_refused (Refused e) = true
