-- What a reader of expressions does with a token. That it reads template lists is proved in proofs/.
use Rattle.std.specs.Prelude.{Bool, true, false, List, [], ◌∷◌, Option, Some, None}
use Rattle.wgsl_templates.specs.declared.meaning.kind.Kind.{Kind}
use Rattle.wgsl_templates.specs.declared.meaning.kind.Kind.TheVariants as k
use Rattle.wgsl_templates.specs.declared.recognizer.recognize.Answer.{Answer}
use Rattle.wgsl_templates.specs.declared.recognizer.recognize.Answer.TheVariants.{List as Listed, Never}
use Rattle.wgsl_templates.specs.declared.recognizer.place.Place.{Place}
use Rattle.wgsl_templates.specs.declared.recognizer.place.Place.TheVariants as at
use Rattle.wgsl_templates.specs.declared.recognizer.place.Relation.{Relation}
use Rattle.wgsl_templates.specs.declared.recognizer.place.Progress.{Progress}
use Rattle.wgsl_templates.specs.declared.recognizer.place.Progress.TheVariants as p
use Rattle.wgsl_templates.specs.declared.recognizer.place.Enclosing.{Enclosing}
use Rattle.wgsl_templates.specs.declared.recognizer.place.Enclosing.TheVariants as e
use Rattle.wgsl_templates.specs.declared.recognizer.place.Frame.{Frame}
use Rattle.wgsl_templates.specs.declared.recognizer.place.State.{State}
use Rattle.wgsl_templates.specs.declared.recognizer.place.Action.{Action}
use Rattle.wgsl_templates.specs.declared.recognizer.place.Action.TheVariants as a
use Rattle.wgsl_templates.specs.declared.recognizer.place.Outcome.{Outcome}
use Rattle.wgsl_templates.specs.declared.recognizer.place.Outcome.TheVariants.{Reads, Ends}

-- where an operand is wanted
abbrev pub operand : Kind → Action
operand k.Literal = a.Goes at.Complete
operand k.Word = a.Goes at.Name
operand k.Package = a.Goes at.PackageSeparator
operand k.Super = a.Goes at.SuperSeparator
operand k.ParenLeft = a.Opens e.Parentheses
operand k.Minus = a.Goes at.Operand
operand k.Not = a.Goes at.Operand
operand k.Star = a.Goes at.Operand
operand k.And = a.Goes at.Operand
operand _ = a.Fails

-- what closes a bracket where no expression has begun
abbrev pub end : Enclosing → Kind → Action
end e.List k.TemplateArgsEnd = a.Closes
end e.Arguments k.ParenRight = a.Closes
end _ _ = a.Fails

abbrev pub operand_or_end : Enclosing → Kind → Action
operand_or_end enclosing k.TemplateArgsEnd = end enclosing k.TemplateArgsEnd
operand_or_end enclosing k.ParenRight = end enclosing k.ParenRight
operand_or_end enclosing kind = operand kind

-- within a name, and behind `.`
abbrev pub within_operand : Place → Kind → Action
within_operand at.PackageSeparator k.PathSeparator = a.Goes at.Word
within_operand at.SuperSeparator k.PathSeparator = a.Goes at.SuperOrWord
within_operand at.SuperOrWord k.Super = a.Goes at.SuperSeparator
within_operand at.SuperOrWord k.Word = a.Goes at.Name
within_operand at.Word k.Word = a.Goes at.Name
within_operand at.Member k.Word = a.Goes at.Complete
within_operand _ _ = a.Fails

-- behind a whole expression
abbrev pub after_expression : Enclosing → Kind → Action
after_expression e.List k.Comma = a.Separates
after_expression e.List k.TemplateArgsEnd = a.Closes
after_expression e.Arguments k.Comma = a.Separates
after_expression e.Arguments k.ParenRight = a.Closes
after_expression e.Parentheses k.ParenRight = a.Closes
after_expression e.Index k.BracketRight = a.Closes
after_expression _ _ = a.Fails

-- one operator goes on with an expression of the other
abbrev pub same_operator : Kind → Kind → Bool
same_operator k.And k.And = true
same_operator k.Or k.Or = true
same_operator k.Xor k.Xor = true
same_operator k.AndAnd k.AndAnd = true
same_operator k.OrOr k.OrOr = true
same_operator _ _ = false

-- no other operator stands before
abbrev pub goes_on : Option Kind → Kind → Bool
goes_on None kind = true
goes_on (Some before) kind = same_operator before kind

abbrev pub operates_if : Bool → Progress → Action
operates_if true progress = a.Operates progress
operates_if false progress = a.Fails

-- `&&` or `||` behind a relational expression
abbrev pub joined : Option Kind → Kind → Action
joined before kind = operates_if (goes_on before kind) (p.Unary (record { logical = Some kind; compared = false }))

abbrev pub logical_operator : Progress → Kind → Action
logical_operator (p.Unary relation) kind = joined relation.logical kind
logical_operator (p.Sum relation) kind = joined relation.logical kind
logical_operator (p.Shifted relation) kind = joined relation.logical kind
logical_operator (p.Bitwise before) kind = a.Fails

-- `&&` or `||`
abbrev pub logical : Progress → Enclosing → Kind → Action
logical progress e.List kind = a.Fails
logical progress _ kind = logical_operator progress kind

abbrev pub bitwise_operator : Kind → Kind → Action
bitwise_operator before kind = operates_if (same_operator before kind) (p.Bitwise before)

abbrev pub compare_if : Option Kind → Bool → Action
compare_if before true = a.Fails
compare_if before false = a.Operates (p.Unary (record { logical = before; compared = true }))

abbrev pub comparison : Relation → Action
comparison relation = compare_if relation.logical relation.compared

-- behind a shift
abbrev pub shift_operator : Relation → Kind → Action
shift_operator relation k.Comparison = comparison relation
shift_operator relation _ = a.Fails

-- behind a sum
abbrev pub sum_operator : Relation → Kind → Action
sum_operator relation k.Star = a.Operates (p.Sum relation)
sum_operator relation k.Division = a.Operates (p.Sum relation)
sum_operator relation k.Plus = a.Operates (p.Sum relation)
sum_operator relation k.Minus = a.Operates (p.Sum relation)
sum_operator relation kind = shift_operator relation kind

abbrev pub bitwise_if : Option Kind → Bool → Kind → Action
bitwise_if None false kind = a.Operates (p.Bitwise kind)
bitwise_if _ _ kind = a.Fails

-- a bitwise operator behind the first operand of an expression
abbrev pub first_bitwise : Relation → Kind → Action
first_bitwise relation kind = bitwise_if relation.logical relation.compared kind

-- behind one unary expression
abbrev pub unary_operator : Relation → Kind → Action
unary_operator relation k.Shift = a.Operates (p.Shifted relation)
unary_operator relation k.And = first_bitwise relation k.And
unary_operator relation k.Or = first_bitwise relation k.Or
unary_operator relation k.Xor = first_bitwise relation k.Xor
unary_operator relation kind = sum_operator relation kind

-- an operator that is neither `&&` nor `||`
abbrev pub operator : Progress → Kind → Action
operator (p.Unary relation) kind = unary_operator relation kind
operator (p.Sum relation) kind = sum_operator relation kind
operator (p.Shifted relation) kind = shift_operator relation kind
operator (p.Bitwise before) kind = bitwise_operator before kind

abbrev pub after_operand : Progress → Enclosing → Kind → Action
after_operand progress enclosing k.Period = a.Goes at.Member
after_operand progress enclosing k.BracketLeft = a.Opens e.Index
after_operand progress enclosing k.Comma = after_expression enclosing k.Comma
after_operand progress enclosing k.TemplateArgsEnd = after_expression enclosing k.TemplateArgsEnd
after_operand progress enclosing k.ParenRight = after_expression enclosing k.ParenRight
after_operand progress enclosing k.BracketRight = after_expression enclosing k.BracketRight
after_operand progress enclosing k.AndAnd = logical progress enclosing k.AndAnd
after_operand progress enclosing k.OrOr = logical progress enclosing k.OrOr
after_operand progress enclosing kind = operator progress kind

abbrev pub after_template : Progress → Enclosing → Kind → Action
after_template progress enclosing k.ParenLeft = a.Opens e.Arguments
after_template progress enclosing kind = after_operand progress enclosing kind

abbrev pub after_name : Progress → Enclosing → Kind → Action
after_name progress enclosing k.PathSeparator = a.Goes at.Word
after_name progress enclosing k.TemplateArgsStart = a.Opens e.List
after_name progress enclosing kind = after_template progress enclosing kind

abbrev pub action_at : Place → Progress → Enclosing → Kind → Action
action_at at.Operand progress enclosing kind = operand kind
action_at at.OperandOrEnd progress enclosing kind = operand_or_end enclosing kind
action_at at.Name progress enclosing kind = after_name progress enclosing kind
action_at at.Templated progress enclosing kind = after_template progress enclosing kind
action_at at.Complete progress enclosing kind = after_operand progress enclosing kind
action_at place progress enclosing kind = within_operand place kind

abbrev pub action : State → Enclosing → Kind → Action
action state enclosing kind = action_at state.place state.progress enclosing kind

-- at the beginning of an expression
abbrev pub fresh : Progress
fresh = p.Unary (record { logical = None; compared = false })

-- The reader stands somewhere with these brackets open, the last one first; or the answer is known.
pub data Status : Type 0 where
  reading : State → List Frame → Status
  ended : Answer → Status

abbrev pub status : Outcome → List Frame → Status
status (Reads state) frames = reading state frames
status (Ends answer) frames = ended answer

-- the last open bracket: the list itself, if there is no other
abbrev pub enclosing : List Frame → Enclosing
enclosing [] = e.List
enclosing (frame ∷ frames) = frame.enclosing

-- behind an opening bracket
abbrev pub first_place : Enclosing → Place
first_place e.Arguments = at.OperandOrEnd
first_place _ = at.Operand

-- behind a closing bracket
abbrev pub last_place : Enclosing → Place
last_place e.List = at.Templated
last_place _ = at.Complete

-- with the last open bracket closed
abbrev pub popped : List Frame → Status
popped [] = ended Listed
popped (frame ∷ frames) = reading (record { place = last_place frame.enclosing; progress = frame.outer }) frames

abbrev pub does : Progress → List Frame → Action → Status
does progress frames (a.Goes place) = reading (record { place = place; progress = progress }) frames
does progress frames (a.Operates next) = reading (record { place = at.Operand; progress = next }) frames
does progress frames (a.Opens opened) = reading (record { place = first_place opened; progress = fresh }) (record { enclosing = opened; outer = progress } ∷ frames)
does progress frames a.Separates = reading (record { place = at.OperandOrEnd; progress = fresh }) frames
does progress frames a.Closes = popped frames
does progress frames a.Fails = ended Never

-- behind a token
abbrev pub next : State → List Frame → Kind → Status
next state frames kind = does state.progress frames (action state (enclosing frames) kind)
