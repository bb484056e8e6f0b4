-- What a token does with the brackets that are open, by what the reader does with it.
use Rattle.std.proofs.Common.{◌≡◌, Bool, true, false, Option, Some, None, refl}
use Rattle.wgsl_templates.specs.declared.meaning.kind.Kind.{Kind}
use Rattle.wgsl_templates.specs.declared.meaning.kind.Kind.TheVariants as k
use Rattle.wgsl_templates.specs.declared.recognizer.place.Place.{Place}
use Rattle.wgsl_templates.specs.declared.recognizer.place.Place.TheVariants as at
use Rattle.wgsl_templates.specs.declared.recognizer.place.Relation.{Relation}
use Rattle.wgsl_templates.specs.declared.recognizer.place.Progress.{Progress}
use Rattle.wgsl_templates.specs.declared.recognizer.place.Progress.TheVariants as p
use Rattle.wgsl_templates.specs.declared.recognizer.place.Enclosing.{Enclosing}
use Rattle.wgsl_templates.specs.declared.recognizer.place.Enclosing.TheVariants as e
use Rattle.wgsl_templates.specs.declared.recognizer.place.State.{State}
use Rattle.wgsl_templates.specs.declared.recognizer.place.Action.{Action}
use Rattle.wgsl_templates.specs.declared.recognizer.place.Action.TheVariants as a
use Rattle.wgsl_templates.specs.Actions as actions

-- It opens a bracket, or closes one.
abbrev pub turns : Kind → Bool
turns k.TemplateArgsStart = true
turns k.TemplateArgsEnd = true
turns k.ParenLeft = true
turns k.ParenRight = true
turns k.BracketLeft = true
turns k.BracketRight = true
turns _ = false

abbrev pub is_closing : Kind → Bool
is_closing k.TemplateArgsEnd = true
is_closing k.ParenRight = true
is_closing k.BracketRight = true
is_closing _ = false

-- what opens such a bracket
abbrev pub sign : Enclosing → Kind
sign e.List = k.TemplateArgsStart
sign e.Arguments = k.ParenLeft
sign e.Parentheses = k.ParenLeft
sign e.Index = k.BracketLeft

abbrev pub Fits : Kind → Action → Type 0
Fits kind (a.Goes place) = turns kind ≡ false
Fits kind (a.Operates progress) = turns kind ≡ false
Fits kind (a.Opens enclosing) = kind ≡ sign enclosing
Fits kind a.Separates = kind ≡ k.Comma
Fits kind a.Closes = is_closing kind ≡ true
Fits kind a.Fails = true ≡ true

operand : (kind : Kind) → Fits kind (actions.operand kind)
operand k.Literal = refl
operand k.ParenLeft = refl
operand _ = refl

end : (enclosing : Enclosing) (kind : Kind) → Fits kind (actions.end enclosing kind)
end e.List k.TemplateArgsEnd = refl
end e.Arguments k.ParenRight = refl
end _ _ = refl

operand_or_end : (enclosing : Enclosing) (kind : Kind) → Fits kind (actions.operand_or_end enclosing kind)
operand_or_end enclosing k.TemplateArgsEnd = end enclosing k.TemplateArgsEnd
operand_or_end enclosing k.ParenRight = end enclosing k.ParenRight
operand_or_end enclosing kind = operand kind

within_operand : (place : Place) (kind : Kind) → Fits kind (actions.within_operand place kind)
within_operand at.PackageSeparator k.PathSeparator = refl
within_operand at.SuperSeparator k.PathSeparator = refl
within_operand at.SuperOrWord k.Super = refl
within_operand at.SuperOrWord k.Word = refl
within_operand at.Word k.Word = refl
within_operand at.Member k.Word = refl
within_operand _ _ = refl

after_expression : (enclosing : Enclosing) (kind : Kind) → Fits kind (actions.after_expression enclosing kind)
after_expression e.List k.Comma = refl
after_expression e.List k.TemplateArgsEnd = refl
after_expression e.Arguments k.Comma = refl
after_expression e.Arguments k.ParenRight = refl
after_expression e.Parentheses k.ParenRight = refl
after_expression e.Index k.BracketRight = refl
after_expression _ _ = refl

operates_if : (holds : Bool) (progress : Progress) (kind : Kind) → turns kind ≡ false → Fits kind (actions.operates_if holds progress)
operates_if true progress kind h = h
operates_if false progress kind h = refl

joined : (before : Option Kind) (kind : Kind) → turns kind ≡ false → Fits kind (actions.joined before kind)
joined before kind h = operates_if (actions.goes_on before kind) (p.Unary (record { logical = Some kind; compared = false })) kind h

logical_operator : (progress : Progress) (kind : Kind) → turns kind ≡ false → Fits kind (actions.logical_operator progress kind)
logical_operator (p.Unary relation) kind h = joined relation.logical kind h
logical_operator (p.Sum relation) kind h = joined relation.logical kind h
logical_operator (p.Shifted relation) kind h = joined relation.logical kind h
logical_operator (p.Bitwise before) kind h = refl

logical : (progress : Progress) (enclosing : Enclosing) (kind : Kind) → turns kind ≡ false → Fits kind (actions.logical progress enclosing kind)
logical progress e.List kind h = refl
logical progress _ kind h = logical_operator progress kind h

bitwise_operator : (before kind : Kind) → turns kind ≡ false → Fits kind (actions.bitwise_operator before kind)
bitwise_operator before kind h = operates_if (actions.same_operator before kind) (p.Bitwise before) kind h

compare_if : (before : Option Kind) (compared : Bool) → Fits k.Comparison (actions.compare_if before compared)
compare_if before true = refl
compare_if before false = refl

shift_operator : (relation : Relation) (kind : Kind) → Fits kind (actions.shift_operator relation kind)
shift_operator relation k.Comparison = compare_if relation.logical relation.compared
shift_operator relation _ = refl

sum_operator : (relation : Relation) (kind : Kind) → Fits kind (actions.sum_operator relation kind)
sum_operator relation k.Star = refl
sum_operator relation k.Division = refl
sum_operator relation k.Plus = refl
sum_operator relation k.Minus = refl
sum_operator relation kind = shift_operator relation kind

bitwise_if : (before : Option Kind) (compared : Bool) (kind : Kind) → turns kind ≡ false → Fits kind (actions.bitwise_if before compared kind)
bitwise_if None false kind h = h
bitwise_if None true kind h = refl
bitwise_if (Some before) compared kind h = refl

unary_operator : (relation : Relation) (kind : Kind) → Fits kind (actions.unary_operator relation kind)
unary_operator relation k.Shift = refl
unary_operator relation k.And = bitwise_if relation.logical relation.compared k.And refl
unary_operator relation k.Or = bitwise_if relation.logical relation.compared k.Or refl
unary_operator relation k.Xor = bitwise_if relation.logical relation.compared k.Xor refl
unary_operator relation kind = sum_operator relation kind

operator : (progress : Progress) (kind : Kind) → turns kind ≡ false → Fits kind (actions.operator progress kind)
operator (p.Unary relation) kind h = unary_operator relation kind
operator (p.Sum relation) kind h = sum_operator relation kind
operator (p.Shifted relation) kind h = shift_operator relation kind
operator (p.Bitwise before) kind h = bitwise_operator before kind h

-- what opens a bracket is no operator
fails_if : (holds : Bool) (progress : Progress) (kind : Kind) → holds ≡ false → Fits kind (actions.operates_if holds progress)
fails_if true progress kind h = absurd cc
fails_if false progress kind h = refl

start_other : (before : Kind) → actions.same_operator before k.TemplateArgsStart ≡ false
start_other k.And = refl
start_other _ = refl

paren_other : (before : Kind) → actions.same_operator before k.ParenLeft ≡ false
paren_other k.And = refl
paren_other _ = refl

start_operator : (progress : Progress) → Fits k.TemplateArgsStart (actions.operator progress k.TemplateArgsStart)
start_operator (p.Unary relation) = refl
start_operator (p.Sum relation) = refl
start_operator (p.Shifted relation) = refl
start_operator (p.Bitwise before) = fails_if (actions.same_operator before k.TemplateArgsStart) (p.Bitwise before) k.TemplateArgsStart (start_other before)

paren_operator : (progress : Progress) → Fits k.ParenLeft (actions.operator progress k.ParenLeft)
paren_operator (p.Unary relation) = refl
paren_operator (p.Sum relation) = refl
paren_operator (p.Shifted relation) = refl
paren_operator (p.Bitwise before) = fails_if (actions.same_operator before k.ParenLeft) (p.Bitwise before) k.ParenLeft (paren_other before)

after_operand : (progress : Progress) (enclosing : Enclosing) (kind : Kind) → Fits kind (actions.after_operand progress enclosing kind)
after_operand progress enclosing k.Period = refl
after_operand progress enclosing k.BracketLeft = refl
after_operand progress enclosing k.Comma = after_expression enclosing k.Comma
after_operand progress enclosing k.TemplateArgsEnd = after_expression enclosing k.TemplateArgsEnd
after_operand progress enclosing k.ParenRight = after_expression enclosing k.ParenRight
after_operand progress enclosing k.BracketRight = after_expression enclosing k.BracketRight
after_operand progress enclosing k.AndAnd = logical progress enclosing k.AndAnd refl
after_operand progress enclosing k.OrOr = logical progress enclosing k.OrOr refl
after_operand progress enclosing k.TemplateArgsStart = start_operator progress
after_operand progress enclosing k.ParenLeft = paren_operator progress
after_operand progress enclosing kind = operator progress kind refl

after_template : (progress : Progress) (enclosing : Enclosing) (kind : Kind) → Fits kind (actions.after_template progress enclosing kind)
after_template progress enclosing k.ParenLeft = refl
after_template progress enclosing kind = after_operand progress enclosing kind

after_name : (progress : Progress) (enclosing : Enclosing) (kind : Kind) → Fits kind (actions.after_name progress enclosing kind)
after_name progress enclosing k.PathSeparator = refl
after_name progress enclosing k.TemplateArgsStart = refl
after_name progress enclosing kind = after_template progress enclosing kind

action_at : (place : Place) (progress : Progress) (enclosing : Enclosing) (kind : Kind) → Fits kind (actions.action_at place progress enclosing kind)
action_at at.Operand progress enclosing kind = operand kind
action_at at.OperandOrEnd progress enclosing kind = operand_or_end enclosing kind
action_at at.Name progress enclosing kind = after_name progress enclosing kind
action_at at.Templated progress enclosing kind = after_template progress enclosing kind
action_at at.Complete progress enclosing kind = after_operand progress enclosing kind
action_at place progress enclosing kind = within_operand place kind

pub fits : (state : State) (enclosing : Enclosing) (kind : Kind) → Fits kind (actions.action state enclosing kind)
fits state enclosing kind = action_at state.place state.progress enclosing kind
