-- The reader's way over tokens.
use Rattle.std.proofs.Common.{◌≡◌, ◌∙◌, sym, subst, refl, List, [], ◌∷◌, ◌++◌, append_assoc}
use Rattle.wgsl_templates.specs.declared.meaning.kind.Kind.{Kind}
use Rattle.wgsl_templates.specs.declared.recognizer.recognize.Answer.{Answer}
use Rattle.wgsl_templates.specs.declared.recognizer.recognize.Answer.TheVariants.{Never, Unfinished}
use Rattle.wgsl_templates.specs.declared.recognizer.place.Place.{Place}
use Rattle.wgsl_templates.specs.declared.recognizer.place.Place.TheVariants as at
use Rattle.wgsl_templates.specs.declared.recognizer.place.Progress.{Progress}
use Rattle.wgsl_templates.specs.declared.recognizer.place.Frame.{Frame}
use Rattle.wgsl_templates.specs.declared.recognizer.place.State.{State}
use Rattle.wgsl_templates.specs.Actions.{Status, reading, ended, fresh, next}
use Rattle.wgsl_templates.specs.Runs.{verdict}

abbrev pub stand : Place → Progress → List Frame → Status
stand place progress frames = reading (record { place = place; progress = progress }) frames

-- before the inside of a list
abbrev pub beginning : Status
beginning = stand at.Operand fresh []

pub verdict_ended : (kinds : List Kind) (answer : Answer) → verdict kinds (ended answer) ≡ answer
verdict_ended [] answer = refl
verdict_ended (kind ∷ kinds) answer = refl

-- a fault stays one
pub stays_never : (kinds more : List Kind) (s : Status) → verdict kinds s ≡ Never → verdict (kinds ++ more) s ≡ Never
stays_never [] more (reading state frames) h = absurd cc
stays_never [] more (ended answer) h = verdict_ended more answer ∙ h
stays_never (kind ∷ kinds) more (reading state frames) h = stays_never kinds more (next state frames kind) h
stays_never (kind ∷ kinds) more (ended answer) h = h

-- from one place the tokens lead to another
pub record Reaches (from : Status) (tokens : List Kind) (to : Status) : Type 0 where
  pub goes : (more : List Kind) → verdict (tokens ++ more) from ≡ verdict more to

pub here : {s : Status} → Reaches s [] s
here = record { goes = λ more. refl }

pub behind_token : {state : State} {frames : List Frame} {kind : Kind} {tokens : List Kind} {to : Status} → Reaches (next state frames kind) tokens to → Reaches (reading state frames) (kind ∷ tokens) to
behind_token r = record { goes = λ more. r.goes more }

pub then_reaches : {a b c : Status} {u v : List Kind} → Reaches a u b → Reaches b v c → Reaches a (u ++ v) c
then_reaches {u = u} {v = v} r q = record { goes = λ more. rw (append_assoc u v more) (r.goes (v ++ more) ∙ q.goes more) }

pub from_same : {a b c : Status} {u : List Kind} → a ≡ b → Reaches b u c → Reaches a u c
from_same {c = c} {u = u} e r = subst (λ s. Reaches s u c) (sym e) r
