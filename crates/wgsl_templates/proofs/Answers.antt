-- The reader's answer.
use Rattle.std.proofs.Common.{◌≡◌, ◌∙◌, sym, ap, refl, List, [], ◌∷◌, ◌++◌, length}
use Rattle.wgsl_templates.specs.declared.meaning.kind.Kind.{Kind}
use Rattle.wgsl_templates.specs.declared.recognizer.recognize.Answer.{Answer}
use Rattle.wgsl_templates.specs.declared.recognizer.recognize.Answer.TheVariants.{List as Listed, Never, Unfinished}
use Rattle.wgsl_templates.specs.Answers.{IsAnswer, is_list, is_never, is_unfinished}
use Rattle.wgsl_templates.specs.declared.recognizer.place.Frame.{Frame}
use Rattle.wgsl_templates.specs.declared.recognizer.place.State.{State}
use Rattle.wgsl_templates.specs.declared.recognizer.place.Outcome.{Outcome}
use Rattle.wgsl_templates.specs.declared.recognizer.place.Outcome.TheVariants.{Ends}
use Rattle.wgsl_templates.specs.Actions.{reading, status, next}
use Rattle.wgsl_templates.specs.Runs.{verdict}
use Rattle.wgsl_templates.proofs.Run.{verdict_ended, beginning, stays_never}
use Rattle.wgsl_templates.proofs.Complete.{complete}
use Rattle.wgsl_templates.proofs.Sound.{sound}

pub is_answer : (kinds : List Kind) (answer : Answer) → verdict kinds beginning ≡ answer → IsAnswer kinds answer
is_answer kinds Listed e = is_list (sound kinds e)
is_answer kinds Never e = is_never (λ more b. let never = stays_never kinds more beginning e in let list = complete (kinds ++ more) b in absurd cc)
is_answer kinds Unfinished e = is_unfinished (λ b. let list = complete kinds b in absurd cc)

empty : (l : List Kind) → length l ≡ 0 → l ≡ []
empty [] h = refl
empty (kind ∷ l) h = absurd cc

-- the reader has come to some rest of the tokens
module _ (kinds rest : List Kind) (state : State) (frames : List Frame) (invariant : verdict rest (reading state frames) ≡ verdict kinds beginning) where
  -- its answer is known behind one more
  pub answer_ended : (kind : Kind) (behind : List Kind) → rest ≡ kind ∷ behind → (outcome : Outcome) (after : List Frame) (answer : Answer) → status outcome after ≡ next state frames kind → outcome ≡ Ends answer
      → IsAnswer kinds answer
  answer_ended kind behind is outcome after answer taken ends = is_answer kinds answer
      (sym invariant ∙ ap (λ l. verdict l (reading state frames)) is ∙ ap (λ s. verdict behind s) (sym taken ∙ ap (λ o. status o after) ends) ∙ verdict_ended behind answer)

  -- no token is left
  pub answer_unfinished : length rest ≡ 0 → IsAnswer kinds Unfinished
  answer_unfinished none = is_answer kinds Unfinished (sym invariant ∙ ap (λ l. verdict l (reading state frames)) (empty rest none))
