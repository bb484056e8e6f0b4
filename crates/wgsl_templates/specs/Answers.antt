-- What some tokens say of a template list at their front.
use Rattle.std.specs.Prelude.{List, ◌++◌}
use Rattle.wgsl_templates.specs.declared.meaning.kind.Kind.{Kind}
use Rattle.wgsl_templates.specs.Laws.{BeginsWithList}
use Rattle.wgsl_templates.specs.declared.recognizer.recognize.Answer.{Answer}
use Rattle.wgsl_templates.specs.declared.recognizer.recognize.Answer.TheVariants.{List as Listed, Never, Unfinished}

-- what some tokens say of a list at their front
pub data IsAnswer (tokens : List Kind) : Answer → Type 0 where
  is_list : BeginsWithList tokens → IsAnswer tokens Listed
  is_never : ((more : List Kind) → BeginsWithList (tokens ++ more) → ⊥) → IsAnswer tokens Never
  is_unfinished : (BeginsWithList tokens → ⊥) → IsAnswer tokens Unfinished
