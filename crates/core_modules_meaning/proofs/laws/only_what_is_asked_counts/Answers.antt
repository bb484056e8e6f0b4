use Rattle.core_modules_meaning.proofs.Asked.{only_what_is_asked_counts}
use Rattle.core_modules_meaning.proofs.laws.only_what_is_asked_counts.Goals as goal

pub returns : goal.returns
returns c start one other = only_what_is_asked_counts _ _
