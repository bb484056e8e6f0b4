use Rattle.core_agreement.proofs.Tokens.{added_imports_are_apart}
use Rattle.core_agreement.proofs.laws.added_imports_are_apart.Goals as goal

pub returns : goal.returns
returns c = added_imports_are_apart
