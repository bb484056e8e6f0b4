use Rattle.core_lower.proofs.Located.{refusals_are_in_declarations}
use Rattle.core_lower.proofs.laws.refusals_are_in_declarations.Goals as goal

pub returns : goal.returns
returns c = refusals_are_in_declarations
