use Rattle.core_modules_meaning.proofs.Executed.{linked_units_end_likewise}
use Rattle.core_modules_meaning.proofs.laws.linked_units_end_likewise.Goals as goal

pub returns : goal.returns
returns c modules root keep unit p well program x k handed n answer = linked_units_end_likewise modules root keep unit p well program x k handed n answer
