use Rattle.core_modules_meaning.proofs.Existing.{linked_modules_have_one}
use Rattle.core_modules_meaning.proofs.laws.linked_modules_have_one.Goals as goal

pub returns : goal.returns
returns c modules root keep unit loaded linked = linked_modules_have_one modules root keep unit loaded linked
