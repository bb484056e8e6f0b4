use Rattle.core_narrowing.proofs.Alike as alike
use Rattle.core_narrowing.proofs.laws.units_print_alike.Goals as goal

pub returns : goal.returns
returns c = alike.unit_alike
