use Rattle.core_programs.proofs.Typing.{started_values_are_proper as law}
use Rattle.core_programs.proofs.laws.started_values_are_proper.Goals as goal

pub returns : goal.returns
returns c p k known after order all g = law p k known after order all g
