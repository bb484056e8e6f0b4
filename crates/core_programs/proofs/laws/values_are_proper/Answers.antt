use Rattle.core_programs.proofs.Typing.{values_are_proper as law}
use Rattle.core_programs.proofs.laws.values_are_proper.Goals as goal

pub returns : goal.returns
returns c p known k m stage env e x all locals g = law p known k m stage env e x all locals g
