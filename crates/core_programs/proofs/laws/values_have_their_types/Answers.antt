use Rattle.core_programs.proofs.Typing.{values_have_their_types as law}
use Rattle.core_programs.proofs.laws.values_have_their_types.Goals as goal

pub returns : goal.returns
returns c p known j k m stage hidden env e t x all locals same g h = law p known j k m stage hidden env e t x all locals same g h
