use Rattle.wgsl_scalar.proofs.OperatorTypes.{unary_types_alike, binary_types_alike}
use Rattle.wgsl_scalar.proofs.laws.operators_have_the_types_of_types.Goals as goal

pub returns-clause-unary : goal.returns-clause-unary
returns-clause-unary c = unary_types_alike

pub returns-clause-binary : goal.returns-clause-binary
returns-clause-binary c = binary_types_alike
