use Rattle.wgsl_scalar.proofs.OperatorTypes.{unary_has, binary_has, converted_to, constructed_to}
use Rattle.wgsl_scalar.proofs.laws.values_have_the_type.Goals as goal

pub returns-clause-unary : goal.returns-clause-unary
returns-clause-unary c = unary_has

pub returns-clause-binary : goal.returns-clause-binary
returns-clause-binary c = binary_has

pub returns-clause-converted : goal.returns-clause-converted
returns-clause-converted c = converted_to

pub returns-clause-constructed : goal.returns-clause-constructed
returns-clause-constructed c = constructed_to
