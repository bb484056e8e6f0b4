use Rattle.std.proofs.Common.{refl}
use Rattle.wgsl_nodes.proofs.declaration.GlobalDeclarationSyntaxNode.attributes_mut.Goals as goal

pub returns-in-Declaration : goal.returns-in-Declaration
returns-in-Declaration c = (rw c.in-Declaration.is refl, record { writes_back = tt; value = rw c.in-Declaration.is refl })

pub returns-in-TypeAlias : goal.returns-in-TypeAlias
returns-in-TypeAlias c = (rw c.in-TypeAlias.is refl, record { writes_back = tt; value = rw c.in-TypeAlias.is refl })

pub returns-in-Struct : goal.returns-in-Struct
returns-in-Struct c = (rw c.in-Struct.is refl, record { writes_back = tt; value = rw c.in-Struct.is refl })

pub returns-in-Function : goal.returns-in-Function
returns-in-Function c = (rw c.in-Function.is refl, record { writes_back = tt; value = rw c.in-Function.is refl })

pub returns-in-ConstAssert : goal.returns-in-ConstAssert
returns-in-ConstAssert c = (rw c.in-ConstAssert.is refl, record { writes_back = tt; value = rw c.in-ConstAssert.is refl })
