use Rattle.std.proofs.Common.{refl}
use Rattle.wgsl_nodes.proofs.directive.GlobalDirectiveSyntaxNode.attributes_mut.Goals as goal

pub returns-in-Diagnostic : goal.returns-in-Diagnostic
returns-in-Diagnostic c = (rw c.in-Diagnostic.is refl, record { writes_back = tt; value = rw c.in-Diagnostic.is refl })

pub returns-in-Enable : goal.returns-in-Enable
returns-in-Enable c = (rw c.in-Enable.is refl, record { writes_back = tt; value = rw c.in-Enable.is refl })

pub returns-in-Requires : goal.returns-in-Requires
returns-in-Requires c = (rw c.in-Requires.is refl, record { writes_back = tt; value = rw c.in-Requires.is refl })
