use Rattle.wesl_visit_children.specs.Turns.{deep_none}
use Rattle.wesl_visit_expressions.proofs.expressions.meet.meet_attribute.Goals as goal

pub returns-in-Builtin-clause-met : goal.returns-in-Builtin-clause-met
returns-in-Builtin-clause-met g c = rw c.in-Builtin.is deep_none

pub returns-in-Diagnostic-clause-met : goal.returns-in-Diagnostic-clause-met
returns-in-Diagnostic-clause-met g c = rw c.in-Diagnostic.is deep_none

pub returns-in-Interpolate-clause-met : goal.returns-in-Interpolate-clause-met
returns-in-Interpolate-clause-met g c = rw c.in-Interpolate.is deep_none

pub returns-in-Const-clause-met : goal.returns-in-Const-clause-met
returns-in-Const-clause-met g c = rw c.in-Const.is deep_none

pub returns-in-Invariant-clause-met : goal.returns-in-Invariant-clause-met
returns-in-Invariant-clause-met g c = rw c.in-Invariant.is deep_none

pub returns-in-MustUse-clause-met : goal.returns-in-MustUse-clause-met
returns-in-MustUse-clause-met g c = rw c.in-MustUse.is deep_none

pub returns-in-Vertex-clause-met : goal.returns-in-Vertex-clause-met
returns-in-Vertex-clause-met g c = rw c.in-Vertex.is deep_none

pub returns-in-Fragment-clause-met : goal.returns-in-Fragment-clause-met
returns-in-Fragment-clause-met g c = rw c.in-Fragment.is deep_none

pub returns-in-Compute-clause-met : goal.returns-in-Compute-clause-met
returns-in-Compute-clause-met g c = rw c.in-Compute.is deep_none

pub returns-in-Publish-clause-met : goal.returns-in-Publish-clause-met
returns-in-Publish-clause-met g c = rw c.in-Publish.is deep_none

pub returns-in-Else-clause-met : goal.returns-in-Else-clause-met
returns-in-Else-clause-met g c = rw c.in-Else.is deep_none
