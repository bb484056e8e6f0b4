use Rattle.wesl_visit_children.specs.Turns.{remade_none}
use Rattle.wesl_visit_expressions.proofs.types.change.change_attribute.Goals as goal

pub returns-in-Builtin-clause-changed : goal.returns-in-Builtin-clause-changed
returns-in-Builtin-clause-changed g c = rw c.in-Builtin.is remade_none

pub returns-in-Diagnostic-clause-changed : goal.returns-in-Diagnostic-clause-changed
returns-in-Diagnostic-clause-changed g c = rw c.in-Diagnostic.is remade_none

pub returns-in-Interpolate-clause-changed : goal.returns-in-Interpolate-clause-changed
returns-in-Interpolate-clause-changed g c = rw c.in-Interpolate.is remade_none

pub returns-in-Const-clause-changed : goal.returns-in-Const-clause-changed
returns-in-Const-clause-changed g c = rw c.in-Const.is remade_none

pub returns-in-Invariant-clause-changed : goal.returns-in-Invariant-clause-changed
returns-in-Invariant-clause-changed g c = rw c.in-Invariant.is remade_none

pub returns-in-MustUse-clause-changed : goal.returns-in-MustUse-clause-changed
returns-in-MustUse-clause-changed g c = rw c.in-MustUse.is remade_none

pub returns-in-Vertex-clause-changed : goal.returns-in-Vertex-clause-changed
returns-in-Vertex-clause-changed g c = rw c.in-Vertex.is remade_none

pub returns-in-Fragment-clause-changed : goal.returns-in-Fragment-clause-changed
returns-in-Fragment-clause-changed g c = rw c.in-Fragment.is remade_none

pub returns-in-Compute-clause-changed : goal.returns-in-Compute-clause-changed
returns-in-Compute-clause-changed g c = rw c.in-Compute.is remade_none

pub returns-in-Publish-clause-changed : goal.returns-in-Publish-clause-changed
returns-in-Publish-clause-changed g c = rw c.in-Publish.is remade_none

pub returns-in-Else-clause-changed : goal.returns-in-Else-clause-changed
returns-in-Else-clause-changed g c = rw c.in-Else.is remade_none
