-- What is answered the text says, and nothing else.
use Rattle.core_syntax.specs.View.{unit_tree}
use Rattle.weslc_errors.proofs.Said.{unit_there, fault_there, unsupported_there}
use Rattle.weslc_errors.proofs.resolver.VirtualResolverResolver.resolve_module.Goals as goal

pub returns-in-Ok-clause-unit : goal.returns-in-Ok-clause-unit
returns-in-Ok-clause-unit c = unit_there c.in_ok-text.text.now _ c.in_ok-text.ensures (unit_tree c.in-Ok.unit) c.in-Ok.ensures.unit

pub returns-in_ok-clone_in-in-Err-Syntax-clause-unit : goal.returns-in_ok-clone_in-in-Err-Syntax-clause-unit
returns-in_ok-clone_in-in-Err-Syntax-clause-unit c = (
  c.in_ok-clone_in-in-Err-Syntax.ensures,
  fault_there c.in_ok-text.text.now _ c.in_ok-text.ensures c.in-Err-Syntax.error (rw c.in-Err-Syntax.field-0-is at c.in-Err-Syntax.ensures.unit),
)

pub returns-in_ok-clone_in-in-Err-Unsupported-clause-unit : goal.returns-in_ok-clone_in-in-Err-Unsupported-clause-unit
returns-in_ok-clone_in-in-Err-Unsupported-clause-unit c = (
  c.in_ok-clone_in-in-Err-Unsupported.ensures,
  unsupported_there c.in_ok-text.text.now _ c.in_ok-text.ensures (rw c.in-Err-Unsupported.field-0-is at c.in-Err-Unsupported.ensures.unit),
)
