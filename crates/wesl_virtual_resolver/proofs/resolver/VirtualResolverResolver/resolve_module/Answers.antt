-- What is answered the text says, and nothing else.
use Rattle.std.proofs.Common.{refl}
use Rattle.wgsl_declarations.specs.View.{unit_tree}
use Rattle.wesl_virtual_resolver.proofs.Said.{unit_there, refused_there}
use Rattle.wesl_virtual_resolver.proofs.resolver.VirtualResolverResolver.resolve_module.Goals as goal

pub returns-in-Ok-clause-unit : goal.returns-in-Ok-clause-unit
returns-in-Ok-clause-unit c =
    unit_there c.in_ok-text.text.now _ c.in_ok-text.ensures (unit_tree c.in-Ok.unit) (record { unit = c.in-Ok.unit; parsed = c.in-Ok.ensures; tree = refl })

pub returns-in-Err-clause-unit : goal.returns-in-Err-clause-unit
returns-in-Err-clause-unit c =
    refused_there c.in_ok-text.text.now _ c.in_ok-text.ensures c.args.path.now c.in-Err.error c.refusal.result c.in-Err.ensures c.refusal.ensures
