-- A text that is a module, and one that has a fault.
use Rattle.std.proofs.Common.{refl}
use Rattle.wgsl_declarations.specs.View.{unit_tree}
use Rattle.wgsl_read_back.proofs.Deciding.{by_module, by_fault}
use Rattle.wgsl_read_back.proofs.printable.derivable.round_trips.Goals as goal

pub returns-in-Ok-clause-said : goal.returns-in-Ok-clause-said
returns-in-Ok-clause-said c = by_module c.args.printed.now (unit_tree c.args.unit.now) c.in-Ok.other c.is_same.result c.requires c.in-Ok.ensures c.is_same.ensures.same

pub returns-in-None : goal.returns-in-None
returns-in-None c = record { said = by_fault c.args.printed.now (unit_tree c.args.unit.now) c.in-Err.error c.requires c.in-Err.ensures c.in-None.ensures; tree = refl }
