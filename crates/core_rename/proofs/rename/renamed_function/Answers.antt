use Rattle.std.proofs.Common.{rules}
use Rattle.core_rename.proofs.Renames.{parameters_renamed}
use Rattle.core_rename.proofs.rename.renamed_function.Goals as goal

pub returns : goal.returns
returns g c = rw (parameters_renamed (g.N.Naming.gives c.args.naming) c.args.function.now.parameters) (search rules)
