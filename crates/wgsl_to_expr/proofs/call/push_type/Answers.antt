use Rattle.wgsl_expressions.proofs.Trees.{tree_of_named}
use Rattle.wgsl_to_expr.proofs.call.push_type.Goals as goal

pub returns : goal.returns
returns c = rw (tree_of_named c.args.ty) at c.push_argument.ensures
