use Rattle.std.proofs.Common.{ap}
use Rattle.wgsl_to_expr.proofs.Trees.{difference_is}
use Rattle.wgsl_to_expr.proofs.literal.one_less.Goals as goal

pub returns : goal.returns
returns c = difference_is c.in_ok-left.left c.in_ok-right.right c.args.left (ap (λ n. n.node) c.in_ok-left.ensures) (ap (λ n. n.node) c.in_ok-right.ensures)
