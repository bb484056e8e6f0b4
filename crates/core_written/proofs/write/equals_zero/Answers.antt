use Rattle.std.proofs.Common.{ap}
use Rattle.core_written.proofs.Trees.{comparison_is}
use Rattle.core_written.proofs.write.equals_zero.Goals as goal

pub returns : goal.returns
returns c =
    let so = comparison_is c.in_ok-left.left c.in_ok-right.right c.abstract_literal.result c.args.number
    (ap (λ n. n.node) c.in_ok-left.ensures) (ap (λ n. n.node) c.in_ok-right.ensures) c.abstract_literal.ensures in
    (rw so at c.parenthesized.ensures)
