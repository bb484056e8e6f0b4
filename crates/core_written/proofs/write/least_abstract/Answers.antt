use Rattle.std.proofs.Common.{ap}
use Rattle.core_written.proofs.Trees.{difference_is}
use Rattle.core_written.proofs.write.least_abstract.Goals as goal

pub returns : goal.returns
returns c =
    let so = difference_is c.in_ok-left.left c.in_ok-right.right c.in_ok-greatest.greatest c.abstract_literal-2.result c.abstract_literal.result
    (ap (λ n. n.node) c.in_ok-left.ensures) (ap (λ n. n.node) c.in_ok-right.ensures) c.in_ok-greatest.ensures c.abstract_literal.ensures c.abstract_literal-2.ensures in
    (rw so at c.parenthesized.ensures)
