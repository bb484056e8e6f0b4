use Rattle.std.proofs.Common.{◌≡◌, ◌++◌}
use Rattle.std.specs.Vec.Iter.{into_iter_items}
use Rattle.wgsl_path.proofs.joining.chained.Given as goal

-- what was taken over and what is still to come
abbrev pub invariant-loop-name : goal.invariant-loop-name
invariant-loop-name l = l.chained ++ into_iter_items l.name-iterator ≡ l.fn.names ++ l.fn.more
