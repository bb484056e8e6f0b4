use Rattle.std.proofs.Common.{◌≡◌, ◌++◌, take}
use Rattle.wgsl_path.proofs.joining.with_copies.Given as goal

abbrev pub invariant-loop-name : goal.invariant-loop-name
invariant-loop-name l = l.all ≡ l.fn.names ++ take l.name-index l.more
