use Rattle.std.proofs.Common.{◌≡◌, List, ℕ, length}
use Rattle.std.specs.List.{AllByRecursion}
use Rattle.wesl_resolve.specs.Mangling.{escaped_parts}
use Rattle.wesl_resolve.specs.Unmangling.{IsPlainName, behind}
use Rattle.wesl_resolve.proofs.Cutting.{AreLeft}
use Rattle.wesl_resolve.proofs.unmangle.read_parts.Given as goal

abbrev pub invariant-loop-rest : goal.invariant-loop-rest
invariant-loop-rest l = (parts : List (List ℕ)) → AllByRecursion IsPlainName parts → behind l.fn.text ≡ escaped_parts parts → AreLeft parts l.parts (behind l.rest)

abbrev pub decreases-loop-rest : goal.decreases-loop-rest
decreases-loop-rest l = length (behind l.rest)
