use Rattle.std.proofs.Common.{◌≡◌, ◌++◌, drop}
use Rattle.wesl_router.proofs.choice.rest_of.Given as goal

-- what was copied, and what is left
abbrev pub invariant-loop-name : goal.invariant-loop-name
invariant-loop-name l = l.components ++ drop l.name-index l.name-items ≡ l.name-items
