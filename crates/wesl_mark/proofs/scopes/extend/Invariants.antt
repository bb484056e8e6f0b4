use Rattle.std.proofs.Common.{◌≡◌, ◌-◌, suc, ℕ, None, length, get_or}
use Rattle.wesl_mark.proofs.scopes.extend.Given as goal

abbrev pub invariant-loop-values : goal.invariant-loop-values
invariant-loop-values l = (n : ℕ) → get_or l.values.items n None ≡ get_or l.initial.values.items n None

abbrev pub decreases-loop-values : goal.decreases-loop-values
decreases-loop-values l = suc l.name - length l.values.items
