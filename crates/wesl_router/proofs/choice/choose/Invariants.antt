use Rattle.std.proofs.Common.{◌≡◌, drop}
use Rattle.wesl_router.specs.Choice.{best_from, best_of}
use Rattle.wesl_router.proofs.choice.choose.Given as goal

abbrev pub invariant-loop-place : goal.invariant-loop-place
invariant-loop-place l = best_from l.path l.place l.best (drop l.place l.prefixes) ≡ best_of l.path l.prefixes
