use Rattle.std.proofs.Common.{arith, ◌≡◌, sym, subst, ◌<◌, ℕ, List, Option, None}
use denote.Ref.{Bor}
use Rattle.wgsl_path.specs.Paths.{supers}
use Rattle.weslc_workspace.specs.Behind.{IsBehind}
use Rattle.weslc_workspace.proofs.Fronts.{none_super}
use Rattle.weslc_workspace.proofs.printed.behind_supers.Goals as goal

pub returns-in_err-rest : goal.returns-in_err-rest
returns-in_err-rest c =
    let gone : c.from_residual.result ≡ None = grind arith in
    let within : c.loop-level._level < c.args.count = omega arith in
    subst (λ (answer : Option (Bor (List ℕ))). IsBehind (supers c.args.count) c.args.text.now answer) (sym gone)
    (none_super c.loop-level._level c.args.count c.args.text.now c.loop-level.rest.now within c.loop-level.invariant c.in_err-rest.ensures)
