use Rattle.std.proofs.Common.{refl, sym, subst, true}
use Rattle.std.specs.Prelude.{OnOk}
use Rattle.wesl_reachability.specs.Closing.{EndsAs}
use Rattle.wesl_reachability.proofs.Held.{map_ok}
use Rattle.wesl_reachability.proofs.Arriving.{arrives_grows}
use Rattle.wesl_reachability.proofs.Goes.{keeps_asked, keeps_missing, keeps_same}
use Rattle.wesl_reachability.proofs.closing.Closing.end.Goals as goal

pub returns-in-Declared-clause-ends : goal.returns-in-Declared-clause-ends
returns-in-Declared-clause-ends c =
    subst (λ d. OnOk c.arrive.result (EndsAs c.args.modules.now d c.args.self.now (record c.args.self.now { holding = c.arrive.new.self }))) (sym c.in-Declared.is)
    (map_ok c.arrive.result (λ r. record { arrives = r; chains = refl; asked = refl; missing = refl }) c.arrive.ensures)

pub returns-in-Declared-clause-keeps : goal.returns-in-Declared-clause-keeps
returns-in-Declared-clause-keeps c =
    map_ok c.arrive.result (λ r. keeps_asked c.args.modules.now c.args.self.now _ (arrives_grows c.args.modules.now c.in-Declared.spot c.args.self.now.holding c.arrive.new.self r) refl refl refl) c.arrive.ensures

pub returns-in-Missing-clause-keeps : goal.returns-in-Missing-clause-keeps
returns-in-Missing-clause-keeps c = keeps_missing c.args.modules.now c.args.self.now _ refl refl refl refl

pub returns-in-Private-clause-keeps : goal.returns-in-Private-clause-keeps
returns-in-Private-clause-keeps c = keeps_missing c.args.modules.now c.args.self.now _ refl refl refl refl

pub returns-in-Free-clause-keeps : goal.returns-in-Free-clause-keeps
returns-in-Free-clause-keeps c = keeps_same c.args.modules.now c.args.self.now

pub returns-in-Unloaded-clause-keeps : goal.returns-in-Unloaded-clause-keeps
returns-in-Unloaded-clause-keeps c = keeps_same c.args.modules.now c.args.self.now

pub returns-in-Missing-clause-ends : goal.returns-in-Missing-clause-ends
returns-in-Missing-clause-ends c =
    subst (λ d. EndsAs c.args.modules.now d c.args.self.now (record c.args.self.now { is_missing = true })) (sym c.in-Missing.is) (record { holding = refl; chains = refl; asked = refl; missing = refl })

pub returns-in-Private-clause-ends : goal.returns-in-Private-clause-ends
returns-in-Private-clause-ends c =
    subst (λ d. EndsAs c.args.modules.now d c.args.self.now (record c.args.self.now { is_missing = true })) (sym c.in-Private.is) (record { holding = refl; chains = refl; asked = refl; missing = refl })
