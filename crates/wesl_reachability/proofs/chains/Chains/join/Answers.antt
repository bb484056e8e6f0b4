use Rattle.std.proofs.Common.{refl, sym, subst, Some, None}
use Rattle.std.specs.Prelude.{IfOk}
use Rattle.wesl_reachability.specs.Joining.{Joins}
use Rattle.wesl_reachability.proofs.Held.{map_if}
use Rattle.wesl_reachability.proofs.Rows.{joins_on, joins_from}
use Rattle.wesl_reachability.proofs.chains.Chains.join.Goals as goal

pub returns-in-None : goal.returns-in-None
returns-in-None c =
    subst (λ b. Joins c.args.modules.now b c.args.via c.args.self.now c.how_joined.result c.meet-state.new.self) (sym c.in-None.is)
    (joins_on c.args.modules.now None c.args.via c.args.self.now c.meet-state.new.self c.meet-state.new.self c.meet-state.result c.meet-state.ensures.state c.meet-state.ensures.meets c.how_joined.result refl c.how_joined.ensures)

pub returns-in-Some : goal.returns-in-Some
returns-in-Some c =
    subst (λ b. IfOk c.go_on.result (λ r. Joins c.args.modules.now b c.args.via c.args.self.now r c.go_on.new.self)) (sym c.in-Some.is)
    (map_if c.go_on.result
    (λ r o. joins_from c.args.modules.now (Some c.in-Some.from) c.args.via c.args.self.now c.meet-state.new.self c.go_on.new.self c.meet-state.result c.meet-state.ensures.state c.meet-state.ensures.meets c.in-Some.from refl r o)
    c.go_on.ensures)
