use Rattle.std.proofs.Common.{subst, MatchOption}
use Rattle.wgsl_types.specs.Constructor.{IsComponent, HasNoComponent}
use Rattle.wgsl_types.proofs.Making.{no_component}
use Rattle.wgsl_types.proofs.constructor.vector_made.Goals as goal

pub returns-in-None-2 : goal.returns-in-None-2
returns-in-None-2 c =
    let none : HasNoComponent c.args.n c.args.args.now = subst (λ found. MatchOption found (HasNoComponent c.args.n c.args.args.now) (IsComponent c.args.n c.args.args.now)) c.in-None-2.is c.in_ok-bare_component-in-None.ensures in
    rw c.in-None.is (no_component c.args.n c.args.args.now none)
