use Rattle.core_scopes.specs.Outcomes.{loaded, home_of, outcome}
use Rattle.core_reach.proofs.FirstLemmas.{missing_why, private_why}
use Rattle.core_reach.proofs.missing.missing_name.Goals as goal

pub returns-in_ok-clone_in-in-Missing : goal.returns-in_ok-clone_in-in-Missing
returns-in_ok-clone_in-in-Missing c =
    missing_why (outcome (loaded c.args.modules.now) (home_of c.args.«module».now) c.args.name.now) c.in_ok-path-in-Missing.path c.in-Missing.path.now
    c.in_ok-clone_in-in-Missing.field-0 c.in-Missing.item.now c.in-Missing.ensures.found c.in_ok-path-in-Missing.ensures c.in_ok-clone_in-in-Missing.ensures

pub returns-in_ok-clone_in-in-Private : goal.returns-in_ok-clone_in-in-Private
returns-in_ok-clone_in-in-Private c =
    private_why (outcome (loaded c.args.modules.now) (home_of c.args.«module».now) c.args.name.now) c.in_ok-path-in-Private.path c.in-Private.path.now
    c.in_ok-clone_in-in-Private.field-0 c.in-Private.item.now c.in-Private.ensures.found c.in_ok-path-in-Private.ensures c.in_ok-clone_in-in-Private.ensures
