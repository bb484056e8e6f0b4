use Rattle.core_reach.proofs.LoadLemmas.{inserted_at}
use Rattle.core_reach.proofs.rounds.insert_module.Goals as goal

pub returns : goal.returns
returns c =
    inserted_at c.args.modules.now c.insert.new.self c.args.text.now c.in_ok-from_str.field-0 c.args.«module» c.in_ok-insert.field-0
    c.in_ok-from_str.ensures.ok c.in_ok-insert.ensures.updates c.in_ok-insert.ensures.old c.in_ok-insert.ensures.len c.in_ok-insert.ensures.ordered
