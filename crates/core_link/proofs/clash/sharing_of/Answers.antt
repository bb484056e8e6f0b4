use Rattle.std.proofs.Common.{ℕ, List, []}
use denote.Ref.{Bor}
use Rattle.core_link.proofs.ClashLemmas.{shared_step}
use Rattle.core_link.proofs.clash.sharing_of.Goals as goal

pub loop-name-preserved : goal.loop-name-preserved
loop-name-preserved c =
    let d : Bor (List ℕ) = record { ref_ptr = (0, 0); now = [] } in
    shared_step c.loop-name.sharing c.insert.new.self c.args.names.now c.loop-name.name-index d c.contains_key-is_there.result c.loop-name.invariant c.loop-name-test.true
    c.contains_key-is_there.ensures c.in_ok-insert.ensures.updates
