use Rattle.std.proofs.Common.{None}
use Rattle.std.proofs.lemmas.Map.Text.{btree_map_updates_text}
use Rattle.core_reach.proofs.closing.take_places.Goals as goal

pub returns-in-Some-clause-others : goal.returns-in-Some-clause-others
returns-in-Some-clause-others c = btree_map_updates_text c.args.text.now c.args.held.now c.remove.new.self None c.remove.ensures.updates
