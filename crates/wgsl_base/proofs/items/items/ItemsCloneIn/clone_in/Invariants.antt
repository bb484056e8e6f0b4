use Rattle.std.proofs.Common.{◌≡◌, take}
use Rattle.wgsl_base.proofs.items.items.ItemsCloneIn.clone_in.Given as goal

abbrev pub invariant-loop-item : goal.invariant-loop-item
invariant-loop-item g l = l.copy ≡ take l.item-index l.item-items
