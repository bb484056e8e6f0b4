use Rattle.std.proofs.Common.{◌≡◌, take}
use Rattle.std.specs.Prelude.{replicate}
use Rattle.wesl_name_resolution.specs.declared.denote.Via.{Via}
use Rattle.wesl_name_resolution.specs.declared.ends.End.TheVariants.{Unknown}
use Rattle.wesl_name_resolution.specs.Ends.{counts_of, item_counts, end_at}
use Rattle.wesl_name_resolution.proofs.ends.unknown.Given as goal

abbrev pub invariant-loop-item : goal.invariant-loop-item
invariant-loop-item l = l.ends.items ≡ replicate l._item Unknown

abbrev pub invariant-loop-number : goal.invariant-loop-number
invariant-loop-number l = (counts_of l.all.items ≡ take l.number (item_counts l.modules.list.items)) × ((v : Via) → end_at l.all.items v ≡ Unknown)
