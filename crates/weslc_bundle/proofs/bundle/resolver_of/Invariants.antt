use Rattle.std.proofs.Common.{◌≡◌, ℕ, List, length}
use Rattle.std.specs.Option.{option_or}
use Rattle.std.specs.Vec.Iter.{into_iter_items, into_iter_len}
use Rattle.weslc_compile.specs.Stored.{text_at}
use Rattle.weslc_bundle.proofs.Held.{last_in}
use Rattle.weslc_bundle.proofs.bundle.resolver_of.Given as goal

-- What the modules that are left have goes before what is held.
abbrev pub invariant-loop-module : goal.invariant-loop-module
invariant-loop-module l = record {
  held : (p : List ℕ) → option_or (last_in (into_iter_items l.module-iterator) p) (text_at l.resolver p) ≡ last_in l.fn.modules p;
  left : into_iter_len l.module-iterator ≡ length (into_iter_items l.module-iterator);
}
