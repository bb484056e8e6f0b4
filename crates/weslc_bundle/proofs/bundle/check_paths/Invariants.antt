use Rattle.std.proofs.Common.{◌≡◌, ℕ, List, take}
use Rattle.std.specs.BTreeSet.{contains_text}
use Rattle.weslc_bundle.specs.Bundles.{IsApart}
use Rattle.weslc_bundle.proofs.Paths.{taken}
use Rattle.weslc_bundle.proofs.bundle.check_paths.Given as goal

abbrev pub invariant-loop-module : goal.invariant-loop-module
invariant-loop-module l = record {
  same : (q : List ℕ) → contains_text l.taken q ≡ taken (take l.module-index l.modules) q;
  apart : IsApart (take l.module-index l.modules);
}
