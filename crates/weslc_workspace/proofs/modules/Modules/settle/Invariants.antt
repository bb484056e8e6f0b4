use Rattle.std.proofs.Common.{◌≡◌}
use Rattle.weslc_workspace.specs.Held.{Counts}
use Rattle.weslc_workspace.proofs.modules.Modules.settle.Given as goal

abbrev pub invariant-loop-path : goal.invariant-loop-path
invariant-loop-path l = record {
  texts : l.self.texts ≡ l.initial.self.texts;
  counts : Counts l.initial.self l.self;
}
