use Rattle.std.proofs.Common.{◌≤◌, length}
use Rattle.wesl_reachability.specs.Sound.{KeepsSound}
use Rattle.wesl_reachability.specs.Closing.{Searches, AreDone}
use Rattle.wesl_reachability.proofs.closing.Closing.follow_all.Given as goal

abbrev pub invariant-loop-at : goal.invariant-loop-at
invariant-loop-at l = record {
  searches : Searches l.modules l.fn.self l.self;
  done : AreDone l.modules l.fn.self l.fn.self.done → AreDone l.modules l.self l.at;
  sound : KeepsSound l.modules l.fn.self l.self;
  bounded : l.fn.self.done ≤ length l.fn.self.holding.work.items → l.self.done ≤ length l.self.holding.work.items;
}
