use Rattle.std.proofs.Common.{◌≡◌, take}
use Rattle.wesl_reachability.specs.Sound.{FollowsAllSoundly}
use Rattle.wesl_reachability.specs.Closing.{Searches, AreFollowed}
use Rattle.wesl_reachability.proofs.closing.Closing.follow_references.Given as goal

abbrev pub invariant-loop-reference : goal.invariant-loop-reference
invariant-loop-reference l = record {
  searches : Searches l.modules l.fn.self l.self;
  followed : AreFollowed l.self.followed.items l.number (take l.reference-index l.references);
  sound : FollowsAllSoundly l.modules l.number l.references l.fn.self l.self;
  done : l.self.done ≡ l.fn.self.done;
}
