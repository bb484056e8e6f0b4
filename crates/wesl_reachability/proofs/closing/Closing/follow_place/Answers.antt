use Rattle.std.proofs.Common.{subst}
use Rattle.std.specs.List.{Contains}
use Rattle.wesl_reachability.specs.Closing.{AreFollowed}
use Rattle.wesl_reachability.proofs.Held.{map_ok}
use Rattle.wesl_reachability.proofs.Uses.{is_followed}
use Rattle.wesl_reachability.proofs.Follows.{place_used}
use Rattle.wesl_reachability.proofs.closing.Closing.follow_place.Goals as goal

pub returns-clause-followed : goal.returns-clause-followed
returns-clause-followed c =
    map_ok c.follow_references.result
    (λ a. is_followed c.args.modules.now c.follow_references.new.self.followed.items c.args.spot (subst (λ l. AreFollowed c.follow_references.new.self.followed.items c.args.spot.«module» l) c.uses_of.ensures a))
    c.follow_references.ensures.followed

pub returns-clause-sound : goal.returns-clause-sound
returns-clause-sound c =
    map_ok c.follow_references.result
    (λ a root kept all_begin there u. a root kept all_begin
    (λ find t r d. place_used c.args.modules.now c.args.self.now root kept all_begin c.args.spot there u find t r (subst (λ l. Contains l r) c.uses_of.ensures d)) u)
    c.follow_references.ensures.sound
