use Rattle.std.proofs.Common.{refl, subst, sym, ◌++◌}
use Rattle.std.specs.Prelude.{slice_get}
use Rattle.wesl_reachability.proofs.Held.{map_ok}
use Rattle.wesl_reachability.proofs.Follows.{open_more, asserts_same}
use Rattle.wesl_reachability.specs.Asking.{waiting}
use Rattle.wesl_reachability.proofs.Sound.{sound_reaches}
use Rattle.wesl_reachability.proofs.closing.Closing.reach_all.Goals as goal

pub returns-clause-open : goal.returns-clause-open
returns-clause-open c =
    map_ok c.reach_all.result (λ r ms o. open_more ms c.args.self.now _ (record { chains = refl; followed = refl; done = refl; asked = refl; missing = refl }) r.grows
    (asserts_same ms.list.items c.args.self.now.holding c.reach_all.new.self r.passed r.grows) o) c.reach_all.ensures

pub returns-clause-sound : goal.returns-clause-sound
returns-clause-sound c =
    map_ok c.reach_all.result (λ r ms root kept all_begin rest reached u find t.
    sound_reaches ms find t root kept all_begin c.args.self.now.holding c.args.self.now.chains c.args.self.now.is_missing (waiting c.args.self.now.asked ++ rest) (u find t) c.args.spots.now c.reach_all.new.self r (reached find t)) c.reach_all.ensures
