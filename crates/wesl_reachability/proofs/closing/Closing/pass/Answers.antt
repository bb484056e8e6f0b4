use Rattle.std.proofs.Common.{refl, ◌++◌}
use Rattle.wesl_reachability.proofs.Held.{map_ok}
use Rattle.wesl_reachability.proofs.Follows.{open_more}
use Rattle.wesl_reachability.specs.Asking.{waiting}
use Rattle.wesl_reachability.proofs.Sound.{sound_module}
use Rattle.wesl_reachability.proofs.closing.Closing.pass.Goals as goal

pub returns-clause-open : goal.returns-clause-open
returns-clause-open c =
    map_ok c.pass.result (λ r o. open_more c.args.modules.now c.args.self.now _ (record { chains = refl; followed = refl; done = refl; asked = refl; missing = refl }) r.grows r.asserts o) c.pass.ensures

pub returns-clause-sound : goal.returns-clause-sound
returns-clause-sound c =
    map_ok c.pass.result (λ r root kept all_begin rest through u find t.
    sound_module c.args.modules.now find t root kept all_begin c.args.self.now.holding c.args.self.now.chains c.args.self.now.is_missing (waiting c.args.self.now.asked ++ rest) (u find t) c.args.number c.pass.new.self r (through find t)) c.pass.ensures
