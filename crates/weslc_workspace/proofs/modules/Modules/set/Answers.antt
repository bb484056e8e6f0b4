use Rattle.std.proofs.Common.{refl, ap, ◌∙◌, subst, List, ℕ, Some, None, false}
use Rattle.std.specs.Prelude.{if◌then◌else◌}
use Rattle.std.specs.Option.{is_some}
use Rattle.std.specs.Str.{bytes_eq}
use Rattle.weslc_workspace.specs.Told.{AreTold}
use Rattle.weslc_workspace.proofs.Maps.{ChangesAt, found, dropped, same_found, told_when_same, told_when_set}
use Rattle.weslc_workspace.proofs.modules.Modules.set.Goals as goal

pub invariant_of-self-2 : goal.invariant_of-self-2
invariant_of-self-2 c =
    let changed : ChangesAt c.args.path.now c.args.self.now.texts c.insert.new.self (Some c.args.text) =
    subst (λ (p : List ℕ). ChangesAt p c.args.self.now.texts c.insert.new.self (Some c.args.text)) c.in_ok-key.ensures.ok c.in_ok-insert.ensures.updates
    in
    let reserved : AreTold c.args.self.now.texts c.reserve.new.self =
    told_when_same c.args.self.now.texts c.args.self.now.texts c.args.self.now.parsed c.reserve.new.self refl c.reserve.ensures.entries c.args.self.now.told
    in
    record {
      told = told_when_set c.args.path.now c.args.self.now.texts c.insert.new.self c.reserve.new.self c.swap_remove.new.self (Some c.args.text) changed c.swap_remove.ensures.updates reserved;
    }

pub returns-clause-set : goal.returns-clause-set
returns-clause-set c =
    let changed : ChangesAt c.args.path.now c.args.self.now.texts c.insert.new.self (Some c.args.text) =
    subst (λ (p : List ℕ). ChangesAt p c.args.self.now.texts c.insert.new.self (Some c.args.text)) c.in_ok-key.ensures.ok c.in_ok-insert.ensures.updates
    in
    found c.args.path.now c.args.self.now.texts c.insert.new.self (Some c.args.text) changed

pub returns-clause-unparsed : goal.returns-clause-unparsed
returns-clause-unparsed c = λ q. dropped c.args.path.now c.reserve.new.self c.swap_remove.new.self q (found c.args.path.now c.reserve.new.self c.swap_remove.new.self None c.swap_remove.ensures.updates q)
    ∙ ap (λ o. if bytes_eq c.args.path.now q then false else is_some o) (same_found c.args.self.now.parsed c.reserve.new.self c.reserve.ensures.entries q)
