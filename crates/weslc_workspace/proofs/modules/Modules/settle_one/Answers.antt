use Rattle.std.proofs.Common.{◌≡◌, sym, ap, ◌∙◌, subst, List, ℕ, ◌+◌, Some, false}
use Rattle.std.specs.Prelude.{if◌then◌else◌}
use Rattle.std.specs.Option.{is_some}
use Rattle.std.specs.HashMap.{get_by_text, hash_map_len}
use Rattle.weslc_workspace.proofs.Copied.{told_there}
use Rattle.weslc_workspace.proofs.Counting.{counts_one}
use Rattle.weslc_workspace.proofs.Maps.{ChangesAt, told_when_parsed}
use Rattle.weslc_workspace.proofs.modules.Modules.settle_one.Goals as goal

pub invariant_of-self-2 : goal.invariant_of-self-2
invariant_of-self-2 c =
    let changed : ChangesAt c.args.path.now c.args.self.now.parsed c.insert.new.self (Some c.in_ok-key.parse) =
    subst (λ (p : List ℕ). ChangesAt p c.args.self.now.parsed c.insert.new.self (Some c.in_ok-key.parse)) c.in_ok-key.ensures.path c.in_ok-insert.ensures.updates
    in
    record {
      told = told_when_parsed c.args.path.now c.args.self.now.texts c.args.self.now.parsed c.insert.new.self c.in_ok-key.parse changed
          (told_there (get_by_text c.args.self.now.texts c.args.path.now) c.in-Some.text.now c.in_ok-key.parse.outcome (sym c.in-Some.ensures.value) c.in_ok-key.ensures.told) c.args.self.now.told;
    }

pub returns-clause-counts : goal.returns-clause-counts
returns-clause-counts c =
    let new : is_some c.in_ok-insert.field-0 ≡ false =
    ap is_some c.in_ok-insert.ensures.old
    ∙ (ap (λ (p : List ℕ). is_some (get_by_text c.args.self.now.parsed p)) c.in_ok-key.ensures.path ∙ (sym c.contains_key.ensures ∙ c.if-contains_key.false))
    in
    let more : hash_map_len c.insert.new.self ≡ hash_map_len c.args.self.now.parsed + 1 =
    c.in_ok-insert.ensures.len ∙ ap (λ b. hash_map_len c.args.self.now.parsed + (if b then 0 else 1)) new
    in
    counts_one c.args.self.now _ more c.saturating_add-self.ensures
