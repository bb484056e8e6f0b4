use Rattle.std.proofs.Common.{sym, ap, ◌∙◌}
use Rattle.std.specs.Prelude.{string_bytes}
use Rattle.core_scopes.specs.Outcomes.{item_at, loaded}
use Rattle.core_reach.specs.Reach.{kept}
use Rattle.core_reach.proofs.OrderLemmas.{placed_item}
use Rattle.core_reach.proofs.closing.reach_kept.Goals as goal

pub returns-in_ok-reach-in-Declared-clause-sound : goal.returns-in_ok-reach-in-Declared-clause-sound
returns-in_ok-reach-in-Declared-clause-sound c = λ sound.
    c.in_ok-reach-in-Declared.ensures.sound
    (kept c.requires.keep
    (ap (λ n. item_at (record { home = c.args.linking.now.root.now; name = n }) (loaded c.args.linking.now.modules.now c.args.linking.now.root.now)) (sym c.as_str.ensures)
    ∙ sym c.in-Declared.ensures.found))
    sound

pub returns-in_ok-reach-in-Declared-clause-kept : goal.returns-in_ok-reach-in-Declared-clause-kept
returns-in_ok-reach-in-Declared-clause-kept c = (
  string_bytes c.in-Declared.symbol.«module».now.printed_path,
  c.in-Declared.symbol.place,
  ap (λ n. item_at (record { home = c.args.linking.now.root.now; name = n }) (loaded c.args.linking.now.modules.now c.args.linking.now.root.now)) (sym c.as_str.ensures)
      ∙ sym c.in-Declared.ensures.found,
  c.in_ok-reach-in-Declared.ensures.held,
)

pub returns-in_ok-reach-in-Declared-clause-named : goal.returns-in_ok-reach-in-Declared-clause-named
returns-in_ok-reach-in-Declared-clause-named c = λ keyed before.
    c.in_ok-reach-in-Declared.ensures.named
    (placed_item c.args.linking.now.modules.now c.args.linking.now.root.now c.as_str.result.now c.in-Declared.symbol keyed c.in-Declared.ensures.stands c.in-Declared.ensures.found) before
