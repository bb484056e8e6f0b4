use Rattle.std.specs.Prelude.{string_bytes}
use Rattle.core_reach.specs.Stages.{stage}
use Rattle.core_reach.proofs.ClosingLemmas.{sound_more}
use Rattle.core_reach.proofs.FollowLemmas.{no_move}
use Rattle.core_reach.proofs.StageLemmas.{moves_more, now_held}
use Rattle.core_reach.proofs.closing.reach.Goals as goal
use Rattle.core_reach.proofs.OrderLemmas.{named_more}

pub returns-clause-sound : goal.returns-clause-sound
returns-clause-sound c = λ reached sound.
    sound_more c.args.linking.now c.args.held.now c.hold.new.held c.args.reached.now.items c.push.new.self.items c.args.symbol _ reached sound
    c.in_ok-hold.ensures c.in_ok-push.ensures.items

pub returns-clause-moves : goal.returns-clause-moves
returns-clause-moves c = λ asked missing.
    moves_more c.args.held.now c.hold.new.held asked missing c.args.reached.now.items c.push.new.self.items c.args.symbol _ c.in_ok-hold.ensures c.in_ok-push.ensures.items

pub returns-clause-held : goal.returns-clause-held
returns-clause-held c = now_held c.args.held.now c.hold.new.held (string_bytes c.args.symbol.«module».now.printed_path) c.args.symbol.place _ c.in_ok-hold.ensures

pub returns-then-is_held-clause-moves : goal.returns-then-is_held-clause-moves
returns-then-is_held-clause-moves c = λ asked missing. no_move (stage c.args.held.now asked missing c.args.reached.now.items)

pub returns-clause-named : goal.returns-clause-named
returns-clause-named c = λ placed before.
    named_more c.args.linking.now c.args.held.now c.hold.new.held c.args.symbol c.in_ok-name.name placed before c.in_ok-hold.ensures c.in_ok-name.ensures
