use Rattle.core_reach.proofs.CloseLemmas.{underway_whole, on_any}
use Rattle.core_reach.proofs.closing.close.Goals as goal

pub returns-clause-closed : goal.returns-clause-closed
returns-clause-closed c = λ underway.
    c.outcome_of.ensures.closed
    (underway_whole c.args.linking.now c.args.held.now c.follow_all.new.held c.args.found.asked c.follow_all.new.found.asked c.args.found.is_missing c.follow_all.new.found.is_missing
    c.args.found.reached.items c.follow_all.new.found.reached.items underway
    c.in_ok-follow_all.ensures.sound c.in_ok-follow_all.ensures.moves c.in_ok-follow_all.ensures.in_order c.in_ok-follow_all.ensures.followed)

pub returns-clause-refused : goal.returns-clause-refused
returns-clause-refused c = λ underway.
    c.outcome_of.ensures.refused
    (underway_whole c.args.linking.now c.args.held.now c.follow_all.new.held c.args.found.asked c.follow_all.new.found.asked c.args.found.is_missing c.follow_all.new.found.is_missing
    c.args.found.reached.items c.follow_all.new.found.reached.items underway
    c.in_ok-follow_all.ensures.sound c.in_ok-follow_all.ensures.moves c.in_ok-follow_all.ensures.in_order c.in_ok-follow_all.ensures.followed)

pub returns-clause-sound : goal.returns-clause-sound
returns-clause-sound c = λ sound. on_any c.outcome_of.result (c.in_ok-follow_all.ensures.sound sound).0

pub returns-clause-followed : goal.returns-clause-followed
returns-clause-followed c = λ followed. c.outcome_of.ensures.followed (c.in_ok-follow_all.ensures.followed followed)

pub returns-clause-stays : goal.returns-clause-stays
returns-clause-stays c = on_any c.outcome_of.result c.in_ok-follow_all.ensures.moves.stays_held
