use Rattle.std.proofs.Common.{refl, subst}
use Rattle.wesl_reachability.specs.Cells.{Sets}
use Rattle.wesl_reachability.specs.declared.closing.Closing.{Closing}
use Rattle.wesl_reachability.proofs.Follows.{searches_first, searches_again}
use Rattle.wesl_reachability.proofs.closing.Closing.follow.Goals as goal

pub returns-in_ok-follow_first-clause-searches : goal.returns-in_ok-follow_first-clause-searches
returns-in_ok-follow_first-clause-searches c =
    (searches_first c.args.modules.now c.args.number c.args.reference c.args.self.now (record c.args.self.now { followed = c.set-is_first.new.rows }) c.follow_first.new.self
    (subst (λ b. Sets c.args.self.now.followed.items c.args.number c.args.reference c.set-is_first.new.rows.items b) c.if-is_first.true c.set-is_first.ensures) refl refl refl refl c.in_ok-follow_first.ensures.follows).0

pub returns-in_ok-follow_first-clause-followed : goal.returns-in_ok-follow_first-clause-followed
returns-in_ok-follow_first-clause-followed c =
    (searches_first c.args.modules.now c.args.number c.args.reference c.args.self.now (record c.args.self.now { followed = c.set-is_first.new.rows }) c.follow_first.new.self
    (subst (λ b. Sets c.args.self.now.followed.items c.args.number c.args.reference c.set-is_first.new.rows.items b) c.if-is_first.true c.set-is_first.ensures) refl refl refl refl c.in_ok-follow_first.ensures.follows).1

pub returns-else-is_first-clause-searches : goal.returns-else-is_first-clause-searches
returns-else-is_first-clause-searches c =
    (searches_again c.args.modules.now c.args.number c.args.reference c.args.self.now _
    (subst (λ b. Sets c.args.self.now.followed.items c.args.number c.args.reference c.set-is_first.new.rows.items b) c.if-is_first.false c.set-is_first.ensures) refl refl refl refl).0

pub returns-else-is_first-clause-followed : goal.returns-else-is_first-clause-followed
returns-else-is_first-clause-followed c =
    (searches_again c.args.modules.now c.args.number c.args.reference c.args.self.now (record c.args.self.now { followed = c.set-is_first.new.rows })
    (subst (λ b. Sets c.args.self.now.followed.items c.args.number c.args.reference c.set-is_first.new.rows.items b) c.if-is_first.false c.set-is_first.ensures) refl refl refl refl).1

pub returns-in_ok-follow_first-clause-sound : goal.returns-in_ok-follow_first-clause-sound
returns-in_ok-follow_first-clause-sound c = λ root kept all_begin used u. c.in_ok-follow_first.ensures.follows.sound root kept all_begin used u

pub returns-else-is_first-clause-sound : goal.returns-else-is_first-clause-sound
returns-else-is_first-clause-sound c = λ root kept all_begin used u. u
