use Rattle.std.proofs.Common.{◌≡◌, refl, sym, Bool, true, false}
use Rattle.std.specs.Prelude.{not}
use Rattle.core_scopes.specs.Outcomes.{loaded}
use Rattle.core_reach.specs.Stages.{asks, stage}
use Rattle.core_reach.proofs.PresentLemmas.{followed_sure, followed_present}
use Rattle.core_reach.proofs.CloseLemmas.{refused_whole}
use Rattle.core_reach.proofs.closing.outcome_of.Goals as goal

turned : (b : Bool) → not b ≡ true → b ≡ false
turned true e = sym e
turned false e = refl

pub returns-then-not-found-clause-followed : goal.returns-then-not-found-clause-followed
returns-then-not-found-clause-followed c = λ all.
    followed_sure (loaded c.args.linking.now.modules.now) (stage c.args.held.now (asks c.args.found.asked) c.args.found.is_missing c.args.found.reached.items) (turned c.args.found.is_missing c.if-not-found.true) all

pub returns-in-None-clause-followed : goal.returns-in-None-clause-followed
returns-in-None-clause-followed c = λ all.
    followed_present (loaded c.args.linking.now.modules.now) (stage c.args.held.now (asks c.args.found.asked) c.args.found.is_missing c.args.found.reached.items)
    (c.in_ok-error.ensures.present c.in-None.is) all

pub returns-in-Some-clause-refused : goal.returns-in-Some-clause-refused
returns-in-Some-clause-refused c =
    refused_whole c.args.linking.now c.args.held.now c.args.found.asked c.args.found.is_missing c.args.found.reached.items c.in_ok-error.field-0 c.in-Some.error c.in-Some.is
    c.in_ok-error.ensures.first
