use Rattle.std.proofs.Common.{ℕ, List, [], get_or, ap, ◌∙◌, subst}
use Rattle.std.specs.Prelude.{string_bytes}
use denote.Ref.{Bor}
use Rattle.std.specs.List.{Contains}
use Rattle.core_syntax.specs.View.{declaration_tree}
use Rattle.core_scopes.specs.Outcomes.{loaded, home_of}
use Rattle.core_rename.specs.Scopes.{texts}
use Rattle.core_reach.specs.Stages.{asks, stage}
use Rattle.core_reach.proofs.ClosingLemmas.{text_contained}
use Rattle.core_reach.proofs.FollowLemmas.{two_moves, no_move}
use Rattle.core_reach.proofs.StageLemmas.{one_below, none_below, followed_below, text_there}
use Rattle.core_reach.proofs.closing.follow_each.Goals as goal

pub follow_name-requires-clause-occurs : goal.follow_name-requires-clause-occurs
follow_name-requires-clause-occurs c =
    let d : Bor (List ℕ) = record { ref_ptr = (0, 0); now = [] } in
    subst (λ l. Contains l (get_or c.as_slice-name-items.result.now c.loop-name.name-index d).now) (ap texts c.as_slice-name-items.ensures.value ∙ c.in_ok-names.ensures)
    (text_contained c.as_slice-name-items.result.now c.loop-name.name-index d c.loop-name-test.true)

pub loop-name-init : goal.loop-name-init
loop-name-init c = record {
  in_order = λ keyed reached before. before;
  sound = λ reached sound. sound;
  moves = no_move (stage c.args.held.now (asks c.args.found.now.asked) c.args.found.now.is_missing c.args.found.now.reached.items);
  handled = none_below (loaded c.args.linking.now.modules.now) (stage c.args.held.now (asks c.args.found.now.asked) c.args.found.now.is_missing c.args.found.now.reached.items) (home_of c.args.home.now) c.as_slice-name-items.result.now;
}

pub loop-name-preserved : goal.loop-name-preserved
loop-name-preserved c =
    let d : Bor (List ℕ) = record { ref_ptr = (0, 0); now = [] } in
    record {
      in_order = λ keyed reached before. c.in_ok-follow_name.ensures.in_order keyed reached (c.loop-name.invariant.in_order keyed reached before);
      sound = λ reached sound. c.in_ok-follow_name.ensures.sound reached (c.loop-name.invariant.sound reached sound);
      moves = two_moves _ _ _ c.loop-name.invariant.moves c.in_ok-follow_name.ensures.moves;
      handled = one_below (loaded c.args.linking.now.modules.now) _ _ (home_of c.args.home.now) c.as_slice-name-items.result.now c.loop-name.name-index
          (get_or c.as_slice-name-items.result.now c.loop-name.name-index d).now
          (text_there c.as_slice-name-items.result.now c.as_slice-name-items.result.now c.loop-name.name-index d (λ k. c.as_slice-name-items.result.now) c.loop-name-test.true)
          c.in_ok-follow_name.ensures.moves c.loop-name.invariant.handled c.in_ok-follow_name.ensures.handled;
    }

pub returns-clause-followed : goal.returns-clause-followed
returns-clause-followed c =
    followed_below (loaded c.args.linking.now.modules.now) (stage c.loop-name.held (asks c.loop-name.found.asked) c.loop-name.found.is_missing c.loop-name.found.reached.items) (string_bytes c.args.symbol.«module».now.printed_path) c.args.symbol.place (home_of c.args.home.now) (declaration_tree c.args.declaration.now)
    c.as_slice-name-items.result.now c.loop-name.name-index c.requires.home c.requires.declaration
    (ap texts c.as_slice-name-items.ensures.value ∙ c.in_ok-names.ensures) c.loop-name-test.false c.loop-name.invariant.handled

pub returns-clause-in_order : goal.returns-clause-in_order
returns-clause-in_order c = c.loop-name.invariant.in_order
