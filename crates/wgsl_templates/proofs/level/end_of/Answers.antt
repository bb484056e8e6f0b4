use Rattle.std.proofs.Common.{◌≡◌, ◌∙◌, [], ◌∷◌, length, get_or, refl, ap, arith, length-drop}
use Rattle.wgsl_templates.specs.Levels.{none, moved}
use Rattle.wgsl_templates.proofs.Within.{reading_start, reading_ended, reading_skips, shorter, room, on_trivia, on_token, within_back, on_bracket, on_end, on_answer}
use Rattle.wgsl_templates.proofs.level.end_of.Goals as goal

pub loop-first-init : goal.loop-first-init
loop-first-init g c = (reading_start _ _ _ _ _ c.fresh.ensures c.requires.table c.requires.covered, ap (λ x. x ∷ []) c.bracket_of.ensures)

pub overflow_sub-behind : goal.overflow_sub-behind
overflow_sub-behind g c = omega (arith, c.in-Some-comment_end.ensures.within)

pub loop-first-smaller-in-Some-comment_end : goal.loop-first-smaller-in-Some-comment_end
loop-first-smaller-in-Some-comment_end g c = omega (arith, c.split_at.ensures.back_len, ap length c.in-Some.ensures.cases.0)

pub loop-first-preserved-in-Some-comment_end : goal.loop-first-preserved-in-Some-comment_end
loop-first-preserved-in-Some-comment_end g c = (
  reading_skips _ _ _ _ _ _ _ c.loop-first.invariant.0 _ _ c.in-Some.ensures.cases.0 _ c.in-Some-comment_end.ensures.within c.in-Some-comment_end.ensures.skips _ _ c.split_at.ensures.front c.split_at.ensures.back,
  c.loop-first.invariant.1,
)

pub loop-first-smaller-in_default-token : goal.loop-first-smaller-in_default-token
loop-first-smaller-in_default-token g c = shorter _ _ _ _ _ _ _ c.loop-first.invariant.0 _ _ c.in-Some.ensures.cases.0 _ _ c.split_at-in-Some.ensures.back _ c.loop-first.invariant.1 _ c.in_ok-length.ensures.first

pub loop-first-preserved-in_default-token : goal.loop-first-preserved-in_default-token
loop-first-preserved-in_default-token g c = (on_trivia _ _ _ _ _ _ _ c.loop-first.invariant.0 _ _ c.in-Some.ensures.cases.0 _ _ c.split_at-in-Some.ensures.back _ c.loop-first.invariant.1 _ c.in_ok-length.ensures.first c.in_default-token.is, c.loop-first.invariant.1)

pub bounds-table-back : goal.bounds-table-back
bounds-table-back g c = room _ _ _ _ _ _ _ c.loop-first.invariant.0 _ _ c.in-Some.ensures.cases.0 _ _ c.split_at-in-Some.ensures.back _ c.loop-first.invariant.1 _ c.in_ok-length.ensures.first

pub overflow_sub-back : goal.overflow_sub-back
overflow_sub-back g c = within_back _ _ _ _ _ _ _ c.loop-first.invariant.0 _ _ c.in-Some.ensures.cases.0 _ _ c.split_at-in-Some.ensures.back _ c.loop-first.invariant.1 _ c.in_ok-length.ensures.first _ c.in-Some-token.is _ refl _ (c.moved-taken.ensures ∙ (λ i. moved c.loop-first.state c.args.enclosing (c.seen_of-word.ensures.kind i) (get_or c.args.table.now (length c.split_at-in-Some.result.1.now) none))) _ _ c.in-GoesOver.is

pub loop-first-smaller-in-Reads : goal.loop-first-smaller-in-Reads
loop-first-smaller-in-Reads g c = shorter _ _ _ _ _ _ _ c.loop-first.invariant.0 _ _ c.in-Some.ensures.cases.0 _ _ c.split_at-in-Some.ensures.back _ c.loop-first.invariant.1 _ c.in_ok-length.ensures.first

pub loop-first-preserved-in-Reads : goal.loop-first-preserved-in-Reads
loop-first-preserved-in-Reads g c = (on_token _ _ _ _ _ _ _ c.loop-first.invariant.0 _ _ c.in-Some.ensures.cases.0 _ _ c.split_at-in-Some.ensures.back _ c.loop-first.invariant.1 _ c.in_ok-length.ensures.first _ c.in-Some-token.is _ refl _ (c.moved-taken.ensures ∙ (λ i. moved c.loop-first.state c.args.enclosing (c.seen_of-word.ensures.kind i) (get_or c.args.table.now (length c.split_at-in-Some.result.1.now) none))) _ c.in-Reads.is _ c.seen_of-word.ensures.word, c.loop-first.invariant.1)

pub loop-first-smaller : goal.loop-first-smaller
loop-first-smaller g c = omega (arith, c.split_at-in-GoesOver.ensures.back_len, shorter _ _ _ _ _ _ _ c.loop-first.invariant.0 _ _ c.in-Some.ensures.cases.0 _ _ c.split_at-in-Some.ensures.back _ c.loop-first.invariant.1 _ c.in_ok-length.ensures.first)

pub loop-first-preserved : goal.loop-first-preserved
loop-first-preserved g c = (on_bracket _ _ _ _ _ _ _ c.loop-first.invariant.0 _ _ c.in-Some.ensures.cases.0 _ _ c.split_at-in-Some.ensures.back _ c.loop-first.invariant.1 _ c.in_ok-length.ensures.first _ c.in-Some-token.is _ refl _ (c.moved-taken.ensures ∙ (λ i. moved c.loop-first.state c.args.enclosing (c.seen_of-word.ensures.kind i) (get_or c.args.table.now (length c.split_at-in-Some.result.1.now) none))) _ _ c.in-GoesOver.is _ _ c.split_at-in-GoesOver.ensures.front c.split_at-in-GoesOver.ensures.back, c.loop-first.invariant.1)

pub returns-in-Closes : goal.returns-in-Closes
returns-in-Closes g c = on_end _ _ _ _ _ _ _ c.loop-first.invariant.0 _ _ c.in-Some.ensures.cases.0 _ _ c.split_at-in-Some.ensures.back _ c.loop-first.invariant.1 _ c.in_ok-length.ensures.first _ c.in-Some-token.is _ refl _ (c.moved-taken.ensures ∙ (λ i. moved c.loop-first.state c.args.enclosing (c.seen_of-word.ensures.kind i) (get_or c.args.table.now (length c.split_at-in-Some.result.1.now) none))) c.in-Closes.is _ refl

pub returns-in-Answers : goal.returns-in-Answers
returns-in-Answers g c = on_answer _ _ _ _ _ _ _ c.loop-first.invariant.0 _ _ c.in-Some.ensures.cases.0 _ _ c.split_at-in-Some.ensures.back _ c.loop-first.invariant.1 _ c.in_ok-length.ensures.first _ c.in-Some-token.is _ refl _ (c.moved-taken.ensures ∙ (λ i. moved c.loop-first.state c.args.enclosing (c.seen_of-word.ensures.kind i) (get_or c.args.table.now (length c.split_at-in-Some.result.1.now) none))) _ c.in-Answers.is

pub returns : goal.returns
returns g c = reading_ended _ _ _ _ _ _ _ c.loop-first.invariant.0 c.in_default.ensures.cases
