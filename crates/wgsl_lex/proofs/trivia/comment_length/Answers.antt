use Rattle.wgsl_lex.proofs.First.{line_answer, block_answer, no_slash, empty_alone, no_second}
use Rattle.wgsl_lex.proofs.trivia.comment_length.Goals as goal

pub returns-then-first-ne47 : goal.returns-then-first-ne47
returns-then-first-ne47 c = no_slash _ _ c.if-first-ne47.true

pub returns-in_err-second : goal.returns-in_err-second
returns-in_err-second c = empty_alone _ _ _ c.in_err-second.ensures.cases c.from_residual.ensures

pub returns-then-second-eq47 : goal.returns-then-second-eq47
returns-then-second-eq47 c = line_answer _ _ _ _ _ c.if-first-ne47.false c.in_ok-second.ensures.cases.0 c.if-second-eq47.true c.line_run.ensures

pub returns-then-second-eq42 : goal.returns-then-second-eq42
returns-then-second-eq42 c =
    block_answer _ _ _ _ _ c.if-first-ne47.false c.in_ok-second.ensures.cases.0 c.if-second-eq42.true c.block_comment_length.ensures.within c.block_comment_length.ensures.longest

pub returns-else-second-eq42 : goal.returns-else-second-eq42
returns-else-second-eq42 c = no_second _ _ _ _ c.in_ok-second.ensures.cases.0 c.if-second-eq47.false c.if-second-eq42.false
