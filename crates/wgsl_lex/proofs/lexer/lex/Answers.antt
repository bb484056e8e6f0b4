use Rattle.std.proofs.Common.{rules, arith, ◌≡◌, ◌∙◌}
use Rattle.std.specs.Str.{chars}
use Rattle.std.proofs.lemmas.Str.{chars_from_encodes}
use Rattle.wgsl_lex.proofs.Sizes.{size_parts}
use Rattle.wgsl_lex.proofs.Once.{stands_some}
use Rattle.wgsl_lex.proofs.Reading.{read_start, read_trivia, read_token, read_all}
use Rattle.wgsl_lex.proofs.lexer.lex.Goals as goal

pub loop-first-init : goal.loop-first-init
loop-first-init c =
    let spelled : c.in_ok-characters.characters.items ≡ chars c.args.text.now = search (rules, chars_from_encodes) in
    read_start _ _ _ c.utf8.text (c.as_slice-rest.ensures.value ∙ spelled) c.new-tokens.ensures

pub size_of-requires : goal.size_of-requires
size_of-requires c = omega (arith, c.loop-first.invariant.ends, size_parts _ _ _ _ c.split_at.ensures.front c.split_at.ensures.back)

pub overflow_add-end : goal.overflow_add-end
overflow_add-end c = omega (arith, c.loop-first.invariant.ends, size_parts _ _ _ _ c.split_at.ensures.front c.split_at.ensures.back, c.size_of.ensures)

pub loop-first-smaller-in_ok-push : goal.loop-first-smaller-in_ok-push
loop-first-smaller-in_ok-push c = omega (arith, c.split_at.ensures.back_len, stands_some _ _ _ c.in_ok-length.ensures.first)

pub loop-first-preserved-in_ok-push : goal.loop-first-preserved-in_ok-push
loop-first-preserved-in_ok-push c = read_token _ _ _ _ c.loop-first.invariant _ _ c.in-Some.ensures.cases.0 _ _ _ _ c.split_at.ensures.front c.split_at.ensures.back c.size_of.ensures _ c.in_ok-length.ensures.first _ _ c.in-Some-token.is c.in_ok-push.ensures.ok

pub loop-first-smaller : goal.loop-first-smaller
loop-first-smaller c = omega (arith, c.split_at.ensures.back_len, stands_some _ _ _ c.in_ok-length.ensures.first)

pub loop-first-preserved : goal.loop-first-preserved
loop-first-preserved c = read_trivia _ _ _ _ c.loop-first.invariant _ _ c.in-Some.ensures.cases.0 _ _ _ _ c.split_at.ensures.front c.split_at.ensures.back c.size_of.ensures _ c.in_ok-length.ensures.first c.in_default-token.is

pub returns : goal.returns
returns c = read_all _ _ _ _ c.loop-first.invariant c.utf8.text c.in_default.ensures.cases
