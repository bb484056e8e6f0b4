use Rattle.std.proofs.Common.{arith, ◌≡◌, take}
use Rattle.wgsl_lex.specs.Tokens.{size}
use Rattle.wgsl_lex.proofs.Sizes.{size_more, size_within}
use Rattle.wgsl_templates.proofs.lexer.size_of.Goals as goal

pub overflow_add-size : goal.overflow_add-size
overflow_add-size c =
    let so_far : c.loop-character.size ≡ size (take c.loop-character.character-index c.args.characters.now) = c.loop-character.invariant in
    omega (arith, c.requires, c.len_utf8-size.ensures.value, size_within _ _ _ c.loop-character-test.true c.character-item.is)

pub loop-character-preserved : goal.loop-character-preserved
loop-character-preserved c =
    let so_far : c.loop-character.size ≡ size (take c.loop-character.character-index c.args.characters.now) = c.loop-character.invariant in
    omega (arith, c.len_utf8-size.ensures.value, size_more _ _ _ c.loop-character-test.true c.character-item.is)
