use Rattle.std.proofs.Common.{◌++◌, take, ◌∙◌, ap, sym, append_assoc}
use Rattle.std.specs.Char.{encode_utf8}
use Rattle.std.specs.Str.{encode_utf8_all}
use Rattle.wgsl_lex.proofs.Sizes.{encodes_more}
use Rattle.wgsl_lex.proofs.word.joined.Goals as goal

pub loop-character-preserved : goal.loop-character-preserved
loop-character-preserved c =
    c.in_ok-push-2.ensures.ok ∙ ap (λ bs. bs ++ encode_utf8 c.character-item.result) c.loop-character.invariant
    ∙ append_assoc (encode_utf8 c.args.first) (encode_utf8_all (take c.loop-character.character-index c.args.behind.now)) (encode_utf8 c.character-item.result) ∙ ap (λ bs. encode_utf8 c.args.first ++ bs) (sym (encodes_more _ _ _ c.loop-character-test.true c.character-item.is))
