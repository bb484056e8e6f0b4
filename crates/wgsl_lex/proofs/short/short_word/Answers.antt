use Rattle.std.proofs.Common.{◌≡◌, ℕ, List, ◌+◌, ◌∷◌, true, sym, subst, take, arith, length-take-le}
use Rattle.wgsl_lex.specs.Tokens.{is_word}
use Rattle.wgsl_lex.proofs.First.{is_the_word}
use Rattle.wgsl_lex.proofs.Letters.{letter_opens, short_is}
use Rattle.wgsl_lex.proofs.short.short_word.Goals as goal

pub token_of-requires-clause-word : goal.token_of-requires-clause-word
token_of-requires-clause-word c =
    let P : List ℕ → Type 0 = λ w. is_word (c.args.first ∷ w) ≡ true in
    subst P (sym c.split_at.ensures.front) (is_the_word _ _ _ (letter_opens _ _ (sym c.if-not-is_ascii_alphabetic.ensures.value)) c.in-Some.ensures.run)

pub returns : goal.returns
returns c =
    short_is _ _ _ (take (c.in-Some.count + 1) c.spell_word.new.bytes) _ _ (sym c.if-not-is_ascii_alphabetic.ensures.value) c.in-Some.ensures.run c.split_at.ensures.front c.split_at.ensures.front_len
    (length-take-le _ _ (omega (arith, c.spell_word.array_long, c.in-Some.ensures.within))) c.in-Some.ensures.text c.in_ok-token.ensures
