use Rattle.std.proofs.Common.{◌≡◌, ℕ, List, ◌∷◌, true, sym, subst}
use Rattle.wgsl_lex.specs.Tokens.{is_word}
use Rattle.wgsl_lex.proofs.First.{is_the_word, word_first}
use Rattle.wgsl_lex.proofs.short.word.Goals as goal

pub word_token-requires : goal.word_token-requires
word_token-requires c =
    let P : List ℕ → Type 0 = λ w. is_word (c.args.first ∷ w) ≡ true in
    subst P (sym c.split_at.ensures.front) (is_the_word _ _ _ c.requires c.word_run.ensures)

pub returns-clause-first : goal.returns-clause-first
returns-clause-first c =
    let P : List ℕ → Type 0 = λ w. is_word (c.args.first ∷ w) ≡ true in
    let spelled = subst P (sym c.split_at.ensures.front) (is_the_word _ _ _ c.requires c.word_run.ensures) in
    word_first _ _ _ _ _ spelled c.word_run.ensures c.split_at.ensures.front c.split_at.ensures.front_len c.in_ok-token.ensures
