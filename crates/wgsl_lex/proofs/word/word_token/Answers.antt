use Rattle.std.proofs.Common.{◌≡◌, ℕ, List, ◌∙◌, sym, subst}
use Rattle.std.specs.Prelude.{None, true, false}
use Rattle.wgsl_lex.specs.Pieces.{is_meaning}
use Rattle.wgsl_lex.proofs.Words.{has_row, word_is_invalid, row_fixed, row_reserved, no_row_identifier, listed_right, listed_nowhere}
use Rattle.wgsl_lex.proofs.word.word_token.Goals as goal

pub returns-then-is_underscored : goal.returns-then-is_underscored
returns-then-is_underscored c = word_is_invalid _ c.requires (sym c.if-is_underscored.ensures)

pub returns-in-Some-Some : goal.returns-in-Some-Some
returns-in-Some-Some c = row_fixed _ _ (c.as_str.ensures ∙ c.in_ok-text.ensures) _ (listed_right _ _ (rw c.in-Some-Some.field-0-is at c.in-Some-Some.ensures))

pub returns-in-Some-None : goal.returns-in-Some-None
returns-in-Some-None c = row_reserved _ _ c.in_ok-text.ensures c.requires (sym c.if-is_underscored.ensures) (let P : List ℕ → Type 0 = λ b. is_meaning b None ≡ true in subst P c.as_str.ensures (listed_right _ _ (rw c.in-Some-None.field-0-is at c.in-Some-None.ensures)))

pub returns-in-None : goal.returns-in-None
returns-in-None c = no_row_identifier _ _ c.in_ok-text.ensures c.requires (sym c.if-is_underscored.ensures) (let P : List ℕ → Type 0 = λ b. has_row b ≡ false in subst P c.as_str.ensures (listed_nowhere _ c.in-None.ensures))
