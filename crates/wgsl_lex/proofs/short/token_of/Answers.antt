use Rattle.std.proofs.Common.{◌∙◌, sym, ap}
use Rattle.std.specs.Prelude.{Some}
use Rattle.wgsl_token.specs.declared.token.Token.TheVariants.{Identifier, Reserved}
use Rattle.wgsl_lex.proofs.Words.{row_fixed, row_reserved, no_row_identifier, listed_right, listed_nowhere}
use Rattle.wgsl_lex.proofs.short.token_of.Goals as goal

pub returns-in-Some-Some : goal.returns-in-Some-Some
returns-in-Some-Some c = row_fixed _ _ c.requires.text _ (listed_right _ _ (rw c.in-Some-Some.field-0-is at c.in-Some-Some.ensures))

pub returns-in_ok-from_str-in-Some-None : goal.returns-in_ok-from_str-in-Some-None
returns-in_ok-from_str-in-Some-None c =
    row_reserved _ _ c.requires.text c.requires.word c.requires.plain (listed_right _ _ (rw c.in-Some-None.field-0-is at c.in-Some-None.ensures)) ∙ ap (λ x. Some (Reserved x)) (sym c.in_ok-from_str-in-Some-None.ensures)

pub returns-in_ok-from_str-in-None : goal.returns-in_ok-from_str-in-None
returns-in_ok-from_str-in-None c = no_row_identifier _ _ c.requires.text c.requires.word c.requires.plain (listed_nowhere _ c.in-None.ensures) ∙ ap (λ x. Some (Identifier x)) (sym c.in_ok-from_str-in-None.ensures)
