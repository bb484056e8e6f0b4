use Rattle.std.proofs.Common.{ℕ, subst}
use Rattle.wgsl_lex.specs.Runs.{IsValue, value_behind}
use Rattle.wgsl_lex.proofs.First.{decimal_has}
use Rattle.wgsl_lex.proofs.number.unsuffixed.Goals as goal

pub returns-then-first-ne48-clause-longest : goal.returns-then-first-ne48-clause-longest
returns-then-first-ne48-clause-longest c =
    let P : ℕ → Type 0 = λ v. IsValue c.digits_value.result (value_behind 10 v c.split_at.result.0.now) in
    decimal_has _ _ _ _ _ c.requires c.if-first-ne48.true c.decimal_run.ensures c.split_at.ensures.front c.split_at.ensures.front_len (subst P c.digit_value.ensures c.digits_value.ensures)
