use Rattle.std.proofs.Common.{arith, sym, ◌<◌}
use Rattle.wgsl_lex.proofs.First.{hexadecimal_has}
use Rattle.wgsl_lex.proofs.number.hexadecimal.Goals as goal

pub returns : goal.returns
returns c =
    let some : 0 < c.hexadecimal_run.result = grind (arith, c.if-is_empty.ensures, c.split_at.ensures.front_len) in (
      omega (arith, c.in_ok-mark.ensures.cases.1, c.split_at.ensures.front_len, c.hexadecimal_run.ensures.within),
      hexadecimal_has _ _ _ _ _ _ c.in_ok-mark.ensures.cases.0 (sym c.if-not-is_mark.ensures) c.hexadecimal_run.ensures c.split_at.ensures.front c.split_at.ensures.front_len some c.digits_value.ensures,
    )
