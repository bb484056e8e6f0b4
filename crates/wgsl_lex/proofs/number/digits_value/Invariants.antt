use Rattle.std.proofs.Common.{◌≡◌, take}
use Rattle.wgsl_lex.specs.Runs.{value_behind}
use Rattle.wgsl_lex.proofs.number.digits_value.Given as goal

abbrev pub invariant-loop-digit : goal.invariant-loop-digit
invariant-loop-digit l = l.value ≡ value_behind l.fn.base l.fn.before (take l.digit-index l.digits)
