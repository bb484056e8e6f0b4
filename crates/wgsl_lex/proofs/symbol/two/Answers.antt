use Rattle.std.proofs.Common.{sym}
use Rattle.wgsl_lex.proofs.Symbols.{not_second}
use Rattle.wgsl_lex.proofs.symbol.two.Goals as goal

pub returns-then-not-is_second : goal.returns-then-not-is_second
returns-then-not-is_second c = sym (not_second c.args.first c.args.second (sym c.if-not-is_second.ensures))
