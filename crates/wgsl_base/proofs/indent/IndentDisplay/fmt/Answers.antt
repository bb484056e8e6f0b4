use Rattle.std.proofs.Common.{rules, refl}
use Rattle.wgsl_base.proofs.Whole.{displays}
use Rattle.wgsl_base.proofs.indent.IndentDisplay.fmt.Goals as goal

pub returns-clause-writes : goal.returns-clause-writes
returns-clause-writes g c = displays g.W.Write.write_str_gives _ c.write.new.self (g.T.Display.output c.args.self.now.0) c.write.result _ refl c.write.ensures.writes (λ same. search rules)
