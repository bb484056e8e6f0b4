use Rattle.std.proofs.Common.{take}
use Rattle.core_eval.specs.Scopes.{decls, Declares}
use Rattle.core_eval.proofs.find.declarations_of.Given as goal

abbrev pub invariant-loop-node : goal.invariant-loop-node
invariant-loop-node l = Declares l.table (decls (take l.node-index l.nodes))
