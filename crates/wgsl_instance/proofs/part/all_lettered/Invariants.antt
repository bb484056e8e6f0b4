use Rattle.std.proofs.Common.{drop}
use Rattle.wgsl_instance.specs.Parts as spec
use Rattle.wgsl_instance.specs.Answer.{IsCollecting}
use Rattle.wgsl_instance.proofs.part.all_lettered.Given as goal

abbrev pub invariant-loop-letter : goal.invariant-loop-letter
invariant-loop-letter l = IsCollecting (spec.lettered l.vector) l.name l.components (drop l.letter-index l.name)
