use Rattle.std.proofs.Common.{◌≡◌, take}
use Rattle.wgsl_templates.specs.Kinds.{kinds}
use Rattle.wgsl_templates.proofs.reading.parser.kinds_of.Given as goal

abbrev pub invariant-loop-token : goal.invariant-loop-token
invariant-loop-token l = l.kinds.items ≡ kinds (take l.token-index l.tokens)
