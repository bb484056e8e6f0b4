use Rattle.std.proofs.Common.{All, take}
use Rattle.wgsl_shader_type.specs.Conversion.{Converts}
use Rattle.wgsl_types.proofs.constructor.all_convert.Given as goal

abbrev pub invariant-loop-arg : goal.invariant-loop-arg
invariant-loop-arg l = All (λ arg. Converts arg l.to) (take l.arg-index l.args)
