use Rattle.std.proofs.Common.{refl, Err, inl, rules}
use Rattle.wgsl_shader_type.specs.declared.error.Error.TheVariants.{OutOfMemory}
use Rattle.wgsl_instance_operators.proofs.constructors.call.array.Goals as goal

pub returns-in_err-types : goal.returns-in_err-types
returns-in_err-types c = (Err OutOfMemory, inl refl, search rules)
