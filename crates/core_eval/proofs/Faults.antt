-- The error of an operation as a fault.
use Rattle.std.proofs.Common.{◌≡◌, sym, subst, inl, inr}
use Rattle.wgsl_base.specs.declared.items.error.OrOutOfMemory.{OrOutOfMemory}
use Rattle.wgsl_base.specs.Memory.{UnlessOutOfMemory}
use Rattle.wgsl_shader_type.specs.declared.error.Error.{Error}
use Rattle.wgsl_shader_type.specs.declared.error.Error.TheVariants.{OutOfMemory}
use Rattle.core_meaning.specs.declared.fault.Fault.{Fault}
use Rattle.core_meaning.specs.declared.fault.Fault.TheVariants.{Operation}
use Rattle.core_meaning.specs.Values.{operation_fault, IsOperationFault}
use Rattle.core_meaning.specs.Outcome.{Outcome, Failed}

at : {A : Type 0} (o : Outcome A) (e : Error) → o ≡ Failed (Operation e) → UnlessOutOfMemory (λ f. o ≡ Failed f) (operation_fault e)
at o OutOfMemory h = tt
at o e h = h

pub fails : {A : Type 0} (o : Outcome A) (e : Error) (answer : OrOutOfMemory Fault) → IsOperationFault e answer → o ≡ Failed (Operation e) → UnlessOutOfMemory (λ f. o ≡ Failed f) answer
fails o e answer (inl out) h = subst (UnlessOutOfMemory (λ f. o ≡ Failed f)) (sym out) tt
fails o e answer (inr is) h = subst (UnlessOutOfMemory (λ f. o ≡ Failed f)) (sym is) (at o e h)
