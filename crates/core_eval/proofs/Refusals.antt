-- Refusals of the start.
use Rattle.std.proofs.Common.{Err, sym, ap, ◌∙◌}
use Rattle.wgsl_shader_type.specs.declared.literal.LiteralInstance.{LiteralInstance}
use Rattle.core_meaning.specs.Outcome.{Outcome}
use Rattle.core_meaning.specs.Names.{Name}
use Rattle.core_meaning.specs.ConstStage.{Consts}
use Rattle.wgsl_base.specs.declared.items.error.OrOutOfMemory.{OrOutOfMemory}
use Rattle.wgsl_base.specs.declared.items.error.OrOutOfMemory.TheVariants.{Error, OutOfMemory}
use Rattle.core_meaning.specs.declared.fault.Fault.{Fault}
use Rattle.core_eval.specs.declared.error.DeclarationFault.{DeclarationFault}
use Rattle.core_eval.specs.Ends.{Ends}
use Rattle.core_eval.specs.Refusals.{IsRefusal, Answers}
use Rattle.core_eval.specs.Start.{added}

pub refusal : {A : Type 0} (view : A → Consts) (cs : Consts) (x : Name) (o : Outcome LiteralInstance) (e : OrOutOfMemory Fault) (u : OrOutOfMemory DeclarationFault) → Ends o (Err e) → IsRefusal x e u → Answers view (added cs x o) (Err u)
refusal view cs x o e OutOfMemory h i = tt
refusal view cs x o OutOfMemory (Error r) h i = absurd i
refusal view cs x o (Error f) (Error r) h i = ap (added cs x) h ∙ ap Err (sym i)
