-- What code answers of a unit, by the definition of the lowered unit; and that it keeps runs.
use Rattle.std.proofs.Common.{ℕ, List, Result, Ok, Err, IfOk, sym, ◌∙◌}
use Rattle.core_syntax.specs.Tree.{UnitTree as Module}
use Rattle.wgsl_base.specs.declared.items.error.OrOutOfMemory.{OrOutOfMemory}
use Rattle.wgsl_base.specs.declared.items.error.OrOutOfMemory.TheVariants.{Error, OutOfMemory}
use Rattle.core_order.specs.Units.{IsStartOrderOf}
use Rattle.core_eval.specs.declared.error.DeclarationFault.{DeclarationFault}
use Rattle.core_eval.specs.Refusals.{Answers}
use Rattle.core_lower_expressions.specs.Lowered.{IsLowering}
use Rattle.core_lower_expressions.specs.Computed.{lowered_after}
use Rattle.core_lower.specs.Keeps.{AreClear, Keeps}
use Rattle.core_lower.proofs.Runs.{lowered_so}
use Rattle.core_lower.proofs.Same.{computed_same}

pub keeps_if : {A : Type 0} (view : A → Module) (steps : ℕ) (u : Module) (r : Result A (OrOutOfMemory DeclarationFault)) → AreClear u.declarations → IsLowering view steps u r → IfOk r (λ low. Keeps u.declarations (view low).declarations)
keeps_if view steps u (Ok low) clear h = lowered_so u (view low) clear h.order (sym (computed_same steps h.order u) ∙ h.comes)
keeps_if view steps u (Err e) clear h = tt

-- ---- an answer in the order of the start

pub is_lowering : {A : Type 0} (view : A → Module) (steps : ℕ) (u : Module) (order : List ℕ) (r : Result A (OrOutOfMemory DeclarationFault)) → IsStartOrderOf u.declarations order → Answers view (lowered_after order u) r → IsLowering view steps u r
is_lowering view steps u order (Ok low) o h = record { order = order; is_order = o; comes = computed_same steps order u ∙ h }
is_lowering view steps u order (Err OutOfMemory) o h = tt
is_lowering view steps u order (Err (Error r)) o h = record { order = order; is_order = o; comes = computed_same steps order u ∙ h }
