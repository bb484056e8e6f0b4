-- What a call on a whole unit gives.
use Rattle.std.specs.Prelude.{◌≡◌, ⊤, Result, Ok, Err}
use Rattle.wgsl_base.specs.declared.items.error.OrOutOfMemory.{OrOutOfMemory}
use Rattle.wgsl_base.specs.declared.items.error.OrOutOfMemory.TheVariants.{Error, OutOfMemory}
use Rattle.wgsl_base.specs.Memory.{UnlessOutOfMemory}
use Rattle.core_meaning.specs.declared.fault.Fault.{Fault}
use Rattle.core_meaning.specs.Names.{Name}
use Rattle.core_eval.specs.declared.error.DeclarationFault.{DeclarationFault}

-- the refusal of a declaration for a fault, unless memory was refused
abbrev pub IsRefusal : Name → OrOutOfMemory Fault → OrOutOfMemory DeclarationFault → Type 0
IsRefusal x error OutOfMemory = ⊤
IsRefusal x OutOfMemory (Error r) = ⊥
IsRefusal x (Error f) (Error r) = r ≡ record { declaration = x; fault = f }

-- what is there or the refusal, as contracts see it, unless memory was refused
abbrev pub Answers : {A B : Type 0} → (A → B) → Result B DeclarationFault → Result A (OrOutOfMemory DeclarationFault) → Type 0
Answers view o (Ok x) = o ≡ Ok (view x)
Answers view o (Err e) = UnlessOutOfMemory (λ r. o ≡ Err r) e
