-- What the start gives, where code holds values in a table.
use Rattle.std.specs.Prelude.{◌≡◌, ℕ, List, Result, Ok, Err}
use Rattle.std.specs.Borrow.{Bor}
use Rattle.std.specs.HashMap.{HashMap}
use Rattle.wgsl_base.specs.declared.items.error.OrOutOfMemory.{OrOutOfMemory}
use Rattle.wgsl_base.specs.Memory.{UnlessOutOfMemory}
use Rattle.wgsl_shader_type.specs.declared.literal.LiteralInstance.{LiteralInstance}
use Rattle.core_meaning.specs.ConstStage.{Consts}
use Rattle.core_eval.specs.declared.error.DeclarationFault.{DeclarationFault}
use Rattle.core_eval.specs.Scopes.{Holds}

-- these consts are there, and the table holds them
abbrev pub HoldsThese : {S : Type 0} → HashMap (Bor (List ℕ)) LiteralInstance S → Result Consts DeclarationFault → Type 0
HoldsThese table o = (cs : Consts) × (o ≡ Ok cs) × Holds table cs

-- the table holds what is there, or this is the refusal, unless memory was refused
abbrev pub Tells : {A S : Type 0} → HashMap (Bor (List ℕ)) LiteralInstance S → Result Consts DeclarationFault → Result A (OrOutOfMemory DeclarationFault) → Type 0
Tells table o (Ok x) = HoldsThese table o
Tells table o (Err e) = UnlessOutOfMemory (λ r. o ≡ Err r) e

-- the same of a table that is answered
abbrev pub Starts : {A S : Type 0} → (A → HashMap (Bor (List ℕ)) LiteralInstance S) → Result Consts DeclarationFault → Result A (OrOutOfMemory DeclarationFault) → Type 0
Starts view o (Ok x) = HoldsThese (view x) o
Starts view o (Err e) = UnlessOutOfMemory (λ r. o ≡ Err r) e
