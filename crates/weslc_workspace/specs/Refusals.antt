-- Answers that say that memory was refused.
use Rattle.std.specs.Prelude.{Bool, true, false, Result, Ok, Err}
use Rattle.weslc_calls.specs.CompileError.{CompileError}
use Rattle.weslc_calls.specs.CompileError.TheVariants.{OutOfMemory}
use Rattle.weslc_compile.specs.declared.refusal.CompileRefusal.{CompileRefusal}
use Rattle.weslc_compile.specs.declared.refusal.CompileRefusal.TheVariants.{Compile, Eval}

-- the refusal says so
abbrev pub is_memory : CompileError → Bool
is_memory OutOfMemory = true
is_memory _ = false

-- the answer of `link` says so
abbrev pub is_link_refused : {A : Type 0} → Result A CompileError → Bool
is_link_refused (Ok answer) = false
is_link_refused (Err e) = is_memory e

-- that of `compile`
abbrev pub is_out_of_memory : {A : Type 0} → Result A CompileRefusal → Bool
is_out_of_memory (Ok answer) = false
is_out_of_memory (Err (Eval c fault)) = false
is_out_of_memory (Err (Compile e)) = is_memory e
