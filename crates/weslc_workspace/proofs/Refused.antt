-- Answers that do not say that memory was refused.
use Rattle.std.proofs.Common.{◌≡◌, refl, Bool, true, false}
use Rattle.std.specs.Prelude.{if◌then◌else◌}
use Rattle.weslc_calls.specs.CompileError.{CompileError}
use Rattle.weslc_calls.specs.CompileError.TheVariants.{OutOfMemory}
use Rattle.weslc_workspace.specs.Refusals.{is_memory}

-- any other refusal
pub not_memory : (e : CompileError) → (e ≡ OutOfMemory → ⊥) → false ≡ is_memory e
not_memory OutOfMemory other = absurd (other refl)
not_memory _ other = refl

-- what was stale stays so where memory was refused
pub stale_after : (was refused is : Bool) → was ≡ true → is ≡ (if refused then was else false) → is ≡ (if was then refused else false)
stale_after true true is stale same = same
stale_after true false is stale same = same
stale_after false refused is stale same = let wrong : false ≡ true = stale in absurd (cc)
