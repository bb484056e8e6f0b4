-- What a workspace holds, and when it compiles.
use Rattle.std.specs.Prelude.{◌≡◌, ℕ, ◌+◌, List, Bool, Result, min, if◌then◌else◌}
use Rattle.std.specs.HashSet.{contains_text}
use Rattle.weslc_compile.specs.declared.refusal.CompileRefusal.{CompileRefusal}
use Rattle.weslc_workspace.specs.Held.{text_at}
use Rattle.weslc_workspace.specs.Refusals.{is_out_of_memory}
use Rattle.weslc_workspace.specs.declared.content.Workspace.{Workspace}

-- Texts, root and options are as before.
pub record IsSameContent (old new : Workspace) : Type 0 where
  pub texts : (p : List ℕ) → text_at new.modules p ≡ text_at old.modules p
  pub root : new.root ≡ old.root
  pub options : new.options ≡ old.options

-- one more, up to the largest number
abbrev pub one_more : ℕ → ℕ
one_more n = min (n + 1) 18446744073709551615

-- the count of finished compilations after a call of `compile` that answers this
abbrev pub rises : {A : Type 0} → Workspace → Result A CompileRefusal → ℕ
rises old answer = if old.is_stale then (if is_out_of_memory answer then old.runs else one_more old.runs) else old.runs

-- the last finished compilation asked for the module at a printed path
abbrev pub asks : Workspace → List ℕ → Bool
asks w p = contains_text w.asked p
