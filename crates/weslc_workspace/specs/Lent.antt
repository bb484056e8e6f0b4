-- Workspaces after an answer that was lent.
use mathlib.Core.Option.{none}
use Rattle.std.specs.Prelude.{◌≡◌, ⊤, false, Result, if◌then◌else◌}
use Rattle.std.specs.Borrow.{follows_so, Fml, MutBor}
use Rattle.weslc_compile.specs.declared.refusal.CompileRefusal.{CompileRefusal}
use Rattle.weslc_workspace.specs.Held.{Counts}
use Rattle.weslc_workspace.specs.Content.{IsSameContent, rises}
use Rattle.weslc_workspace.specs.Refusals.{is_out_of_memory}
use Rattle.weslc_workspace.specs.declared.content.Workspace.{Workspace}
use Rattle.weslc_workspace.specs.contracts.content.Workspace.{the_row}

-- this holds of the workspace once what was lent of it is given back
abbrev pub Rests : MutBor Workspace → (Workspace → Type 0) → Fml
Rests s P = follows_so the_row the_row s.ghost_name none (λ _ _. ⊤) P

-- It was compiled, where something was stale, and this was answered.
pub record IsCompiled {A : Type 0} (old : Workspace) (answer : Result A CompileRefusal) (new : Workspace) : Type 0 where
  pub content : IsSameContent old new
  pub runs : new.runs ≡ rises old answer
  pub stale : new.is_stale ≡ (if old.is_stale then is_out_of_memory answer else false)
  pub asked : old.is_stale ≡ false → new.asked ≡ old.asked
  pub parses : Counts old.modules new.modules

-- It was linked, which changes nothing but what is parsed.
pub record IsLinked (old new : Workspace) : Type 0 where
  pub content : IsSameContent old new
  pub runs : new.runs ≡ old.runs
  pub stale : new.is_stale ≡ old.is_stale
  pub asked : new.asked ≡ old.asked
  pub compiled : new.compiled ≡ old.compiled
  pub parses : Counts old.modules new.modules
