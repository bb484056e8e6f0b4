-- Statements that go on, stop or return, and loops of them (WGSL, "Control Flow").
use Rattle.std.specs.Prelude.{ℕ, zero, suc, ◌≤◌, Option}
use Rattle.wgsl_memory.specs.Instance.{Instance}
use Rattle.core_computations.specs.Machine.{State, Outcome, Done, Failed, Deep, Computation, pure, deep, bind, tick}

-- how a statement ends: the next one follows, the loop is left, its next turn follows, the function returns
pub data Flow : Type 0 where
  Next : Flow
  Broke : Flow
  Goes : Flow
  Returned : Option Instance → Flow

-- after one turn of a loop
abbrev pub turned : {F : Type 0} → Computation F Flow → Flow → Computation F Flow
turned again Next = again
turned again Goes = again
turned again Broke = pure Next
turned again (Returned v) = pure (Returned v)

-- turns of a loop, each a step; at most so many by the bound of the definition
abbrev pub repeat : {F : Type 0} → ℕ → F → Computation F Flow → Computation F Flow
repeat zero limit body = deep
repeat (suc k) limit body = bind (tick limit) (λ _. bind body (turned (repeat k limit body)))

-- flows that are alike, by a relation of what is returned
pub data AlikeFlow (V : Option Instance → Option Instance → Type 0) : Flow → Flow → Type 0 where
  both_next : AlikeFlow V Next Next
  both_broke : AlikeFlow V Broke Broke
  both_goes : AlikeFlow V Goes Goes
  both_returned : {a b : Option Instance} → V a b → AlikeFlow V (Returned a) (Returned b)

-- ---- the bound

-- it is over by this bound, and has no more steps left than it had
abbrev pub IsOverAt : {F A : Type 0} → ℕ → Outcome F A → Type 0
IsOverAt left (Done x s) = s.left ≤ left
IsOverAt left (Failed f) = Unit {0}
IsOverAt left Deep = ⊥

pub record IsOver (F A : Type 0) (m : Computation F A) : Type 0 where
  pub from : (s : State) → IsOverAt s.left (m s)
