-- Computations over memory, with a limit of steps: what the parts of a program do when it runs (WGSL, "Memory", "Execution"; the limit
-- is this project's own).
use Rattle.std.specs.Prelude.{ℕ, zero, suc, List, [], ◌∷◌, ◌++◌, length, take, Result, Ok, Err}
use Rattle.wgsl_shader_type.specs.declared.error.Error.{Error}
use Rattle.wgsl_memory.specs.Instance.{Instance}
use Rattle.wgsl_memory.specs.RefInstance.{RefInstance}
use Rattle.wgsl_memory.specs.Places as memory

-- the cells of memory, and how many steps are still allowed
pub record State : Type 0 where
  pub cells : List Instance
  pub left : ℕ

-- How a computation ends: with an answer and what it leaves, with a fault, or deeper inside than the bound of the definition allows.
-- F: the faults. That no step is left is one of them
pub data Outcome (F A : Type 0) : Type 0 where
  Done : A → State → Outcome F A
  Failed : F → Outcome F A
  Deep : Outcome F A

abbrev pub Computation : Type 0 → Type 0 → Type 0
Computation F A = State → Outcome F A

-- ---- answers and faults

abbrev pub pure : {F A : Type 0} → A → Computation F A
pure x s = Done x s

abbrev pub fail : {F A : Type 0} → F → Computation F A
fail f s = Failed f

abbrev pub deep : {F A : Type 0} → Computation F A
deep s = Deep

-- a result as the answer; its error becomes a fault
abbrev pub of_result : {F A : Type 0} → (Error → F) → Result A Error → Computation F A
of_result fault (Ok x) s = Done x s
of_result fault (Err e) s = Failed (fault e)

-- goes on with the answer
abbrev pub next_of : {F A B : Type 0} → Outcome F A → (A → Computation F B) → Outcome F B
next_of (Done x s) go = go x s
next_of (Failed f) go = Failed f
next_of Deep go = Deep

abbrev pub bind : {F A B : Type 0} → Computation F A → (A → Computation F B) → Computation F B
bind m go s = next_of (m s) go

-- ---- steps

abbrev pub with_left : State → ℕ → State
with_left s n = record { cells = s.cells; left = n }

abbrev pub one_step : {F : Type 0} → F → State → ℕ → Outcome F (Unit {0})
one_step limit s zero = Failed limit
one_step limit s (suc n) = Done tt (with_left s n)

-- a step; where none is left, this fault
abbrev pub tick : {F : Type 0} → F → Computation F (Unit {0})
tick limit s = one_step limit s s.left

-- ---- memory

abbrev pub with_cells : State → List Instance → State
with_cells s cells = record { cells = cells; left = s.left }

-- what is stored at a place
abbrev pub read : {F : Type 0} → (Error → F) → RefInstance → Computation F Instance
read fault r s = of_result fault (memory.read_value s.cells r) s

-- a value where it is used: of a reference, what is stored there
abbrev pub loaded : {F : Type 0} → (Error → F) → Instance → Computation F Instance
loaded fault x s = of_result fault (memory.loaded s.cells x) s

abbrev pub stored : {F : Type 0} → (Error → F) → State → Result (List Instance) Error → Outcome F (Unit {0})
stored fault s (Ok cells) = Done tt (with_cells s cells)
stored fault s (Err e) = Failed (fault e)

-- a value is stored at a place
abbrev pub write : {F : Type 0} → (Error → F) → RefInstance → Instance → Computation F (Unit {0})
write fault r x s = stored fault s (memory.written s.cells r x)

-- a new cell, by its number
abbrev pub fresh : {F : Type 0} → Instance → Computation F ℕ
fresh x s = Done (length s.cells) (with_cells s (s.cells ++ x ∷ []))

abbrev pub back_to : {F A : Type 0} → ℕ → Outcome F A → Outcome F A
back_to n (Done x s) = Done x (with_cells s (take n s.cells))
back_to n (Failed f) = Failed f
back_to n Deep = Deep

-- what is new inside goes at the end (WGSL, "Declaration and Scope")
abbrev pub scoped : {F A : Type 0} → Computation F A → Computation F A
scoped m s = back_to (length s.cells) (m s)
