-- How two computations compare that begin with the same cells, the second with at least as many steps left.
use Rattle.std.specs.Prelude.{◌≡◌, ℕ, ◌+◌, ◌≤◌}
use Rattle.core_computations.specs.Machine.{State, Outcome, Done, Failed, Deep, Computation}
use Rattle.core_computations.specs.Lift.{Lift}

-- an end at which the second has this answer, these cells, and steps left as P says
pub record EndsLikewise (F A B : Type 0) (S : A → B → Type 0) (P : ℕ → Type 0) (x : A) (s : State) (o : Outcome F B) : Type 0 where
  pub answer : B
  pub state : State
  pub ends : o ≡ Done answer state
  pub alike : S x answer
  pub cells : s.cells ≡ state.cells
  pub steps : P state.left

-- both begin so
pub record Begin (s t : State) : Type 0 where
  pub cells : s.cells ≡ t.cells
  pub left : s.left ≤ t.left

-- ---- what ends well ends well likewise

-- Steps: how what the first leaves and the second had compares with what the second leaves and the first had
abbrev pub LikewiseAt : (Steps : ℕ → ℕ → Type 0) (F A B : Type 0) → (A → B → Type 0) → State → State → Outcome F A → Outcome F B → Type 0
LikewiseAt Steps F A B S s t (Done x r) o = EndsLikewise F A B S (λ left. Steps (r.left + t.left) (left + s.left)) x r o
LikewiseAt Steps F A B S s t (Failed f) o = Unit {0}
LikewiseAt Steps F A B S s t Deep o = Unit {0}

pub record IsLikewise (Steps : ℕ → ℕ → Type 0) (F A B : Type 0) (S : A → B → Type 0) (m : Computation F A) (n : Computation F B) : Type 0 where
  pub from : (s t : State) → Begin s t → LikewiseAt Steps F A B S s t (m s) (n t)

-- in no more steps
abbrev pub Better : (F : Type 0) → Lift F
Better F A B S m n = IsLikewise (λ a b. a ≤ b) F A B S m n

-- in as many steps: with a larger limit, or at a later stage
abbrev pub Carries : (F : Type 0) → Lift F
Carries F A B S m n = IsLikewise (λ a b. a ≡ b) F A B S m n

-- ---- where both end well they agree

-- alike answers and the same cells, in as many steps: how many the first leaves and the second had, and the other way round
pub record BothEnd (A B : Type 0) (S : A → B → Type 0) (s t : State) (x : A) (r : State) (y : B) (q : State) : Type 0 where
  pub alike : S x y
  pub cells : r.cells ≡ q.cells
  pub steps : r.left + t.left ≡ q.left + s.left

abbrev pub AgreeAt : (F A B : Type 0) → (A → B → Type 0) → State → State → Outcome F A → Outcome F B → Type 0
AgreeAt F A B S s t (Done x r) (Done y q) = BothEnd A B S s t x r y q
AgreeAt F A B S s t (Done x r) (Failed f) = Unit {0}
AgreeAt F A B S s t (Done x r) Deep = Unit {0}
AgreeAt F A B S s t (Failed f) o = Unit {0}
AgreeAt F A B S s t Deep o = Unit {0}

-- both begin with the same cells
pub record IsAgreed (F A B : Type 0) (S : A → B → Type 0) (m : Computation F A) (n : Computation F B) : Type 0 where
  pub from : (s t : State) → s.cells ≡ t.cells → AgreeAt F A B S s t (m s) (n t)

abbrev pub Agrees : (F : Type 0) → Lift F
Agrees F A B S m n = IsAgreed F A B S m n

-- ---- what is over is over likewise: with a larger bound, or under other names

-- a fault that counts as this one
pub record FailsLikewise (F B : Type 0) (SameFault : F → F → Type 0) (f : F) (o : Outcome F B) : Type 0 where
  pub fault : F
  pub fails : o ≡ Failed fault
  pub alike : SameFault f fault

abbrev pub ExtendsAt : (F : Type 0) → (F → F → Type 0) → (A B : Type 0) → (A → B → Type 0) → Outcome F A → Outcome F B → Type 0
ExtendsAt F SameFault A B S (Done x r) o = EndsLikewise F A B S (λ left. r.left ≡ left) x r o
ExtendsAt F SameFault A B S (Failed f) o = FailsLikewise F B SameFault f o
ExtendsAt F SameFault A B S Deep o = Unit {0}

-- both begin with the same cells and as many steps left
pub record IsExtended (F : Type 0) (SameFault : F → F → Type 0) (A B : Type 0) (S : A → B → Type 0) (m : Computation F A) (n : Computation F B) : Type 0 where
  pub from : (s t : State) → s.cells ≡ t.cells → s.left ≡ t.left → ExtendsAt F SameFault A B S (m s) (n t)

abbrev pub Extends : (F : Type 0) → (F → F → Type 0) → Lift F
Extends F SameFault A B S m n = IsExtended F SameFault A B S m n
