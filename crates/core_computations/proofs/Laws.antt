-- Computations in a row, and how far a limit reaches.
use Rattle.std.proofs.Common.{◌≡◌, ℕ, [], refl}
use Rattle.core_computations.specs.Machine.{State, Outcome, Done, Failed, Deep, Computation, pure, fail, next_of, bind, tick}

next_pure : {F A : Type 0} (o : Outcome F A) → next_of o pure ≡ o
next_pure (Done x s) = refl
next_pure (Failed f) = refl
next_pure Deep = refl

next_next : {F A B C : Type 0} (o : Outcome F A) (f : A → Computation F B) (g : B → Computation F C) → next_of (next_of o f) g ≡ next_of o (λ x. bind (f x) g)
next_next (Done x s) f g = refl
next_next (Failed e) f g = refl
next_next Deep f g = refl

pub bind_pure : {F A : Type 0} (m : Computation F A) → bind m pure ≡ m
bind_pure m = λ i s. next_pure (m s) i

pub pure_bind : {F A B : Type 0} (x : A) (f : A → Computation F B) → bind (pure x) f ≡ f x
pure_bind x f = refl

pub bind_bind : {F A B C : Type 0} (m : Computation F A) (f : A → Computation F B) (g : B → Computation F C) → bind (bind m f) g ≡ bind m (λ x. bind (f x) g)
bind_bind m f g = λ i s. next_next (m s) f g i

-- ---- the fault that comes first

data Fault : Type 0 where
  StepLimit : Fault
  DivByZero : Fault

-- two steps, then a fault of its own
abbrev two_steps : Computation Fault (Unit {0})
two_steps = bind (tick StepLimit) (λ _. bind (tick StepLimit) (λ _. fail DivByZero))

abbrev allowed : ℕ → State
allowed n = record { cells = []; left = n }

-- with one step allowed the limit is passed, with two it is not
passes_the_limit : two_steps (allowed 1) ≡ Failed StepLimit
passes_the_limit = refl

keeps_the_limit : two_steps (allowed 2) ≡ Failed DivByZero
keeps_the_limit = refl
