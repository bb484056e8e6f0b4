-- Loops: relations that going on keeps are kept by turns, and a bound above the limit is never passed.
use Rattle.std.proofs.Common.{◌≡◌, ℕ, zero, suc, ◌<◌, ◌≤◌, Option, refl, arith}
use Rattle.wgsl_memory.specs.Instance.{Instance}
use Rattle.core_computations.specs.Machine.{State, Outcome, Done, Failed, Deep, Computation, next_of, bind, one_step, with_left, tick}
use Rattle.core_computations.specs.Lift.{Lift, Same, KeptThroughout}
use Rattle.core_computations.specs.Loops.{Flow, Next, Broke, Goes, Returned, turned, repeat, AlikeFlow, both_next, both_broke, both_goes, both_returned, IsOverAt, IsOver}

module _ (F : Type 0) (SameFault : F → F → Type 0) (R : Lift F) (throughout : KeptThroughout F SameFault R) (V : Option Instance → Option Instance → Type 0) where
  turned_alike : (m n : Computation F Flow) → R Flow Flow (AlikeFlow V) m n → (a b : Flow) → AlikeFlow V a b → R Flow Flow (AlikeFlow V) (turned m a) (turned n b)
  turned_alike m n again _ _ both_next = again
  turned_alike m n again _ _ both_goes = again
  turned_alike m n again _ _ both_broke = throughout.kept.pure_of Flow Flow (AlikeFlow V) Next Next both_next
  turned_alike m n again _ _ (both_returned {a = a} {b = b} v) = throughout.kept.pure_of Flow Flow (AlikeFlow V) (Returned a) (Returned b) (both_returned v)

  -- loops whose bodies are related are related
  pub repeat_alike : (f g : F) → SameFault f g → (m n : Computation F Flow) → R Flow Flow (AlikeFlow V) m n → (k : ℕ) → R Flow Flow (AlikeFlow V) (repeat k f m) (repeat k g n)
  repeat_alike f g same m n body zero = throughout.deep_of Flow Flow (AlikeFlow V)
  repeat_alike f g same m n body (suc k) =
      throughout.kept.going_on (Unit {0}) (Unit {0}) Flow Flow Same (AlikeFlow V) (tick f) (tick g) _ _ (throughout.kept.tick_of f g same) (λ x y e.
      throughout.kept.going_on Flow Flow Flow Flow (AlikeFlow V) (AlikeFlow V) m n (turned (repeat k f m)) (turned (repeat k g n)) body
      (turned_alike (repeat k f m) (repeat k g n) (repeat_alike f g same m n body k)))

-- ---- the bound

module _ (F : Type 0) where
  over_next : (A B : Type 0) (left : ℕ) (o : Outcome F A) (f : A → Computation F B) → IsOverAt left o → ((x : A) (s : State) → s.left ≤ left → IsOverAt left (f x s)) → IsOverAt left (next_of o f)
  over_next A B left (Done x s) f h go = go x s h
  over_next A B left (Failed e) f h go = tt
  over_next A B left Deep f h go = absurd h

  wider : (A : Type 0) (left more : ℕ) (o : Outcome F A) → left ≤ more → IsOverAt left o → IsOverAt more o
  wider A left more (Done x s) l h = omega (arith, l, h)
  wider A left more (Failed e) l h = tt
  wider A left more Deep l h = absurd h

  module _ (limit : F) (body : Computation F Flow) (over : IsOver F Flow body) where
    turned_over : (k left : ℕ) → ((s : State) → s.left ≤ left → IsOverAt s.left (repeat k limit body s)) → (a : Flow) (s : State) → s.left ≤ left → IsOverAt left (turned (repeat k limit body) a s)
    turned_over k left again Next s l = wider Flow s.left left (repeat k limit body s) l (again s l)
    turned_over k left again Goes s l = wider Flow s.left left (repeat k limit body s) l (again s l)
    turned_over k left again Broke s l = l
    turned_over k left again (Returned v) s l = l

    stepped : (k : ℕ) → ((t : State) → t.left < k → IsOverAt t.left (repeat k limit body t)) → (s : State) (n : ℕ) → s.left ≡ n → s.left < suc k
        → IsOverAt s.left (next_of (one_step limit s n) (λ _. bind body (turned (repeat k limit body))))
    stepped k inner s zero e l = tt
    stepped k inner s (suc n) e l =
        let after : State = with_left s n in
        wider Flow n s.left (bind body (turned (repeat k limit body)) after) (omega (arith, e))
        (over_next Flow Flow n (body after) (turned (repeat k limit body)) (over.from after)
        (turned_over k n (λ t m. inner t (omega (arith, e, l, m)))))

    -- a bound above the steps that are left is not passed
    pub repeat_over : (k : ℕ) (s : State) → s.left < k → IsOverAt s.left (repeat k limit body s)
    repeat_over zero s l = absurd (omega (arith, l))
    repeat_over (suc k) s l = stepped k (repeat_over k) s s.left refl l
