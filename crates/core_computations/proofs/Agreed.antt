-- Going on keeps it that two computations agree where both end well.
use Rattle.std.proofs.Common.{◌≡◌, ℕ, zero, suc, ◌+◌, ◌≤◌, List, ◌∷◌, [], ◌++◌, length, take, Result, Ok, Err, refl, sym, ap, ◌∙◌, subst, arith}
use Rattle.wgsl_shader_type.specs.declared.error.Error.{Error}
use Rattle.wgsl_memory.specs.Instance.{Instance}
use Rattle.wgsl_memory.specs.Places as memory
use Rattle.core_computations.specs.Machine.{State, Outcome, Done, Failed, Deep, Computation, of_result, next_of, one_step, stored, back_to, pure}
use Rattle.core_computations.specs.Lift.{Same, KeptThroughout}
use Rattle.core_computations.specs.Compare.{Begin, LikewiseAt, IsLikewise, AgreeAt, IsAgreed, Agrees}

module _ (F : Type 0) where
  -- a fault of the second
  pub second_failed : (A B : Type 0) (S : A → B → Type 0) (s t : State) (o : Outcome F A) (f : F) → AgreeAt F A B S s t o (Failed f)
  second_failed A B S s t (Done x r) f = tt
  second_failed A B S s t (Failed g) f = tt
  second_failed A B S s t Deep f = tt

  second_deep : (A B : Type 0) (S : A → B → Type 0) (s t : State) (o : Outcome F A) → AgreeAt F A B S s t o Deep
  second_deep A B S s t (Done x r) = tt
  second_deep A B S s t (Failed g) = tt
  second_deep A B S s t Deep = tt

  further : (A B : Type 0) (S : A → B → Type 0) (s t s1 t1 : State) (o : Outcome F A) (p : Outcome F B) → s1.left + t.left ≡ t1.left + s.left → AgreeAt F A B S s1 t1 o p → AgreeAt F A B S s t o p
  further A B S s t s1 t1 (Done x r) (Done y q) first b = let more : r.left + t1.left ≡ q.left + s1.left = b.steps in record { alike = b.alike; cells = b.cells; steps = omega (arith, first, more) }
  further A B S s t s1 t1 (Done x r) (Failed f) first b = tt
  further A B S s t s1 t1 (Done x r) Deep first b = tt
  further A B S s t s1 t1 (Failed f) p first b = tt
  further A B S s t s1 t1 Deep p first b = tt

  bind_at : (A B C D : Type 0) (S : A → B → Type 0) (T : C → D → Type 0) (s t : State) (o : Outcome F A) (p : Outcome F B) (f : A → Computation F C) (g : B → Computation F D)
      → AgreeAt F A B S s t o p → ((x : A) (y : B) → S x y → IsAgreed F C D T (f x) (g y)) → AgreeAt F C D T s t (next_of o f) (next_of p g)
  bind_at A B C D S T s t (Done x s1) (Done y t1) f g b h = further C D T s t s1 t1 (f x s1) (g y t1) b.steps ((h x y b.alike).from s1 t1 b.cells)
  bind_at A B C D S T s t (Done x s1) (Failed e) f g b h = second_failed C D T s t (f x s1) e
  bind_at A B C D S T s t (Done x s1) Deep f g b h = second_deep C D T s t (f x s1)
  bind_at A B C D S T s t (Failed e) p f g b h = tt
  bind_at A B C D S T s t Deep p f g b h = tt

  tick_at : (f g : F) (a b : ℕ) (s t : State) → s.left ≡ a → t.left ≡ b → s.cells ≡ t.cells → AgreeAt F (Unit {0}) (Unit {0}) Same s t (one_step f s a) (one_step g t b)
  tick_at f g zero b s t is it cells = tt
  tick_at f g (suc a) zero s t is it cells = tt
  tick_at f g (suc a) (suc b) s t is it cells = record { alike = refl; cells = cells; steps = omega (arith, is, it) }

  unchanged : (A : Type 0) (f g : Error → F) (s t : State) (r : Result A Error) → s.cells ≡ t.cells → AgreeAt F A A Same s t (of_result f r s) (of_result g r t)
  unchanged A f g s t (Ok x) cells = record { alike = refl; cells = cells; steps = omega arith }
  unchanged A f g s t (Err e) cells = tt

  stored_at : (f g : Error → F) (s t : State) (r : Result (List Instance) Error) → AgreeAt F (Unit {0}) (Unit {0}) Same s t (stored f s r) (stored g t r)
  stored_at f g s t (Ok cells) = record { alike = refl; cells = refl; steps = omega arith }
  stored_at f g s t (Err e) = tt

  back_at : (A B : Type 0) (S : A → B → Type 0) (s t : State) (o : Outcome F A) (p : Outcome F B) (n : ℕ) → AgreeAt F A B S s t o p → AgreeAt F A B S s t (back_to n o) (back_to n p)
  back_at A B S s t (Done x r) (Done y q) n b = record { alike = b.alike; cells = ap (take n) b.cells; steps = b.steps }
  back_at A B S s t (Done x r) (Failed f) n b = tt
  back_at A B S s t (Done x r) Deep n b = tt
  back_at A B S s t (Failed f) p n b = tt
  back_at A B S s t Deep p n b = tt

  pub kept_agrees : (SameFault : F → F → Type 0) → KeptThroughout F SameFault (Agrees F)
  kept_agrees SameFault = record {
    kept = record {
      pure_of = λ A B S x y h. record { from = λ s t cells. record { alike = h; cells = cells; steps = omega arith } };
      fail_of = λ A B S f g h. record { from = λ s t cells. tt };
      going_on = λ A B C D S T m n f g b h. record { from = λ s t cells. bind_at A B C D S T s t (m s) (n t) f g (b.from s t cells) h };
      tick_of = λ f g h. record { from = λ s t cells. tick_at f g s.left t.left s t refl refl cells };
      read_of = λ f g r h. record {
        from = λ s t cells.
            subst (λ l. AgreeAt F Instance Instance Same s t (of_result f (memory.read_value s.cells r) s) (of_result g (memory.read_value l r) t)) cells (unchanged Instance f g s t (memory.read_value s.cells r) cells);
      };
      loaded_of = λ f g x h. record {
        from = λ s t cells.
            subst (λ l. AgreeAt F Instance Instance Same s t (of_result f (memory.loaded s.cells x) s) (of_result g (memory.loaded l x) t)) cells (unchanged Instance f g s t (memory.loaded s.cells x) cells);
      };
      scoped_of = λ A B S m n b. record {
        from = λ s t cells.
            subst (λ l. AgreeAt F A B S s t (back_to (length s.cells) (m s)) (back_to (length l) (n t))) cells (back_at A B S s t (m s) (n t) (length s.cells) (b.from s t cells));
      };
    };
    deep_of = λ A B S. record { from = λ s t cells. tt };
    write_of = λ f g r x h. record {
      from = λ s t cells.
          subst (λ l. AgreeAt F (Unit {0}) (Unit {0}) Same s t (stored f s (memory.written s.cells r x)) (stored g t (memory.written l r x))) cells (stored_at f g s t (memory.written s.cells r x));
    };
    fresh_of = λ x. record { from = λ s t cells. record { alike = ap length cells; cells = ap (λ l. l ++ x ∷ []) cells; steps = omega arith } };
  }

  -- what agrees with an answer that is there at once, is better replaced by it
  at_once : (A : Type 0) (v : A) (s t : State) (o : Outcome F A) → Begin s t → AgreeAt F A A Same s s (Done v s) o → LikewiseAt (λ a b. a ≤ b) F A A Same s t o (Done v t)
  at_once A v s t (Done x r) begin b =
      let same : s.left + s.left ≡ r.left + s.left = b.steps in
      record { answer = v; state = t; ends = refl; alike = sym b.alike; cells = sym b.cells ∙ begin.cells; steps = omega (arith, same) }
  at_once A v s t (Failed f) begin b = tt
  at_once A v s t Deep begin b = tt

  pub better_by_answer : (A : Type 0) (v : A) (n : Computation F A) → Agrees F A A Same (pure v) n → IsLikewise (λ a b. a ≤ b) F A A Same n (pure v)
  better_by_answer A v n b = record { from = λ s t begin. at_once A v s t (n s) begin (b.from s s refl) }

  -- ---- better twice

  then_better : (A B C : Type 0) (S : A → B → Type 0) (T : B → C → Type 0) (U : A → C → Type 0) → ((x : A) (y : B) (z : C) → S x y → T y z → U x z)
      → (s t : State) (o : Outcome F A) (p : Outcome F B) (q : Outcome F C) → LikewiseAt (λ a b. a ≤ b) F A B S s s o p → LikewiseAt (λ a b. a ≤ b) F B C T s t p q → LikewiseAt (λ a b. a ≤ b) F A C U s t o q
  then_better A B C S T U chain s t (Done x r) p q b h =
      let c = subst (λ z. LikewiseAt (λ a b. a ≤ b) F B C T s t z q) b.ends h in
      let first : r.left + s.left ≤ b.state.left + s.left = b.steps in
      let second : b.state.left + t.left ≤ c.state.left + s.left = c.steps in
      record { answer = c.answer; state = c.state; ends = c.ends; alike = chain x b.answer c.answer b.alike c.alike; cells = b.cells ∙ c.cells; steps = omega (arith, first, second) }
  then_better A B C S T U chain s t (Failed f) p q b h = tt
  then_better A B C S T U chain s t Deep p q b h = tt

  pub better_trans : (A B C : Type 0) (S : A → B → Type 0) (T : B → C → Type 0) (U : A → C → Type 0) → ((x : A) (y : B) (z : C) → S x y → T y z → U x z)
      → (m : Computation F A) (n : Computation F B) (o : Computation F C) → IsLikewise (λ a b. a ≤ b) F A B S m n → IsLikewise (λ a b. a ≤ b) F B C T n o → IsLikewise (λ a b. a ≤ b) F A C U m o
  better_trans A B C S T U chain m n o b h = record { from = λ s t begin. then_better A B C S T U chain s t (m s) (n s) (o t) (b.from s s (record { cells = refl; left = same s.left })) (h.from s t begin) }
    where
      same : (n : ℕ) → n ≤ n
      same n = omega arith
