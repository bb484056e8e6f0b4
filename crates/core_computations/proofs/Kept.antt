-- Going on keeps each of these relations.
use Rattle.std.proofs.Common.{◌≡◌, ℕ, zero, suc, ◌+◌, ◌≤◌, List, [], ◌∷◌, ◌++◌, length, take, Result, Ok, Err, refl, sym, ap, subst, arith}
use Rattle.wgsl_shader_type.specs.declared.error.Error.{Error}
use Rattle.wgsl_memory.specs.Instance.{Instance}
use Rattle.wgsl_memory.specs.Places as memory
use Rattle.core_computations.specs.Machine.{State, Outcome, Done, Failed, Deep, Computation, of_result, next_of, one_step, with_left, with_cells, stored, back_to}
use Rattle.core_computations.specs.Lift.{Same, KeptThroughout}
use Rattle.core_computations.specs.Compare.{Begin, LikewiseAt, IsLikewise, Better, Carries, ExtendsAt, IsExtended, Extends}

-- ---- what ends well ends well likewise, for each way to compare steps with these laws

module _ (Steps : ℕ → ℕ → Type 0) (equal : (a b : ℕ) → a ≡ b → Steps a b) (at_most : (a b : ℕ) → Steps a b → a ≤ b)
    (chain : (s t s1 t1 s2 t2 : ℕ) → Steps (s1 + t) (t1 + s) → Steps (s2 + t1) (t2 + s1) → Steps (s2 + t) (t2 + s)) (F : Type 0) where
  further : (A B : Type 0) (S : A → B → Type 0) (s t s1 t1 : State) (o : Outcome F A) (p : Outcome F B) → Steps (s1.left + t.left) (t1.left + s.left)
      → LikewiseAt Steps F A B S s1 t1 o p → LikewiseAt Steps F A B S s t o p
  further A B S s t s1 t1 (Done x r) p first b = record {
    answer = b.answer;
    state = b.state;
    ends = b.ends;
    alike = b.alike;
    cells = b.cells;
    steps = chain s.left t.left s1.left t1.left r.left b.state.left first b.steps;
  }
  further A B S s t s1 t1 (Failed f) p first b = tt
  further A B S s t s1 t1 Deep p first b = tt

  bind_at : (A B C D : Type 0) (S : A → B → Type 0) (T : C → D → Type 0) (s t : State) (o : Outcome F A) (p : Outcome F B) (f : A → Computation F C) (g : B → Computation F D)
      → Begin s t → LikewiseAt Steps F A B S s t o p → ((x : A) (y : B) → S x y → IsLikewise Steps F C D T (f x) (g y))
      → LikewiseAt Steps F C D T s t (next_of o f) (next_of p g)
  bind_at A B C D S T s t (Done x s1) p f g begin b h =
      let t1 = b.state in
      let most : s1.left + t.left ≤ t1.left + s.left = at_most (s1.left + t.left) (t1.left + s.left) b.steps in
      let on = (h x b.answer b.alike).from s1 t1 (record { cells = b.cells; left = omega (arith, begin.left, most) }) in
      subst (λ q. LikewiseAt Steps F C D T s t (f x s1) (next_of q g)) (sym b.ends) (further C D T s t s1 t1 (f x s1) (g b.answer t1) b.steps on)
  bind_at A B C D S T s t (Failed e) p f g begin b h = tt
  bind_at A B C D S T s t Deep p f g begin b h = tt

  tick_at : (f g : F) (a b : ℕ) (s t : State) → s.left ≡ a → t.left ≡ b → Begin s t → LikewiseAt Steps F (Unit {0}) (Unit {0}) Same s t (one_step f s a) (one_step g t b)
  tick_at f g zero b s t is it begin = tt
  tick_at f g (suc a) zero s t is it begin = let l : s.left ≤ t.left = begin.left in absurd (omega (arith, l, is, it))
  tick_at f g (suc a) (suc b) s t is it begin = record {
    answer = tt;
    state = with_left t b;
    ends = refl;
    alike = refl;
    cells = begin.cells;
    steps = equal (a + t.left) (b + s.left) (omega (arith, is, it));
  }

  -- nothing of the state changes
  unchanged : (A : Type 0) (f g : Error → F) (s t : State) (r : Result A Error) → Begin s t → LikewiseAt Steps F A A Same s t (of_result f r s) (of_result g r t)
  unchanged A f g s t (Ok x) begin = record {
    answer = x;
    state = t;
    ends = refl;
    alike = refl;
    cells = begin.cells;
    steps = equal (s.left + t.left) (t.left + s.left) (omega arith);
  }
  unchanged A f g s t (Err e) begin = tt

  -- the cells change alike
  stored_at : (f g : Error → F) (s t : State) (r : Result (List Instance) Error) → LikewiseAt Steps F (Unit {0}) (Unit {0}) Same s t (stored f s r) (stored g t r)
  stored_at f g s t (Ok cells) = record {
    answer = tt;
    state = with_cells t cells;
    ends = refl;
    alike = refl;
    cells = refl;
    steps = equal (s.left + t.left) (t.left + s.left) (omega arith);
  }
  stored_at f g s t (Err e) = tt

  back_at : (A B : Type 0) (S : A → B → Type 0) (s t : State) (o : Outcome F A) (p : Outcome F B) (n : ℕ) → LikewiseAt Steps F A B S s t o p → LikewiseAt Steps F A B S s t (back_to n o) (back_to n p)
  back_at A B S s t (Done x r) p n b = record {
    answer = b.answer;
    state = with_cells b.state (take n b.state.cells);
    ends = ap (back_to n) b.ends;
    alike = b.alike;
    cells = ap (take n) b.cells;
    steps = b.steps;
  }
  back_at A B S s t (Failed f) p n b = tt
  back_at A B S s t Deep p n b = tt

  -- whichever faults count as one
  kept_likewise : (SameFault : F → F → Type 0) → KeptThroughout F SameFault (λ A B S m n. IsLikewise Steps F A B S m n)
  kept_likewise SameFault = record {
    kept = record {
      pure_of = λ A B S x y h. record {
        from = λ s t begin. record {
          answer = y;
          state = t;
          ends = refl;
          alike = h;
          cells = begin.cells;
          steps = equal (s.left + t.left) (t.left + s.left) (omega arith);
        };
      };
      fail_of = λ A B S f g h. record { from = λ s t begin. tt };
      going_on = λ A B C D S T m n f g b h. record { from = λ s t begin. bind_at A B C D S T s t (m s) (n t) f g begin (b.from s t begin) h };
      tick_of = λ f g h. record { from = λ s t begin. tick_at f g s.left t.left s t refl refl begin };
      read_of = λ f g r h. record {
        from = λ s t begin.
            subst (λ cells. LikewiseAt Steps F Instance Instance Same s t (of_result f (memory.read_value s.cells r) s) (of_result g (memory.read_value cells r) t)) begin.cells
            (unchanged Instance f g s t (memory.read_value s.cells r) begin);
      };
      loaded_of = λ f g x h. record {
        from = λ s t begin.
            subst (λ cells. LikewiseAt Steps F Instance Instance Same s t (of_result f (memory.loaded s.cells x) s) (of_result g (memory.loaded cells x) t)) begin.cells
            (unchanged Instance f g s t (memory.loaded s.cells x) begin);
      };
      scoped_of = λ A B S m n b. record {
        from = λ s t begin.
            subst (λ cells. LikewiseAt Steps F A B S s t (back_to (length s.cells) (m s)) (back_to (length cells) (n t))) begin.cells
            (back_at A B S s t (m s) (n t) (length s.cells) (b.from s t begin));
      };
    };
    deep_of = λ A B S. record { from = λ s t begin. tt };
    write_of = λ f g r x h. record {
      from = λ s t begin.
          subst (λ cells. LikewiseAt Steps F (Unit {0}) (Unit {0}) Same s t (stored f s (memory.written s.cells r x)) (stored g t (memory.written cells r x))) begin.cells
          (stored_at f g s t (memory.written s.cells r x));
    };
    fresh_of = λ x. record {
      from = λ s t begin. record {
        answer = length t.cells;
        state = with_cells t (t.cells ++ x ∷ []);
        ends = refl;
        alike = ap length begin.cells;
        cells = ap (λ cells. cells ++ x ∷ []) begin.cells;
        steps = equal (s.left + t.left) (t.left + s.left) (omega arith);
      };
    };
  }

-- no more steps
pub kept_better : (F : Type 0) (SameFault : F → F → Type 0) → KeptThroughout F SameFault (Better F)
kept_better F = kept_likewise (λ a b. a ≤ b) (λ a b is. omega (arith, is)) (λ a b l. l) (λ s t s1 t1 s2 t2 f g. omega (arith, f, g)) F

-- as many steps
pub kept_carries : (F : Type 0) (SameFault : F → F → Type 0) → KeptThroughout F SameFault (Carries F)
kept_carries F = kept_likewise (λ a b. a ≡ b) (λ a b is. is) (λ a b is. omega (arith, is)) (λ s t s1 t1 s2 t2 f g. omega (arith, f, g)) F

-- ---- what is over is over likewise

module _ (F : Type 0) (SameFault : F → F → Type 0) where
  over_bind : (A B C D : Type 0) (S : A → B → Type 0) (T : C → D → Type 0) (o : Outcome F A) (p : Outcome F B) (f : A → Computation F C) (g : B → Computation F D)
      → ExtendsAt F SameFault A B S o p → ((x : A) (y : B) → S x y → IsExtended F SameFault C D T (f x) (g y)) → ExtendsAt F SameFault C D T (next_of o f) (next_of p g)
  over_bind A B C D S T (Done x s1) p f g b h =
      subst (λ q. ExtendsAt F SameFault C D T (f x s1) (next_of q g)) (sym b.ends) ((h x b.answer b.alike).from s1 b.state b.cells b.steps)
  over_bind A B C D S T (Failed e) p f g b h = record { fault = b.fault; fails = ap (λ q. next_of q g) b.fails; alike = b.alike }
  over_bind A B C D S T Deep p f g b h = tt

  over_tick : (f g : F) (n : ℕ) (s t : State) → SameFault f g → s.cells ≡ t.cells → ExtendsAt F SameFault (Unit {0}) (Unit {0}) Same (one_step f s n) (one_step g t n)
  over_tick f g zero s t h cells = record { fault = g; fails = refl; alike = h }
  over_tick f g (suc n) s t h cells = record { answer = tt; state = with_left t n; ends = refl; alike = refl; cells = cells; steps = refl }

  over_result : (A : Type 0) (f g : Error → F) (s t : State) (r : Result A Error) → ((e : Error) → SameFault (f e) (g e)) → s.cells ≡ t.cells → s.left ≡ t.left
      → ExtendsAt F SameFault A A Same (of_result f r s) (of_result g r t)
  over_result A f g s t (Ok x) h cells left = record { answer = x; state = t; ends = refl; alike = refl; cells = cells; steps = left }
  over_result A f g s t (Err e) h cells left = record { fault = g e; fails = refl; alike = h e }

  over_stored : (f g : Error → F) (s t : State) (r : Result (List Instance) Error) → ((e : Error) → SameFault (f e) (g e)) → s.left ≡ t.left
      → ExtendsAt F SameFault (Unit {0}) (Unit {0}) Same (stored f s r) (stored g t r)
  over_stored f g s t (Ok cells) h left = record { answer = tt; state = with_cells t cells; ends = refl; alike = refl; cells = refl; steps = left }
  over_stored f g s t (Err e) h left = record { fault = g e; fails = refl; alike = h e }

  over_back : (A B : Type 0) (S : A → B → Type 0) (o : Outcome F A) (p : Outcome F B) (n : ℕ) → ExtendsAt F SameFault A B S o p → ExtendsAt F SameFault A B S (back_to n o) (back_to n p)
  over_back A B S (Done x r) p n b = record {
    answer = b.answer;
    state = with_cells b.state (take n b.state.cells);
    ends = ap (back_to n) b.ends;
    alike = b.alike;
    cells = ap (take n) b.cells;
    steps = b.steps;
  }
  over_back A B S (Failed f) p n b = record { fault = b.fault; fails = ap (back_to n) b.fails; alike = b.alike }
  over_back A B S Deep p n b = tt

  pub kept_extends : KeptThroughout F SameFault (Extends F SameFault)
  kept_extends = record {
    kept = record {
      pure_of = λ A B S x y h. record { from = λ s t cells left. record { answer = y; state = t; ends = refl; alike = h; cells = cells; steps = left } };
      fail_of = λ A B S f g h. record { from = λ s t cells left. record { fault = g; fails = refl; alike = h } };
      going_on = λ A B C D S T m n f g b h. record { from = λ s t cells left. over_bind A B C D S T (m s) (n t) f g (b.from s t cells left) h };
      tick_of = λ f g h. record {
        from = λ s t cells left.
            subst (λ n. ExtendsAt F SameFault (Unit {0}) (Unit {0}) Same (one_step f s s.left) (one_step g t n)) left (over_tick f g s.left s t h cells);
      };
      read_of = λ f g r h. record {
        from = λ s t cells left.
            subst (λ l. ExtendsAt F SameFault Instance Instance Same (of_result f (memory.read_value s.cells r) s) (of_result g (memory.read_value l r) t)) cells
            (over_result Instance f g s t (memory.read_value s.cells r) h cells left);
      };
      loaded_of = λ f g x h. record {
        from = λ s t cells left.
            subst (λ l. ExtendsAt F SameFault Instance Instance Same (of_result f (memory.loaded s.cells x) s) (of_result g (memory.loaded l x) t)) cells
            (over_result Instance f g s t (memory.loaded s.cells x) h cells left);
      };
      scoped_of = λ A B S m n b. record {
        from = λ s t cells left.
            subst (λ l. ExtendsAt F SameFault A B S (back_to (length s.cells) (m s)) (back_to (length l) (n t))) cells
            (over_back A B S (m s) (n t) (length s.cells) (b.from s t cells left));
      };
    };
    deep_of = λ A B S. record { from = λ s t cells left. tt };
    write_of = λ f g r x h. record {
      from = λ s t cells left.
          subst (λ l. ExtendsAt F SameFault (Unit {0}) (Unit {0}) Same (stored f s (memory.written s.cells r x)) (stored g t (memory.written l r x))) cells
          (over_stored f g s t (memory.written s.cells r x) h left);
    };
    fresh_of = λ x. record {
      from = λ s t cells left. record {
        answer = length t.cells;
        state = with_cells t (t.cells ++ x ∷ []);
        ends = refl;
        alike = ap length cells;
        cells = ap (λ l. l ++ x ∷ []) cells;
        steps = left;
      };
    };
  }
