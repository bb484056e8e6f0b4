-- A bound above the steps that are left is never passed.
use Rattle.std.proofs.Common.{◌≡◌, ℕ, zero, suc, ◌<◌, ◌≤◌, List, map, length, Option, Some, None, Bool, true, false, refl, arith}
use Rattle.std.specs.Prelude.{if◌then◌else◌, ◌==◌, Result, Ok, Err}
use Rattle.core_syntax.specs.Tree.{Decl, variable, function}
use Rattle.wgsl_shader_type.specs.declared.error.Error.{Error}
use Rattle.wgsl_instance.specs.declared.tree.Instance.{Instance}
use Rattle.core_computations.specs.Places as memory
use Rattle.core_computations.specs.Machine.{State, Outcome, Done, Failed, Deep, fail, bind, next_of, one_step, with_left, back_to, of_result}
use Rattle.core_computations.specs.Lift.{Lift, Same, Kept}
use Rattle.core_computations.specs.Compare.{ExtendsAt, Extends}
use Rattle.core_computations.specs.Loops.{IsOverAt}
use Rattle.core_computations.proofs.Kept.{kept_extends}
use Rattle.core_programs.specs.Faults.{Fault, StepLimit, OfName, ParamCount}
use Rattle.core_programs.specs.Computing.{M, step}
use Rattle.core_programs.specs.Names.{Name, Symbol}
use Rattle.core_programs.specs.Calls.{call_in}
use Rattle.core_programs.specs.Programs.{Program, Known, module_world, calls_inside}
use Rattle.core_programs.specs.Runs.{Handed, run}
use Rattle.core_programs.proofs.Bodies.{inner_meets}
use Rattle.core_programs.proofs.Itself.{itself, parameters_themselves, type_itself, statements_themselves}
use Rattle.core_programs.proofs.Longer.{ExtendsSame, CallsMeet, worlds_alike, called_alike, run_alike}

-- from fewer than k steps left it is over
abbrev IsOverBelow : (k : ℕ) (A : Type 0) → M A → Type 0
IsOverBelow k A m = (s : State) → s.left < k → IsOverAt s.left (m s)

-- the same, and over below k
pub record OverBelow (k : ℕ) (A B : Type 0) (S : A → B → Type 0) (m : M A) (n : M B) : Type 0 where
  pub alike : Extends Fault Same A B S m n
  pub over : (s : State) → s.left < k → IsOverAt s.left (m s)

wider : (A : Type 0) (left more : ℕ) (o : Outcome Fault A) → left ≤ more → IsOverAt left o → IsOverAt more o
wider A left more (Done x s) l h = omega (arith, l, h)
wider A left more (Failed e) l h = tt
wider A left more Deep l h = absurd h

of_result_over : (A : Type 0) (f : Error → Fault) (r : Result A Error) (s : State) → IsOverAt s.left (of_result f r s)
of_result_over A f (Ok x) s = let l : s.left ≤ s.left = omega arith in l
of_result_over A f (Err e) s = tt

step_over : (f : Fault) (s : State) (n : ℕ) → s.left ≡ n → IsOverAt s.left (one_step f s n)
step_over f s zero e = tt
step_over f s (suc n) e = let l : n ≤ s.left = omega (arith, e) in l

back_over : (A : Type 0) (n left : ℕ) (o : Outcome Fault A) → IsOverAt left o → IsOverAt left (back_to n o)
back_over A n left (Done x s) h = h
back_over A n left (Failed f) h = tt
back_over A n left Deep h = h

module _ (k : ℕ) where
  abbrev Below : Lift Fault
  Below A B S m n = OverBelow k A B S m n

  -- both begin in one state
  next_over : (A B C D : Type 0) (S : A → B → Type 0) (T : C → D → Type 0) (o : Outcome Fault A) (p : Outcome Fault B) (f : A → M C) (g : B → M D) (left : ℕ) → left < k
      → ExtendsAt Fault Same A B S o p → IsOverAt left o → ((x : A) (y : B) → S x y → Below C D T (f x) (g y)) → IsOverAt left (next_of o f)
  next_over A B C D S T (Done x s) p f g left l e h go = wider C s.left left (f x s) h ((go x e.answer e.alike).over s (omega (arith, l, h)))
  next_over A B C D S T (Failed q) p f g left l e h go = tt
  next_over A B C D S T Deep p f g left l e h go = absurd h

  ext : Kept Fault Same (λ A B S m n. Extends Fault Same A B S m n)
  ext = (kept_extends Fault Same).kept

  pub kept_below : Kept Fault Same (λ A B S m n. OverBelow k A B S m n)
  kept_below = record {
    pure_of = λ A B S x y h. record { alike = ext.pure_of A B S x y h; over = λ s l. at_most s };
    fail_of = λ A B S f g h. record { alike = ext.fail_of A B S f g h; over = λ s l. tt };
    going_on = λ A B C D S T m n f g b h. record {
      alike = ext.going_on A B C D S T m n f g b.alike (λ x y e. (h x y e).alike);
      over = λ s l. next_over A B C D S T (m s) (n s) f g s.left l (b.alike.from s s refl refl) (b.over s l) h;
    };
    tick_of = λ f g h. record { alike = ext.tick_of f g h; over = λ s l. step_over f s s.left refl };
    read_of = λ f g r h. record { alike = ext.read_of f g r h; over = λ s l. of_result_over Instance f (memory.read_value s.cells r) s };
    loaded_of = λ f g x h. record { alike = ext.loaded_of f g x h; over = λ s l. of_result_over Instance f (memory.loaded s.cells x) s };
    scoped_of = λ A B S m n b. record { alike = ext.scoped_of A B S m n b.alike; over = λ s l. back_over A (length s.cells) s.left (m s) (b.over s l) };
  }
    where
      at_most : (s : State) → s.left ≤ s.left
      at_most s = omega arith

-- a function at a bound above the steps that are left
counted_over : (n m k : ℕ) (f : Name) (inner : M (Option Instance)) → (n ≡ m → IsOverBelow k (Option Instance) inner)
    → IsOverBelow (suc k) (Option Instance) (if n == m then bind step (λ _. inner) else fail (OfName (ParamCount m n) f))
counted_over n m k f inner h = at (n == m) (λ is. h (equal is))
  where
    equal : (n == m) ≡ true → n ≡ m
    equal is = grind arith

    stepped : (s : State) (left : ℕ) → s.left ≡ left → s.left < suc k → IsOverBelow k (Option Instance) inner → IsOverAt s.left (next_of (one_step StepLimit s left) (λ _. inner))
    stepped s zero e l over = tt
    stepped s (suc left) e l over =
        wider (Option Instance) left s.left (inner (with_left s left)) (omega (arith, e)) (over (with_left s left) (omega (arith, e, l)))

    at : (c : Bool) → (c ≡ true → IsOverBelow k (Option Instance) inner) → IsOverBelow (suc k) (Option Instance) (if c then bind step (λ _. inner) else fail (OfName (ParamCount m n) f))
    at true g = λ s l. stepped s s.left refl l (g refl)
    at false g = λ s l. tt

module _ (p : Program) (known : Known) where
  same_calls : (k : ℕ) → CallsMeet ExtendsSame (ext k) p known (calls_inside p known k) (calls_inside p known k)
  same_calls zero s f xs = (kept_extends Fault Same).deep_of (Option Instance) (Option Instance) Same
  same_calls (suc k) s f xs = called_alike ExtendsSame (ext k) p known f.home (calls_inside p known k) (calls_inside p known k) (same_calls k) s (p.printed f) (p.item f) xs

  calls_below : (k : ℕ) → CallsMeet (λ A B S m n. OverBelow k A B S m n) (kept_below k) p known (calls_inside p known k) (calls_inside p known k)
  calls_below zero s f xs = record { alike = same_calls zero s f xs; over = λ a l. absurd (omega (arith, l)) }
  calls_below (suc k) s f xs = record { alike = same_calls (suc k) s f xs; over = at (calls_below k) (p.item f) }
    where
      at : CallsMeet (λ A B S m n. OverBelow k A B S m n) (kept_below k) p known (calls_inside p known k) (calls_inside p known k) → (d : Option Decl) → IsOverBelow (suc k) (Option Instance) (call_in (module_world p known f.home (calls_inside p known k)) s (p.printed f) d xs)
      at below (Some (function a g ps r t b)) = counted_over (length xs) (length ps) k (p.printed f) _ (λ count. (inner_meets (λ A B S m n. OverBelow k A B S m n) (kept_below k) itself s s _ _
          (worlds_alike (λ A B S m n. OverBelow k A B S m n) (kept_below k) p known f.home (calls_inside p known k) (calls_inside p known k) below s)
          (p.printed f) ps ps t t b.statements b.statements (parameters_themselves ps) (type_itself t) (statements_themselves (map (λ q. q.name) ps) t b.statements) xs count).over)
      at below (Some (variable a kind x t e)) = λ s l. tt
      at below None = λ s l. tt

pub run_over : (p : Program) (k : ℕ) (order : List Symbol) (s : Symbol) (handed : Handed) (from : State) → from.left < k → IsOverAt from.left (run p k order s handed from)
run_over p k order s handed from l = (run_alike (λ A B S m n. OverBelow k A B S m n) (kept_below k) p k k (λ known. calls_below p known k) order s handed).over from l
