-- Today's functions leave the cells of memory alone, and no computation gets steps back.
use Rattle.std.proofs.Common.{◌≡◌, ℕ, zero, suc, ◌≤◌, List, [], ◌∷◌, length, take, Option, Result, Ok, Err, refl, ap, ◌∙◌, subst, arith}
use Rattle.wgsl_words.specs.declared.enumerations.words.ShaderStage.{ShaderStage}
use Rattle.wgsl_shader_type.specs.declared.error.Error.{Error}
use Rattle.wgsl_instance.specs.declared.tree.Instance.{Instance}
use Rattle.core_computations.specs.Places as memory
use Rattle.core_computations.specs.Machine.{State, Outcome, Done, Failed, Deep, next_of, one_step, back_to, of_result}
use Rattle.core_computations.specs.Lift.{Same, Kept}
use Rattle.core_computations.specs.Compare.{ExtendsAt, Extends}
use Rattle.core_computations.proofs.Kept.{kept_extends}
use Rattle.core_programs.specs.Faults.{Fault}
use Rattle.core_programs.specs.Computing.{M}
use Rattle.core_programs.specs.Names.{Symbol}
use Rattle.core_programs.specs.Programs.{Program, Known, calls_inside}
use Rattle.core_programs.specs.Runs.{started}
use Rattle.core_programs.proofs.Longer.{CallsMeet, called_alike, started_alike}

-- where it ends with an answer, the cells are those at the beginning, and no more steps are left
pub record IsLeft (from s : State) : Type 0 where
  pub cells : s.cells ≡ from.cells
  pub steps : s.left ≤ from.left

abbrev pub Leaves : {A : Type 0} → State → Outcome Fault A → Type 0
Leaves from (Done x s) = IsLeft from s
Leaves from (Failed f) = Unit {0}
Leaves from Deep = Unit {0}

-- the same, and the cells stay
pub record LeavesCells (A B : Type 0) (S : A → B → Type 0) (m : M A) (n : M B) : Type 0 where
  pub alike : Extends Fault Same A B S m n
  pub leaves : (s : State) → Leaves s (m s)

ext : Kept Fault Same (λ A B S m n. Extends Fault Same A B S m n)
ext = (kept_extends Fault Same).kept

take_all : {A : Type 0} (xs : List A) → take (length xs) xs ≡ xs
take_all [] = refl
take_all (x ∷ xs) = ap (λ l. x ∷ l) (take_all xs)

onward : {A : Type 0} (from s : State) (o : Outcome Fault A) → IsLeft from s → Leaves s o → Leaves from o
onward from s (Done x r) h g = let first : s.left ≤ from.left = h.steps in let second : r.left ≤ s.left = g.steps in record { cells = g.cells ∙ h.cells; steps = omega (arith, first, second) }
onward from s (Failed f) h g = tt
onward from s Deep h g = tt

next_leaves : (A B C D : Type 0) (S : A → B → Type 0) (T : C → D → Type 0) (from : State) (o : Outcome Fault A) (q : Outcome Fault B) (f : A → M C) (g : B → M D)
    → ExtendsAt Fault Same A B S o q → Leaves from o → ((x : A) (y : B) → S x y → LeavesCells C D T (f x) (g y)) → Leaves from (next_of o f)
next_leaves A B C D S T from (Done x s) q f g e h go = onward from s (f x s) h ((go x e.answer e.alike).leaves s)
next_leaves A B C D S T from (Failed w) q f g e h go = tt
next_leaves A B C D S T from Deep q f g e h go = tt

unchanged : (s : State) → IsLeft s s
unchanged s = record { cells = refl; steps = omega arith }

step_leaves : (f : Fault) (s : State) (n : ℕ) → s.left ≡ n → Leaves s (one_step f s n)
step_leaves f s zero e = tt
step_leaves f s (suc n) e = record { cells = refl; steps = omega (arith, e) }

result_leaves : (A : Type 0) (f : Error → Fault) (r : Result A Error) (s : State) → Leaves s (of_result f r s)
result_leaves A f (Ok x) s = unchanged s
result_leaves A f (Err e) s = tt

back_leaves : (A : Type 0) (from : State) (o : Outcome Fault A) → Leaves from o → Leaves from (back_to (length from.cells) o)
back_leaves A from (Done x s) h = record { cells = ap (take (length from.cells)) h.cells ∙ take_all from.cells; steps = h.steps }
back_leaves A from (Failed f) h = tt
back_leaves A from Deep h = tt

kept_cells : Kept Fault Same (λ A B S m n. LeavesCells A B S m n)
kept_cells = record {
  pure_of = λ A B S x y h. record { alike = ext.pure_of A B S x y h; leaves = unchanged };
  fail_of = λ A B S f g h. record { alike = ext.fail_of A B S f g h; leaves = λ s. tt };
  going_on = λ A B C D S T m n f g b h. record {
    alike = ext.going_on A B C D S T m n f g b.alike (λ x y e. (h x y e).alike);
    leaves = λ s. next_leaves A B C D S T s (m s) (n s) f g (b.alike.from s s refl refl) (b.leaves s) h;
  };
  tick_of = λ f g h. record { alike = ext.tick_of f g h; leaves = λ s. step_leaves f s s.left refl };
  read_of = λ f g r h. record { alike = ext.read_of f g r h; leaves = λ s. result_leaves Instance f (memory.read_value s.cells r) s };
  loaded_of = λ f g x h. record { alike = ext.loaded_of f g x h; leaves = λ s. result_leaves Instance f (memory.loaded s.cells x) s };
  scoped_of = λ A B S m n b. record { alike = ext.scoped_of A B S m n b.alike; leaves = λ s. back_leaves A s (m s) (b.leaves s) };
}

calls_leave : (p : Program) (known : Known) (k : ℕ) → CallsMeet (λ A B S m n. LeavesCells A B S m n) kept_cells p known (calls_inside p known k) (calls_inside p known k)
calls_leave p known zero s f xs = record { alike = (kept_extends Fault Same).deep_of (Option Instance) (Option Instance) Same; leaves = λ a. tt }
calls_leave p known (suc k) s f xs =
    called_alike (λ A B S m n. LeavesCells A B S m n) kept_cells p known f.home (calls_inside p known k) (calls_inside p known k) (calls_leave p known k) s (p.printed f) (p.item f) xs

pub calls_leave_cells : (p : Program) (known : Known) (k : ℕ) (s : ShaderStage) (f : Symbol) (xs : List Instance) (from after : State) (answer : Option Instance)
    → calls_inside p known k s f xs from ≡ Done answer after → after.cells ≡ from.cells
calls_leave_cells p known k s f xs from after answer e = let left : IsLeft from after = subst (Leaves from) e ((calls_leave p known k s f xs).leaves from) in left.cells

-- the start leaves memory as it is, and takes no steps back
pub start_leaves : (p : Program) (k : ℕ) (known : Known) (order : List Symbol) (from : State) → Leaves from (started p k known order from)
start_leaves p k known order from =
    (started_alike (λ A B S m n. LeavesCells A B S m n) kept_cells p k k (λ known. calls_leave p known k) known order).leaves from
