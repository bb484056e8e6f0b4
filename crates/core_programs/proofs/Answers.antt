-- A run with more steps ends in the same answer, and a run has one answer.
use Rattle.std.proofs.Common.{◌≡◌, ℕ, zero, suc, ◌+◌, ◌≤◌, List, Option, refl, sym, ◌∙◌, ap, subst, arith}
use Rattle.wgsl_instance.specs.declared.tree.Instance.{Instance}
use Rattle.core_computations.specs.Machine.{State, Outcome, Done}
use Rattle.core_computations.specs.Lift.{Lift, Same, Kept}
use Rattle.core_computations.specs.Compare.{EndsLikewise, LikewiseAt, ExtendsAt, Carries}
use Rattle.core_computations.proofs.Kept.{kept_carries}
use Rattle.core_programs.specs.Faults.{Fault}
use Rattle.core_programs.specs.Names.{Symbol}
use Rattle.core_programs.specs.Programs.{Program, Known, calls_inside, Reaches, values_among}
use Rattle.core_programs.specs.Runs.{Handed, run, allowed, EndsWell}
use Rattle.core_programs.proofs.Longer.{CallsMeet, called_alike, run_alike, run_longer}
use Rattle.core_order.proofs.Once.{orders_are_one}

-- ---- more steps

abbrev CarriesSame : Lift Fault
CarriesSame A B S m n = Carries Fault A B S m n

kept_same : Kept Fault Same CarriesSame
kept_same = (kept_carries Fault Same).kept

calls_carry : (p : Program) (known : Known) (k : ℕ) → CallsMeet CarriesSame kept_same p known (calls_inside p known k) (calls_inside p known k)
calls_carry p known zero s f xs = (kept_carries Fault Same).deep_of (Option Instance) (Option Instance) Same
calls_carry p known (suc k) s f xs =
    called_alike CarriesSame kept_same p known f.home (calls_inside p known k) (calls_inside p known k) (calls_carry p known k) s (p.printed f) (p.item f) xs

run_carries : (p : Program) (k : ℕ) (order : List Symbol) (s : Symbol) (handed : Handed) → CarriesSame (Option Instance) (Option Instance) Same (run p k order s handed) (run p k order s handed)
run_carries p k order s handed = run_alike CarriesSame kept_same p k k (λ known. calls_carry p known k) order s handed

pub more_steps : (p : Program) (s : Symbol) (handed : Handed) (n m : ℕ) (answer : Option Instance) → n ≤ m → EndsWell p s handed n answer → EndsWell p s handed m answer
more_steps p s handed n m answer l e =
    at (subst (λ o. LikewiseAt (λ a b. a ≡ b) Fault (Option Instance) (Option Instance) Same (allowed n) (allowed m) o (run p e.bound e.order s handed (allowed m))) e.ends
    ((run_carries p e.bound e.order s handed).from (allowed n) (allowed m) (record { cells = refl; left = l })))
  where
    at : EndsLikewise Fault (Option Instance) (Option Instance) Same (λ left. e.last.left + m ≡ left + n) answer e.last (run p e.bound e.order s handed (allowed m)) → EndsWell p s handed m answer
    at h = record { order = e.order; is_order = e.is_order; bound = e.bound; last = h.state; ends = subst (λ a. run p e.bound e.order s handed (allowed m) ≡ Done a h.state) (sym h.alike) h.ends }

-- ---- one answer

-- what a run answers at a larger bound
answered : (p : Program) (j k : ℕ) (order : List Symbol) (s : Symbol) (handed : Handed) (from last : State) (answer : Option Instance)
    → run p k order s handed from ≡ Done answer last → EndsLikewise Fault (Option Instance) (Option Instance) Same (λ left. last.left ≡ left) answer last (run p (j + k) order s handed from)
answered p j k order s handed from last answer e =
    subst (λ o. ExtendsAt Fault Same (Option Instance) (Option Instance) Same o (run p (j + k) order s handed from)) e ((run_longer p j k order s handed).from from from refl refl)

same_answer : (x y : Option Instance) (r q : State) (o : Outcome Fault (Option Instance)) → o ≡ Done x r → o ≡ Done y q → x ≡ y
same_answer x y r q o e f = cc

-- within as many steps
one_answer : (p : Program) (s : Symbol) (handed : Handed) (n : ℕ) (a b : Option Instance) → EndsWell p s handed n a → EndsWell p s handed n b → a ≡ b
one_answer p s handed n a b e f =
    let x = answered p f.bound e.bound e.order s handed (allowed n) e.last a e.ends in
    let same : f.order ≡ e.order = orders_are_one (Reaches p) (values_among p p.held) f.order e.order f.is_order e.is_order in
    let y = answered p e.bound f.bound e.order s handed (allowed n) f.last b (subst (λ o. run p f.bound o s handed (allowed n) ≡ Done b f.last) same f.ends) in
    let bounds : f.bound + e.bound ≡ e.bound + f.bound = omega arith in
    let there = ap (λ k. run p k e.order s handed (allowed n)) bounds ∙ y.ends in
    x.alike ∙ same_answer x.answer y.answer x.state y.state (run p (f.bound + e.bound) e.order s handed (allowed n)) x.ends there ∙ sym y.alike

pub runs_agree : (p : Program) (s : Symbol) (handed : Handed) (n m : ℕ) (a b : Option Instance) → EndsWell p s handed n a → EndsWell p s handed m b → a ≡ b
runs_agree p s handed n m a b e f =
    one_answer p s handed (n + m) a b (more_steps p s handed n (n + m) a (omega arith) e) (more_steps p s handed m (n + m) b (omega arith) f)
