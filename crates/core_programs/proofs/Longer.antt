-- A larger bound changes nothing of what is over, and a bound above the limit is never passed.
use Rattle.std.proofs.Common.{◌≡◌, ℕ, zero, suc, ◌+◌, List, [], ◌∷◌, ◌++◌, Option, Some, None, refl, ◌∙◌, subst, zero-add, suc-add}
use Rattle.core_syntax.specs.Tree.{Decl}
use Rattle.wgsl_words.specs.declared.enumerations.words.ShaderStage.{ShaderStage}
use Rattle.wgsl_words.specs.declared.enumerations.words.ShaderStage.TheVariants.{Const, Override, Exec}
use Rattle.wgsl_instance.specs.declared.tree.Instance.{Instance}
use Rattle.core_computations.specs.Machine.{State, Outcome, Done, Failed, Deep}
use Rattle.core_computations.specs.Lift.{Lift, Same, Kept}
use Rattle.core_computations.specs.Compare.{EndsLikewise, FailsLikewise, ExtendsAt, Extends}
use Rattle.core_computations.proofs.Kept.{kept_extends}
use Rattle.core_programs.specs.Faults.{Fault}
use Rattle.core_programs.specs.Computing.{M}
use Rattle.core_programs.specs.Names.{Path, Name, Symbol}
use Rattle.core_programs.specs.Calls.{const_in, call_in}
use Rattle.core_programs.specs.Programs.{Program, Known, Calls, at_exec, module_world, calls_inside, world}
use Rattle.core_programs.specs.Runs.{Handed, started, entered, run}
use Rattle.core_programs.proofs.Simulates as expressions
use Rattle.core_programs.proofs.Bodies.{Meet, TypesMeet, call_meets, const_meets, entered_meets}
use Rattle.core_programs.proofs.Itself.{itself, declaration_itself, worlds_meet, types_of_worlds_meet}

-- ---- over itself, where calls are related

module _ (R : Lift Fault) (kept : Kept Fault Same R) (p : Program) (known : Known) where
  abbrev pub CallsMeet : Calls → Calls → Type 0
  CallsMeet calls others = (s : ShaderStage) (f : Symbol) (xs : List Instance) → R (Option Instance) (Option Instance) Same (calls s f xs) (others s f xs)

  at_each_stage : (calls others : Calls) → CallsMeet calls others → (s : ShaderStage) (f : Symbol) (xs : List Instance)
      → R (Option Instance) (Option Instance) Same (at_exec s (p.printed f) (calls s f xs)) (at_exec s (p.printed f) (others s f xs))
  at_each_stage calls others h Exec f xs = h Exec f xs
  at_each_stage calls others h Const f xs = expressions.fail_same R kept (Option Instance) _
  at_each_stage calls others h Override f xs = expressions.fail_same R kept (Option Instance) _

  pub worlds_alike : (m : Path) (calls others : Calls) → CallsMeet calls others → (s : ShaderStage) → Meet R kept itself s s (module_world p known m calls) (module_world p known m others)
  worlds_alike m calls others h s = worlds_meet R kept p known m calls others s s (expressions.same_stage R kept s) (at_each_stage calls others h s)

  pub types_alike : (m : Path) (calls others : Calls) → CallsMeet calls others → TypesMeet R kept itself (module_world p known m calls) (module_world p known m others)
  types_alike m calls others h = types_of_worlds_meet R kept p known m calls others Const Const (expressions.same_stage R kept Const) (at_each_stage calls others h Const)

  pub called_alike : (m : Path) (calls others : Calls) → CallsMeet calls others → (s : ShaderStage) (f : Name) (d : Option Decl) (xs : List Instance)
      → R (Option Instance) (Option Instance) Same (call_in (module_world p known m calls) s f d xs) (call_in (module_world p known m others) s f d xs)
  called_alike m calls others h s f (Some d) xs = call_meets R kept itself s s (module_world p known m calls) (module_world p known m others) (worlds_alike m calls others h s) f d d (declaration_itself d) xs
  called_alike m calls others h s f None xs = expressions.fail_same R kept (Option Instance) _

  pub const_alike : (m : Path) (calls others : Calls) → CallsMeet calls others → (x : Name) (d : Option Decl)
      → R Instance Instance Same (const_in (module_world p known m calls) x d) (const_in (module_world p known m others) x d)
  const_alike m calls others h x (Some d) =
      const_meets R kept itself (module_world p known m calls) (module_world p known m others) (worlds_alike m calls others h Const) (types_alike m calls others h) x d d (declaration_itself d)
  const_alike m calls others h x None = expressions.fail_same R kept Instance _

  pub entered_alike : (m : Path) (calls others : Calls) → CallsMeet calls others → (f : Name) (d : Option Decl) (handed : Handed)
      → R (Option Instance) (Option Instance) Same (entered (module_world p known m calls) f d handed) (entered (module_world p known m others) f d handed)
  entered_alike m calls others h f (Some d) handed =
      entered_meets R kept itself (module_world p known m calls) (module_world p known m others) (worlds_alike m calls others h Const) (worlds_alike m calls others h Exec) f d d (declaration_itself d) handed
  entered_alike m calls others h f None handed = expressions.fail_same R kept (Option Instance) _

-- runs at two bounds
module _ (R : Lift Fault) (kept : Kept Fault Same R) (p : Program) (j k : ℕ)
    (calls : (known : Known) → CallsMeet R kept p known (calls_inside p known j) (calls_inside p known k)) where
  pub started_alike : (known : Known) (order : List Symbol) → R Known Known Same (started p j known order) (started p k known order)
  started_alike known [] = expressions.pure_same R kept Known known
  started_alike known (s ∷ rest) =
      expressions.on R kept Instance Known Known Same (const_in (world p known j s.home) (p.printed s) (p.item s)) (const_in (world p known k s.home) (p.printed s) (p.item s)) _ _
      (const_alike R kept p known s.home (calls_inside p known j) (calls_inside p known k) (calls known) (p.printed s) (p.item s)) (λ v. started_alike (known ++ (s, v) ∷ []) rest)

  pub run_alike : (order : List Symbol) (s : Symbol) (handed : Handed) → R (Option Instance) (Option Instance) Same (run p j order s handed) (run p k order s handed)
  run_alike order s handed =
      expressions.on R kept Known (Option Instance) (Option Instance) Same (started p j [] order) (started p k [] order) _ _ (started_alike [] order) (λ known.
      entered_alike R kept p known s.home (calls_inside p known j) (calls_inside p known k) (calls known) (p.printed s) (p.item s) handed)

-- ---- larger bounds

abbrev pub ExtendsSame : Lift Fault
ExtendsSame A B S m n = Extends Fault Same A B S m n

kept_same : Kept Fault Same ExtendsSame
kept_same = (kept_extends Fault Same).kept

calls_longer : (p : Program) (known : Known) (k : ℕ) → CallsMeet ExtendsSame kept_same p known (calls_inside p known k) (calls_inside p known (suc k))
calls_longer p known zero s f xs = record { from = λ a b cells left. tt }
calls_longer p known (suc k) s f xs =
    called_alike ExtendsSame kept_same p known f.home (calls_inside p known k) (calls_inside p known (suc k)) (calls_longer p known k) s (p.printed f) (p.item f) xs

extends_trans : (A : Type 0) (m n o : M A) → ExtendsSame A A Same m n → ExtendsSame A A Same n o → ExtendsSame A A Same m o
extends_trans A m n o a b = record { from = λ s t cells left. at s t (m s) (a.from s s refl refl) (b.from s t cells left) }
  where
    more : (s t : State) (x : A) (r : State) (e : EndsLikewise Fault A A Same (λ left. r.left ≡ left) x r (n s)) → ExtendsAt Fault Same A A Same (n s) (o t) → EndsLikewise Fault A A Same (λ left. r.left ≡ left) x r (o t)
    more s t x r e h =
        let g : EndsLikewise Fault A A Same (λ left. e.state.left ≡ left) e.answer e.state (o t) = subst (λ q. ExtendsAt Fault Same A A Same q (o t)) e.ends h in
        record { answer = g.answer; state = g.state; ends = g.ends; alike = e.alike ∙ g.alike; cells = e.cells ∙ g.cells; steps = e.steps ∙ g.steps }

    wrong : (s t : State) (f : Fault) (e : FailsLikewise Fault A Same f (n s)) → ExtendsAt Fault Same A A Same (n s) (o t) → FailsLikewise Fault A Same f (o t)
    wrong s t f e h =
        let g : FailsLikewise Fault A Same e.fault (o t) = subst (λ q. ExtendsAt Fault Same A A Same q (o t)) e.fails h in
        record { fault = g.fault; fails = g.fails; alike = e.alike ∙ g.alike }

    at : (s t : State) (q : Outcome Fault A) → ExtendsAt Fault Same A A Same q (n s) → ExtendsAt Fault Same A A Same (n s) (o t) → ExtendsAt Fault Same A A Same q (o t)
    at s t (Done x r) e h = more s t x r e h
    at s t (Failed f) e h = wrong s t f e h
    at s t Deep e h = tt

extends_refl : (A : Type 0) (m : M A) → ExtendsSame A A Same m m
extends_refl A m = record { from = λ s t cells left. subst (λ z. ExtendsAt Fault Same A A Same (m s) (m z)) (λ i. record { cells = cells i; left = left i }) (at (m s)) }
  where
    at : (q : Outcome Fault A) → ExtendsAt Fault Same A A Same q q
    at (Done x r) = record { answer = x; state = r; ends = refl; alike = refl; cells = refl; steps = refl }
    at (Failed f) = record { fault = f; fails = refl; alike = refl }
    at Deep = tt

pub run_longer : (p : Program) (j k : ℕ) (order : List Symbol) (s : Symbol) (handed : Handed) → ExtendsSame (Option Instance) (Option Instance) Same (run p k order s handed) (run p (j + k) order s handed)
run_longer p zero k order s handed = rw zero-add (extends_refl (Option Instance) (run p k order s handed))
run_longer p (suc j) k order s handed = rw suc-add
    (extends_trans (Option Instance) (run p k order s handed) (run p (j + k) order s handed) (run p (suc (j + k)) order s handed) (run_longer p j k order s handed)
    (run_alike ExtendsSame kept_same p (j + k) (suc (j + k)) (λ known. calls_longer p known (j + k)) order s handed))
