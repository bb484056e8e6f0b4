-- What holds of all programs.
use Rattle.std.specs.Prelude.{◌≡◌, ℕ, ◌+◌, ◌<◌, ◌≤◌, List, Option}
use Rattle.core_syntax.specs.Tree.{Exp}
use Rattle.wgsl_words.specs.declared.enumerations.words.ShaderStage.{ShaderStage}
use Rattle.wgsl_words.specs.declared.enumerations.words.ShaderStage.TheVariants.{Const}
use Rattle.wgsl_instance.specs.declared.tree.Instance.{Instance}
use Rattle.core_computations.specs.Machine.{State, Done}
use Rattle.core_computations.specs.Lift.{Same}
use Rattle.core_computations.specs.Compare.{Extends, Carries}
use Rattle.core_computations.specs.Loops.{IsOverAt}
use Rattle.core_programs.specs.Faults.{Fault}
use Rattle.core_programs.specs.Names.{Path, Symbol, Env}
use Rattle.core_programs.specs.Meaning.{value}
use Rattle.core_programs.specs.Programs.{Program, Known, calls_inside, world}
use Rattle.core_programs.specs.Runs.{Handed, run, EndsWell}

-- a run at a larger bound is as it was, if it was over
abbrev pub LargerBoundsAgree : Type 0
LargerBoundsAgree = (p : Program) (j k : ℕ) (order : List Symbol) (s : Symbol) (handed : Handed)
    → Extends Fault Same (Option Instance) (Option Instance) Same (run p k order s handed) (run p (j + k) order s handed)

-- with fewer than k steps left, at most k calls are inside one another
abbrev pub LimitsComeFirst : Type 0
LimitsComeFirst = (p : Program) (k : ℕ) (order : List Symbol) (s : Symbol) (handed : Handed) (from : State) → from.left < k → IsOverAt from.left (run p k order s handed from)

-- what ends well within n steps ends well with the same answer within any more
abbrev pub MoreStepsAgree : Type 0
MoreStepsAgree = (p : Program) (s : Symbol) (handed : Handed) (n m : ℕ) (answer : Option Instance) → n ≤ m → EndsWell p s handed n answer → EndsWell p s handed m answer

-- two runs that both end well have the same answer, within whatever numbers of steps
abbrev pub RunsHaveOneAnswer : Type 0
RunsHaveOneAnswer = (p : Program) (s : Symbol) (handed : Handed) (n m : ℕ) (a b : Option Instance) → EndsWell p s handed n a → EndsWell p s handed m b → a ≡ b

-- a const value is the value at every stage, whatever the locals are
abbrev pub ConstValuesHold : Type 0
ConstValuesHold = (stage : ShaderStage) (p : Program) (known : Known) (k : ℕ) (m : Path) (env : Env) (e : Exp)
    → Carries Fault Instance Instance Same (value (world p known k m) Const env e) (value (world p known k m) stage env e)

-- A call of a function leaves the cells of memory as they were. (No function of today's language writes.)
abbrev pub CallsLeaveCells : Type 0
CallsLeaveCells = (p : Program) (known : Known) (k : ℕ) (stage : ShaderStage) (f : Symbol) (xs : List Instance) (from after : State) (answer : Option Instance)
    → calls_inside p known k stage f xs from ≡ Done answer after → after.cells ≡ from.cells
