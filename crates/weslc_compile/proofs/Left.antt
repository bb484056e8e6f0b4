-- What is left to the whole language is beyond the part.
use Rattle.std.proofs.Common.{◌≡◌, ℕ, List, refl, ap, subst, inr}
use Rattle.wgsl_path.specs.declared.path.ModulePath.{ModulePath}
use Rattle.wgsl_path.specs.Paths.{path_text}
use Rattle.core_meaning.specs.declared.fault.Fault.TheVariants.{Name}
use Rattle.core_meaning.specs.declared.fault.NameFault.{NameFault}
use Rattle.core_meaning.specs.declared.fault.NameFault.TheVariants.{Todo}
use Rattle.core_link_spec.specs.Rounds.{Sources}
use Rattle.weslc_calls.specs.ErrorContext.{ErrorContext}
use Rattle.weslc_calls.specs.Options.{Options}
use Rattle.weslc_calls.specs.CompileError.{CompileError}
use Rattle.weslc_calls.specs.CompileError.TheVariants as calls
use Rattle.weslc_calls.specs.Answers.{RefusesToCompile}
use Rattle.weslc_compile.specs.Whole.{IsTodoName, IsTodo, IsBeyondFor}

todo_name : (kind : NameFault) → IsTodoName kind → kind ≡ Todo
todo_name Todo todo = refl
todo_name _ none = absurd none

todo_fault : (e : CompileError) → IsTodo e → (c : ErrorContext) × (name : List ℕ) × (e ≡ calls.Eval c (Name Todo name))
todo_fault (calls.Eval c (Name kind name)) todo = (c, name, ap (λ k. calls.Eval c (Name k name)) (todo_name kind todo))
todo_fault _ none = absurd none

pub todo_is_beyond : (found : Sources) (root : ModulePath) (options : Options) (e : CompileError)
    → RefusesToCompile found (path_text root) options.keep options.max_modules options.max_steps e
    → IsTodo e → IsBeyondFor found root options
todo_is_beyond found root options e refused todo =
    let t = todo_fault e todo in
    inr (t.0, t.1, subst (RefusesToCompile found (path_text root) options.keep options.max_modules options.max_steps) t.2 refused)
