-- What comes of a call that the part is tried on, and of the resolver that was lent to it.
use Rattle.std.proofs.Common.{◌≡◌, ◌⊎◌, inr, List, Bool, Option, Result, Ok, Err, String, Global, sym, subst, ℕ}
use Rattle.std.specs.Prelude.{IfErr}
use Rattle.wgsl_path.specs.declared.path.ModulePath.{ModulePath}
use Rattle.wesl_resolve.specs.Found.{Asked}
use Rattle.wesl_resolve.specs.declared.source_map.BasicSourceMap.{BasicSourceMap}
use Rattle.core_reach.specs.Alone.{AsksInside}
use Rattle.core_calls.specs.ErrorContext.{ErrorContext}
use Rattle.core_calls.specs.CompileError.{CompileError}
use Rattle.core_calls.specs.CompileError.TheVariants.{Unsupported}
use Rattle.weslc_calls.specs.OfCore.{texts_asked, IfAnswered, IfBeyond}
use Rattle.weslc_calls.specs.declared.part.CoreAnswer.{CoreAnswer}
use Rattle.weslc_calls.specs.declared.part.CoreAnswer.TheVariants.{Answered, BeyondCore}

pub asked_there : {X : Type 0} (asked : X → Option (List ModulePath)) (inside : List ℕ → Bool) (before : Asked) (now last : X) → now ≡ last
    → AsksInside inside before (texts_asked (asked last)) → AsksInside inside before (texts_asked (asked now))
asked_there asked inside before now last same within = subst (λ x. AsksInside inside before (texts_asked (asked x))) (sym same) within

module _ (answer : Result (String Global × BasicSourceMap) CompileError) where
  -- what is said of the answer is said of what the part answered
  pub answered : (P : Result (String Global × BasicSourceMap) CompileError → Type 0) (t : CoreAnswer) → IfAnswered t (λ r. r ≡ answer) → P answer → IfAnswered t P
  answered P (Answered r) is p = subst P (sym is) p
  answered P (BeyondCore m) is p = tt

  -- and what is said of a refusal, where a module is beyond the part
  pub beyond : (P : CompileError → Type 0) (X : Type 0) (t : CoreAnswer) → IfBeyond t ((c : ErrorContext) × (answer ≡ Err (Unsupported c))) → IfErr answer P → IfBeyond t (X ⊎ ((c : ErrorContext) × P (Unsupported c)))
  beyond P X (Answered r) is told = tt
  beyond P X (BeyondCore m) (c, is) told = inr (c, subst (λ r. IfErr r P) is told)
