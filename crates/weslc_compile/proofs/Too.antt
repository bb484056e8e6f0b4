-- An answer of what stands at some paths alone is one of all, too.
use Rattle.std.proofs.Common.{inl, inr, ⊎_elim, List, ℕ, Ok, Err, string_bytes}
use Rattle.wgsl_path.specs.declared.path.ModulePath.{ModulePath}
use Rattle.wgsl_path.specs.Paths.{path_text}
use Rattle.core_syntax.specs.Tree.{UnitTree}
use Rattle.core_meaning.specs.declared.fault.Fault.TheVariants.{Name}
use Rattle.core_meaning.specs.declared.fault.NameFault.TheVariants.{Todo}
use Rattle.wesl_resolve.specs.Found.{unit_of}
use Rattle.core_link_spec.specs.Modules.{Path}
use Rattle.core_link_spec.specs.Rounds.{Sources}
use Rattle.weslc_calls.proofs.Alone.{AreFoundToo, compiled_too, refuses_too, mapped_too}
use Rattle.weslc_calls.specs.CompileError.TheVariants as calls
use Rattle.weslc_calls.specs.Options.{Options}
use Rattle.weslc_compile.specs.declared.refusal.CompileRefusal.{CompileRefusal}
use Rattle.weslc_compile.specs.declared.refusal.CompileRefusal.TheVariants as whole
use Rattle.weslc_compile.specs.Whole.{Answer, IsAnswerFor, IsAnswerOfCore, IsBeyondFor, RefusesOf}

module _ (one other : Sources) (found : AreFoundToo one other) where
  beyond_too : (root : ModulePath) (options : Options) → IsBeyondFor one root options → IsBeyondFor other root options
  beyond_too root options (inl (inl of_another_kind)) = inl (inl of_another_kind)
  beyond_too root options (inl (inr (c, refuses))) = inl (inr (c, refuses_too one other found (path_text root) options.keep options.max_modules options.max_steps (calls.Unsupported c) refuses))
  beyond_too root options (inr (c, name, refuses)) = inr (c, name, refuses_too one other found (path_text root) options.keep options.max_modules options.max_steps (calls.Eval c (Name Todo name)) refuses)

  refusal_too : (root : ModulePath) (options : Options) (e : CompileRefusal) → RefusesOf one root options e → RefusesOf other root options e
  refusal_too root options (whole.Compile e) refuses = refuses_too one other found (path_text root) options.keep options.max_modules options.max_steps e refuses
  refusal_too root options (whole.Eval c fault) refuses = absurd refuses

  module _ (texts texts_there : Path → List ℕ → Type 0) (same : (p : Path) (u : UnitTree) (text : List ℕ) → one p (unit_of u) → texts p text → texts_there p text) (root : ModulePath) (options : Options) where
    part_too : (answer : Answer) → IsAnswerOfCore one texts root options answer → IsAnswerOfCore other texts_there root options answer
    part_too (Ok a) t = record {
      text = compiled_too one other found (path_text root) options.keep options.max_modules options.max_steps (string_bytes a.0) t.text;
      map = mapped_too one other found (path_text root) options.keep options.max_modules texts texts_there a.1 same t.map;
      refusal = tt;
    }
    part_too (Err e) t = record { text = tt; map = tt; refusal = refusal_too root options e t.refusal }

    pub answers_too : (answer : Answer) → IsAnswerFor one texts root options answer → IsAnswerFor other texts_there root options answer
    answers_too answer told = ⊎_elim (λ beyond. inl (beyond_too root options beyond)) (λ part. inr (part_too answer part)) told
