-- The start: the consts get their values one after another, in an order that is given.
use Rattle.std.specs.Prelude.{ℕ, List, [], ◌∷◌, ◌++◌, Option, Some, None, Result, Ok, Err, slice_get}
use Rattle.core_syntax.specs.Tree.{Decl, variable, function}
use Rattle.wgsl_shader_type.specs.declared.literal.LiteralInstance.{LiteralInstance}
use Rattle.core_meaning.specs.declared.fault.Fault.{Fault}
use Rattle.core_meaning.specs.declared.fault.Fault.TheVariants.{StepLimit}
use Rattle.core_meaning.specs.Outcome.{Outcome, Done, Failed, Deep}
use Rattle.core_meaning.specs.Names.{Name, find_decl}
use Rattle.core_meaning.specs.Meaning.{const_in}
use Rattle.core_meaning.specs.ConstStage.{Consts, stage, module_scope}
use Rattle.core_eval.specs.declared.error.DeclarationFault.{DeclarationFault}

abbrev pub refused : Name → Fault → DeclarationFault
refused x f = record { declaration = x; fault = f }

abbrev pub added : Consts → Name → Outcome LiteralInstance → Result Consts DeclarationFault
added cs x (Done v n) = Ok (cs ++ (x, v) ∷ [])
added cs x (Failed f) = Err (refused x f)
added cs x Deep = Err (refused x StepLimit)

-- a name's value, if it is a const's
abbrev pub valued : List Decl → Consts → Name → Option Decl → Result Consts DeclarationFault
valued ds cs x (Some (variable attributes kind y type e)) = added cs x (const_in (stage (module_scope ds cs)) x (Some (variable attributes kind y type e)))
valued ds cs x (Some (function attributes f parameters return_attributes type body)) = Ok cs
valued ds cs x None = Ok cs

abbrev pub then_more : {A B : Type 0} → Result A DeclarationFault → (A → Result B DeclarationFault) → Result B DeclarationFault
then_more (Ok x) f = f x
then_more (Err e) f = Err e

-- the declaration at a position
abbrev pub valued_at : List Decl → Consts → Option Decl → Result Consts DeclarationFault
valued_at ds cs (Some (variable attributes kind x type e)) = valued ds cs x (find_decl x ds)
valued_at ds cs (Some (function attributes f parameters return_attributes type body)) = Ok cs
valued_at ds cs None = Ok cs

-- the consts at these positions with their values, or the first fault and its declaration
abbrev pub all_valued : List Decl → Consts → List ℕ → Result Consts DeclarationFault
all_valued ds cs [] = Ok cs
all_valued ds cs (i ∷ is) = then_more (valued_at ds cs (slice_get ds i)) (λ more. all_valued ds more is)

abbrev pub consts_of : List Decl → List ℕ → Result Consts DeclarationFault
consts_of ds order = all_valued ds [] order
