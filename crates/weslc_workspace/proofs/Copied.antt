-- What is told of a text, from what the parser told of it before.
use mathlib.Core.Logic.{∥∥₁_map}
use Rattle.std.proofs.Common.{◌≡◌, refl, sym, ap, ◌∙◌, subst, inl, inr, List, ℕ, true, false, Option, Some, None, Result, Ok, Err}
use Rattle.std.specs.Option.{is_some}
use Rattle.wgsl_path.specs.declared.path.ModulePath.{ModulePath}
use Rattle.wgsl_token.specs.declared.fault.error.Error.{Error}
use Rattle.wgsl_token.specs.Errors.{refusal_of}
use Rattle.wgsl_declarations.specs.declared.unit.TranslationUnit.{TranslationUnit}
use Rattle.wgsl_parser.specs.Texts.{ParsesModule, IsModuleFault}
use Rattle.wesl_resolvers.specs.Found.{not_found, TellsUnit}
use Rattle.wesl_resolvers.specs.declared.error.ResolveError.{ResolveError}
use Rattle.wesl_resolvers.specs.declared.error.ResolveError.TheVariants.{ModuleNotFound, Syntax, GaveUp, Condition, ConditionLeft, OutOfMemory}
use Rattle.wesl_virtual_resolver.specs.Refused.{RefusedAs}
use Rattle.weslc_workspace.specs.Found.{found_in}
use Rattle.weslc_workspace.specs.Outcome.{IsToldOf}

-- what is told of the text there
pub told_there : (there : Option (List ℕ)) (text : List ℕ) (outcome : Result TranslationUnit Error) → there ≡ Some text → ∥ ParsesModule text outcome ∥₁ → IsToldOf there outcome
told_there there text outcome is told = (ap is_some is, λ t same. (let one : Some text ≡ Some t = sym is ∙ same in let equal : text ≡ t = cc in subst (λ (s : List ℕ). ∥ ParsesModule s outcome ∥₁) equal told))

not_there : (outcome : Result TranslationUnit Error) → IsToldOf None outcome → ⊥
not_there outcome told = let wrong : false ≡ true = told.0 in absurd (cc)

-- a copy of the tree
pub copied : (there : Option (List ℕ)) (path : ModulePath) (unit copy : TranslationUnit) → copy ≡ unit → IsToldOf there (Ok unit) → TellsUnit (found_in there) path (Ok copy)
copied None path unit copy same told = absurd (not_there (Ok unit) told)
copied (Some text) path unit copy same told = (copy, subst (λ (u : TranslationUnit). ∥ ParsesModule text (Ok u) ∥₁) (sym same) (told.1 text refl), refl)

-- the fault
fault_of : (text : List ℕ) (e : Error) → refusal_of e ≡ None → ParsesModule text (Err e) → IsModuleFault text e
fault_of text e none (inl fault) = fault
fault_of text e none (inr (r, gave_up)) = let wrong : Some r ≡ None = sym gave_up ∙ none in absurd (cc)

pub refused : (there : Option (List ℕ)) (path : ModulePath) (e : Error) (r : ResolveError) → RefusedAs path e r → IsToldOf there (Err e) → TellsUnit (found_in there) path (Err r)
refused None path e r is told = absurd (not_there (Err e) told)
refused (Some text) path e (Syntax p f) is told =
    (is.0, subst (λ (x : Error). ∥ IsModuleFault text x ∥₁) (sym is.1) (∥∥₁_map (told.1 text refl) (fault_of text e is.2)))
refused (Some text) path e (GaveUp p r) is told = is
refused (Some text) path e OutOfMemory is told = tt
refused (Some text) path e (ModuleNotFound p) is told = absurd is
refused (Some text) path e (Condition p f) is told = absurd is
refused (Some text) path e (ConditionLeft p) is told = absurd is

-- that there is none
pub missing : (there : Option (List ℕ)) (path p : ModulePath) → p ≡ path → there ≡ None → TellsUnit (found_in there) path (Err (ModuleNotFound p))
missing there path p same none = (same, subst (λ (o : Option (List ℕ)). found_in o not_found) (sym none) refl)
