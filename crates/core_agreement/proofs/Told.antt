-- Errors that tell one refusal tell the same.
use Rattle.std.proofs.Common.{◌≡◌, ◌⊎◌, inl, inr, ℕ, List, Option, Some, None, Result, Ok, Err, refl, sym, ap, ◌∙◌, subst}
use Rattle.wgsl_path.specs.declared.path.ModulePath.{ModulePath}
use Rattle.wgsl_path.specs.Paths.{path_text}
use Rattle.core_link_spec.specs.Occurrences.{Name}
use Rattle.core_link_spec.specs.Modules.{Path, Modules, Symbol}
use Rattle.core_link_spec.specs.Rounds.{LoadError, too_many_modules, module_not_found, syntax, module_unsupported, duplicate_symbol, missing_decl, private}
use Rattle.wgsl_token.specs.declared.fault.error.Refusal.{Refusal}
use Rattle.core_validate.specs.declared.error.ValidateFault.{ValidateFault}
use Rattle.core_eval.specs.declared.error.DeclarationFault.{DeclarationFault as Evaluation}
use Rattle.core_modules_meaning.specs.Agreement.{AreAlike}
use Rattle.core_modules_meaning.proofs.Agreement.{alike_turned, holds_of_alike_modules}
use Rattle.core_link.specs.Recording.{Source, Telling, source_symbol, IsHeldAs}
use Rattle.core_unit.specs.Once.{SameRefusal}
use Rattle.core_unit.specs.declared.error.UnitRefusal.{UnitRefusal}
use Rattle.core_unit.specs.declared.error.UnitRefusal.TheVariants as of
use Rattle.weslc_errors.specs.Mapped.{IsTold, TellsHeld}
use Rattle.weslc_errors.specs.Told.{about_module, about_item, about_name, about_maybe, about_declaration, fault_name, TellsOfFault, TellsOfEvaluation, Tells}
use Rattle.weslc_errors.specs.declared.error.ResolveKind.TheVariants.{ModuleNotFound}
use Rattle.weslc_errors.specs.declared.error.ImportKind.TheVariants.{DuplicateSymbol, MissingDecl, Private}
use Rattle.weslc_errors.specs.declared.error.ErrorContext.{ErrorContext}
use Rattle.weslc_errors.specs.declared.error.CompileError.{CompileError}
use Rattle.weslc_errors.specs.declared.error.CompileError.TheVariants.{TooManyModules, Resolve, Syntax, Unsupported, Import, Condition, ConditionLeft, NameClash, Validate, UnclearName, Eval, Unprintable, GaveUp, OutOfMemory}
use Rattle.core_agreement.specs.Answers.{SameContext, TellTheSame, TellsNothing, SameAnswer}

-- ---- want of memory tells nothing, nor does that the parser gave up

pub nothing_first : (e f : CompileError) → TellsNothing e → TellTheSame e f
nothing_first OutOfMemory f h = tt
nothing_first (GaveUp c r) f h = tt
nothing_first (TooManyModules c) f h = absurd h
nothing_first (Resolve c k) f h = absurd h
nothing_first (Syntax c y) f h = absurd h
nothing_first (Unsupported c) f h = absurd h
nothing_first (Import c k) f h = absurd h
nothing_first (NameClash c) f h = absurd h
nothing_first (Validate c k) f h = absurd h
nothing_first (Condition c k) f h = absurd h
nothing_first (ConditionLeft c) f h = absurd h
nothing_first (UnclearName c) f h = absurd h
nothing_first (Eval c y) f h = absurd h
nothing_first (Unprintable c) f h = absurd h

pub memory_last : (e : CompileError) → TellTheSame e OutOfMemory
memory_last (TooManyModules c) = tt
memory_last (Resolve c k) = tt
memory_last (Syntax c f) = tt
memory_last (Unsupported c) = tt
memory_last (Import c k) = tt
memory_last (NameClash c) = tt
memory_last (Validate c k) = tt
memory_last (Condition c k) = tt
memory_last (ConditionLeft c) = tt
memory_last (UnclearName c) = tt
memory_last (Eval c f) = tt
memory_last (Unprintable c) = tt
memory_last (GaveUp c r) = tt
memory_last OutOfMemory = tt

gave_up_last : (e : CompileError) (d : ErrorContext) (q : Refusal) → TellTheSame e (GaveUp d q)
gave_up_last (TooManyModules c) d q = tt
gave_up_last (Resolve c k) d q = tt
gave_up_last (Syntax c f) d q = tt
gave_up_last (Unsupported c) d q = tt
gave_up_last (Import c k) d q = tt
gave_up_last (NameClash c) d q = tt
gave_up_last (Validate c k) d q = tt
gave_up_last (Condition c k) d q = tt
gave_up_last (ConditionLeft c) d q = tt
gave_up_last (UnclearName c) d q = tt
gave_up_last (Eval c f) d q = tt
gave_up_last (Unprintable c) d q = tt
gave_up_last (GaveUp c r) d q = tt
gave_up_last OutOfMemory d q = tt

pub nothing_last : (e f : CompileError) → TellsNothing f → TellTheSame e f
nothing_last e OutOfMemory h = memory_last e
nothing_last e (GaveUp d q) h = gave_up_last e d q
nothing_last e (TooManyModules c) h = absurd h
nothing_last e (Resolve c k) h = absurd h
nothing_last e (Syntax c f) h = absurd h
nothing_last e (Unsupported c) h = absurd h
nothing_last e (Import c k) h = absurd h
nothing_last e (NameClash c) h = absurd h
nothing_last e (Validate c k) h = absurd h
nothing_last e (Condition c k) h = absurd h
nothing_last e (ConditionLeft c) h = absurd h
nothing_last e (UnclearName c) h = absurd h
nothing_last e (Eval c f) h = absurd h
nothing_last e (Unprintable c) h = absurd h

pub refused_first : (e : CompileError) → TellsNothing e → (answer : Result (List ℕ) CompileError) → SameAnswer (Err e) answer
refused_first e h (Ok text) = h
refused_first e h (Err f) = nothing_first e f h

pub refused_last : (e : CompileError) → TellsNothing e → (answer : Result (List ℕ) CompileError) → SameAnswer answer (Err e)
refused_last e h (Ok text) = h
refused_last e h (Err f) = nothing_last f e h

-- ---- what errors are about

modules_same : (m n : ModulePath) → path_text m ≡ path_text n → SameContext (about_module m) (about_module n)
modules_same m n e = record { same_module = e; same_declaration = refl; same_name = refl }

items_same : (m n : ModulePath) (x : Name) → path_text m ≡ path_text n → SameContext (about_item m x) (about_item n x)
items_same m n x e = record { same_module = e; same_declaration = refl; same_name = refl }

pub maybe_same : (x y : Option Name) → x ≡ y → SameContext (about_maybe x) (about_maybe y)
maybe_same x y e = record { same_module = tt; same_declaration = refl; same_name = e }

names_same : (x y : Name) → x ≡ y → SameContext (about_name x) (about_name y)
names_same x y e = maybe_same (Some x) (Some y) (ap Some e)

-- the errors are these
told_by : (e f g h : CompileError) → e ≡ g → f ≡ h → TellTheSame g h → TellTheSame e f
told_by e f g h a b same = subst (λ z. TellTheSame z f) (sym a) (subst (TellTheSame g) (sym b) same)

-- ---- refusals of loading

-- the error for what loading is refused for
abbrev pub TellsLoading : LoadError → CompileError → Type 0
TellsLoading (too_many_modules p) e = (m : ModulePath) × (e ≡ TooManyModules (about_module m)) × (path_text m ≡ p)
TellsLoading (module_not_found p) e = (m : ModulePath) × (e ≡ Resolve (about_module m) ModuleNotFound) × (path_text m ≡ p)
TellsLoading (syntax p f) e = (m : ModulePath) × (e ≡ Syntax (about_module m) f) × (path_text m ≡ p)
TellsLoading (module_unsupported p) e = (m : ModulePath) × (e ≡ Unsupported (about_module m)) × (path_text m ≡ p)
TellsLoading (duplicate_symbol p x) e = (m : ModulePath) × (e ≡ Import (about_item m x) DuplicateSymbol) × (path_text m ≡ p)
TellsLoading (missing_decl p x) e = (m : ModulePath) × (e ≡ Import (about_item m x) MissingDecl) × (path_text m ≡ p)
TellsLoading (private p x) e = (m : ModulePath) × (e ≡ Import (about_item m x) Private) × (path_text m ≡ p)

pub loading_told : (r : LoadError) (e f : CompileError) → TellsLoading r e → TellsLoading r f → TellTheSame e f
loading_told (too_many_modules p) e f (m, a, i) (n, b, j) = told_by e f _ _ a b (modules_same m n (i ∙ sym j))
loading_told (module_not_found p) e f (m, a, i) (n, b, j) = told_by e f _ _ a b (modules_same m n (i ∙ sym j), refl)
loading_told (syntax p x) e f (m, a, i) (n, b, j) = told_by e f _ _ a b (modules_same m n (i ∙ sym j), refl)
loading_told (module_unsupported p) e f (m, a, i) (n, b, j) = told_by e f _ _ a b (modules_same m n (i ∙ sym j))
loading_told (duplicate_symbol p x) e f (m, a, i) (n, b, j) = told_by e f _ _ a b (items_same m n x (i ∙ sym j), refl)
loading_told (missing_decl p x) e f (m, a, i) (n, b, j) = told_by e f _ _ a b (items_same m n x (i ∙ sym j), refl)
loading_told (private p x) e f (m, a, i) (n, b, j) = told_by e f _ _ a b (items_same m n x (i ∙ sym j), refl)

-- ---- names that clash

pub clash_told : (y z : Name) (e f : CompileError) → e ≡ NameClash (about_name y) → f ≡ NameClash (about_name z) → y ≡ z → TellTheSame e f
clash_told y z e f a b same = told_by e f _ _ a b (names_same y z same)

-- ---- declarations of alike modules

-- two that tell of each name modules that print alike and one name there, or both nothing
abbrev pub TellAlike : Telling → Telling → Type 0
TellAlike tell more = (y : Name) (x : Option Name) → SameContext (about_declaration (tell y) x) (about_declaration (more y) x)

module _ (root : Path) (a b : Modules) (alike : AreAlike root a b) (keep : List Name) where
  held_there : (y : Name) (s : Symbol) → IsHeldAs a root keep y s → IsHeldAs b root keep y s
  held_there y s h =
      let there = holds_of_alike_modules.held s y root a b alike keep (record { held = h.reached; printed = h.printed }) in
      record { reached = there.held; printed = there.printed }

  -- what is told of a name in one list of modules is told in the other
  told_there : (tell more : Telling) → TellsHeld a root keep tell → TellsHeld b root keep more → (y : Name) (v : Source) → tell y ≡ Some v → IsTold b more y (source_symbol v)
  told_there tell more t u y v is = u.each y (source_symbol v) (held_there y (source_symbol v) (t.only y v is).held)

declared_same : (o q : Option Source) (x : Option Name) → ((v : Source) → o ≡ Some v → (w : Source) × (q ≡ Some w) × (path_text w.0 ≡ path_text v.0) × (w.1 ≡ v.1))
    → ((v : Source) → q ≡ Some v → (w : Source) × (o ≡ Some w)) → SameContext (about_declaration o x) (about_declaration q x)
declared_same None None x there back = record { same_module = tt; same_declaration = refl; same_name = refl }
declared_same None (Some w) x there back = let v = back w refl in absurd (cc (v.1))
declared_same (Some v) None x there back = let w = there v refl in absurd (cc (w.1))
declared_same (Some v) (Some u) x there back =
    let w = there v refl in
    let same : u ≡ w.0 = cc (w.1) in
    record {
      same_module = sym w.2 ∙ ap (λ (z : Source). path_text z.0) (sym same);
      same_declaration = ap Some (sym w.3 ∙ ap (λ (z : Source). z.1) (sym same));
      same_name = refl;
    }

pub tell_alike : (root : Path) (a b : Modules) → AreAlike root a b → (keep : List Name) (tell more : Telling) → TellsHeld a root keep tell → TellsHeld b root keep more → TellAlike tell more
tell_alike root a b alike keep tell more t u y x =
    declared_same (tell y) (more y) x
    (λ v is. let w = told_there root a b alike keep tell more t u y v is in ((w.path, v.1), w.stands, w.home, refl))
    (λ v is. let w = told_there root b a (alike_turned root a b alike) keep more tell u t y v is in ((w.path, v.1), w.stands))

-- ---- refusals of one unit

-- memory aside, the error for a refusal
abbrev error_of : Telling → UnitRefusal → CompileError
error_of tell (of.Validate f) = Validate (about_declaration (tell f.declaration) (Some f.name)) f.kind
error_of tell (of.UnclearName x) = UnclearName (about_name x)
error_of tell (of.Eval r) = Eval (about_declaration (tell r.declaration) (fault_name r.fault)) r.fault
error_of tell (of.Unprintable x) = Unprintable (about_maybe x)
error_of tell (of.GaveUp r) = GaveUp (about_maybe None) r
error_of tell of.OutOfMemory = OutOfMemory

fault_tells : (tell : Telling) (f : ValidateFault) (e : CompileError) → TellsOfFault tell f e → (e ≡ OutOfMemory) ⊎ (e ≡ error_of tell (of.Validate f))
fault_tells tell f (Validate c k) t = inr (cc (t.0, t.1))
fault_tells tell f OutOfMemory t = inl refl
fault_tells tell f (TooManyModules c) t = absurd t
fault_tells tell f (Resolve c k) t = absurd t
fault_tells tell f (Syntax c k) t = absurd t
fault_tells tell f (Unsupported c) t = absurd t
fault_tells tell f (Import c k) t = absurd t
fault_tells tell f (NameClash c) t = absurd t
fault_tells tell f (UnclearName c) t = absurd t
fault_tells tell f (Eval c k) t = absurd t
fault_tells tell f (Condition c k) t = absurd t
fault_tells tell f (ConditionLeft c) t = absurd t
fault_tells tell f (Unprintable c) t = absurd t
fault_tells tell f (GaveUp c k) t = absurd t

evaluation_tells : (tell : Telling) (r : Evaluation) (e : CompileError) → TellsOfEvaluation tell r e → (e ≡ OutOfMemory) ⊎ (e ≡ error_of tell (of.Eval r))
evaluation_tells tell r (Eval c f) t =
    let context : c ≡ about_declaration (tell r.declaration) (fault_name r.fault) = t.1 in
    let fault : f ≡ r.fault = t.0 in
    inr (cc)
evaluation_tells tell r OutOfMemory t = inl refl
evaluation_tells tell r (TooManyModules c) t = absurd t
evaluation_tells tell r (Resolve c k) t = absurd t
evaluation_tells tell r (Syntax c k) t = absurd t
evaluation_tells tell r (Unsupported c) t = absurd t
evaluation_tells tell r (Import c k) t = absurd t
evaluation_tells tell r (NameClash c) t = absurd t
evaluation_tells tell r (Validate c k) t = absurd t
evaluation_tells tell r (Condition c k) t = absurd t
evaluation_tells tell r (ConditionLeft c) t = absurd t
evaluation_tells tell r (UnclearName c) t = absurd t
evaluation_tells tell r (Unprintable c) t = absurd t
evaluation_tells tell r (GaveUp c k) t = absurd t

tells : (tell : Telling) (r : UnitRefusal) (e : CompileError) → Tells tell r e → (e ≡ OutOfMemory) ⊎ (e ≡ error_of tell r)
tells tell (of.Validate f) e t = fault_tells tell f e t
tells tell (of.UnclearName x) e t = inr t
tells tell (of.Eval r) e t = evaluation_tells tell r e t
tells tell (of.Unprintable x) e t = inr t
tells tell (of.GaveUp r) e t = inr t
tells tell of.OutOfMemory e t = inl t

errors_same : (tell more : Telling) → TellAlike tell more → (r q : UnitRefusal) → SameRefusal r q → TellTheSame (error_of tell r) (error_of more q)
errors_same tell more alike (of.Validate f) (of.Validate g) same =
    subst (λ z. TellTheSame (error_of tell (of.Validate f)) (error_of more (of.Validate z))) same (alike f.declaration (Some f.name), refl)
errors_same tell more alike (of.Validate f) (of.UnclearName y) same = absurd same
errors_same tell more alike (of.Validate f) (of.Eval q) same = absurd same
errors_same tell more alike (of.Validate f) (of.Unprintable y) same = absurd same
errors_same tell more alike (of.Validate f) of.OutOfMemory same = tt
errors_same tell more alike (of.Validate f) (of.GaveUp h) same = tt
errors_same tell more alike (of.UnclearName x) (of.Validate g) same = absurd same
errors_same tell more alike (of.UnclearName x) (of.UnclearName y) same = names_same x y same
errors_same tell more alike (of.UnclearName x) (of.Eval q) same = absurd same
errors_same tell more alike (of.UnclearName x) (of.Unprintable y) same = absurd same
errors_same tell more alike (of.UnclearName x) of.OutOfMemory same = tt
errors_same tell more alike (of.UnclearName x) (of.GaveUp h) same = tt
errors_same tell more alike (of.Eval r) (of.Validate g) same = absurd same
errors_same tell more alike (of.Eval r) (of.UnclearName y) same = absurd same
errors_same tell more alike (of.Eval r) (of.Eval q) same =
    subst (λ z. TellTheSame (error_of tell (of.Eval r)) (error_of more (of.Eval z))) same (alike r.declaration (fault_name r.fault), refl)
errors_same tell more alike (of.Eval r) (of.Unprintable y) same = absurd same
errors_same tell more alike (of.Eval r) of.OutOfMemory same = tt
errors_same tell more alike (of.Eval r) (of.GaveUp h) same = tt
errors_same tell more alike (of.Unprintable x) (of.Validate g) same = absurd same
errors_same tell more alike (of.Unprintable x) (of.UnclearName y) same = absurd same
errors_same tell more alike (of.Unprintable x) (of.Eval q) same = absurd same
errors_same tell more alike (of.Unprintable x) (of.Unprintable y) same = maybe_same x y same
errors_same tell more alike (of.Unprintable x) of.OutOfMemory same = tt
errors_same tell more alike (of.Unprintable x) (of.GaveUp h) same = tt
errors_same tell more alike of.OutOfMemory q same = tt
errors_same tell more alike (of.GaveUp g) q same = tt

-- two that tell alike tell the same of refusals that are the same
pub refusal_told : (tell more : Telling) → TellAlike tell more → (r q : UnitRefusal) → SameRefusal r q → (e f : CompileError) → Tells tell r e → Tells more q f → TellTheSame e f
refusal_told tell more alike r q same e f t u = by (tells tell r e t) (tells more q f u)
  where
    by : (e ≡ OutOfMemory) ⊎ (e ≡ error_of tell r) → (f ≡ OutOfMemory) ⊎ (f ≡ error_of more q) → TellTheSame e f
    by (inl memory) there = subst (λ z. TellTheSame z f) (sym memory) tt
    by (inr is) (inl memory) = subst (TellTheSame e) (sym memory) (memory_last e)
    by (inr is) (inr it) = told_by e f _ _ is it (errors_same tell more alike r q same)
