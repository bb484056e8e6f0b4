-- Sources that agree on what is asked of one of them get the same answer.
use Rattle.std.proofs.Common.{◌≡◌, inl, inr, ℕ, List, Option, Result, Ok, Err, refl, sym, ap, ◌∙◌, subst}
use Rattle.core_syntax.specs.Tree.{UnitTree}
use Rattle.core_syntax.specs.Print.{unit_text}
use Rattle.wesl_resolve.specs.Found.{unit_of}
use Rattle.wesl_resolve.specs.SourceMaps.{decl_at}
use Rattle.core_link_spec.specs.Occurrences.{Name}
use Rattle.core_link_spec.specs.Modules.{Path, Modules}
use Rattle.core_link_spec.specs.Named.{ImportsAreApart}
use Rattle.core_link_spec.specs.Rounds.{Sources, LoadError, IsLoadingResult}
use Rattle.core_link_spec.specs.Loaded.{IsClashFree}
use Rattle.core_link_spec.specs.Clashing.{IsFirstClash}
use Rattle.core_modules_meaning.specs.Agreement.{AreAlike}
use Rattle.core_modules_meaning.specs.Determined.{IsFunctional}
use Rattle.core_modules_meaning.proofs.Agreement.{holds_of_alike_modules}
use Rattle.core_modules_meaning.proofs.Clashes.{clashes_are_one}
use Rattle.core_modules_meaning.proofs.Loading.{loaded_modules}
use Rattle.core_link.specs.Recording.{Telling}
use Rattle.core_texts.specs.Texts.{IsTextOf, IsUnprintable}
use Rattle.core_texts.proofs.Whole.{units_are_told_once}
use Rattle.core_unit.specs.Compiled.{IsCompiled, Refuses}
use Rattle.core_unit.specs.declared.error.UnitRefusal.{UnitRefusal}
use Rattle.core_unit.specs.declared.error.UnitRefusal.TheVariants as of
use Rattle.core_unit.specs.Once as once
use Rattle.core_unit.proofs.Once.{compiled_once, refused_once, compiled_or_refused}
use Rattle.weslc_errors.specs.Headline.{IsLinkedFrom}
use Rattle.weslc_errors.specs.Answers.{AreLoadedFrom, IsRefusedLoading, IsFirstClashFrom, RefusesLinking}
use Rattle.weslc_errors.specs.Mapped.{TellsHeld}
use Rattle.weslc_errors.specs.Told.{about_name, about_maybe, Tells}
use Rattle.weslc_errors.specs.declared.error.ResolveKind.TheVariants.{ModuleNotFound}
use Rattle.weslc_errors.specs.declared.error.ImportKind.TheVariants.{DuplicateSymbol, MissingDecl, Private}
use Rattle.weslc_errors.specs.declared.error.CompileError.{CompileError}
use Rattle.weslc_errors.specs.declared.error.CompileError.TheVariants.{TooManyModules, Resolve, Syntax, Unsupported, Import, Condition, ConditionLeft, NameClash, Validate, UnclearName, Eval, Unprintable, GaveUp, OutOfMemory}
use Rattle.core_agreement.specs.Asked.{AgreesOnAsked, HasAskedUnits}
use Rattle.core_agreement.specs.Answers.{SameAnswer, TellTheSame, TellsNothing, IsCompiledAnswer, IsLinkedAnswer, CompiledAlike, LinkedAlike}
use Rattle.core_agreement.proofs.Units.{units_are_one}
use Rattle.core_agreement.proofs.Outcomes.{refused_outcome, loaded_outcome, same_outcome, loaded_alike, kept_are_one}
use Rattle.core_agreement.proofs.Told.{refused_first, refused_last, TellsLoading, loading_told, clash_told, tell_alike, refusal_told, maybe_same}

-- ---- what is answered of a linked unit

-- what may be said of the modules, the root, the kept names, the linked unit and the answer
abbrev Saying : Type 1
Saying = Modules → Path → List Name → UnitTree → Result (List ℕ) CompileError → Type 0

-- by `compile`: its compiled text, or its refusal, as one tells it who tells where its names come from
abbrev OfCompiling : ℕ → Saying
OfCompiling steps modules root keep linked (Ok text) = IsCompiled steps linked text
OfCompiling steps modules root keep linked (Err e) = (tell : Telling) × (refusal : UnitRefusal) × TellsHeld modules root keep tell × Refuses steps linked refusal × Tells tell refusal e

-- by `link`: its text, or that it has none
abbrev OfLinking : Saying
OfLinking modules root keep linked (Ok text) = (text ≡ unit_text linked) × IsTextOf linked text
OfLinking modules root keep linked (Err e) = (x : Option Name) × (e ≡ Unprintable (about_maybe x)) × IsUnprintable linked x

-- the same is answered of alike modules
abbrev IsOne : Saying → Type 0
IsOne Of = (root : Path) (modules others : Modules) → AreAlike root modules others → (keep : List Name) (linked : UnitTree) (one two : Result (List ℕ) CompileError)
    → Of modules root keep linked one → Of others root keep linked two → SameAnswer one two

nothing_told : (tell : Telling) (refusal : UnitRefusal) (e : CompileError) → once.TellsNothing refusal → Tells tell refusal e → TellsNothing e
nothing_told tell of.OutOfMemory e is told = subst TellsNothing (sym told) tt
nothing_told tell (of.GaveUp r) e is told = subst TellsNothing (sym told) tt
nothing_told tell (of.Validate f) e is told = absurd is
nothing_told tell (of.UnclearName x) e is told = absurd is
nothing_told tell (of.Eval r) e is told = absurd is
nothing_told tell (of.Unprintable x) e is told = absurd is

compiling_is_one : (steps : ℕ) → IsOne (OfCompiling steps)
compiling_is_one steps root modules others alike keep linked (Ok text) (Ok more) a b = compiled_once steps linked text more a b
compiling_is_one steps root modules others alike keep linked (Ok text) (Err e) a (tell, refusal, held, refused, told) =
    nothing_told tell refusal e (compiled_or_refused steps linked text refusal a refused) told
compiling_is_one steps root modules others alike keep linked (Err e) (Ok text) (tell, refusal, held, refused, told) b =
    nothing_told tell refusal e (compiled_or_refused steps linked text refusal b refused) told
compiling_is_one steps root modules others alike keep linked (Err e) (Err f) (tell, r, held, refused, told) (more, q, kept, stopped, said) =
    refusal_told tell more (tell_alike root modules others alike keep tell more held kept) r q (refused_once steps linked r q refused stopped) e f told said

linking_is_one : IsOne OfLinking
linking_is_one root modules others alike keep linked (Ok text) (Ok more) a b = a.0 ∙ sym b.0
linking_is_one root modules others alike keep linked (Ok text) (Err e) a (x, is, refused) = absurd (refused.no_text (text, a.1))
linking_is_one root modules others alike keep linked (Err e) (Ok text) (x, is, refused) b = absurd (refused.no_text (text, b.1))
linking_is_one root modules others alike keep linked (Err e) (Err f) (x, is, refused) (y, it, stopped) =
    subst (λ z. TellTheSame z f) (sym is) (subst (TellTheSame (Unprintable (about_maybe x))) (sym it) (maybe_same x y (units_are_told_once linked x y refused stopped)))

-- ---- where a run ends

module _ (Of : Saying) (found : Sources) (root : Path) (asked : List Name) (max : ℕ) where
  data Ends : Result (List ℕ) CompileError → Type 0 where
    for_nothing : {e : CompileError} → TellsNothing e → Ends (Err e)
    in_loading : {e : CompileError} (r : LoadError) → IsRefusedLoading found root asked max r → TellsLoading r e → Ends (Err e)
    in_a_clash : {e : CompileError} (y : Name) → IsFirstClashFrom found root asked max y → e ≡ NameClash (about_name y) → Ends (Err e)
    with_a_unit : {answer : Result (List ℕ) CompileError} (linked : UnitTree) (from : IsLinkedFrom found root asked max linked) → Of from.modules root from.kept linked answer → Ends answer

  refused_ends : (e : CompileError) → RefusesLinking found root asked max e → Ends (Err e)
  refused_ends (TooManyModules c) (m, is, refused) = in_loading _ refused (m, ap TooManyModules is, refl)
  refused_ends (Resolve c ModuleNotFound) (m, is, refused) = in_loading _ refused (m, ap (λ d. Resolve d ModuleNotFound) is, refl)
  refused_ends (Syntax c f) (m, is, refused) = in_loading _ refused (m, ap (λ d. Syntax d f) is, refl)
  refused_ends (Unsupported c) (m, is, refused) = in_loading _ refused (m, ap Unsupported is, refl)
  refused_ends (Import c DuplicateSymbol) (m, x, is, refused) = in_loading _ refused (m, ap (λ d. Import d DuplicateSymbol) is, refl)
  refused_ends (Import c MissingDecl) (m, x, is, refused) = in_loading _ refused (m, ap (λ d. Import d MissingDecl) is, refl)
  refused_ends (Import c Private) (m, x, is, refused) = in_loading _ refused (m, ap (λ d. Import d Private) is, refl)
  refused_ends (NameClash c) (y, is, clash) = in_a_clash y clash (ap NameClash is)
  refused_ends OutOfMemory is = for_nothing tt
  refused_ends (GaveUp c r) is = for_nothing tt
  refused_ends (Validate c k) is = absurd is
  refused_ends (Condition c k) is = absurd is
  refused_ends (ConditionLeft c) is = absurd is
  refused_ends (UnclearName c) is = absurd is
  refused_ends (Eval c f) is = absurd is
  refused_ends (Unprintable c) is = absurd is

compiling_ends : (found : Sources) (root : Path) (asked : List Name) (max steps : ℕ) (answer : Result (List ℕ) CompileError) → IsCompiledAnswer found root asked max steps answer → Ends (OfCompiling steps) found root asked max answer
compiling_ends found root asked max steps (Ok text) is = with_a_unit is.linked is.from is.compiled
compiling_ends found root asked max steps (Err e) (inl refused) = refused_ends (OfCompiling steps) found root asked max e refused
compiling_ends found root asked max steps (Err e) (inr u) = with_a_unit u.linked u.from.from (decl_at u.map, u.refusal, u.from.decls, u.refused, u.told)

linking_ends : (found : Sources) (root : Path) (asked : List Name) (max : ℕ) (answer : Result (List ℕ) CompileError) → IsLinkedAnswer found root asked max answer → Ends OfLinking found root asked max answer
linking_ends found root asked max (Ok text) is = with_a_unit is.linked is.from (is.whole, is.reads)
linking_ends found root asked max (Err e) (inl refused) = refused_ends OfLinking found root asked max e refused
linking_ends found root asked max (Err e) (inr u) = with_a_unit u.linked u.from (u.name, u.told, u.unprintable)

-- ---- two runs

loaded_of : (found : Sources) (root : Path) (asked : List Name) (max : ℕ) (linked : UnitTree) (from : IsLinkedFrom found root asked max linked) → AreLoadedFrom found root asked max from.kept from.modules
loaded_of found root asked max linked from = record { are_kept = from.are_kept; loaded = from.loaded; named = from.named }

module _ (Of : Saying) (is_one : IsOne Of) (found other : Sources) (functional : IsFunctional found) (functional_too : IsFunctional other) (apart : ImportsAreApart found) (root : Path) (asked : List Name) (max : ℕ) (agree : AgreesOnAsked found root asked max other) where
  -- modules that one run loads, and a refusal of the other's loading
  not_refused : (keep : List Name) (modules : Modules) → AreLoadedFrom found root asked max keep modules → (r : LoadError) → IsRefusedLoading other root asked max r → ⊥
  not_refused keep modules l r refused =
      same_outcome found other functional functional_too root asked max agree (Ok modules) (Err r) (loaded_outcome found root asked max keep modules l) (refused_outcome other root asked max r refused)

  refused_not : (r : LoadError) → IsRefusedLoading found root asked max r → (keep : List Name) (modules : Modules) → AreLoadedFrom other root asked max keep modules → ⊥
  refused_not r refused keep modules l =
      same_outcome found other functional functional_too root asked max agree (Err r) (Ok modules) (refused_outcome found root asked max r refused) (loaded_outcome other root asked max keep modules l)

  -- two first clashes
  clashes_same : (y z : Name) → IsFirstClashFrom found root asked max y → IsFirstClashFrom other root asked max z → y ≡ z
  clashes_same y z c d =
      let kept = kept_are_one found other functional functional_too root asked max agree c.kept d.kept c.modules c.loaded d.loaded.are_kept in
      let alike = loaded_alike found other functional functional_too root asked max agree apart c.kept d.kept c.modules d.modules c.loaded d.loaded in
      clashes_are_one.once d.modules root c.kept y z
      (loaded_modules other root c.kept max d.modules (subst (λ k. IsLoadingResult other root k max (Ok d.modules)) kept d.loaded.loaded))
      (holds_of_alike_modules.first_clash y root c.modules d.modules alike c.kept c.clash)
      (subst (λ k. IsFirstClash d.modules root k z) kept d.clash)

  -- a clash, and modules that are free of clashes
  clash_not_free : (y : Name) → IsFirstClashFrom found root asked max y → (linked : UnitTree) → IsLinkedFrom other root asked max linked → ⊥
  clash_not_free y c linked from =
      let there = loaded_of other root asked max linked from in
      let kept = kept_are_one found other functional functional_too root asked max agree c.kept from.kept c.modules c.loaded from.are_kept in
      let alike = loaded_alike found other functional functional_too root asked max agree apart c.kept from.kept c.modules from.modules c.loaded there in
      clashes_are_one.never from.modules root c.kept y
      (loaded_modules other root c.kept max from.modules (subst (λ k. IsLoadingResult other root k max (Ok from.modules)) kept from.loaded))
      (subst (λ k. IsClashFree from.modules root k) kept from.linked_well.clash_free)
      (holds_of_alike_modules.first_clash y root c.modules from.modules alike c.kept c.clash)

  free_not_clash : (linked : UnitTree) → IsLinkedFrom found root asked max linked → (y : Name) → IsFirstClashFrom other root asked max y → ⊥
  free_not_clash linked from y c =
      let here = loaded_of found root asked max linked from in
      let kept = kept_are_one found other functional functional_too root asked max agree from.kept c.kept from.modules here c.loaded.are_kept in
      let alike = loaded_alike found other functional functional_too root asked max agree apart from.kept c.kept from.modules c.modules here c.loaded in
      clashes_are_one.never c.modules root from.kept y
      (loaded_modules other root from.kept max c.modules (subst (λ k. IsLoadingResult other root k max (Ok c.modules)) kept c.loaded.loaded))
      (holds_of_alike_modules.clash_free root from.modules c.modules alike from.kept from.linked_well.clash_free)
      (subst (λ k. IsFirstClash c.modules root k y) kept c.clash)

  -- two linked units
  units_said : (one two : Result (List ℕ) CompileError) (linked more : UnitTree) (from : IsLinkedFrom found root asked max linked) (onto : IsLinkedFrom other root asked max more)
      → Of from.modules root from.kept linked one → Of onto.modules root onto.kept more two → SameAnswer one two
  units_said one two linked more from onto a b =
      let here = loaded_of found root asked max linked from in
      let there = loaded_of other root asked max more onto in
      let has : HasAskedUnits found root asked max other = λ p asks u is. (agree p asks (unit_of u)).0 is in
      let kept = kept_are_one found other functional functional_too root asked max agree from.kept onto.kept from.modules here onto.are_kept in
      let alike = loaded_alike found other functional functional_too root asked max agree apart from.kept onto.kept from.modules onto.modules here there in
      let units : linked ≡ more = units_are_one found other functional_too apart root asked max has linked more from onto in
      is_one root from.modules onto.modules alike from.kept linked one two a
      (subst (λ k. Of onto.modules root k linked two) kept (subst (λ u. Of onto.modules root onto.kept u two) (sym units) b))

  ends_alike : (one two : Result (List ℕ) CompileError) → Ends Of found root asked max one → Ends Of other root asked max two → SameAnswer one two
  ends_alike _ two (for_nothing {e = e} h) b = refused_first e h two
  ends_alike _ _ (in_loading {e = e} r l t) (for_nothing {e = f} h) = refused_last f h (Err e)
  ends_alike _ _ (in_loading {e = e} r l t) (in_loading {e = f} q k u) =
      let same : r ≡ q = same_outcome found other functional functional_too root asked max agree (Err r) (Err q) (refused_outcome found root asked max r l) (refused_outcome other root asked max q k) in
      loading_told r e f t (subst (λ z. TellsLoading z f) (sym same) u)
  ends_alike _ _ (in_loading r l t) (in_a_clash z d j) = absurd (refused_not r l d.kept d.modules d.loaded)
  ends_alike _ two (in_loading r l t) (with_a_unit more onto b) = absurd (refused_not r l onto.kept onto.modules (loaded_of other root asked max more onto))
  ends_alike _ _ (in_a_clash {e = e} y c i) (for_nothing {e = f} h) = refused_last f h (Err e)
  ends_alike _ _ (in_a_clash y c i) (in_loading q k u) = absurd (not_refused c.kept c.modules c.loaded q k)
  ends_alike _ _ (in_a_clash {e = e} y c i) (in_a_clash {e = f} z d j) = clash_told y z e f i j (clashes_same y z c d)
  ends_alike _ two (in_a_clash y c i) (with_a_unit more onto b) = absurd (clash_not_free y c more onto)
  ends_alike one _ (with_a_unit linked from a) (for_nothing {e = f} h) = refused_last f h one
  ends_alike one _ (with_a_unit linked from a) (in_loading q k u) = absurd (not_refused from.kept from.modules (loaded_of found root asked max linked from) q k)
  ends_alike one _ (with_a_unit linked from a) (in_a_clash z d j) = absurd (free_not_clash linked from z d)
  ends_alike one two (with_a_unit linked from a) (with_a_unit more onto b) = units_said one two linked more from onto a b

-- ---- the laws

pub compiled_alike : (found other : Sources) → IsFunctional found → IsFunctional other → CompiledAlike found other
compiled_alike found other functional functional_too apart root asked max steps agree one two a b =
    ends_alike (OfCompiling steps) (compiling_is_one steps) found other functional functional_too apart root asked max agree one two (compiling_ends found root asked max steps one a) (compiling_ends other root asked max steps two b)

pub linked_alike : (found other : Sources) → IsFunctional found → IsFunctional other → LinkedAlike found other
linked_alike found other functional functional_too apart root asked max agree one two a b =
    ends_alike OfLinking linking_is_one found other functional functional_too apart root asked max agree one two (linking_ends found root asked max one a) (linking_ends other root asked max two b)
