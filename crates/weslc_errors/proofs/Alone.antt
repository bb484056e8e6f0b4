-- What is answered of some modules is answered where the same is found, and more.
use Rattle.std.proofs.Common.{◌≡◌, ◌⊎◌, inl, inr, ℕ, List, [], ◌∷◌, Result, Ok, Err, refl}
use Rattle.std.specs.List.{Contains}
use Rattle.wgsl_path.specs.declared.path.ModulePath.{ModulePath}
use Rattle.wgsl_path.specs.Paths.{path_text}
use Rattle.core_syntax.specs.Tree.{UnitTree}
use Rattle.wesl_resolve.specs.Found.{Answer, unit_of, not_found, faulty, unsupported}
use Rattle.wesl_resolve.specs.declared.source_map.BasicSourceMap.{BasicSourceMap}
use Rattle.core_link_spec.specs.Occurrences.{Name}
use Rattle.core_link_spec.specs.Modules.{Path, Modules}
use Rattle.core_link_spec.specs.Rounds.{Sources, LoadError, Loads, all_loaded, one_too_many, is_not_found, is_faulty, is_unsupported, has_a_name_twice, loaded_then_refused, loaded, LoadsRounds, an_occurrence_refused, nothing_asked, a_module_refused, a_round, IsLoadingResult, root_refused, kept_name_missing, goes_on}
use Rattle.core_laws.proofs.Loading.{found_modules}
use Rattle.core_laws.specs.Headline.{AreKept, IsLinkedFrom}
use Rattle.weslc_errors.specs.Mapped.{Texts}
use Rattle.weslc_errors.specs.Answers.{AreLoadedFrom, IsRefusedLoading, of_the_root, behind_the_root, RefusesLinking, IsToldFrom, IsRefusedUnit, RefusesToCompile, IsCompiledText, IsMapped}
use Rattle.weslc_errors.specs.declared.error.ResolveKind.TheVariants.{ModuleNotFound}
use Rattle.weslc_errors.specs.declared.error.ImportKind.TheVariants.{DuplicateSymbol, MissingDecl, Private}
use Rattle.weslc_errors.specs.declared.error.CompileError.{CompileError}
use Rattle.weslc_errors.specs.declared.error.CompileError.TheVariants.{TooManyModules, Resolve, Syntax, Unsupported, Import, Condition, ConditionLeft, NameClash, Validate, UnclearName, Eval, Unprintable, GaveUp, OutOfMemory}

-- whatever is found is found there too
abbrev pub AreFoundToo : Sources → Sources → Type 0
AreFoundToo found other = (p : Path) (a : Answer) → found p a → other p a

module _ (found other : Sources) (too : AreFoundToo found other) (max : ℕ) where
  loads_too : {n : ℕ} {ps : List Path} {o : Result Modules LoadError} → Loads found max n ps o → Loads other max n ps o
  loads_too all_loaded = all_loaded
  loads_too (one_too_many m) = one_too_many m
  loads_too (is_not_found {p = p} m f) = is_not_found m (too p not_found f)
  loads_too (is_faulty {p = p} {e = e} m f) = is_faulty m (too p (faulty e) f)
  loads_too (is_unsupported {p = p} m f) = is_unsupported m (too p unsupported f)
  loads_too (has_a_name_twice {p = p} {u = u} m f again) = has_a_name_twice m (too p (unit_of u) f) again
  loads_too (loaded_then_refused {p = p} {u = u} m f d rest) = loaded_then_refused m (too p (unit_of u) f) d (loads_too rest)
  loads_too (loaded {p = p} {u = u} m f d t rest) = loaded m (too p (unit_of u) f) d t (loads_too rest)

  module _ (root : Path) (keep : List Name) where
    goes_too : {modules : Modules} {o : Result Modules LoadError} → LoadsRounds found root keep max modules o → LoadsRounds other root keep max modules o
    goes_too (an_occurrence_refused r) = an_occurrence_refused r
    goes_too (nothing_asked none next) = nothing_asked none next
    goes_too (a_module_refused none next l) = a_module_refused none next (loads_too l)
    goes_too (a_round none next some l rest) = a_round none next some (loads_too l) (goes_too rest)

    comes_too : {o : Result Modules LoadError} → IsLoadingResult found root keep max o → IsLoadingResult other root keep max o
    comes_too (root_refused l) = root_refused (loads_too l)
    comes_too (kept_name_missing l u) = kept_name_missing (loads_too l) (record { before = u.before; behind = u.behind; whole = u.whole; declared = u.declared; undeclared = u.undeclared })
    comes_too (goes_on l k g) = goes_on (loads_too l) k (goes_too g)

module _ (found other : Sources) (too : AreFoundToo found other) (root : Path) (asked : List Name) (max : ℕ) where
  kept_too : (kept : List Name) → AreKept found root asked kept → AreKept other root asked kept
  kept_too kept k = record { unit = k.unit; found = too root (unit_of k.unit) k.found; are = k.are }

  loaded_too : (kept : List Name) (modules : Modules) → AreLoadedFrom found root asked max kept modules → AreLoadedFrom other root asked max kept modules
  loaded_too kept modules l = record { are_kept = kept_too kept l.are_kept; loaded = comes_too found other too max root kept l.loaded; named = l.named }

  unfoldable linked_too : (linked : UnitTree) → IsLinkedFrom found root asked max linked → IsLinkedFrom other root asked max linked
  linked_too linked l = record {
    kept = l.kept;
    are_kept = kept_too l.kept l.are_kept;
    modules = l.modules;
    loaded = comes_too found other too max root l.kept l.loaded;
    named = l.named;
    linked_well = l.linked_well;
  }

  unfoldable told_too : (linked : UnitTree) (map : BasicSourceMap) → IsToldFrom found root asked max linked map → IsToldFrom other root asked max linked map
  unfolding linked_too
  told_too linked map t = record { from = linked_too linked t.from; decls = t.decls }

  -- ---- refusals

  loading_too : (r : LoadError) → IsRefusedLoading found root asked max r → IsRefusedLoading other root asked max r
  loading_too r (of_the_root l) = of_the_root (loads_too found other too max l)
  loading_too r (behind_the_root {unit = unit} is l) = behind_the_root (too root (unit_of unit) is) (comes_too found other too max root _ l)

  linking_too : (e : CompileError) → RefusesLinking found root asked max e → RefusesLinking other root asked max e
  linking_too (TooManyModules c) (m, is, refused) = (m, is, loading_too _ refused)
  linking_too (Resolve c ModuleNotFound) (m, is, refused) = (m, is, loading_too _ refused)
  linking_too (Syntax c f) (m, is, refused) = (m, is, loading_too _ refused)
  linking_too (Unsupported c) (m, is, refused) = (m, is, loading_too _ refused)
  linking_too (Import c DuplicateSymbol) (m, x, is, refused) = (m, x, is, loading_too _ refused)
  linking_too (Import c MissingDecl) (m, x, is, refused) = (m, x, is, loading_too _ refused)
  linking_too (Import c Private) (m, x, is, refused) = (m, x, is, loading_too _ refused)
  linking_too (NameClash c) (y, is, clash) = (y, is, record { kept = clash.kept; modules = clash.modules; loaded = loaded_too clash.kept clash.modules clash.loaded; clash = clash.clash })
  linking_too (GaveUp c r) is = tt
  linking_too OutOfMemory is = tt
  linking_too (Validate c k) is = absurd is
  linking_too (Condition c k) is = absurd is
  linking_too (ConditionLeft c) is = absurd is
  linking_too (UnclearName c) is = absurd is
  linking_too (Eval c f) is = absurd is
  linking_too (Unprintable c) is = absurd is

  unit_too : (steps : ℕ) (e : CompileError) → IsRefusedUnit found root asked max steps e → IsRefusedUnit other root asked max steps e
  unfolding told_too linked_too
  unit_too steps e u = record {
    linked = u.linked;
    map = u.map;
    from = told_too u.linked u.map u.from;
    refusal = u.refusal;
    refused = u.refused;
    told = u.told;
    located = u.located;
  }

  pub refuses_too : (steps : ℕ) (e : CompileError) → RefusesToCompile found root asked max steps e → RefusesToCompile other root asked max steps e
  refuses_too steps e (inl linking) = inl (linking_too e linking)
  refuses_too steps e (inr unit) = inr (unit_too steps e unit)

  -- ---- texts

  pub compiled_too : (steps : ℕ) (text : List ℕ) → IsCompiledText found root asked max steps text → IsCompiledText other root asked max steps text
  unfolding linked_too
  compiled_too steps text t = record { linked = t.linked; from = linked_too t.linked t.from; compiled = t.compiled; keeps = t.keeps; has_program = t.has_program }

  -- the map, where the modules that are found have the same texts
  pub mapped_too : (texts others : Texts) (map : BasicSourceMap) → ((p : Path) (u : UnitTree) (text : List ℕ) → found p (unit_of u) → texts p text → others p text)
      → IsMapped found root asked max texts map → IsMapped other root asked max others map
  mapped_too texts others map same m = record {
    kept = m.kept;
    modules = m.modules;
    loaded = loaded_too m.kept m.modules m.loaded;
    each = λ one among.
        let t = m.each one among in
        let there = found_modules found root m.kept max m.modules m.loaded.loaded (path_text one.0) one.1 (record { path = one.0; stands = among; printed = refl }) in
        record { text = t.text; is_text = same (path_text one.0) one.1 t.text there t.is_text; stands = t.stands };
    only = m.only;
    default_text = record {
      text = m.default_text.text;
      is_text = same root m.loaded.are_kept.unit m.default_text.text m.loaded.are_kept.found m.default_text.is_text;
      stands = m.default_text.stands;
    };
    decls = m.decls;
  }
