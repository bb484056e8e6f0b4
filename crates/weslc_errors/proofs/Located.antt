-- The declaration that a refusal of the linked unit names is a held symbol's, which the map tells.
use Rattle.std.proofs.Common.{◌≡◌, ℕ, List, [], ◌∷◌, map, refl, subst, Contains}
use Rattle.core_syntax.specs.Tree.{Decl, variable, function, UnitTree}
use Rattle.wesl_resolve.specs.SourceMaps.{decl_at}
use Rattle.wesl_resolve.specs.declared.source_map.BasicSourceMap.{BasicSourceMap}
use Rattle.core_link_spec.specs.Occurrences.{Name, declared_name}
use Rattle.core_link_spec.specs.Modules.{Path, Modules, Declares}
use Rattle.core_link_spec.specs.Rounds.{Sources}
use Rattle.core_link.specs.Recording.{Telling, IsHeldAs}
use Rattle.core_laws.specs.Runs.{AreLinkedWell}
use Rattle.core_laws.proofs.MeaningDeclared.{linked_units_declare_what_is_held}
use Rattle.core_validate.specs.Scopes.{name_of, names}
use Rattle.core_unit.specs.declared.error.UnitRefusal.{UnitRefusal}
use Rattle.core_unit.specs.Compiled.{Refuses}
use Rattle.core_unit.proofs.Located.{refusals_are_in_declarations}
use Rattle.weslc_errors.specs.Mapped.{TellsHeld, IsLocated}
use Rattle.weslc_errors.specs.Told.{Tells}
use Rattle.weslc_errors.specs.Answers.{IsToldFrom, IsRefusedUnit}
use Rattle.weslc_errors.specs.declared.error.CompileError.{CompileError}

same_name : (d : Decl) → name_of d ≡ declared_name d
same_name (variable attributes kind name type initializer) = refl
same_name (function attributes name parameters result_attributes result body) = refl

same_names : (ds : List Decl) → map name_of ds ≡ map declared_name ds
same_names [] = refl
same_names (d ∷ ds) = λ k. same_name d k ∷ same_names ds k

-- what the linked unit declares is located
declared_located : (modules : Modules) (root : Path) (kept : List Name) (linked : UnitTree) → AreLinkedWell modules root kept linked → (tell : Telling) → TellsHeld modules root kept tell
    → (y : Name) → Declares linked y → IsLocated modules root kept tell y
declared_located modules root kept linked well tell tells y declares =
    let is = (linked_units_declare_what_is_held modules root kept linked well).only y declares in
    let held : IsHeldAs modules root kept y is.0 = record { reached = is.1.held; printed = is.1.printed } in
    record { symbol = is.0; held = held; told = tells.each y is.0 held }

module _ (found : Sources) (root : Path) (asked : List Name) (max : ℕ) where
  pub refused_unit : (steps : ℕ) (linked : UnitTree) (map : BasicSourceMap) → IsToldFrom found root asked max linked map → (refusal : UnitRefusal) (e : CompileError) → Refuses steps linked refusal
      → Tells (decl_at map) refusal e → IsRefusedUnit found root asked max steps e
  refused_unit steps linked map from refusal e refused told = record {
    linked = linked;
    map = map;
    from = from;
    refusal = refusal;
    refused = refused;
    told = told;
    located = λ y is. declared_located from.from.modules root from.from.kept linked from.from.linked_well (decl_at map) from.decls y
        (subst (λ xs. Contains xs y) (same_names linked.declarations) (refusals_are_in_declarations steps linked refusal y refused is));
  }
