-- What the answers of the cases say of a whole unit.
use Rattle.std.proofs.Common.{◌≡◌, ℕ, List, [], map, Option, Result, Ok, Err, sym, ap, ◌∙◌, subst}
use Rattle.std.specs.Prelude.{position, OnOk, IfErr}
use Rattle.std.specs.List.{flat_map}
use Rattle.std.specs.Result.{IsErrAnd}
use Rattle.std.specs.Str.{bytes_eq}
use Rattle.wgsl_path.specs.declared.span.Spanned.{Spanned}
use Rattle.core_syntax.specs.declared.declaration.GlobalDeclaration.{GlobalDeclaration}
use Rattle.core_syntax.specs.Tree.{UnitTree}
use Rattle.core_syntax.specs.View.{declaration_tree, unit_tree}
use Rattle.core_syntax.specs.declared.unit.TranslationUnit.{TranslationUnit}
use Rattle.core_syntax.specs.Names.{declared_name}
use Rattle.wgsl_base.specs.declared.items.error.OrOutOfMemory.TheVariants.{Error, OutOfMemory}
use Rattle.wgsl_base.specs.Memory.{UnlessOutOfMemory}
use Rattle.core_validate.specs.declared.place.Row.{Row}
use Rattle.core_validate.specs.Scopes.{Name, names, global_of, row_of, rows}
use Rattle.core_validate.specs.Lookups.{trees, declared}
use Rattle.core_validate.specs.Faults.{duplicates_in, duplicates_of, undefined_of, miscalls_of, IsFlat, IsFaultless, IsFirstFault, duplicate, undefined, miscall, ring, IsFirstRing, FindsRing}
use Rattle.core_validate.proofs.FaultLemmas.{Refusal, Refuses}
use Rattle.std.proofs.lemmas.Simd.{map-map}

-- ---- the rows of the code are those of the unit

pub rows_are : (u : TranslationUnit) (ds : List (Spanned GlobalDeclaration)) (look : Name → Option ℕ) (made : List Row) → ds ≡ u.global_declarations
    → ((x : Name) → look x ≡ position (bytes_eq x) (declared ds))
    → made ≡ map (row_of look) (trees ds) → made ≡ rows (unit_tree u)
rows_are u ds look made are is same =
    let names_are : names (unit_tree u) ≡ declared u.global_declarations = map-map declared_name (λ n. declaration_tree n.node) u.global_declarations in
    let looks : (x : Name) → look x ≡ global_of (unit_tree u) x =
    λ x. is x ∙ ap (λ xs. position (bytes_eq x) (declared xs)) are ∙ ap (position (bytes_eq x)) (sym names_are) in
    same ∙ (λ k. map (row_of (λ x. looks x k)) (trees (are k)))

pub distinct_is : (u : TranslationUnit) (ds : List (Spanned GlobalDeclaration)) → ds ≡ u.global_declarations → flat_map duplicates_in (trees ds) ≡ [] → duplicates_of (unit_tree u) ≡ []
distinct_is u ds are h = subst (λ xs. flat_map duplicates_in (trees xs) ≡ []) are h

-- ---- each case

abbrev pub NamesFirstFault : UnitTree → List Name → Refusal → Type 0
NamesFirstFault unit table = UnlessOutOfMemory (IsFirstFault unit table)

pub through : (U : Type 0) (unit : UnitTree) (table : List Name) (r : Result U Refusal) (e : Refusal) → IsErrAnd r (λ x. x ≡ e)
    → NamesFirstFault unit table e → IfErr r (NamesFirstFault unit table)
through U unit table (Ok x) e p h = absurd p
through U unit table (Err x) e p h = subst (NamesFirstFault unit table) (sym p) h

module _ (unit : UnitTree) (table : List Name) where
  pub names_duplicate : (e : Refusal) → Refuses (duplicates_of unit) e → NamesFirstFault unit table e
  names_duplicate (Error f) h = duplicate f h
  names_duplicate OutOfMemory h = tt

  pub names_undefined : (e : Refusal) → duplicates_of unit ≡ [] → Refuses (undefined_of unit table) e → NamesFirstFault unit table e
  names_undefined (Error f) d h = undefined f d h
  names_undefined OutOfMemory d h = tt

  pub names_miscall : (e : Refusal) → duplicates_of unit ≡ [] → undefined_of unit table ≡ [] → Refuses (miscalls_of unit) e → NamesFirstFault unit table e
  names_miscall (Error f) d u h = miscall f d u h
  names_miscall OutOfMemory d u h = tt

  pub names_ring : (e : Refusal) → IsFlat unit table → UnlessOutOfMemory (IsFirstRing (rows unit)) e → NamesFirstFault unit table e
  names_ring (Error f) flat h = subst (IsFirstFault unit table) (sym h.3) (ring h.0 h.1 flat h.2 h.4)
  names_ring OutOfMemory flat h = tt

  pub faultless : (U : Type 0) (r : Result U Refusal) → IsFlat unit table → FindsRing (rows unit) r → OnOk r (IsFaultless unit table)
  faultless U (Ok x) flat h = record { flat = flat; ringless = h }
  faultless U (Err e) flat h = tt

  pub ring_named : (U : Type 0) (r : Result U Refusal) → IsFlat unit table → FindsRing (rows unit) r → IfErr r (NamesFirstFault unit table)
  ring_named U (Ok x) flat h = tt
  ring_named U (Err e) flat h = names_ring e flat h
