-- Each fault of a case names the declaration in which it stands, so a unit's fault names one that the unit declares.
use Rattle.std.proofs.Common.{◌≡◌, ◌⊎◌, inl, inr, ⊎_elim, List, [], ◌∷◌, ◌++◌, map, Bool, true, false, Option, Some, None, sym, ap, subst, Contains}
use Rattle.std.specs.Prelude.{if◌then◌else◌}
use Rattle.std.specs.List.{flat_map}
use Rattle.wgsl_base.proofs.Members.{first_in, later_in, to_contains, get_map}
use Rattle.core_syntax.specs.Tree.{Decl, UnitTree}
use Rattle.core_syntax.specs.Names.{declared_name}
use Rattle.core_validate.specs.declared.error.ValidateError.{ValidateError}
use Rattle.core_validate.specs.declared.error.ValidateError.TheVariants.{UndefinedSymbol, Duplicate}
use Rattle.core_validate.specs.declared.error.ValidateFault.{ValidateFault}
use Rattle.core_validate.specs.declared.place.Meaning.{Meaning}
use Rattle.core_validate.specs.declared.place.Meaning.TheVariants.{Local, Global, Free}
use Rattle.core_validate.specs.declared.place.Place.{Place}
use Rattle.core_validate.specs.declared.place.Row.{Row}
use Rattle.core_validate.specs.Scopes.{Name, parameters_of, is_in, names, global_of, row_of, rows}
use Rattle.core_validate.specs.First.{first}
use Rattle.core_validate.specs.Faults.{fault, again, repeats, duplicates_in, undefined_in, undefined_at, call_fault, maybe_fault, miscall_at, faults_at, duplicate, undefined, miscall, ring}
use Rattle.core_validate.specs.Located.{FaultsAreInDeclarations}
use Rattle.std.proofs.lemmas.Simd.{map-map}

-- ---- the first of two lists

either_first : {X : Type 0} (xs ys : List X) (x : X) → first (xs ++ ys) ≡ Some x → (first xs ≡ Some x) ⊎ (first ys ≡ Some x)
either_first [] ys x h = inr h
either_first (y ∷ xs) ys x h = inl h

-- ---- one declaration

alone_at : (kind : ValidateError) (holder x : Name) (b : Bool) (f : ValidateFault) → first (if b then fault kind holder x ∷ [] else []) ≡ Some f → f.declaration ≡ holder
alone_at kind holder x true f h = let same : fault kind holder x ≡ f = cc in sym (ap (λ (g : ValidateFault). g.declaration) same)
alone_at kind holder x false f h = absurd (cc)

absent_at : (kind : ValidateError) (holder x : Name) (b : Bool) (f : ValidateFault) → first (if b then [] else fault kind holder x ∷ []) ≡ Some f → f.declaration ≡ holder
absent_at kind holder x true f h = absurd (cc)
absent_at kind holder x false f h = let same : fault kind holder x ≡ f = cc in sym (ap (λ (g : ValidateFault). g.declaration) same)

repeats_at : (holder : Name) (before xs : List Name) (f : ValidateFault) → first (repeats holder before xs) ≡ Some f → f.declaration ≡ holder
repeats_at holder before [] f h = absurd (cc)
repeats_at holder before (x ∷ xs) f h =
    ⊎_elim (alone_at Duplicate holder x (is_in x before) f) (repeats_at holder (before ++ x ∷ []) xs f)
    (either_first (again holder before x) (repeats holder (before ++ x ∷ []) xs) f h)

undefined_here : (table : List Name) (holder x : Name) (m : Meaning) (f : ValidateFault) → first (undefined_in table holder x m) ≡ Some f → f.declaration ≡ holder
undefined_here table holder x Free f h = absent_at UndefinedSymbol holder x (is_in x table) f h
undefined_here table holder x Local f h = absurd (cc)
undefined_here table holder x (Global position) f h = absurd (cc)

maybe_here : (holder x : Name) (kind : Option ValidateError) (f : ValidateFault) → first (maybe_fault holder x kind) ≡ Some f → f.declaration ≡ holder
maybe_here holder x None f h = absurd (cc)
maybe_here holder x (Some kind) f h = let same : fault kind holder x ≡ f = cc in sym (ap (λ (g : ValidateFault). g.declaration) same)

-- ---- all declarations

repeated_in : (ds : List Decl) (f : ValidateFault) → first (flat_map duplicates_in ds) ≡ Some f → Contains (map declared_name ds) f.declaration
repeated_in [] f h = absurd (cc)
repeated_in (d ∷ ds) f h =
    ⊎_elim (λ inside. subst (Contains (map declared_name (d ∷ ds))) (sym (repeats_at (declared_name d) [] (parameters_of d) f inside)) (first_in (declared_name d) (map declared_name ds)))
    (λ more. later_in f.declaration (declared_name d) (map declared_name ds) (repeated_in ds f more))
    (either_first (duplicates_in d) (flat_map duplicates_in ds) f h)

-- what is found at a place names the declaration that holds the place
module _ (at : Name → Place → List ValidateFault) (named : (holder : Name) (p : Place) (f : ValidateFault) → first (at holder p) ≡ Some f → f.declaration ≡ holder) where
  places_at : (holder : Name) (ps : List Place) (f : ValidateFault) → first (flat_map (at holder) ps) ≡ Some f → f.declaration ≡ holder
  places_at holder [] f h = absurd (cc)
  places_at holder (p ∷ ps) f h = ⊎_elim (named holder p f) (places_at holder ps f) (either_first (at holder p) (flat_map (at holder) ps) f h)

  faults_in : (rs : List Row) (f : ValidateFault) → first (faults_at at rs) ≡ Some f → Contains (map (λ r. r.name) rs) f.declaration
  faults_in [] f h = absurd (cc)
  faults_in (r ∷ rs) f h =
      ⊎_elim (λ ps. subst (Contains (map (λ r. r.name) (r ∷ rs))) (sym (places_at r.name r.places f ps)) (first_in r.name (map (λ r. r.name) rs)))
      (λ more. later_in f.declaration r.name (map (λ r. r.name) rs) (faults_in rs f more))
      (either_first (flat_map (at r.name) r.places) (faults_at at rs) f h)

-- ---- the law

names_of_rows : (unit : UnitTree) → map (λ r. r.name) (rows unit) ≡ names unit
names_of_rows unit = map-map (λ (r : Row). r.name) (row_of (global_of unit)) unit.declarations

pub faults_are_in_declarations : FaultsAreInDeclarations
faults_are_in_declarations unit table _ (duplicate f h) = repeated_in unit.declarations f h
faults_are_in_declarations unit table _ (undefined f d h) =
    subst (λ xs. Contains xs f.declaration) (names_of_rows unit) (faults_in (undefined_at table) (λ holder p. undefined_here table holder p.name p.meaning) (rows unit) f h)
faults_are_in_declarations unit table _ (miscall f d u h) =
    subst (λ xs. Contains xs f.declaration) (names_of_rows unit)
    (faults_in (miscall_at (rows unit)) (λ holder p. maybe_here holder p.name (call_fault (rows unit) p.arguments p.meaning)) (rows unit) f h)
faults_are_in_declarations unit table _ (ring i r flat is least) =
    subst (λ xs. Contains xs r.name) (names_of_rows unit) (to_contains (map (λ r. r.name) (rows unit)) i r.name (get_map (λ (r : Row). r.name) (rows unit) i r is))
