-- The faults of a unit. Those of a case are listed in text order; the fault of a unit is the first of the first case that
-- has any. (The order of the cases is this project's own. The cases are errors of WGSL: "Declaration and Scope" for locals that
-- are declared twice, names that are not declared at all, or by means of themselves; "Function Calls" for callees and arguments. Two
-- declarations of one name are no fault here: clear names refuse them.)
use Rattle.std.specs.Prelude.{◌≡◌, ℕ, List, [], ◌∷◌, ◌++◌, slice_get, ◌==◌, Option, Some, None, if◌then◌else◌, Result, Ok, Err}
use Rattle.std.specs.List.{flat_map}
use Rattle.wgsl_base.specs.declared.items.error.OrOutOfMemory.{OrOutOfMemory}
use Rattle.wgsl_base.specs.Memory.{UnlessOutOfMemory}
use Rattle.core_syntax.specs.Tree.{Decl, UnitTree}
use Rattle.core_syntax.specs.Names.{declared_name}
use Rattle.core_validate.specs.declared.error.ValidateError.{ValidateError}
use Rattle.core_validate.specs.declared.error.ValidateError.TheVariants.{UndefinedSymbol, ParamCount, NotCallable, Duplicate, Cycle}
use Rattle.core_validate.specs.declared.error.ValidateFault.{ValidateFault}
use Rattle.core_validate.specs.declared.place.Meaning.{Meaning}
use Rattle.core_validate.specs.declared.place.Meaning.TheVariants.{Local, Global, Free}
use Rattle.core_validate.specs.declared.place.Place.{Place}
use Rattle.core_validate.specs.declared.place.Row.{Row}
use Rattle.core_validate.specs.Scopes.{Name, parameters_of, is_in, rows}
use Rattle.core_validate.specs.First.{first}
use Rattle.core_validate.specs.Rings.{IsOnRing, IsFirstOnRing}

abbrev pub fault : ValidateError → Name → Name → ValidateFault
fault kind holder x = record { kind = kind; declaration = holder; name = x }

-- ---- two parameters of one function of one name: the later is named

abbrev pub again : Name → List Name → Name → List ValidateFault
again holder before x = if is_in x before then fault Duplicate holder x ∷ [] else []

-- of names that stand after the names `before`
abbrev pub repeats : Name → List Name → List Name → List ValidateFault
repeats holder before [] = []
repeats holder before (x ∷ xs) = again holder before x ++ repeats holder (before ++ x ∷ []) xs

abbrev pub duplicates_in : Decl → List ValidateFault
duplicates_in d = repeats (declared_name d) [] (parameters_of d)

-- ---- a free name that the table does not have

abbrev pub undefined_in : List Name → Name → Name → Meaning → List ValidateFault
undefined_in table holder x Free = if is_in x table then [] else fault UndefinedSymbol holder x ∷ []
undefined_in table holder x Local = []
undefined_in table holder x (Global position) = []

abbrev pub undefined_at : List Name → Name → Place → List ValidateFault
undefined_at table holder p = undefined_in table holder p.name p.meaning

-- ---- a callee that is no function, or a function called with another number of arguments than it has parameters

abbrev pub arity_fault : ℕ → Option ℕ → Option ValidateError
arity_fault arguments None = Some NotCallable
arity_fault arguments (Some parameters) = if arguments == parameters then None else Some ParamCount

abbrev pub callee_fault : ℕ → Option Row → Option ValidateError
callee_fault arguments None = None
callee_fault arguments (Some row) = arity_fault arguments row.parameters

abbrev pub called_fault : List Row → ℕ → Meaning → Option ValidateError
called_fault rows arguments Local = Some NotCallable
called_fault rows arguments (Global position) = callee_fault arguments (slice_get rows position)
called_fault rows arguments Free = None

abbrev pub call_fault : List Row → Option ℕ → Meaning → Option ValidateError
call_fault rows None meaning = None
call_fault rows (Some arguments) meaning = called_fault rows arguments meaning

abbrev pub maybe_fault : Name → Name → Option ValidateError → List ValidateFault
maybe_fault holder x None = []
maybe_fault holder x (Some kind) = fault kind holder x ∷ []

abbrev pub miscall_at : List Row → Name → Place → List ValidateFault
miscall_at rows holder p = maybe_fault holder p.name (call_fault rows p.arguments p.meaning)

-- ---- the cases of a unit

-- the faults at the occurrences in each declaration
abbrev pub faults_at : (Name → Place → List ValidateFault) → List Row → List ValidateFault
faults_at at rows = flat_map (λ r. flat_map (at r.name) r.places) rows

abbrev pub duplicates_of : UnitTree → List ValidateFault
duplicates_of unit = flat_map duplicates_in unit.declarations

abbrev pub undefined_of : UnitTree → List Name → List ValidateFault
undefined_of unit table = faults_at (undefined_at table) (rows unit)

abbrev pub miscalls_of : UnitTree → List ValidateFault
miscalls_of unit = faults_at (miscall_at (rows unit)) (rows unit)

-- a unit has no fault that stands at one place
pub record IsFlat (unit : UnitTree) (table : List Name) : Type 0 where
  pub distinct : duplicates_of unit ≡ []
  pub defined : undefined_of unit table ≡ []
  pub called : miscalls_of unit ≡ []

-- a unit has no fault
pub record IsFaultless (unit : UnitTree) (table : List Name) : Type 0 where
  pub flat : IsFlat unit table
  pub ringless : (i : ℕ) → ¬ IsOnRing (rows unit) i

-- the fault of a unit: the first of the first case that has any
pub data IsFirstFault (unit : UnitTree) (table : List Name) : ValidateFault → Type 0 where
  duplicate : (f : ValidateFault) → first (duplicates_of unit) ≡ Some f → IsFirstFault unit table f
  undefined : (f : ValidateFault) → duplicates_of unit ≡ [] → first (undefined_of unit table) ≡ Some f → IsFirstFault unit table f
  miscall : (f : ValidateFault) → duplicates_of unit ≡ [] → undefined_of unit table ≡ [] → first (miscalls_of unit) ≡ Some f
      → IsFirstFault unit table f
  ring : (i : ℕ) (r : Row) → IsFlat unit table → slice_get (rows unit) i ≡ Some r → IsFirstOnRing (rows unit) i
      → IsFirstFault unit table (fault Cycle r.name r.name)

-- ---- the answer of one case

-- the first of these faults
abbrev pub IsFirstOf : List ValidateFault → ValidateFault → Type 0
IsFirstOf fs f = first fs ≡ Some f

-- an answer is the first of these faults, and there is none where it is no error
abbrev pub Finds : {T : Type 0} → List ValidateFault → Result T (OrOutOfMemory ValidateFault) → Type 0
Finds fs (Ok x) = fs ≡ []
Finds fs (Err e) = UnlessOutOfMemory (IsFirstOf fs) e

-- the fault of the first declaration on a ring
abbrev pub IsFirstRing : List Row → ValidateFault → Type 0
IsFirstRing rows f = (i : ℕ) × (r : Row) × (slice_get rows i ≡ Some r) × (f ≡ fault Cycle r.name r.name) × IsFirstOnRing rows i

-- an answer is the first declaration on a ring, and there is none where it is no error
abbrev pub FindsRing : {T : Type 0} → List Row → Result T (OrOutOfMemory ValidateFault) → Type 0
FindsRing rows (Ok x) = (i : ℕ) → IsOnRing rows i → ⊥
FindsRing rows (Err e) = UnlessOutOfMemory (IsFirstRing rows) e
