-- What is compiled of a linked unit, and the first refusal (this project's own order: validation, clear names, values, text).
use Rattle.std.specs.Prelude.{◌≡◌, ⊤, List, ℕ, [], Some, Ok, Err}
use Rattle.core_syntax.specs.Tree.{UnitTree}
use Rattle.core_syntax.specs.Print.{unit_text}
use Rattle.core_texts.specs.Texts.{IsTextOf, IsUnprintable}
use Rattle.wgsl_words.specs.Builtin.{builtin_names}
use Rattle.core_validate.specs.First.{first}
use Rattle.core_validate.specs.Faults.{IsFaultless, IsFirstFault}
use Rattle.core_validate.specs.Clearness.{unclear}
use Rattle.core_lower.specs.Lowered.{Lowers}
use Rattle.core_lower.specs.Keeps.{AreClear, Keeps}
use Rattle.core_unit.specs.declared.error.UnitRefusal.{UnitRefusal}
use Rattle.core_unit.specs.declared.error.UnitRefusal.TheVariants.{Validate, UnclearName, Eval, Unprintable, GaveUp, OutOfMemory}

-- ---- the steps

-- a unit without fault
abbrev pub IsValid : UnitTree → Type 0
IsValid unit = IsFaultless unit builtin_names

-- each name of it is read as meant
abbrev pub IsClear : UnitTree → Type 0
IsClear unit = unclear unit builtin_names ≡ []

-- a valid unit with clear names, and what it is lowered to, where each evaluation may take so many steps
pub record IsLowered (steps : ℕ) (unit low : UnitTree) : Type 0 where
  pub valid : IsValid unit
  pub clear : IsClear unit
  pub lowered : Lowers steps unit (Ok low)

-- ---- what is answered

-- the text of what a unit is lowered to, which is read as that. Every run of the unit that ends well ends well in the lowered
-- unit, with the same answer and in no more steps.
pub record IsCompiled (steps : ℕ) (unit : UnitTree) (text : List ℕ) : Type 0 where
  pub low : UnitTree
  pub lowered : IsLowered steps unit low
  pub whole : text ≡ unit_text low
  pub reads : IsTextOf low text
  pub keeps : Keeps unit.declarations low.declarations

-- the text of what a unit is lowered to, where the unit is valid or not
pub record IsLoweredText (steps : ℕ) (unit : UnitTree) (text : List ℕ) : Type 0 where
  pub low : UnitTree
  pub lowered : Lowers steps unit (Ok low)
  pub whole : text ≡ unit_text low
  pub reads : IsTextOf low text
  pub keeps : AreClear unit.declarations → Keeps unit.declarations low.declarations

-- ---- what is refused: each case after those before it don't hold

abbrev pub RefusesInvalid : UnitTree → UnitRefusal → Type 0
RefusesInvalid unit (Validate f) = IsFirstFault unit builtin_names f
RefusesInvalid unit OutOfMemory = ⊤
RefusesInvalid unit (GaveUp r) = ⊥
RefusesInvalid unit (UnclearName x) = ⊥
RefusesInvalid unit (Eval r) = ⊥
RefusesInvalid unit (Unprintable x) = ⊥

abbrev pub RefusesUnclear : UnitTree → UnitRefusal → Type 0
RefusesUnclear unit (UnclearName x) = first (unclear unit builtin_names) ≡ Some x
RefusesUnclear unit OutOfMemory = ⊤
RefusesUnclear unit (GaveUp r) = ⊥
RefusesUnclear unit (Validate f) = ⊥
RefusesUnclear unit (Eval r) = ⊥
RefusesUnclear unit (Unprintable x) = ⊥

abbrev pub RefusesValues : ℕ → UnitTree → UnitRefusal → Type 0
RefusesValues steps unit (Eval r) = Lowers steps unit (Err r)
RefusesValues steps unit OutOfMemory = ⊤
RefusesValues steps unit (GaveUp r) = ⊥
RefusesValues steps unit (Validate f) = ⊥
RefusesValues steps unit (UnclearName x) = ⊥
RefusesValues steps unit (Unprintable x) = ⊥

-- a fault of a value, or that no text stands for what the unit is lowered to
abbrev pub RefusesLowering : ℕ → UnitTree → UnitRefusal → Type 0
RefusesLowering steps unit (Eval r) = Lowers steps unit (Err r)
RefusesLowering steps unit (Unprintable x) = (low : UnitTree) × Lowers steps unit (Ok low) × IsUnprintable low x
RefusesLowering steps unit OutOfMemory = ⊤
RefusesLowering steps unit (GaveUp r) = ⊤
RefusesLowering steps unit (Validate f) = ⊥
RefusesLowering steps unit (UnclearName x) = ⊥

abbrev pub Refuses : ℕ → UnitTree → UnitRefusal → Type 0
Refuses steps unit (Validate f) = IsFirstFault unit builtin_names f
Refuses steps unit (UnclearName x) = IsValid unit × (first (unclear unit builtin_names) ≡ Some x)
Refuses steps unit (Eval r) = IsValid unit × IsClear unit × Lowers steps unit (Err r)
Refuses steps unit (Unprintable x) = (low : UnitTree) × IsLowered steps unit low × IsUnprintable low x
Refuses steps unit OutOfMemory = ⊤
Refuses steps unit (GaveUp r) = ⊤
