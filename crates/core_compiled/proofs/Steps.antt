-- What the steps say of the whole.
use Rattle.std.proofs.Common.{ℕ, List}
use Rattle.core_syntax.specs.Tree.{UnitTree}
use Rattle.core_unit.specs.declared.error.UnitRefusal.{UnitRefusal}
use Rattle.core_unit.specs.declared.error.UnitRefusal.TheVariants.{Validate, UnclearName, Eval, Unprintable, GaveUp, OutOfMemory}
use Rattle.core_unit.specs.Compiled.{IsValid, IsClear, IsCompiled, IsLoweredText, RefusesLowering, Refuses}
use Rattle.core_unit.proofs.ClearLemmas.{clear-names}

-- Each step went well, and clear names are no names of types, so that lowering keeps runs.
pub compiled : (steps : ℕ) (unit : UnitTree) (text : List ℕ) → IsValid unit → IsClear unit → IsLoweredText steps unit text → IsCompiled steps unit text
compiled steps unit text valid clear h = record {
  low = h.low;
  lowered = record { valid = valid; clear = clear; lowered = h.lowered };
  whole = h.whole;
  reads = h.reads;
  keeps = h.keeps (clear-names unit clear);
}

pub refused : (steps : ℕ) (unit : UnitTree) (refusal : UnitRefusal) → IsValid unit → IsClear unit → RefusesLowering steps unit refusal → Refuses steps unit refusal
refused steps unit (Validate f) valid clear h = absurd h
refused steps unit (UnclearName x) valid clear h = absurd h
refused steps unit (Eval r) valid clear h = (valid, clear, h)
refused steps unit (Unprintable x) valid clear (low, lowers, unprintable) = (low, record { valid = valid; clear = clear; lowered = lowers }, unprintable)
refused steps unit (GaveUp r) valid clear h = tt
refused steps unit OutOfMemory valid clear h = tt
