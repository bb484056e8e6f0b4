-- A unit is compiled or refused in one way, whatever does it.
use Rattle.std.specs.Prelude.{◌≡◌, ⊤, List, ℕ}
use Rattle.core_syntax.specs.Tree.{UnitTree}
use Rattle.core_unit.specs.declared.error.UnitRefusal.{UnitRefusal}
use Rattle.core_unit.specs.declared.error.UnitRefusal.TheVariants.{Validate, UnclearName, Eval, Unprintable, GaveUp, OutOfMemory}
use Rattle.core_unit.specs.Compiled.{IsCompiled, Refuses}

-- Two refusals tell the same. That memory was refused, or that the parser gave up on what was printed, tells nothing.
abbrev pub SameRefusal : UnitRefusal → UnitRefusal → Type 0
SameRefusal (Validate f) (Validate g) = f ≡ g
SameRefusal (UnclearName x) (UnclearName y) = x ≡ y
SameRefusal (Eval r) (Eval q) = r ≡ q
SameRefusal (Unprintable x) (Unprintable y) = x ≡ y
SameRefusal OutOfMemory q = ⊤
SameRefusal (GaveUp g) q = ⊤
SameRefusal r OutOfMemory = ⊤
SameRefusal r (GaveUp h) = ⊤
SameRefusal r q = ⊥

-- a unit has one compiled text
abbrev pub CompiledOnce : Type 0
CompiledOnce = (steps : ℕ) (unit : UnitTree) (one other : List ℕ) → IsCompiled steps unit one → IsCompiled steps unit other → one ≡ other

-- it is refused in one way
abbrev pub RefusedOnce : Type 0
RefusedOnce = (steps : ℕ) (unit : UnitTree) (one other : UnitRefusal) → Refuses steps unit one → Refuses steps unit other → SameRefusal one other

-- memory was refused, or the parser gave up on what was printed
abbrev pub TellsNothing : UnitRefusal → Type 0
TellsNothing (Validate f) = ⊥
TellsNothing (UnclearName x) = ⊥
TellsNothing (Eval r) = ⊥
TellsNothing (Unprintable x) = ⊥
TellsNothing (GaveUp r) = ⊤
TellsNothing OutOfMemory = ⊤

-- what is compiled is refused so alone
abbrev pub CompiledOrRefused : Type 0
CompiledOrRefused = (steps : ℕ) (unit : UnitTree) (text : List ℕ) (refusal : UnitRefusal) → IsCompiled steps unit text → Refuses steps unit refusal → TellsNothing refusal
