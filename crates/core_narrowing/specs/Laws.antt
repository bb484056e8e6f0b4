-- Laws of units as modules of the whole language.
use Rattle.std.specs.Prelude.{◌≡◌}
use Rattle.core_syntax.specs.Tree.{UnitTree}
use Rattle.core_syntax.specs.Print as part
use Rattle.wgsl_declarations.specs.Print as whole
use Rattle.core_narrowing.specs.Widening.{widen_unit}

-- A unit is printed as the module of the whole language that it is.
abbrev pub UnitsPrintAlike : Type 0
UnitsPrintAlike = (u : UnitTree) → whole.unit_text (widen_unit u) ≡ part.unit_text u

-- A module of the whole language is one unit at most.
abbrev pub ModulesAreOneUnit : Type 0
ModulesAreOneUnit = (u v : UnitTree) → widen_unit u ≡ widen_unit v → u ≡ v
