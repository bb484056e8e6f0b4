-- A script without names, as that which only gives symbol numbers, leaves every tree as it is.
use Rattle.std.specs.Prelude.{◌≡◌, ⊤, [], ◌∷◌, None}
use Rattle.wgsl_declarations.specs.Tree.{UnitTree}
use Rattle.wesl_marks_mut.specs.Written.{Left}
use Rattle.wesl_marks_mut.specs.WrittenUnits.{unit_written}

abbrev pub HaveNoNames : Left → Type 0
HaveNoNames [] = ⊤
HaveNoNames (n ∷ ns) = (n.name ≡ None) × HaveNoNames ns

abbrev pub UnitsStay : Type 0
UnitsStay = (u : UnitTree) (s : Left) → HaveNoNames s → (unit_written u s).0 ≡ u
