-- Laws of memory.
use Rattle.std.specs.Prelude.{◌≡◌, ◌≢◌, ◌⊎◌, ◌++◌, List, Some, Ok}
use Rattle.wgsl_instance.specs.declared.tree.RefInstance.{RefInstance}
use Rattle.wgsl_instance.specs.declared.tree.Step.{Step}
use Rattle.wgsl_instance.specs.declared.tree.Instance.{Instance}
use Rattle.wgsl_instance.specs.declared.tree.Instance.TheVariants as v
use Rattle.wgsl_memory.specs.Places.{place, written, loaded}

-- What is written to a place is what then stands there.
abbrev pub WrittenIsThere : Type 0
WrittenIsThere = (memory after : List Instance) (r : RefInstance) (x : Instance) → written memory r x ≡ Ok after → place after r ≡ Some x

-- one path is the beginning of the other
abbrev pub IsBeginning : List Step → List Step → Type 0
IsBeginning begin path = (rest : List Step) × (path ≡ begin ++ rest)

-- Two places are apart where they are in other cells, or where neither path is a beginning of the other.
abbrev pub AreApart : RefInstance → RefInstance → Type 0
AreApart r s = (r.cell ≢ s.cell) ⊎ (¬ IsBeginning r.path s.path × ¬ IsBeginning s.path r.path)

-- A write changes no place apart from the one that is written.
abbrev pub OthersStay : Type 0
OthersStay = (memory after : List Instance) (r s : RefInstance) (x : Instance) → written memory r x ≡ Ok after → AreApart r s → place after s ≡ place memory s

abbrev pub IsNoReference : Instance → Type 0
IsNoReference x = (r : RefInstance) → x ≡ v.Ref r → ⊥

-- no place of memory holds a reference: references aren't storable
abbrev pub HoldsNoReference : List Instance → Type 0
HoldsNoReference memory = (r : RefInstance) (x : Instance) → place memory r ≡ Some x → IsNoReference x

-- To load twice is to load once.
abbrev pub LoadedTwiceIsOnce : Type 0
LoadedTwiceIsOnce = (memory : List Instance) (x y : Instance) → HoldsNoReference memory → loaded memory x ≡ Ok y → loaded memory y ≡ Ok y
