-- Laws of paths.
use Rattle.std.specs.Prelude.{◌≡◌, ◌≢◌, ℕ, ◌+◌, ◌-◌, ◌<◌, ◌^◌, List, [], ◌∷◌, length, codes, Ok, ⊤}
use Rattle.std.specs.List.{All}
use Rattle.wgsl_path.specs.declared.path.PathOrigin.{PathOrigin}
use Rattle.wgsl_path.specs.declared.path.PathOrigin.TheVariants.{Absolute, Relative, Package}
use Rattle.wgsl_path.specs.declared.path.ModulePath.{ModulePath}
use Rattle.wgsl_path.specs.Paths.{path_text}
use Rattle.wgsl_path.specs.Reading.{parts, path_of}
use Rattle.wgsl_path.specs.Joining.{root_path, self_path, with_names, joined, supers_of, StartsWith}

-- The number of `super` that a path and another behind it make fits a `usize`: those of the first, and those of the second that its
-- names leave over.
abbrev pub SupersFit : ModulePath → ModulePath → Type 0
SupersFit path suffix = supers_of path.origin + (supers_of suffix.origin - length path.components) < 2 ^ 64

-- Three paths are joined in any order.
abbrev pub JoinsInAnyOrder : Type 0
JoinsInAnyOrder = (a b c : ModulePath) → SupersFit b c → joined (joined a b) c ≡ joined a (joined b c)

-- `package::m1` and `super::foo` behind it are `package::foo`; `super::m1::m2::m3` and `super::super::m4` are `super::m1::m4`; `self` and
-- `super::super::foo` are that; and `package` and `super::foo` are `package::foo`.
abbrev pub WorkedJoins : Type 0
WorkedJoins =
    (joined (record { origin = Absolute; components = codes "m1" ∷ [] }) (record { origin = Relative 1; components = codes "foo" ∷ [] })
    ≡ record { origin = Absolute; components = codes "foo" ∷ [] })
    × (joined (record { origin = Relative 1; components = codes "m1" ∷ codes "m2" ∷ codes "m3" ∷ [] }) (record { origin = Relative 2; components = codes "m4" ∷ [] })
    ≡ record { origin = Relative 1; components = codes "m1" ∷ codes "m4" ∷ [] })
    × (joined self_path (record { origin = Relative 2; components = codes "foo" ∷ [] }) ≡ record { origin = Relative 2; components = codes "foo" ∷ [] })
    × (joined root_path (record { origin = Relative 1; components = codes "foo" ∷ [] }) ≡ record { origin = Absolute; components = codes "foo" ∷ [] })

-- The path `self` changes nothing. The premise holds of each value, since `super` is counted in a `usize`.
abbrev pub SelfBefore : Type 0
SelfBefore = (path : ModulePath) → supers_of path.origin < 2 ^ 64 → joined self_path path ≡ path

abbrev pub SelfBehind : Type 0
SelfBehind = (path : ModulePath) → supers_of path.origin < 2 ^ 64 → joined path self_path ≡ path

-- A path starts with itself.
abbrev pub BeginsWithItself : Type 0
BeginsWithItself = (path : ModulePath) → StartsWith path path

-- What starts with a path starts with what that starts with.
abbrev pub BeginsAlong : Type 0
BeginsAlong = (a b c : ModulePath) → StartsWith a b → StartsWith b c → StartsWith a c

-- A path with more names behind it starts with the path.
abbrev pub BeginsWithTheFirst : Type 0
BeginsWithTheFirst = (path : ModulePath) (names : List (List ℕ)) → StartsWith (with_names path names) path

-- without `:`
abbrev pub HasNoColon : List ℕ → Type 0
HasNoColon name = All (λ c. c ≢ 58) name

-- not empty, none of the words of origins, and without `:`, as each identifier is
abbrev pub IsPlainName : List ℕ → Type 0
IsPlainName name = HasNoColon name × (name ≢ codes "") × (name ≢ codes "package") × (name ≢ codes "self") × (name ≢ codes "super")

-- the name of a package is such a name
abbrev pub IsPlainOrigin : PathOrigin → Type 0
IsPlainOrigin Absolute = ⊤
IsPlainOrigin (Relative supers) = ⊤
IsPlainOrigin (Package name) = IsPlainName name

abbrev pub IsPlainPath : ModulePath → Type 0
IsPlainPath path = IsPlainOrigin path.origin × All IsPlainName path.components

-- A path of plain names is printed as a text that is read as that path.
abbrev pub PrintsToBeRead : Type 0
PrintsToBeRead = (path : ModulePath) → IsPlainPath path → path_of (parts (path_text path)) ≡ Ok path

-- Two of them that are printed alike are one.
abbrev pub PrintedOnce : Type 0
PrintedOnce = (p q : ModulePath) → IsPlainPath p → IsPlainPath q → path_text p ≡ path_text q → p ≡ q
