-- Names of items that tell apart the modules that declare them (this project's own, after WESL's "Name Mangling").
use Rattle.std.specs.Prelude.{ℕ, zero, suc, List, [], ◌∷◌, ◌++◌, ◌==◌, if◌then◌else◌, codes, count_by}
use Rattle.std.specs.List.{flat_map}
use Rattle.std.specs.Fmt.{decimal}
use Rattle.wgsl_path.specs.declared.path.PathOrigin.{PathOrigin}
use Rattle.wgsl_path.specs.declared.path.PathOrigin.TheVariants.{Absolute, Relative, Package}
use Rattle.wgsl_path.specs.declared.path.ModulePath.{ModulePath}

-- how many underscores a name has
abbrev pub underscores : List ℕ → ℕ
underscores name = count_by (λ c. c == 95) name

-- a part of a name: as it is, or where it has underscores behind `_` and their number
abbrev pub escaped : List ℕ → List ℕ
escaped part = if underscores part == 0 then part else 95 ∷ (decimal (underscores part) ++ part)

-- parts, each behind `_`
abbrev pub escaped_parts : List (List ℕ) → List ℕ
escaped_parts parts = flat_map (λ part. 95 ∷ escaped part) parts

-- `_super` so many times
abbrev pub more_supers : ℕ → List ℕ
more_supers zero = []
more_supers (suc n) = more_supers n ++ codes "_super"

abbrev pub mangled_origin : PathOrigin → List ℕ
mangled_origin Absolute = codes "package"
mangled_origin (Relative zero) = codes "self"
mangled_origin (Relative (suc n)) = codes "super" ++ more_supers n
mangled_origin (Package name) = escaped name

-- the name of an item of a module: the origin, the components and the item, with `_` between
abbrev pub mangled : ModulePath → List ℕ → List ℕ
mangled path item = mangled_origin path.origin ++ escaped_parts path.components ++ escaped_parts (item ∷ [])
