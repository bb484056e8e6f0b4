-- Paths that go on from others, and paths that begin with others.
use Rattle.std.specs.Prelude.{◌≡◌, ℕ, zero, ◌+◌, ◌-◌, ◌^◌, min, List, [], ◌++◌, length, take}
use Rattle.wgsl_path.specs.declared.path.PathOrigin.{PathOrigin}
use Rattle.wgsl_path.specs.declared.path.PathOrigin.TheVariants.{Absolute, Relative, Package}
use Rattle.wgsl_path.specs.declared.path.ModulePath.{ModulePath}

-- the root of the own package: `package`
abbrev pub root_path : ModulePath
root_path = record { origin = Absolute; components = [] }

-- the own module: `self`
abbrev pub self_path : ModulePath
self_path = record { origin = Relative 0; components = [] }

-- more names behind a path
abbrev pub with_names : ModulePath → List (List ℕ) → ModulePath
with_names path names = record { origin = path.origin; components = path.components ++ names }

-- So many levels above an origin: a relative one has as many more `super`, and never more than a `usize` counts; above a root there is
-- nothing but the root.
abbrev pub origin_above : ℕ → PathOrigin → PathOrigin
origin_above levels Absolute = Absolute
origin_above levels (Relative supers) = Relative (min (supers + levels) (2 ^ 64 - 1))
origin_above levels (Package name) = Package name

-- So many levels above a module: as many of its path's last names go, and what is left over goes up from its origin.
abbrev pub path_up : ℕ → ModulePath → ModulePath
path_up levels path = record { origin = origin_above (levels - length path.components) path.origin; components = take (length path.components - levels) path.components }

-- An origin and names, as seen from a module: a relative origin goes as many levels above the module as it has `super`, and the names
-- follow; any other stands for itself.
abbrev pub seen_from : ModulePath → PathOrigin → List (List ℕ) → ModulePath
seen_from path Absolute names = record { origin = Absolute; components = names }
seen_from path (Relative supers) names = with_names (path_up supers path) names
seen_from path (Package name) names = record { origin = Package name; components = names }

-- a path behind another
abbrev pub joined : ModulePath → ModulePath → ModulePath
joined path suffix = seen_from path suffix.origin suffix.components

-- how many `super` an origin has; a root has none
abbrev pub supers_of : PathOrigin → ℕ
supers_of Absolute = zero
supers_of (Relative supers) = supers
supers_of (Package name) = zero

-- names that are others, and more behind them
abbrev pub BeginsWith : List (List ℕ) → List (List ℕ) → Type 0
BeginsWith names first = (rest : List (List ℕ)) × (names ≡ first ++ rest)

-- the origin is the same, and the names begin with those of the other
abbrev pub StartsWith : ModulePath → ModulePath → Type 0
StartsWith path prefix = (path.origin ≡ prefix.origin) × BeginsWith path.components prefix.components
