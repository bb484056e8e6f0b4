-- Places in a text, and paths of modules.
use denote.Ref.{Bor}
use Rattle.std.specs.Prelude.{ℕ, zero, suc, List, [], ◌++◌, codes, Option, Some, None}
use Rattle.std.specs.List.{flat_map}
use Rattle.wgsl_path.specs.declared.span.Span.{Span}
use Rattle.wgsl_path.specs.declared.ident.Ident.{Ident}
use Rattle.wgsl_path.specs.declared.path.PathOrigin.{PathOrigin}
use Rattle.wgsl_path.specs.declared.path.PathOrigin.TheVariants.{Absolute, Relative, Package}
use Rattle.wgsl_path.specs.declared.path.ModulePath.{ModulePath}

-- from the beginning of one place to the end of another
abbrev pub across : Span → Span → Span
across first last = record { start = first.start; end = last.end }

-- the identifier of a name, without a symbol number
abbrev pub ident_of : List ℕ → Ident
ident_of name = record { name = name; symbol = None }

-- `::super` so many times
abbrev pub supers : ℕ → List ℕ
supers zero = []
supers (suc n) = supers n ++ codes "::super"

-- how an origin is written: `package`, `self`, `super::super` or the package's name
abbrev pub origin_text : PathOrigin → List ℕ
origin_text Absolute = codes "package"
origin_text (Relative zero) = codes "self"
origin_text (Relative (suc n)) = codes "super" ++ supers n
origin_text (Package name) = name

-- how the components of a path are written: each behind `::`
abbrev pub components_text : List (List ℕ) → List ℕ
components_text components = flat_map (λ component. codes "::" ++ component) components

-- how a path is written: its origin and its components, with `::` between
abbrev pub path_text : ModulePath → List ℕ
path_text path = origin_text path.origin ++ components_text path.components

-- what stands behind a part of a path's text: nothing, or `::` and the rest
abbrev pub rest_text : Option (Bor (List ℕ)) → List ℕ
rest_text None = []
rest_text (Some rest) = codes "::" ++ rest.now
