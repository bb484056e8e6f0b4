-- The new name at a place where a name is read.
use Rattle.std.specs.Prelude.{Option, Some, None}
use Rattle.wgsl_path.specs.declared.path.ModulePath.{ModulePath}
use Rattle.core_link_spec.specs.Occurrences.{Name}

-- a name alone takes its new one, and a name behind a path stays
abbrev pub renamed_at : (Name → Name) → Option ModulePath → Name → Name
renamed_at new None x = new x
renamed_at new (Some path) x = x
