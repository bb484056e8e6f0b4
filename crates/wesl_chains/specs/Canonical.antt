-- The path by which a module is asked for and named.
use Rattle.std.specs.Prelude.{[], Ok, Err}
use Rattle.wgsl_path.specs.declared.path.ModulePath.{ModulePath}
use Rattle.wgsl_path.specs.declared.path.PathOrigin.TheVariants.{Package}
use Rattle.wgsl_path.specs.Reading.{PathResult, parts, path_of}
use Rattle.wesl_chains.specs.Outlines.{Path}

abbrev pub path_or : Path → PathResult ModulePath → ModulePath
path_or p (Ok path) = path
path_or p (Err e) = record { origin = Package p; components = [] }

-- The path that a text is read as; of a text that is no path, a package of that name. Of the paths that print alike it is the one that a
-- module is asked for by, and that errors and maps name.
abbrev pub canonical : Path → ModulePath
canonical p = path_or p (path_of (parts p))
