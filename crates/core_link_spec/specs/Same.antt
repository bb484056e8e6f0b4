-- Lists of modules with the same elements.
use Rattle.std.specs.Prelude.{◌↔◌}
use Rattle.std.specs.List.{Contains}
use Rattle.wgsl_path.specs.declared.path.ModulePath.{ModulePath}
use Rattle.core_syntax.specs.Tree.{UnitTree}
use Rattle.core_link_spec.specs.Modules.{Modules}

-- whatever the order
abbrev pub SameModules : Modules → Modules → Type 0
SameModules one other = (m : ModulePath × UnitTree) → Contains one m ↔ Contains other m
