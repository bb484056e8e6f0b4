-- The names of symbols in the linked text.
use Rattle.std.specs.Prelude.{◌≡◌}
use Rattle.std.specs.List.{Contains}
use Rattle.wgsl_path.specs.declared.path.ModulePath.{ModulePath}
use Rattle.wgsl_path.specs.Paths.{path_text}
use Rattle.core_syntax.specs.Tree.{UnitTree}
use Rattle.wesl_resolve.specs.Mangling.{mangled}
use Rattle.core_link_spec.specs.Occurrences.{Name}
use Rattle.core_link_spec.specs.Modules.{Path, Symbol, Modules}

-- the name of a symbol of a loaded module in the linked text: the root's names stay
pub data IsPrinted (modules : Modules) (root : Path) : Symbol → Name → Type 0 where
  stays : {x : Name} → IsPrinted modules root (record { home = root; name = x }) x
  is_mangled : {s : Symbol} {path : ModulePath} {u : UnitTree} → (s.home ≡ root → ⊥) → Contains modules (path, u) → path_text path ≡ s.home
      → IsPrinted modules root s (mangled path s.name)
