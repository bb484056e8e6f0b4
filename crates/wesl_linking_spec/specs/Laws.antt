-- Laws of what is linked.
use Rattle.std.specs.Prelude.{◌≡◌, ℕ, [], None}
use Rattle.std.specs.List.{Contains}
use Rattle.wgsl_skeleton.specs.DeclarationsTree.{Decl}
use Rattle.wgsl_skeleton.specs.Occurrences.{Occurrence, occurrences}
use Rattle.wgsl_skeleton.specs.Trees.{declaration_node}
use Rattle.wgsl_skeleton.specs.Renaming.{Naming}
use Rattle.wesl_chains.specs.Outlines.{Path}
use Rattle.wesl_linking_spec.specs.Sources.{Modules}
use Rattle.wesl_linking_spec.specs.Written.{Mangler, IsWritten}

-- no name of a declaration that is written stands behind a path
abbrev pub WrittenHasNoPaths : Type 0
WrittenHasNoPaths = (ms : Modules) (root : Path) (mangler : Mangler) (m : Path) (k : ℕ) (f : Naming) (d e : Decl) → IsWritten ms root mangler m k f d e
    → (o : Occurrence) → Contains (occurrences [] (declaration_node e)) o → o.path ≡ None
