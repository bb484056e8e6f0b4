-- A skeleton in which every name that is no local's has a new name, and no path any more.
use Rattle.std.specs.Prelude.{List, Option, None, if◌then◌else◌}
use Rattle.wgsl_path.specs.declared.path.ModulePath.{ModulePath}
use Rattle.wgsl_skeleton.specs.Skeleton.{Name, Node, occurrence, local, scope, node, Nodes, nil, cons}
use Rattle.wgsl_skeleton.specs.Occurrences.{behind, hidden_by}

-- what a name, maybe behind a path, is called afterwards
abbrev pub Naming : Type 0
Naming = Option ModulePath → Name → Name

module _ (new : Naming) where
  abbrev pub new_name : Option ModulePath → Name → List Name → Name
  new_name path x locals = if hidden_by path x locals then x else new path x

  abbrev mutual
    pub renamed : List Name → Node → Node
    renamed locals (occurrence path x arguments) = occurrence None (new_name path x locals) (all_renamed locals arguments)
    renamed locals (local x) = local x
    renamed locals (scope inside) = scope (all_renamed locals inside)
    renamed locals (node l inside) = node l (all_renamed locals inside)

    pub all_renamed : List Name → Nodes → Nodes
    all_renamed locals nil = nil
    all_renamed locals (cons n rest) = cons (renamed locals n) (all_renamed (behind locals n) rest)
