-- Which names occur in a skeleton, in text order, each with the locals in scope there, the nearest first (WGSL, "Declaration and
-- Scope").
use Rattle.std.specs.Prelude.{List, [], ◌∷◌, ◌++◌, Option, Some, None, Bool, false, if◌then◌else◌}
use Rattle.std.specs.List.{list_any}
use Rattle.std.specs.Str.{bytes_eq}
use Rattle.wgsl_path.specs.declared.path.ModulePath.{ModulePath}
use Rattle.wgsl_skeleton.specs.Skeleton.{Name, Node, occurrence, local, scope, node, Nodes, nil, cons}

pub record Occurrence : Type 0 where
  pub path : Option ModulePath
  pub name : Name
  pub locals : List Name

-- the locals in scope behind a node of a list
abbrev pub behind : List Name → Node → List Name
behind locals (local x) = x ∷ locals
behind locals n = locals

abbrev mutual
  pub occurrences : List Name → Node → List Occurrence
  occurrences locals (occurrence path x arguments) = record { path = path; name = x; locals = locals } ∷ all_occurrences locals arguments
  occurrences locals (local x) = []
  occurrences locals (scope inside) = all_occurrences locals inside
  occurrences locals (node l inside) = all_occurrences locals inside

  pub all_occurrences : List Name → Nodes → List Occurrence
  all_occurrences locals nil = []
  all_occurrences locals (cons n rest) = occurrences locals n ++ all_occurrences (behind locals n) rest

abbrev pub is_among : Name → List Name → Bool
is_among x names = list_any (λ y. bytes_eq x y) names

-- a name without a path denotes the local of that name, if there is one; any other name asks the module
abbrev pub hidden_by : Option ModulePath → Name → List Name → Bool
hidden_by None x locals = is_among x locals
hidden_by (Some path) x locals = false

abbrev pub denotes_local : Occurrence → Bool
denotes_local o = hidden_by o.path o.name o.locals

-- the occurrences that no local hides
abbrev pub outside : List Occurrence → List Occurrence
outside [] = []
outside (o ∷ os) = if denotes_local o then outside os else o ∷ outside os
