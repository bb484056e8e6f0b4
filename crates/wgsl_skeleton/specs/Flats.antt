-- A skeleton laid out flat, as one walk meets it, and read again with the scopes that are open.
use Rattle.std.specs.Prelude.{◌≡◌, ⊤, List, [], ◌∷◌, ◌++◌, map, Option, Some, None, if◌then◌else◌}
use Rattle.wgsl_path.specs.declared.path.ModulePath.{ModulePath}
pub use Rattle.wesl_mark.specs.Flats.{Flat, enters, leaves, declares, occurs}
use Rattle.wgsl_declarations.specs.Tree.{Decl}
use Rattle.wgsl_skeleton.specs.Skeleton.{Name, Node, occurrence, local, scope, node, Nodes, nil, cons}
use Rattle.wgsl_skeleton.specs.Occurrences.{Occurrence, hidden_by, occurrences, outside}
use Rattle.wgsl_skeleton.specs.Trees.{declaration_node}

abbrev mutual
  pub flat : Node → List Flat
  flat (occurrence path x arguments) = occurs path x ∷ all_flat arguments
  flat (local x) = declares x ∷ []
  flat (scope inside) = enters ∷ (all_flat inside ++ leaves ∷ [])
  flat (node label inside) = all_flat inside

  pub all_flat : Nodes → List Flat
  all_flat nil = []
  all_flat (cons n rest) = flat n ++ all_flat rest

-- ---- read again

-- what is open, the innermost first: the start of a scope, or a local
abbrev pub Trail : Type 0
Trail = List (Option Name)

-- the locals in scope
abbrev pub names_on : Trail → List Name
names_on [] = []
names_on (None ∷ t) = names_on t
names_on (Some x ∷ t) = x ∷ names_on t

-- what is open behind the innermost scope
abbrev pub outer : Trail → Trail
outer [] = []
outer (None ∷ t) = t
outer (Some x ∷ t) = outer t

-- the names that occur and that no local hides, with their paths
abbrev pub replayed : List Flat → Trail → List (Option ModulePath × Name)
replayed [] t = []
replayed (enters ∷ ms) t = replayed ms (None ∷ t)
replayed (leaves ∷ ms) t = replayed ms (outer t)
replayed (declares x ∷ ms) t = replayed ms (Some x ∷ t)
replayed (occurs path x ∷ ms) t = if hidden_by path x (names_on t) then replayed ms t else (path, x) ∷ replayed ms t

abbrev pub names_of : List Occurrence → List (Option ModulePath × Name)
names_of os = map (λ o. (o.path, o.name)) os

-- ---- skeletons whose locals stand in lists of scopes alone

abbrev pub IsNoLocal : Node → Type 0
IsNoLocal (occurrence path x arguments) = ⊤
IsNoLocal (local x) = ⊥
IsNoLocal (scope inside) = ⊤
IsNoLocal (node label inside) = ⊤

abbrev mutual
  pub IsTidy : Node → Type 0
  IsTidy (occurrence path x arguments) = AreTidyParts arguments
  IsTidy (local x) = ⊤
  IsTidy (scope inside) = AreTidy inside
  IsTidy (node label inside) = AreTidyParts inside

  -- the list of a scope
  pub AreTidy : Nodes → Type 0
  AreTidy nil = ⊤
  AreTidy (cons n rest) = IsTidy n × AreTidy rest

  -- any other list
  pub AreTidyParts : Nodes → Type 0
  AreTidyParts nil = ⊤
  AreTidyParts (cons n rest) = IsNoLocal n × IsTidy n × AreTidyParts rest

-- ---- laws

-- what is laid out flat says what the skeleton says
abbrev pub FlatSaysUses : Type 0
FlatSaysUses = (n : Node) → IsNoLocal n → IsTidy n → replayed (flat n) [] ≡ names_of (outside (occurrences [] n))

-- skeletons of declarations are of this kind
abbrev pub DeclarationsAreTidy : Type 0
DeclarationsAreTidy = (d : Decl) → IsNoLocal (declaration_node d) × IsTidy (declaration_node d)
