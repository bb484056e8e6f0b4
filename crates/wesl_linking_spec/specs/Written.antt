-- How directives and declarations are written into the linked unit: names that denote declarations under printed names, without paths.
use Rattle.std.specs.Prelude.{◌≡◌, ℕ, List, [], Option, Some, None, if◌then◌else◌, slice_get}
use Rattle.std.specs.List.{Contains}
use Rattle.std.specs.Option.{option_map}
use Rattle.std.specs.Str.{bytes_eq}
use Rattle.wesl_chains.specs.ModulePath.{ModulePath}
use Rattle.wgsl_skeleton.specs.ImportsTree.{Directive, diagnostic, enabling, requiring}
use Rattle.wgsl_skeleton.specs.DeclarationsTree.{Decl}
use Rattle.wgsl_skeleton.specs.Skeleton as l
use Rattle.wgsl_skeleton.specs.Skeleton.{Node, occurrence, local, scope, node, Nodes, nil, cons}
use Rattle.wgsl_skeleton.specs.Trees.{named_node, declaration_node}
use Rattle.wgsl_skeleton.specs.Renaming.{Naming, renamed}
use Rattle.wesl_chains.specs.Outlines.{Name, Path, Use, Entry, Outline}
use Rattle.wesl_chains.specs.Senses.{sense, free}
use Rattle.wesl_chains.specs.Chains.{declared_at, Denotes}
use Rattle.wesl_chains.specs.Reaching.{IsAt}
use Rattle.wesl_linking_spec.specs.Outlining.{directive_node}
use Rattle.wesl_linking_spec.specs.Sources.{Modules, finder}

-- ---- renamed skeletons

-- how an occurrence is read once it is written: the name `_` alone denotes nothing
abbrev pub read_node : Option ModulePath → Name → Nodes → Node
read_node path x nil = named_node path x nil
read_node path x (cons n ns) = occurrence path x (cons n ns)

abbrev mutual
  pub reread : Node → Node
  reread (occurrence path x arguments) = read_node path x (all_reread arguments)
  reread (local x) = local x
  reread (scope inside) = scope (all_reread inside)
  reread (node label inside) = node label (all_reread inside)

  pub all_reread : Nodes → Nodes
  all_reread nil = nil
  all_reread (cons n rest) = cons (reread n) (all_reread rest)

-- the skeleton of what is written by new names
abbrev pub written : Naming → Node → Node
written f n = reread (renamed f [] n)

-- the name that a declaration declares is this one
abbrev pub called_label : Name → l.Label → l.Label
called_label y (l.variable kind x) = l.variable kind y
called_label y (l.alias x) = l.alias y
called_label y (l.structure x) = l.structure y
called_label y (l.function x) = l.function y
called_label y label = label

abbrev pub called : Name → Node → Node
called y (node label inside) = node (called_label y label) inside
called y n = n

-- a directive without its attributes: its kind, and its severity and words
abbrev pub directive_words : Directive → Directive
directive_words (diagnostic attributes severity rule) = diagnostic [] severity rule
directive_words (enabling attributes names) = enabling [] names
directive_words (requiring attributes names) = requiring [] names

-- under this name, if it has one
abbrev pub called_by : Option Name → Node → Node
called_by None n = n
called_by (Some y) n = called y n

-- ---- printed names

-- the name under which an item of a module is printed
abbrev pub Mangler : Type 0
Mangler = ModulePath → Name → Name

module _ (ms : Modules) (root : Path) (mangler : Mangler) where
  -- the printed name of a name that a module declares: the root's stays, others are mangled
  abbrev pub name_printed : Path → ModulePath → Name → Name
  name_printed m path x = if bytes_eq m root then x else mangler path x

  abbrev pub entry_printed : Path → ModulePath → Option Entry → Option Name
  entry_printed m path None = None
  entry_printed m path (Some e) = option_map (name_printed m path) e.name

  abbrev pub printed_in : Path → Option Outline → ℕ → Option Name
  printed_in m None k = None
  printed_in m (Some o) k = entry_printed m o.path (slice_get o.entries k)

  -- the printed name of what stands at a place, if it has a name
  abbrev pub printed : Path → ℕ → Option Name
  printed m k = printed_in m (finder ms m) k

  -- New names for what the held places of a module use: what denotes a declaration takes its printed name, and what is free stays. (Of names
  -- that nothing held uses nothing is said.)
  pub record IsNaming (held : Path → ℕ → Type 0) (m : Path) (o : Outline) (f : Naming) : Type 0 where
    pub denoting : (k : ℕ) (e : Entry) (u : Use) → held m k → IsAt (finder ms) m k o e → Contains e.uses u
        → (ps : List Path) (n : Path) (j : ℕ) → Denotes (finder ms) m o u ps (declared_at n j) → printed n j ≡ Some (f u.path u.name)
    pub staying : (k : ℕ) (e : Entry) (u : Use) → held m k → IsAt (finder ms) m k o e → Contains e.uses u → sense o u ≡ free → f u.path u.name ≡ u.name

  -- the declaration at a place is written: its skeleton is renamed, under its own printed name
  abbrev pub IsWritten : Path → ℕ → Naming → Decl → Decl → Type 0
  IsWritten m k f d e = declaration_node e ≡ called_by (printed m k) (written f (declaration_node d))

-- a directive likewise; its words stay
pub record IsWrittenDirective (f : Naming) (d e : Directive) : Type 0 where
  pub words : directive_words e ≡ directive_words d
  pub attributes : directive_node e ≡ written f (directive_node d)
