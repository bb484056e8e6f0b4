-- Modules of one declaration.
use Rattle.std.specs.Prelude.{[], ◌∷◌, Option}
use Rattle.std.specs.List.{cons_option}
use Rattle.wgsl_nodes_in_order.specs.DeclarationsTree.{Decl, UnitTree}

-- the module of a declaration alone
abbrev pub alone : Decl → UnitTree
alone d = record { imports = []; directives = []; declarations = d ∷ [] }

-- the module of one declaration, or of a `;`
abbrev pub at_most_one : Option Decl → UnitTree
at_most_one o = record { imports = []; directives = []; declarations = cons_option o [] }
