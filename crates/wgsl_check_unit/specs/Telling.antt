-- The first node that no text derives.
use Rattle.std.specs.Prelude.{◌≡◌, ℕ, List, [], ◌∷◌, Option, Some, None, Result, Ok, Err, String, string_bytes}
use Rattle.std.specs.Option.{option_and_then, option_or}
use Rattle.std.specs.declared.alloc.Global.{Global}
use Rattle.wgsl_declarations.specs.Tree.{Decl, UnitTree}
use Rattle.wgsl_declarations.specs.Print.{unit_text}
use Rattle.wgsl_read_back.specs.Nodes.{Node, in_decl, in_optional_decl, in_directives}
use Rattle.wgsl_read_back.specs.Placed.{holding}
use Rattle.wgsl_read_back.specs.Alone.{alone}
use Rattle.wgsl_read_back.specs.Derivable.{SaysTree, IsDerivable}
use Rattle.wgsl_check_unit.specs.Names.{node_name, decl_name}
use Rattle.wgsl_check_unit.specs.declared.error.Unprintable.{Unprintable}
use Rattle.wgsl_check_unit.specs.declared.error.Unprintable.TheVariants as refusal

-- Of the first node that no text derives this is the name, where that has none its owner's; where there is no such node, it is what is told of
-- the rest. The nodes stand in the order in which they end, so one derives each part of the node that is told.
pub data IsNamed (owner rest : Option (List ℕ)) : List Node → Option (List ℕ) → Type 0 where
  rest_is : IsNamed owner rest [] rest
  node_is : {n : Node} {ns : List Node} → (IsDerivable (alone (holding n)) → ⊥) → IsNamed owner rest (n ∷ ns) (option_or (node_name n) owner)
  further : {n : Node} {ns : List Node} {name : Option (List ℕ)} → IsDerivable (alone (holding n)) → IsNamed owner rest ns name → IsNamed owner rest (n ∷ ns) name

-- This is told of what may be a declaration: nothing, where it is none.
abbrev pub IsToldIn : Option Decl → Option (List ℕ) → Type 0
IsToldIn o name = IsNamed (option_and_then decl_name o) (option_and_then decl_name o) (in_optional_decl o) name

-- In the first declaration that no text derives, this is the name of the first node that no text derives; none, where there is no such
-- declaration.
pub data IsTold : List Decl → Option (List ℕ) → Type 0 where
  nothing : IsTold [] None
  here : {d : Decl} {ds : List Decl} {name : Option (List ℕ)} → (IsDerivable (alone d) → ⊥) → IsToldIn (Some d) name → IsTold (d ∷ ds) name
  later : {d : Decl} {ds : List Decl} {name : Option (List ℕ)} → IsDerivable (alone d) → IsTold ds name → IsTold (d ∷ ds) name

-- This is told of a module: of the attributes of its directives, which no declaration owns, else of its declarations.
abbrev pub IsToldOf : UnitTree → Option (List ℕ) → Type 0
IsToldOf u name = (rest : Option (List ℕ)) × IsTold u.declarations rest × IsNamed None rest (in_directives u.directives) name

-- ---- what calls say

-- No text derives the module, and this is told.
abbrev pub IsRefused : UnitTree → Unprintable → Type 0
IsRefused u (refusal.Node name) = (IsDerivable u → ⊥) × IsToldOf u name
IsRefused u (refusal.GaveUp r) = Unit

abbrev pub Checks : UnitTree → Result Unit Unprintable → Type 0
Checks u (Ok x) = IsDerivable u
Checks u (Err e) = IsRefused u e

abbrev pub Prints : UnitTree → Result (String Global) Unprintable → Type 0
Prints u (Ok printed) = (string_bytes printed ≡ unit_text u) × SaysTree (string_bytes printed) u
Prints u (Err e) = IsRefused u e
