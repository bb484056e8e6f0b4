-- What is told of a module that no text derives is one name.
use Rattle.std.proofs.Common.{◌≡◌, refl, ℕ, List, [], ◌∷◌, Option, Some, None}
use Rattle.wgsl_declarations.specs.Tree.{Decl}
use Rattle.wgsl_check_unit.specs.Nodes.{Node, in_optional_decl}
use Rattle.std.specs.Option.{option_and_then}
use Rattle.wgsl_check_unit.specs.Names.{decl_name}
use Rattle.wgsl_check_unit.specs.Telling.{IsNamed, rest_is, node_is, further, IsTold, nothing, here, later}

named_once : (owner rest : Option (List ℕ)) (ns : List Node) (x y : Option (List ℕ)) → IsNamed owner rest ns x → IsNamed owner rest ns y → x ≡ y
named_once owner rest _ _ _ rest_is rest_is = refl
named_once owner rest _ _ _ (node_is fails) (node_is more) = refl
named_once owner rest _ _ y (node_is fails) (further is r) = absurd (fails is)
named_once owner rest _ x _ (further is t) (node_is fails) = absurd (fails is)
named_once owner rest _ x y (further {ns = ns} is t) (further more r) = named_once owner rest ns x y t r

-- of no nodes it is what is told of the rest
pub named_of_none : {owner rest name : Option (List ℕ)} → IsNamed owner rest [] name → rest ≡ name
named_of_none rest_is = refl

pub told_once : (ds : List Decl) (x y : Option (List ℕ)) → IsTold ds x → IsTold ds y → x ≡ y
told_once _ _ _ nothing nothing = refl
told_once _ x y (here {d = d} fails t) (here more r) = named_once (option_and_then decl_name (Some d)) (option_and_then decl_name (Some d)) (in_optional_decl (Some d)) x y t r
told_once _ x y (here fails t) (later is r) = absurd (fails is)
told_once _ x y (later is t) (here fails r) = absurd (fails is)
told_once _ x y (later {ds = ds} is t) (later more r) = told_once ds x y t r
