-- The first node that no text derives.
use Rattle.std.proofs.Common.{◌≡◌, sym, subst, ℕ, ◌+◌, ◌<◌, ◌≤◌, length, drop, get_or, List, ◌∷◌, Bool, true, false, Option, Decides}
use Rattle.std.specs.Option.{option_or}
use Rattle.std.proofs.lemmas.List.{drop_all}
use Rattle.wgsl_read_back.specs.NodeRef.{NodeRef}
use Rattle.wgsl_read_back.specs.Found.{node_of, nodes}
use Rattle.wgsl_read_back.specs.Placed.{holding}
use Rattle.wgsl_read_back.specs.Alone.{alone}
use Rattle.wgsl_read_back.specs.Derivable.{IsDerivable}
use Rattle.wgsl_check_unit.specs.Names.{node_name}
use Rattle.wgsl_check_unit.specs.Telling.{IsNamed, rest_is, node_is, further}
use Rattle.wgsl_check_unit.proofs.Telling.{front, never}

-- of the nodes from a place on
abbrev pub Follows : Option (List ℕ) → Option (List ℕ) → List NodeRef → ℕ → Type 0
Follows owner rest refs k = (name : Option (List ℕ)) → IsNamed owner rest (nodes (drop k refs)) name → IsNamed owner rest (nodes refs) name

module _ (owner rest : Option (List ℕ)) (refs : List NodeRef) (k : ℕ) (r : NodeRef) (within : k < length refs) (is : r ≡ get_or refs k r) (follows : Follows owner rest refs k) (b : Bool) (test : Decides b (IsDerivable (alone (holding (node_of r))))) where
  named_so : {name : Option (List ℕ)} → IsNamed owner rest (node_of r ∷ nodes (drop (k + 1) refs)) name → IsNamed owner rest (nodes refs) name
  named_so {name = name} h = follows name (let P : List NodeRef → Type 0 = λ z. IsNamed owner rest (nodes z) name in subst P (sym (front refs k r within is)) h)

  pub named_here : b ≡ false → (name : Option (List ℕ)) → name ≡ option_or (node_name (node_of r)) owner → IsNamed owner rest (nodes refs) name
  named_here off name same = named_so (
      let P : Option (List ℕ) → Type 0 = λ z. IsNamed owner rest (node_of r ∷ nodes (drop (k + 1) refs)) z in
      subst P (sym same) (node_is (λ h. never (test.1 h) off))
      )

  pub named_further : b ≡ true → Follows owner rest refs (k + 1)
  named_further on name h = named_so (further (test.0 on) h)

-- where there is none
pub named_rest : (owner rest : Option (List ℕ)) (refs : List NodeRef) (k : ℕ) → Follows owner rest refs k → length refs ≤ k → (name : Option (List ℕ)) → name ≡ rest → IsNamed owner rest (nodes refs) name
named_rest owner rest refs k follows e name same =
    let P : Option (List ℕ) → Type 0 = λ z. IsNamed owner rest (nodes refs) z in
    let Q : List NodeRef → Type 0 = λ z. IsNamed owner rest (nodes z) rest in
    subst P (sym same) (follows rest (subst Q (sym (drop_all k refs e)) rest_is))
