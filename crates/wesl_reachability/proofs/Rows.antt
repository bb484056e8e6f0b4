-- Imports are taken in, and how chains go on at them.
use Rattle.std.proofs.Common.{◌≡◌, refl, sym, ap, ◌∙◌, subst, ℕ, ◌+◌, ◌⊎◌, inl, inr, List, [], ◌∷◌, ◌++◌, length, Option, Some, None, arith, length-append}
use Rattle.std.specs.Prelude.{slice_get, Vec}
use Rattle.std.specs.declared.alloc.Global.{Global}
use Rattle.wesl_module_index.specs.declared.modules.Modules.{Modules}
use Rattle.wesl_name_resolution.specs.declared.denote.Via.{Via}
use Rattle.wesl_reachability.specs.declared.chains.Chains.{Chains}
use Rattle.wesl_reachability.specs.declared.chains.State.{State}
use Rattle.wesl_reachability.specs.declared.chains.State.TheVariants.{New, Met, Passed}
use Rattle.wesl_reachability.specs.declared.chains.Joined.{Joined}
use Rattle.wesl_reachability.specs.declared.chains.Joined.TheVariants as joined
use Rattle.wesl_reachability.specs.Joining.{state_at, joined_of, Meets, StepsOn, TurnsBack, IsOnward, Joins, AreNew, AreEmpty}
use Rattle.wesl_reachability.proofs.Cells.{get_push}

pub new_more : (n : ℕ) (row : List State) → AreNew n row → AreNew (n + 1) (row ++ New ∷ [])
new_more n row a = (
  (let e = length-append row (New ∷ []) in let f = a.0 in omega (arith, e, f)),
  λ k x is. elim (get_push row New k x is) [ inl e ↦ a.1 k x e | inr e ↦ e.1 ],
)

pub empty_more : (n : ℕ) (row : List (Vec Via Global)) (none : Vec Via Global) → none.items ≡ [] → AreEmpty n row → AreEmpty (n + 1) (row ++ none ∷ [])
empty_more n row none is_none a = (
  (let e = length-append row (none ∷ []) in let f = a.0 in omega (arith, e, f)),
  λ k x is. elim (get_push row none k x is) [ inl e ↦ a.1 k x e | inr e ↦ ap (λ v. v.items) e.1 ∙ is_none ],
)

never_itself : (o : Option State) → joined.Itself ≡ joined_of o → ⊥
never_itself None e = absurd (cc)
never_itself (Some New) e = absurd (cc)
never_itself (Some Met) e = absurd (cc)
never_itself (Some Passed) e = absurd (cc)

pub is_onward : (ms : Modules) (before : Option Via) (via : Via) (mid : Chains) (state : Option State) (r : Joined) (new : Chains) → StepsOn ms before via mid new → r ≡ joined_of state → IsOnward ms before via mid state r new
is_onward ms before via mid state joined.First new s e = (s, sym e)
is_onward ms before via mid state joined.Passed new s e = (s, sym e)
is_onward ms before via mid state joined.Waiting new s e = (s, sym e)
is_onward ms before via mid state joined.Itself new s e = absurd (never_itself state e)

module _ (ms : Modules) (before : Option Via) (via : Via) (old mid new : Chains) (state : Option State) (is : state ≡ state_at old via) (meets : Meets via old state mid) where
  pub joins_on : (r : Joined) → StepsOn ms before via mid new → r ≡ joined_of state → Joins ms before via old r new
  joins_on r s e = record {
    mid = mid;
    meets = subst (λ o. Meets via old o mid) is meets;
    onward = is_onward ms before via mid (state_at old via) r new s (e ∙ ap joined_of is);
  }

  pub joins_from : (from : Via) → before ≡ Some from → (r : Joined) → IsOnward ms before via mid state r new → Joins ms before via old r new
  joins_from from b r o = record { mid = mid; meets = subst (λ x. Meets via old x mid) is meets; onward = subst (λ x. IsOnward ms before via mid x r new) is o }

  pub joins_round : (from : Via) → before ≡ Some from → TurnsBack ms from via mid new → Joins ms before via old joined.Itself new
  joins_round from b t = record { mid = mid; meets = subst (λ o. Meets via old o mid) is meets; onward = (from, b, t) }
