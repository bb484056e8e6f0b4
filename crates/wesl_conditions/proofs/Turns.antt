-- A list whose items are settled one after another, in place.
use Rattle.std.proofs.Common.{◌≡◌, refl, ap, ◌∙◌, List, [], ◌∷◌, filter_map, Bool, true, false, cond, Option, Some, None}
use Rattle.std.specs.List.{cons_option}
use Rattle.std.specs.List.Retain.{RetainsInTurn}
use Rattle.wesl_conditions.specs.declared.features.feature.Features.{Features}
use Rattle.wesl_conditions.specs.declared.meaning.chain.Chain.{Chain}
use Rattle.wesl_conditions.specs.Chains.{marks_of, HasAttributes}
use Rattle.wesl_conditions.specs.Walks.{standing_in, behind, is_left, settled, Settles}

module _ (features : Features) {X T : Type 0} (has : HasAttributes T) (tree : X → Option T) where
  one : (o : Option T) (c d : Chain) (b : Bool) (y : X) (zs : List X) (us : List T) → Settles features has c o b d (tree y)
      → filter_map tree zs ≡ settled features has d us → filter_map tree (cond b (y ∷ zs) zs) ≡ settled features has c (cons_option o us)
  one None c d b y zs us said rest =
      (λ i. filter_map tree (cond (said.0 i) (y ∷ zs) zs)) ∙ (λ i. cons_option (said.2 i) (filter_map tree zs))
      ∙ rest ∙ ap (λ k. settled features has k us) said.1
  one (Some x) c d b y zs us said rest =
      (λ i. filter_map tree (cond (said.0 i) (y ∷ zs) zs)) ∙ by (is_left (standing_in features c (marks_of has x)))
      ∙ (λ i. cond (is_left (standing_in features c (marks_of has x))) (cons_option (said.2 i) (later i)) (later i))
    where
      later : filter_map tree zs ≡ settled features has (behind features c (marks_of has x)) us
      later = rest ∙ ap (λ k. settled features has k us) said.1

      by : (l : Bool) → filter_map tree (cond l (y ∷ zs) zs) ≡ cond l (cons_option (tree y) (filter_map tree zs)) (filter_map tree zs)
      by true = refl
      by false = refl

  -- A closure that settles an item at each call, in a state that is fit for it, leaves what a walk leaves.
  pub settles : {S : Type 0} (R : S → X → Bool → S → X → Type 0) (at : S → Chain) (Fit : S → Type 0)
      → ((s : S) (x : X) (b : Bool) (t : S) (y : X) → Fit s → R s x b t y → Fit t × Settles features has (at s) (tree x) b (at t) (tree y))
      → (s : S) → Fit s → (xs ys : List X) → RetainsInTurn R s xs ys → filter_map tree ys ≡ settled features has (at s) (filter_map tree xs)
  settles R at Fit says s fit [] ys h = ap (filter_map tree) h
  settles R at Fit says s fit (x ∷ xs) ys h =
      let said = says s x h.0 h.1 h.2 fit h.3 in
      ap (filter_map tree) h.6
      ∙ one (tree x) (at s) (at h.1) h.0 h.2 h.4 (filter_map tree xs) said.1 (settles R at Fit says h.1 said.0 xs h.4 h.5)
