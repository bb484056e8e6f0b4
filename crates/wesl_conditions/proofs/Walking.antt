-- A walk over a list leaves what is left of its chains.
use Rattle.std.proofs.Common.{◌≡◌, refl, ap, ◌∙◌, List, [], ◌∷◌, ◌++◌, Bool, true, false, ◌&&◌, cond}
use Rattle.std.specs.Prelude.{if◌then◌else◌}
use Rattle.std.specs.List.{flat_map}
use Rattle.wgsl_expressions.specs.AttributesTree.{if_true, else_if, otherwise}
use Rattle.wesl_conditions.specs.declared.features.feature.Features.{Features}
use Rattle.wesl_conditions.specs.declared.meaning.chain.Chain.{Chain}
use Rattle.wesl_conditions.specs.Chains.{marks_of, opens, continues, join, chains, HasAttributes, bare, marked, Standing, goes, stays, waits, standing, left_of_chain, left}
use Rattle.wesl_conditions.specs.Walks.{start, chain_at, behind_standing, behind, is_left, attributes_with, settled}

-- whether a chain may go on behind an item says the item alone
pub opens_behind : (more : Bool) (c : Chain) (s : Standing) → (behind_standing more c s).is_open ≡ more
opens_behind more c goes = refl
opens_behind more c stays = refl
opens_behind more c (waits e) = refl

module _ (features : Features) {T : Type 0} (has : HasAttributes T) where
  abbrev of_chains : List (List T) → List T
  of_chains cs = flat_map (left_of_chain has features false) cs

  -- what is left of the items of a chain that come
  abbrev in_chain : Chain → List T → List T
  in_chain c ys = if c.is_decided then [] else left_of_chain has features c.is_waiting ys

  -- what is left of a list of chains, where the first may go on with one before it
  abbrev from : Chain → List (List T) → List T
  from chain [] = []
  from chain ([] ∷ cs) = of_chains cs
  from chain ((y ∷ ys) ∷ cs) = in_chain (chain_at chain (marks_of has y)) (y ∷ ys) ++ of_chains cs

  abbrev standing_at : Chain → T → Standing
  standing_at c x = if c.is_decided then goes else standing features (marks_of has x)

  -- an item of a chain, before what is left behind it
  abbrev before : Chain → T → List T → List T
  before c x r =
      cond (is_left (standing_at c x)) (has.with_attributes (attributes_with c.is_waiting (standing_at c x) (has.attributes x)) x ∷ r) r

  abbrev next : Chain → T → Chain
  next c x = behind_standing (opens (marks_of has x)) c (standing_at c x)

  step : (c : Chain) (x : T) (ys r : List T) → before c x (in_chain (next c x) ys ++ r) ≡ in_chain c (x ∷ ys) ++ r
  step c x ys r = by c.is_decided c.is_waiting (standing features (marks_of has x))
    where
      at : Bool → Bool → Chain
      at d w = record { is_open = c.is_open; is_waiting = w; is_decided = d }

      stands : Bool → Standing → Standing
      stands d s = if d then goes else s

      by : (d w : Bool) (s : Standing)
          → cond (is_left (stands d s))
          (has.with_attributes (attributes_with w (stands d s) (has.attributes x)) x
          ∷ (in_chain (behind_standing (opens (marks_of has x)) (at d w) (stands d s)) ys ++ r))
          (in_chain (behind_standing (opens (marks_of has x)) (at d w) (stands d s)) ys ++ r)
          ≡ (if d then [] else elim s [
            | goes ↦ left_of_chain has features w ys
            | stays ↦ (if w then marked has otherwise x else bare has x) ∷ []
            | waits e ↦ marked has (if w then else_if e else if_true e) x ∷ left_of_chain has features true ys
          ]) ++ r
      by true w s = refl
      by false w goes = refl
      by false true stays = refl
      by false false stays = refl
      by false w (waits e) = refl

  last : (c : Chain) (x : T) (r : List T) → before c x r ≡ in_chain c (x ∷ []) ++ r
  last c x r = by c.is_decided c.is_waiting (standing features (marks_of has x))
    where
      stands : Bool → Standing → Standing
      stands d s = if d then goes else s

      by : (d w : Bool) (s : Standing)
          → cond (is_left (stands d s)) (has.with_attributes (attributes_with w (stands d s) (has.attributes x)) x ∷ r) r
          ≡ (if d then [] else elim s [
            | goes ↦ []
            | stays ↦ (if w then marked has otherwise x else bare has x) ∷ []
            | waits e ↦ marked has (if w then else_if e else if_true e) x ∷ []
          ]) ++ r
      by true w s = refl
      by false w goes = refl
      by false true stays = refl
      by false false stays = refl
      by false w (waits e) = refl

  -- an item before chains
  joined : (chain : Chain) (x : T) (cs : List (List T))
      → before (chain_at chain (marks_of has x)) x (from (next (chain_at chain (marks_of has x)) x) cs) ≡ from chain (join (marks_of has) x cs)
  joined chain x [] = last (chain_at chain (marks_of has x)) x []
  joined chain x ([] ∷ cs) = last (chain_at chain (marks_of has x)) x (of_chains cs)
  joined chain x ((y ∷ ys) ∷ cs) =
      ap (λ o. before c x (in_chain (if o && continues (marks_of has y) then next c x else start) (y ∷ ys) ++ of_chains cs))
      (opens_behind (opens (marks_of has x)) c (standing_at c x))
      ∙ by (opens (marks_of has x) && continues (marks_of has y))
    where
      c : Chain
      c = chain_at chain (marks_of has x)

      by : (b : Bool)
          → before c x (in_chain (if b then next c x else start) (y ∷ ys) ++ of_chains cs)
          ≡ from chain (if b then (x ∷ y ∷ ys) ∷ cs else (x ∷ []) ∷ (y ∷ ys) ∷ cs)
      by true = step c x (y ∷ ys) (of_chains cs)
      by false = last c x (left_of_chain has features false (y ∷ ys) ++ of_chains cs)

  walked : (chain : Chain) (xs : List T) → settled features has chain xs ≡ from chain (chains (marks_of has) xs)
  walked chain [] = refl
  walked chain (x ∷ xs) =
      ap (before (chain_at chain (marks_of has x)) x) (walked (behind features chain (marks_of has x)) xs)
      ∙ joined chain x (chains (marks_of has) xs)

  from_start : (cs : List (List T)) → from start cs ≡ of_chains cs
  from_start [] = refl
  from_start ([] ∷ cs) = refl
  from_start ((y ∷ ys) ∷ cs) = refl

  pub settled_is_left : (xs : List T) → settled features has start xs ≡ left features has xs
  settled_is_left xs = walked start xs ∙ from_start (chains (marks_of has) xs)
