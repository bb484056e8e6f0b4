-- A walk over a list finds the first error of its chains.
use Rattle.std.proofs.Common.{◌≡◌, refl, sym, ap, ◌∙◌, List, [], ◌∷◌, Bool, true, false, ◌&&◌, Option, Some, None}
use Rattle.std.specs.Prelude.{if◌then◌else◌}
use Rattle.std.specs.Option.{option_or}
use Rattle.wesl_conditions.specs.declared.features.feature.Features.{Features}
use Rattle.wesl_conditions.specs.declared.features.error.CondCompError.{CondCompError}
use Rattle.wesl_conditions.specs.declared.meaning.chain.Chain.{Chain}
use Rattle.wesl_conditions.specs.Chains.{Mark, opens, continues, join, chains, Standing, goes, stays, waits, standing}
use Rattle.wesl_conditions.specs.Seen.{item_fault, Seen, conditions_fault, inside_fault, chain_fault, first_fault, list_fault}
use Rattle.wesl_conditions.specs.Walks.{start, goes_on, chain_at, behind_standing, behind, inside_of, checked}
use Rattle.wesl_conditions.proofs.Walking.{opens_behind}

abbrev Error : Type 0
Error = Option CondCompError

or_none : (a : Error) → option_or a None ≡ a
or_none None = refl
or_none (Some x) = refl

or_assoc : (a b c : Error) → option_or (option_or a b) c ≡ option_or a (option_or b c)
or_assoc None b c = refl
or_assoc (Some x) b c = refl

module _ (features : Features) where
  abbrev of : Seen → List Mark
  of x = x.conditions

  -- the first error inside the items of a chain that come
  abbrev in_chain : Chain → List Seen → Error
  in_chain c ys = if c.is_decided then None else inside_fault features ys

  -- the first error of a list of chains, where the first may go on with one before it
  abbrev from : Chain → Error → List (List Seen) → Error
  from chain inside [] = inside
  from chain inside ([] ∷ cs) = option_or inside (first_fault features cs)
  from chain inside ((y ∷ ys) ∷ cs) =
      if goes_on chain y.conditions
      then option_or (conditions_fault features false (y ∷ ys)) (option_or (option_or inside (in_chain chain (y ∷ ys))) (first_fault features cs))
      else option_or inside (first_fault features ((y ∷ ys) ∷ cs))

  abbrev standing_at : Chain → Seen → Standing
  standing_at c x = if c.is_decided then goes else standing features x.conditions

  abbrev next : Chain → Seen → Chain
  next c x = behind_standing (opens x.conditions) c (standing_at c x)

  -- inside an item of a chain, and then inside those behind it
  inside_step : (c : Chain) (x : Seen) (ys : List Seen)
      → option_or (inside_of (standing_at c x) x) (in_chain (next c x) ys) ≡ in_chain c (x ∷ ys)
  inside_step c x ys = by c.is_decided (standing features x.conditions)
    where
      at : Bool → Chain
      at d = record { is_open = c.is_open; is_waiting = c.is_waiting; is_decided = d }

      stands : Bool → Standing → Standing
      stands d s = if d then goes else s

      by : (d : Bool) (s : Standing)
          → option_or (inside_of (stands d s) x) (in_chain (behind_standing (opens x.conditions) (at d) (stands d s)) ys)
          ≡ (if d then None else elim s [ goes ↦ inside_fault features ys | stays ↦ x.inside | waits e ↦ option_or x.inside (inside_fault features ys) ])
      by true s = refl
      by false goes = refl
      by false stays = or_none x.inside
      by false (waits e) = refl

  inside_last : (c : Chain) (x : Seen) → inside_of (standing_at c x) x ≡ in_chain c (x ∷ [])
  inside_last c x = by c.is_decided (standing features x.conditions)
    where
      stands : Bool → Standing → Standing
      stands d s = if d then goes else s

      by : (d : Bool) (s : Standing)
          → inside_of (stands d s) x ≡ (if d then None else elim s [ goes ↦ None | stays ↦ x.inside | waits e ↦ option_or x.inside None ])
      by true s = refl
      by false goes = refl
      by false stays = refl
      by false (waits e) = sym (or_none x.inside)

  -- what is found at an item, where this is the first error inside its chain, and this one that of what comes
  abbrev at_item : Bool → Error → Seen → Error → Error
  at_item more inside x later =
      if more then option_or (item_fault features false x.conditions) later else option_or inside (option_or (item_fault features true x.conditions) later)

  abbrev inside_now : Bool → Error → Chain → Seen → Error
  inside_now more inside c x = if more then option_or inside (inside_of (standing_at c x) x) else inside_of (standing_at c x) x

  abbrev chain_of : Bool → Chain → Chain
  chain_of more chain = if more then chain else start

  -- the last item of a chain, before other chains
  last : (more : Bool) (chain : Chain) (inside : Error) (x : Seen) (later : Error)
      → at_item more inside x (option_or (inside_now more inside (chain_of more chain) x) later)
      ≡ (if more then option_or (conditions_fault features false (x ∷ [])) (option_or (option_or inside (in_chain chain (x ∷ []))) later)
      else option_or inside (option_or (chain_fault features (x ∷ [])) later))
  last true chain inside x later = λ i.
      option_or (sym (or_none (item_fault features false x.conditions)) i) (option_or (option_or inside (inside_last chain x i)) later)
  last false chain inside x later =
      (λ i. option_or inside (option_or (sym (or_none (item_fault features true x.conditions)) i) (option_or (inside_last start x i) later)))
      ∙ ap (option_or inside) (sym (or_assoc (conditions_fault features true (x ∷ [])) (inside_fault features (x ∷ [])) later))

  -- an item before others of its chain
  step : (more : Bool) (chain : Chain) (inside : Error) (x : Seen) (ys : List Seen) (later : Error)
      → at_item more inside x (option_or (conditions_fault features false ys)
      (option_or (option_or (inside_now more inside (chain_of more chain) x) (in_chain (next (chain_of more chain) x) ys)) later))
      ≡ (if more then option_or (conditions_fault features false (x ∷ ys)) (option_or (option_or inside (in_chain chain (x ∷ ys))) later)
      else option_or inside (option_or (chain_fault features (x ∷ ys)) later))
  step true chain inside x ys later =
      ap (λ t. option_or (item_fault features false x.conditions) (option_or (conditions_fault features false ys) (option_or t later)))
      (or_assoc inside (inside_of (standing_at chain x) x) (in_chain (next chain x) ys) ∙ ap (option_or inside) (inside_step chain x ys))
      ∙ sym (or_assoc (item_fault features false x.conditions) (conditions_fault features false ys) (option_or (option_or inside (in_chain chain (x ∷ ys))) later))
  step false chain inside x ys later =
      ap (option_or inside)
      (ap (λ t. option_or (item_fault features true x.conditions) (option_or (conditions_fault features false ys) (option_or t later))) (inside_step start x ys)
      ∙ sym (or_assoc (item_fault features true x.conditions) (conditions_fault features false ys) (option_or (inside_fault features (x ∷ ys)) later))
      ∙ sym (or_assoc (conditions_fault features true (x ∷ ys)) (inside_fault features (x ∷ ys)) later))

  joined : (chain : Chain) (inside : Error) (x : Seen) (cs : List (List Seen))
      → at_item (goes_on chain x.conditions) inside x
      (from (next (chain_at chain x.conditions) x) (inside_now (goes_on chain x.conditions) inside (chain_at chain x.conditions) x) cs)
      ≡ from chain inside (join of x cs)
  joined chain inside x [] =
      ap (at_item more inside x) (sym (or_none (inside_now more inside (chain_of more chain) x)))
      ∙ last more chain inside x None
    where
      more : Bool
      more = goes_on chain x.conditions
  joined chain inside x ([] ∷ cs) = last (goes_on chain x.conditions) chain inside x (first_fault features cs)
  joined chain inside x ((y ∷ ys) ∷ cs) =
      ap (λ o. at_item more inside x (found (o && continues y.conditions))) (opens_behind (opens x.conditions) c (standing_at c x))
      ∙ by (opens x.conditions && continues y.conditions)
    where
      more : Bool
      more = goes_on chain x.conditions

      c : Chain
      c = chain_at chain x.conditions

      found : Bool → Error
      found b =
          if b
          then option_or (conditions_fault features false (y ∷ ys)) (option_or (option_or (inside_now more inside c x) (in_chain (next c x) (y ∷ ys))) (first_fault features cs))
          else option_or (inside_now more inside c x) (first_fault features ((y ∷ ys) ∷ cs))

      by : (b : Bool) → at_item more inside x (found b) ≡ from chain inside (if b then (x ∷ y ∷ ys) ∷ cs else (x ∷ []) ∷ (y ∷ ys) ∷ cs)
      by true = step more chain inside x (y ∷ ys) (first_fault features cs)
      by false = last more chain inside x (first_fault features ((y ∷ ys) ∷ cs))

  walked : (chain : Chain) (inside : Error) (xs : List Seen) → checked features chain inside xs ≡ from chain inside (chains of xs)
  walked chain inside [] = refl
  walked chain inside (x ∷ xs) =
      by (goes_on chain x.conditions)
      ∙ ap (at_item (goes_on chain x.conditions) inside x) (walked b (inside_now (goes_on chain x.conditions) inside c x) xs)
      ∙ joined chain inside x (chains of xs)
    where
      c : Chain
      c = chain_at chain x.conditions

      b : Chain
      b = behind features chain x.conditions

      by : (more : Bool)
          → (if more
          then option_or (item_fault features false x.conditions) (checked features b (option_or inside (inside_of (standing_at c x) x)) xs)
          else option_or inside (option_or (item_fault features true x.conditions) (checked features b (inside_of (standing_at c x) x) xs)))
          ≡ at_item more inside x (checked features b (inside_now more inside c x) xs)
      by true = refl
      by false = refl

  from_start : (cs : List (List Seen)) → from start None cs ≡ first_fault features cs
  from_start [] = refl
  from_start ([] ∷ cs) = refl
  from_start ((y ∷ ys) ∷ cs) = refl

  pub checked_is_fault : (xs : List Seen) → checked features start None xs ≡ list_fault features xs
  checked_is_fault xs = walked start None xs ∙ from_start (chains of xs)
