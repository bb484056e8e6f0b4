-- A list that features have settled means the same under each choice that they admit, and is settled.
use Rattle.std.proofs.Common.{◌≡◌, refl, sym, ap, ◌∙◌, List, [], ◌∷◌, map, Bool, true, false, ◌&&◌, cond, Some}
use Rattle.std.specs.Prelude.{if◌then◌else◌}
use Rattle.wgsl_expressions.specs.AttributesTree.{Attr, if_true, else_if, otherwise}
use Rattle.wesl_conditions.specs.declared.features.feature.Features.{Features}
use Rattle.wesl_conditions.specs.declared.meaning.chain.Chain.{Chain}
use Rattle.wesl_conditions.specs.Conditions.{Choice, Admits, holds}
use Rattle.wesl_conditions.specs.Chains.{Mark, if_mark, elif_mark, else_mark, mark, marks, marks_of, opens, continues, is_true, is_condition, unmarked, remarked, HasAttributes, bare, marked, Standing, goes, stays, waits, standing, chosen, left}
use Rattle.wesl_conditions.specs.Walks.{start, goes_on, chain_at, behind_standing, is_left, attributes_with, settled}
use Rattle.wesl_conditions.proofs.Walking.{settled_is_left}
use Rattle.wesl_cond_laws.proofs.Remarking.{marks_of_remarked, marks_of_unmarked, unmarked_twice, unmarked_remarked}
use Rattle.wesl_cond_laws.proofs.Standings.{IsLawful, IsOpen, waiting, Agrees, agrees}
use Rattle.wesl_cond_laws.proofs.Choosing.{walk, walk_is_chosen}

pub and_false : (b : Bool) → (b && false) ≡ false
and_false true = refl
and_false false = refl

pub second_and : (a b : Bool) → (a && b) ≡ true → b ≡ true
second_and true b h = h
second_and false b h = absurd (cc)

-- the conditions of an item that has `@else` in their place
abbrev pub all_else : List Mark → List Mark
all_else ms = map (λ n. else_mark) ms

pub else_continues : (ms : List Mark) → continues ms ≡ true → continues (all_else ms) ≡ true
else_continues [] h = absurd (cc)
else_continues (n ∷ ms) h = refl

pub else_opens : (ms : List Mark) → opens (all_else ms) ≡ false
else_opens [] = refl
else_opens (n ∷ ms) = refl

pub else_true : (choice : Choice) (ms : List Mark) → is_true choice (all_else ms) ≡ true
else_true choice [] = refl
else_true choice (n ∷ ms) = refl

module _ {T : Type 0} (has : HasAttributes T) (law : IsLawful has) where
  pub bare_marked : (new : Attr) → is_condition new ≡ true → (x : T) → bare has (marked has new x) ≡ bare has x
  bare_marked new is x =
      ap (λ attrs. has.with_attributes (unmarked attrs) (marked has new x)) (law.reads (remarked new (has.attributes x)) x)
      ∙ law.puts (unmarked (remarked new (has.attributes x))) (remarked new (has.attributes x)) x
      ∙ ap (λ attrs. has.with_attributes attrs x) (unmarked_remarked new is (has.attributes x))

  pub bare_twice : (x : T) → bare has (bare has x) ≡ bare has x
  bare_twice x =
      ap (λ attrs. has.with_attributes (unmarked attrs) (bare has x)) (law.reads (unmarked (has.attributes x)) x)
      ∙ law.puts (unmarked (unmarked (has.attributes x))) (unmarked (has.attributes x)) x
      ∙ ap (λ attrs. has.with_attributes attrs x) (unmarked_twice (has.attributes x))

  pub marks_marked : (new : Attr) (m : Mark) → mark new ≡ Some m → (x : T) → marks_of has (marked has new x) ≡ map (λ n. m) (marks_of has x)
  marks_marked new m is x = ap marks (law.reads (remarked new (has.attributes x)) x) ∙ marks_of_remarked new m is (has.attributes x)

  pub marks_bare : (x : T) → marks_of has (bare has x) ≡ []
  marks_bare x = ap marks (law.reads (unmarked (has.attributes x)) x) ∙ marks_of_unmarked (has.attributes x)

-- How a walk over what is left and a walk over the whole stand to one another: whether the item before may be gone on with and a true one
-- stands before it in what is left; whether the chain is decided and waiting; and whether a true one stands before it in the whole.
abbrev pub Fit : Bool → Bool → Bool → Bool → Bool → Type 0
Fit more taken true w k = k ≡ true
Fit more taken false true k = (more ≡ true) × (taken ≡ k)
Fit more taken false false k = k ≡ false

module _ (features : Features) (choice : Choice) (admits : Admits features choice) {T : Type 0} (has : HasAttributes T) (law : IsLawful has) where
  abbrev W : Bool → Bool → List T → List T
  W more taken xs = walk choice has more taken xs

  abbrev S : Chain → List T → List T
  S chain xs = settled features has chain xs

  abbrev cell : Bool → Bool → Bool → Bool → Bool → T → List T → List T
  cell more taken continuing opening does b r = if (more && continuing) && taken then W opening true r else (if does then b ∷ W opening true r else W opening false r)

  enter : (go more taken k : Bool) (chain : Chain) → Fit more taken chain.is_decided chain.is_waiting k
      → Fit more taken (if go then chain else start).is_decided (if go then chain else start).is_waiting (go && k)
  enter true more taken k chain fit = fit
  enter false more taken k chain fit = refl

  goes_there : (go : Bool) (chain : Chain) → (if go then chain else start).is_waiting ≡ true → go ≡ true
  goes_there true chain h = refl
  goes_there false chain h = absurd (cc)

  either : (k o : Bool) (xs : List T) → W o k xs ≡ (if k then W o true xs else W o false xs)
  either true o xs = refl
  either false o xs = refl

  module _ (x : T) (xs : List T)
      (rest : (more taken : Bool) (chain : Chain) (k : Bool) → Fit more taken chain.is_decided chain.is_waiting k → W more taken (S chain xs) ≡ W chain.is_open k xs) where
    abbrev ms : List Mark
    ms = marks_of has x

    abbrev at : Bool → Bool → Chain
    at d w = record { is_open = false; is_waiting = w; is_decided = d }

    abbrev stands : Bool → Standing → Standing
    stands d s = if d then goes else s

    abbrev later : Bool → Bool → Standing → List T
    later d w s = S (behind_standing (opens ms) (at d w) (stands d s)) xs

    abbrev there : Bool → List T
    there k =
        if k then W (opens ms) true xs else (if is_true choice ms then bare has x ∷ W (opens ms) true xs else W (opens ms) false xs)

    item : (d w k more taken : Bool) (s : Standing) → standing features ms ≡ s → Agrees features choice admits ms s → (w ≡ true → continues ms ≡ true)
        → Fit more taken d w k
        → W more taken (cond (is_left (stands d s)) (has.with_attributes (attributes_with w (stands d s) (has.attributes x)) x ∷ later d w s) (later d w s)) ≡ there k
    item true w k more taken s is agree continuing fit =
        rest more taken (record { is_open = opens ms; is_waiting = w; is_decided = true }) true refl ∙ ap there (sym fit)
    item false w k more taken goes is agree continuing fit =
        rest more taken (record { is_open = opens ms; is_waiting = w; is_decided = false }) k fit
        ∙ either k (opens ms) xs
        ∙ ap (λ does. if k then W (opens ms) true xs else (if does then bare has x ∷ W (opens ms) true xs else W (opens ms) false xs)) (sym agree)
    item false true k more taken stays is agree continuing fit =
        (λ i. cell (fit.0 i) (fit.1 i) ((ap continues same ∙ else_continues ms (continuing refl)) i) ((ap opens same ∙ else_opens ms) i)
        ((ap (is_true choice) same ∙ else_true choice ms) i) (bare_marked has law otherwise refl x i) (later false true stays))
        ∙ ap (λ t. if k then t else bare has x ∷ t) (rest false true (record { is_open = opens ms; is_waiting = true; is_decided = true }) true refl)
        ∙ ap (λ does. if k then W (opens ms) true xs else (if does then bare has x ∷ W (opens ms) true xs else W (opens ms) false xs)) (sym agree)
      where
        same : marks_of has (marked has otherwise x) ≡ all_else ms
        same = marks_marked has law otherwise else_mark refl x
    item false false k more taken stays is agree continuing fit =
        (λ i. cell more taken (continues (marks_bare has law x i)) (opens (marks_bare has law x i)) (is_true choice (marks_bare has law x i)) (bare_twice has law x i) (later false false stays))
        ∙ ap (λ o. if o && taken then W false true (later false false stays) else bare has x ∷ W false true (later false false stays)) (and_false more)
        ∙ ap (λ t. bare has x ∷ t) (rest false true (record { is_open = opens ms; is_waiting = false; is_decided = true }) true refl)
        ∙ (λ i. if sym fit i then W (opens ms) true xs else (if sym agree i then bare has x ∷ W (opens ms) true xs else W (opens ms) false xs))
    item false true k more taken (waits e) is agree continuing fit =
        (λ i. cell (fit.0 i) (fit.1 i) (continues (same i)) (opens (same i)) (is_true choice (same i)) (bare_marked has law (else_if e) refl x i) (later false true (waits e)))
        ∙ (λ i. if k then behind true i else (if holds choice e then bare has x ∷ behind true i else behind false i))
        ∙ ap (λ does. if k then W (opens ms) true xs else (if does then bare has x ∷ W (opens ms) true xs else W (opens ms) false xs)) (sym agree)
      where
        known : IsOpen features ms e
        known = waiting features ms e is

        same : marks_of has (marked has (else_if e) x) ≡ elif_mark e ∷ []
        same = marks_marked has law (else_if e) (elif_mark e) refl x ∙ ap (map (λ n. elif_mark e)) known.single

        behind : (t : Bool) → W true t (later false true (waits e)) ≡ W (opens ms) t xs
        behind t = rest true t (record { is_open = opens ms; is_waiting = true; is_decided = false }) t (refl, refl)
    item false false k more taken (waits e) is agree continuing fit =
        (λ i. cell more taken (continues (same i)) (opens (same i)) (is_true choice (same i)) (bare_marked has law (if_true e) refl x i) (later false false (waits e)))
        ∙ ap (λ o. if o && taken then W true true (later false false (waits e)) else (if holds choice e then bare has x ∷ W true true (later false false (waits e)) else W true false (later false false (waits e)))) (and_false more)
        ∙ (λ i. if holds choice e then bare has x ∷ behind true i else behind false i)
        ∙ (λ i. if sym fit i then W (opens ms) true xs else (if sym agree i then bare has x ∷ W (opens ms) true xs else W (opens ms) false xs))
      where
        known : IsOpen features ms e
        known = waiting features ms e is

        same : marks_of has (marked has (if_true e) x) ≡ if_mark e ∷ []
        same = marks_marked has law (if_true e) (if_mark e) refl x ∙ ap (map (λ n. if_mark e)) known.single

        behind : (t : Bool) → W true t (later false false (waits e)) ≡ W (opens ms) t xs
        behind t = rest true t (record { is_open = opens ms; is_waiting = true; is_decided = false }) t (refl, refl)

  same_walk : (xs : List T) (more taken : Bool) (chain : Chain) (k : Bool) → Fit more taken chain.is_decided chain.is_waiting k
      → W more taken (S chain xs) ≡ W chain.is_open k xs
  same_walk [] more taken chain k fit = refl
  same_walk (x ∷ xs) more taken chain k fit =
      item x xs (same_walk xs) c.is_decided c.is_waiting (go && k) more taken (standing features (marks_of has x)) refl (agrees features choice admits (marks_of has x))
      (λ h. second_and chain.is_open (continues (marks_of has x)) (goes_there go chain h)) (enter go more taken k chain fit)
    where
      go : Bool
      go = goes_on chain (marks_of has x)

      c : Chain
      c = chain_at chain (marks_of has x)

  pub left_means_the_same : (xs : List T) → chosen choice has (left features has xs) ≡ chosen choice has xs
  left_means_the_same xs =
      ap (chosen choice has) (sym (settled_is_left features has xs)) ∙ sym (walk_is_chosen choice has (settled features has start xs))
      ∙ same_walk xs false false start false refl ∙ walk_is_chosen choice has xs
