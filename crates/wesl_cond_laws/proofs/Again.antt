-- A list that features have settled stays attrs it is when they settle it again.
use Rattle.std.proofs.Common.{◌≡◌, refl, sym, ap, ◌∙◌, List, [], ◌∷◌, map, Bool, true, false, ◌&&◌, cond, Some, None}
use Rattle.std.specs.Prelude.{if◌then◌else◌}
use Rattle.wgsl_expressions.specs.AttributesTree.{Attr, if_true, else_if, otherwise}
use Rattle.wgsl_expressions.specs.Tree.{Exp}
use Rattle.wesl_conditions.specs.declared.features.feature.Features.{Features}
use Rattle.wesl_conditions.specs.declared.meaning.chain.Chain.{Chain}
use Rattle.wesl_conditions.specs.Conditions.{simplified}
use Rattle.wesl_conditions.specs.Chains.{Mark, if_mark, elif_mark, else_mark, marks, marks_of, opens, continues, is_condition, unmarked, remarked, HasAttributes, bare, marked, Standing, goes, stays, waits, standing_of, standing, left}
use Rattle.wesl_conditions.specs.Walks.{start, goes_on, chain_at, behind_standing, behind, is_left, attributes_with, settled}
use Rattle.wesl_conditions.proofs.Walking.{settled_is_left}
use Rattle.wesl_cond_laws.proofs.Remarking.{unmarked_twice, remarked_twice}
use Rattle.wesl_cond_laws.proofs.Simplifying.{simplified_again}
use Rattle.wesl_cond_laws.proofs.Standings.{IsLawful, IsOpen, waiting}
use Rattle.wesl_cond_laws.proofs.Keeping.{second_and, and_false, all_else, else_continues, marks_marked, marks_bare}

-- How a walk over what is left stands to the walk that leaves it: where that waits, this one is in a chain that waits.
abbrev pub Follows : Chain → Bool → Bool → Type 0
Follows after true w = Unit
Follows after false true = (after.is_open ≡ true) × (after.is_waiting ≡ true) × (after.is_decided ≡ false)
Follows after false false = Unit

pub else_stays : (features : Features) (ms : List Mark) → standing features (all_else ms) ≡ stays
else_stays features [] = refl
else_stays features (n ∷ []) = refl
else_stays features (n ∷ m ∷ ms) = refl

pub still_waits : (features : Features) (ms : List Mark) (e : Exp) → IsOpen features ms e → standing_of (simplified features e) ≡ waits e
still_waits features ms e h =
    ap standing_of (ap (simplified features) (sym h.left) ∙ simplified_again features h.condition ∙ h.left)
    ∙ ap (λ o. elim o [ Some b ↦ (if b then stays else goes) | None ↦ waits e ]) h.unknown

module _ (features : Features) {T : Type 0} (has : HasAttributes T) (law : IsLawful has) where
  abbrev S : Chain → List T → List T
  S chain xs = settled features has chain xs

  abbrev stands : Bool → Standing → Standing
  stands d s = if d then goes else s

  abbrev cell : Chain → List Mark → Standing → T → T → List T → List T
  cell c ms s y with_it r =
      cond (is_left (stands c.is_decided s))
      (with_it ∷ S (behind_standing (opens ms) c (stands c.is_decided s)) r)
      (S (behind_standing (opens ms) c (stands c.is_decided s)) r)

  pub enter : (after : Chain) (go : Bool) (chain : Chain) → Follows after chain.is_decided chain.is_waiting
      → Follows after (if go then chain else start).is_decided (if go then chain else start).is_waiting
  enter after true chain fit = fit
  enter after false chain fit = tt

  pub goes_there : (go : Bool) (chain : Chain) → (if go then chain else start).is_waiting ≡ true → go ≡ true
  goes_there true chain h = refl
  goes_there false chain h = absurd (cc)

  marked_again : (new : Attr) → is_condition new ≡ true → (x : T)
      → has.with_attributes (remarked new (has.attributes (marked has new x))) (marked has new x) ≡ marked has new x
  marked_again new is x =
      ap (λ attrs. has.with_attributes (remarked new attrs) (marked has new x)) (law.reads (remarked new (has.attributes x)) x)
      ∙ law.puts (remarked new (remarked new (has.attributes x))) (remarked new (has.attributes x)) x
      ∙ ap (λ attrs. has.with_attributes attrs x) (remarked_twice new is (has.attributes x))

  bare_again : (x : T) → has.with_attributes (unmarked (has.attributes (bare has x))) (bare has x) ≡ bare has x
  bare_again x =
      ap (λ attrs. has.with_attributes (unmarked attrs) (bare has x)) (law.reads (unmarked (has.attributes x)) x)
      ∙ law.puts (unmarked (unmarked (has.attributes x))) (unmarked (has.attributes x)) x
      ∙ ap (λ attrs. has.with_attributes attrs x) (unmarked_twice (has.attributes x))

  -- an item in a chain that waits
  in_waiting : (after : Chain) → Follows after false true → (y : T) (ms : List Mark) (s : Standing) → marks_of has y ≡ ms → continues ms ≡ true
      → standing features ms ≡ s → (r : List T)
      → S after (y ∷ r)
      ≡ cond (is_left s) (has.with_attributes (attributes_with true s (has.attributes y)) y ∷ S (behind_standing (opens ms) (record { is_open = true; is_waiting = true; is_decided = false }) s) r)
      (S (behind_standing (opens ms) (record { is_open = true; is_waiting = true; is_decided = false }) s) r)
  in_waiting after fit y ms s same continuing stand r =
      (λ i. first (if fit.0 i && (ap continues same ∙ continuing) i then after else start) (same i) ((ap (standing features) same ∙ stand) i))
      ∙ (λ i. first (record { is_open = fit.0 i; is_waiting = fit.1 i; is_decided = fit.2 i }) ms s)
    where
      first : Chain → List Mark → Standing → List T
      first c ns s = cell c ns s y (has.with_attributes (attributes_with c.is_waiting (stands c.is_decided s) (has.attributes y)) y) r

  -- an item that begins a chain
  in_new : (after : Chain) (y : T) (ms : List Mark) (s : Standing) → marks_of has y ≡ ms → continues ms ≡ false → standing features ms ≡ s → (r : List T)
      → S after (y ∷ r)
      ≡ cond (is_left s) (has.with_attributes (attributes_with false s (has.attributes y)) y ∷ S (behind_standing (opens ms) start s) r)
      (S (behind_standing (opens ms) start s) r)
  in_new after y ms s same continuing stand r =
      (λ i. first (if after.is_open && (ap continues same ∙ continuing) i then after else start) (same i) ((ap (standing features) same ∙ stand) i))
      ∙ ap (λ o. first (if o then after else start) ms s) (and_false after.is_open)
    where
      first : Chain → List Mark → Standing → List T
      first c ns s = cell c ns s y (has.with_attributes (attributes_with c.is_waiting (stands c.is_decided s) (has.attributes y)) y) r

  module _ (x : T) (xs : List T) (rest : (after chain : Chain) → Follows after chain.is_decided chain.is_waiting → S after (S chain xs) ≡ S chain xs) where
    abbrev ms : List Mark
    ms = marks_of has x

    abbrev at : Bool → Bool → Chain
    at d w = record { is_open = false; is_waiting = w; is_decided = d }

    abbrev later : Bool → Bool → Standing → List T
    later d w s = S (behind_standing (opens ms) (at d w) (stands d s)) xs

    abbrev found : Bool → Bool → Standing → List T
    found d w s = cond (is_left (stands d s)) (has.with_attributes (attributes_with w (stands d s) (has.attributes x)) x ∷ later d w s) (later d w s)

    item : (d w : Bool) (after : Chain) (s : Standing) → standing features ms ≡ s → (w ≡ true → continues ms ≡ true) → Follows after d w
        → S after (found d w s) ≡ found d w s
    item true w after s is continuing fit = rest after (record { is_open = opens ms; is_waiting = w; is_decided = true }) tt
    item false w after goes is continuing fit = rest after (record { is_open = opens ms; is_waiting = w; is_decided = false }) fit
    item false true after stays is continuing fit =
        in_waiting after fit (marked has otherwise x) (all_else ms) stays (marks_marked has law otherwise else_mark refl x) (else_continues ms (continuing refl)) (else_stays features ms) (later false true stays)
        ∙ (λ i. marked_again otherwise refl x i
        ∷ rest (record { is_open = opens (all_else ms); is_waiting = true; is_decided = true }) (record { is_open = opens ms; is_waiting = true; is_decided = true }) tt i)
    item false false after stays is continuing fit =
        in_new after (bare has x) [] stays (marks_bare has law x) refl refl (later false false stays)
        ∙ (λ i. bare_again x i
        ∷ rest (record { is_open = false; is_waiting = false; is_decided = true }) (record { is_open = opens ms; is_waiting = false; is_decided = true }) tt i)
    item false true after (waits e) is continuing fit =
        in_waiting after fit (marked has (else_if e) x) (elif_mark e ∷ []) (waits e)
        (marks_marked has law (else_if e) (elif_mark e) refl x ∙ ap (map (λ n. elif_mark e)) known_open.single) refl (still_waits features ms e known_open) (later false true (waits e))
        ∙ (λ i. marked_again (else_if e) refl x i
        ∷ rest (record { is_open = true; is_waiting = true; is_decided = false }) (record { is_open = opens ms; is_waiting = true; is_decided = false }) (refl, refl, refl) i)
      where
        known_open : IsOpen features ms e
        known_open = waiting features ms e is
    item false false after (waits e) is continuing fit =
        in_new after (marked has (if_true e) x) (if_mark e ∷ []) (waits e)
        (marks_marked has law (if_true e) (if_mark e) refl x ∙ ap (map (λ n. if_mark e)) known_open.single) refl (still_waits features ms e known_open) (later false false (waits e))
        ∙ (λ i. marked_again (if_true e) refl x i
        ∷ rest (record { is_open = true; is_waiting = true; is_decided = false }) (record { is_open = opens ms; is_waiting = true; is_decided = false }) (refl, refl, refl) i)
      where
        known_open : IsOpen features ms e
        known_open = waiting features ms e is

  again : (xs : List T) (after chain : Chain) → Follows after chain.is_decided chain.is_waiting → S after (S chain xs) ≡ S chain xs
  again [] after chain fit = refl
  again (x ∷ xs) after chain fit =
      item x xs (again xs) c.is_decided c.is_waiting after (standing features (marks_of has x)) refl
      (λ h. second_and chain.is_open (continues (marks_of has x)) (goes_there go chain h)) (enter after go chain fit)
    where
      go : Bool
      go = goes_on chain (marks_of has x)

      c : Chain
      c = chain_at chain (marks_of has x)

  pub left_twice : (xs : List T) → left features has (left features has xs) ≡ left features has xs
  left_twice xs =
      sym (settled_is_left features has (left features has xs)) ∙ ap (settled features has start) (sym (settled_is_left features has xs))
      ∙ again xs start start tt ∙ settled_is_left features has xs

  -- ---- what keeps attributes may be done before or after
  module _ (h : T → T) (reads : (x : T) → has.attributes (h x) ≡ has.attributes x)
      (puts : (new : List Attr) (x : T) → h (has.with_attributes new x) ≡ has.with_attributes new (h x)) where
    abbrev settled_at : Chain → List T → T → List Attr → List T
    settled_at chain xs y attrs =
        cell (chain_at chain (marks attrs)) (marks attrs) (standing features (marks attrs)) y
        (has.with_attributes (attributes_with (chain_at chain (marks attrs)).is_waiting (stands (chain_at chain (marks attrs)).is_decided (standing features (marks attrs))) attrs) y) xs

    settled_map : (chain : Chain) (xs : List T) → map h (S chain xs) ≡ S chain (map h xs)
    settled_map chain [] = refl
    settled_map chain (x ∷ xs) =
        by (settled_map next xs) (is_left (stands c.is_decided (standing features (marks_of has x)))) ∙ ap (settled_at chain (map h xs) (h x)) (sym (reads x))
      where
        c : Chain
        c = chain_at chain (marks_of has x)

        next : Chain
        next = behind features chain (marks_of has x)

        new : List Attr
        new = attributes_with c.is_waiting (stands c.is_decided (standing features (marks_of has x))) (has.attributes x)

        by : map h (S next xs) ≡ S next (map h xs) → (l : Bool) → map h (cond l (has.with_attributes new x ∷ S next xs) (S next xs)) ≡ cond l (has.with_attributes new (h x) ∷ S next (map h xs)) (S next (map h xs))
        by rest true = λ i. puts new x i ∷ rest i
        by rest false = rest

    pub left_map : (xs : List T) → map h (left features has xs) ≡ left features has (map h xs)
    left_map xs = ap (map h) (sym (settled_is_left features has xs)) ∙ settled_map start xs ∙ settled_is_left features has (map h xs)
