-- Chains arrive at imports.
use Rattle.std.proofs.Common.{◌≡◌, refl, sym, ap, ◌∙◌, subst, ℕ, zero, suc, ◌+◌, ◌<◌, ◌≤◌, ◌⊎◌, inl, inr, List, [], ◌∷◌, ◌++◌, length, drop, Option, Some, None, Bool, true, false, is_some, arith}
use Rattle.std.specs.Prelude.{◌≢◌, slice_get}
use Rattle.std.specs.List.{Contains}
use Rattle.std.specs.Option.{option_map}
use Rattle.std.proofs.lemmas.List.{append-nil}
use Rattle.std.proofs.lemmas.List.Elements.{Contains-append_left, Contains-append_right, Contains-append_cases}
use Rattle.wgsl_base.proofs.Members.{first_in, later_in, in_cases, in_none}
use Rattle.wesl_chains.specs.Outlines.{Symbol}
use Rattle.wesl_chains.proofs.Loops.{same_some}
use Rattle.wesl_module_index.specs.declared.module.Module.{Module}
use Rattle.wesl_module_index.specs.declared.modules.Modules.{Modules}
use Rattle.wesl_name_resolution.specs.declared.denote.Via.{Via}
use Rattle.wesl_name_resolution.specs.Links.{symbol_via, published_symbol, import_in}
use Rattle.wesl_reachability.specs.declared.chains.Chains.{Chains}
use Rattle.wesl_reachability.specs.declared.chains.State.{State}
use Rattle.wesl_reachability.specs.declared.chains.State.TheVariants.{New, Met, Passed}
use Rattle.wesl_reachability.specs.declared.holding.Holding.{Holding}
use Rattle.wesl_reachability.specs.Cells.{cell, HasRoom}
use Rattle.wesl_reachability.specs.Holding.{HasModule, IsPassed, Grows, HasAll, Asserts, Passes}
use Rattle.wesl_reachability.specs.Joining.{state_at, list_of, before_at, PutsState, PassesImport}
use Rattle.wesl_reachability.specs.Searching.{is_met, is_known, IsKnown, IsGone}
use Rattle.wesl_reachability.specs.Passing.{SameWays, IsPassing, LeadsUp, itself, before, PassesOnly, PassesOne, PassesSome, PassesBefore}
use Rattle.wesl_reachability.proofs.Cells.{cell_now, kept_room}
use Rattle.wesl_reachability.proofs.Held.{grows_same, grows_then}
use Rattle.wesl_reachability.proofs.Linking.{known_state}
use Rattle.wesl_reachability.proofs.Searching.{has_all_on}

pub same_ways : (c : Chains) → SameWays c c
same_ways c = record { before = refl; links = refl; known = λ v. refl; gone = λ v g. g; unmet = λ v e. e; room = λ m k r. r }

pub ways_then : {a b c : Chains} → SameWays a b → SameWays b c → SameWays a c
ways_then x y = record {
  before = y.before ∙ x.before;
  links = y.links ∙ x.links;
  known = λ v. y.known v ∙ x.known v;
  gone = λ v g. y.gone v (x.gone v g);
  unmet = λ v e. x.unmet v (y.unmet v e);
  room = λ m k r. y.room m k (x.room m k r);
}

-- the module of an import that leads on is one of them
module_of : (ms : Modules) (v : Via) (s : Symbol) → symbol_via ms v ≡ Some s → (one : Module) × (slice_get ms.list.items v.«module» ≡ Some one)
module_of ms v s is = at (slice_get ms.list.items v.«module») refl is
  where
    at : (o : Option Module) → slice_get ms.list.items v.«module» ≡ o → published_symbol (import_in o v.item) ≡ Some s → (one : Module) × (slice_get ms.list.items v.«module» ≡ Some one)
    at None e f = absurd (cc)
    at (Some one) e f = (one, e)

module _ (via : Via) (old new : Chains) (was_met : state_at old via ≡ Some Met) (p : PutsState via Passed old new) where
  state_now : (w : Via) → ((w ≡ via) × (state_at old w ≡ Some Met) × (state_at new w ≡ Some Passed)) ⊎ (state_at new w ≡ state_at old w)
  state_now w = elim (cell_now old.states.items via.«module» via.item Passed new.states.items p.puts w.«module» w.item) [
    | inl e ↦ (let f : w ≡ via = (λ i. record { «module» = e.0 i; item = e.1 i }) in
        let g : state_at old w ≡ Some Met = ap (state_at old) f ∙ was_met in
        inl (f, g, e.2 ∙ ap (option_map (λ x. Passed)) g))
    | inr e ↦ inr e
  ]

  pub passed_now : IsGone new via
  passed_now = p.puts.here ∙ ap (option_map (λ x. Passed)) was_met

  pub put_ways : SameWays old new
  put_ways = record {
    before = p.before;
    links = p.links;
    known = λ v. elim (state_now v) [
      | inl e ↦ (let a : is_known new v ≡ true = ap is_met e.2 in let b : is_known old v ≡ true = ap is_met e.1 in a ∙ sym b)
      | inr e ↦ ap is_met e
    ];
    gone = λ v g. elim (state_now v) [ inl e ↦ e.2 | inr e ↦ e ∙ g ];
    unmet = λ v g. elim (state_now v) [
      | inl e ↦ (let f : Some Passed ≡ Some New = sym e.2 ∙ g in absurd (cc))
      | inr e ↦ sym e ∙ g
    ];
    room = λ m k r. kept_room old.states.items via.«module» via.item Passed new.states.items p.puts m k r;
  }

  gone_or : (v : Via) → IsGone new v → IsGone old v ⊎ (v ≡ via)
  gone_or v g = elim (state_now v) [ inl e ↦ inr e.0 | inr e ↦ inl (sym e ∙ g) ]

  pub passes_first : (ms : Modules) (h now : Holding) (work later : List Via) → Passes ms.list.items via.«module» h now → later ≡ work ++ before_at old via → PassesOne ms via h old work now new later
  passes_first ms h now work later q added = record {
    ways = put_ways;
    grows = q.grows;
    more = before_at old via;
    added = added;
    passing = λ rest a. (
      record {
        all = has_all_on ms.list.items h now a.all q.grows;
        asserts = q.asserts a.all a.asserts;
        published = λ v k. a.published v (sym (put_ways.known v) ∙ k);
        before_known = λ v w c. put_ways.known w ∙ a.before_known v w (same v w c);
        work_known = λ v c. put_ways.known v ∙ elim (Contains-append_cases rest (before_at old via) v c) [
          | inl d ↦ a.work_known v (later_in v via rest d)
          | inr d ↦ a.before_known via v d
        ];
        closed = λ v w c g. elim (gone_or v g) [
          | inl x ↦ elim (a.closed v w (same v w c) x) [
            | inl y ↦ inl (put_ways.gone w y)
            | inr y ↦ elim (in_cases via rest w y) [
              | inl e ↦ inl (subst (λ z. IsGone new z) e passed_now)
              | inr d ↦ inr (Contains-append_left rest (before_at old via) w d)
            ]
          ]
          | inr e ↦ inr (Contains-append_right rest (before_at old via) w (subst (λ z. Contains (before_at old z) w) e (same v w c)))
        ];
        gone = λ v g. elim (gone_or v g) [
          | inl x ↦ q.grows.keeps v.«module» (a.gone v x)
          | inr e ↦ (let is = a.published via (a.work_known via (first_in via rest)) in
              let one = module_of ms via is.0 is.1 in
              subst (λ z. IsPassed now z.«module») (sym e) (q.passed (a.all.modules via.«module» one.0 one.1)))
        ];
      },
      passed_now,
    );
    only_more = λ v d. d;
    only_held = q.only_held;
    only_passed = q.only_passed;
    only_gone = gone_or;
  }
    where
      same : (v w : Via) → Contains (before_at new v) w → Contains (before_at old v) w
      same v w c = subst (λ y. Contains (list_of (cell y.items v.«module» v.item)) w) p.before c

pub passes_again : (ms : Modules) (via : Via) (h : Holding) (c new : Chains) (work later : List Via) → (state_at c via ≡ Some Met → ⊥) → new ≡ c → later ≡ work → PassesOne ms via h c work h new later
passes_again ms via h c new work later other same added = subst (λ x. PassesOne ms via h c work h x later) (sym same) (record {
  ways = same_ways c;
  grows = grows_same h;
  more = [];
  added = added ∙ sym (append-nil work);
  passing = λ rest a.
      let gone : IsGone c via = elim (known_state (state_at c via) (a.work_known via (first_in via rest))) [ inl e ↦ absurd (other e) | inr e ↦ e ] in (
        record {
          all = a.all;
          asserts = a.asserts;
          published = a.published;
          before_known = a.before_known;
          work_known = λ v d. a.work_known v (later_in v via rest (subst (λ l. Contains l v) (append-nil rest) d));
          closed = λ v w d g. elim (a.closed v w d g) [
            | inl x ↦ inl x
            | inr x ↦ elim (in_cases via rest w x) [ inl e ↦ inl (subst (λ z. IsGone c z) e gone) | inr y ↦ inr (subst (λ l. Contains l w) (sym (append-nil rest)) y) ]
          ];
          gone = a.gone;
        },
        gone,
      );
  only_more = λ v d. absurd (in_none v d);
  only_held = λ m k x. inl x;
  only_passed = λ m x. inl x;
  only_gone = λ v x. inl x;
})

-- ---- one by one

pub passes_some : (ms : Modules) (work : List Via) (h : Holding) (c : Chains) → PassesSome ms work h c h c work
passes_some ms work h c = record {
  ways = same_ways c;
  grows = grows_same h;
  passing = λ a. (a, λ v x. inr x);
  only = record { held = λ m k x. inl x; passed = λ m x. inl x; gone = λ v x. inl x };
  only_left = λ v x. itself x;
}

drop_get : {X : Type 0} (xs : List X) (i : ℕ) (x : X) → slice_get xs i ≡ Some x → drop i xs ≡ x ∷ drop (i + 1) xs
drop_get [] i x is = absurd (cc)
drop_get (y ∷ xs) zero x is = ap (λ z. z ∷ xs) (same_some is)
drop_get (y ∷ xs) (suc i) x is = let e : suc i + 1 ≡ suc (i + 1) = omega arith in drop_get xs i x is ∙ ap (λ n. x ∷ drop n (y ∷ xs)) (sym e)

drop_append : {X : Type 0} (xs ys : List X) (i : ℕ) → i ≤ length xs → drop i (xs ++ ys) ≡ drop i xs ++ ys
drop_append xs ys zero less = refl
drop_append [] ys (suc i) less = absurd (omega (arith, less))
drop_append (x ∷ xs) ys (suc i) less = drop_append xs ys i (omega (arith, less))

get_within : {X : Type 0} (xs : List X) (i : ℕ) (x : X) → slice_get xs i ≡ Some x → i < length xs
get_within [] i x is = absurd (cc)
get_within (y ∷ xs) zero x is = omega arith
get_within (y ∷ xs) (suc i) x is = let h = get_within xs i x is in omega (arith, h)

pub drop_none : {X : Type 0} (xs : List X) (i : ℕ) → slice_get xs i ≡ None → drop i xs ≡ []
drop_none [] zero is = refl
drop_none [] (suc i) is = refl
drop_none (x ∷ xs) zero is = absurd (cc)
drop_none (x ∷ xs) (suc i) is = drop_none xs i is

pub drop_all : {X : Type 0} (xs : List X) (i : ℕ) → length xs ≤ i → drop i xs ≡ []
drop_all [] zero less = refl
drop_all [] (suc i) less = refl
drop_all (x ∷ xs) zero less = absurd (omega (arith, less))
drop_all (x ∷ xs) (suc i) less = drop_all xs i (omega (arith, less))

pub passes_more : (ms : Modules) (first : List Via) (h now last : Holding) (c new end : Chains) (work later : List Via) (at : ℕ) (via : Via) → slice_get work at ≡ Some via
    → PassesSome ms first h c now new (drop at work) → PassesOne ms via now new work last end later → PassesSome ms first h c last end (drop (at + 1) later)
passes_more ms first h now last c new end work later at via is a p =
    let less = get_within work at via is in
    let up : LeadsUp c first via = a.only_left via (subst (λ l. Contains l via) (sym (drop_get work at via is)) (first_in via (drop (at + 1) work))) in
    let e : drop (at + 1) later ≡ drop (at + 1) work ++ p.more = ap (drop (at + 1)) p.added ∙ drop_append work p.more (at + 1) (omega (arith, less)) in
    subst (λ l. PassesSome ms first h c last end l) (sym e) (record {
      ways = ways_then a.ways p.ways;
      grows = grows_then a.grows p.grows;
      passing = λ x.
          let y = a.passing x in
          let z = p.passing (drop (at + 1) work) (subst (λ l. IsPassing ms now new l) (drop_get work at via is) y.0) in (
            z.0,
            λ v d. elim (y.1 v d) [
              | inl g ↦ inl (p.ways.gone v g)
              | inr g ↦ elim (in_cases via (drop (at + 1) work) v (subst (λ l. Contains l v) (drop_get work at via is) g)) [
                | inl f ↦ inl (subst (λ w. IsGone end w) f z.1)
                | inr f ↦ inr (Contains-append_left (drop (at + 1) work) p.more v f)
              ]
            ],
          );
      only = record {
        held = λ m k x. elim (p.only_held m k x) [
          | inl y ↦ a.only.held m k y
          | inr y ↦ inr (record { via = via; leads_up = up; is_module = sym y.0 }, y.1)
        ];
        passed = λ m x. elim (p.only_passed m x) [
          | inl y ↦ a.only.passed m y
          | inr y ↦ inr (record { via = via; leads_up = up; is_module = sym y })
        ];
        gone = λ v x. elim (p.only_gone v x) [
          | inl y ↦ a.only.gone v y
          | inr y ↦ inr (subst (λ z. LeadsUp c first z) (sym y) up)
        ];
      };
      only_left = λ v x. elim (Contains-append_cases (drop (at + 1) work) p.more v x) [
        | inl y ↦ a.only_left v (subst (λ l. Contains l v) (sym (drop_get work at via is)) (later_in v via (drop (at + 1) work) y))
        | inr y ↦ before up (subst (λ z. Contains (list_of (cell z.items via.«module» via.item)) v) a.ways.before (p.only_more v y))
      ];
    })

pub passes_all : (ms : Modules) (work : List Via) (h now : Holding) (c new : Chains) (left : List Via) → PassesSome ms work h c now new left → left ≡ [] → PassesBefore ms work h c now new
passes_all ms work h now c new left a none = record {
  ways = a.ways;
  grows = a.grows;
  passing = λ x. let y = a.passing x in (
    subst (λ l. IsPassing ms now new l) none y.0,
    λ v d. elim (y.1 v d) [
      | inl g ↦ g
      | inr g ↦ absurd (in_none v (subst (λ l. Contains l v) none g))
    ],
  );
  only = a.only;
}

pub passes_none : (ms : Modules) (h : Holding) (c : Chains) → PassesBefore ms [] h c h c
passes_none ms h c = passes_all ms [] h h c c [] (passes_some ms [] h c) refl
