-- What the search along a chain knows on its way.
use Rattle.std.proofs.Common.{◌≡◌, refl, sym, ap, ◌∙◌, subst, ℕ, zero, suc, ◌+◌, ◌<◌, ◌≤◌, ◌⊎◌, inl, inr, List, [], ◌∷◌, ◌++◌, length, Option, Some, None, true, arith, length-append}
use Rattle.std.specs.Prelude.{◌≢◌}
use Rattle.std.specs.List.{Contains}
use Rattle.std.proofs.lemmas.List.Elements.{Contains-append_left, Contains-append_right, Contains-append_cases}
use Rattle.wesl_chains.proofs.Members.{first_in, in_cases, in_none}
use Rattle.wesl_chains.proofs.Loops.{same_some, leads_more}
use Rattle.wesl_chains.specs.Outlines.{Path, Symbol, Finder}
use Rattle.wesl_chains.specs.Chains.{next, leads, Leads, here, onto, Loops}
use Rattle.wesl_module_index.specs.declared.modules.Modules.{Modules}
use Rattle.wesl_module_index.specs.Counts.{item_total}
use Rattle.wesl_module_index.specs.Loaded.{AreTabled}
use Rattle.wesl_name_resolution.specs.declared.denote.Via.{Via}
use Rattle.wesl_name_resolution.specs.declared.ends.End.{End}
use Rattle.wesl_name_resolution.specs.declared.ends.End.TheVariants.{Unknown, ReferenceTarget, Declared, Stops, Never}
use Rattle.wesl_name_resolution.specs.Links.{symbol_via}
use Rattle.wesl_name_resolution.specs.Ends.{Rows, end_at, counts_of, IsEnd, IsRight, AreRight, NoneSought, IsKnown, is_looked_at, said_by, SetsOne, Walks}
use Rattle.wesl_name_resolution.proofs.Chains.{end_behind, right_end, exhausted}
use Rattle.wesl_name_resolution.proofs.Known.{found_or}

-- one import leads to another by one link at least
pub record Comes (find : Finder) (from to : Option Symbol) : Type 0 where
  pub first : Symbol
  pub last : Symbol
  pub by : Path
  pub more : List Path
  pub is_first : from ≡ Some first
  pub is_last : to ≡ Some last
  pub chain : Leads find first (by ∷ more) last

-- so many links lead to an import
pub record Far (find : Finder) (to : Option Symbol) (n : ℕ) : Type 0 where
  pub first : Symbol
  pub last : Symbol
  pub by : List Path
  pub is_last : to ≡ Some last
  pub chain : Leads find first by last
  pub count : length by ≡ n

-- the items that were met are sought, and nothing wrong is known
pub record Marks (ms : Modules) (old : Rows) (met : List Via) (rows : Rows) : Type 0 where
  pub counts : counts_of rows ≡ counts_of old
  pub right : AreRight ms rows
  pub others : (v : Via) → (end_at rows v ≡ end_at old v) ⊎ Contains met v
  pub sought : (v : Via) → end_at rows v ≡ ReferenceTarget → Contains met v

-- the search is at an item, so many links behind the first
pub record Underway (ms : Modules) (old : Rows) (first via : Via) (met : List Via) (rows : Rows) (n : ℕ) : Type 0 where
  pub marks : Marks ms old met rows
  pub begun : ((n ≡ 0) × (via ≡ first) × (met ≡ [])) ⊎ Contains met first
  pub led : (v : Via) → Contains met v → (t : Symbol) × (symbol_via ms via ≡ Some t)
  pub comes : (find : Finder) → AreTabled ms find → (v : Via) → Contains met v → Comes find (symbol_via ms v) (symbol_via ms via)
  pub far : (n ≡ 0) ⊎ ((find : Finder) → AreTabled ms find → Far find (symbol_via ms via) n)

none_in : {met : List Via} → met ≡ [] → (v : Via) → Contains met v → ⊥
none_in e v c = in_none v (subst (λ l. Contains l v) e c)

pub underway : (ms : Modules) (old : Rows) (first : Via) (met : List Via) → AreRight ms old → NoneSought old → met ≡ [] → Underway ms old first first met old 0
underway ms old first met right none e = record {
  marks = record { counts = refl; right = right; others = λ v. inl refl; sought = λ v s. absurd (none v s) };
  begun = inl (refl, refl, e);
  led = λ v c. absurd (none_in e v c);
  comes = λ find tabled v c. absurd (none_in e v c);
  far = inl refl;
}

last_in : (met : List Via) (via : Via) → Contains (met ++ via ∷ []) via
last_in met via = Contains-append_right met (via ∷ []) via (first_in via [])

module _ (ms : Modules) (old : Rows) (first via : Via) (met : List Via) (rows : Rows) (n : ℕ) (u : Underway ms old first via met rows n) where
  -- ---- the item is marked

  module _ (new : Rows) (sets : SetsOne rows via ReferenceTarget new) where
    old_or_last : (v : Via) → Contains (met ++ via ∷ []) v → Contains met v ⊎ (via ≡ v)
    old_or_last v c = elim (Contains-append_cases met (via ∷ []) v c) [ inl d ↦ inl d | inr d ↦ elim (in_cases via [] v d) [ inl e ↦ inr e | inr f ↦ absurd (in_none v f) ] ]

    pub marked : Marks ms old (met ++ via ∷ []) new
    marked = record {
      counts = sets.counts ∙ u.marks.counts;
      right = λ find tabled v s is. elim (sets.others v) [
        | inl e ↦ subst (λ x. IsRight ms find s x) (sym e) (u.marks.right find tabled v s is)
        | inr e ↦ subst (λ x. IsRight ms find s x) (sym e.1) tt
      ];
      others = λ v. elim (sets.others v) [
        | inl e ↦ elim (u.marks.others v) [ inl f ↦ inl (e ∙ f) | inr c ↦ inr (Contains-append_left met (via ∷ []) v c) ]
        | inr e ↦ inr (subst (λ x. Contains (met ++ via ∷ []) x) (sym e.0) (last_in met via))
      ];
      sought = λ v s. elim (sets.others v) [
        | inl e ↦ Contains-append_left met (via ∷ []) v (u.marks.sought v (sym e ∙ s))
        | inr e ↦ subst (λ x. Contains (met ++ via ∷ []) x) (sym e.0) (last_in met via)
      ];
    }

    first_met : Contains (met ++ via ∷ []) first
    first_met = elim u.begun [ inl e ↦ subst (λ x. Contains (met ++ via ∷ []) x) e.1 (last_in met via) | inr c ↦ Contains-append_left met (via ∷ []) first c ]

    module _ (s : Symbol) (is : symbol_via ms via ≡ Some s) where
      to_here : (find : Finder) (x : Option Symbol) → Comes find x (symbol_via ms via) → (last : Symbol) (step : Path) (to : Option Symbol) → to ≡ Some last → next find s ≡ leads last → Comes find x to
      to_here find x c last step to is_to e =
          let same : c.last ≡ s = same_some (sym c.is_last ∙ is) in
          record {
            first = c.first;
            last = last;
            by = c.by;
            more = c.more ++ s.home ∷ [];
            is_first = c.is_first;
            is_last = is_to;
            chain = leads_more find (subst (λ y. Leads find c.first (c.by ∷ c.more) y) same c.chain) e;
          }

      -- it leads on
      pub goes_on : (to : Via) (t : Symbol) → symbol_via ms to ≡ Some t → ((find : Finder) → AreTabled ms find → next find s ≡ leads t) → Underway ms old first to (met ++ via ∷ []) new (n + 1)
      goes_on to t is_to e = record {
        marks = marked;
        begun = inr first_met;
        led = λ v c. (t, is_to);
        comes = λ find tabled v c. elim (old_or_last v c) [
          | inl d ↦ to_here find (symbol_via ms v) (u.comes find tabled v d) t s.home (symbol_via ms to) is_to (e find tabled)
          | inr same ↦ record { first = s; last = t; by = s.home; more = []; is_first = ap (symbol_via ms) (sym same) ∙ is; is_last = is_to; chain = onto (e find tabled) here }
        ];
        far = inr (λ find tabled. elim u.far [
          | inl z ↦ record { first = s; last = t; by = s.home ∷ []; is_last = is_to; chain = onto (e find tabled) here; count = ap (λ k. k + 1) (sym z) }
          | inr f ↦ (let g = f find tabled in
              let same : g.last ≡ s = same_some (sym g.is_last ∙ is) in
              let c = g.count in
              record {
                first = g.first;
                last = t;
                by = g.by ++ s.home ∷ [];
                is_last = is_to;
                chain = leads_more find (subst (λ y. Leads find g.first g.by y) same g.chain) (e find tabled);
                count = omega (arith, c, length-append g.by (s.home ∷ []));
              })
        ]);
      }

      -- or the chain ends behind it
      pub ends_behind : (end : End) → IsKnown end → ((find : Finder) → AreTabled ms find → IsEnd ms find s end) → Walks ms old first (met ++ via ∷ []) new end
      ends_behind end known is_end = record {
        counts = marked.counts;
        right = marked.right;
        others = marked.others;
        sought = marked.sought;
        begun = λ x e. inr first_met;
        ends = λ find tabled v c. elim (old_or_last v c) [
          | inl d ↦ (let k = u.comes find tabled v d in
              let same : k.last ≡ s = same_some (sym k.is_last ∙ is) in
              (k.first, k.is_first, end_behind ms find k.chain end (subst (λ y. IsEnd ms find y end) (sym same) (is_end find tabled))))
          | inr same ↦ (s, ap (symbol_via ms) (sym same) ∙ is, is_end find tabled)
        ];
        known = λ v c. known;
      }

  -- ---- the end is known here

  ends_here : (end : End) → ((v : Via) → Contains met v → IsKnown end)
      → ((find : Finder) → AreTabled ms find → (s : Symbol) → symbol_via ms via ≡ Some s → IsEnd ms find s end)
      → ((s : Symbol) → symbol_via ms via ≡ Some s → end_at rows via ≢ Unknown) → Walks ms old first met rows end
  ends_here end known is_end there = record {
    counts = u.marks.counts;
    right = u.marks.right;
    others = u.marks.others;
    sought = u.marks.sought;
    begun = λ s is. elim u.begun [
      | inl e ↦ inl (subst (λ v. end_at rows v ≢ Unknown) e.1 (there s (ap (symbol_via ms) e.1 ∙ is)))
      | inr c ↦ inr c
    ];
    ends = λ find tabled v c. let k = u.comes find tabled v c in (k.first, k.is_first, end_behind ms find k.chain end (is_end find tabled k.last k.is_last));
    known = known;
  }

  -- it was known before
  pub knows : end_at rows via ≢ Unknown → IsKnown (end_at rows via) → Walks ms old first met rows (end_at rows via)
  knows there known = ends_here (end_at rows via) (λ v c. known) (λ find tabled s is. right_end ms find s (end_at rows via) known (u.marks.right find tabled via s is)) (λ s is. there)

  -- it is met again
  pub turns : end_at rows via ≢ Unknown → end_at rows via ≡ ReferenceTarget → Walks ms old first met rows Never
  turns there again = ends_here Never (λ v c. tt) (λ find tabled s is. loops find s is (u.comes find tabled via (u.marks.sought via again))) (λ s is. there)
    where
      loops : (find : Finder) (s : Symbol) → symbol_via ms via ≡ Some s → Comes find (symbol_via ms via) (symbol_via ms via) → Loops find s
      loops find s is c =
          let one : c.first ≡ s = same_some (sym c.is_first ∙ is) in
          let two : c.last ≡ s = same_some (sym c.is_last ∙ is) in
          record {
            there = s;
            before = [];
            onward = here;
            first = c.by;
            more = c.more;
            back = subst (λ x. Leads find x (c.by ∷ c.more) s) one (subst (λ y. Leads find c.first (c.by ∷ c.more) y) two c.chain);
          }

  -- the same of an end that was read
  pub knows_read : (e : End) → e ≡ end_at rows via → e ≢ Unknown → e ≢ ReferenceTarget → Walks ms old first met rows e
  knows_read e is there other = subst (λ x. Walks ms old first met rows x) (sym is) (knows (λ f. there (is ∙ f)) (found_or (end_at rows via) (λ f. there (is ∙ f)) (λ f. other (is ∙ f))))

  pub turns_read : (e : End) → e ≡ end_at rows via → e ≢ Unknown → e ≡ ReferenceTarget → Walks ms old first met rows Never
  turns_read e is there again = turns (λ f. there (is ∙ f)) (sym is ∙ again)

  pub knows_told : (e : End) → e ≡ end_at rows via → is_looked_at e ≡ true → Walks ms old first met rows (said_by e)
  knows_told Unknown is known = absurd (cc)
  knows_told ReferenceTarget is known = turns_read ReferenceTarget is (λ f. absurd (cc)) refl
  knows_told (Declared spot) is known = knows_read (Declared spot) is (λ f. absurd (cc)) (λ f. absurd (cc))
  knows_told (Stops last) is known = knows_read (Stops last) is (λ f. absurd (cc)) (λ f. absurd (cc))
  knows_told Never is known = knows_read Never is (λ f. absurd (cc)) (λ f. absurd (cc))

  -- nothing leads on from it
  pub stands_still : symbol_via ms via ≡ None → Walks ms old first met rows Unknown
  stands_still none = ends_here Unknown (λ v c. let l = u.led v c in let e : Some l.0 ≡ None = sym l.1 ∙ none in absurd (cc)) (λ find tabled s is. let e : Some s ≡ None = sym is ∙ none in absurd (cc)) (λ s is. let e : Some s ≡ None = sym is ∙ none in absurd (cc))

-- more links were taken than there are imports
pub goes_round : (ms : Modules) (old : Rows) (first via : Via) (met : List Via) (rows : Rows) (n : ℕ) → Underway ms old first via met rows n → (count : ℕ) → item_total ms.list.items ≤ count → count < n
    → Walks ms old first met rows Never
goes_round ms old first via met rows n u count enough more = record {
  counts = u.marks.counts;
  right = u.marks.right;
  others = u.marks.others;
  sought = u.marks.sought;
  begun = λ s is. elim u.begun [ inl e ↦ (let z = e.0 in absurd (omega (arith, z, more))) | inr c ↦ inr c ];
  ends = λ find tabled v c. let k = u.comes find tabled v c in (k.first, k.is_first, end_behind ms find k.chain Never (loops find tabled k.last k.is_last u.far));
  known = λ v c. tt;
}
  where
    loops : (find : Finder) → AreTabled ms find → (s : Symbol) → symbol_via ms via ≡ Some s → (n ≡ 0) ⊎ ((find : Finder) → AreTabled ms find → Far find (symbol_via ms via) n) → Loops find s
    loops find tabled s is (inl z) = absurd (omega (arith, z, more))
    loops find tabled s is (inr f) =
        let g = f find tabled in
        let same : g.last ≡ s = same_some (sym g.is_last ∙ is) in
        let c = g.count in
        subst (λ y. Loops find y) same (exhausted ms find tabled g.first g.last g.by g.chain count enough (omega (arith, c, more)))
