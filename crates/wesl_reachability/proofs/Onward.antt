-- Ways of imports are followed, and made shorter.
use Rattle.std.proofs.Common.{◌≡◌, refl, sym, ap, ◌∙◌, subst, ℕ, zero, suc, ◌+◌, ◌<◌, ◌≤◌, ◌⊎◌, inl, inr, List, [], ◌∷◌, ◌++◌, length, Option, Some, None, Bool, true, arith, length-append}
use Rattle.std.specs.Prelude.{◌≢◌, slice_get}
use Rattle.std.specs.Option.{option_map, unwrap_or}
use Rattle.wesl_chains.specs.Outlines.{Path, Symbol, Finder}
use Rattle.wesl_chains.specs.Chains.{Leads, here, onto, Loops}
use Rattle.wesl_chains.proofs.Loops.{same_some, leads_then, loops_behind}
use Rattle.wesl_module_index.specs.declared.modules.Modules.{Modules}
use Rattle.wesl_module_index.specs.Counts.{item_total}
use Rattle.wesl_module_index.specs.Loaded.{AreTabled}
use Rattle.wesl_name_resolution.specs.declared.denote.Via.{Via}
use Rattle.wesl_name_resolution.specs.Links.{symbol_via}
use Rattle.wesl_name_resolution.proofs.Chains.{exhausted}
use Rattle.wesl_reachability.specs.Cells.{Rows, cell, HasRoom, Puts}
use Rattle.wesl_reachability.specs.Onward.{IsFar, onward_at, IsLast, LeadOn, StayIn, Shortens, ComesToLast, IsOneLast, FindsLast, AreAlone}
use Rattle.wesl_reachability.proofs.Cells.{cell_now, kept_room, there_put, get_push}

-- ---- far

module _ (find : Finder) where
  pub far_then : (s t : Symbol) (o : Option Symbol) (n : ℕ) → IsFar find s (Some t) n → IsFar find t o 1 → IsFar find s o (n + 1)
  far_then s t o n a b =
      let same : a.last ≡ t = sym (same_some a.is_last) in
      let c = a.count in
      let d = length-append (a.by ∷ a.more) (b.by ∷ b.more) in
      record {
        last = b.last;
        by = a.by;
        more = a.more ++ b.by ∷ b.more;
        is_last = b.is_last;
        chain = leads_then find (subst (λ x. Leads find s (a.by ∷ a.more) x) same a.chain) b.chain;
        count = (let e : length (a.by ∷ a.more ++ b.by ∷ b.more) ≡ length (a.by ∷ a.more) + length (b.by ∷ b.more) = d in let less : n + 1 ≤ length (a.by ∷ a.more ++ b.by ∷ b.more) = omega (arith, e, c) in less);
      }

  pub less_far : (s : Symbol) (o : Option Symbol) (n m : ℕ) → IsFar find s o n → m ≤ n → IsFar find s o m
  less_far s o n m a less = let c = a.count in record { last = a.last; by = a.by; more = a.more; is_last = a.is_last; chain = a.chain; count = omega (arith, c, less) }

  -- what comes back never ends
  pub far_round : (s : Symbol) (n : ℕ) → IsFar find s (Some s) n → Loops find s
  far_round s n a =
      let same : a.last ≡ s = sym (same_some a.is_last) in
      record { there = s; before = []; onward = here; first = a.by; more = a.more; back = subst (λ x. Leads find s (a.by ∷ a.more) x) same a.chain }

  pub far_loops : (s t : Symbol) (n : ℕ) → IsFar find s (Some t) n → Loops find t → Loops find s
  far_loops s t n a l =
      let same : a.last ≡ t = sym (same_some a.is_last) in
      loops_behind find (subst (λ x. Leads find s (a.by ∷ a.more) x) same a.chain) l

-- ---- one way is made shorter

module _ (rows new : Rows Via) (via to : Via) (s : Puts rows via.«module» via.item to new) where
  put_or : (v : Via) (o p : Option Via) → p ≡ option_map (λ x. to) o → (unwrap_or p v ≡ unwrap_or o v) ⊎ (unwrap_or p v ≡ to)
  put_or v None p e = inl (ap (λ q. unwrap_or q v) e)
  put_or v (Some x) p e = inr (ap (λ q. unwrap_or q v) e)

  pub onward_now : (v : Via) → (onward_at new v ≡ onward_at rows v) ⊎ ((v ≡ via) × (onward_at new v ≡ to))
  onward_now v = elim (cell_now rows via.«module» via.item to new s v.«module» v.item) [
    | inl e ↦ elim (put_or v (cell rows v.«module» v.item) (cell new v.«module» v.item) e.2) [
      | inl f ↦ inl f
      | inr f ↦ inr ((λ i. record { «module» = e.0 i; item = e.1 i }), f)
    ]
    | inr e ↦ inl (ap (λ q. unwrap_or q v) e)
  ]

  -- where there is room
  pub onward_put : HasRoom rows via.«module» via.item → onward_at new via ≡ to
  onward_put room = ap (λ q. unwrap_or q via) (s.here ∙ there_put to (cell rows via.«module» via.item) room)

-- ---- the way that is followed

-- so many times an import was taken that is known to be led to
pub record Follows (ms : Modules) (old : Rows Via) (first at : Via) (rows : Rows Via) (n : ℕ) : Type 0 where
  pub shortens : Shortens ms old rows
  pub stays : (f : Via → Bool) → StayIn f old → f first ≡ true → f at ≡ true
  pub far : (find : Finder) → AreTabled ms find → LeadOn ms find old → (s : Symbol) → symbol_via ms first ≡ Some s → ((n ≡ 0) × (first ≡ at)) ⊎ IsFar find s (symbol_via ms at) n

pub follows_first : (ms : Modules) (rows : Rows Via) (first : Via) → Follows ms rows first first rows 0
follows_first ms rows first = record {
  shortens = record { right = λ find t l. l; stay = λ f s. s; last = λ v e. e; only_last = λ v e. e; room = λ m k r. r };
  stays = λ f s e. e;
  far = λ find t l s is. inl (refl, refl);
}

module _ (ms : Modules) (old : Rows Via) (first at : Via) (rows : Rows Via) (n : ℕ) (w : Follows ms old first at rows n) where
  -- it is the last one
  pub is_the_last : IsLast rows at → FindsLast ms old first rows (Some at)
  is_the_last e = record {
    shortens = w.shortens;
    is_last = λ f s is. (e, w.stays f s is);
    comes = λ find t l s is. elim (w.far find t l s is) [ inl x ↦ inl x.1 | inr x ↦ inr (record { last = x.last; by = x.by; more = x.more; is_last = x.is_last; chain = x.chain; count = omega arith }) ];
  }

  -- its chain never ends
  pub never_ends : ((find : Finder) → AreTabled ms find → LeadOn ms find rows → (t : Symbol) → symbol_via ms at ≡ Some t → Loops find t) → FindsLast ms old first rows None
  never_ends loops = record {
    shortens = w.shortens;
    is_last = λ f s is. tt;
    comes = λ find t l s is. elim (w.far find t l s is) [
      | inl x ↦ loops find t (w.shortens.right find t l) s (ap (symbol_via ms) (sym x.1) ∙ is)
      | inr x ↦ far_loops find s x.last n (record { last = x.last; by = x.by; more = x.more; is_last = refl; chain = x.chain; count = x.count }) (loops find t (w.shortens.right find t l) x.last x.is_last)
    ];
  }

  -- more links were taken than there are imports
  pub too_far : (count : ℕ) → item_total ms.list.items ≤ count → count < n → FindsLast ms old first rows None
  too_far count enough more = record {
    shortens = w.shortens;
    is_last = λ f s is. tt;
    comes = λ find t l s is. elim (w.far find t l s is) [
      | inl x ↦ (let z = x.0 in absurd (omega (arith, z, more)))
      | inr x ↦ (let c = x.count in loops_behind find x.chain (exhausted ms find t s x.last (x.by ∷ x.more) x.chain count enough (omega (arith, c, more))))
    ];
  }

  module _ (next behind : Via) (next_is : next ≡ onward_at rows at) (behind_is : behind ≡ onward_at rows next) (moves : next ≡ at → ⊥) where
    -- it leads on
    stepped : (find : Finder) → LeadOn ms find rows → (t : Symbol) → symbol_via ms at ≡ Some t → IsFar find t (symbol_via ms behind) 1
    stepped find l t is = elim (l at t is) [
      | inl e ↦ absurd (moves (next_is ∙ e))
      | inr a ↦ (let there : symbol_via ms next ≡ Some a.last = ap (symbol_via ms) next_is ∙ a.is_last in
          elim (l next a.last there) [
            | inl e ↦ record { last = a.last; by = a.by; more = a.more; is_last = ap (symbol_via ms) (behind_is ∙ e) ∙ there; chain = a.chain; count = a.count }
            | inr b ↦ less_far find t (symbol_via ms behind) 2 1
                (far_then find t a.last (symbol_via ms behind) 1 (record { last = a.last; by = a.by; more = a.more; is_last = refl; chain = a.chain; count = a.count })
                (record { last = b.last; by = b.by; more = b.more; is_last = ap (symbol_via ms) behind_is ∙ b.is_last; chain = b.chain; count = b.count })) (omega arith)
          ])
    ]

    pub turns : behind ≡ at → FindsLast ms old first rows None
    turns e = never_ends (λ find t l u is. far_round find u 1 (subst (λ o. IsFar find u o 1) (ap (symbol_via ms) e ∙ is) (stepped find l u is)))

    pub goes_on : (behind ≡ at → ⊥) → (new : Rows Via) → Puts rows at.«module» at.item behind new → Follows ms old first behind new (n + 1)
    goes_on away new p = record {
      shortens = record {
        right = λ find t l. let r = w.shortens.right find t l in λ v s is. elim (onward_now rows new at behind p v) [
          | inl e ↦ elim (r v s is) [ inl f ↦ inl (e ∙ f) | inr f ↦ inr (subst (λ x. IsFar find s (symbol_via ms x) 1) (sym e) f) ]
          | inr e ↦ inr (subst (λ x. IsFar find s (symbol_via ms x) 1) (sym e.1) (stepped find r s (ap (symbol_via ms) (sym e.0) ∙ is)))
        ];
        stay = λ f s. let r = w.shortens.stay f s in λ v is. elim (onward_now rows new at behind p v) [
          | inl e ↦ ap f e ∙ r v is
          | inr e ↦ ap f (e.1 ∙ behind_is) ∙ r next (ap f next_is ∙ r at (ap f (sym e.0) ∙ is))
        ];
        last = λ v is. let was = w.shortens.last v is in elim (onward_now rows new at behind p v) [
          | inl e ↦ e ∙ was
          | inr e ↦ absurd (moves (next_is ∙ ap (onward_at rows) (sym e.0) ∙ was ∙ e.0))
        ];
        only_last = λ v is. elim (onward_now rows new at behind p v) [
          | inl e ↦ w.shortens.only_last v (sym e ∙ is)
          | inr e ↦ absurd (away (sym e.1 ∙ is ∙ e.0))
        ];
        room = λ m k h. kept_room rows at.«module» at.item behind new p m k (w.shortens.room m k h);
      };
      stays = λ f s is. let r = w.shortens.stay f s in ap f behind_is ∙ r next (ap f next_is ∙ r at (w.stays f s is));
      far = λ find t l s is. let r = w.shortens.right find t l in elim (w.far find t l s is) [
        | inl x ↦ (let z = x.0 in inr (less_far find s (symbol_via ms behind) 1 (n + 1) (stepped find r s (ap (symbol_via ms) (sym x.1) ∙ is)) (omega (arith, z))))
        | inr x ↦ inr (far_then find s x.last (symbol_via ms behind) n (record { last = x.last; by = x.by; more = x.more; is_last = refl; chain = x.chain; count = x.count }) (stepped find r x.last x.is_last))
      ];
    }

-- ---- items are taken in

pub alone_more : (number n : ℕ) (row : List Via) → AreAlone number n row → AreAlone number (n + 1) (row ++ record { «module» = number; item = n } ∷ [])
alone_more number n row a = (
  (let e = length-append row (record { «module» = number; item = n } ∷ []) in let f = a.0 in omega (arith, e, f)),
  λ k v is. elim (get_push row (record { «module» = number; item = n }) k v is) [
    | inl e ↦ a.1 k v e
    | inr e ↦ e.1 ∙ (λ i. record { «module» = number; item = (sym (e.0 ∙ a.0)) i })
  ],
)
