-- Listed tables whose tests pass fit each grammar that has their rules.
use Rattle.std.proofs.Common.{◌≡◌, ◌∙◌, refl, sym, ap, subst, ℕ, zero, suc, Bool, true, false, not, if◌then◌else◌, ◌&&◌, nat_lt, ◌==◌, List, [], ◌∷◌, ◌++◌, append_assoc, append-nil, drop, length, inl, inr, Option, Some, None}
use Rattle.std.specs.List.{list_all, list_any}
use Rattle.std.proofs.lemmas.Bool.{eqb-true, eq-eqb, and_parts, or_cases}
use Rattle.wgsl_grammar_tables.specs.Grammars.{Symbol, token, phrase, Rule, Grammar, Derives, a_token, a_phrase, Row, done, next, right_side, rest}
use Rattle.wgsl_grammar_tables.specs.declared.shift_reduce.machine.Action.{Action}
use Rattle.wgsl_grammar_tables.specs.declared.shift_reduce.machine.Action.TheVariants.{Shift, Reduce, Accept, Stop}
use Rattle.wgsl_grammar_tables.specs.Machine.{reducing, shifting, action}
use Rattle.wgsl_grammar_tables.specs.Fit.{Among, here, there, Inhabited, Grows, Holds, in_kernel, opened, Steps, Came, Ended, Some_item, IsFit}
use Rattle.wgsl_grammar_tables.specs.Listed.{Listed, Start, code, member, rule_at, rest_at, steps_at, finals_at, kernel_at, corners_at, step_at, first_before, reduction_by, reduction_at, first_at, follow_at, tables, account}
use Rattle.wgsl_grammar_tables.specs.Tests.{all_below, is_only_item, is_only_phrase, is_sentence_rule, has_item, begins_with, begins_phrase, is_some_symbol, is_reduce, leads, first_steps, rule_steps, corner_steps, rest_steps, item_steps, is_of_left, rest_opens, item_opens, is_held, came_by, item_came, step_came, step_to_some, item_known, is_ended, all_ended, is_own_corner, all_own_corners, first_corner, rule_corner, deeper_corner, deeper_corners, is_chain, is_chain_from, corners_reach, has_phrase, is_order, all_lefts, rule_has_phrases, rule_nonempty, first_within, firsts_within, rule_first, reduces_before, rest_ends, item_ends, rest_last, item_last, is_no_start, is_no_sentence, corners_no_sentence, is_behind, all_behind, rule_behind, Passes}
use Rattle.wgsl_grammar_tables.proofs.Facts.{pair_is, not_both, each, among_or, each_below, is_member, is_item, found, some_of, guarded, given, giving, rest_given, drop_nothing, drop_more, among_dropped, all_dropped, either_of, is_beside, begins_is, some_is}

-- ---- what actions say

reduces_is : (p : ℕ) (act : Action) → is_reduce p act ≡ true → act ≡ Reduce p
reduces_is p (Shift t) e = absurd cc
reduces_is p (Reduce q) e = ap Reduce (eqb-true q p e)
reduces_is p Accept e = absurd cc
reduces_is p Stop e = absurd cc

reducing_is : (o : Option ℕ) (p : ℕ) → reducing o ≡ Reduce p → o ≡ Some p
reducing_is None p e = absurd cc
reducing_is (Some q) p e = let same : q ≡ p = cc in ap (λ z. Some z) same

shifting_is : (o : Option ℕ) (act : Action) (p : ℕ) → shifting o act ≡ Reduce p → act ≡ Reduce p
shifting_is None act p e = e
shifting_is (Some t) act p e = absurd cc

unless_last : (b : Bool) (act : Action) (p : ℕ) → (if b then Accept else act) ≡ Reduce p → act ≡ Reduce p
unless_last true act p e = absurd cc
unless_last false act p e = e

reducing_accepts : (o : Option ℕ) → reducing o ≡ Accept → ⊥
reducing_accepts None e = absurd cc
reducing_accepts (Some q) e = absurd cc

shifting_accepts : (o p : Option ℕ) → shifting o (reducing p) ≡ Accept → ⊥
shifting_accepts None p e = reducing_accepts p e
shifting_accepts (Some t) p e = absurd cc

only_last : (b : Bool) (o : Option ℕ) → (if b then Accept else reducing o) ≡ Accept → b ≡ true
only_last true o e = refl
only_last false o e = absurd (reducing_accepts o e)

-- ---- what the tests say of the lists

only_item : (p d : ℕ) (qs : List (ℕ × ℕ)) → is_only_item p d qs ≡ true → qs ≡ (p, d) ∷ []
only_item p d [] e = absurd cc
only_item p d (q ∷ []) e =
    let parts = and_parts (q.0 == p) (q.1 == d) e in
    let same : q ≡ (p, d) = pair_is (eqb-true q.0 p parts.0) (eqb-true q.1 d parts.1) in
    ap (λ z. z ∷ []) same
only_item p d (q ∷ o ∷ qs) e = absurd cc

only_phrase : (n : ℕ) (ss : List Symbol) → is_only_phrase n ss ≡ true → ss ≡ phrase n ∷ []
only_phrase n [] e = absurd cc
only_phrase n (token c ∷ ss) e = absurd cc
only_phrase n (phrase m ∷ []) e = ap (λ z. phrase z ∷ []) (eqb-true m n e)
only_phrase n (phrase m ∷ x ∷ ss) e = absurd cc

rule_is : (n : ℕ) (ss : List Symbol) (r : Rule) → r.left ≡ n → r.right ≡ ss → r ≡ record { left = n; right = ss }
rule_is n ss r a b =
    ap (λ z. let q : Rule = record { left = z; right = r.right } in q) a ∙ ap (λ z. let q : Rule = record { left = n; right = z } in q) b

sentence_rule : (n m : ℕ) (o : Option Rule) → is_sentence_rule n m o ≡ true → o ≡ Some (record { left = n; right = phrase m ∷ [] })
sentence_rule n m None e = absurd cc
sentence_rule n m (Some r) e =
    let parts = and_parts (r.left == n) (is_only_phrase m r.right) e in
    ap (λ (z : Rule). Some z) (rule_is n (phrase m ∷ []) r (eqb-true r.left n parts.0) (only_phrase m r.right parts.1))

module _ (l : Listed) where
  each_kernel : (f : ℕ → ℕ × ℕ → Bool) → all_below l.state_count (λ s. list_all (f s) (kernel_at l s)) ≡ true → (s p d : ℕ) → Among (kernel_at l s) (p, d) → f s (p, d) ≡ true
  each_kernel f t s p d am =
      each (f s) (kernel_at l s) (p, d) (each_below l.state_count (λ s. list_all (f s) (kernel_at l s)) s t (guarded (nat_lt s l.state_count) (l.kernel s) (p, d) am).0) am

  each_step : (f : ℕ → ℕ × ℕ → Bool) → all_below l.state_count (λ s. list_all (f s) (l.steps s)) ≡ true → (s t : ℕ) (x : Symbol) → step_at l s x ≡ Some t → f s (code x, t) ≡ true
  each_step f passes s t x e =
      let h = guarded (nat_lt s l.state_count) (l.steps s) (code x, t) (is_beside (code x) t (steps_at l s) e) in
      each (f s) (l.steps s) (code x, t) (each_below l.state_count (λ s. list_all (f s) (l.steps s)) s passes h.0) h.1

  each_corners : (f : ℕ → Bool) → all_below l.nonterminal_count f ≡ true → (n m : ℕ) → Among (corners_at l n) m → f n ≡ true
  each_corners f t n m am = each_below l.nonterminal_count f n t (guarded (nat_lt n l.nonterminal_count) (l.corners n) m am).0

  leads_to : (o : Option ℕ) (p d : ℕ) → leads l o p d ≡ true → (t : ℕ) × (o ≡ Some t) × Among (kernel_at l t) (p, suc d)
  leads_to None p d e = absurd cc
  leads_to (Some t) p d e = (t, refl, is_item p (suc d) (kernel_at l t) e)

  opens_is : (m : ℕ) (ss : List Symbol) → rest_opens l m ss ≡ true → (n : ℕ) × (more : List Symbol) × (ss ≡ phrase n ∷ more) × Among (corners_at l n) m
  opens_is m [] e = absurd cc
  opens_is m (token c ∷ ss) e = absurd cc
  opens_is m (phrase n ∷ ss) e = (n, ss, refl, is_member m (corners_at l n) e)

  first_among : (c p : ℕ) (ps : List ℕ) → first_before l c ps ≡ Some p → Among ps p
  first_among c p [] e = absurd cc
  first_among c p (q ∷ ps) e =
      elim (either_of (member c (l.follow (l.rule q).left)) q p (first_before l c ps) e) [
        | inl h ↦ subst (λ z. Among (q ∷ ps) z) h.1 here
        | inr more ↦ there (first_among c p ps more)
      ]

  reduction_among : (c p : ℕ) (ps : List ℕ) → reduction_by l c ps ≡ Some p → Among ps p
  reduction_among c p [] e = absurd cc
  reduction_among c p (q ∷ []) e = subst (λ z. Among (q ∷ []) z) (some_is e) here
  reduction_among c p (q ∷ o ∷ ps) e = first_among c p (q ∷ o ∷ ps) e

  begins_phrase_is : (m : ℕ) (ss : List Symbol) → begins_phrase m ss ≡ true → (more : List Symbol) × (ss ≡ phrase m ∷ more)
  begins_phrase_is m [] e = absurd cc
  begins_phrase_is m (token c ∷ ss) e = absurd cc
  begins_phrase_is m (phrase n ∷ ss) e = (ss, ap (λ z. phrase z ∷ ss) (eqb-true n m e))

  behind_dropped : (b : Start) (m d : ℕ) (xs : List Symbol) {x : Symbol} {ss : List Symbol} → all_behind l b m xs ≡ true → drop d xs ≡ x ∷ ss → is_behind l b m x ss ≡ true
  behind_dropped b m zero [] e is = absurd cc
  behind_dropped b m zero (y ∷ ys) {x = x} {ss = ss} e is =
      let one : y ≡ x = cc in
      let more : ys ≡ ss = cc in
      subst (λ z. is_behind l b m z ss ≡ true) one (subst (λ z. is_behind l b m y z ≡ true) more (and_parts (is_behind l b m y ys) (all_behind l b m ys) e).0)
  behind_dropped b m (suc d) [] e is = absurd cc
  behind_dropped b m (suc d) (y ∷ ys) e is = behind_dropped b m d ys (and_parts (is_behind l b m y ys) (all_behind l b m ys) e).1 is

module _ {T V : Type 0} (g : Grammar T V) (l : Listed) (b : Start) (t : Passes l b) (rules : (p : ℕ) → g.rule p ≡ rule_at l p)
    (classes : (c : ℕ) → nat_lt c l.class_count ≡ true → (k : T) × (g.class_of k ≡ c)) where
  rest_is : (p d : ℕ) → rest g p d ≡ rest_at l p d
  rest_is p d = ap (λ o. drop d (right_side o)) (rules p)

  known_is : (p : ℕ) (r : Rule) → g.rule p ≡ Some r → (nat_lt p l.rule_count ≡ true) × (l.rule p ≡ r)
  known_is p r e = given (nat_lt p l.rule_count) (l.rule p) r (sym (rules p) ∙ e)

  is_known : (p : ℕ) → nat_lt p l.rule_count ≡ true → g.rule p ≡ Some (l.rule p)
  is_known p lt = rules p ∙ giving (nat_lt p l.rule_count) (l.rule p) lt

  at_rest : (p d : ℕ) (x : Symbol) (ss : List Symbol) → rest g p d ≡ x ∷ ss → (nat_lt p l.rule_count ≡ true) × (drop d (l.rule p).right ≡ x ∷ ss)
  at_rest p d x ss e = rest_given (nat_lt p l.rule_count) (l.rule p) d x ss (sym (rest_is p d) ∙ e)

  -- ---- a phrase of each

  record HasPhrase (n : ℕ) : Type 0 where
    tokens : List T
    value : V
    stands : Derives g (phrase n) tokens value

  symbols_inhabited : (earlier : List ℕ) → ((n : ℕ) → member n earlier ≡ true → HasPhrase n) → (ss : List Symbol) → list_all (has_phrase l earlier) ss ≡ true → Inhabited g ss
  symbols_inhabited earlier have [] e = record { tokens = []; values = []; stands = done }
  symbols_inhabited earlier have (token c ∷ ss) e =
      let parts = and_parts (nat_lt c l.class_count) (list_all (has_phrase l earlier) ss) e in
      let k = classes c parts.0 in
      let more = symbols_inhabited earlier have ss parts.1 in
      record {
        tokens = (k.0 ∷ []) ++ more.tokens;
        values = g.leaf k.0 ∷ more.values;
        stands = next (subst (λ z. Derives g (token z) (k.0 ∷ []) (g.leaf k.0)) k.1 (a_token k.0)) more.stands;
      }
  symbols_inhabited earlier have (phrase n ∷ ss) e =
      let parts = and_parts (member n earlier) (list_all (has_phrase l earlier) ss) e in
      let one = have n parts.0 in
      let more = symbols_inhabited earlier have ss parts.1 in
      record { tokens = one.tokens ++ more.tokens; values = one.value ∷ more.values; stands = next one.stands more.stands }

  one_more : (earlier : List ℕ) → ((n : ℕ) → member n earlier ≡ true → HasPhrase n) → (p : ℕ) → nat_lt p l.rule_count ≡ true → list_all (has_phrase l earlier) (l.rule p).right ≡ true
      → (n : ℕ) → member n ((l.rule p).left ∷ earlier) ≡ true → HasPhrase n
  one_more earlier have p lt all n e =
      elim (or_cases ((l.rule p).left == n) (member n earlier) e) [
        | inl same ↦
            let row = symbols_inhabited earlier have (l.rule p).right all in
            record {
              tokens = row.tokens;
              value = g.make p row.values;
              stands = subst (λ z. Derives g (phrase z) row.tokens (g.make p row.values)) (eqb-true (l.rule p).left n same) (a_phrase p (l.rule p) (is_known p lt) row.stands);
            }
        | inr more ↦ have n more
      ]

  in_order : (ps earlier : List ℕ) → is_order l earlier ps ≡ true → ((n : ℕ) → member n earlier ≡ true → HasPhrase n) → (n : ℕ) → member n (all_lefts l earlier ps) ≡ true → HasPhrase n
  in_order [] earlier e have n am = have n am
  in_order (p ∷ ps) earlier e have n am =
      let parts = and_parts (nat_lt p l.rule_count) (list_all (has_phrase l earlier) (l.rule p).right && is_order l ((l.rule p).left ∷ earlier) ps) e in
      let more = and_parts (list_all (has_phrase l earlier) (l.rule p).right) (is_order l ((l.rule p).left ∷ earlier) ps) parts.1 in
      in_order ps ((l.rule p).left ∷ earlier) more.1 (one_more earlier have p parts.0 more.0) n am

  no_phrase : (n : ℕ) → member n [] ≡ true → HasPhrase n
  no_phrase n e = absurd cc

  has_each : (n : ℕ) → member n (all_lefts l [] l.order) ≡ true → HasPhrase n
  has_each n e = in_order l.order [] t.order no_phrase n e

  inhabited_at : (p d : ℕ) (known : Bool) → nat_lt p l.rule_count ≡ known → Inhabited g (rest g p d)
  inhabited_at p d true lt =
      let all = each_below l.rule_count (rule_has_phrases l (all_lefts l [] l.order)) p t.inhabited lt in
      let is : rest g p d ≡ drop d (l.rule p).right = ap (λ o. drop d (right_side o)) (is_known p lt) in
      subst (λ ss. Inhabited g ss) (sym is)
      (symbols_inhabited (all_lefts l [] l.order) has_each (drop d (l.rule p).right) (all_dropped (has_phrase l (all_lefts l [] l.order)) d (l.rule p).right all))
  inhabited_at p d false lt =
      let is : rest g p d ≡ [] = rest_is p d ∙ ap (λ z. drop d (right_side (if z then Some (l.rule p) else None))) lt ∙ drop_nothing d in
      subst (λ ss. Inhabited g ss) (sym is) (record { tokens = []; values = []; stands = done })

  inhabited : (p d : ℕ) → Inhabited g (rest g p d)
  inhabited p d = inhabited_at p d (nat_lt p l.rule_count) refl

  -- ---- a phrase grows to each that begins with it

  record Reaches (n m : ℕ) : Type 0 where
    grows : (u : List T) (x : V) → Derives g (phrase m) u x → Grows g n u

  itself_reaches : (n : ℕ) → Reaches n n
  itself_reaches n = record { grows = λ u x h. record { more = []; value = x; stands = subst (λ v. Derives g (phrase n) v x) (sym (append-nil u)) h } }

  reaches_more : (n m p : ℕ) (ss : List Symbol) → nat_lt p l.rule_count ≡ true → (l.rule p).right ≡ phrase m ∷ ss → Reaches n (l.rule p).left → Reaches n m
  reaches_more n m p ss lt is above = record {
    grows = λ u x h.
        let at : rest g p zero ≡ phrase m ∷ ss = ap right_side (is_known p lt) ∙ is in
        let behind = inhabited p (suc zero) in
        let row : Row g ss behind.tokens behind.values = subst (λ z. Row g z behind.tokens behind.values) (drop_more zero (right_side (g.rule p)) at) behind.stands in
        let whole : Row g (l.rule p).right (u ++ behind.tokens) (x ∷ behind.values) = subst (λ z. Row g z (u ++ behind.tokens) (x ∷ behind.values)) (sym is) (next h row) in
        let up = above.grows (u ++ behind.tokens) (g.make p (x ∷ behind.values)) (a_phrase p (l.rule p) (is_known p lt) whole) in
        record { more = behind.tokens ++ up.more; value = up.value; stands = subst (λ v. Derives g (phrase n) v up.value) (append_assoc u behind.tokens up.more) up.stands };
  }

  chain_reach : (n m0 : ℕ) (earlier : List ℕ) → Reaches n m0 → ((k : ℕ) → member k earlier ≡ true → Reaches n k) → (k : ℕ) → member k (m0 ∷ earlier) ≡ true → Reaches n k
  chain_reach n m0 earlier this reach k e =
      elim (or_cases (m0 == k) (member k earlier) e) [
        | inl same ↦ subst (λ z. Reaches n z) (eqb-true m0 k same) this
        | inr more ↦ reach k more
      ]

  in_chain : (n : ℕ) (ms ps earlier : List ℕ) → is_chain l earlier ms ps ≡ true → ((k : ℕ) → member k earlier ≡ true → Reaches n k) → (m : ℕ) → Among ms m → Reaches n m
  in_chain n [] ps earlier e reach m am = elim am [ ]
  in_chain n (m0 ∷ ms) [] earlier e reach m am = absurd cc
  in_chain n (m0 ∷ ms) (p ∷ ps) earlier e reach m am =
      let known = and_parts (nat_lt p l.rule_count) (begins_phrase m0 (l.rule p).right && (member (l.rule p).left earlier && is_chain l (m0 ∷ earlier) ms ps)) e in
      let begins = and_parts (begins_phrase m0 (l.rule p).right) (member (l.rule p).left earlier && is_chain l (m0 ∷ earlier) ms ps) known.1 in
      let above = and_parts (member (l.rule p).left earlier) (is_chain l (m0 ∷ earlier) ms ps) begins.1 in
      let is = begins_phrase_is l m0 (l.rule p).right begins.0 in
      let this : Reaches n m0 = reaches_more n m0 p is.0 known.0 is.1 (reach (l.rule p).left above.0) in
      among_or m0 ms (Reaches n) this (λ k at. in_chain n ms ps (m0 ∷ earlier) above.1 (chain_reach n m0 earlier this reach) k at) m am

  chain_from : (n : ℕ) (ms ps : List ℕ) → is_chain_from l n ms ps ≡ true → (m : ℕ) → Among ms m → Reaches n m
  chain_from n [] ps e m am = elim am [ ]
  chain_from n (m0 ∷ ms) ps e m am =
      let parts = and_parts (m0 == n) (is_chain l (m0 ∷ []) ms ps) e in
      let this : Reaches n m0 = subst (λ z. Reaches n z) (sym (eqb-true m0 n parts.0)) (itself_reaches n) in
      among_or m0 ms (Reaches n) this (λ k at. in_chain n ms ps (m0 ∷ []) parts.1 (chain_reach n m0 [] this (λ k e. absurd (let never : false ≡ true = e in cc))) k at) m am

  reaches : (n m : ℕ) (u : List T) (x : V) → Among (corners_at l n) m → Derives g (phrase m) u x → Grows g n u
  reaches n m u x am h = (chain_from n (corners_at l n) (l.ways n) (each_corners l (corners_reach l) t.reaches n m am) m am).grows u x h

  -- ---- steps

  step_to : (s p d : ℕ) (x : Symbol) → leads l (step_at l s x) p d ≡ true → Steps g (tables l b) (account l b) s p d x
  step_to s p d x e = let h = leads_to l (step_at l s x) p d e in record { to = h.0; step = h.1; kernel = h.2 }

  rest_leads : (s p d : ℕ) (x : Symbol) (ss : List Symbol) → Among (kernel_at l s) (p, d) → rest g p d ≡ x ∷ ss → rest_steps l s p d (x ∷ ss) ≡ true
  rest_leads s p d x ss am e = subst (λ z. rest_steps l s p d z ≡ true) (sym (rest_is p d) ∙ e) (each_kernel l (item_steps l) t.steps s p d am)

  opened_leads : (s q d n m p : ℕ) (more : List Symbol) (r : Rule) → Among (kernel_at l s) (q, d) → rest g q d ≡ phrase n ∷ more → Among (corners_at l n) m → g.rule p ≡ Some r → r.left ≡ m
      → rule_steps l s p ≡ true
  opened_leads s q d n m p more r am at corner is left =
      let known = known_is p r is in
      let corners = (and_parts (leads l (step_at l s (phrase n)) q d) (list_all (corner_steps l s) (corners_at l n)) (rest_leads s q d (phrase n) more am at)).1 in
      let listed : member p (l.rules_of (l.rule p).left) ≡ true = each_below l.rule_count (is_of_left l) p t.rules_of known.0 in
      let of_m : member p (l.rules_of m) ≡ true = subst (λ z. member p (l.rules_of z) ≡ true) (ap (λ (z : Rule). z.left) known.1 ∙ left) listed in
      each (rule_steps l s) (l.rules_of m) p (each (corner_steps l s) (corners_at l n) m corners corner) (is_member p (l.rules_of m) of_m)

  steps : (s p d : ℕ) (x : Symbol) (ss : List Symbol) → Holds g (tables l b) (account l b) s p d → rest g p d ≡ x ∷ ss → Steps g (tables l b) (account l b) s p d x
  steps s p d x ss (in_kernel am) e =
      step_to s p d x (and_parts (leads l (step_at l s x) p d) _ (rest_leads s p d x ss am e)).0
  steps s p _ x ss (opened q d n m _ more r am at corner is left) e =
      step_to s p zero x (subst (λ z. first_steps l s p z ≡ true) (sym (rest_is p zero) ∙ e) (opened_leads s q d n m p more r am at corner is left))

  -- ---- where a state comes from

  held : (s p d : ℕ) → nat_lt p l.rule_count ≡ true → is_held l s p d ≡ true → Holds g (tables l b) (account l b) s p d
  held s p zero lt e =
      elim (or_cases (has_item p zero (kernel_at l s)) (list_any (item_opens l (l.rule p).left) (kernel_at l s)) e) [
        | inl h ↦ in_kernel (is_item p zero (kernel_at l s) h)
        | inr h ↦
            let f = found (item_opens l (l.rule p).left) (kernel_at l s) h in
            let o = opens_is l (l.rule p).left (rest_at l f.item.0 f.item.1) f.passes in
            opened f.item.0 f.item.1 o.0 (l.rule p).left p o.1 (l.rule p) f.among (rest_is f.item.0 f.item.1 ∙ o.2) o.3 (is_known p lt) refl
      ]
  held s p (suc d) lt e = in_kernel (is_item p (suc d) (kernel_at l s) e)

  came_of : (s p d : ℕ) (x : Symbol) → came_by l s (code x) p d ≡ true → Came g (tables l b) (account l b) s p d x
  came_of s p zero x e = absurd cc
  came_of s p (suc d) x e =
      let parts = and_parts (begins_with (code x) (rest_at l p d)) (is_held l s p d) e in
      let at = begins_is x (rest_at l p d) parts.0 in
      let behind : rest g p (suc d) ≡ at.0 = rest_is p (suc d) ∙ drop_more d (right_side (rule_at l p)) at.1 in
      record {
        before = d;
        one_more = refl;
        was = rest_is p d ∙ at.1 ∙ ap (λ z. x ∷ z) (sym behind);
        holds = held s p d (rest_given (nat_lt p l.rule_count) (l.rule p) d x at.0 at.1).0 parts.1;
      }

  came : (s to p d : ℕ) (x : Symbol) → step_at l s x ≡ Some to → Among (kernel_at l to) (p, d) → Came g (tables l b) (account l b) s p d x
  came s to p d x e am = came_of s p d x (each (item_came l s (code x)) (kernel_at l to) (p, d) (each_step l (step_came l) t.came s to x e) am)

  some_item : (s to : ℕ) (x : Symbol) → step_at l s x ≡ Some to → Some_item g (tables l b) (account l b) to
  some_item s to x e = let h = some_of (kernel_at l to) (each_step l (step_to_some l) t.some_item s to x e) in record { number = h.0.0; read = h.0.1; kernel = h.1 }

  -- ---- rules in states

  known : (s p d : ℕ) → Among (kernel_at l s) (p, d) → (r : Rule) × (g.rule p ≡ Some r)
  known s p d am = (l.rule p, is_known p (each_kernel l (item_known l) t.known s p d am))

  ends : (s p d c : ℕ) (r : Rule) → Among (kernel_at l s) (p, d) → rest g p d ≡ [] → (p ≡ b.rule → ⊥) → g.rule p ≡ Some r → member c (follow_at l b r.left) ≡ true
      → action (tables l b) s c ≡ Reduce p
  ends s p d c r am e other is may =
      let whole : rest_ends l b s p [] ≡ true = subst (λ z. rest_ends l b s p z ≡ true) (sym (rest_is p d) ∙ e) (each_kernel l (item_ends l b) t.ends s p d am) in
      let may2 : member c (follow_at l b (l.rule p).left) ≡ true = subst (λ (z : Rule). member c (follow_at l b z.left) ≡ true) (sym (known_is p r is).1) may in
      elim (or_cases (p == b.rule) (list_all (reduces_before l b s p) (follow_at l b (l.rule p).left)) whole) [
        | inl same ↦ absurd (other (eqb-true p b.rule same))
        | inr all ↦ reduces_is p (action (tables l b) s c)
            (each (reduces_before l b s p) (follow_at l b (l.rule p).left) c all (is_member c (follow_at l b (l.rule p).left) may2))
      ]

  ends_all : (s d : ℕ) → Among (kernel_at l s) (b.rule, d) → rest g b.rule d ≡ [] → action (tables l b) s zero ≡ Accept
  ends_all s d am e =
      let whole : rest_last l b s b.rule [] ≡ true = subst (λ z. rest_last l b s b.rule z ≡ true) (sym (rest_is b.rule d) ∙ e) (each_kernel l (item_last l b) t.ends_all s b.rule d am) in
      elim (or_cases (not (b.rule == b.rule)) (s == b.last) whole) [
        | inl never ↦ absurd (not_both (b.rule == b.rule) (eq-eqb b.rule b.rule refl) never)
        | inr same ↦ ap (λ z. if z then Accept else reducing (reduction_at l s zero)) same
      ]

  ended : (s p : ℕ) (c : ℕ) → reduction_at l s c ≡ Some p → Ended g (tables l b) (account l b) s p
  ended s p c e =
      let h = guarded (nat_lt s l.state_count) (l.finals s) p (reduction_among l c p (finals_at l s) e) in
      let parts = and_parts (nat_lt p l.rule_count) (has_item p (length (l.rule p).right) (kernel_at l s)) (each (is_ended l s) (l.finals s) p (each_below l.state_count (all_ended l) s t.reduces h.0) h.1) in
      record { rule = l.rule p; is = is_known p parts.0; kernel = is_item p (length (l.rule p).right) (kernel_at l s) parts.1 }

  reduces : (s p c : ℕ) → action (tables l b) s c ≡ Reduce p → Ended g (tables l b) (account l b) s p
  reduces s p zero e = ended s p zero (reducing_is (reduction_at l s zero) p (unless_last (s == b.last) (reducing (reduction_at l s zero)) p e))
  reduces s p (suc c) e = ended s p (suc c) (reducing_is (reduction_at l s (suc c)) p (shifting_is (step_at l s (token c)) (reducing (reduction_at l s (suc c))) p e))

  accepts : (s c : ℕ) → action (tables l b) s c ≡ Accept → Among (kernel_at l s) (b.rule, suc zero) × (c ≡ zero)
  accepts s zero e =
      let same : s ≡ b.last = eqb-true s b.last (only_last (s == b.last) (reduction_at l s zero) e) in
      (subst (λ z. Among (kernel_at l z) (b.rule, suc zero)) (sym same) (is_item b.rule (suc zero) (kernel_at l b.last) t.accepts), refl)
  accepts s (suc c) e = absurd (shifting_accepts (step_at l s (token c)) (reduction_at l s (suc c)) e)

  no_start : (p : ℕ) (r : Rule) → g.rule p ≡ Some r → r.left ≡ b.sentence → p ≡ b.rule
  no_start p r is left =
      let known = known_is p r is in
      elim (or_cases (not ((l.rule p).left == b.sentence)) (p == b.rule) (each_below l.rule_count (is_no_start l b) p t.no_start known.0)) [
        | inl never ↦ absurd (not_both ((l.rule p).left == b.sentence) (eq-eqb (l.rule p).left b.sentence (ap (λ (z : Rule). z.left) known.1 ∙ left)) never)
        | inr same ↦ eqb-true p b.rule same
      ]

  -- ---- corners

  itself : (p d n : ℕ) (ss : List Symbol) → rest g p d ≡ phrase n ∷ ss → Among (corners_at l n) n
  itself p d n ss e =
      let at = at_rest p d (phrase n) ss e in
      is_member n (corners_at l n)
      (each (is_own_corner l) (l.rule p).right (phrase n) (each_below l.rule_count (all_own_corners l) p t.itself at.0) (among_dropped d (l.rule p).right at.1))

  deeper : (n m p k : ℕ) (r : Rule) (ss : List Symbol) → Among (corners_at l n) m → g.rule p ≡ Some r → r.left ≡ m → r.right ≡ phrase k ∷ ss → Among (corners_at l n) k
  deeper n m p k r ss am is left begins =
      let known = known_is p r is in
      let listed : member p (l.rules_of (l.rule p).left) ≡ true = each_below l.rule_count (is_of_left l) p t.rules_of known.0 in
      let of_m : member p (l.rules_of m) ≡ true = subst (λ z. member p (l.rules_of z) ≡ true) (ap (λ (z : Rule). z.left) known.1 ∙ left) listed in
      let here_too = each (deeper_corner l n) (corners_at l n) m (each_corners l (deeper_corners l) t.deeper n m am) am in
      let first : first_corner l n (l.rule p).right ≡ true = each (rule_corner l n) (l.rules_of m) p here_too (is_member p (l.rules_of m) of_m) in
      is_member k (corners_at l n) (subst (λ z. first_corner l n z ≡ true) (ap (λ (z : Rule). z.right) known.1 ∙ begins) first)

  no_sentence : (n : ℕ) → Among (corners_at l n) b.sentence → ⊥
  no_sentence n am =
      not_both (b.sentence == b.sentence) (eq-eqb b.sentence b.sentence refl)
      (each (is_no_sentence l b) (corners_at l n) b.sentence (each_corners l (corners_no_sentence l b) t.no_sentence n b.sentence am) am)

  -- ---- what phrases begin with, and what stands behind them

  nonempty : (p : ℕ) (r : Rule) → g.rule p ≡ Some r → r.right ≡ [] → ⊥
  nonempty p r is e =
      let known = known_is p r is in
      let some : is_some_symbol [] ≡ true = subst (λ z. is_some_symbol z ≡ true) (ap (λ (z : Rule). z.right) known.1 ∙ e) (each_below l.rule_count (rule_nonempty l) p t.nonempty known.0) in
      absurd cc

  first_of : (n c : ℕ) (x : Symbol) → first_within l n x ≡ true → first_at l x c ≡ true → member c (l.first n) ≡ true
  first_of n c (token k) e may = subst (λ z. member z (l.first n) ≡ true) (eqb-true k c may) e
  first_of n c (phrase m) e may = each (λ z. member z (l.first n)) (l.first m) c e (is_member c (l.first m) may)

  first_phrase : (p c : ℕ) (r : Rule) (x : Symbol) (ss : List Symbol) → g.rule p ≡ Some r → r.right ≡ x ∷ ss → first_at l x c ≡ true → first_at l (phrase r.left) c ≡ true
  first_phrase p c r x ss is e may =
      let known = known_is p r is in
      let all : firsts_within l r.left r.right ≡ true = subst (λ (z : Rule). firsts_within l z.left z.right ≡ true) known.1 (each_below l.rule_count (rule_first l) p t.first known.0) in
      first_of r.left c x (subst (λ z. firsts_within l r.left z ≡ true) e all) may

  behind_at : (p d n : ℕ) (ss : List Symbol) → rest g p d ≡ phrase n ∷ ss → is_behind l b (l.rule p).left (phrase n) ss ≡ true
  behind_at p d n ss e =
      let at = at_rest p d (phrase n) ss e in
      behind_dropped l b (l.rule p).left d (l.rule p).right (each_below l.rule_count (rule_behind l b) p t.follow at.0) at.1

  behind_of : (m n c : ℕ) (y : Symbol) (ss : List Symbol) → is_behind l b m (phrase n) (y ∷ ss) ≡ true → first_at l y c ≡ true → member (suc c) (follow_at l b n) ≡ true
  behind_of m n c (token k) ss e may = subst (λ z. member (suc z) (follow_at l b n) ≡ true) (eqb-true k c may) e
  behind_of m n c (phrase k) ss e may = each (λ z. member (suc z) (follow_at l b n)) (l.first k) c e (is_member c (l.first k) may)

  followed : (p d n c : ℕ) (y : Symbol) (ss : List Symbol) → rest g p d ≡ phrase n ∷ y ∷ ss → first_at l y c ≡ true → member (suc c) (follow_at l b n) ≡ true
  followed p d n c y ss e may = behind_of (l.rule p).left n c y ss (behind_at p d n (y ∷ ss) e) may

  follows : (p d n c : ℕ) (r : Rule) → g.rule p ≡ Some r → rest g p d ≡ phrase n ∷ [] → member c (follow_at l b r.left) ≡ true → member c (follow_at l b n) ≡ true
  follows p d n c r is e may =
      let may2 : member c (follow_at l b (l.rule p).left) ≡ true = subst (λ (z : Rule). member c (follow_at l b z.left) ≡ true) (sym (known_is p r is).1) may in
      each (λ z. member z (follow_at l b n)) (follow_at l b (l.rule p).left) c (behind_at p d n [] e) (is_member c (follow_at l b (l.rule p).left) may2)

  at_the_end : member zero (follow_at l b b.sentence) ≡ true
  at_the_end = ap (λ z. member zero (if z then zero ∷ [] else l.follow b.sentence)) (eq-eqb b.sentence b.sentence refl)

  -- ---- all

  pub fits : IsFit g (tables l b) (account l b) b.from b.rule b.sentence b.goal
  fits = record {
    begins = only_item b.rule zero (kernel_at l b.from) t.begins;
    starts = rules b.rule ∙ sentence_rule b.sentence b.goal (rule_at l b.rule) t.starts;
    at_the_end = at_the_end;
    steps = steps;
    came = came;
    known = known;
    ends = ends;
    ends_all = ends_all;
    reduces = reduces;
    accepts = accepts;
    no_start = no_start;
    itself = itself;
    deeper = deeper;
    reaches = reaches;
    no_sentence = no_sentence;
    inhabited = inhabited;
    nonempty = nonempty;
    first_token = λ c. eq-eqb c c refl;
    first_phrase = first_phrase;
    followed = followed;
    follows = follows;
    some_item = some_item;
  }
