-- A sentence is read whole, and its tree is the answer.
use Rattle.std.proofs.Common.{◌≡◌, ◌∙◌, refl, sym, ap, subst, ℕ, zero, suc, true, List, [], ◌∷◌, ◌++◌, length, append_assoc, append-nil, ◌⊎◌, inl, inr, ⊎_elim, Some}
use Rattle.wgsl_grammar_tables.specs.Grammars.{Symbol, token, phrase, Rule, Grammar, Derives, a_token, a_phrase, Row, done, next, right_side, rest}
use Rattle.wgsl_grammar_tables.specs.declared.shift_reduce.machine.Action.TheVariants.{Shift, Reduce, Accept, Stop}
use Rattle.wgsl_grammar_tables.specs.declared.shift_reduce.machine.Entry.{Entry}
use Rattle.wgsl_grammar_tables.specs.Machine.{Tables, action, top, popped, ahead, Outcome, read, stops, no_memory, Comes, shifted, reduced, accepted, stopped, memory}
use Rattle.wgsl_grammar_tables.specs.Fit.{Among, here, Account, Holds, in_kernel, opened, IsFit}
use Rattle.wgsl_grammar_tables.proofs.Stacks.{some_is, pair_is, drop_more, popped_more, step_shifts, shift_is, reduce_is}

module _ {T V : Type 0} (g : Grammar T V) (a : Tables) (w : Account) (from start sentence goal : ℕ) (f : IsFit g a w from start sentence goal) where
  -- ---- what tokens begin with

  record Begins (s : Symbol) (u : List T) : Type 0 where
    first : T
    behind : List T
    whole : u ≡ first ∷ behind
    may : w.first s (g.class_of first) ≡ true

  mutual
    begins : {s : Symbol} {u : List T} {x : V} → Derives g s u x → Begins s u
    begins (a_token k) = record { first = k; behind = []; whole = refl; may = f.first_token (g.class_of k) }
    begins (a_phrase p r is row) = row_begins row p r is refl

    row_begins : {ss : List Symbol} {u : List T} {xs : List V} → Row g ss u xs → (p : ℕ) (r : Rule) → g.rule p ≡ Some r → r.right ≡ ss → Begins (phrase r.left) u
    row_begins done p r is e = absurd (f.nonempty p r is e)
    row_begins (next {s = s} {ss = ss} {v = v} d more) p r is e =
        let b = begins d in
        record { first = b.first; behind = b.behind ++ v; whole = ap (λ l. l ++ v) b.whole; may = f.first_phrase p (g.class_of b.first) r s ss is e b.may }

  right_is : (p : ℕ) (r : Rule) → g.rule p ≡ Some r → rest g p zero ≡ r.right
  right_is p r is = ap right_side is

  -- ---- what a state is ready for

  record Opens (s n c : ℕ) : Type 0 where
    holds : (p : ℕ) (r : Rule) → g.rule p ≡ Some r → r.left ≡ n → Holds g a w s p zero
    follow : w.follow n c ≡ true
    other : n ≡ sentence → ⊥

  abbrev Ready : ℕ → Symbol → ℕ → Type 0
  Ready s (token k) c = Unit
  Ready s (phrase n) c = Opens s n c

  opens : (s p d n : ℕ) (ss : List Symbol) → Holds g a w s p d → rest g p d ≡ phrase n ∷ ss → (q : ℕ) (r : Rule) → g.rule q ≡ Some r → r.left ≡ n → Holds g a w s q zero
  opens s p d n ss (in_kernel am) e q r is left = opened p d n n q ss r am e (f.itself p d n ss e) is left
  opens s p d n ss (opened q0 d0 n0 m0 _ ss0 r0 am0 e0 corner is0 left0) e q r is left =
      opened q0 d0 n0 n q ss0 r am0 e0 (f.deeper n0 m0 p n r0 ss corner is0 left0 (sym (right_is p r0 is0) ∙ e)) is left

  ahead_of : {u : List T} {xs : List V} {ss : List Symbol} (v : List T) (p d n : ℕ) (r : Rule) → Row g ss u xs → g.rule p ≡ Some r → rest g p d ≡ phrase n ∷ ss → w.follow r.left (ahead g v) ≡ true
      → w.follow n (ahead g (u ++ v)) ≡ true
  ahead_of v p d n r done is e may = f.follows p d n (ahead g v) r is e may
  ahead_of v p d n r (next {s = y} {ss = ss} {v = u2} h more) is e may =
      let b = begins h in
      subst (λ l. w.follow n (ahead g ((l ++ u2) ++ v)) ≡ true) (sym b.whole) (f.followed p d n (g.class_of b.first) y ss e b.may)

  no_sentence : (p d n : ℕ) (ss : List Symbol) → rest g p d ≡ phrase n ∷ ss → n ≡ sentence → ⊥
  no_sentence p d n ss e is = f.no_sentence n (subst (λ m. Among (w.corners n) m) is (f.itself p d n ss e))

  ready : {u : List T} {xs : List V} {ss : List Symbol} (x : Symbol) (v : List T) (s p d : ℕ) (r : Rule) → Row g ss u xs → Holds g a w s p d → g.rule p ≡ Some r → rest g p d ≡ x ∷ ss
      → w.follow r.left (ahead g v) ≡ true → Ready s x (ahead g (u ++ v))
  ready (token k) v s p d r row holds is e may = tt
  ready {ss = ss} (phrase n) v s p d r row holds is e may = record { holds = opens s p d n ss holds e; follow = ahead_of v p d n r row is e may; other = no_sentence p d n ss e }

  -- ---- the run over a phrase

  -- what comes of these comes of those, and the other way round
  record Same (es : List (Entry V)) (u : List T) (above : List (Entry V)) (v : List T) : Type 0 where
    there : (r : Outcome V) (left : List T) → Comes g a from es u r left → Comes g a from above v r left
    back : (r : Outcome V) (left : List T) → Comes g a from above v r left → Comes g a from es u r left

  record Pushed (es : List (Entry V)) (u : List T) (p : ℕ) (n : ℕ) (xs : List V) (v : List T) : Type 0 where
    entries : List (Entry V)
    same : Same es (u ++ v) entries v
    read : ℕ
    kernel : Among (w.kernel (top from entries)) (p, read)
    whole : rest g p read ≡ []
    below : (popped n entries []).0 ≡ es
    values : (popped n entries []).1 ≡ xs

  token_read : (k : T) (t : ℕ) (es : List (Entry V)) (v : List T) {r : Outcome V} {left : List T} → a.step (top from es) (token (g.class_of k)) ≡ Some t
      → Comes g a from es (k ∷ v) r left → Comes g a from (record { state = t; value = g.leaf k } ∷ es) v r left
  token_read k t es v {r} {left} step (shifted _ t' act c) =
      let same : t' ≡ t = shift_is (sym act ∙ step_shifts a (top from es) (g.class_of k) t step) in
      subst (λ n. Comes g a from (record { state = n; value = g.leaf k } ∷ es) v r left) same c
  token_read k t es v step (reduced p t' q below xs act is pop step' c) = let e : Shift t ≡ Reduce p = sym (step_shifts a (top from es) (g.class_of k) t step) ∙ act in absurd cc
  token_read k t _ v step (accepted t' x {es = es} act) = let e : Shift t ≡ Accept = sym (step_shifts a t' (g.class_of k) t step) ∙ act in absurd cc
  token_read k t es v step (stopped act) = let e : Shift t ≡ Stop = sym (step_shifts a (top from es) (g.class_of k) t step) ∙ act in absurd cc
  token_read k t es v step memory = memory

  reduced_to : {es above : List (Entry V)} {v : List T} {r : Outcome V} {left : List T} (p t n : ℕ) (q : Rule) (xs : List V)
      → action a (top from above) (ahead g v) ≡ Reduce p → g.rule p ≡ Some q → n ≡ length q.right → (popped n above []).0 ≡ es → (popped n above []).1 ≡ xs
      → a.step (top from es) (phrase q.left) ≡ Some t → Comes g a from above v r left → Comes g a from (record { state = t; value = g.make p xs } ∷ es) v r left
  reduced_to p t n q xs act is long below values step (shifted k t' act' c) = let e : Reduce p ≡ Shift t' = sym act ∙ act' in absurd cc
  reduced_to {es = es} {above = above} {v = v} {r = r} {left = left} p t n q xs act is long below values step (reduced p' t' q' below' xs' act' is' pop step' c) =
      let same : p' ≡ p = reduce_is (sym act' ∙ act) in
      let rule : q' ≡ q = some_is (sym is' ∙ ap g.rule same ∙ is) in
      let pops : popped n above [] ≡ (below', xs') = ap (λ m. popped m above []) (long ∙ ap (λ (z : Rule). length z.right) (sym rule)) ∙ pop in
      let under : below' ≡ es = sym (ap (λ q. q.0) pops) ∙ below in
      let made : xs' ≡ xs = sym (ap (λ q. q.1) pops) ∙ values in
      let to : t' ≡ t = some_is (sym step' ∙ ap (λ l. a.step (top from l) (phrase q'.left)) under ∙ ap (λ (z : Rule). a.step (top from es) (phrase z.left)) rule ∙ step) in
      subst (λ m. Comes g a from (record { state = t; value = g.make m xs } ∷ es) v r left) same
      (subst (λ ys. Comes g a from (record { state = t; value = g.make p' ys } ∷ es) v r left) made
      (subst (λ l. Comes g a from (record { state = t; value = g.make p' xs' } ∷ l) v r left) under
      (subst (λ m. Comes g a from (record { state = m; value = g.make p' xs' } ∷ below') v r left) to c)))
  reduced_to p t n q xs act is long below values step (accepted t' x act') = let e : Reduce p ≡ Accept = sym act ∙ act' in absurd cc
  reduced_to p t n q xs act is long below values step (stopped act') = let e : Reduce p ≡ Stop = sym act ∙ act' in absurd cc
  reduced_to p t n q xs act is long below values step memory = memory

  both : (n : ℕ) (above : List (Entry V)) {es : List (Entry V)} {xs : List V} → (popped n above []).0 ≡ es → (popped n above []).1 ≡ xs → popped n above [] ≡ (es, xs)
  both n above e h = pair_is e h

  not_start : (p : ℕ) (r : Rule) → g.rule p ≡ Some r → (r.left ≡ sentence → ⊥) → p ≡ start → ⊥
  not_start p r is other e =
      let same : r ≡ record { left = sentence; right = phrase goal ∷ [] } = some_is (sym is ∙ ap g.rule e ∙ f.starts) in
      other (ap (λ (z : Rule). z.left) same)

  in_kernel_of : (s p d : ℕ) → Holds g a w s p d → rest g p d ≡ [] → Among (w.kernel s) (p, d)
  in_kernel_of s p d (in_kernel am) e = am
  in_kernel_of s p d (opened q d0 n m _ ss r am e0 corner is left) e = absurd (f.nonempty p r is (sym (right_is p r is) ∙ e))

  mutual
    goes : {s : Symbol} {u : List T} {x : V} → Derives g s u x → (es : List (Entry V)) (t : ℕ) (v : List T)
        → a.step (top from es) s ≡ Some t → Ready (top from es) s (ahead g v) → Same es (u ++ v) (record { state = t; value = x } ∷ es) v
    goes (a_token k) es t v step is_ready = record {
      there = λ r left c. token_read k t es v step c;
      back = λ r left c. shifted k t (step_shifts a (top from es) (g.class_of k) t step) c;
    }
    goes (a_phrase p q {xs = xs} is row) es t v step is_ready =
        let m = row_goes row es p zero q v is (is_ready.holds p q is refl) (right_is p q is) (not_start p q is is_ready.other) is_ready.follow in
        let act = f.ends (top from m.entries) p m.read (ahead g v) q m.kernel m.whole (not_start p q is is_ready.other) is is_ready.follow in
        record {
          there = λ r left c. reduced_to p t (length q.right) q xs act is refl m.below m.values step (m.same.there r left c);
          back = λ r left c. m.same.back r left (reduced p t q es xs act is (both (length q.right) m.entries m.below m.values) step c);
        }

    row_goes : {ss : List Symbol} {u : List T} {xs : List V} → Row g ss u xs → (es : List (Entry V)) (p d : ℕ) (q : Rule) (v : List T)
        → g.rule p ≡ Some q → Holds g a w (top from es) p d → rest g p d ≡ ss → (p ≡ start → ⊥) → w.follow q.left (ahead g v) ≡ true → Pushed es u p (length ss) xs v
    row_goes done es p d q v is holds e other may = record {
      entries = es;
      same = record { there = λ r left c. c; back = λ r left c. c };
      read = d;
      kernel = in_kernel_of (top from es) p d holds e;
      whole = e;
      below = refl;
      values = refl;
    }
    row_goes (next {s = s} {ss = ss} {u = u1} {v = u2} {x = x} h more) es p d q v is holds e other may =
        let st = f.steps (top from es) p d s ss holds e in
        let one = goes h es st.to (u2 ++ v) st.step (ready s v (top from es) p d q more holds is e may) in
        let m = row_goes more (record { state = st.to; value = x } ∷ es) p (suc d) q v is (in_kernel st.kernel) (drop_more d (right_side (g.rule p)) e) other may in
        let pops = popped_more (length ss) m.entries [] _ (record { state = st.to; value = x }) es m.below m.values in
        record {
          entries = m.entries;
          same = record {
            there = λ r left c. m.same.there r left (one.there r left (subst (λ l. Comes g a from es l r left) (append_assoc u1 u2 v) c));
            back = λ r left c. subst (λ l. Comes g a from es l r left) (sym (append_assoc u1 u2 v)) (one.back r left (m.same.back r left c));
          };
          read = m.read;
          kernel = m.kernel;
          whole = m.whole;
          below = ap (λ q. q.0) pops;
          values = ap (λ q. q.1) pops;
        }

  -- ---- the run over a sentence

  at_goal : rest g start zero ≡ phrase goal ∷ []
  at_goal = ap right_side f.starts

  kernel_from : Among (w.kernel from) (start, zero)
  kernel_from = subst (λ l. Among l (start, zero)) (sym f.begins) here

  accepted_as : {t : ℕ} {x : V} {r : Outcome V} {left : List T} → action a t zero ≡ Accept → Comes g a from (record { state = t; value = x } ∷ []) [] r left → (r ≡ read x) ⊎ (r ≡ no_memory)
  accepted_as act (reduced p t' q below xs act' is pop step c) = let e : Accept ≡ Reduce p = sym act ∙ act' in absurd cc
  accepted_as act (accepted t' x' act') = inl refl
  accepted_as act (stopped act') = let e : Accept ≡ Stop = sym act ∙ act' in absurd cc
  accepted_as act memory = inr refl

  record Whole (u : List T) (x : V) : Type 0 where
    to : ℕ
    same : Same [] (u ++ []) (record { state = to; value = x } ∷ []) []
    act : action a to zero ≡ Accept

  whole : {u : List T} {x : V} → Derives g (phrase goal) u x → Whole u x
  whole h =
      let st = f.steps from start zero (phrase goal) [] (in_kernel kernel_from) at_goal in
      let is_ready : Opens from goal zero = record {
        holds = opens from start zero goal [] (in_kernel kernel_from) at_goal;
        follow = f.follows start zero goal zero (record { left = sentence; right = phrase goal ∷ [] }) f.starts at_goal f.at_the_end;
        other = no_sentence start zero goal [] at_goal;
      } in
      record {
        to = st.to;
        same = goes h [] st.to [] st.step is_ready;
        act = f.ends_all st.to (suc zero) st.kernel (drop_more zero (right_side (g.rule start)) at_goal);
      }

  -- Where a sentence is read, its tree is the answer.
  pub sentence_read : {u : List T} {x : V} {r : Outcome V} {left : List T} → Derives g (phrase goal) u x → Comes g a from [] u r left → (r ≡ read x) ⊎ (r ≡ no_memory)
  sentence_read {u = u} {r = r} {left = left} h c =
      let i = whole h in
      accepted_as i.act (i.same.there r left (subst (λ l. Comes g a from [] l r left) (sym (append-nil u)) c))

  -- A sentence may be read.
  pub sentence_comes : {u : List T} {x : V} → Derives g (phrase goal) u x → Comes g a from [] u (read x) []
  sentence_comes {u = u} {x = x} h =
      let i = whole h in
      subst (λ l. Comes g a from [] l (read x) []) (append-nil u) (i.same.back (read x) [] (accepted i.to x i.act))

  ok_is : (x y : V) → ◌≡◌ {A = Outcome V} (read y) (read x) → y ≡ x
  ok_is x y e = cc

  not_memory : (y : V) → ◌≡◌ {A = Outcome V} (read y) no_memory → ⊥
  not_memory y e = absurd cc

  pub not_stopped : (es : List (Entry V)) (x : V) → ◌≡◌ {A = Outcome V} (stops es) (read x) ⊎ ◌≡◌ {A = Outcome V} (stops es) no_memory → ⊥
  not_stopped es x (inl e) = absurd cc
  not_stopped es x (inr e) = absurd cc

  pub one_tree : {u : List T} {x y : V} → Derives g (phrase goal) u x → Derives g (phrase goal) u y → y ≡ x
  one_tree {x = x} {y = y} h k = ⊎_elim (λ e. ok_is x y e) (λ e. absurd (not_memory y e)) (sentence_read h (sentence_comes k))
