-- What stands on the stack was read; what is read is the beginning of a sentence; an answer is a sentence's tree.
use Rattle.std.proofs.Common.{◌≡◌, ◌∙◌, refl, sym, ap, subst, ℕ, zero, suc, ◌≤◌, List, [], ◌∷◌, ◌++◌, length, drop, append_assoc, append-nil, Some, arith}
use Rattle.std.proofs.Math.Seq.{drop-length}
use Rattle.wgsl_grammar_tables.specs.Grammars.{Symbol, token, phrase, Rule, Grammar, Derives, a_token, a_phrase, Row, done, next, right_side, rest}
use Rattle.wgsl_grammar_tables.specs.declared.shift_reduce.machine.Entry.{Entry}
use Rattle.wgsl_grammar_tables.specs.Machine.{Tables, top, popped, ahead, Outcome, read, stops, no_memory, Comes, shifted, reduced, accepted, stopped, memory}
use Rattle.wgsl_grammar_tables.specs.Fit.{Among, here, there, Account, Holds, in_kernel, opened, Some_item, IsFit}
use Rattle.wgsl_grammar_tables.proofs.Stacks.{some_is, drop_more, shifts_step}

cons_head : {X : Type 0} {x y : X} {xs ys : List X} → x ∷ xs ≡ y ∷ ys → x ≡ y
cons_head e = cc

cons_tail : {X : Type 0} {x y : X} {xs ys : List X} → x ∷ xs ≡ y ∷ ys → xs ≡ ys
cons_tail e = cc

only_one : {X : Type 0} {x y : X} {l : List X} → l ≡ y ∷ [] → Among l x → x ≡ y
only_one e here = cons_head e
only_one e (there am) = none (cons_tail e) am
  where
    none : {X : Type 0} {x y : X} {l : List X} → l ≡ [] → Among l x → x ≡ y
    none e here = absurd cc
    none e (there am) = absurd cc

popped_shorter : {V : Type 0} (n : ℕ) (es : List (Entry V)) (xs : List V) → length (popped n es xs).0 ≤ length es
popped_shorter zero es xs = omega arith
popped_shorter (suc n) [] xs = omega arith
popped_shorter (suc n) (e ∷ es) xs = let h = popped_shorter n es (e.value ∷ xs) in omega (arith, h)

module _ {T V : Type 0} (g : Grammar T V) (a : Tables) (w : Account) (from start sentence goal : ℕ) (f : IsFit g a w from start sentence goal) where
  -- tokens from which the entries of a stack were made
  pub data Built : List (Entry V) → List T → Type 0 where
    bottom : Built [] []
    pushed : (t : ℕ) (s : Symbol) (x : V) {es : List (Entry V)} {u v : List T} → Built es u → a.step (top from es) s ≡ Some t → Derives g s v x
        → Built (record { state = t; value = x } ∷ es) (u ++ v)

  -- the beginning of a rule, back to where it began
  record Unwound (p n : ℕ) (es : List (Entry V)) (u v : List T) (xs : List V) : Type 0 where
    below : List (Entry V)
    front : List T
    behind : List T
    values : List V
    tokens : u ≡ front ++ behind
    built : Built below front
    holds : Holds g a w (top from below) p zero
    row : Row g (rest g p zero) (behind ++ v) values
    under : (popped n es xs).0 ≡ below
    made : (popped n es xs).1 ≡ values

  no_more_read : (p d : ℕ) → Holds g a w from p (suc d) → ⊥
  no_more_read p d (in_kernel am) = let e = ap (λ (q : ℕ × ℕ). q.1) (only_one f.begins am) in absurd cc

  came_by : (s t p e : ℕ) (x : Symbol) → a.step s x ≡ Some t → Holds g a w t p (suc e) → (rest g p e ≡ x ∷ rest g p (suc e)) × Holds g a w s p e
  came_by s t p e x step (in_kernel am) =
      let c = f.came s t p (suc e) x step am in
      let same : c.before ≡ e = let h = c.one_more in cc in
      (subst (λ b. rest g p b ≡ x ∷ rest g p (suc e)) same c.was, subst (λ b. Holds g a w s p b) same c.holds)

  unwind : (d : ℕ) {es : List (Entry V)} {u : List T} → Built es u → (p : ℕ) (v : List T) (xs : List V) → Holds g a w (top from es) p d → Row g (rest g p d) v xs → Unwound p d es u v xs
  unwind zero {es = es} {u = u} b p v xs holds row = record {
    below = es;
    front = u;
    behind = [];
    values = xs;
    tokens = sym (append-nil u);
    built = b;
    holds = holds;
    row = row;
    under = refl;
    made = refl;
  }
  unwind (suc e) bottom p v xs holds row = absurd (no_more_read p e holds)
  unwind (suc e) (pushed t s x {es = es} {u = u} {v = v0} b step h) p v xs holds row =
      let c = came_by (top from es) t p e s step holds in
      let i = unwind e b p (v0 ++ v) (x ∷ xs) c.1 (subst (λ ss. Row g ss (v0 ++ v) (x ∷ xs)) (sym c.0) (next h row)) in
      record {
        below = i.below;
        front = i.front;
        behind = i.behind ++ v0;
        values = i.values;
        tokens = ap (λ l. l ++ v0) i.tokens ∙ append_assoc i.front i.behind v0;
        built = i.built;
        holds = i.holds;
        row = subst (λ l. Row g (rest g p zero) l i.values) (sym (append_assoc i.behind v0 v)) i.row;
        under = i.under;
        made = i.made;
      }

  -- only at the bottom of the stack nothing of a rule is read
  at_bottom : {es : List (Entry V)} {u : List T} (p : ℕ) → Built es u → Among (w.kernel (top from es)) (p, zero) → (es ≡ []) × (u ≡ [])
  at_bottom p bottom am = (refl, refl)
  at_bottom p (pushed t s x {es = es} b step h) am = let c = (f.came (top from es) t p zero s step am).one_more in absurd cc

  start_rule : (r : Rule) → g.rule start ≡ Some r → r ≡ record { left = sentence; right = phrase goal ∷ [] }
  start_rule r is = some_is (sym is ∙ f.starts)

  start_right : rest g start zero ≡ phrase goal ∷ []
  start_right = ap right_side f.starts

  -- ---- some sentence begins so

  pub record Viable (u : List T) : Type 0 where
    pub more : List T
    pub value : V
    pub stands : Derives g (phrase goal) (u ++ more) value

  one_phrase : {n : ℕ} {u : List T} {xs : List V} → Row g (phrase n ∷ []) u xs → (x : V) × Derives g (phrase n) u x × (xs ≡ x ∷ [])
  one_phrase {n = n} (next {u = u} {x = x} h done) = (x, subst (λ l. Derives g (phrase n) l x) (sym (append-nil u)) h, refl)

  derived : (p : ℕ) (r : Rule) {u : List T} {xs : List V} → g.rule p ≡ Some r → Row g (rest g p zero) u xs → Derives g (phrase r.left) u (g.make p xs)
  derived p r {u} {xs} is row = a_phrase p r is (subst (λ ss. Row g ss u xs) (ap right_side is) row)

  -- in the first state, with nothing on the stack
  viable_first : (p d : ℕ) (v : List T) (xs : List V) → Among (w.kernel from) (p, d) → Row g (rest g p d) v xs → Viable v
  viable_first p d v xs am row =
      let e = only_one f.begins am in
      let number : p ≡ start = ap (λ (q : ℕ × ℕ). q.0) e in
      let read : d ≡ zero = ap (λ (q : ℕ × ℕ). q.1) e in
      let at : Row g (rest g start zero) v xs = subst (λ m. Row g (rest g m zero) v xs) number (subst (λ m. Row g (rest g p m) v xs) read row) in
      let o = one_phrase (subst (λ ss. Row g ss v xs) start_right at) in
      record { more = []; value = o.0; stands = subst (λ l. Derives g (phrase goal) l o.0) (sym (append-nil v)) o.1 }

  shortened : (u v : List T) → Viable (u ++ v) → Viable u
  shortened u v h = record { more = v ++ h.more; value = h.value; stands = subst (λ l. Derives g (phrase goal) l h.value) (append_assoc u v h.more) h.stands }

  abbrev Completes : ℕ → Type 0
  Completes n = (es : List (Entry V)) (u : List T) → length es ≤ n → Built es u → (p d : ℕ) (v : List T) (xs : List V) → Among (w.kernel (top from es)) (p, d) → Row g (rest g p d) v xs → Viable (u ++ v)

  further : (n : ℕ) → Completes n → (es : List (Entry V)) (u : List T) → length es ≤ n → Built es u → (p : ℕ) (v : List T) (xs : List V) → Holds g a w (top from es) p zero → Row g (rest g p zero) v xs → Viable (u ++ v)
  further n goes_on es u short b p v xs (in_kernel am) row =
      let bare = at_bottom p b am in
      subst (λ l. Viable (l ++ v)) (sym bare.1) (viable_first p zero v xs (subst (λ l. Among (w.kernel (top from l)) (p, zero)) bare.0 am) row)
  further n goes_on es u short b p v xs (opened q d m k _ ss r am e corner is left) row =
      let made : Derives g (phrase k) v (g.make p xs) = subst (λ j. Derives g (phrase j) v (g.make p xs)) left (derived p r is row) in
      let grown = f.reaches m k v (g.make p xs) corner made in
      let fill = f.inhabited q (suc d) in
      let behind : rest g q d ≡ phrase m ∷ rest g q (suc d) = e ∙ ap (λ l. phrase m ∷ l) (sym (drop_more d (right_side (g.rule q)) e)) in
      let longer : Row g (rest g q d) ((v ++ grown.more) ++ fill.tokens) (grown.value ∷ fill.values) =
      subst (λ l. Row g l ((v ++ grown.more) ++ fill.tokens) (grown.value ∷ fill.values)) (sym behind) (next grown.stands fill.stands) in
      let all = goes_on es u short b q d ((v ++ grown.more) ++ fill.tokens) (grown.value ∷ fill.values) am longer in
      shortened (u ++ v) (grown.more ++ fill.tokens)
      (subst (λ l. Viable l) (ap (λ l. u ++ l) (append_assoc v grown.more fill.tokens) ∙ sym (append_assoc u v (grown.more ++ fill.tokens))) all)

  completes : (n : ℕ) → Completes n
  completes n _ _ short bottom p d v xs am row = viable_first p d v xs am row
  completes n _ _ short (pushed t s x {es = es} b step h) p zero v xs am row = let c = (f.came (top from es) t p zero s step am).one_more in absurd cc
  completes zero _ _ short (pushed t s x b step h) p (suc d) v xs am row = absurd (omega (arith, short))
  completes (suc n) _ _ short (pushed t s x {es = es} {u = u} {v = v0} b step h) p (suc d) v xs am row =
      let i = unwind (suc d) (pushed t s x b step h) p v xs (in_kernel am) row in
      let lower = popped_shorter d es (x ∷ xs) in
      let shorter : length i.below ≤ n = subst (λ l. length l ≤ n) i.under (omega (arith, lower, short)) in
      let all = further n (completes n) i.below i.front shorter i.built p (i.behind ++ v) i.values i.holds i.row in
      subst (λ l. Viable l) (sym (append_assoc i.front i.behind v) ∙ ap (λ l. l ++ v) (sym i.tokens)) all

  -- what was read of a sentence begins one
  first_item : (es : List (Entry V)) (u : List T) → Built es u → Some_item g a w (top from es)
  first_item _ _ bottom = record { number = start; read = zero; kernel = subst (λ l. Among l (start, zero)) (sym f.begins) here }
  first_item _ _ (pushed t s x {es = es} b step h) = f.some_item (top from es) t s step

  built_is_viable : (es : List (Entry V)) (u : List T) → Built es u → Viable u
  built_is_viable es u b =
      let i = first_item es u b in
      let fill = f.inhabited i.number i.read in
      shortened u fill.tokens (completes (length es) es u (omega arith) b i.number i.read fill.tokens fill.values i.kernel fill.stands)

  -- ---- what an answer says

  pub record Stops (all : List T) (es : List (Entry V)) (left : List T) : Type 0 where
    pub front : List T
    pub whole : all ≡ front ++ left
    pub built : Built es front
    pub viable : Viable front

  abbrev pub Says : List T → Outcome V → List T → Type 0
  Says all (read x) left = Derives g (phrase goal) all x × (left ≡ [])
  Says all (stops es) left = Stops all es left
  Says all no_memory left = Unit

  nothing_ahead : (u : List T) → ahead g u ≡ zero → u ≡ []
  nothing_ahead [] e = refl
  nothing_ahead (k ∷ u) e = absurd cc

  sentence_is : {t : ℕ} {x : V} {es : List (Entry V)} {u : List T} → Built (record { state = t; value = x } ∷ es) u → Among (w.kernel t) (start, suc zero) → Derives g (phrase goal) u x
  sentence_is (pushed t s x {es = es} {u = u} {v = v} b step h) am =
      let c = came_by (top from es) t start zero s step (in_kernel am) in
      let bare = at_bottom start b (first_of (top from es) c.1) in
      let symbol : s ≡ phrase goal = cons_head (sym c.0 ∙ start_right) in
      subst (λ l. Derives g (phrase goal) (l ++ v) x) (sym bare.1) (subst (λ y. Derives g y v x) symbol h)
    where
      first_of : (s : ℕ) → Holds g a w s start zero → Among (w.kernel s) (start, zero)
      first_of s (in_kernel am) = am
      first_of s (opened q d n m _ ss r am e corner is left) =
          absurd (f.no_sentence n (subst (λ j. Among (w.corners n) j) (sym left ∙ ap (λ (z : Rule). z.left) (start_rule r is)) corner))

  pub said : {es : List (Entry V)} {u v left : List T} {r : Outcome V} → Built es u → Comes g a from es v r left → Says (u ++ v) r left
  said {es = es} {u = u} {left = left} {r = r} b (shifted k t {u = v} act c) =
      let step = shifts_step a (top from es) (g.class_of k) t act in
      subst (λ l. Says l r left) (append_assoc u (k ∷ []) v) (said (pushed t (token (g.class_of k)) (g.leaf k) b step (a_token k)) c)
  said {es = es} {u = u} {v = v} {left = left} {r = r} b (reduced p t q below xs act is pop step c) =
      let ended = f.reduces (top from es) p (ahead g v) act in
      let rule : ended.rule ≡ q = some_is (sym ended.is ∙ is) in
      let n = length ended.rule.right in
      let whole : rest g p n ≡ [] = ap (λ o. drop n (right_side o)) ended.is ∙ drop-length ended.rule.right in
      let i = unwind n b p [] [] (in_kernel ended.kernel) (subst (λ ss. Row g ss [] []) (sym whole) done) in
      let pops : popped n es [] ≡ (below, xs) = ap (λ (z : Rule). popped (length z.right) es []) rule ∙ pop in
      let under : i.below ≡ below = sym i.under ∙ ap (λ q. q.0) pops in
      let made : i.values ≡ xs = sym i.made ∙ ap (λ q. q.1) pops in
      let h : Derives g (phrase q.left) i.behind (g.make p xs) =
      subst (λ l. Derives g (phrase q.left) l (g.make p xs)) (append-nil i.behind) (subst (λ ys. Derives g (phrase q.left) (i.behind ++ []) (g.make p ys)) made (derived p q is i.row)) in
      subst (λ l. Says (l ++ v) r left) (sym i.tokens)
      (said (pushed t (phrase q.left) (g.make p xs) (subst (λ l. Built l i.front) under i.built) step h) c)
  said {u = u} b (accepted t x {u = v} act) =
      let e = f.accepts t (ahead g v) act in
      let nothing = nothing_ahead v e.1 in
      (subst (λ l. Derives g (phrase goal) (u ++ l) x) (sym nothing) (subst (λ l. Derives g (phrase goal) l x) (sym (append-nil u)) (sentence_is b e.0)), nothing)
  said {es = es} {u = u} b (stopped act) = record { front = u; whole = refl; built = b; viable = built_is_viable es u b }
  said b memory = tt
