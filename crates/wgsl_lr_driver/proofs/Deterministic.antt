-- Of a stack and tokens comes one thing alone, unless memory is refused.
use Rattle.std.proofs.Common.{◌≡◌, ◌∙◌, refl, sym, ap, ℕ, List, [], ◌∷◌, length, Option, Some}
use Rattle.wgsl_grammar_tables.specs.declared.shift_reduce.machine.Action.{Action}
use Rattle.wgsl_grammar_tables.specs.declared.shift_reduce.machine.Action.TheVariants.{Shift, Reduce, Accept, Stop}
use Rattle.wgsl_grammar_tables.specs.declared.shift_reduce.machine.Entry.{Entry}
use Rattle.wgsl_grammar_tables.specs.Grammars.{Rule, Grammar, phrase}
use Rattle.wgsl_grammar_tables.specs.Machine.{Tables, action, top, popped, ahead, Outcome, read, stops, no_memory, Comes, shifted, reduced, accepted, stopped, memory}

head_same : {X : Type 0} {x y : X} {xs ys : List X} → x ∷ xs ≡ y ∷ ys → x ≡ y
head_same e = cc

tail_same : {X : Type 0} {x y : X} {xs ys : List X} → x ∷ xs ≡ y ∷ ys → xs ≡ ys
tail_same e = cc

some_same : {X : Type 0} {o p : Option X} {x y : X} → o ≡ Some x → p ≡ Some y → o ≡ p → x ≡ y
some_same {x = x} {y = y} e f same = let both : Some x ≡ Some y = sym e ∙ same ∙ f in cc

value_same : {V : Type 0} {e f : Entry V} {es fs : List (Entry V)} → e ∷ es ≡ f ∷ fs → e.value ≡ f.value
value_same h = ap (λ e. e.value) (head_same h)

shift_same : {t s : ℕ} → Shift t ≡ Shift s → t ≡ s
shift_same e = cc

reduce_same : {t s : ℕ} → Reduce t ≡ Reduce s → t ≡ s
reduce_same e = cc

module _ {T V : Type 0} (g : Grammar T V) (a : Tables) (from : ℕ) where
  -- the first action
  abbrev does : {es : List (Entry V)} {u left : List T} {r : Outcome V} → Comes g a from es u r left → Action
  does (shifted k t act c) = Shift t
  does (reduced p t q below xs act is pop step c) = Reduce p
  does (accepted t x act) = Accept
  does (stopped act) = Stop
  does memory = Stop

  does_is : {es : List (Entry V)} {u left : List T} {r : Outcome V} (c : Comes g a from es u r left) → (r ≡ no_memory → ⊥) → action a (top from es) (ahead g u) ≡ does c
  does_is (shifted k t act c) h = act
  does_is (reduced p t q below xs act is pop step c) h = act
  does_is (accepted t x act) h = act
  does_is (stopped act) h = act
  does_is memory h = absurd (h refl)

  action_same : {es fs : List (Entry V)} {u v : List T} → es ≡ fs → u ≡ v → action a (top from es) (ahead g u) ≡ action a (top from fs) (ahead g v)
  action_same {es = es} {v = v} stack tokens = ap (λ l. action a (top from es) (ahead g l)) tokens ∙ ap (λ s. action a (top from s) (ahead g v)) stack

  does_same : {es fs : List (Entry V)} {u v left later : List T} {r q : Outcome V} (c : Comes g a from es u r left) (d : Comes g a from fs v q later) → es ≡ fs → u ≡ v
      → (r ≡ no_memory → ⊥) → (q ≡ no_memory → ⊥) → does c ≡ does d
  does_same c d stack tokens first other = sym (does_is c first) ∙ action_same stack tokens ∙ does_is d other

  -- the stack behind a reduction
  reduced_same : {es fs below under : List (Entry V)} {xs ys : List V} {p m t s : ℕ} {rule other : Rule} → es ≡ fs → p ≡ m → g.rule p ≡ Some rule → g.rule m ≡ Some other
      → popped (length rule.right) es [] ≡ (below, xs) → popped (length other.right) fs [] ≡ (under, ys)
      → a.step (top from below) (phrase rule.left) ≡ Some t → a.step (top from under) (phrase other.left) ≡ Some s
      → record { state = t; value = g.make p xs } ∷ below ≡ record { state = s; value = g.make m ys } ∷ under
  reduced_same {es = es} {fs = fs} {below = below} {under = under} {xs = xs} {ys = ys} {p = p} {m = m} {t = t} {s = s} {rule = rule} {other = other} stack number is are pop popping step stepping =
      let rules : rule ≡ other = some_same is are (ap g.rule number) in
      let parts : (below, xs) ≡ (under, ys) =
      sym pop ∙ ap (λ r. popped (length r.right) es []) rules ∙ ap (λ l. popped (length other.right) l []) stack ∙ popping in
      let left : below ≡ under = ap (λ x. x.0) parts in
      let values : xs ≡ ys = ap (λ x. x.1) parts in
      let state : t ≡ s = some_same step stepping (ap (λ l. a.step (top from l) (phrase rule.left)) left ∙ ap (λ r. a.step (top from under) (phrase r.left)) rules) in
      ap (λ n. record { state = n; value = g.make p xs } ∷ below) state ∙ ap (λ n. record { state = s; value = g.make n xs } ∷ below) number
      ∙ ap (λ l. record { state = s; value = g.make m l } ∷ below) values ∙ ap (λ l. record { state = s; value = g.make m ys } ∷ l) left

  pub comes_once : {es fs : List (Entry V)} {u v left later : List T} {r q : Outcome V} → Comes g a from es u r left → Comes g a from fs v q later → es ≡ fs → u ≡ v
      → (r ≡ no_memory → ⊥) → (q ≡ no_memory → ⊥) → (q ≡ r) × (later ≡ left)
  comes_once memory d stack tokens first other = absurd (first refl)
  comes_once c memory stack tokens first other = absurd (other refl)
  comes_once (shifted k t {es = es} act c) (shifted l s {es = fs} did d) stack tokens first other =
      let token : k ≡ l = head_same tokens in
      let state : t ≡ s = shift_same (does_same (shifted k t act c) (shifted l s did d) stack tokens first other) in
      let put : record { state = t; value = g.leaf k } ∷ es ≡ record { state = s; value = g.leaf l } ∷ fs =
      ap (λ n. record { state = n; value = g.leaf k } ∷ es) state ∙ ap (λ j. record { state = s; value = g.leaf j } ∷ es) token
      ∙ ap (λ z. record { state = s; value = g.leaf l } ∷ z) stack in
      comes_once c d put (tail_same tokens) first other
  comes_once (reduced p t rule below xs act is pop step c) (reduced m s rules under ys did are popping stepping d) stack tokens first other =
      let number : p ≡ m = reduce_same (does_same (reduced p t rule below xs act is pop step c) (reduced m s rules under ys did are popping stepping d) stack tokens first other) in
      comes_once c d (reduced_same stack number is are pop popping step stepping) tokens first other
  comes_once (accepted t x act) (accepted s y did) stack tokens first other = (ap read (sym (value_same stack)), sym tokens)
  comes_once (stopped act) (stopped did) stack tokens first other = (ap stops (sym stack), sym tokens)
  comes_once c d stack tokens first other = let wrong = does_same c d stack tokens first other in absurd cc
