-- Steps of the code, as steps of a run.
use Rattle.std.proofs.Common.{◌≡◌, ◌∙◌, refl, sym, ap, subst, ℕ, suc, List, [], ◌∷◌, length, Option, Some, None, MatchOption}
use Rattle.wgsl_grammar_tables.specs.declared.shift_reduce.machine.Action.{Action}
use Rattle.wgsl_grammar_tables.specs.declared.shift_reduce.machine.Action.TheVariants.{Shift, Reduce, Accept, Stop}
use Rattle.wgsl_grammar_tables.specs.declared.shift_reduce.machine.Entry.{Entry}
use Rattle.wgsl_grammar_tables.specs.Grammars.{phrase, Grammar}
use Rattle.wgsl_grammar_tables.specs.Machine.{Tables, action, top, below_top, ahead, ahead_of, popped, Outcome, read, stops, Comes, shifted, reduced, accepted, stopped}
use Rattle.wgsl_base.specs.Tops.{first, with_first}
use Rattle.wgsl_grammar_tables.proofs.Stacks.{some_is}
use Rattle.wgsl_grammar_tables.specs.Runs.{IsShift, PassesBy, PassesKept, PassesKeptBy, by_rule, Passes, stays, goes_on, IsSettled, IsReduction, Leads}

ahead_first : {T V : Type 0} (g : Grammar T V) (u : List T) → ahead_of g (first u) ≡ ahead g u
ahead_first g [] = refl
ahead_first g (k ∷ u) = refl

-- what stands ahead of tokens is told of the first
pub ahead_is : {T V : Type 0} (g : Grammar T V) (o : Option T) (u : List T) (c : ℕ) → c ≡ ahead_of g o → o ≡ first u → c ≡ ahead g u
ahead_is g o u c is next = is ∙ ap (λ j. ahead_of g j) next ∙ ahead_first g u

pub by_action : {T V : Type 0} (g : Grammar T V) (kept : V → Type 0) (act : Action) (p : ℕ) (o : Option ℕ) → act ≡ Reduce p → MatchOption o Unit (PassesKept g kept p) → MatchOption o Unit (PassesKeptBy g kept act)
by_action g kept act p None is h = tt
by_action g kept act p (Some left) is h = λ x k. subst (λ n. PassesBy g n x left) (sym is) (by_rule p (h x k))

one_popped : {V : Type 0} (n : ℕ) (e : Entry V) (es : List (Entry V)) → n ≡ 1 → popped n (e ∷ es) [] ≡ (es, e.value ∷ [])
one_popped n e es is = ap (λ k. popped k (e ∷ es) []) is

module _ {T V : Type 0} (g : Grammar T V) (a : Tables) (from : ℕ) where
  -- a symbol that is passed on by an action
  passed_by : (act : Action) (s t left : ℕ) (x : V) (es : List (Entry V)) (u later : List T) (r : Outcome V) → action a s (ahead g u) ≡ act → PassesBy g act x left
      → a.step (top from es) (phrase left) ≡ Some t → Comes g a from (record { state = t; value = x } ∷ es) u r later → Comes g a from (record { state = s; value = x } ∷ es) u r later
  passed_by act s t left x es u later r is (by_rule p h) step c =
      reduced p t h.rule es (x ∷ []) is h.is (one_popped (length h.rule.right) (record { state = s; value = x }) es h.alone)
      (ap (λ n. a.step (top from es) (phrase n)) h.to ∙ step) (subst (λ y. Comes g a from (record { state = t; value = y } ∷ es) u r later) (sym h.stays) c)

  pub passes_comes : (x : V) (es : List (Entry V)) (u later : List T) (r : Outcome V) (s t : ℕ) → Passes g a (top from es) (ahead g u) x s t
      → Comes g a from (record { state = t; value = x } ∷ es) u r later → Comes g a from (record { state = s; value = x } ∷ es) u r later
  passes_comes x es u later r s t stays c = c
  passes_comes x es u later r s t (goes_on left n by step more) c =
      passed_by (action a s (ahead g u)) s n left x es u later r refl by step (passes_comes x es u later r n t more c)

  pub settles : (c s : ℕ) (e : Entry V) (es : List (Entry V)) (act : Action) → Some e ≡ first es → Passes g a (below_top from es) c e.value e.state s → act ≡ action a s c
      → IsSettled g a from c es (with_first es (record { state = s; value = e.value })) act
  settles c s e [] act is passes acts = absurd cc
  settles c s e (x ∷ es) act is passes acts =
      let same : e ≡ x = some_is is in
      let go : Passes g a (top from es) c x.value x.state s = subst (λ (y : Entry V). Passes g a (top from es) c y.value y.state s) same passes in
      record {
        acts = acts;
        comes = λ u later r is k.
            passes_comes x.value es u later r x.state s (subst (λ n. Passes g a (top from es) n x.value x.state s) (sym is) go)
            (subst (λ (y : Entry V). Comes g a from (record { state = s; value = y.value } ∷ es) u r later) same k);
      }

  pub settles_none : (c : ℕ) (es : List (Entry V)) (act : Action) → None ≡ first es → act ≡ action a from c → IsSettled g a from c es es act
  settles_none c [] act is acts = record { acts = acts; comes = λ u later r is k. k }
  settles_none c (x ∷ es) act is acts = absurd cc

  pub shift_advances : (to : ℕ) (es fs : List (Entry V)) (u v : List T) → action a (top from es) (ahead g u) ≡ Shift to → IsShift g to es fs u v
      → (r : Outcome V) (left : List T) → Comes g a from fs v r left → Comes g a from es u r left
  shift_advances to es fs u v act i r left c =
      subst (λ l. Comes g a from es l r left) (sym i.taken)
      (shifted i.token to (ap (λ l. action a (top from es) (ahead g l)) (sym i.taken) ∙ act) (subst (λ l. Comes g a from l v r left) i.put c))

  pub reduce_advances : (p : ℕ) (es fs : List (Entry V)) (u : List T) → action a (top from es) (ahead g u) ≡ Reduce p → IsReduction g a from p es fs
      → (r : Outcome V) (left : List T) → Comes g a from fs u r left → Comes g a from es u r left
  reduce_advances p es fs u act i r left c = reduced p i.to i.rule i.below i.values act i.is i.parts i.step (subst (λ l. Comes g a from l u r left) i.put c)

  pub accept_reads : (es below : List (Entry V)) (e : Entry V) (u : List T) → es ≡ e ∷ below → action a (top from es) (ahead g u) ≡ Accept → Comes g a from es u (read e.value) u
  accept_reads es below e u is act =
      subst (λ l. Comes g a from l u (read e.value) u) (sym is)
      (accepted e.state e.value (ap (λ l. action a (top from l) (ahead g u)) (sym is) ∙ act))

  acted : (c : ℕ) (es ms : List (Entry V)) (u : List T) {act so : Action} → IsSettled g a from c es ms act → ahead g u ≡ c → act ≡ so → action a (top from ms) (ahead g u) ≡ so
  acted c es ms u i is so = ap (action a (top from ms)) is ∙ sym i.acts ∙ so

  pub shift_settled : (c to : ℕ) (es ms fs : List (Entry V)) (u v : List T) (act : Action) → IsSettled g a from c es ms act → c ≡ ahead g u → act ≡ Shift to → IsShift g to ms fs u v
      → Leads g a from es fs u v × (length u ≡ suc (length v))
  shift_settled c to es ms fs u v act i is so h =
      ((λ r left k. i.comes u left r (sym is) (shift_advances to ms fs u v (acted c es ms u i (sym is) so) h r left k)), ap length h.taken)

  pub reduce_settled : (c p : ℕ) (es ms fs : List (Entry V)) (u : List T) (act : Action) → IsSettled g a from c es ms act → c ≡ ahead g u → act ≡ Reduce p → IsReduction g a from p ms fs
      → Leads g a from es fs u u × (u ≡ u)
  reduce_settled c p es ms fs u act i is so h = ((λ r left k. i.comes u left r (sym is) (reduce_advances p ms fs u (acted c es ms u i (sym is) so) h r left k)), refl)

  pub accept_settled : (c : ℕ) (es ms below : List (Entry V)) (e : Entry V) (u : List T) (act : Action) → IsSettled g a from c es ms act → c ≡ ahead g u → act ≡ Accept → ms ≡ e ∷ below
      → Comes g a from es u (read e.value) u
  accept_settled c es ms below e u act i is so put = i.comes u u (read e.value) (sym is) (accept_reads ms below e u put (acted c es ms u i (sym is) so))

  pub stop_settled : (c : ℕ) (es ms : List (Entry V)) (u : List T) (act : Action) → IsSettled g a from c es ms act → c ≡ ahead g u → act ≡ Stop → Comes g a from es u (stops ms) u
  stop_settled c es ms u act i is so = i.comes u u (stops ms) (sym is) (stopped (acted c es ms u i (sym is) so))
