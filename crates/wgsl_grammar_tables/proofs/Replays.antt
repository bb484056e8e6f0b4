-- Where no sentence goes on: the same comes of other tokens behind those that were read, if what is ahead is the same.
use Rattle.std.proofs.Common.{◌≡◌, ◌∙◌, refl, sym, ap, subst, ℕ, List, [], ◌∷◌, ◌++◌}
use Rattle.wgsl_grammar_tables.specs.Grammars.{Grammar}
use Rattle.wgsl_grammar_tables.specs.declared.shift_reduce.machine.Entry.{Entry}
use Rattle.wgsl_grammar_tables.specs.Machine.{Tables, action, top, ahead, Outcome, stops, Comes, shifted, reduced, accepted, stopped, memory}

module _ {T V : Type 0} (g : Grammar T V) (a : Tables) (from : ℕ) where
  pub record Replays (es : List (Entry V)) (u left : List T) (end : List (Entry V)) : Type 0 where
    pub front : List T
    pub whole : u ≡ front ++ left
    pub again : (other : List T) → ahead g other ≡ ahead g left → Comes g a from es (front ++ other) (stops end) other

  ahead_behind : (front u v : List T) → ahead g u ≡ ahead g v → ahead g (front ++ u) ≡ ahead g (front ++ v)
  ahead_behind [] u v e = e
  ahead_behind (k ∷ front) u v e = refl

  stops_is : {es end : List (Entry V)} → stops es ≡ stops end → es ≡ end
  stops_is e = cc

  pub replays : {es : List (Entry V)} {u left : List T} {r : Outcome V} → Comes g a from es u r left → (end : List (Entry V)) → r ≡ stops end → Replays es u left end
  replays (shifted k t act c) end e =
      let h = replays c end e in
      record { front = k ∷ h.front; whole = ap (λ l. k ∷ l) h.whole; again = λ other same. shifted k t act (h.again other same) }
  replays (reduced p t q below xs {es = es} {left = left} act is pop step c) end e =
      let h = replays c end e in
      record {
        front = h.front;
        whole = h.whole;
        again = λ other same.
            reduced p t q below xs (ap (λ n. action a (top from es) n) (ahead_behind h.front other left same ∙ ap (λ l. ahead g l) (sym h.whole)) ∙ act) is pop step (h.again other same);
      }
  replays (accepted t x act) end e = absurd cc
  replays (stopped {es = es} act) end e = record {
    front = [];
    whole = refl;
    again = λ other same. subst (λ l. Comes g a from es other (stops l) other) (stops_is e) (stopped (ap (λ n. action a (top from es) n) same ∙ act));
  }
  replays memory end e = absurd cc
