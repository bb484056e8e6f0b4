-- What a parser does that shifts and reduces, by its tables (Knuth, "On the translation of languages from left to right"; the
-- tables are SLR(1)).
use Rattle.std.specs.Prelude.{◌≡◌, ℕ, zero, suc, Bool, if◌then◌else◌, List, [], ◌∷◌, length, Option, Some, None}
use Rattle.wgsl_grammar_tables.specs.declared.shift_reduce.machine.Action.{Action}
use Rattle.wgsl_grammar_tables.specs.declared.shift_reduce.machine.Action.TheVariants.{Shift, Reduce, Accept, Stop}
use Rattle.wgsl_grammar_tables.specs.declared.shift_reduce.machine.Entry.{Entry}
use Rattle.wgsl_grammar_tables.specs.Grammars.{Symbol, token, phrase, Rule, Grammar}

-- The tables: to which state a symbol leads from a state; by which rule a state reduces before what stands ahead; and in which
-- states a sentence is whole.
pub record Tables : Type 0 where
  pub step : ℕ → Symbol → Option ℕ
  pub reduction : ℕ → ℕ → Option ℕ
  pub is_final : ℕ → Bool

abbrev pub reducing : Option ℕ → Action
reducing None = Stop
reducing (Some p) = Reduce p

abbrev pub shifting : Option ℕ → Action → Action
shifting None other = other
shifting (Some t) other = Shift t

-- what is done in a state before the end (0), or before a token of a class (its number and one)
abbrev pub action : Tables → ℕ → ℕ → Action
action a s zero = if a.is_final s then Accept else reducing (a.reduction s zero)
action a s (suc c) = shifting (a.step s (token c)) (reducing (a.reduction s (suc c)))

-- the state that a parser is in, which began in the first
abbrev pub top : {V : Type 0} → ℕ → List (Entry V) → ℕ
top from [] = from
top from (e ∷ es) = e.state

-- the state below the uppermost symbol
abbrev pub below_top : {V : Type 0} → ℕ → List (Entry V) → ℕ
below_top from [] = from
below_top from (e ∷ es) = top from es

-- the stack without its uppermost entries, and their trees, before some others
abbrev pub popped : {V : Type 0} → ℕ → List (Entry V) → List V → List (Entry V) × List V
popped zero es xs = (es, xs)
popped (suc n) [] xs = ([], xs)
popped (suc n) (e ∷ es) xs = popped n es (e.value ∷ xs)

module _ {T V : Type 0} (g : Grammar T V) where
  abbrev pub ahead : List T → ℕ
  ahead [] = 0
  ahead (k ∷ u) = suc (g.class_of k)

  -- what stands ahead, if that is the next token
  abbrev pub ahead_of : Option T → ℕ
  ahead_of None = 0
  ahead_of (Some k) = suc (g.class_of k)

-- What comes of a run: a tree is read; or nothing can be done, with this stack; or the parser gave up.
pub data Outcome (V : Type 0) : Type 0 where
  read : V → Outcome V
  stops : List (Entry V) → Outcome V
  no_memory : Outcome V

-- Of a stack and the tokens that are left comes this, with these tokens left.
pub data Comes {T V : Type 0} (g : Grammar T V) (a : Tables) (from : ℕ) : List (Entry V) → List T → Outcome V → List T → Type 0 where
  shifted : (k : T) (t : ℕ) {es : List (Entry V)} {u left : List T} {r : Outcome V}
      → action a (top from es) (ahead g (k ∷ u)) ≡ Shift t → Comes g a from (record { state = t; value = g.leaf k } ∷ es) u r left → Comes g a from es (k ∷ u) r left
  reduced : (p t : ℕ) (q : Rule) (below : List (Entry V)) (xs : List V) {es : List (Entry V)} {u left : List T} {r : Outcome V}
      → action a (top from es) (ahead g u) ≡ Reduce p → g.rule p ≡ Some q → popped (length q.right) es [] ≡ (below, xs) → a.step (top from below) (phrase q.left) ≡ Some t
      → Comes g a from (record { state = t; value = g.make p xs } ∷ below) u r left → Comes g a from es u r left
  accepted : (t : ℕ) (x : V) {es : List (Entry V)} {u : List T} → action a t (ahead g u) ≡ Accept → Comes g a from (record { state = t; value = x } ∷ es) u (read x) u
  stopped : {es : List (Entry V)} {u : List T} → action a (top from es) (ahead g u) ≡ Stop → Comes g a from es u (stops es) u
  memory : {es : List (Entry V)} {u left : List T} → Comes g a from es u no_memory left
