-- When tables fit a grammar: what each state knows of the rules that may be under way in it.
use Rattle.std.specs.Prelude.{◌≡◌, ℕ, zero, suc, Bool, true, List, [], ◌∷◌, ◌++◌, length, Some}
use Rattle.wgsl_grammar_tables.specs.Grammars.{Symbol, token, phrase, Rule, Grammar, Derives, Row, rest}
use Rattle.wgsl_grammar_tables.specs.declared.shift_reduce.machine.Action.TheVariants.{Reduce, Accept}
use Rattle.wgsl_grammar_tables.specs.Machine.{Tables, action}

-- x is an element of a list
pub data Among {X : Type 0} : List X → X → Type 0 where
  here : {x : X} {xs : List X} → Among (x ∷ xs) x
  there : {x y : X} {xs : List X} → Among xs x → Among (y ∷ xs) x

-- Of each state the rules of which it has read so many symbols; of each nonterminal those that a phrase of it may begin with;
-- what may stand behind a phrase of it (as what is ahead); and the classes of tokens that a symbol may begin with.
pub record Account : Type 0 where
  pub kernel : ℕ → List (ℕ × ℕ)
  pub corners : ℕ → List ℕ
  pub follow : ℕ → ℕ → Bool
  pub first : Symbol → ℕ → Bool

-- some tokens for these symbols
pub record Inhabited {T V : Type 0} (g : Grammar T V) (ss : List Symbol) : Type 0 where
  pub tokens : List T
  pub values : List V
  pub stands : Row g ss tokens values

-- more tokens make a phrase of the nonterminal
pub record Grows {T V : Type 0} (g : Grammar T V) (n : ℕ) (u : List T) : Type 0 where
  pub more : List T
  pub value : V
  pub stands : Derives g (phrase n) (u ++ more) value

module _ {T V : Type 0} (g : Grammar T V) (a : Tables) (w : Account) where
  -- A rule may be under way in a state, of which so many symbols were read.
  pub data Holds (s : ℕ) : ℕ → ℕ → Type 0 where
    in_kernel : {p d : ℕ} → Among (w.kernel s) (p, d) → Holds s p d
    opened : (q d n m p : ℕ) (ss : List Symbol) (r : Rule) → Among (w.kernel s) (q, d) → rest g q d ≡ phrase n ∷ ss → Among (w.corners n) m → g.rule p ≡ Some r → r.left ≡ m → Holds s p zero

  -- some state behind a step, in which a rule has read one symbol more
  pub record Steps (s p d : ℕ) (x : Symbol) : Type 0 where
    pub to : ℕ
    pub step : a.step s x ≡ Some to
    pub kernel : Among (w.kernel to) (p, suc d)

  -- what was known before a step
  pub record Came (s p d : ℕ) (x : Symbol) : Type 0 where
    pub before : ℕ
    pub one_more : d ≡ suc before
    pub was : rest g p before ≡ x ∷ rest g p d
    pub holds : Holds s p before

  -- a rule is read to its end
  pub record Ended (s p : ℕ) : Type 0 where
    pub rule : Rule
    pub is : g.rule p ≡ Some rule
    pub kernel : Among (w.kernel s) (p, length rule.right)

  pub record Some_item (s : ℕ) : Type 0 where
    pub number : ℕ
    pub read : ℕ
    pub kernel : Among (w.kernel s) (number, read)

  -- The tables fit the grammar, from the state `from`, for phrases of `goal`; `start` is the number of a rule that makes a sentence of
  -- such a phrase.
  pub record IsFit (from start sentence goal : ℕ) : Type 0 where
    pub begins : w.kernel from ≡ (start, zero) ∷ []
    pub starts : g.rule start ≡ Some (record { left = sentence; right = phrase goal ∷ [] })
    pub at_the_end : w.follow sentence zero ≡ true
    pub steps : (s p d : ℕ) (x : Symbol) (ss : List Symbol) → Holds s p d → rest g p d ≡ x ∷ ss → Steps s p d x
    pub came : (s t p d : ℕ) (x : Symbol) → a.step s x ≡ Some t → Among (w.kernel t) (p, d) → Came s p d x
    pub known : (s p d : ℕ) → Among (w.kernel s) (p, d) → (r : Rule) × (g.rule p ≡ Some r)
    pub ends : (s p d c : ℕ) (r : Rule) → Among (w.kernel s) (p, d) → rest g p d ≡ [] → (p ≡ start → ⊥) → g.rule p ≡ Some r → w.follow r.left c ≡ true → action a s c ≡ Reduce p
    pub ends_all : (s d : ℕ) → Among (w.kernel s) (start, d) → rest g start d ≡ [] → action a s zero ≡ Accept
    pub reduces : (s p c : ℕ) → action a s c ≡ Reduce p → Ended s p
    pub accepts : (s c : ℕ) → action a s c ≡ Accept → Among (w.kernel s) (start, suc zero) × (c ≡ zero)
    pub no_start : (p : ℕ) (r : Rule) → g.rule p ≡ Some r → r.left ≡ sentence → p ≡ start
    pub itself : (p d n : ℕ) (ss : List Symbol) → rest g p d ≡ phrase n ∷ ss → Among (w.corners n) n
    pub deeper : (n m p k : ℕ) (r : Rule) (ss : List Symbol) → Among (w.corners n) m → g.rule p ≡ Some r → r.left ≡ m → r.right ≡ phrase k ∷ ss → Among (w.corners n) k
    pub reaches : (n m : ℕ) (u : List T) (x : V) → Among (w.corners n) m → Derives g (phrase m) u x → Grows g n u
    pub no_sentence : (n : ℕ) → Among (w.corners n) sentence → ⊥
    pub inhabited : (p d : ℕ) → Inhabited g (rest g p d)
    pub nonempty : (p : ℕ) (r : Rule) → g.rule p ≡ Some r → r.right ≡ [] → ⊥
    pub first_token : (c : ℕ) → w.first (token c) c ≡ true
    pub first_phrase : (p c : ℕ) (r : Rule) (x : Symbol) (ss : List Symbol) → g.rule p ≡ Some r → r.right ≡ x ∷ ss → w.first x c ≡ true → w.first (phrase r.left) c ≡ true
    pub followed : (p d n c : ℕ) (y : Symbol) (ss : List Symbol) → rest g p d ≡ phrase n ∷ y ∷ ss → w.first y c ≡ true → w.follow n (suc c) ≡ true
    pub follows : (p d n c : ℕ) (r : Rule) → g.rule p ≡ Some r → rest g p d ≡ phrase n ∷ [] → w.follow r.left c ≡ true → w.follow n c ≡ true
    pub some_item : (s t : ℕ) (x : Symbol) → a.step s x ≡ Some t → Some_item t
