-- What the answer of a parser says, whose tables fit a grammar.
use Rattle.std.specs.Prelude.{◌≡◌, ℕ, List, [], ◌∷◌, ◌++◌}
use Rattle.wgsl_grammar_tables.specs.Grammars.{Symbol, phrase, Grammar, Derives}
use Rattle.wgsl_grammar_tables.specs.declared.shift_reduce.machine.Entry.{Entry}
use Rattle.wgsl_grammar_tables.specs.Machine.{Tables, ahead, Outcome, read, stops, no_memory, Comes}
use Rattle.wgsl_grammar_tables.specs.Fit.{Account, IsFit}

module _ {T V : Type 0} (g : Grammar T V) (goal : ℕ) where
  -- The tokens derive the tree, and no other.
  pub record IsRead (tokens : List T) (x : V) : Type 0 where
    pub derives : Derives g (phrase goal) tokens x
    pub only : (y : V) → Derives g (phrase goal) tokens y → y ≡ x

  -- some sentence begins with these tokens
  pub record IsBegun (front : List T) : Type 0 where
    pub more : List T
    pub value : V
    pub derives : Derives g (phrase goal) (front ++ more) value

  -- The entries of a stack, the uppermost first, are the trees of phrases that stand one behind the other.
  pub data Phrases : List (Entry V) → List T → Type 0 where
    no_phrase : Phrases [] []
    one_more : (e : Entry V) (s : Symbol) {es : List (Entry V)} {u v : List T} → Phrases es u → Derives g s v e.value → Phrases (e ∷ es) (u ++ v)

  -- A sentence begins with the tokens before these, and none goes on with a token of the class of the first of these; or these are none, and
  -- the tokens before them are no sentence.
  pub record IsStopped (tokens : List T) (stack : List (Entry V)) (left : List T) : Type 0 where
    pub front : List T
    pub whole : tokens ≡ front ++ left
    pub phrases : Phrases stack front
    pub begun : IsBegun front
    pub dead : (other : List T) (x : V) → ahead g other ≡ ahead g left → Derives g (phrase goal) (front ++ other) x → ⊥

  -- what an answer says of all tokens, with those that are left
  abbrev pub Answers : List T → Outcome V → List T → Type 0
  Answers tokens (read x) left = IsRead tokens x × (left ≡ [])
  Answers tokens (stops es) left = IsStopped tokens es left
  Answers tokens no_memory left = Unit

-- A parser whose tables fit answers exactly what the grammar says.
abbrev pub AnswersAreExact : Type 0 → Type 0 → Type 0
AnswersAreExact T V = (g : Grammar T V) (a : Tables) (w : Account) (from start sentence goal : ℕ) → IsFit g a w from start sentence goal
    → (tokens left : List T) (r : Outcome V) → Comes g a from [] tokens r left → Answers g goal tokens r left

-- Where tables fit, what tokens derive may be answered, and tokens derive one tree at most.
abbrev pub SentencesAreAnswered : Type 0 → Type 0 → Type 0
SentencesAreAnswered T V = (g : Grammar T V) (a : Tables) (w : Account) (from start sentence goal : ℕ) → IsFit g a w from start sentence goal
    → (tokens : List T) (x : V) → Derives g (phrase goal) tokens x → Comes g a from [] tokens (read x) []

abbrev pub TreesAreUnique : Type 0 → Type 0 → Type 0
TreesAreUnique T V = (g : Grammar T V) (a : Tables) (w : Account) (from start sentence goal : ℕ) → IsFit g a w from start sentence goal
    → (tokens : List T) (x y : V) → Derives g (phrase goal) tokens x → Derives g (phrase goal) tokens y → y ≡ x
