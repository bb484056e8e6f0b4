-- Grammars as rules by number, and the trees that tokens derive by them.
use Rattle.std.specs.Prelude.{◌≡◌, ℕ, List, [], ◌∷◌, ◌++◌, drop, Option, Some, None}

-- a token of a class, or a phrase of a nonterminal
pub data Symbol : Type 0 where
  token : ℕ → Symbol
  phrase : ℕ → Symbol

-- A phrase of the nonterminal on the left is made of these symbols.
pub record Rule : Type 0 where
  pub left : ℕ
  pub right : List Symbol

-- Rules by number; the class of a token and its tree; and the tree that a rule makes of its parts.
pub record Grammar (T V : Type 0) : Type 0 where
  pub class_of : T → ℕ
  pub leaf : T → V
  pub rule : ℕ → Option Rule
  pub make : ℕ → List V → V

-- Which tokens stand for which tree: as one symbol, and as symbols one behind the other.
mutual
  pub data Derives {T V : Type 0} (g : Grammar T V) : Symbol → List T → V → Type 0 where
    a_token : (k : T) → Derives g (token (g.class_of k)) (k ∷ []) (g.leaf k)
    a_phrase : (p : ℕ) (r : Rule) {u : List T} {xs : List V} → g.rule p ≡ Some r → Row g r.right u xs → Derives g (phrase r.left) u (g.make p xs)

  pub data Row {T V : Type 0} (g : Grammar T V) : List Symbol → List T → List V → Type 0 where
    done : Row g [] [] []
    next : {s : Symbol} {ss : List Symbol} {u v : List T} {x : V} {xs : List V} → Derives g s u x → Row g ss v xs → Row g (s ∷ ss) (u ++ v) (x ∷ xs)

abbrev pub right_side : Option Rule → List Symbol
right_side None = []
right_side (Some r) = r.right

-- what is left of a rule behind so many of its symbols
abbrev pub rest : {T V : Type 0} → Grammar T V → ℕ → ℕ → List Symbol
rest g p d = drop d (right_side (g.rule p))
