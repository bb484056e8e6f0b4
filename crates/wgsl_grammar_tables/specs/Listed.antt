-- Tables of a parser that are given by number, and what they say.
use Rattle.std.specs.Prelude.{ℕ, zero, ◌+◌, ◌*◌, Bool, false, cond, if◌then◌else◌, nat_lt, ◌==◌, ◌||◌, List, [], ◌∷◌, drop, Option, Some, None}
use Rattle.wgsl_grammar_tables.specs.Grammars.{Symbol, token, phrase, Rule, right_side}
use Rattle.wgsl_grammar_tables.specs.Machine.{Tables}
use Rattle.wgsl_grammar_tables.specs.Fit.{Account}

-- Each number below its count has a rule, a state or a nonterminal. Of a state: the codes of the symbols that lead on, each with the
-- state that it leads to; the rules that it may reduce by; and the rules of which it has read so many symbols. Of a nonterminal: those
-- that a phrase of it may begin with, itself first; for each of these but itself a rule that begins with it, of one that stands earlier;
-- its rules; what may stand behind it (0 for the end, or a token's class and one); and the classes that it may begin with. And rules in
-- an order in which each is made of tokens and phrases of earlier ones.
pub record Listed : Type 0 where
  pub class_count : ℕ
  pub rule_count : ℕ
  pub rule : ℕ → Rule
  pub state_count : ℕ
  pub steps : ℕ → List (ℕ × ℕ)
  pub finals : ℕ → List ℕ
  pub kernel : ℕ → List (ℕ × ℕ)
  pub nonterminal_count : ℕ
  pub corners : ℕ → List ℕ
  pub ways : ℕ → List ℕ
  pub rules_of : ℕ → List ℕ
  pub follow : ℕ → List ℕ
  pub first : ℕ → List ℕ
  pub order : List ℕ

-- The state that a parser begins in and the one that it ends in; the rule of its sentence, the sentence and the phrase in it.
pub record Start : Type 0 where
  pub from : ℕ
  pub last : ℕ
  pub rule : ℕ
  pub sentence : ℕ
  pub goal : ℕ

abbrev pub code : Symbol → ℕ
code (token c) = 2 * c
code (phrase n) = 2 * n + 1

abbrev pub member : ℕ → List ℕ → Bool
member x [] = false
member x (y ∷ ys) = (y == x) || member x ys

-- the number beside this one
abbrev pub beside : ℕ → List (ℕ × ℕ) → Option ℕ
beside a [] = None
beside a (e ∷ es) = cond (e.0 == a) (Some e.1) (beside a es)

module _ (l : Listed) where
  abbrev pub rule_at : ℕ → Option Rule
  rule_at p = if nat_lt p l.rule_count then Some (l.rule p) else None

  abbrev pub rest_at : ℕ → ℕ → List Symbol
  rest_at p d = drop d (right_side (rule_at p))

  abbrev pub steps_at : ℕ → List (ℕ × ℕ)
  steps_at s = if nat_lt s l.state_count then l.steps s else []

  abbrev pub finals_at : ℕ → List ℕ
  finals_at s = if nat_lt s l.state_count then l.finals s else []

  abbrev pub kernel_at : ℕ → List (ℕ × ℕ)
  kernel_at s = if nat_lt s l.state_count then l.kernel s else []

  abbrev pub corners_at : ℕ → List ℕ
  corners_at n = if nat_lt n l.nonterminal_count then l.corners n else []

  abbrev pub step_at : ℕ → Symbol → Option ℕ
  step_at s x = beside (code x) (steps_at s)

  -- the first rule of a nonterminal that this may stand behind
  abbrev pub first_before : ℕ → List ℕ → Option ℕ
  first_before c [] = None
  first_before c (p ∷ ps) = cond (member c (l.follow (l.rule p).left)) (Some p) (first_before c ps)

  -- The only rule is reduced by, whatever is ahead.
  abbrev pub reduction_by : ℕ → List ℕ → Option ℕ
  reduction_by c [] = None
  reduction_by c (p ∷ []) = Some p
  reduction_by c (p ∷ q ∷ ps) = first_before c (p ∷ q ∷ ps)

  abbrev pub reduction_at : ℕ → ℕ → Option ℕ
  reduction_at s c = reduction_by c (finals_at s)

  abbrev pub first_at : Symbol → ℕ → Bool
  first_at (token k) c = k == c
  first_at (phrase n) c = member c (l.first n)

  module _ (b : Start) where
    abbrev pub follow_at : ℕ → List ℕ
    follow_at n = if n == b.sentence then zero ∷ [] else l.follow n

    abbrev pub tables : Tables
    tables = record { step = step_at; reduction = reduction_at; is_final = λ s. s == b.last }

    abbrev pub account : Account
    account = record { kernel = kernel_at; corners = corners_at; follow = λ n c. member c (follow_at n); first = first_at }
