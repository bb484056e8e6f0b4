-- The rules that the grammar's lines are, with no piece that may be absent or stand any number of times.
use Rattle.std.specs.Prelude.{ℕ, zero, suc, ◌+◌, ◌*◌, Bool, true, false, List, [], ◌∷◌, ◌++◌, length, Option, Some, None}
use Rattle.wgsl_token.specs.declared.token.Fixed.{Fixed}
use Rattle.wgsl_token.specs.declared.token.Fixed.TheVariants as f
use Rattle.wgsl_token.specs.declared.token.Token.TheVariants as t
use Rattle.wgsl_templates.specs.declared.meaning.token.TemplateToken.TheVariants.{Plain, TemplateArgsStart, TemplateArgsEnd}
use Rattle.wgsl_grammar_tables.specs.Grammars.{Symbol, token, phrase, Rule}
use Rattle.wgsl_parser_table.specs.Label.{Label}
use Rattle.wgsl_parser_table.specs.Label.TheVariants as l
use Rattle.wgsl_grammar_tables.specs.Classes.{class_of, fixed_class}
use Rattle.wgsl_grammar_tables.specs.Nonterminals.{Nonterminal, number}
use Rattle.wgsl_grammar_tables.specs.Grammar.{Piece, mark, truth, kind, may_mark, word, literal, reserved, opens, closes, one, may, some, any, listed, any_listed, lacking, Line, repeated, separated, begun, lines}

-- A rule, what it makes, and the pattern of its parts: 0 for one that is absent, 1 for a symbol that is none, 2 for one that is.
pub record Made : Type 0 where
  pub left : ℕ
  pub right : List Symbol
  pub label : Label
  pub parts : List ℕ

-- A nonterminal, some of it in a row, a list of it with commas, such a list that ends in no comma, and a sentence of it.
abbrev pub plain : Nonterminal → ℕ
plain n = 5 * number n

abbrev pub in_a_row : Nonterminal → ℕ
in_a_row n = 5 * number n + 1

abbrev pub in_a_list : Nonterminal → ℕ
in_a_list n = 5 * number n + 2

abbrev pub with_commas : Nonterminal → ℕ
with_commas n = 5 * number n + 3

abbrev pub sentence : Nonterminal → ℕ
sentence n = 5 * number n + 4

-- how a piece may stand there: as which symbols, and whether it is a part
pub record Choice : Type 0 where
  pub symbols : List Symbol
  pub is_part : Bool

abbrev absent : Bool → Choice
absent is_part = record { symbols = []; is_part = is_part }

abbrev stands : Symbol → Bool → Choice
stands x is_part = record { symbols = x ∷ []; is_part = is_part }

abbrev fixed : Fixed → Symbol
fixed which = token (fixed_class which)

abbrev pub choices : Piece → List Choice
choices (mark which) = stands (fixed which) false ∷ []
choices (truth which) = stands (fixed which) true ∷ []
choices (kind which) = stands (fixed which) true ∷ []
choices (may_mark which) = absent false ∷ stands (fixed which) false ∷ []
choices word = stands (token (class_of (Plain (t.Identifier [])))) true ∷ []
choices literal = stands (token (class_of (Plain (t.F32 [])))) true ∷ []
choices reserved = stands (token (class_of (Plain (t.Reserved [])))) true ∷ []
choices opens = stands (token (class_of TemplateArgsStart)) false ∷ []
choices closes = stands (token (class_of TemplateArgsEnd)) false ∷ []
choices (one n) = stands (phrase (plain n)) true ∷ []
choices (may n) = absent true ∷ stands (phrase (plain n)) true ∷ []
choices (some n) = stands (phrase (in_a_row n)) true ∷ []
choices (any n) = absent true ∷ stands (phrase (in_a_row n)) true ∷ []
choices (listed n) = stands (phrase (in_a_list n)) true ∷ []
choices (any_listed n) = absent true ∷ stands (phrase (in_a_list n)) true ∷ []
choices lacking = absent true ∷ []

abbrev pub with_part : Bool → List Symbol → ℕ → List ℕ → List ℕ
with_part false [] k parts = parts
with_part false (x ∷ ss) k parts = 1 ∷ parts
with_part true [] k parts = 0 ∷ parts
with_part true (x ∷ ss) k parts = 2 ∷ parts

-- these symbols and parts, behind a choice for a piece at a place
abbrev pub behind : ℕ → Choice → List (List Symbol × List ℕ) → List (List Symbol × List ℕ)
behind k c [] = []
behind k c (e ∷ es) = (c.symbols ++ e.0, with_part c.is_part c.symbols k e.1) ∷ behind k c es

abbrev pub chosen : ℕ → List (ℕ → List (List Symbol × List ℕ)) → List Choice → List (List Symbol × List ℕ)
chosen k more [] = []
chosen k [] (c ∷ cs) = []
chosen k (more ∷ none) (c ∷ cs) = behind k c (more (k + length c.symbols)) ++ chosen k (more ∷ none) cs

-- the symbols and parts of some pieces from a place on, each choice with each
abbrev pub expansions : List Piece → ℕ → List (List Symbol × List ℕ)
expansions [] k = ([], []) ∷ []
expansions (p ∷ ps) k = chosen k (expansions ps ∷ []) (choices p)

-- No rule has an empty right side.
abbrev pub made_of : ℕ → Label → List (List Symbol × List ℕ) → List Made
made_of left label [] = []
made_of left label (([], parts) ∷ es) = made_of left label es
made_of left label ((x ∷ ss, parts) ∷ es) = record { left = left; right = x ∷ ss; label = label; parts = parts } ∷ made_of left label es

abbrev pub made_of_lines : List Line → List Made
made_of_lines [] = []
made_of_lines (r ∷ rs) = made_of (plain r.left) r.label (expansions r.right zero) ++ made_of_lines rs

abbrev made : ℕ → List Symbol → Label → List ℕ → Made
made left right label parts = record { left = left; right = right; label = label; parts = parts }

abbrev pub made_in_a_row : List Nonterminal → List Made
made_in_a_row [] = []
made_in_a_row (n ∷ ns) =
    made (in_a_row n) (phrase (plain n) ∷ []) l.First (2 ∷ []) ∷ made (in_a_row n) (phrase (in_a_row n) ∷ phrase (plain n) ∷ []) l.More (2 ∷ 2 ∷ []) ∷ made_in_a_row ns

abbrev pub made_in_a_list : List Nonterminal → List Made
made_in_a_list [] = []
made_in_a_list (n ∷ ns) =
    made (in_a_list n) (phrase (with_commas n) ∷ []) l.Pass (2 ∷ [])
    ∷ made (in_a_list n) (phrase (with_commas n) ∷ fixed f.Comma ∷ []) l.Pass (2 ∷ 1 ∷ [])
    ∷ made (with_commas n) (phrase (plain n) ∷ []) l.First (2 ∷ [])
    ∷ made (with_commas n) (phrase (with_commas n) ∷ fixed f.Comma ∷ phrase (plain n) ∷ []) l.More (2 ∷ 1 ∷ 2 ∷ [])
    ∷ made_in_a_list ns

abbrev pub made_of_sentences : List Nonterminal → List Made
made_of_sentences [] = []
made_of_sentences (n ∷ ns) = made (sentence n) (phrase (plain n) ∷ []) l.Pass (2 ∷ []) ∷ made_of_sentences ns

-- all rules, by number
unfoldable pub made_rules : List Made
made_rules = made_of_lines lines ++ (made_in_a_row repeated ++ (made_in_a_list separated ++ made_of_sentences begun))

abbrev pub left_of : Made → ℕ
left_of m = m.left

abbrev pub right_of : Made → List Symbol
right_of m = m.right

abbrev pub label_of : Made → Label
label_of m = m.label

abbrev pub parts_of : Made → List ℕ
parts_of m = m.parts

abbrev pub made_in : List Made → ℕ → Option Made
made_in [] p = None
made_in (m ∷ ms) zero = Some m
made_in (m ∷ ms) (suc p) = made_in ms p

abbrev pub rule_in : List Made → ℕ → Option Rule
rule_in [] p = None
rule_in (m ∷ ms) zero = Some (record { left = m.left; right = m.right })
rule_in (m ∷ ms) (suc p) = rule_in ms p

abbrev pub parts_in : List Made → ℕ → List ℕ
parts_in [] p = []
parts_in (m ∷ ms) zero = m.parts
parts_in (m ∷ ms) (suc p) = parts_in ms p
