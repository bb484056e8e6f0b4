-- Pieces of printed statements (this project's own layout): what stands before, between and behind the statements that they hold.
use Rattle.std.specs.Prelude.{ℕ, Bool, if◌then◌else◌, List, [], ◌++◌, Option, Some, None, codes}
use Rattle.wgsl_expressions.specs.Tree.{Exp}
use Rattle.wgsl_expressions.specs.Print.{exp_text, indent}

-- the first brace, with lines behind it or without
abbrev pub opening : Bool → List ℕ
opening filled = if filled then codes "{\n" else codes "{"

-- the last brace, with lines before it or without
abbrev pub closing : ℕ → Bool → List ℕ
closing level filled = if filled then (indent level ++ codes "}") else codes "}"

-- a word and an expression, up to what is in braces
unfoldable pub head_text : List ℕ → Exp → List ℕ
head_text word x = word ++ exp_text x ++ codes " "

abbrev pub condition_text : Option Exp → List ℕ
condition_text None = []
condition_text (Some x) = exp_text x
