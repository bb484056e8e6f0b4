-- How statements are printed (this project's own layout): each a line or lines, four spaces deeper for each level of nesting.
use Rattle.std.specs.Prelude.{ℕ, ◌+◌, List, [], ◌∷◌, ◌++◌, Option, Some, None, codes}
use Rattle.wgsl_simple_statements.specs.ExpressionsTree.{Exp}
use Rattle.wgsl_simple_statements.specs.ExpressionsPrint.{indent}
use Rattle.wgsl_simple_statements.specs.AttributesPrint.{attrs_text}
pub use Rattle.wgsl_simple_statements.specs.PiecesPrint.{opening, closing, condition_text}
unfoldable pub use Rattle.wgsl_simple_statements.specs.PiecesPrint.{head_text}
use Rattle.wgsl_simple_statements.specs.Tree.{BreakIf}
use Rattle.wgsl_simple_statements.specs.Print.{simple_text, break_if_text, case_head}
use Rattle.wgsl_statements.specs.Tree.{Stm, simple, compound_statement, if_statement, switch_statement, loop_statement, for_statement, while_statement, Stms, nil, cons, Block, block, Elses, no_else, else_clause, else_if_clause, Clauses, no_clauses, switch_clause, Continuing, no_continuing, continuing_statement, Part, absent, present}

-- lines in braces, the last of which stands at this level; without lines `{}`
abbrev pub braced : ℕ → List ℕ → List ℕ
braced level [] = codes "{}"
braced level (c ∷ cs) = codes "{\n" ++ (c ∷ cs) ++ indent level ++ codes "}"

-- `for` and its header, up to what is in braces
unfoldable pub header_text : List ℕ → Option Exp → List ℕ → List ℕ
header_text first condition update = codes "for (" ++ first ++ codes "; " ++ condition_text condition ++ codes "; " ++ update ++ codes ") "

abbrev pub break_line : ℕ → Option BreakIf → List ℕ
break_line level None = []
break_line level (Some b) = indent level ++ break_if_text b ++ codes ";\n"

-- what stands behind a statement in its last line
abbrev pub end_text : Stm → List ℕ
end_text (simple s) = codes ";\n"
end_text _ = codes "\n"

-- the same where there may be none
abbrev pub behind_text : Option Stm → List ℕ
behind_text None = []
behind_text (Some s) = end_text s

abbrev mutual
  -- a statement that begins in a line at a level: without that line's spaces, and without what stands behind it
  pub bare_text : ℕ → Stm → List ℕ
  bare_text level (simple s) = simple_text s
  bare_text level (compound_statement b) = block_text level b
  bare_text level (if_statement attributes x b more) =
      attrs_text attributes ++ head_text (codes "if ") x ++ block_text level b ++ elses_text level more
  bare_text level (switch_statement attributes x inner clauses) =
      attrs_text attributes ++ head_text (codes "switch ") x ++ attrs_text inner ++ braced level (clauses_text (level + 1) clauses)
  bare_text level (loop_statement attributes b continuing) =
      attrs_text attributes ++ codes "loop " ++ extended_text level b (continuing_text (level + 1) continuing)
  bare_text level (for_statement attributes first condition update b) =
      attrs_text attributes ++ header_text (part_text level first) condition (part_text level update) ++ block_text level b
  bare_text level (while_statement attributes x b) = attrs_text attributes ++ head_text (codes "while ") x ++ block_text level b

  -- statements as lines at a level
  pub stms_text : ℕ → Stms → List ℕ
  stms_text level nil = []
  stms_text level (cons s ss) = (indent level ++ bare_text level s ++ end_text s) ++ stms_text level ss

  -- a block that begins in a line at a level
  pub block_text : ℕ → Block → List ℕ
  block_text level (block attributes ss) = attrs_text attributes ++ braced level (stms_text (level + 1) ss)

  -- a block with further lines behind its statements
  pub extended_text : ℕ → Block → List ℕ → List ℕ
  extended_text level (block attributes ss) lines = attrs_text attributes ++ braced level (stms_text (level + 1) ss ++ lines)

  pub elses_text : ℕ → Elses → List ℕ
  elses_text level no_else = []
  elses_text level (else_clause b) = codes " else " ++ block_text level b
  elses_text level (else_if_clause x b more) = codes " " ++ head_text (codes "else if ") x ++ block_text level b ++ elses_text level more

  -- clauses as lines at a level
  pub clauses_text : ℕ → Clauses → List ℕ
  clauses_text level no_clauses = []
  clauses_text level (switch_clause selectors b more) =
      (indent level ++ (case_head selectors ++ codes ": " ++ block_text level b) ++ codes "\n") ++ clauses_text level more

  -- `continuing` as lines at a level
  pub continuing_text : ℕ → Continuing → List ℕ
  continuing_text level no_continuing = []
  continuing_text level (continuing_statement attributes b condition) =
      indent level ++ (attrs_text attributes ++ (codes "continuing " ++ extended_text level b (break_line (level + 1) condition))) ++ codes "\n"

  pub part_text : ℕ → Part → List ℕ
  part_text level absent = []
  part_text level (present s) = bare_text level s

-- a statement as lines at a level
abbrev pub stm_text : ℕ → Stm → List ℕ
stm_text level s = indent level ++ bare_text level s ++ end_text s

-- the same where there may be none
abbrev pub lines_text : ℕ → Option Stm → List ℕ
lines_text level None = []
lines_text level (Some s) = stm_text level s
