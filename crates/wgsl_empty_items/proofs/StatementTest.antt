-- A test of two trees of statements, which each tree passes with itself.
use Rattle.std.proofs.Common.{◌≡◌, refl, Bool, true, false, ◌&&◌, List, Option}
use Rattle.std.specs.Option.{option_eq}
use Rattle.std.specs.Cmp.Lexicographic.{pointwise}
use Rattle.wgsl_expressions.specs.Tree.{Exp}
use Rattle.wgsl_expressions.specs.AttributesTree.{Attr}
use Rattle.wgsl_simple_statements.specs.Tree.{BreakIf, Selector}
use Rattle.wgsl_statements.specs.Tree.{Stm, simple, compound_statement, if_statement, switch_statement, loop_statement, for_statement, while_statement, Stms, nil, cons, Block, block, Elses, no_else, else_clause, else_if_clause, Clauses, no_clauses, switch_clause, Continuing, no_continuing, continuing_statement, Part, absent, present}
use Rattle.wgsl_empty_items.proofs.Parts.{option_decides, list_decides}
use Rattle.wgsl_empty_items.proofs.ExpressionTest.{same_exp, exp_decides}
use Rattle.wgsl_empty_items.proofs.Attributes.{attrs_decide, maybe_exps_decide}
use Rattle.wgsl_empty_items.proofs.SimpleStatements.{same_attrs, same_simple, simple_decides, same_break_if, break_if_decides, same_selector, selector_decides}

abbrev mutual
  pub same_stm : Stm → Stm → Bool
  same_stm (simple x) (simple y) = same_simple x y
  same_stm (compound_statement b) (compound_statement c) = same_tree_block b c
  same_stm (if_statement ps x b es) (if_statement qs y c fs) = same_attrs ps qs && ((same_exp x y && same_tree_block b c) && same_elses es fs)
  same_stm (switch_statement ps x rs cs) (switch_statement qs y ss ds) = same_attrs ps qs && (same_exp x y && (same_attrs rs ss && same_clauses cs ds))
  same_stm (loop_statement ps b c) (loop_statement qs d e) = same_attrs ps qs && (same_tree_block b d && same_continuing c e)
  same_stm (for_statement ps i x u b) (for_statement qs j y v c) = same_attrs ps qs && (same_part i j && (option_eq same_exp x y && (same_part u v && same_tree_block b c)))
  same_stm (while_statement ps x b) (while_statement qs y c) = same_attrs ps qs && (same_exp x y && same_tree_block b c)
  same_stm _ _ = false

  pub same_stms : Stms → Stms → Bool
  same_stms nil nil = true
  same_stms (cons x xs) (cons y ys) = same_stm x y && same_stms xs ys
  same_stms _ _ = false

  pub same_tree_block : Block → Block → Bool
  same_tree_block (block ps xs) (block qs ys) = same_attrs ps qs && same_stms xs ys

  pub same_elses : Elses → Elses → Bool
  same_elses no_else no_else = true
  same_elses (else_clause b) (else_clause c) = same_tree_block b c
  same_elses (else_if_clause x b es) (else_if_clause y c fs) = (same_exp x y && same_tree_block b c) && same_elses es fs
  same_elses _ _ = false

  pub same_clauses : Clauses → Clauses → Bool
  same_clauses no_clauses no_clauses = true
  same_clauses (switch_clause xs b cs) (switch_clause ys c ds) = (pointwise same_selector xs ys && same_tree_block b c) && same_clauses cs ds
  same_clauses _ _ = false

  pub same_continuing : Continuing → Continuing → Bool
  same_continuing no_continuing no_continuing = true
  same_continuing (continuing_statement ps b x) (continuing_statement qs c y) = same_attrs ps qs && (same_tree_block b c && option_eq same_break_if x y)
  same_continuing _ _ = false

  pub same_part : Part → Part → Bool
  same_part absent absent = true
  same_part (present x) (present y) = same_stm x y
  same_part _ _ = false

attrs_self : (ps : List Attr) → same_attrs ps ps ≡ true
attrs_self ps = (attrs_decide ps ps).1 refl

exp_self : (x : Exp) → same_exp x x ≡ true
exp_self x = (exp_decides x x).1 refl

selectors_self : (xs : List Selector) → pointwise same_selector xs xs ≡ true
selectors_self xs = (list_decides same_selector selector_decides xs xs).1 refl

break_if_self : (x : Option BreakIf) → option_eq same_break_if x x ≡ true
break_if_self x = (option_decides same_break_if break_if_decides x x).1 refl

mutual
  pub stm_self : (s : Stm) → same_stm s s ≡ true
  stm_self (simple x) = (simple_decides x x).1 refl
  stm_self (compound_statement b) = block_self b
  stm_self (if_statement ps x b es) = λ i. attrs_self ps i && ((exp_self x i && block_self b i) && elses_self es i)
  stm_self (switch_statement ps x rs cs) = λ i. attrs_self ps i && (exp_self x i && (attrs_self rs i && clauses_self cs i))
  stm_self (loop_statement ps b c) = λ i. attrs_self ps i && (block_self b i && continuing_self c i)
  stm_self (for_statement ps j x u b) = λ i. attrs_self ps i && (part_self j i && ((maybe_exps_decide x x).1 refl i && (part_self u i && block_self b i)))
  stm_self (while_statement ps x b) = λ i. attrs_self ps i && (exp_self x i && block_self b i)

  stms_self : (xs : Stms) → same_stms xs xs ≡ true
  stms_self nil = refl
  stms_self (cons x xs) = λ i. stm_self x i && stms_self xs i

  pub block_self : (b : Block) → same_tree_block b b ≡ true
  block_self (block ps xs) = λ i. attrs_self ps i && stms_self xs i

  elses_self : (es : Elses) → same_elses es es ≡ true
  elses_self no_else = refl
  elses_self (else_clause b) = block_self b
  elses_self (else_if_clause x b es) = λ i. (exp_self x i && block_self b i) && elses_self es i

  clauses_self : (cs : Clauses) → same_clauses cs cs ≡ true
  clauses_self no_clauses = refl
  clauses_self (switch_clause xs b cs) = λ i. (selectors_self xs i && block_self b i) && clauses_self cs i

  continuing_self : (c : Continuing) → same_continuing c c ≡ true
  continuing_self no_continuing = refl
  continuing_self (continuing_statement ps b x) = λ i. attrs_self ps i && (block_self b i && break_if_self x i)

  part_self : (p : Part) → same_part p p ≡ true
  part_self absent = refl
  part_self (present x) = stm_self x
