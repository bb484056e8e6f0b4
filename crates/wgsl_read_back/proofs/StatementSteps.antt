-- Each production of statements, blocks and `continuing` in which pieces may be absent, and its step. It is named for the pieces that are there:
-- `for_statement_from_by` has an initializer and an update, but neither attributes nor a condition.
-- A number is the place of the piece in the grammar's line, from 0, absent ones counted: `k3` is the nonterminal there, `g3` what its phrase is (of
-- statements in a row `h3` and `r3`), `t3` the token there; in a step `q3` says what phrases of `k3` are, and `z3` is what stands there. `u` and `x`, the
-- tokens and the value, are numbered by what stands in the row, from 1. `bare` is the rule without statements, for those of which nothing is printed.
use Rattle.std.proofs.Common.{refl, ap, ℕ, List, [], ◌∷◌, ◌++◌, append-nil, Some, None}
use Rattle.wgsl_token.specs.declared.token.Fixed.TheVariants as f
use Rattle.wgsl_templates.specs.declared.meaning.token.SpannedTemplateToken.{SpannedTemplateToken}
use Rattle.wgsl_statements.specs.Tree.{nil, no_continuing}
use Rattle.wgsl_print_laws.specs.Tokens.{mark}
use Rattle.wgsl_print_laws.specs.Imports.{no_attributes}
use Rattle.wgsl_print_laws.specs.Statements.{no_statements, no_end, no_break_if}
use Rattle.wgsl_grammar_tables.specs.Grammars.{token, phrase}
use Rattle.wgsl_semantic_values.specs.declared.part.Part.{Part}
use Rattle.wgsl_semantic_values.specs.declared.label.Label.TheVariants as l
use Rattle.wgsl_semantic_values.specs.declared.label.StatementLabel.TheVariants as label
use Rattle.wgsl_semantic_values.specs.declared.label.ClauseLabel.TheVariants as clause
use Rattle.wgsl_parser.specs.Phrase.{Phrase}
use Rattle.wgsl_grammar_tables.specs.Classes.{fixed_class}
use Rattle.wgsl_read_back.proofs.Views as v
use Rattle.wgsl_read_back.proofs.Items.{OneToken, begins_then}
use Rattle.wgsl_read_back.proofs.Rows.{make_of, Rebuild}
use Rattle.wgsl_read_back.proofs.Pieces.{end, a_mark, a_part, a_part_as, some_lines, no_part, a_vanished}
use Rattle.wgsl_read_back.proofs.Families.{Expressed, mark_item}
use Rattle.wgsl_read_back.proofs.AttributeRows.{AttributesRowed}
use Rattle.wgsl_read_back.proofs.Plain.{Headed, value_of_expression}
use Rattle.wgsl_read_back.proofs.Blocks.{Blocked, StatementRead, StatementsRead, some_stated, all_void, Otherwise, ElseIfsRead, no_else_ifs, ClausesRead, Continued, BrokenIf}
use Rattle.wgsl_read_back.proofs.Clauses.{mark_begins, block_of, continuing_of}
use Rattle.wgsl_read_back.proofs.Statements.{nothing_else, else_tokens, no_head, a_head, if_of, switch_of, loop_of, for_of, while_of}
use Rattle.wgsl_read_back.proofs.Steps.{Is, As, Makes, good_end, good_next}

-- ---- `if`

pub if_statement : (n k2 k3 : ℕ) → Rebuild n (token (fixed_class f.If) ∷ phrase k2 ∷ phrase k3 ∷ []) (l.Statement label.If) (0 ∷ 1 ∷ 2 ∷ 2 ∷ 0 ∷ 0 ∷ []) → {u1 u2 u3 : List SpannedTemplateToken} {x1 x2 x3 : Phrase Part} → OneToken (fixed_class f.If) u1 x1 → Expressed k2 u2 x2 → Blocked k3 u3 x3 → StatementRead n (u1 ++ (u2 ++ (u3 ++ []))) (make_of (l.Statement label.If) (0 ∷ 1 ∷ 2 ∷ 2 ∷ 0 ∷ 0 ∷ []) (x1 ∷ x2 ∷ x3 ∷ []))
if_statement n k2 k3 rebuild {u1 = u1} {u2 = u2} {u3 = u3} {x1 = x1} t1 g2 g3 =
    if_of n rebuild rebuild [] g3.1 [] [] (g3.1 ++ []) refl no_attributes g2.1 g3.2 no_else_ifs nothing_else (no_part (v.attributes [] []) (v.no_attributes refl) (a_mark (mark_item f.If u1 x1 t1) (a_part g2.2 (a_part g3.4 (no_part (v.else_ifs [] []) (v.no_else_ifs refl) (no_part (v.otherwise None []) (v.no_else refl) end)))))) (λ b o. tt) (λ b o. refl) (λ b o. g3.4.ended _ _)

pub s_if_statement : (n k2 k3 : ℕ) → Is StatementRead n → As Expressed k2 → As Blocked k3 → Makes n (token (fixed_class f.If) ∷ phrase k2 ∷ phrase k3 ∷ []) (l.Statement label.If) (0 ∷ 1 ∷ 2 ∷ 2 ∷ 0 ∷ 0 ∷ [])
s_if_statement n k2 k3 out q2 q3 rebuild _ _ (good_next _ z1 (good_next _ z2 (good_next _ z3 good_end))) = out _ _ (if_statement n k2 k3 rebuild z1 (q2 _ _ z2) (q3 _ _ z3))

pub if_statement_else : (n k2 k3 k5 : ℕ) → Rebuild n (token (fixed_class f.If) ∷ phrase k2 ∷ phrase k3 ∷ phrase k5 ∷ []) (l.Statement label.If) (0 ∷ 1 ∷ 2 ∷ 2 ∷ 0 ∷ 2 ∷ []) → {u1 u2 u3 u4 : List SpannedTemplateToken} {x1 x2 x3 x4 : Phrase Part} → OneToken (fixed_class f.If) u1 x1 → Expressed k2 u2 x2 → Blocked k3 u3 x3 → Otherwise k5 u4 x4 → StatementRead n (u1 ++ (u2 ++ (u3 ++ (u4 ++ [])))) (make_of (l.Statement label.If) (0 ∷ 1 ∷ 2 ∷ 2 ∷ 0 ∷ 2 ∷ []) (x1 ∷ x2 ∷ x3 ∷ x4 ∷ []))
if_statement_else n k2 k3 k5 rebuild {u1 = u1} {u2 = u2} {u3 = u3} {u4 = u4} {x1 = x1} t1 g2 g3 g5 =
    if_of n rebuild rebuild [] g3.1 [] (mark f.Else ∷ g5.1) (g3.1 ++ ((mark f.Else ∷ g5.1) ++ [])) (ap (λ z. g3.1 ++ z) (append-nil (mark f.Else ∷ g5.1))) no_attributes g2.1 g3.2 no_else_ifs (else_tokens g5.2) (no_part (v.attributes [] []) (v.no_attributes refl) (a_mark (mark_item f.If u1 x1 t1) (a_part g2.2 (a_part g3.4 (no_part (v.else_ifs [] []) (v.no_else_ifs refl) (a_part g5.3 end)))))) (λ b o. tt) (λ b o. refl) (λ b o. g5.3.ended _ _)

pub s_if_statement_else : (n k2 k3 k5 : ℕ) → Is StatementRead n → As Expressed k2 → As Blocked k3 → As Otherwise k5 → Makes n (token (fixed_class f.If) ∷ phrase k2 ∷ phrase k3 ∷ phrase k5 ∷ []) (l.Statement label.If) (0 ∷ 1 ∷ 2 ∷ 2 ∷ 0 ∷ 2 ∷ [])
s_if_statement_else n k2 k3 k5 out q2 q3 q5 rebuild _ _ (good_next _ z1 (good_next _ z2 (good_next _ z3 (good_next _ z5 good_end)))) = out _ _ (if_statement_else n k2 k3 k5 rebuild z1 (q2 _ _ z2) (q3 _ _ z3) (q5 _ _ z5))

pub if_statement_else_if : (n k2 k3 k4 : ℕ) → Rebuild n (token (fixed_class f.If) ∷ phrase k2 ∷ phrase k3 ∷ phrase k4 ∷ []) (l.Statement label.If) (0 ∷ 1 ∷ 2 ∷ 2 ∷ 2 ∷ 0 ∷ []) → {u1 u2 u3 u4 : List SpannedTemplateToken} {x1 x2 x3 x4 : Phrase Part} → OneToken (fixed_class f.If) u1 x1 → Expressed k2 u2 x2 → Blocked k3 u3 x3 → ElseIfsRead k4 u4 x4 → StatementRead n (u1 ++ (u2 ++ (u3 ++ (u4 ++ [])))) (make_of (l.Statement label.If) (0 ∷ 1 ∷ 2 ∷ 2 ∷ 2 ∷ 0 ∷ []) (x1 ∷ x2 ∷ x3 ∷ x4 ∷ []))
if_statement_else_if n k2 k3 k4 rebuild {u1 = u1} {u2 = u2} {u3 = u3} {u4 = u4} {x1 = x1} t1 g2 g3 g4 =
    if_of n rebuild rebuild [] g3.1 g4.2 [] (g3.1 ++ (g4.2 ++ [])) refl no_attributes g2.1 g3.2 g4.3 nothing_else (no_part (v.attributes [] []) (v.no_attributes refl) (a_mark (mark_item f.If u1 x1 t1) (a_part g2.2 (a_part g3.4 (a_part g4.4 (no_part (v.otherwise None []) (v.no_else refl) end)))))) (λ b o. tt) (λ b o. refl) (λ b o. g4.4.ended _ _)

pub s_if_statement_else_if : (n k2 k3 k4 : ℕ) → Is StatementRead n → As Expressed k2 → As Blocked k3 → As ElseIfsRead k4 → Makes n (token (fixed_class f.If) ∷ phrase k2 ∷ phrase k3 ∷ phrase k4 ∷ []) (l.Statement label.If) (0 ∷ 1 ∷ 2 ∷ 2 ∷ 2 ∷ 0 ∷ [])
s_if_statement_else_if n k2 k3 k4 out q2 q3 q4 rebuild _ _ (good_next _ z1 (good_next _ z2 (good_next _ z3 (good_next _ z4 good_end)))) = out _ _ (if_statement_else_if n k2 k3 k4 rebuild z1 (q2 _ _ z2) (q3 _ _ z3) (q4 _ _ z4))

pub if_statement_else_if_else : (n k2 k3 k4 k5 : ℕ) → Rebuild n (token (fixed_class f.If) ∷ phrase k2 ∷ phrase k3 ∷ phrase k4 ∷ phrase k5 ∷ []) (l.Statement label.If) (0 ∷ 1 ∷ 2 ∷ 2 ∷ 2 ∷ 2 ∷ []) → {u1 u2 u3 u4 u5 : List SpannedTemplateToken} {x1 x2 x3 x4 x5 : Phrase Part} → OneToken (fixed_class f.If) u1 x1 → Expressed k2 u2 x2 → Blocked k3 u3 x3 → ElseIfsRead k4 u4 x4 → Otherwise k5 u5 x5 → StatementRead n (u1 ++ (u2 ++ (u3 ++ (u4 ++ (u5 ++ []))))) (make_of (l.Statement label.If) (0 ∷ 1 ∷ 2 ∷ 2 ∷ 2 ∷ 2 ∷ []) (x1 ∷ x2 ∷ x3 ∷ x4 ∷ x5 ∷ []))
if_statement_else_if_else n k2 k3 k4 k5 rebuild {u1 = u1} {u2 = u2} {u3 = u3} {u4 = u4} {u5 = u5} {x1 = x1} t1 g2 g3 g4 g5 =
    if_of n rebuild rebuild [] g3.1 g4.2 (mark f.Else ∷ g5.1) (g3.1 ++ (g4.2 ++ ((mark f.Else ∷ g5.1) ++ []))) (ap (λ z. g3.1 ++ (g4.2 ++ z)) (append-nil (mark f.Else ∷ g5.1))) no_attributes g2.1 g3.2 g4.3 (else_tokens g5.2) (no_part (v.attributes [] []) (v.no_attributes refl) (a_mark (mark_item f.If u1 x1 t1) (a_part g2.2 (a_part g3.4 (a_part g4.4 (a_part g5.3 end)))))) (λ b o. tt) (λ b o. refl) (λ b o. g5.3.ended _ _)

pub s_if_statement_else_if_else : (n k2 k3 k4 k5 : ℕ) → Is StatementRead n → As Expressed k2 → As Blocked k3 → As ElseIfsRead k4 → As Otherwise k5 → Makes n (token (fixed_class f.If) ∷ phrase k2 ∷ phrase k3 ∷ phrase k4 ∷ phrase k5 ∷ []) (l.Statement label.If) (0 ∷ 1 ∷ 2 ∷ 2 ∷ 2 ∷ 2 ∷ [])
s_if_statement_else_if_else n k2 k3 k4 k5 out q2 q3 q4 q5 rebuild _ _ (good_next _ z1 (good_next _ z2 (good_next _ z3 (good_next _ z4 (good_next _ z5 good_end))))) = out _ _ (if_statement_else_if_else n k2 k3 k4 k5 rebuild z1 (q2 _ _ z2) (q3 _ _ z3) (q4 _ _ z4) (q5 _ _ z5))

pub if_statement_attributed : (n k0 k2 k3 : ℕ) → Rebuild n (phrase k0 ∷ token (fixed_class f.If) ∷ phrase k2 ∷ phrase k3 ∷ []) (l.Statement label.If) (2 ∷ 1 ∷ 2 ∷ 2 ∷ 0 ∷ 0 ∷ []) → {u1 u2 u3 u4 : List SpannedTemplateToken} {x1 x2 x3 x4 : Phrase Part} → AttributesRowed k0 u1 x1 → OneToken (fixed_class f.If) u2 x2 → Expressed k2 u3 x3 → Blocked k3 u4 x4 → StatementRead n (u1 ++ (u2 ++ (u3 ++ (u4 ++ [])))) (make_of (l.Statement label.If) (2 ∷ 1 ∷ 2 ∷ 2 ∷ 0 ∷ 0 ∷ []) (x1 ∷ x2 ∷ x3 ∷ x4 ∷ []))
if_statement_attributed n k0 k2 k3 rebuild {u1 = u1} {u2 = u2} {u3 = u3} {u4 = u4} {x2 = x2} g0 t1 g2 g3 =
    if_of n rebuild rebuild g0.2 g3.1 [] [] (g3.1 ++ []) refl g0.3 g2.1 g3.2 no_else_ifs nothing_else (a_part g0.4 (a_mark (mark_item f.If u2 x2 t1) (a_part g2.2 (a_part g3.4 (no_part (v.else_ifs [] []) (v.no_else_ifs refl) (no_part (v.otherwise None []) (v.no_else refl) end)))))) (λ b o. tt) (λ b o. refl) (λ b o. g3.4.ended _ _)

pub s_if_statement_attributed : (n k0 k2 k3 : ℕ) → Is StatementRead n → As AttributesRowed k0 → As Expressed k2 → As Blocked k3 → Makes n (phrase k0 ∷ token (fixed_class f.If) ∷ phrase k2 ∷ phrase k3 ∷ []) (l.Statement label.If) (2 ∷ 1 ∷ 2 ∷ 2 ∷ 0 ∷ 0 ∷ [])
s_if_statement_attributed n k0 k2 k3 out q0 q2 q3 rebuild _ _ (good_next _ z0 (good_next _ z1 (good_next _ z2 (good_next _ z3 good_end)))) = out _ _ (if_statement_attributed n k0 k2 k3 rebuild (q0 _ _ z0) z1 (q2 _ _ z2) (q3 _ _ z3))

pub if_statement_attributed_else : (n k0 k2 k3 k5 : ℕ) → Rebuild n (phrase k0 ∷ token (fixed_class f.If) ∷ phrase k2 ∷ phrase k3 ∷ phrase k5 ∷ []) (l.Statement label.If) (2 ∷ 1 ∷ 2 ∷ 2 ∷ 0 ∷ 2 ∷ []) → {u1 u2 u3 u4 u5 : List SpannedTemplateToken} {x1 x2 x3 x4 x5 : Phrase Part} → AttributesRowed k0 u1 x1 → OneToken (fixed_class f.If) u2 x2 → Expressed k2 u3 x3 → Blocked k3 u4 x4 → Otherwise k5 u5 x5 → StatementRead n (u1 ++ (u2 ++ (u3 ++ (u4 ++ (u5 ++ []))))) (make_of (l.Statement label.If) (2 ∷ 1 ∷ 2 ∷ 2 ∷ 0 ∷ 2 ∷ []) (x1 ∷ x2 ∷ x3 ∷ x4 ∷ x5 ∷ []))
if_statement_attributed_else n k0 k2 k3 k5 rebuild {u1 = u1} {u2 = u2} {u3 = u3} {u4 = u4} {u5 = u5} {x2 = x2} g0 t1 g2 g3 g5 =
    if_of n rebuild rebuild g0.2 g3.1 [] (mark f.Else ∷ g5.1) (g3.1 ++ ((mark f.Else ∷ g5.1) ++ [])) (ap (λ z. g3.1 ++ z) (append-nil (mark f.Else ∷ g5.1))) g0.3 g2.1 g3.2 no_else_ifs (else_tokens g5.2) (a_part g0.4 (a_mark (mark_item f.If u2 x2 t1) (a_part g2.2 (a_part g3.4 (no_part (v.else_ifs [] []) (v.no_else_ifs refl) (a_part g5.3 end)))))) (λ b o. tt) (λ b o. refl) (λ b o. g5.3.ended _ _)

pub s_if_statement_attributed_else : (n k0 k2 k3 k5 : ℕ) → Is StatementRead n → As AttributesRowed k0 → As Expressed k2 → As Blocked k3 → As Otherwise k5 → Makes n (phrase k0 ∷ token (fixed_class f.If) ∷ phrase k2 ∷ phrase k3 ∷ phrase k5 ∷ []) (l.Statement label.If) (2 ∷ 1 ∷ 2 ∷ 2 ∷ 0 ∷ 2 ∷ [])
s_if_statement_attributed_else n k0 k2 k3 k5 out q0 q2 q3 q5 rebuild _ _ (good_next _ z0 (good_next _ z1 (good_next _ z2 (good_next _ z3 (good_next _ z5 good_end))))) = out _ _ (if_statement_attributed_else n k0 k2 k3 k5 rebuild (q0 _ _ z0) z1 (q2 _ _ z2) (q3 _ _ z3) (q5 _ _ z5))

pub if_statement_attributed_else_if : (n k0 k2 k3 k4 : ℕ) → Rebuild n (phrase k0 ∷ token (fixed_class f.If) ∷ phrase k2 ∷ phrase k3 ∷ phrase k4 ∷ []) (l.Statement label.If) (2 ∷ 1 ∷ 2 ∷ 2 ∷ 2 ∷ 0 ∷ []) → {u1 u2 u3 u4 u5 : List SpannedTemplateToken} {x1 x2 x3 x4 x5 : Phrase Part} → AttributesRowed k0 u1 x1 → OneToken (fixed_class f.If) u2 x2 → Expressed k2 u3 x3 → Blocked k3 u4 x4 → ElseIfsRead k4 u5 x5 → StatementRead n (u1 ++ (u2 ++ (u3 ++ (u4 ++ (u5 ++ []))))) (make_of (l.Statement label.If) (2 ∷ 1 ∷ 2 ∷ 2 ∷ 2 ∷ 0 ∷ []) (x1 ∷ x2 ∷ x3 ∷ x4 ∷ x5 ∷ []))
if_statement_attributed_else_if n k0 k2 k3 k4 rebuild {u1 = u1} {u2 = u2} {u3 = u3} {u4 = u4} {u5 = u5} {x2 = x2} g0 t1 g2 g3 g4 =
    if_of n rebuild rebuild g0.2 g3.1 g4.2 [] (g3.1 ++ (g4.2 ++ [])) refl g0.3 g2.1 g3.2 g4.3 nothing_else (a_part g0.4 (a_mark (mark_item f.If u2 x2 t1) (a_part g2.2 (a_part g3.4 (a_part g4.4 (no_part (v.otherwise None []) (v.no_else refl) end)))))) (λ b o. tt) (λ b o. refl) (λ b o. g4.4.ended _ _)

pub s_if_statement_attributed_else_if : (n k0 k2 k3 k4 : ℕ) → Is StatementRead n → As AttributesRowed k0 → As Expressed k2 → As Blocked k3 → As ElseIfsRead k4 → Makes n (phrase k0 ∷ token (fixed_class f.If) ∷ phrase k2 ∷ phrase k3 ∷ phrase k4 ∷ []) (l.Statement label.If) (2 ∷ 1 ∷ 2 ∷ 2 ∷ 2 ∷ 0 ∷ [])
s_if_statement_attributed_else_if n k0 k2 k3 k4 out q0 q2 q3 q4 rebuild _ _ (good_next _ z0 (good_next _ z1 (good_next _ z2 (good_next _ z3 (good_next _ z4 good_end))))) = out _ _ (if_statement_attributed_else_if n k0 k2 k3 k4 rebuild (q0 _ _ z0) z1 (q2 _ _ z2) (q3 _ _ z3) (q4 _ _ z4))

pub if_statement_attributed_else_if_else : (n k0 k2 k3 k4 k5 : ℕ) → Rebuild n (phrase k0 ∷ token (fixed_class f.If) ∷ phrase k2 ∷ phrase k3 ∷ phrase k4 ∷ phrase k5 ∷ []) (l.Statement label.If) (2 ∷ 1 ∷ 2 ∷ 2 ∷ 2 ∷ 2 ∷ []) → {u1 u2 u3 u4 u5 u6 : List SpannedTemplateToken} {x1 x2 x3 x4 x5 x6 : Phrase Part} → AttributesRowed k0 u1 x1 → OneToken (fixed_class f.If) u2 x2 → Expressed k2 u3 x3 → Blocked k3 u4 x4 → ElseIfsRead k4 u5 x5 → Otherwise k5 u6 x6 → StatementRead n (u1 ++ (u2 ++ (u3 ++ (u4 ++ (u5 ++ (u6 ++ [])))))) (make_of (l.Statement label.If) (2 ∷ 1 ∷ 2 ∷ 2 ∷ 2 ∷ 2 ∷ []) (x1 ∷ x2 ∷ x3 ∷ x4 ∷ x5 ∷ x6 ∷ []))
if_statement_attributed_else_if_else n k0 k2 k3 k4 k5 rebuild {u1 = u1} {u2 = u2} {u3 = u3} {u4 = u4} {u5 = u5} {u6 = u6} {x2 = x2} g0 t1 g2 g3 g4 g5 =
    if_of n rebuild rebuild g0.2 g3.1 g4.2 (mark f.Else ∷ g5.1) (g3.1 ++ (g4.2 ++ ((mark f.Else ∷ g5.1) ++ []))) (ap (λ z. g3.1 ++ (g4.2 ++ z)) (append-nil (mark f.Else ∷ g5.1))) g0.3 g2.1 g3.2 g4.3 (else_tokens g5.2) (a_part g0.4 (a_mark (mark_item f.If u2 x2 t1) (a_part g2.2 (a_part g3.4 (a_part g4.4 (a_part g5.3 end)))))) (λ b o. tt) (λ b o. refl) (λ b o. g5.3.ended _ _)

pub s_if_statement_attributed_else_if_else : (n k0 k2 k3 k4 k5 : ℕ) → Is StatementRead n → As AttributesRowed k0 → As Expressed k2 → As Blocked k3 → As ElseIfsRead k4 → As Otherwise k5 → Makes n (phrase k0 ∷ token (fixed_class f.If) ∷ phrase k2 ∷ phrase k3 ∷ phrase k4 ∷ phrase k5 ∷ []) (l.Statement label.If) (2 ∷ 1 ∷ 2 ∷ 2 ∷ 2 ∷ 2 ∷ [])
s_if_statement_attributed_else_if_else n k0 k2 k3 k4 k5 out q0 q2 q3 q4 q5 rebuild _ _ (good_next _ z0 (good_next _ z1 (good_next _ z2 (good_next _ z3 (good_next _ z4 (good_next _ z5 good_end)))))) = out _ _ (if_statement_attributed_else_if_else n k0 k2 k3 k4 k5 rebuild (q0 _ _ z0) z1 (q2 _ _ z2) (q3 _ _ z3) (q4 _ _ z4) (q5 _ _ z5))

-- ---- `switch`

pub switch_statement : (n k2 k5 : ℕ) → Rebuild n (token (fixed_class f.Switch) ∷ phrase k2 ∷ token (fixed_class f.BraceLeft) ∷ phrase k5 ∷ token (fixed_class f.BraceRight) ∷ []) (l.Statement label.Switch) (0 ∷ 1 ∷ 2 ∷ 0 ∷ 1 ∷ 2 ∷ 1 ∷ []) → {u1 u2 u3 u4 u5 : List SpannedTemplateToken} {x1 x2 x3 x4 x5 : Phrase Part} → OneToken (fixed_class f.Switch) u1 x1 → Expressed k2 u2 x2 → OneToken (fixed_class f.BraceLeft) u3 x3 → ClausesRead k5 u4 x4 → OneToken (fixed_class f.BraceRight) u5 x5 → StatementRead n (u1 ++ (u2 ++ (u3 ++ (u4 ++ (u5 ++ []))))) (make_of (l.Statement label.Switch) (0 ∷ 1 ∷ 2 ∷ 0 ∷ 1 ∷ 2 ∷ 1 ∷ []) (x1 ∷ x2 ∷ x3 ∷ x4 ∷ x5 ∷ []))
switch_statement n k2 k5 rebuild {u1 = u1} {u2 = u2} {u3 = u3} {u4 = u4} {u5 = u5} {x1 = x1} {x3 = x3} {x5 = x5} t1 g2 t4 g5 t6 =
    switch_of n rebuild rebuild [] [] g5.1 no_attributes g2.1 no_attributes g5.2 (no_part (v.attributes [] []) (v.no_attributes refl) (a_mark (mark_item f.Switch u1 x1 t1) (a_part g2.2 (no_part (v.attributes [] []) (v.no_attributes refl) (a_mark (mark_item f.BraceLeft u3 x3 t4) (some_lines g5.3 (a_mark (mark_item f.BraceRight u5 x5 t6) end))))))) (λ b o. (refl, tt)) (λ b o. refl) (λ b o. refl)

pub s_switch_statement : (n k2 k5 : ℕ) → Is StatementRead n → As Expressed k2 → As ClausesRead k5 → Makes n (token (fixed_class f.Switch) ∷ phrase k2 ∷ token (fixed_class f.BraceLeft) ∷ phrase k5 ∷ token (fixed_class f.BraceRight) ∷ []) (l.Statement label.Switch) (0 ∷ 1 ∷ 2 ∷ 0 ∷ 1 ∷ 2 ∷ 1 ∷ [])
s_switch_statement n k2 k5 out q2 q5 rebuild _ _ (good_next _ z1 (good_next _ z2 (good_next _ z4 (good_next _ z5 (good_next _ z6 good_end))))) = out _ _ (switch_statement n k2 k5 rebuild z1 (q2 _ _ z2) z4 (q5 _ _ z5) z6)

pub switch_statement_inner : (n k2 k3 k5 : ℕ) → Rebuild n (token (fixed_class f.Switch) ∷ phrase k2 ∷ phrase k3 ∷ token (fixed_class f.BraceLeft) ∷ phrase k5 ∷ token (fixed_class f.BraceRight) ∷ []) (l.Statement label.Switch) (0 ∷ 1 ∷ 2 ∷ 2 ∷ 1 ∷ 2 ∷ 1 ∷ []) → {u1 u2 u3 u4 u5 u6 : List SpannedTemplateToken} {x1 x2 x3 x4 x5 x6 : Phrase Part} → OneToken (fixed_class f.Switch) u1 x1 → Expressed k2 u2 x2 → AttributesRowed k3 u3 x3 → OneToken (fixed_class f.BraceLeft) u4 x4 → ClausesRead k5 u5 x5 → OneToken (fixed_class f.BraceRight) u6 x6 → StatementRead n (u1 ++ (u2 ++ (u3 ++ (u4 ++ (u5 ++ (u6 ++ [])))))) (make_of (l.Statement label.Switch) (0 ∷ 1 ∷ 2 ∷ 2 ∷ 1 ∷ 2 ∷ 1 ∷ []) (x1 ∷ x2 ∷ x3 ∷ x4 ∷ x5 ∷ x6 ∷ []))
switch_statement_inner n k2 k3 k5 rebuild {u1 = u1} {u2 = u2} {u3 = u3} {u4 = u4} {u5 = u5} {u6 = u6} {x1 = x1} {x4 = x4} {x6 = x6} t1 g2 g3 t4 g5 t6 =
    switch_of n rebuild rebuild [] g3.2 g5.1 no_attributes g2.1 g3.3 g5.2 (no_part (v.attributes [] []) (v.no_attributes refl) (a_mark (mark_item f.Switch u1 x1 t1) (a_part g2.2 (a_part g3.4 (a_mark (mark_item f.BraceLeft u4 x4 t4) (some_lines g5.3 (a_mark (mark_item f.BraceRight u6 x6 t6) end))))))) (λ b o. (refl, tt)) (λ b o. refl) (λ b o. refl)

pub s_switch_statement_inner : (n k2 k3 k5 : ℕ) → Is StatementRead n → As Expressed k2 → As AttributesRowed k3 → As ClausesRead k5 → Makes n (token (fixed_class f.Switch) ∷ phrase k2 ∷ phrase k3 ∷ token (fixed_class f.BraceLeft) ∷ phrase k5 ∷ token (fixed_class f.BraceRight) ∷ []) (l.Statement label.Switch) (0 ∷ 1 ∷ 2 ∷ 2 ∷ 1 ∷ 2 ∷ 1 ∷ [])
s_switch_statement_inner n k2 k3 k5 out q2 q3 q5 rebuild _ _ (good_next _ z1 (good_next _ z2 (good_next _ z3 (good_next _ z4 (good_next _ z5 (good_next _ z6 good_end)))))) = out _ _ (switch_statement_inner n k2 k3 k5 rebuild z1 (q2 _ _ z2) (q3 _ _ z3) z4 (q5 _ _ z5) z6)

pub switch_statement_attributed : (n k0 k2 k5 : ℕ) → Rebuild n (phrase k0 ∷ token (fixed_class f.Switch) ∷ phrase k2 ∷ token (fixed_class f.BraceLeft) ∷ phrase k5 ∷ token (fixed_class f.BraceRight) ∷ []) (l.Statement label.Switch) (2 ∷ 1 ∷ 2 ∷ 0 ∷ 1 ∷ 2 ∷ 1 ∷ []) → {u1 u2 u3 u4 u5 u6 : List SpannedTemplateToken} {x1 x2 x3 x4 x5 x6 : Phrase Part} → AttributesRowed k0 u1 x1 → OneToken (fixed_class f.Switch) u2 x2 → Expressed k2 u3 x3 → OneToken (fixed_class f.BraceLeft) u4 x4 → ClausesRead k5 u5 x5 → OneToken (fixed_class f.BraceRight) u6 x6 → StatementRead n (u1 ++ (u2 ++ (u3 ++ (u4 ++ (u5 ++ (u6 ++ [])))))) (make_of (l.Statement label.Switch) (2 ∷ 1 ∷ 2 ∷ 0 ∷ 1 ∷ 2 ∷ 1 ∷ []) (x1 ∷ x2 ∷ x3 ∷ x4 ∷ x5 ∷ x6 ∷ []))
switch_statement_attributed n k0 k2 k5 rebuild {u1 = u1} {u2 = u2} {u3 = u3} {u4 = u4} {u5 = u5} {u6 = u6} {x2 = x2} {x4 = x4} {x6 = x6} g0 t1 g2 t4 g5 t6 =
    switch_of n rebuild rebuild g0.2 [] g5.1 g0.3 g2.1 no_attributes g5.2 (a_part g0.4 (a_mark (mark_item f.Switch u2 x2 t1) (a_part g2.2 (no_part (v.attributes [] []) (v.no_attributes refl) (a_mark (mark_item f.BraceLeft u4 x4 t4) (some_lines g5.3 (a_mark (mark_item f.BraceRight u6 x6 t6) end))))))) (λ b o. (refl, tt)) (λ b o. refl) (λ b o. refl)

pub s_switch_statement_attributed : (n k0 k2 k5 : ℕ) → Is StatementRead n → As AttributesRowed k0 → As Expressed k2 → As ClausesRead k5 → Makes n (phrase k0 ∷ token (fixed_class f.Switch) ∷ phrase k2 ∷ token (fixed_class f.BraceLeft) ∷ phrase k5 ∷ token (fixed_class f.BraceRight) ∷ []) (l.Statement label.Switch) (2 ∷ 1 ∷ 2 ∷ 0 ∷ 1 ∷ 2 ∷ 1 ∷ [])
s_switch_statement_attributed n k0 k2 k5 out q0 q2 q5 rebuild _ _ (good_next _ z0 (good_next _ z1 (good_next _ z2 (good_next _ z4 (good_next _ z5 (good_next _ z6 good_end)))))) = out _ _ (switch_statement_attributed n k0 k2 k5 rebuild (q0 _ _ z0) z1 (q2 _ _ z2) z4 (q5 _ _ z5) z6)

pub switch_statement_attributed_inner : (n k0 k2 k3 k5 : ℕ) → Rebuild n (phrase k0 ∷ token (fixed_class f.Switch) ∷ phrase k2 ∷ phrase k3 ∷ token (fixed_class f.BraceLeft) ∷ phrase k5 ∷ token (fixed_class f.BraceRight) ∷ []) (l.Statement label.Switch) (2 ∷ 1 ∷ 2 ∷ 2 ∷ 1 ∷ 2 ∷ 1 ∷ []) → {u1 u2 u3 u4 u5 u6 u7 : List SpannedTemplateToken} {x1 x2 x3 x4 x5 x6 x7 : Phrase Part} → AttributesRowed k0 u1 x1 → OneToken (fixed_class f.Switch) u2 x2 → Expressed k2 u3 x3 → AttributesRowed k3 u4 x4 → OneToken (fixed_class f.BraceLeft) u5 x5 → ClausesRead k5 u6 x6 → OneToken (fixed_class f.BraceRight) u7 x7 → StatementRead n (u1 ++ (u2 ++ (u3 ++ (u4 ++ (u5 ++ (u6 ++ (u7 ++ []))))))) (make_of (l.Statement label.Switch) (2 ∷ 1 ∷ 2 ∷ 2 ∷ 1 ∷ 2 ∷ 1 ∷ []) (x1 ∷ x2 ∷ x3 ∷ x4 ∷ x5 ∷ x6 ∷ x7 ∷ []))
switch_statement_attributed_inner n k0 k2 k3 k5 rebuild {u1 = u1} {u2 = u2} {u3 = u3} {u4 = u4} {u5 = u5} {u6 = u6} {u7 = u7} {x2 = x2} {x5 = x5} {x7 = x7} g0 t1 g2 g3 t4 g5 t6 =
    switch_of n rebuild rebuild g0.2 g3.2 g5.1 g0.3 g2.1 g3.3 g5.2 (a_part g0.4 (a_mark (mark_item f.Switch u2 x2 t1) (a_part g2.2 (a_part g3.4 (a_mark (mark_item f.BraceLeft u5 x5 t4) (some_lines g5.3 (a_mark (mark_item f.BraceRight u7 x7 t6) end))))))) (λ b o. (refl, tt)) (λ b o. refl) (λ b o. refl)

pub s_switch_statement_attributed_inner : (n k0 k2 k3 k5 : ℕ) → Is StatementRead n → As AttributesRowed k0 → As Expressed k2 → As AttributesRowed k3 → As ClausesRead k5 → Makes n (phrase k0 ∷ token (fixed_class f.Switch) ∷ phrase k2 ∷ phrase k3 ∷ token (fixed_class f.BraceLeft) ∷ phrase k5 ∷ token (fixed_class f.BraceRight) ∷ []) (l.Statement label.Switch) (2 ∷ 1 ∷ 2 ∷ 2 ∷ 1 ∷ 2 ∷ 1 ∷ [])
s_switch_statement_attributed_inner n k0 k2 k3 k5 out q0 q2 q3 q5 rebuild _ _ (good_next _ z0 (good_next _ z1 (good_next _ z2 (good_next _ z3 (good_next _ z4 (good_next _ z5 (good_next _ z6 good_end))))))) = out _ _ (switch_statement_attributed_inner n k0 k2 k3 k5 rebuild (q0 _ _ z0) z1 (q2 _ _ z2) (q3 _ _ z3) z4 (q5 _ _ z5) z6)

-- ---- `loop`

pub loop_statement : (n : ℕ) → Rebuild n (token (fixed_class f.Loop) ∷ token (fixed_class f.BraceLeft) ∷ token (fixed_class f.BraceRight) ∷ []) (l.Statement label.Loop) (0 ∷ 1 ∷ 0 ∷ 1 ∷ 0 ∷ 0 ∷ 1 ∷ []) → {u1 u2 u3 : List SpannedTemplateToken} {x1 x2 x3 : Phrase Part} → OneToken (fixed_class f.Loop) u1 x1 → OneToken (fixed_class f.BraceLeft) u2 x2 → OneToken (fixed_class f.BraceRight) u3 x3 → StatementRead n (u1 ++ (u2 ++ (u3 ++ []))) (make_of (l.Statement label.Loop) (0 ∷ 1 ∷ 0 ∷ 1 ∷ 0 ∷ 0 ∷ 1 ∷ []) (x1 ∷ x2 ∷ x3 ∷ []))
loop_statement n rebuild {u1 = u1} {u2 = u2} {u3 = u3} {x1 = x1} {x2 = x2} {x3 = x3} t1 t3 t6 =
    loop_of n rebuild rebuild [] [] [] [] no_attributes no_attributes no_statements no_end (no_part (v.attributes [] []) (v.no_attributes refl) (a_mark (mark_item f.Loop u1 x1 t1) (no_part (v.attributes [] []) (v.no_attributes refl) (a_mark (mark_item f.BraceLeft u2 x2 t3) (no_part (v.statements nil []) (v.no_statements refl) (no_part (v.ending no_continuing []) (v.no_ending refl) (a_mark (mark_item f.BraceRight u3 x3 t6) end))))))) (λ b o. tt) (λ b o. refl) (λ b o. refl)

pub s_loop_statement : (n : ℕ) → Is StatementRead n → Makes n (token (fixed_class f.Loop) ∷ token (fixed_class f.BraceLeft) ∷ token (fixed_class f.BraceRight) ∷ []) (l.Statement label.Loop) (0 ∷ 1 ∷ 0 ∷ 1 ∷ 0 ∷ 0 ∷ 1 ∷ [])
s_loop_statement n out rebuild _ _ (good_next _ z1 (good_next _ z3 (good_next _ z6 good_end))) = out _ _ (loop_statement n rebuild z1 z3 z6)

pub loop_statement_continuing : (n k5 : ℕ) → Rebuild n (token (fixed_class f.Loop) ∷ token (fixed_class f.BraceLeft) ∷ phrase k5 ∷ token (fixed_class f.BraceRight) ∷ []) (l.Statement label.Loop) (0 ∷ 1 ∷ 0 ∷ 1 ∷ 0 ∷ 2 ∷ 1 ∷ []) → {u1 u2 u3 u4 : List SpannedTemplateToken} {x1 x2 x3 x4 : Phrase Part} → OneToken (fixed_class f.Loop) u1 x1 → OneToken (fixed_class f.BraceLeft) u2 x2 → Continued k5 u3 x3 → OneToken (fixed_class f.BraceRight) u4 x4 → StatementRead n (u1 ++ (u2 ++ (u3 ++ (u4 ++ [])))) (make_of (l.Statement label.Loop) (0 ∷ 1 ∷ 0 ∷ 1 ∷ 0 ∷ 2 ∷ 1 ∷ []) (x1 ∷ x2 ∷ x3 ∷ x4 ∷ []))
loop_statement_continuing n k5 rebuild {u1 = u1} {u2 = u2} {u3 = u3} {u4 = u4} {x1 = x1} {x2 = x2} {x4 = x4} t1 t3 g5 t6 =
    loop_of n rebuild rebuild [] [] [] g5.1 no_attributes no_attributes no_statements g5.2 (no_part (v.attributes [] []) (v.no_attributes refl) (a_mark (mark_item f.Loop u1 x1 t1) (no_part (v.attributes [] []) (v.no_attributes refl) (a_mark (mark_item f.BraceLeft u2 x2 t3) (no_part (v.statements nil []) (v.no_statements refl) (a_part g5.3 (a_mark (mark_item f.BraceRight u4 x4 t6) end))))))) (λ b o. tt) (λ b o. refl) (λ b o. refl)

pub s_loop_statement_continuing : (n k5 : ℕ) → Is StatementRead n → As Continued k5 → Makes n (token (fixed_class f.Loop) ∷ token (fixed_class f.BraceLeft) ∷ phrase k5 ∷ token (fixed_class f.BraceRight) ∷ []) (l.Statement label.Loop) (0 ∷ 1 ∷ 0 ∷ 1 ∷ 0 ∷ 2 ∷ 1 ∷ [])
s_loop_statement_continuing n k5 out q5 rebuild _ _ (good_next _ z1 (good_next _ z3 (good_next _ z5 (good_next _ z6 good_end)))) = out _ _ (loop_statement_continuing n k5 rebuild z1 z3 (q5 _ _ z5) z6)

pub loop_statement_filled : (n k4 : ℕ) → Rebuild n (token (fixed_class f.Loop) ∷ token (fixed_class f.BraceLeft) ∷ token (fixed_class f.BraceRight) ∷ []) (l.Statement label.Loop) (0 ∷ 1 ∷ 0 ∷ 1 ∷ 0 ∷ 0 ∷ 1 ∷ []) → Rebuild n (token (fixed_class f.Loop) ∷ token (fixed_class f.BraceLeft) ∷ phrase k4 ∷ token (fixed_class f.BraceRight) ∷ []) (l.Statement label.Loop) (0 ∷ 1 ∷ 0 ∷ 1 ∷ 2 ∷ 0 ∷ 1 ∷ []) → {u1 u2 u3 u4 : List SpannedTemplateToken} {x1 x2 x3 x4 : Phrase Part} → OneToken (fixed_class f.Loop) u1 x1 → OneToken (fixed_class f.BraceLeft) u2 x2 → StatementsRead k4 u3 x3 → OneToken (fixed_class f.BraceRight) u4 x4 → StatementRead n (u1 ++ (u2 ++ (u3 ++ (u4 ++ [])))) (make_of (l.Statement label.Loop) (0 ∷ 1 ∷ 0 ∷ 1 ∷ 2 ∷ 0 ∷ 1 ∷ []) (x1 ∷ x2 ∷ x3 ∷ x4 ∷ []))
loop_statement_filled n k4 bare rebuild {u1 = u1} {u2 = u2} {u3 = u3} {u4 = u4} {x1 = x1} {x2 = x2} {x4 = x4} t1 t3 (some_stated {ts = vs} h4 r4) t6 =
    loop_of n rebuild rebuild [] [] vs [] no_attributes no_attributes h4 no_end (no_part (v.attributes [] []) (v.no_attributes refl) (a_mark (mark_item f.Loop u1 x1 t1) (no_part (v.attributes [] []) (v.no_attributes refl) (a_mark (mark_item f.BraceLeft u2 x2 t3) (some_lines r4 (no_part (v.ending no_continuing []) (v.no_ending refl) (a_mark (mark_item f.BraceRight u4 x4 t6) end))))))) (λ b o. (refl, tt)) (λ b o. refl) (λ b o. refl)
loop_statement_filled n k4 bare rebuild {u1 = u1} {u2 = u2} {u3 = u3} {u4 = u4} {x1 = x1} {x2 = x2} {x4 = x4} t1 t3 (all_void ys4 e4 s4 r4) t6 =
    loop_of n rebuild bare [] [] [] [] no_attributes no_attributes no_statements no_end (no_part (v.attributes [] []) (v.no_attributes refl) (a_mark (mark_item f.Loop u1 x1 t1) (no_part (v.attributes [] []) (v.no_attributes refl) (a_mark (mark_item f.BraceLeft u2 x2 t3) (a_vanished {n = k4} r4 (no_part (v.ending no_continuing []) (v.no_ending refl) (a_mark (mark_item f.BraceRight u4 x4 t6) end))))))) (λ b o. (refl, tt)) (λ b o. refl) (λ b o. refl)

pub s_loop_statement_filled : (n k4 : ℕ) → Is StatementRead n → As StatementsRead k4 → Rebuild n (token (fixed_class f.Loop) ∷ token (fixed_class f.BraceLeft) ∷ token (fixed_class f.BraceRight) ∷ []) (l.Statement label.Loop) (0 ∷ 1 ∷ 0 ∷ 1 ∷ 0 ∷ 0 ∷ 1 ∷ []) → Makes n (token (fixed_class f.Loop) ∷ token (fixed_class f.BraceLeft) ∷ phrase k4 ∷ token (fixed_class f.BraceRight) ∷ []) (l.Statement label.Loop) (0 ∷ 1 ∷ 0 ∷ 1 ∷ 2 ∷ 0 ∷ 1 ∷ [])
s_loop_statement_filled n k4 out q4 bare rebuild _ _ (good_next _ z1 (good_next _ z3 (good_next _ z4 (good_next _ z6 good_end)))) = out _ _ (loop_statement_filled n k4 bare rebuild z1 z3 (q4 _ _ z4) z6)

pub loop_statement_filled_continuing : (n k4 k5 : ℕ) → Rebuild n (token (fixed_class f.Loop) ∷ token (fixed_class f.BraceLeft) ∷ phrase k5 ∷ token (fixed_class f.BraceRight) ∷ []) (l.Statement label.Loop) (0 ∷ 1 ∷ 0 ∷ 1 ∷ 0 ∷ 2 ∷ 1 ∷ []) → Rebuild n (token (fixed_class f.Loop) ∷ token (fixed_class f.BraceLeft) ∷ phrase k4 ∷ phrase k5 ∷ token (fixed_class f.BraceRight) ∷ []) (l.Statement label.Loop) (0 ∷ 1 ∷ 0 ∷ 1 ∷ 2 ∷ 2 ∷ 1 ∷ []) → {u1 u2 u3 u4 u5 : List SpannedTemplateToken} {x1 x2 x3 x4 x5 : Phrase Part} → OneToken (fixed_class f.Loop) u1 x1 → OneToken (fixed_class f.BraceLeft) u2 x2 → StatementsRead k4 u3 x3 → Continued k5 u4 x4 → OneToken (fixed_class f.BraceRight) u5 x5 → StatementRead n (u1 ++ (u2 ++ (u3 ++ (u4 ++ (u5 ++ []))))) (make_of (l.Statement label.Loop) (0 ∷ 1 ∷ 0 ∷ 1 ∷ 2 ∷ 2 ∷ 1 ∷ []) (x1 ∷ x2 ∷ x3 ∷ x4 ∷ x5 ∷ []))
loop_statement_filled_continuing n k4 k5 bare rebuild {u1 = u1} {u2 = u2} {u3 = u3} {u4 = u4} {u5 = u5} {x1 = x1} {x2 = x2} {x5 = x5} t1 t3 (some_stated {ts = vs} h4 r4) g5 t6 =
    loop_of n rebuild rebuild [] [] vs g5.1 no_attributes no_attributes h4 g5.2 (no_part (v.attributes [] []) (v.no_attributes refl) (a_mark (mark_item f.Loop u1 x1 t1) (no_part (v.attributes [] []) (v.no_attributes refl) (a_mark (mark_item f.BraceLeft u2 x2 t3) (some_lines r4 (a_part g5.3 (a_mark (mark_item f.BraceRight u5 x5 t6) end))))))) (λ b o. (refl, tt)) (λ b o. refl) (λ b o. refl)
loop_statement_filled_continuing n k4 k5 bare rebuild {u1 = u1} {u2 = u2} {u3 = u3} {u4 = u4} {u5 = u5} {x1 = x1} {x2 = x2} {x5 = x5} t1 t3 (all_void ys4 e4 s4 r4) g5 t6 =
    loop_of n rebuild bare [] [] [] g5.1 no_attributes no_attributes no_statements g5.2 (no_part (v.attributes [] []) (v.no_attributes refl) (a_mark (mark_item f.Loop u1 x1 t1) (no_part (v.attributes [] []) (v.no_attributes refl) (a_mark (mark_item f.BraceLeft u2 x2 t3) (a_vanished {n = k4} r4 (a_part g5.3 (a_mark (mark_item f.BraceRight u5 x5 t6) end))))))) (λ b o. (refl, tt)) (λ b o. refl) (λ b o. refl)

pub s_loop_statement_filled_continuing : (n k4 k5 : ℕ) → Is StatementRead n → As StatementsRead k4 → As Continued k5 → Rebuild n (token (fixed_class f.Loop) ∷ token (fixed_class f.BraceLeft) ∷ phrase k5 ∷ token (fixed_class f.BraceRight) ∷ []) (l.Statement label.Loop) (0 ∷ 1 ∷ 0 ∷ 1 ∷ 0 ∷ 2 ∷ 1 ∷ []) → Makes n (token (fixed_class f.Loop) ∷ token (fixed_class f.BraceLeft) ∷ phrase k4 ∷ phrase k5 ∷ token (fixed_class f.BraceRight) ∷ []) (l.Statement label.Loop) (0 ∷ 1 ∷ 0 ∷ 1 ∷ 2 ∷ 2 ∷ 1 ∷ [])
s_loop_statement_filled_continuing n k4 k5 out q4 q5 bare rebuild _ _ (good_next _ z1 (good_next _ z3 (good_next _ z4 (good_next _ z5 (good_next _ z6 good_end))))) = out _ _ (loop_statement_filled_continuing n k4 k5 bare rebuild z1 z3 (q4 _ _ z4) (q5 _ _ z5) z6)

pub loop_statement_inner : (n k2 : ℕ) → Rebuild n (token (fixed_class f.Loop) ∷ phrase k2 ∷ token (fixed_class f.BraceLeft) ∷ token (fixed_class f.BraceRight) ∷ []) (l.Statement label.Loop) (0 ∷ 1 ∷ 2 ∷ 1 ∷ 0 ∷ 0 ∷ 1 ∷ []) → {u1 u2 u3 u4 : List SpannedTemplateToken} {x1 x2 x3 x4 : Phrase Part} → OneToken (fixed_class f.Loop) u1 x1 → AttributesRowed k2 u2 x2 → OneToken (fixed_class f.BraceLeft) u3 x3 → OneToken (fixed_class f.BraceRight) u4 x4 → StatementRead n (u1 ++ (u2 ++ (u3 ++ (u4 ++ [])))) (make_of (l.Statement label.Loop) (0 ∷ 1 ∷ 2 ∷ 1 ∷ 0 ∷ 0 ∷ 1 ∷ []) (x1 ∷ x2 ∷ x3 ∷ x4 ∷ []))
loop_statement_inner n k2 rebuild {u1 = u1} {u2 = u2} {u3 = u3} {u4 = u4} {x1 = x1} {x3 = x3} {x4 = x4} t1 g2 t3 t6 =
    loop_of n rebuild rebuild [] g2.2 [] [] no_attributes g2.3 no_statements no_end (no_part (v.attributes [] []) (v.no_attributes refl) (a_mark (mark_item f.Loop u1 x1 t1) (a_part g2.4 (a_mark (mark_item f.BraceLeft u3 x3 t3) (no_part (v.statements nil []) (v.no_statements refl) (no_part (v.ending no_continuing []) (v.no_ending refl) (a_mark (mark_item f.BraceRight u4 x4 t6) end))))))) (λ b o. tt) (λ b o. refl) (λ b o. refl)

pub s_loop_statement_inner : (n k2 : ℕ) → Is StatementRead n → As AttributesRowed k2 → Makes n (token (fixed_class f.Loop) ∷ phrase k2 ∷ token (fixed_class f.BraceLeft) ∷ token (fixed_class f.BraceRight) ∷ []) (l.Statement label.Loop) (0 ∷ 1 ∷ 2 ∷ 1 ∷ 0 ∷ 0 ∷ 1 ∷ [])
s_loop_statement_inner n k2 out q2 rebuild _ _ (good_next _ z1 (good_next _ z2 (good_next _ z3 (good_next _ z6 good_end)))) = out _ _ (loop_statement_inner n k2 rebuild z1 (q2 _ _ z2) z3 z6)

pub loop_statement_inner_continuing : (n k2 k5 : ℕ) → Rebuild n (token (fixed_class f.Loop) ∷ phrase k2 ∷ token (fixed_class f.BraceLeft) ∷ phrase k5 ∷ token (fixed_class f.BraceRight) ∷ []) (l.Statement label.Loop) (0 ∷ 1 ∷ 2 ∷ 1 ∷ 0 ∷ 2 ∷ 1 ∷ []) → {u1 u2 u3 u4 u5 : List SpannedTemplateToken} {x1 x2 x3 x4 x5 : Phrase Part} → OneToken (fixed_class f.Loop) u1 x1 → AttributesRowed k2 u2 x2 → OneToken (fixed_class f.BraceLeft) u3 x3 → Continued k5 u4 x4 → OneToken (fixed_class f.BraceRight) u5 x5 → StatementRead n (u1 ++ (u2 ++ (u3 ++ (u4 ++ (u5 ++ []))))) (make_of (l.Statement label.Loop) (0 ∷ 1 ∷ 2 ∷ 1 ∷ 0 ∷ 2 ∷ 1 ∷ []) (x1 ∷ x2 ∷ x3 ∷ x4 ∷ x5 ∷ []))
loop_statement_inner_continuing n k2 k5 rebuild {u1 = u1} {u2 = u2} {u3 = u3} {u4 = u4} {u5 = u5} {x1 = x1} {x3 = x3} {x5 = x5} t1 g2 t3 g5 t6 =
    loop_of n rebuild rebuild [] g2.2 [] g5.1 no_attributes g2.3 no_statements g5.2 (no_part (v.attributes [] []) (v.no_attributes refl) (a_mark (mark_item f.Loop u1 x1 t1) (a_part g2.4 (a_mark (mark_item f.BraceLeft u3 x3 t3) (no_part (v.statements nil []) (v.no_statements refl) (a_part g5.3 (a_mark (mark_item f.BraceRight u5 x5 t6) end))))))) (λ b o. tt) (λ b o. refl) (λ b o. refl)

pub s_loop_statement_inner_continuing : (n k2 k5 : ℕ) → Is StatementRead n → As AttributesRowed k2 → As Continued k5 → Makes n (token (fixed_class f.Loop) ∷ phrase k2 ∷ token (fixed_class f.BraceLeft) ∷ phrase k5 ∷ token (fixed_class f.BraceRight) ∷ []) (l.Statement label.Loop) (0 ∷ 1 ∷ 2 ∷ 1 ∷ 0 ∷ 2 ∷ 1 ∷ [])
s_loop_statement_inner_continuing n k2 k5 out q2 q5 rebuild _ _ (good_next _ z1 (good_next _ z2 (good_next _ z3 (good_next _ z5 (good_next _ z6 good_end))))) = out _ _ (loop_statement_inner_continuing n k2 k5 rebuild z1 (q2 _ _ z2) z3 (q5 _ _ z5) z6)

pub loop_statement_inner_filled : (n k2 k4 : ℕ) → Rebuild n (token (fixed_class f.Loop) ∷ phrase k2 ∷ token (fixed_class f.BraceLeft) ∷ token (fixed_class f.BraceRight) ∷ []) (l.Statement label.Loop) (0 ∷ 1 ∷ 2 ∷ 1 ∷ 0 ∷ 0 ∷ 1 ∷ []) → Rebuild n (token (fixed_class f.Loop) ∷ phrase k2 ∷ token (fixed_class f.BraceLeft) ∷ phrase k4 ∷ token (fixed_class f.BraceRight) ∷ []) (l.Statement label.Loop) (0 ∷ 1 ∷ 2 ∷ 1 ∷ 2 ∷ 0 ∷ 1 ∷ []) → {u1 u2 u3 u4 u5 : List SpannedTemplateToken} {x1 x2 x3 x4 x5 : Phrase Part} → OneToken (fixed_class f.Loop) u1 x1 → AttributesRowed k2 u2 x2 → OneToken (fixed_class f.BraceLeft) u3 x3 → StatementsRead k4 u4 x4 → OneToken (fixed_class f.BraceRight) u5 x5 → StatementRead n (u1 ++ (u2 ++ (u3 ++ (u4 ++ (u5 ++ []))))) (make_of (l.Statement label.Loop) (0 ∷ 1 ∷ 2 ∷ 1 ∷ 2 ∷ 0 ∷ 1 ∷ []) (x1 ∷ x2 ∷ x3 ∷ x4 ∷ x5 ∷ []))
loop_statement_inner_filled n k2 k4 bare rebuild {u1 = u1} {u2 = u2} {u3 = u3} {u4 = u4} {u5 = u5} {x1 = x1} {x3 = x3} {x5 = x5} t1 g2 t3 (some_stated {ts = vs} h4 r4) t6 =
    loop_of n rebuild rebuild [] g2.2 vs [] no_attributes g2.3 h4 no_end (no_part (v.attributes [] []) (v.no_attributes refl) (a_mark (mark_item f.Loop u1 x1 t1) (a_part g2.4 (a_mark (mark_item f.BraceLeft u3 x3 t3) (some_lines r4 (no_part (v.ending no_continuing []) (v.no_ending refl) (a_mark (mark_item f.BraceRight u5 x5 t6) end))))))) (λ b o. (refl, tt)) (λ b o. refl) (λ b o. refl)
loop_statement_inner_filled n k2 k4 bare rebuild {u1 = u1} {u2 = u2} {u3 = u3} {u4 = u4} {u5 = u5} {x1 = x1} {x3 = x3} {x5 = x5} t1 g2 t3 (all_void ys4 e4 s4 r4) t6 =
    loop_of n rebuild bare [] g2.2 [] [] no_attributes g2.3 no_statements no_end (no_part (v.attributes [] []) (v.no_attributes refl) (a_mark (mark_item f.Loop u1 x1 t1) (a_part g2.4 (a_mark (mark_item f.BraceLeft u3 x3 t3) (a_vanished {n = k4} r4 (no_part (v.ending no_continuing []) (v.no_ending refl) (a_mark (mark_item f.BraceRight u5 x5 t6) end))))))) (λ b o. (refl, tt)) (λ b o. refl) (λ b o. refl)

pub s_loop_statement_inner_filled : (n k2 k4 : ℕ) → Is StatementRead n → As AttributesRowed k2 → As StatementsRead k4 → Rebuild n (token (fixed_class f.Loop) ∷ phrase k2 ∷ token (fixed_class f.BraceLeft) ∷ token (fixed_class f.BraceRight) ∷ []) (l.Statement label.Loop) (0 ∷ 1 ∷ 2 ∷ 1 ∷ 0 ∷ 0 ∷ 1 ∷ []) → Makes n (token (fixed_class f.Loop) ∷ phrase k2 ∷ token (fixed_class f.BraceLeft) ∷ phrase k4 ∷ token (fixed_class f.BraceRight) ∷ []) (l.Statement label.Loop) (0 ∷ 1 ∷ 2 ∷ 1 ∷ 2 ∷ 0 ∷ 1 ∷ [])
s_loop_statement_inner_filled n k2 k4 out q2 q4 bare rebuild _ _ (good_next _ z1 (good_next _ z2 (good_next _ z3 (good_next _ z4 (good_next _ z6 good_end))))) = out _ _ (loop_statement_inner_filled n k2 k4 bare rebuild z1 (q2 _ _ z2) z3 (q4 _ _ z4) z6)

pub loop_statement_inner_filled_continuing : (n k2 k4 k5 : ℕ) → Rebuild n (token (fixed_class f.Loop) ∷ phrase k2 ∷ token (fixed_class f.BraceLeft) ∷ phrase k5 ∷ token (fixed_class f.BraceRight) ∷ []) (l.Statement label.Loop) (0 ∷ 1 ∷ 2 ∷ 1 ∷ 0 ∷ 2 ∷ 1 ∷ []) → Rebuild n (token (fixed_class f.Loop) ∷ phrase k2 ∷ token (fixed_class f.BraceLeft) ∷ phrase k4 ∷ phrase k5 ∷ token (fixed_class f.BraceRight) ∷ []) (l.Statement label.Loop) (0 ∷ 1 ∷ 2 ∷ 1 ∷ 2 ∷ 2 ∷ 1 ∷ []) → {u1 u2 u3 u4 u5 u6 : List SpannedTemplateToken} {x1 x2 x3 x4 x5 x6 : Phrase Part} → OneToken (fixed_class f.Loop) u1 x1 → AttributesRowed k2 u2 x2 → OneToken (fixed_class f.BraceLeft) u3 x3 → StatementsRead k4 u4 x4 → Continued k5 u5 x5 → OneToken (fixed_class f.BraceRight) u6 x6 → StatementRead n (u1 ++ (u2 ++ (u3 ++ (u4 ++ (u5 ++ (u6 ++ [])))))) (make_of (l.Statement label.Loop) (0 ∷ 1 ∷ 2 ∷ 1 ∷ 2 ∷ 2 ∷ 1 ∷ []) (x1 ∷ x2 ∷ x3 ∷ x4 ∷ x5 ∷ x6 ∷ []))
loop_statement_inner_filled_continuing n k2 k4 k5 bare rebuild {u1 = u1} {u2 = u2} {u3 = u3} {u4 = u4} {u5 = u5} {u6 = u6} {x1 = x1} {x3 = x3} {x6 = x6} t1 g2 t3 (some_stated {ts = vs} h4 r4) g5 t6 =
    loop_of n rebuild rebuild [] g2.2 vs g5.1 no_attributes g2.3 h4 g5.2 (no_part (v.attributes [] []) (v.no_attributes refl) (a_mark (mark_item f.Loop u1 x1 t1) (a_part g2.4 (a_mark (mark_item f.BraceLeft u3 x3 t3) (some_lines r4 (a_part g5.3 (a_mark (mark_item f.BraceRight u6 x6 t6) end))))))) (λ b o. (refl, tt)) (λ b o. refl) (λ b o. refl)
loop_statement_inner_filled_continuing n k2 k4 k5 bare rebuild {u1 = u1} {u2 = u2} {u3 = u3} {u4 = u4} {u5 = u5} {u6 = u6} {x1 = x1} {x3 = x3} {x6 = x6} t1 g2 t3 (all_void ys4 e4 s4 r4) g5 t6 =
    loop_of n rebuild bare [] g2.2 [] g5.1 no_attributes g2.3 no_statements g5.2 (no_part (v.attributes [] []) (v.no_attributes refl) (a_mark (mark_item f.Loop u1 x1 t1) (a_part g2.4 (a_mark (mark_item f.BraceLeft u3 x3 t3) (a_vanished {n = k4} r4 (a_part g5.3 (a_mark (mark_item f.BraceRight u6 x6 t6) end))))))) (λ b o. (refl, tt)) (λ b o. refl) (λ b o. refl)

pub s_loop_statement_inner_filled_continuing : (n k2 k4 k5 : ℕ) → Is StatementRead n → As AttributesRowed k2 → As StatementsRead k4 → As Continued k5 → Rebuild n (token (fixed_class f.Loop) ∷ phrase k2 ∷ token (fixed_class f.BraceLeft) ∷ phrase k5 ∷ token (fixed_class f.BraceRight) ∷ []) (l.Statement label.Loop) (0 ∷ 1 ∷ 2 ∷ 1 ∷ 0 ∷ 2 ∷ 1 ∷ []) → Makes n (token (fixed_class f.Loop) ∷ phrase k2 ∷ token (fixed_class f.BraceLeft) ∷ phrase k4 ∷ phrase k5 ∷ token (fixed_class f.BraceRight) ∷ []) (l.Statement label.Loop) (0 ∷ 1 ∷ 2 ∷ 1 ∷ 2 ∷ 2 ∷ 1 ∷ [])
s_loop_statement_inner_filled_continuing n k2 k4 k5 out q2 q4 q5 bare rebuild _ _ (good_next _ z1 (good_next _ z2 (good_next _ z3 (good_next _ z4 (good_next _ z5 (good_next _ z6 good_end)))))) = out _ _ (loop_statement_inner_filled_continuing n k2 k4 k5 bare rebuild z1 (q2 _ _ z2) z3 (q4 _ _ z4) (q5 _ _ z5) z6)

pub loop_statement_attributed : (n k0 : ℕ) → Rebuild n (phrase k0 ∷ token (fixed_class f.Loop) ∷ token (fixed_class f.BraceLeft) ∷ token (fixed_class f.BraceRight) ∷ []) (l.Statement label.Loop) (2 ∷ 1 ∷ 0 ∷ 1 ∷ 0 ∷ 0 ∷ 1 ∷ []) → {u1 u2 u3 u4 : List SpannedTemplateToken} {x1 x2 x3 x4 : Phrase Part} → AttributesRowed k0 u1 x1 → OneToken (fixed_class f.Loop) u2 x2 → OneToken (fixed_class f.BraceLeft) u3 x3 → OneToken (fixed_class f.BraceRight) u4 x4 → StatementRead n (u1 ++ (u2 ++ (u3 ++ (u4 ++ [])))) (make_of (l.Statement label.Loop) (2 ∷ 1 ∷ 0 ∷ 1 ∷ 0 ∷ 0 ∷ 1 ∷ []) (x1 ∷ x2 ∷ x3 ∷ x4 ∷ []))
loop_statement_attributed n k0 rebuild {u1 = u1} {u2 = u2} {u3 = u3} {u4 = u4} {x2 = x2} {x3 = x3} {x4 = x4} g0 t1 t3 t6 =
    loop_of n rebuild rebuild g0.2 [] [] [] g0.3 no_attributes no_statements no_end (a_part g0.4 (a_mark (mark_item f.Loop u2 x2 t1) (no_part (v.attributes [] []) (v.no_attributes refl) (a_mark (mark_item f.BraceLeft u3 x3 t3) (no_part (v.statements nil []) (v.no_statements refl) (no_part (v.ending no_continuing []) (v.no_ending refl) (a_mark (mark_item f.BraceRight u4 x4 t6) end))))))) (λ b o. tt) (λ b o. refl) (λ b o. refl)

pub s_loop_statement_attributed : (n k0 : ℕ) → Is StatementRead n → As AttributesRowed k0 → Makes n (phrase k0 ∷ token (fixed_class f.Loop) ∷ token (fixed_class f.BraceLeft) ∷ token (fixed_class f.BraceRight) ∷ []) (l.Statement label.Loop) (2 ∷ 1 ∷ 0 ∷ 1 ∷ 0 ∷ 0 ∷ 1 ∷ [])
s_loop_statement_attributed n k0 out q0 rebuild _ _ (good_next _ z0 (good_next _ z1 (good_next _ z3 (good_next _ z6 good_end)))) = out _ _ (loop_statement_attributed n k0 rebuild (q0 _ _ z0) z1 z3 z6)

pub loop_statement_attributed_continuing : (n k0 k5 : ℕ) → Rebuild n (phrase k0 ∷ token (fixed_class f.Loop) ∷ token (fixed_class f.BraceLeft) ∷ phrase k5 ∷ token (fixed_class f.BraceRight) ∷ []) (l.Statement label.Loop) (2 ∷ 1 ∷ 0 ∷ 1 ∷ 0 ∷ 2 ∷ 1 ∷ []) → {u1 u2 u3 u4 u5 : List SpannedTemplateToken} {x1 x2 x3 x4 x5 : Phrase Part} → AttributesRowed k0 u1 x1 → OneToken (fixed_class f.Loop) u2 x2 → OneToken (fixed_class f.BraceLeft) u3 x3 → Continued k5 u4 x4 → OneToken (fixed_class f.BraceRight) u5 x5 → StatementRead n (u1 ++ (u2 ++ (u3 ++ (u4 ++ (u5 ++ []))))) (make_of (l.Statement label.Loop) (2 ∷ 1 ∷ 0 ∷ 1 ∷ 0 ∷ 2 ∷ 1 ∷ []) (x1 ∷ x2 ∷ x3 ∷ x4 ∷ x5 ∷ []))
loop_statement_attributed_continuing n k0 k5 rebuild {u1 = u1} {u2 = u2} {u3 = u3} {u4 = u4} {u5 = u5} {x2 = x2} {x3 = x3} {x5 = x5} g0 t1 t3 g5 t6 =
    loop_of n rebuild rebuild g0.2 [] [] g5.1 g0.3 no_attributes no_statements g5.2 (a_part g0.4 (a_mark (mark_item f.Loop u2 x2 t1) (no_part (v.attributes [] []) (v.no_attributes refl) (a_mark (mark_item f.BraceLeft u3 x3 t3) (no_part (v.statements nil []) (v.no_statements refl) (a_part g5.3 (a_mark (mark_item f.BraceRight u5 x5 t6) end))))))) (λ b o. tt) (λ b o. refl) (λ b o. refl)

pub s_loop_statement_attributed_continuing : (n k0 k5 : ℕ) → Is StatementRead n → As AttributesRowed k0 → As Continued k5 → Makes n (phrase k0 ∷ token (fixed_class f.Loop) ∷ token (fixed_class f.BraceLeft) ∷ phrase k5 ∷ token (fixed_class f.BraceRight) ∷ []) (l.Statement label.Loop) (2 ∷ 1 ∷ 0 ∷ 1 ∷ 0 ∷ 2 ∷ 1 ∷ [])
s_loop_statement_attributed_continuing n k0 k5 out q0 q5 rebuild _ _ (good_next _ z0 (good_next _ z1 (good_next _ z3 (good_next _ z5 (good_next _ z6 good_end))))) = out _ _ (loop_statement_attributed_continuing n k0 k5 rebuild (q0 _ _ z0) z1 z3 (q5 _ _ z5) z6)

pub loop_statement_attributed_filled : (n k0 k4 : ℕ) → Rebuild n (phrase k0 ∷ token (fixed_class f.Loop) ∷ token (fixed_class f.BraceLeft) ∷ token (fixed_class f.BraceRight) ∷ []) (l.Statement label.Loop) (2 ∷ 1 ∷ 0 ∷ 1 ∷ 0 ∷ 0 ∷ 1 ∷ []) → Rebuild n (phrase k0 ∷ token (fixed_class f.Loop) ∷ token (fixed_class f.BraceLeft) ∷ phrase k4 ∷ token (fixed_class f.BraceRight) ∷ []) (l.Statement label.Loop) (2 ∷ 1 ∷ 0 ∷ 1 ∷ 2 ∷ 0 ∷ 1 ∷ []) → {u1 u2 u3 u4 u5 : List SpannedTemplateToken} {x1 x2 x3 x4 x5 : Phrase Part} → AttributesRowed k0 u1 x1 → OneToken (fixed_class f.Loop) u2 x2 → OneToken (fixed_class f.BraceLeft) u3 x3 → StatementsRead k4 u4 x4 → OneToken (fixed_class f.BraceRight) u5 x5 → StatementRead n (u1 ++ (u2 ++ (u3 ++ (u4 ++ (u5 ++ []))))) (make_of (l.Statement label.Loop) (2 ∷ 1 ∷ 0 ∷ 1 ∷ 2 ∷ 0 ∷ 1 ∷ []) (x1 ∷ x2 ∷ x3 ∷ x4 ∷ x5 ∷ []))
loop_statement_attributed_filled n k0 k4 bare rebuild {u1 = u1} {u2 = u2} {u3 = u3} {u4 = u4} {u5 = u5} {x2 = x2} {x3 = x3} {x5 = x5} g0 t1 t3 (some_stated {ts = vs} h4 r4) t6 =
    loop_of n rebuild rebuild g0.2 [] vs [] g0.3 no_attributes h4 no_end (a_part g0.4 (a_mark (mark_item f.Loop u2 x2 t1) (no_part (v.attributes [] []) (v.no_attributes refl) (a_mark (mark_item f.BraceLeft u3 x3 t3) (some_lines r4 (no_part (v.ending no_continuing []) (v.no_ending refl) (a_mark (mark_item f.BraceRight u5 x5 t6) end))))))) (λ b o. (refl, tt)) (λ b o. refl) (λ b o. refl)
loop_statement_attributed_filled n k0 k4 bare rebuild {u1 = u1} {u2 = u2} {u3 = u3} {u4 = u4} {u5 = u5} {x2 = x2} {x3 = x3} {x5 = x5} g0 t1 t3 (all_void ys4 e4 s4 r4) t6 =
    loop_of n rebuild bare g0.2 [] [] [] g0.3 no_attributes no_statements no_end (a_part g0.4 (a_mark (mark_item f.Loop u2 x2 t1) (no_part (v.attributes [] []) (v.no_attributes refl) (a_mark (mark_item f.BraceLeft u3 x3 t3) (a_vanished {n = k4} r4 (no_part (v.ending no_continuing []) (v.no_ending refl) (a_mark (mark_item f.BraceRight u5 x5 t6) end))))))) (λ b o. (refl, tt)) (λ b o. refl) (λ b o. refl)

pub s_loop_statement_attributed_filled : (n k0 k4 : ℕ) → Is StatementRead n → As AttributesRowed k0 → As StatementsRead k4 → Rebuild n (phrase k0 ∷ token (fixed_class f.Loop) ∷ token (fixed_class f.BraceLeft) ∷ token (fixed_class f.BraceRight) ∷ []) (l.Statement label.Loop) (2 ∷ 1 ∷ 0 ∷ 1 ∷ 0 ∷ 0 ∷ 1 ∷ []) → Makes n (phrase k0 ∷ token (fixed_class f.Loop) ∷ token (fixed_class f.BraceLeft) ∷ phrase k4 ∷ token (fixed_class f.BraceRight) ∷ []) (l.Statement label.Loop) (2 ∷ 1 ∷ 0 ∷ 1 ∷ 2 ∷ 0 ∷ 1 ∷ [])
s_loop_statement_attributed_filled n k0 k4 out q0 q4 bare rebuild _ _ (good_next _ z0 (good_next _ z1 (good_next _ z3 (good_next _ z4 (good_next _ z6 good_end))))) = out _ _ (loop_statement_attributed_filled n k0 k4 bare rebuild (q0 _ _ z0) z1 z3 (q4 _ _ z4) z6)

pub loop_statement_attributed_filled_continuing : (n k0 k4 k5 : ℕ) → Rebuild n (phrase k0 ∷ token (fixed_class f.Loop) ∷ token (fixed_class f.BraceLeft) ∷ phrase k5 ∷ token (fixed_class f.BraceRight) ∷ []) (l.Statement label.Loop) (2 ∷ 1 ∷ 0 ∷ 1 ∷ 0 ∷ 2 ∷ 1 ∷ []) → Rebuild n (phrase k0 ∷ token (fixed_class f.Loop) ∷ token (fixed_class f.BraceLeft) ∷ phrase k4 ∷ phrase k5 ∷ token (fixed_class f.BraceRight) ∷ []) (l.Statement label.Loop) (2 ∷ 1 ∷ 0 ∷ 1 ∷ 2 ∷ 2 ∷ 1 ∷ []) → {u1 u2 u3 u4 u5 u6 : List SpannedTemplateToken} {x1 x2 x3 x4 x5 x6 : Phrase Part} → AttributesRowed k0 u1 x1 → OneToken (fixed_class f.Loop) u2 x2 → OneToken (fixed_class f.BraceLeft) u3 x3 → StatementsRead k4 u4 x4 → Continued k5 u5 x5 → OneToken (fixed_class f.BraceRight) u6 x6 → StatementRead n (u1 ++ (u2 ++ (u3 ++ (u4 ++ (u5 ++ (u6 ++ [])))))) (make_of (l.Statement label.Loop) (2 ∷ 1 ∷ 0 ∷ 1 ∷ 2 ∷ 2 ∷ 1 ∷ []) (x1 ∷ x2 ∷ x3 ∷ x4 ∷ x5 ∷ x6 ∷ []))
loop_statement_attributed_filled_continuing n k0 k4 k5 bare rebuild {u1 = u1} {u2 = u2} {u3 = u3} {u4 = u4} {u5 = u5} {u6 = u6} {x2 = x2} {x3 = x3} {x6 = x6} g0 t1 t3 (some_stated {ts = vs} h4 r4) g5 t6 =
    loop_of n rebuild rebuild g0.2 [] vs g5.1 g0.3 no_attributes h4 g5.2 (a_part g0.4 (a_mark (mark_item f.Loop u2 x2 t1) (no_part (v.attributes [] []) (v.no_attributes refl) (a_mark (mark_item f.BraceLeft u3 x3 t3) (some_lines r4 (a_part g5.3 (a_mark (mark_item f.BraceRight u6 x6 t6) end))))))) (λ b o. (refl, tt)) (λ b o. refl) (λ b o. refl)
loop_statement_attributed_filled_continuing n k0 k4 k5 bare rebuild {u1 = u1} {u2 = u2} {u3 = u3} {u4 = u4} {u5 = u5} {u6 = u6} {x2 = x2} {x3 = x3} {x6 = x6} g0 t1 t3 (all_void ys4 e4 s4 r4) g5 t6 =
    loop_of n rebuild bare g0.2 [] [] g5.1 g0.3 no_attributes no_statements g5.2 (a_part g0.4 (a_mark (mark_item f.Loop u2 x2 t1) (no_part (v.attributes [] []) (v.no_attributes refl) (a_mark (mark_item f.BraceLeft u3 x3 t3) (a_vanished {n = k4} r4 (a_part g5.3 (a_mark (mark_item f.BraceRight u6 x6 t6) end))))))) (λ b o. (refl, tt)) (λ b o. refl) (λ b o. refl)

pub s_loop_statement_attributed_filled_continuing : (n k0 k4 k5 : ℕ) → Is StatementRead n → As AttributesRowed k0 → As StatementsRead k4 → As Continued k5 → Rebuild n (phrase k0 ∷ token (fixed_class f.Loop) ∷ token (fixed_class f.BraceLeft) ∷ phrase k5 ∷ token (fixed_class f.BraceRight) ∷ []) (l.Statement label.Loop) (2 ∷ 1 ∷ 0 ∷ 1 ∷ 0 ∷ 2 ∷ 1 ∷ []) → Makes n (phrase k0 ∷ token (fixed_class f.Loop) ∷ token (fixed_class f.BraceLeft) ∷ phrase k4 ∷ phrase k5 ∷ token (fixed_class f.BraceRight) ∷ []) (l.Statement label.Loop) (2 ∷ 1 ∷ 0 ∷ 1 ∷ 2 ∷ 2 ∷ 1 ∷ [])
s_loop_statement_attributed_filled_continuing n k0 k4 k5 out q0 q4 q5 bare rebuild _ _ (good_next _ z0 (good_next _ z1 (good_next _ z3 (good_next _ z4 (good_next _ z5 (good_next _ z6 good_end)))))) = out _ _ (loop_statement_attributed_filled_continuing n k0 k4 k5 bare rebuild (q0 _ _ z0) z1 z3 (q4 _ _ z4) (q5 _ _ z5) z6)

pub loop_statement_attributed_inner : (n k0 k2 : ℕ) → Rebuild n (phrase k0 ∷ token (fixed_class f.Loop) ∷ phrase k2 ∷ token (fixed_class f.BraceLeft) ∷ token (fixed_class f.BraceRight) ∷ []) (l.Statement label.Loop) (2 ∷ 1 ∷ 2 ∷ 1 ∷ 0 ∷ 0 ∷ 1 ∷ []) → {u1 u2 u3 u4 u5 : List SpannedTemplateToken} {x1 x2 x3 x4 x5 : Phrase Part} → AttributesRowed k0 u1 x1 → OneToken (fixed_class f.Loop) u2 x2 → AttributesRowed k2 u3 x3 → OneToken (fixed_class f.BraceLeft) u4 x4 → OneToken (fixed_class f.BraceRight) u5 x5 → StatementRead n (u1 ++ (u2 ++ (u3 ++ (u4 ++ (u5 ++ []))))) (make_of (l.Statement label.Loop) (2 ∷ 1 ∷ 2 ∷ 1 ∷ 0 ∷ 0 ∷ 1 ∷ []) (x1 ∷ x2 ∷ x3 ∷ x4 ∷ x5 ∷ []))
loop_statement_attributed_inner n k0 k2 rebuild {u1 = u1} {u2 = u2} {u3 = u3} {u4 = u4} {u5 = u5} {x2 = x2} {x4 = x4} {x5 = x5} g0 t1 g2 t3 t6 =
    loop_of n rebuild rebuild g0.2 g2.2 [] [] g0.3 g2.3 no_statements no_end (a_part g0.4 (a_mark (mark_item f.Loop u2 x2 t1) (a_part g2.4 (a_mark (mark_item f.BraceLeft u4 x4 t3) (no_part (v.statements nil []) (v.no_statements refl) (no_part (v.ending no_continuing []) (v.no_ending refl) (a_mark (mark_item f.BraceRight u5 x5 t6) end))))))) (λ b o. tt) (λ b o. refl) (λ b o. refl)

pub s_loop_statement_attributed_inner : (n k0 k2 : ℕ) → Is StatementRead n → As AttributesRowed k0 → As AttributesRowed k2 → Makes n (phrase k0 ∷ token (fixed_class f.Loop) ∷ phrase k2 ∷ token (fixed_class f.BraceLeft) ∷ token (fixed_class f.BraceRight) ∷ []) (l.Statement label.Loop) (2 ∷ 1 ∷ 2 ∷ 1 ∷ 0 ∷ 0 ∷ 1 ∷ [])
s_loop_statement_attributed_inner n k0 k2 out q0 q2 rebuild _ _ (good_next _ z0 (good_next _ z1 (good_next _ z2 (good_next _ z3 (good_next _ z6 good_end))))) = out _ _ (loop_statement_attributed_inner n k0 k2 rebuild (q0 _ _ z0) z1 (q2 _ _ z2) z3 z6)

pub loop_statement_attributed_inner_continuing : (n k0 k2 k5 : ℕ) → Rebuild n (phrase k0 ∷ token (fixed_class f.Loop) ∷ phrase k2 ∷ token (fixed_class f.BraceLeft) ∷ phrase k5 ∷ token (fixed_class f.BraceRight) ∷ []) (l.Statement label.Loop) (2 ∷ 1 ∷ 2 ∷ 1 ∷ 0 ∷ 2 ∷ 1 ∷ []) → {u1 u2 u3 u4 u5 u6 : List SpannedTemplateToken} {x1 x2 x3 x4 x5 x6 : Phrase Part} → AttributesRowed k0 u1 x1 → OneToken (fixed_class f.Loop) u2 x2 → AttributesRowed k2 u3 x3 → OneToken (fixed_class f.BraceLeft) u4 x4 → Continued k5 u5 x5 → OneToken (fixed_class f.BraceRight) u6 x6 → StatementRead n (u1 ++ (u2 ++ (u3 ++ (u4 ++ (u5 ++ (u6 ++ [])))))) (make_of (l.Statement label.Loop) (2 ∷ 1 ∷ 2 ∷ 1 ∷ 0 ∷ 2 ∷ 1 ∷ []) (x1 ∷ x2 ∷ x3 ∷ x4 ∷ x5 ∷ x6 ∷ []))
loop_statement_attributed_inner_continuing n k0 k2 k5 rebuild {u1 = u1} {u2 = u2} {u3 = u3} {u4 = u4} {u5 = u5} {u6 = u6} {x2 = x2} {x4 = x4} {x6 = x6} g0 t1 g2 t3 g5 t6 =
    loop_of n rebuild rebuild g0.2 g2.2 [] g5.1 g0.3 g2.3 no_statements g5.2 (a_part g0.4 (a_mark (mark_item f.Loop u2 x2 t1) (a_part g2.4 (a_mark (mark_item f.BraceLeft u4 x4 t3) (no_part (v.statements nil []) (v.no_statements refl) (a_part g5.3 (a_mark (mark_item f.BraceRight u6 x6 t6) end))))))) (λ b o. tt) (λ b o. refl) (λ b o. refl)

pub s_loop_statement_attributed_inner_continuing : (n k0 k2 k5 : ℕ) → Is StatementRead n → As AttributesRowed k0 → As AttributesRowed k2 → As Continued k5 → Makes n (phrase k0 ∷ token (fixed_class f.Loop) ∷ phrase k2 ∷ token (fixed_class f.BraceLeft) ∷ phrase k5 ∷ token (fixed_class f.BraceRight) ∷ []) (l.Statement label.Loop) (2 ∷ 1 ∷ 2 ∷ 1 ∷ 0 ∷ 2 ∷ 1 ∷ [])
s_loop_statement_attributed_inner_continuing n k0 k2 k5 out q0 q2 q5 rebuild _ _ (good_next _ z0 (good_next _ z1 (good_next _ z2 (good_next _ z3 (good_next _ z5 (good_next _ z6 good_end)))))) = out _ _ (loop_statement_attributed_inner_continuing n k0 k2 k5 rebuild (q0 _ _ z0) z1 (q2 _ _ z2) z3 (q5 _ _ z5) z6)

pub loop_statement_attributed_inner_filled : (n k0 k2 k4 : ℕ) → Rebuild n (phrase k0 ∷ token (fixed_class f.Loop) ∷ phrase k2 ∷ token (fixed_class f.BraceLeft) ∷ token (fixed_class f.BraceRight) ∷ []) (l.Statement label.Loop) (2 ∷ 1 ∷ 2 ∷ 1 ∷ 0 ∷ 0 ∷ 1 ∷ []) → Rebuild n (phrase k0 ∷ token (fixed_class f.Loop) ∷ phrase k2 ∷ token (fixed_class f.BraceLeft) ∷ phrase k4 ∷ token (fixed_class f.BraceRight) ∷ []) (l.Statement label.Loop) (2 ∷ 1 ∷ 2 ∷ 1 ∷ 2 ∷ 0 ∷ 1 ∷ []) → {u1 u2 u3 u4 u5 u6 : List SpannedTemplateToken} {x1 x2 x3 x4 x5 x6 : Phrase Part} → AttributesRowed k0 u1 x1 → OneToken (fixed_class f.Loop) u2 x2 → AttributesRowed k2 u3 x3 → OneToken (fixed_class f.BraceLeft) u4 x4 → StatementsRead k4 u5 x5 → OneToken (fixed_class f.BraceRight) u6 x6 → StatementRead n (u1 ++ (u2 ++ (u3 ++ (u4 ++ (u5 ++ (u6 ++ [])))))) (make_of (l.Statement label.Loop) (2 ∷ 1 ∷ 2 ∷ 1 ∷ 2 ∷ 0 ∷ 1 ∷ []) (x1 ∷ x2 ∷ x3 ∷ x4 ∷ x5 ∷ x6 ∷ []))
loop_statement_attributed_inner_filled n k0 k2 k4 bare rebuild {u1 = u1} {u2 = u2} {u3 = u3} {u4 = u4} {u5 = u5} {u6 = u6} {x2 = x2} {x4 = x4} {x6 = x6} g0 t1 g2 t3 (some_stated {ts = vs} h4 r4) t6 =
    loop_of n rebuild rebuild g0.2 g2.2 vs [] g0.3 g2.3 h4 no_end (a_part g0.4 (a_mark (mark_item f.Loop u2 x2 t1) (a_part g2.4 (a_mark (mark_item f.BraceLeft u4 x4 t3) (some_lines r4 (no_part (v.ending no_continuing []) (v.no_ending refl) (a_mark (mark_item f.BraceRight u6 x6 t6) end))))))) (λ b o. (refl, tt)) (λ b o. refl) (λ b o. refl)
loop_statement_attributed_inner_filled n k0 k2 k4 bare rebuild {u1 = u1} {u2 = u2} {u3 = u3} {u4 = u4} {u5 = u5} {u6 = u6} {x2 = x2} {x4 = x4} {x6 = x6} g0 t1 g2 t3 (all_void ys4 e4 s4 r4) t6 =
    loop_of n rebuild bare g0.2 g2.2 [] [] g0.3 g2.3 no_statements no_end (a_part g0.4 (a_mark (mark_item f.Loop u2 x2 t1) (a_part g2.4 (a_mark (mark_item f.BraceLeft u4 x4 t3) (a_vanished {n = k4} r4 (no_part (v.ending no_continuing []) (v.no_ending refl) (a_mark (mark_item f.BraceRight u6 x6 t6) end))))))) (λ b o. (refl, tt)) (λ b o. refl) (λ b o. refl)

pub s_loop_statement_attributed_inner_filled : (n k0 k2 k4 : ℕ) → Is StatementRead n → As AttributesRowed k0 → As AttributesRowed k2 → As StatementsRead k4 → Rebuild n (phrase k0 ∷ token (fixed_class f.Loop) ∷ phrase k2 ∷ token (fixed_class f.BraceLeft) ∷ token (fixed_class f.BraceRight) ∷ []) (l.Statement label.Loop) (2 ∷ 1 ∷ 2 ∷ 1 ∷ 0 ∷ 0 ∷ 1 ∷ []) → Makes n (phrase k0 ∷ token (fixed_class f.Loop) ∷ phrase k2 ∷ token (fixed_class f.BraceLeft) ∷ phrase k4 ∷ token (fixed_class f.BraceRight) ∷ []) (l.Statement label.Loop) (2 ∷ 1 ∷ 2 ∷ 1 ∷ 2 ∷ 0 ∷ 1 ∷ [])
s_loop_statement_attributed_inner_filled n k0 k2 k4 out q0 q2 q4 bare rebuild _ _ (good_next _ z0 (good_next _ z1 (good_next _ z2 (good_next _ z3 (good_next _ z4 (good_next _ z6 good_end)))))) = out _ _ (loop_statement_attributed_inner_filled n k0 k2 k4 bare rebuild (q0 _ _ z0) z1 (q2 _ _ z2) z3 (q4 _ _ z4) z6)

pub loop_statement_attributed_inner_filled_continuing : (n k0 k2 k4 k5 : ℕ) → Rebuild n (phrase k0 ∷ token (fixed_class f.Loop) ∷ phrase k2 ∷ token (fixed_class f.BraceLeft) ∷ phrase k5 ∷ token (fixed_class f.BraceRight) ∷ []) (l.Statement label.Loop) (2 ∷ 1 ∷ 2 ∷ 1 ∷ 0 ∷ 2 ∷ 1 ∷ []) → Rebuild n (phrase k0 ∷ token (fixed_class f.Loop) ∷ phrase k2 ∷ token (fixed_class f.BraceLeft) ∷ phrase k4 ∷ phrase k5 ∷ token (fixed_class f.BraceRight) ∷ []) (l.Statement label.Loop) (2 ∷ 1 ∷ 2 ∷ 1 ∷ 2 ∷ 2 ∷ 1 ∷ []) → {u1 u2 u3 u4 u5 u6 u7 : List SpannedTemplateToken} {x1 x2 x3 x4 x5 x6 x7 : Phrase Part} → AttributesRowed k0 u1 x1 → OneToken (fixed_class f.Loop) u2 x2 → AttributesRowed k2 u3 x3 → OneToken (fixed_class f.BraceLeft) u4 x4 → StatementsRead k4 u5 x5 → Continued k5 u6 x6 → OneToken (fixed_class f.BraceRight) u7 x7 → StatementRead n (u1 ++ (u2 ++ (u3 ++ (u4 ++ (u5 ++ (u6 ++ (u7 ++ []))))))) (make_of (l.Statement label.Loop) (2 ∷ 1 ∷ 2 ∷ 1 ∷ 2 ∷ 2 ∷ 1 ∷ []) (x1 ∷ x2 ∷ x3 ∷ x4 ∷ x5 ∷ x6 ∷ x7 ∷ []))
loop_statement_attributed_inner_filled_continuing n k0 k2 k4 k5 bare rebuild {u1 = u1} {u2 = u2} {u3 = u3} {u4 = u4} {u5 = u5} {u6 = u6} {u7 = u7} {x2 = x2} {x4 = x4} {x7 = x7} g0 t1 g2 t3 (some_stated {ts = vs} h4 r4) g5 t6 =
    loop_of n rebuild rebuild g0.2 g2.2 vs g5.1 g0.3 g2.3 h4 g5.2 (a_part g0.4 (a_mark (mark_item f.Loop u2 x2 t1) (a_part g2.4 (a_mark (mark_item f.BraceLeft u4 x4 t3) (some_lines r4 (a_part g5.3 (a_mark (mark_item f.BraceRight u7 x7 t6) end))))))) (λ b o. (refl, tt)) (λ b o. refl) (λ b o. refl)
loop_statement_attributed_inner_filled_continuing n k0 k2 k4 k5 bare rebuild {u1 = u1} {u2 = u2} {u3 = u3} {u4 = u4} {u5 = u5} {u6 = u6} {u7 = u7} {x2 = x2} {x4 = x4} {x7 = x7} g0 t1 g2 t3 (all_void ys4 e4 s4 r4) g5 t6 =
    loop_of n rebuild bare g0.2 g2.2 [] g5.1 g0.3 g2.3 no_statements g5.2 (a_part g0.4 (a_mark (mark_item f.Loop u2 x2 t1) (a_part g2.4 (a_mark (mark_item f.BraceLeft u4 x4 t3) (a_vanished {n = k4} r4 (a_part g5.3 (a_mark (mark_item f.BraceRight u7 x7 t6) end))))))) (λ b o. (refl, tt)) (λ b o. refl) (λ b o. refl)

pub s_loop_statement_attributed_inner_filled_continuing : (n k0 k2 k4 k5 : ℕ) → Is StatementRead n → As AttributesRowed k0 → As AttributesRowed k2 → As StatementsRead k4 → As Continued k5 → Rebuild n (phrase k0 ∷ token (fixed_class f.Loop) ∷ phrase k2 ∷ token (fixed_class f.BraceLeft) ∷ phrase k5 ∷ token (fixed_class f.BraceRight) ∷ []) (l.Statement label.Loop) (2 ∷ 1 ∷ 2 ∷ 1 ∷ 0 ∷ 2 ∷ 1 ∷ []) → Makes n (phrase k0 ∷ token (fixed_class f.Loop) ∷ phrase k2 ∷ token (fixed_class f.BraceLeft) ∷ phrase k4 ∷ phrase k5 ∷ token (fixed_class f.BraceRight) ∷ []) (l.Statement label.Loop) (2 ∷ 1 ∷ 2 ∷ 1 ∷ 2 ∷ 2 ∷ 1 ∷ [])
s_loop_statement_attributed_inner_filled_continuing n k0 k2 k4 k5 out q0 q2 q4 q5 bare rebuild _ _ (good_next _ z0 (good_next _ z1 (good_next _ z2 (good_next _ z3 (good_next _ z4 (good_next _ z5 (good_next _ z6 good_end))))))) = out _ _ (loop_statement_attributed_inner_filled_continuing n k0 k2 k4 k5 bare rebuild (q0 _ _ z0) z1 (q2 _ _ z2) z3 (q4 _ _ z4) (q5 _ _ z5) z6)

-- ---- `for`

pub for_statement : (n k9 : ℕ) → Rebuild n (token (fixed_class f.For) ∷ token (fixed_class f.ParenLeft) ∷ token (fixed_class f.Semicolon) ∷ token (fixed_class f.Semicolon) ∷ token (fixed_class f.ParenRight) ∷ phrase k9 ∷ []) (l.Statement label.For) (0 ∷ 1 ∷ 1 ∷ 0 ∷ 1 ∷ 0 ∷ 1 ∷ 0 ∷ 1 ∷ 2 ∷ []) → {u1 u2 u3 u4 u5 u6 : List SpannedTemplateToken} {x1 x2 x3 x4 x5 x6 : Phrase Part} → OneToken (fixed_class f.For) u1 x1 → OneToken (fixed_class f.ParenLeft) u2 x2 → OneToken (fixed_class f.Semicolon) u3 x3 → OneToken (fixed_class f.Semicolon) u4 x4 → OneToken (fixed_class f.ParenRight) u5 x5 → Blocked k9 u6 x6 → StatementRead n (u1 ++ (u2 ++ (u3 ++ (u4 ++ (u5 ++ (u6 ++ [])))))) (make_of (l.Statement label.For) (0 ∷ 1 ∷ 1 ∷ 0 ∷ 1 ∷ 0 ∷ 1 ∷ 0 ∷ 1 ∷ 2 ∷ []) (x1 ∷ x2 ∷ x3 ∷ x4 ∷ x5 ∷ x6 ∷ []))
for_statement n k9 rebuild {u1 = u1} {u2 = u2} {u3 = u3} {u4 = u4} {u5 = u5} {u6 = u6} {x1 = x1} {x2 = x2} {x3 = x3} {x4 = x4} {x5 = x5} t1 t2 t4 t6 t8 g9 =
    for_of n rebuild rebuild [] [] [] g9.1 no_attributes no_head refl no_head g9.2 (no_part (v.attributes [] []) (v.no_attributes refl) (a_mark (mark_item f.For u1 x1 t1) (a_mark (mark_item f.ParenLeft u2 x2 t2) (no_part (v.header None []) (v.no_header refl) (a_mark (mark_item f.Semicolon u3 x3 t4) (no_part (v.value None) (v.no_value refl) (a_mark (mark_item f.Semicolon u4 x4 t6) (no_part (v.header None []) (v.no_header refl) (a_mark (mark_item f.ParenRight u5 x5 t8) (a_part g9.4 end)))))))))) (λ b o. tt) (λ b o. refl) (λ b o. g9.4.ended _ _)

pub s_for_statement : (n k9 : ℕ) → Is StatementRead n → As Blocked k9 → Makes n (token (fixed_class f.For) ∷ token (fixed_class f.ParenLeft) ∷ token (fixed_class f.Semicolon) ∷ token (fixed_class f.Semicolon) ∷ token (fixed_class f.ParenRight) ∷ phrase k9 ∷ []) (l.Statement label.For) (0 ∷ 1 ∷ 1 ∷ 0 ∷ 1 ∷ 0 ∷ 1 ∷ 0 ∷ 1 ∷ 2 ∷ [])
s_for_statement n k9 out q9 rebuild _ _ (good_next _ z1 (good_next _ z2 (good_next _ z4 (good_next _ z6 (good_next _ z8 (good_next _ z9 good_end)))))) = out _ _ (for_statement n k9 rebuild z1 z2 z4 z6 z8 (q9 _ _ z9))

pub for_statement_by : (n k7 k9 : ℕ) → Rebuild n (token (fixed_class f.For) ∷ token (fixed_class f.ParenLeft) ∷ token (fixed_class f.Semicolon) ∷ token (fixed_class f.Semicolon) ∷ phrase k7 ∷ token (fixed_class f.ParenRight) ∷ phrase k9 ∷ []) (l.Statement label.For) (0 ∷ 1 ∷ 1 ∷ 0 ∷ 1 ∷ 0 ∷ 1 ∷ 2 ∷ 1 ∷ 2 ∷ []) → {u1 u2 u3 u4 u5 u6 u7 : List SpannedTemplateToken} {x1 x2 x3 x4 x5 x6 x7 : Phrase Part} → OneToken (fixed_class f.For) u1 x1 → OneToken (fixed_class f.ParenLeft) u2 x2 → OneToken (fixed_class f.Semicolon) u3 x3 → OneToken (fixed_class f.Semicolon) u4 x4 → Headed k7 u5 x5 → OneToken (fixed_class f.ParenRight) u6 x6 → Blocked k9 u7 x7 → StatementRead n (u1 ++ (u2 ++ (u3 ++ (u4 ++ (u5 ++ (u6 ++ (u7 ++ []))))))) (make_of (l.Statement label.For) (0 ∷ 1 ∷ 1 ∷ 0 ∷ 1 ∷ 0 ∷ 1 ∷ 2 ∷ 1 ∷ 2 ∷ []) (x1 ∷ x2 ∷ x3 ∷ x4 ∷ x5 ∷ x6 ∷ x7 ∷ []))
for_statement_by n k7 k9 rebuild {u1 = u1} {u2 = u2} {u3 = u3} {u4 = u4} {u5 = u5} {u6 = u6} {u7 = u7} {x1 = x1} {x2 = x2} {x3 = x3} {x4 = x4} {x6 = x6} t1 t2 t4 t6 g7 t8 g9 =
    for_of n rebuild rebuild [] [] g7.1 g9.1 no_attributes no_head refl (a_head g7.2) g9.2 (no_part (v.attributes [] []) (v.no_attributes refl) (a_mark (mark_item f.For u1 x1 t1) (a_mark (mark_item f.ParenLeft u2 x2 t2) (no_part (v.header None []) (v.no_header refl) (a_mark (mark_item f.Semicolon u3 x3 t4) (no_part (v.value None) (v.no_value refl) (a_mark (mark_item f.Semicolon u4 x4 t6) (a_part g7.3 (a_mark (mark_item f.ParenRight u6 x6 t8) (a_part g9.4 end)))))))))) (λ b o. tt) (λ b o. refl) (λ b o. g9.4.ended _ _)

pub s_for_statement_by : (n k7 k9 : ℕ) → Is StatementRead n → As Headed k7 → As Blocked k9 → Makes n (token (fixed_class f.For) ∷ token (fixed_class f.ParenLeft) ∷ token (fixed_class f.Semicolon) ∷ token (fixed_class f.Semicolon) ∷ phrase k7 ∷ token (fixed_class f.ParenRight) ∷ phrase k9 ∷ []) (l.Statement label.For) (0 ∷ 1 ∷ 1 ∷ 0 ∷ 1 ∷ 0 ∷ 1 ∷ 2 ∷ 1 ∷ 2 ∷ [])
s_for_statement_by n k7 k9 out q7 q9 rebuild _ _ (good_next _ z1 (good_next _ z2 (good_next _ z4 (good_next _ z6 (good_next _ z7 (good_next _ z8 (good_next _ z9 good_end))))))) = out _ _ (for_statement_by n k7 k9 rebuild z1 z2 z4 z6 (q7 _ _ z7) z8 (q9 _ _ z9))

pub for_statement_while : (n k5 k9 : ℕ) → Rebuild n (token (fixed_class f.For) ∷ token (fixed_class f.ParenLeft) ∷ token (fixed_class f.Semicolon) ∷ phrase k5 ∷ token (fixed_class f.Semicolon) ∷ token (fixed_class f.ParenRight) ∷ phrase k9 ∷ []) (l.Statement label.For) (0 ∷ 1 ∷ 1 ∷ 0 ∷ 1 ∷ 2 ∷ 1 ∷ 0 ∷ 1 ∷ 2 ∷ []) → {u1 u2 u3 u4 u5 u6 u7 : List SpannedTemplateToken} {x1 x2 x3 x4 x5 x6 x7 : Phrase Part} → OneToken (fixed_class f.For) u1 x1 → OneToken (fixed_class f.ParenLeft) u2 x2 → OneToken (fixed_class f.Semicolon) u3 x3 → Expressed k5 u4 x4 → OneToken (fixed_class f.Semicolon) u5 x5 → OneToken (fixed_class f.ParenRight) u6 x6 → Blocked k9 u7 x7 → StatementRead n (u1 ++ (u2 ++ (u3 ++ (u4 ++ (u5 ++ (u6 ++ (u7 ++ []))))))) (make_of (l.Statement label.For) (0 ∷ 1 ∷ 1 ∷ 0 ∷ 1 ∷ 2 ∷ 1 ∷ 0 ∷ 1 ∷ 2 ∷ []) (x1 ∷ x2 ∷ x3 ∷ x4 ∷ x5 ∷ x6 ∷ x7 ∷ []))
for_statement_while n k5 k9 rebuild {u1 = u1} {u2 = u2} {u3 = u3} {u4 = u4} {u5 = u5} {u6 = u6} {u7 = u7} {x1 = x1} {x2 = x2} {x3 = x3} {x5 = x5} {x6 = x6} t1 t2 t4 g5 t6 t8 g9 =
    for_of n rebuild rebuild [] [] [] g9.1 no_attributes no_head g5.1 no_head g9.2 (no_part (v.attributes [] []) (v.no_attributes refl) (a_mark (mark_item f.For u1 x1 t1) (a_mark (mark_item f.ParenLeft u2 x2 t2) (no_part (v.header None []) (v.no_header refl) (a_mark (mark_item f.Semicolon u3 x3 t4) (a_part_as (v.value (Some g5.0)) (value_of_expression g5.0) g5.2 (a_mark (mark_item f.Semicolon u5 x5 t6) (no_part (v.header None []) (v.no_header refl) (a_mark (mark_item f.ParenRight u6 x6 t8) (a_part g9.4 end)))))))))) (λ b o. tt) (λ b o. refl) (λ b o. g9.4.ended _ _)

pub s_for_statement_while : (n k5 k9 : ℕ) → Is StatementRead n → As Expressed k5 → As Blocked k9 → Makes n (token (fixed_class f.For) ∷ token (fixed_class f.ParenLeft) ∷ token (fixed_class f.Semicolon) ∷ phrase k5 ∷ token (fixed_class f.Semicolon) ∷ token (fixed_class f.ParenRight) ∷ phrase k9 ∷ []) (l.Statement label.For) (0 ∷ 1 ∷ 1 ∷ 0 ∷ 1 ∷ 2 ∷ 1 ∷ 0 ∷ 1 ∷ 2 ∷ [])
s_for_statement_while n k5 k9 out q5 q9 rebuild _ _ (good_next _ z1 (good_next _ z2 (good_next _ z4 (good_next _ z5 (good_next _ z6 (good_next _ z8 (good_next _ z9 good_end))))))) = out _ _ (for_statement_while n k5 k9 rebuild z1 z2 z4 (q5 _ _ z5) z6 z8 (q9 _ _ z9))

pub for_statement_while_by : (n k5 k7 k9 : ℕ) → Rebuild n (token (fixed_class f.For) ∷ token (fixed_class f.ParenLeft) ∷ token (fixed_class f.Semicolon) ∷ phrase k5 ∷ token (fixed_class f.Semicolon) ∷ phrase k7 ∷ token (fixed_class f.ParenRight) ∷ phrase k9 ∷ []) (l.Statement label.For) (0 ∷ 1 ∷ 1 ∷ 0 ∷ 1 ∷ 2 ∷ 1 ∷ 2 ∷ 1 ∷ 2 ∷ []) → {u1 u2 u3 u4 u5 u6 u7 u8 : List SpannedTemplateToken} {x1 x2 x3 x4 x5 x6 x7 x8 : Phrase Part} → OneToken (fixed_class f.For) u1 x1 → OneToken (fixed_class f.ParenLeft) u2 x2 → OneToken (fixed_class f.Semicolon) u3 x3 → Expressed k5 u4 x4 → OneToken (fixed_class f.Semicolon) u5 x5 → Headed k7 u6 x6 → OneToken (fixed_class f.ParenRight) u7 x7 → Blocked k9 u8 x8 → StatementRead n (u1 ++ (u2 ++ (u3 ++ (u4 ++ (u5 ++ (u6 ++ (u7 ++ (u8 ++ [])))))))) (make_of (l.Statement label.For) (0 ∷ 1 ∷ 1 ∷ 0 ∷ 1 ∷ 2 ∷ 1 ∷ 2 ∷ 1 ∷ 2 ∷ []) (x1 ∷ x2 ∷ x3 ∷ x4 ∷ x5 ∷ x6 ∷ x7 ∷ x8 ∷ []))
for_statement_while_by n k5 k7 k9 rebuild {u1 = u1} {u2 = u2} {u3 = u3} {u4 = u4} {u5 = u5} {u6 = u6} {u7 = u7} {u8 = u8} {x1 = x1} {x2 = x2} {x3 = x3} {x5 = x5} {x7 = x7} t1 t2 t4 g5 t6 g7 t8 g9 =
    for_of n rebuild rebuild [] [] g7.1 g9.1 no_attributes no_head g5.1 (a_head g7.2) g9.2 (no_part (v.attributes [] []) (v.no_attributes refl) (a_mark (mark_item f.For u1 x1 t1) (a_mark (mark_item f.ParenLeft u2 x2 t2) (no_part (v.header None []) (v.no_header refl) (a_mark (mark_item f.Semicolon u3 x3 t4) (a_part_as (v.value (Some g5.0)) (value_of_expression g5.0) g5.2 (a_mark (mark_item f.Semicolon u5 x5 t6) (a_part g7.3 (a_mark (mark_item f.ParenRight u7 x7 t8) (a_part g9.4 end)))))))))) (λ b o. tt) (λ b o. refl) (λ b o. g9.4.ended _ _)

pub s_for_statement_while_by : (n k5 k7 k9 : ℕ) → Is StatementRead n → As Expressed k5 → As Headed k7 → As Blocked k9 → Makes n (token (fixed_class f.For) ∷ token (fixed_class f.ParenLeft) ∷ token (fixed_class f.Semicolon) ∷ phrase k5 ∷ token (fixed_class f.Semicolon) ∷ phrase k7 ∷ token (fixed_class f.ParenRight) ∷ phrase k9 ∷ []) (l.Statement label.For) (0 ∷ 1 ∷ 1 ∷ 0 ∷ 1 ∷ 2 ∷ 1 ∷ 2 ∷ 1 ∷ 2 ∷ [])
s_for_statement_while_by n k5 k7 k9 out q5 q7 q9 rebuild _ _ (good_next _ z1 (good_next _ z2 (good_next _ z4 (good_next _ z5 (good_next _ z6 (good_next _ z7 (good_next _ z8 (good_next _ z9 good_end)))))))) = out _ _ (for_statement_while_by n k5 k7 k9 rebuild z1 z2 z4 (q5 _ _ z5) z6 (q7 _ _ z7) z8 (q9 _ _ z9))

pub for_statement_from : (n k3 k9 : ℕ) → Rebuild n (token (fixed_class f.For) ∷ token (fixed_class f.ParenLeft) ∷ phrase k3 ∷ token (fixed_class f.Semicolon) ∷ token (fixed_class f.Semicolon) ∷ token (fixed_class f.ParenRight) ∷ phrase k9 ∷ []) (l.Statement label.For) (0 ∷ 1 ∷ 1 ∷ 2 ∷ 1 ∷ 0 ∷ 1 ∷ 0 ∷ 1 ∷ 2 ∷ []) → {u1 u2 u3 u4 u5 u6 u7 : List SpannedTemplateToken} {x1 x2 x3 x4 x5 x6 x7 : Phrase Part} → OneToken (fixed_class f.For) u1 x1 → OneToken (fixed_class f.ParenLeft) u2 x2 → Headed k3 u3 x3 → OneToken (fixed_class f.Semicolon) u4 x4 → OneToken (fixed_class f.Semicolon) u5 x5 → OneToken (fixed_class f.ParenRight) u6 x6 → Blocked k9 u7 x7 → StatementRead n (u1 ++ (u2 ++ (u3 ++ (u4 ++ (u5 ++ (u6 ++ (u7 ++ []))))))) (make_of (l.Statement label.For) (0 ∷ 1 ∷ 1 ∷ 2 ∷ 1 ∷ 0 ∷ 1 ∷ 0 ∷ 1 ∷ 2 ∷ []) (x1 ∷ x2 ∷ x3 ∷ x4 ∷ x5 ∷ x6 ∷ x7 ∷ []))
for_statement_from n k3 k9 rebuild {u1 = u1} {u2 = u2} {u3 = u3} {u4 = u4} {u5 = u5} {u6 = u6} {u7 = u7} {x1 = x1} {x2 = x2} {x4 = x4} {x5 = x5} {x6 = x6} t1 t2 g3 t4 t6 t8 g9 =
    for_of n rebuild rebuild [] g3.1 [] g9.1 no_attributes (a_head g3.2) refl no_head g9.2 (no_part (v.attributes [] []) (v.no_attributes refl) (a_mark (mark_item f.For u1 x1 t1) (a_mark (mark_item f.ParenLeft u2 x2 t2) (a_part g3.3 (a_mark (mark_item f.Semicolon u4 x4 t4) (no_part (v.value None) (v.no_value refl) (a_mark (mark_item f.Semicolon u5 x5 t6) (no_part (v.header None []) (v.no_header refl) (a_mark (mark_item f.ParenRight u6 x6 t8) (a_part g9.4 end)))))))))) (λ b o. tt) (λ b o. refl) (λ b o. g9.4.ended _ _)

pub s_for_statement_from : (n k3 k9 : ℕ) → Is StatementRead n → As Headed k3 → As Blocked k9 → Makes n (token (fixed_class f.For) ∷ token (fixed_class f.ParenLeft) ∷ phrase k3 ∷ token (fixed_class f.Semicolon) ∷ token (fixed_class f.Semicolon) ∷ token (fixed_class f.ParenRight) ∷ phrase k9 ∷ []) (l.Statement label.For) (0 ∷ 1 ∷ 1 ∷ 2 ∷ 1 ∷ 0 ∷ 1 ∷ 0 ∷ 1 ∷ 2 ∷ [])
s_for_statement_from n k3 k9 out q3 q9 rebuild _ _ (good_next _ z1 (good_next _ z2 (good_next _ z3 (good_next _ z4 (good_next _ z6 (good_next _ z8 (good_next _ z9 good_end))))))) = out _ _ (for_statement_from n k3 k9 rebuild z1 z2 (q3 _ _ z3) z4 z6 z8 (q9 _ _ z9))

pub for_statement_from_by : (n k3 k7 k9 : ℕ) → Rebuild n (token (fixed_class f.For) ∷ token (fixed_class f.ParenLeft) ∷ phrase k3 ∷ token (fixed_class f.Semicolon) ∷ token (fixed_class f.Semicolon) ∷ phrase k7 ∷ token (fixed_class f.ParenRight) ∷ phrase k9 ∷ []) (l.Statement label.For) (0 ∷ 1 ∷ 1 ∷ 2 ∷ 1 ∷ 0 ∷ 1 ∷ 2 ∷ 1 ∷ 2 ∷ []) → {u1 u2 u3 u4 u5 u6 u7 u8 : List SpannedTemplateToken} {x1 x2 x3 x4 x5 x6 x7 x8 : Phrase Part} → OneToken (fixed_class f.For) u1 x1 → OneToken (fixed_class f.ParenLeft) u2 x2 → Headed k3 u3 x3 → OneToken (fixed_class f.Semicolon) u4 x4 → OneToken (fixed_class f.Semicolon) u5 x5 → Headed k7 u6 x6 → OneToken (fixed_class f.ParenRight) u7 x7 → Blocked k9 u8 x8 → StatementRead n (u1 ++ (u2 ++ (u3 ++ (u4 ++ (u5 ++ (u6 ++ (u7 ++ (u8 ++ [])))))))) (make_of (l.Statement label.For) (0 ∷ 1 ∷ 1 ∷ 2 ∷ 1 ∷ 0 ∷ 1 ∷ 2 ∷ 1 ∷ 2 ∷ []) (x1 ∷ x2 ∷ x3 ∷ x4 ∷ x5 ∷ x6 ∷ x7 ∷ x8 ∷ []))
for_statement_from_by n k3 k7 k9 rebuild {u1 = u1} {u2 = u2} {u3 = u3} {u4 = u4} {u5 = u5} {u6 = u6} {u7 = u7} {u8 = u8} {x1 = x1} {x2 = x2} {x4 = x4} {x5 = x5} {x7 = x7} t1 t2 g3 t4 t6 g7 t8 g9 =
    for_of n rebuild rebuild [] g3.1 g7.1 g9.1 no_attributes (a_head g3.2) refl (a_head g7.2) g9.2 (no_part (v.attributes [] []) (v.no_attributes refl) (a_mark (mark_item f.For u1 x1 t1) (a_mark (mark_item f.ParenLeft u2 x2 t2) (a_part g3.3 (a_mark (mark_item f.Semicolon u4 x4 t4) (no_part (v.value None) (v.no_value refl) (a_mark (mark_item f.Semicolon u5 x5 t6) (a_part g7.3 (a_mark (mark_item f.ParenRight u7 x7 t8) (a_part g9.4 end)))))))))) (λ b o. tt) (λ b o. refl) (λ b o. g9.4.ended _ _)

pub s_for_statement_from_by : (n k3 k7 k9 : ℕ) → Is StatementRead n → As Headed k3 → As Headed k7 → As Blocked k9 → Makes n (token (fixed_class f.For) ∷ token (fixed_class f.ParenLeft) ∷ phrase k3 ∷ token (fixed_class f.Semicolon) ∷ token (fixed_class f.Semicolon) ∷ phrase k7 ∷ token (fixed_class f.ParenRight) ∷ phrase k9 ∷ []) (l.Statement label.For) (0 ∷ 1 ∷ 1 ∷ 2 ∷ 1 ∷ 0 ∷ 1 ∷ 2 ∷ 1 ∷ 2 ∷ [])
s_for_statement_from_by n k3 k7 k9 out q3 q7 q9 rebuild _ _ (good_next _ z1 (good_next _ z2 (good_next _ z3 (good_next _ z4 (good_next _ z6 (good_next _ z7 (good_next _ z8 (good_next _ z9 good_end)))))))) = out _ _ (for_statement_from_by n k3 k7 k9 rebuild z1 z2 (q3 _ _ z3) z4 z6 (q7 _ _ z7) z8 (q9 _ _ z9))

pub for_statement_from_while : (n k3 k5 k9 : ℕ) → Rebuild n (token (fixed_class f.For) ∷ token (fixed_class f.ParenLeft) ∷ phrase k3 ∷ token (fixed_class f.Semicolon) ∷ phrase k5 ∷ token (fixed_class f.Semicolon) ∷ token (fixed_class f.ParenRight) ∷ phrase k9 ∷ []) (l.Statement label.For) (0 ∷ 1 ∷ 1 ∷ 2 ∷ 1 ∷ 2 ∷ 1 ∷ 0 ∷ 1 ∷ 2 ∷ []) → {u1 u2 u3 u4 u5 u6 u7 u8 : List SpannedTemplateToken} {x1 x2 x3 x4 x5 x6 x7 x8 : Phrase Part} → OneToken (fixed_class f.For) u1 x1 → OneToken (fixed_class f.ParenLeft) u2 x2 → Headed k3 u3 x3 → OneToken (fixed_class f.Semicolon) u4 x4 → Expressed k5 u5 x5 → OneToken (fixed_class f.Semicolon) u6 x6 → OneToken (fixed_class f.ParenRight) u7 x7 → Blocked k9 u8 x8 → StatementRead n (u1 ++ (u2 ++ (u3 ++ (u4 ++ (u5 ++ (u6 ++ (u7 ++ (u8 ++ [])))))))) (make_of (l.Statement label.For) (0 ∷ 1 ∷ 1 ∷ 2 ∷ 1 ∷ 2 ∷ 1 ∷ 0 ∷ 1 ∷ 2 ∷ []) (x1 ∷ x2 ∷ x3 ∷ x4 ∷ x5 ∷ x6 ∷ x7 ∷ x8 ∷ []))
for_statement_from_while n k3 k5 k9 rebuild {u1 = u1} {u2 = u2} {u3 = u3} {u4 = u4} {u5 = u5} {u6 = u6} {u7 = u7} {u8 = u8} {x1 = x1} {x2 = x2} {x4 = x4} {x6 = x6} {x7 = x7} t1 t2 g3 t4 g5 t6 t8 g9 =
    for_of n rebuild rebuild [] g3.1 [] g9.1 no_attributes (a_head g3.2) g5.1 no_head g9.2 (no_part (v.attributes [] []) (v.no_attributes refl) (a_mark (mark_item f.For u1 x1 t1) (a_mark (mark_item f.ParenLeft u2 x2 t2) (a_part g3.3 (a_mark (mark_item f.Semicolon u4 x4 t4) (a_part_as (v.value (Some g5.0)) (value_of_expression g5.0) g5.2 (a_mark (mark_item f.Semicolon u6 x6 t6) (no_part (v.header None []) (v.no_header refl) (a_mark (mark_item f.ParenRight u7 x7 t8) (a_part g9.4 end)))))))))) (λ b o. tt) (λ b o. refl) (λ b o. g9.4.ended _ _)

pub s_for_statement_from_while : (n k3 k5 k9 : ℕ) → Is StatementRead n → As Headed k3 → As Expressed k5 → As Blocked k9 → Makes n (token (fixed_class f.For) ∷ token (fixed_class f.ParenLeft) ∷ phrase k3 ∷ token (fixed_class f.Semicolon) ∷ phrase k5 ∷ token (fixed_class f.Semicolon) ∷ token (fixed_class f.ParenRight) ∷ phrase k9 ∷ []) (l.Statement label.For) (0 ∷ 1 ∷ 1 ∷ 2 ∷ 1 ∷ 2 ∷ 1 ∷ 0 ∷ 1 ∷ 2 ∷ [])
s_for_statement_from_while n k3 k5 k9 out q3 q5 q9 rebuild _ _ (good_next _ z1 (good_next _ z2 (good_next _ z3 (good_next _ z4 (good_next _ z5 (good_next _ z6 (good_next _ z8 (good_next _ z9 good_end)))))))) = out _ _ (for_statement_from_while n k3 k5 k9 rebuild z1 z2 (q3 _ _ z3) z4 (q5 _ _ z5) z6 z8 (q9 _ _ z9))

pub for_statement_from_while_by : (n k3 k5 k7 k9 : ℕ) → Rebuild n (token (fixed_class f.For) ∷ token (fixed_class f.ParenLeft) ∷ phrase k3 ∷ token (fixed_class f.Semicolon) ∷ phrase k5 ∷ token (fixed_class f.Semicolon) ∷ phrase k7 ∷ token (fixed_class f.ParenRight) ∷ phrase k9 ∷ []) (l.Statement label.For) (0 ∷ 1 ∷ 1 ∷ 2 ∷ 1 ∷ 2 ∷ 1 ∷ 2 ∷ 1 ∷ 2 ∷ []) → {u1 u2 u3 u4 u5 u6 u7 u8 u9 : List SpannedTemplateToken} {x1 x2 x3 x4 x5 x6 x7 x8 x9 : Phrase Part} → OneToken (fixed_class f.For) u1 x1 → OneToken (fixed_class f.ParenLeft) u2 x2 → Headed k3 u3 x3 → OneToken (fixed_class f.Semicolon) u4 x4 → Expressed k5 u5 x5 → OneToken (fixed_class f.Semicolon) u6 x6 → Headed k7 u7 x7 → OneToken (fixed_class f.ParenRight) u8 x8 → Blocked k9 u9 x9 → StatementRead n (u1 ++ (u2 ++ (u3 ++ (u4 ++ (u5 ++ (u6 ++ (u7 ++ (u8 ++ (u9 ++ []))))))))) (make_of (l.Statement label.For) (0 ∷ 1 ∷ 1 ∷ 2 ∷ 1 ∷ 2 ∷ 1 ∷ 2 ∷ 1 ∷ 2 ∷ []) (x1 ∷ x2 ∷ x3 ∷ x4 ∷ x5 ∷ x6 ∷ x7 ∷ x8 ∷ x9 ∷ []))
for_statement_from_while_by n k3 k5 k7 k9 rebuild {u1 = u1} {u2 = u2} {u3 = u3} {u4 = u4} {u5 = u5} {u6 = u6} {u7 = u7} {u8 = u8} {u9 = u9} {x1 = x1} {x2 = x2} {x4 = x4} {x6 = x6} {x8 = x8} t1 t2 g3 t4 g5 t6 g7 t8 g9 =
    for_of n rebuild rebuild [] g3.1 g7.1 g9.1 no_attributes (a_head g3.2) g5.1 (a_head g7.2) g9.2 (no_part (v.attributes [] []) (v.no_attributes refl) (a_mark (mark_item f.For u1 x1 t1) (a_mark (mark_item f.ParenLeft u2 x2 t2) (a_part g3.3 (a_mark (mark_item f.Semicolon u4 x4 t4) (a_part_as (v.value (Some g5.0)) (value_of_expression g5.0) g5.2 (a_mark (mark_item f.Semicolon u6 x6 t6) (a_part g7.3 (a_mark (mark_item f.ParenRight u8 x8 t8) (a_part g9.4 end)))))))))) (λ b o. tt) (λ b o. refl) (λ b o. g9.4.ended _ _)

pub s_for_statement_from_while_by : (n k3 k5 k7 k9 : ℕ) → Is StatementRead n → As Headed k3 → As Expressed k5 → As Headed k7 → As Blocked k9 → Makes n (token (fixed_class f.For) ∷ token (fixed_class f.ParenLeft) ∷ phrase k3 ∷ token (fixed_class f.Semicolon) ∷ phrase k5 ∷ token (fixed_class f.Semicolon) ∷ phrase k7 ∷ token (fixed_class f.ParenRight) ∷ phrase k9 ∷ []) (l.Statement label.For) (0 ∷ 1 ∷ 1 ∷ 2 ∷ 1 ∷ 2 ∷ 1 ∷ 2 ∷ 1 ∷ 2 ∷ [])
s_for_statement_from_while_by n k3 k5 k7 k9 out q3 q5 q7 q9 rebuild _ _ (good_next _ z1 (good_next _ z2 (good_next _ z3 (good_next _ z4 (good_next _ z5 (good_next _ z6 (good_next _ z7 (good_next _ z8 (good_next _ z9 good_end))))))))) = out _ _ (for_statement_from_while_by n k3 k5 k7 k9 rebuild z1 z2 (q3 _ _ z3) z4 (q5 _ _ z5) z6 (q7 _ _ z7) z8 (q9 _ _ z9))

pub for_statement_attributed : (n k0 k9 : ℕ) → Rebuild n (phrase k0 ∷ token (fixed_class f.For) ∷ token (fixed_class f.ParenLeft) ∷ token (fixed_class f.Semicolon) ∷ token (fixed_class f.Semicolon) ∷ token (fixed_class f.ParenRight) ∷ phrase k9 ∷ []) (l.Statement label.For) (2 ∷ 1 ∷ 1 ∷ 0 ∷ 1 ∷ 0 ∷ 1 ∷ 0 ∷ 1 ∷ 2 ∷ []) → {u1 u2 u3 u4 u5 u6 u7 : List SpannedTemplateToken} {x1 x2 x3 x4 x5 x6 x7 : Phrase Part} → AttributesRowed k0 u1 x1 → OneToken (fixed_class f.For) u2 x2 → OneToken (fixed_class f.ParenLeft) u3 x3 → OneToken (fixed_class f.Semicolon) u4 x4 → OneToken (fixed_class f.Semicolon) u5 x5 → OneToken (fixed_class f.ParenRight) u6 x6 → Blocked k9 u7 x7 → StatementRead n (u1 ++ (u2 ++ (u3 ++ (u4 ++ (u5 ++ (u6 ++ (u7 ++ []))))))) (make_of (l.Statement label.For) (2 ∷ 1 ∷ 1 ∷ 0 ∷ 1 ∷ 0 ∷ 1 ∷ 0 ∷ 1 ∷ 2 ∷ []) (x1 ∷ x2 ∷ x3 ∷ x4 ∷ x5 ∷ x6 ∷ x7 ∷ []))
for_statement_attributed n k0 k9 rebuild {u1 = u1} {u2 = u2} {u3 = u3} {u4 = u4} {u5 = u5} {u6 = u6} {u7 = u7} {x2 = x2} {x3 = x3} {x4 = x4} {x5 = x5} {x6 = x6} g0 t1 t2 t4 t6 t8 g9 =
    for_of n rebuild rebuild g0.2 [] [] g9.1 g0.3 no_head refl no_head g9.2 (a_part g0.4 (a_mark (mark_item f.For u2 x2 t1) (a_mark (mark_item f.ParenLeft u3 x3 t2) (no_part (v.header None []) (v.no_header refl) (a_mark (mark_item f.Semicolon u4 x4 t4) (no_part (v.value None) (v.no_value refl) (a_mark (mark_item f.Semicolon u5 x5 t6) (no_part (v.header None []) (v.no_header refl) (a_mark (mark_item f.ParenRight u6 x6 t8) (a_part g9.4 end)))))))))) (λ b o. tt) (λ b o. refl) (λ b o. g9.4.ended _ _)

pub s_for_statement_attributed : (n k0 k9 : ℕ) → Is StatementRead n → As AttributesRowed k0 → As Blocked k9 → Makes n (phrase k0 ∷ token (fixed_class f.For) ∷ token (fixed_class f.ParenLeft) ∷ token (fixed_class f.Semicolon) ∷ token (fixed_class f.Semicolon) ∷ token (fixed_class f.ParenRight) ∷ phrase k9 ∷ []) (l.Statement label.For) (2 ∷ 1 ∷ 1 ∷ 0 ∷ 1 ∷ 0 ∷ 1 ∷ 0 ∷ 1 ∷ 2 ∷ [])
s_for_statement_attributed n k0 k9 out q0 q9 rebuild _ _ (good_next _ z0 (good_next _ z1 (good_next _ z2 (good_next _ z4 (good_next _ z6 (good_next _ z8 (good_next _ z9 good_end))))))) = out _ _ (for_statement_attributed n k0 k9 rebuild (q0 _ _ z0) z1 z2 z4 z6 z8 (q9 _ _ z9))

pub for_statement_attributed_by : (n k0 k7 k9 : ℕ) → Rebuild n (phrase k0 ∷ token (fixed_class f.For) ∷ token (fixed_class f.ParenLeft) ∷ token (fixed_class f.Semicolon) ∷ token (fixed_class f.Semicolon) ∷ phrase k7 ∷ token (fixed_class f.ParenRight) ∷ phrase k9 ∷ []) (l.Statement label.For) (2 ∷ 1 ∷ 1 ∷ 0 ∷ 1 ∷ 0 ∷ 1 ∷ 2 ∷ 1 ∷ 2 ∷ []) → {u1 u2 u3 u4 u5 u6 u7 u8 : List SpannedTemplateToken} {x1 x2 x3 x4 x5 x6 x7 x8 : Phrase Part} → AttributesRowed k0 u1 x1 → OneToken (fixed_class f.For) u2 x2 → OneToken (fixed_class f.ParenLeft) u3 x3 → OneToken (fixed_class f.Semicolon) u4 x4 → OneToken (fixed_class f.Semicolon) u5 x5 → Headed k7 u6 x6 → OneToken (fixed_class f.ParenRight) u7 x7 → Blocked k9 u8 x8 → StatementRead n (u1 ++ (u2 ++ (u3 ++ (u4 ++ (u5 ++ (u6 ++ (u7 ++ (u8 ++ [])))))))) (make_of (l.Statement label.For) (2 ∷ 1 ∷ 1 ∷ 0 ∷ 1 ∷ 0 ∷ 1 ∷ 2 ∷ 1 ∷ 2 ∷ []) (x1 ∷ x2 ∷ x3 ∷ x4 ∷ x5 ∷ x6 ∷ x7 ∷ x8 ∷ []))
for_statement_attributed_by n k0 k7 k9 rebuild {u1 = u1} {u2 = u2} {u3 = u3} {u4 = u4} {u5 = u5} {u6 = u6} {u7 = u7} {u8 = u8} {x2 = x2} {x3 = x3} {x4 = x4} {x5 = x5} {x7 = x7} g0 t1 t2 t4 t6 g7 t8 g9 =
    for_of n rebuild rebuild g0.2 [] g7.1 g9.1 g0.3 no_head refl (a_head g7.2) g9.2 (a_part g0.4 (a_mark (mark_item f.For u2 x2 t1) (a_mark (mark_item f.ParenLeft u3 x3 t2) (no_part (v.header None []) (v.no_header refl) (a_mark (mark_item f.Semicolon u4 x4 t4) (no_part (v.value None) (v.no_value refl) (a_mark (mark_item f.Semicolon u5 x5 t6) (a_part g7.3 (a_mark (mark_item f.ParenRight u7 x7 t8) (a_part g9.4 end)))))))))) (λ b o. tt) (λ b o. refl) (λ b o. g9.4.ended _ _)

pub s_for_statement_attributed_by : (n k0 k7 k9 : ℕ) → Is StatementRead n → As AttributesRowed k0 → As Headed k7 → As Blocked k9 → Makes n (phrase k0 ∷ token (fixed_class f.For) ∷ token (fixed_class f.ParenLeft) ∷ token (fixed_class f.Semicolon) ∷ token (fixed_class f.Semicolon) ∷ phrase k7 ∷ token (fixed_class f.ParenRight) ∷ phrase k9 ∷ []) (l.Statement label.For) (2 ∷ 1 ∷ 1 ∷ 0 ∷ 1 ∷ 0 ∷ 1 ∷ 2 ∷ 1 ∷ 2 ∷ [])
s_for_statement_attributed_by n k0 k7 k9 out q0 q7 q9 rebuild _ _ (good_next _ z0 (good_next _ z1 (good_next _ z2 (good_next _ z4 (good_next _ z6 (good_next _ z7 (good_next _ z8 (good_next _ z9 good_end)))))))) = out _ _ (for_statement_attributed_by n k0 k7 k9 rebuild (q0 _ _ z0) z1 z2 z4 z6 (q7 _ _ z7) z8 (q9 _ _ z9))

pub for_statement_attributed_while : (n k0 k5 k9 : ℕ) → Rebuild n (phrase k0 ∷ token (fixed_class f.For) ∷ token (fixed_class f.ParenLeft) ∷ token (fixed_class f.Semicolon) ∷ phrase k5 ∷ token (fixed_class f.Semicolon) ∷ token (fixed_class f.ParenRight) ∷ phrase k9 ∷ []) (l.Statement label.For) (2 ∷ 1 ∷ 1 ∷ 0 ∷ 1 ∷ 2 ∷ 1 ∷ 0 ∷ 1 ∷ 2 ∷ []) → {u1 u2 u3 u4 u5 u6 u7 u8 : List SpannedTemplateToken} {x1 x2 x3 x4 x5 x6 x7 x8 : Phrase Part} → AttributesRowed k0 u1 x1 → OneToken (fixed_class f.For) u2 x2 → OneToken (fixed_class f.ParenLeft) u3 x3 → OneToken (fixed_class f.Semicolon) u4 x4 → Expressed k5 u5 x5 → OneToken (fixed_class f.Semicolon) u6 x6 → OneToken (fixed_class f.ParenRight) u7 x7 → Blocked k9 u8 x8 → StatementRead n (u1 ++ (u2 ++ (u3 ++ (u4 ++ (u5 ++ (u6 ++ (u7 ++ (u8 ++ [])))))))) (make_of (l.Statement label.For) (2 ∷ 1 ∷ 1 ∷ 0 ∷ 1 ∷ 2 ∷ 1 ∷ 0 ∷ 1 ∷ 2 ∷ []) (x1 ∷ x2 ∷ x3 ∷ x4 ∷ x5 ∷ x6 ∷ x7 ∷ x8 ∷ []))
for_statement_attributed_while n k0 k5 k9 rebuild {u1 = u1} {u2 = u2} {u3 = u3} {u4 = u4} {u5 = u5} {u6 = u6} {u7 = u7} {u8 = u8} {x2 = x2} {x3 = x3} {x4 = x4} {x6 = x6} {x7 = x7} g0 t1 t2 t4 g5 t6 t8 g9 =
    for_of n rebuild rebuild g0.2 [] [] g9.1 g0.3 no_head g5.1 no_head g9.2 (a_part g0.4 (a_mark (mark_item f.For u2 x2 t1) (a_mark (mark_item f.ParenLeft u3 x3 t2) (no_part (v.header None []) (v.no_header refl) (a_mark (mark_item f.Semicolon u4 x4 t4) (a_part_as (v.value (Some g5.0)) (value_of_expression g5.0) g5.2 (a_mark (mark_item f.Semicolon u6 x6 t6) (no_part (v.header None []) (v.no_header refl) (a_mark (mark_item f.ParenRight u7 x7 t8) (a_part g9.4 end)))))))))) (λ b o. tt) (λ b o. refl) (λ b o. g9.4.ended _ _)

pub s_for_statement_attributed_while : (n k0 k5 k9 : ℕ) → Is StatementRead n → As AttributesRowed k0 → As Expressed k5 → As Blocked k9 → Makes n (phrase k0 ∷ token (fixed_class f.For) ∷ token (fixed_class f.ParenLeft) ∷ token (fixed_class f.Semicolon) ∷ phrase k5 ∷ token (fixed_class f.Semicolon) ∷ token (fixed_class f.ParenRight) ∷ phrase k9 ∷ []) (l.Statement label.For) (2 ∷ 1 ∷ 1 ∷ 0 ∷ 1 ∷ 2 ∷ 1 ∷ 0 ∷ 1 ∷ 2 ∷ [])
s_for_statement_attributed_while n k0 k5 k9 out q0 q5 q9 rebuild _ _ (good_next _ z0 (good_next _ z1 (good_next _ z2 (good_next _ z4 (good_next _ z5 (good_next _ z6 (good_next _ z8 (good_next _ z9 good_end)))))))) = out _ _ (for_statement_attributed_while n k0 k5 k9 rebuild (q0 _ _ z0) z1 z2 z4 (q5 _ _ z5) z6 z8 (q9 _ _ z9))

pub for_statement_attributed_while_by : (n k0 k5 k7 k9 : ℕ) → Rebuild n (phrase k0 ∷ token (fixed_class f.For) ∷ token (fixed_class f.ParenLeft) ∷ token (fixed_class f.Semicolon) ∷ phrase k5 ∷ token (fixed_class f.Semicolon) ∷ phrase k7 ∷ token (fixed_class f.ParenRight) ∷ phrase k9 ∷ []) (l.Statement label.For) (2 ∷ 1 ∷ 1 ∷ 0 ∷ 1 ∷ 2 ∷ 1 ∷ 2 ∷ 1 ∷ 2 ∷ []) → {u1 u2 u3 u4 u5 u6 u7 u8 u9 : List SpannedTemplateToken} {x1 x2 x3 x4 x5 x6 x7 x8 x9 : Phrase Part} → AttributesRowed k0 u1 x1 → OneToken (fixed_class f.For) u2 x2 → OneToken (fixed_class f.ParenLeft) u3 x3 → OneToken (fixed_class f.Semicolon) u4 x4 → Expressed k5 u5 x5 → OneToken (fixed_class f.Semicolon) u6 x6 → Headed k7 u7 x7 → OneToken (fixed_class f.ParenRight) u8 x8 → Blocked k9 u9 x9 → StatementRead n (u1 ++ (u2 ++ (u3 ++ (u4 ++ (u5 ++ (u6 ++ (u7 ++ (u8 ++ (u9 ++ []))))))))) (make_of (l.Statement label.For) (2 ∷ 1 ∷ 1 ∷ 0 ∷ 1 ∷ 2 ∷ 1 ∷ 2 ∷ 1 ∷ 2 ∷ []) (x1 ∷ x2 ∷ x3 ∷ x4 ∷ x5 ∷ x6 ∷ x7 ∷ x8 ∷ x9 ∷ []))
for_statement_attributed_while_by n k0 k5 k7 k9 rebuild {u1 = u1} {u2 = u2} {u3 = u3} {u4 = u4} {u5 = u5} {u6 = u6} {u7 = u7} {u8 = u8} {u9 = u9} {x2 = x2} {x3 = x3} {x4 = x4} {x6 = x6} {x8 = x8} g0 t1 t2 t4 g5 t6 g7 t8 g9 =
    for_of n rebuild rebuild g0.2 [] g7.1 g9.1 g0.3 no_head g5.1 (a_head g7.2) g9.2 (a_part g0.4 (a_mark (mark_item f.For u2 x2 t1) (a_mark (mark_item f.ParenLeft u3 x3 t2) (no_part (v.header None []) (v.no_header refl) (a_mark (mark_item f.Semicolon u4 x4 t4) (a_part_as (v.value (Some g5.0)) (value_of_expression g5.0) g5.2 (a_mark (mark_item f.Semicolon u6 x6 t6) (a_part g7.3 (a_mark (mark_item f.ParenRight u8 x8 t8) (a_part g9.4 end)))))))))) (λ b o. tt) (λ b o. refl) (λ b o. g9.4.ended _ _)

pub s_for_statement_attributed_while_by : (n k0 k5 k7 k9 : ℕ) → Is StatementRead n → As AttributesRowed k0 → As Expressed k5 → As Headed k7 → As Blocked k9 → Makes n (phrase k0 ∷ token (fixed_class f.For) ∷ token (fixed_class f.ParenLeft) ∷ token (fixed_class f.Semicolon) ∷ phrase k5 ∷ token (fixed_class f.Semicolon) ∷ phrase k7 ∷ token (fixed_class f.ParenRight) ∷ phrase k9 ∷ []) (l.Statement label.For) (2 ∷ 1 ∷ 1 ∷ 0 ∷ 1 ∷ 2 ∷ 1 ∷ 2 ∷ 1 ∷ 2 ∷ [])
s_for_statement_attributed_while_by n k0 k5 k7 k9 out q0 q5 q7 q9 rebuild _ _ (good_next _ z0 (good_next _ z1 (good_next _ z2 (good_next _ z4 (good_next _ z5 (good_next _ z6 (good_next _ z7 (good_next _ z8 (good_next _ z9 good_end))))))))) = out _ _ (for_statement_attributed_while_by n k0 k5 k7 k9 rebuild (q0 _ _ z0) z1 z2 z4 (q5 _ _ z5) z6 (q7 _ _ z7) z8 (q9 _ _ z9))

pub for_statement_attributed_from : (n k0 k3 k9 : ℕ) → Rebuild n (phrase k0 ∷ token (fixed_class f.For) ∷ token (fixed_class f.ParenLeft) ∷ phrase k3 ∷ token (fixed_class f.Semicolon) ∷ token (fixed_class f.Semicolon) ∷ token (fixed_class f.ParenRight) ∷ phrase k9 ∷ []) (l.Statement label.For) (2 ∷ 1 ∷ 1 ∷ 2 ∷ 1 ∷ 0 ∷ 1 ∷ 0 ∷ 1 ∷ 2 ∷ []) → {u1 u2 u3 u4 u5 u6 u7 u8 : List SpannedTemplateToken} {x1 x2 x3 x4 x5 x6 x7 x8 : Phrase Part} → AttributesRowed k0 u1 x1 → OneToken (fixed_class f.For) u2 x2 → OneToken (fixed_class f.ParenLeft) u3 x3 → Headed k3 u4 x4 → OneToken (fixed_class f.Semicolon) u5 x5 → OneToken (fixed_class f.Semicolon) u6 x6 → OneToken (fixed_class f.ParenRight) u7 x7 → Blocked k9 u8 x8 → StatementRead n (u1 ++ (u2 ++ (u3 ++ (u4 ++ (u5 ++ (u6 ++ (u7 ++ (u8 ++ [])))))))) (make_of (l.Statement label.For) (2 ∷ 1 ∷ 1 ∷ 2 ∷ 1 ∷ 0 ∷ 1 ∷ 0 ∷ 1 ∷ 2 ∷ []) (x1 ∷ x2 ∷ x3 ∷ x4 ∷ x5 ∷ x6 ∷ x7 ∷ x8 ∷ []))
for_statement_attributed_from n k0 k3 k9 rebuild {u1 = u1} {u2 = u2} {u3 = u3} {u4 = u4} {u5 = u5} {u6 = u6} {u7 = u7} {u8 = u8} {x2 = x2} {x3 = x3} {x5 = x5} {x6 = x6} {x7 = x7} g0 t1 t2 g3 t4 t6 t8 g9 =
    for_of n rebuild rebuild g0.2 g3.1 [] g9.1 g0.3 (a_head g3.2) refl no_head g9.2 (a_part g0.4 (a_mark (mark_item f.For u2 x2 t1) (a_mark (mark_item f.ParenLeft u3 x3 t2) (a_part g3.3 (a_mark (mark_item f.Semicolon u5 x5 t4) (no_part (v.value None) (v.no_value refl) (a_mark (mark_item f.Semicolon u6 x6 t6) (no_part (v.header None []) (v.no_header refl) (a_mark (mark_item f.ParenRight u7 x7 t8) (a_part g9.4 end)))))))))) (λ b o. tt) (λ b o. refl) (λ b o. g9.4.ended _ _)

pub s_for_statement_attributed_from : (n k0 k3 k9 : ℕ) → Is StatementRead n → As AttributesRowed k0 → As Headed k3 → As Blocked k9 → Makes n (phrase k0 ∷ token (fixed_class f.For) ∷ token (fixed_class f.ParenLeft) ∷ phrase k3 ∷ token (fixed_class f.Semicolon) ∷ token (fixed_class f.Semicolon) ∷ token (fixed_class f.ParenRight) ∷ phrase k9 ∷ []) (l.Statement label.For) (2 ∷ 1 ∷ 1 ∷ 2 ∷ 1 ∷ 0 ∷ 1 ∷ 0 ∷ 1 ∷ 2 ∷ [])
s_for_statement_attributed_from n k0 k3 k9 out q0 q3 q9 rebuild _ _ (good_next _ z0 (good_next _ z1 (good_next _ z2 (good_next _ z3 (good_next _ z4 (good_next _ z6 (good_next _ z8 (good_next _ z9 good_end)))))))) = out _ _ (for_statement_attributed_from n k0 k3 k9 rebuild (q0 _ _ z0) z1 z2 (q3 _ _ z3) z4 z6 z8 (q9 _ _ z9))

pub for_statement_attributed_from_by : (n k0 k3 k7 k9 : ℕ) → Rebuild n (phrase k0 ∷ token (fixed_class f.For) ∷ token (fixed_class f.ParenLeft) ∷ phrase k3 ∷ token (fixed_class f.Semicolon) ∷ token (fixed_class f.Semicolon) ∷ phrase k7 ∷ token (fixed_class f.ParenRight) ∷ phrase k9 ∷ []) (l.Statement label.For) (2 ∷ 1 ∷ 1 ∷ 2 ∷ 1 ∷ 0 ∷ 1 ∷ 2 ∷ 1 ∷ 2 ∷ []) → {u1 u2 u3 u4 u5 u6 u7 u8 u9 : List SpannedTemplateToken} {x1 x2 x3 x4 x5 x6 x7 x8 x9 : Phrase Part} → AttributesRowed k0 u1 x1 → OneToken (fixed_class f.For) u2 x2 → OneToken (fixed_class f.ParenLeft) u3 x3 → Headed k3 u4 x4 → OneToken (fixed_class f.Semicolon) u5 x5 → OneToken (fixed_class f.Semicolon) u6 x6 → Headed k7 u7 x7 → OneToken (fixed_class f.ParenRight) u8 x8 → Blocked k9 u9 x9 → StatementRead n (u1 ++ (u2 ++ (u3 ++ (u4 ++ (u5 ++ (u6 ++ (u7 ++ (u8 ++ (u9 ++ []))))))))) (make_of (l.Statement label.For) (2 ∷ 1 ∷ 1 ∷ 2 ∷ 1 ∷ 0 ∷ 1 ∷ 2 ∷ 1 ∷ 2 ∷ []) (x1 ∷ x2 ∷ x3 ∷ x4 ∷ x5 ∷ x6 ∷ x7 ∷ x8 ∷ x9 ∷ []))
for_statement_attributed_from_by n k0 k3 k7 k9 rebuild {u1 = u1} {u2 = u2} {u3 = u3} {u4 = u4} {u5 = u5} {u6 = u6} {u7 = u7} {u8 = u8} {u9 = u9} {x2 = x2} {x3 = x3} {x5 = x5} {x6 = x6} {x8 = x8} g0 t1 t2 g3 t4 t6 g7 t8 g9 =
    for_of n rebuild rebuild g0.2 g3.1 g7.1 g9.1 g0.3 (a_head g3.2) refl (a_head g7.2) g9.2 (a_part g0.4 (a_mark (mark_item f.For u2 x2 t1) (a_mark (mark_item f.ParenLeft u3 x3 t2) (a_part g3.3 (a_mark (mark_item f.Semicolon u5 x5 t4) (no_part (v.value None) (v.no_value refl) (a_mark (mark_item f.Semicolon u6 x6 t6) (a_part g7.3 (a_mark (mark_item f.ParenRight u8 x8 t8) (a_part g9.4 end)))))))))) (λ b o. tt) (λ b o. refl) (λ b o. g9.4.ended _ _)

pub s_for_statement_attributed_from_by : (n k0 k3 k7 k9 : ℕ) → Is StatementRead n → As AttributesRowed k0 → As Headed k3 → As Headed k7 → As Blocked k9 → Makes n (phrase k0 ∷ token (fixed_class f.For) ∷ token (fixed_class f.ParenLeft) ∷ phrase k3 ∷ token (fixed_class f.Semicolon) ∷ token (fixed_class f.Semicolon) ∷ phrase k7 ∷ token (fixed_class f.ParenRight) ∷ phrase k9 ∷ []) (l.Statement label.For) (2 ∷ 1 ∷ 1 ∷ 2 ∷ 1 ∷ 0 ∷ 1 ∷ 2 ∷ 1 ∷ 2 ∷ [])
s_for_statement_attributed_from_by n k0 k3 k7 k9 out q0 q3 q7 q9 rebuild _ _ (good_next _ z0 (good_next _ z1 (good_next _ z2 (good_next _ z3 (good_next _ z4 (good_next _ z6 (good_next _ z7 (good_next _ z8 (good_next _ z9 good_end))))))))) = out _ _ (for_statement_attributed_from_by n k0 k3 k7 k9 rebuild (q0 _ _ z0) z1 z2 (q3 _ _ z3) z4 z6 (q7 _ _ z7) z8 (q9 _ _ z9))

pub for_statement_attributed_from_while : (n k0 k3 k5 k9 : ℕ) → Rebuild n (phrase k0 ∷ token (fixed_class f.For) ∷ token (fixed_class f.ParenLeft) ∷ phrase k3 ∷ token (fixed_class f.Semicolon) ∷ phrase k5 ∷ token (fixed_class f.Semicolon) ∷ token (fixed_class f.ParenRight) ∷ phrase k9 ∷ []) (l.Statement label.For) (2 ∷ 1 ∷ 1 ∷ 2 ∷ 1 ∷ 2 ∷ 1 ∷ 0 ∷ 1 ∷ 2 ∷ []) → {u1 u2 u3 u4 u5 u6 u7 u8 u9 : List SpannedTemplateToken} {x1 x2 x3 x4 x5 x6 x7 x8 x9 : Phrase Part} → AttributesRowed k0 u1 x1 → OneToken (fixed_class f.For) u2 x2 → OneToken (fixed_class f.ParenLeft) u3 x3 → Headed k3 u4 x4 → OneToken (fixed_class f.Semicolon) u5 x5 → Expressed k5 u6 x6 → OneToken (fixed_class f.Semicolon) u7 x7 → OneToken (fixed_class f.ParenRight) u8 x8 → Blocked k9 u9 x9 → StatementRead n (u1 ++ (u2 ++ (u3 ++ (u4 ++ (u5 ++ (u6 ++ (u7 ++ (u8 ++ (u9 ++ []))))))))) (make_of (l.Statement label.For) (2 ∷ 1 ∷ 1 ∷ 2 ∷ 1 ∷ 2 ∷ 1 ∷ 0 ∷ 1 ∷ 2 ∷ []) (x1 ∷ x2 ∷ x3 ∷ x4 ∷ x5 ∷ x6 ∷ x7 ∷ x8 ∷ x9 ∷ []))
for_statement_attributed_from_while n k0 k3 k5 k9 rebuild {u1 = u1} {u2 = u2} {u3 = u3} {u4 = u4} {u5 = u5} {u6 = u6} {u7 = u7} {u8 = u8} {u9 = u9} {x2 = x2} {x3 = x3} {x5 = x5} {x7 = x7} {x8 = x8} g0 t1 t2 g3 t4 g5 t6 t8 g9 =
    for_of n rebuild rebuild g0.2 g3.1 [] g9.1 g0.3 (a_head g3.2) g5.1 no_head g9.2 (a_part g0.4 (a_mark (mark_item f.For u2 x2 t1) (a_mark (mark_item f.ParenLeft u3 x3 t2) (a_part g3.3 (a_mark (mark_item f.Semicolon u5 x5 t4) (a_part_as (v.value (Some g5.0)) (value_of_expression g5.0) g5.2 (a_mark (mark_item f.Semicolon u7 x7 t6) (no_part (v.header None []) (v.no_header refl) (a_mark (mark_item f.ParenRight u8 x8 t8) (a_part g9.4 end)))))))))) (λ b o. tt) (λ b o. refl) (λ b o. g9.4.ended _ _)

pub s_for_statement_attributed_from_while : (n k0 k3 k5 k9 : ℕ) → Is StatementRead n → As AttributesRowed k0 → As Headed k3 → As Expressed k5 → As Blocked k9 → Makes n (phrase k0 ∷ token (fixed_class f.For) ∷ token (fixed_class f.ParenLeft) ∷ phrase k3 ∷ token (fixed_class f.Semicolon) ∷ phrase k5 ∷ token (fixed_class f.Semicolon) ∷ token (fixed_class f.ParenRight) ∷ phrase k9 ∷ []) (l.Statement label.For) (2 ∷ 1 ∷ 1 ∷ 2 ∷ 1 ∷ 2 ∷ 1 ∷ 0 ∷ 1 ∷ 2 ∷ [])
s_for_statement_attributed_from_while n k0 k3 k5 k9 out q0 q3 q5 q9 rebuild _ _ (good_next _ z0 (good_next _ z1 (good_next _ z2 (good_next _ z3 (good_next _ z4 (good_next _ z5 (good_next _ z6 (good_next _ z8 (good_next _ z9 good_end))))))))) = out _ _ (for_statement_attributed_from_while n k0 k3 k5 k9 rebuild (q0 _ _ z0) z1 z2 (q3 _ _ z3) z4 (q5 _ _ z5) z6 z8 (q9 _ _ z9))

pub for_statement_attributed_from_while_by : (n k0 k3 k5 k7 k9 : ℕ) → Rebuild n (phrase k0 ∷ token (fixed_class f.For) ∷ token (fixed_class f.ParenLeft) ∷ phrase k3 ∷ token (fixed_class f.Semicolon) ∷ phrase k5 ∷ token (fixed_class f.Semicolon) ∷ phrase k7 ∷ token (fixed_class f.ParenRight) ∷ phrase k9 ∷ []) (l.Statement label.For) (2 ∷ 1 ∷ 1 ∷ 2 ∷ 1 ∷ 2 ∷ 1 ∷ 2 ∷ 1 ∷ 2 ∷ []) → {u1 u2 u3 u4 u5 u6 u7 u8 u9 u10 : List SpannedTemplateToken} {x1 x2 x3 x4 x5 x6 x7 x8 x9 x10 : Phrase Part} → AttributesRowed k0 u1 x1 → OneToken (fixed_class f.For) u2 x2 → OneToken (fixed_class f.ParenLeft) u3 x3 → Headed k3 u4 x4 → OneToken (fixed_class f.Semicolon) u5 x5 → Expressed k5 u6 x6 → OneToken (fixed_class f.Semicolon) u7 x7 → Headed k7 u8 x8 → OneToken (fixed_class f.ParenRight) u9 x9 → Blocked k9 u10 x10 → StatementRead n (u1 ++ (u2 ++ (u3 ++ (u4 ++ (u5 ++ (u6 ++ (u7 ++ (u8 ++ (u9 ++ (u10 ++ [])))))))))) (make_of (l.Statement label.For) (2 ∷ 1 ∷ 1 ∷ 2 ∷ 1 ∷ 2 ∷ 1 ∷ 2 ∷ 1 ∷ 2 ∷ []) (x1 ∷ x2 ∷ x3 ∷ x4 ∷ x5 ∷ x6 ∷ x7 ∷ x8 ∷ x9 ∷ x10 ∷ []))
for_statement_attributed_from_while_by n k0 k3 k5 k7 k9 rebuild {u1 = u1} {u2 = u2} {u3 = u3} {u4 = u4} {u5 = u5} {u6 = u6} {u7 = u7} {u8 = u8} {u9 = u9} {u10 = u10} {x2 = x2} {x3 = x3} {x5 = x5} {x7 = x7} {x9 = x9} g0 t1 t2 g3 t4 g5 t6 g7 t8 g9 =
    for_of n rebuild rebuild g0.2 g3.1 g7.1 g9.1 g0.3 (a_head g3.2) g5.1 (a_head g7.2) g9.2 (a_part g0.4 (a_mark (mark_item f.For u2 x2 t1) (a_mark (mark_item f.ParenLeft u3 x3 t2) (a_part g3.3 (a_mark (mark_item f.Semicolon u5 x5 t4) (a_part_as (v.value (Some g5.0)) (value_of_expression g5.0) g5.2 (a_mark (mark_item f.Semicolon u7 x7 t6) (a_part g7.3 (a_mark (mark_item f.ParenRight u9 x9 t8) (a_part g9.4 end)))))))))) (λ b o. tt) (λ b o. refl) (λ b o. g9.4.ended _ _)

pub s_for_statement_attributed_from_while_by : (n k0 k3 k5 k7 k9 : ℕ) → Is StatementRead n → As AttributesRowed k0 → As Headed k3 → As Expressed k5 → As Headed k7 → As Blocked k9 → Makes n (phrase k0 ∷ token (fixed_class f.For) ∷ token (fixed_class f.ParenLeft) ∷ phrase k3 ∷ token (fixed_class f.Semicolon) ∷ phrase k5 ∷ token (fixed_class f.Semicolon) ∷ phrase k7 ∷ token (fixed_class f.ParenRight) ∷ phrase k9 ∷ []) (l.Statement label.For) (2 ∷ 1 ∷ 1 ∷ 2 ∷ 1 ∷ 2 ∷ 1 ∷ 2 ∷ 1 ∷ 2 ∷ [])
s_for_statement_attributed_from_while_by n k0 k3 k5 k7 k9 out q0 q3 q5 q7 q9 rebuild _ _ (good_next _ z0 (good_next _ z1 (good_next _ z2 (good_next _ z3 (good_next _ z4 (good_next _ z5 (good_next _ z6 (good_next _ z7 (good_next _ z8 (good_next _ z9 good_end)))))))))) = out _ _ (for_statement_attributed_from_while_by n k0 k3 k5 k7 k9 rebuild (q0 _ _ z0) z1 z2 (q3 _ _ z3) z4 (q5 _ _ z5) z6 (q7 _ _ z7) z8 (q9 _ _ z9))

-- ---- `while`

pub while_statement : (n k2 k3 : ℕ) → Rebuild n (token (fixed_class f.While) ∷ phrase k2 ∷ phrase k3 ∷ []) (l.Statement label.While) (0 ∷ 1 ∷ 2 ∷ 2 ∷ []) → {u1 u2 u3 : List SpannedTemplateToken} {x1 x2 x3 : Phrase Part} → OneToken (fixed_class f.While) u1 x1 → Expressed k2 u2 x2 → Blocked k3 u3 x3 → StatementRead n (u1 ++ (u2 ++ (u3 ++ []))) (make_of (l.Statement label.While) (0 ∷ 1 ∷ 2 ∷ 2 ∷ []) (x1 ∷ x2 ∷ x3 ∷ []))
while_statement n k2 k3 rebuild {u1 = u1} {u2 = u2} {u3 = u3} {x1 = x1} t1 g2 g3 =
    while_of n rebuild rebuild [] g3.1 no_attributes g2.1 g3.2 (no_part (v.attributes [] []) (v.no_attributes refl) (a_mark (mark_item f.While u1 x1 t1) (a_part g2.2 (a_part g3.4 end)))) (λ b o. tt) (λ b o. refl) (λ b o. g3.4.ended _ _)

pub s_while_statement : (n k2 k3 : ℕ) → Is StatementRead n → As Expressed k2 → As Blocked k3 → Makes n (token (fixed_class f.While) ∷ phrase k2 ∷ phrase k3 ∷ []) (l.Statement label.While) (0 ∷ 1 ∷ 2 ∷ 2 ∷ [])
s_while_statement n k2 k3 out q2 q3 rebuild _ _ (good_next _ z1 (good_next _ z2 (good_next _ z3 good_end))) = out _ _ (while_statement n k2 k3 rebuild z1 (q2 _ _ z2) (q3 _ _ z3))

pub while_statement_attributed : (n k0 k2 k3 : ℕ) → Rebuild n (phrase k0 ∷ token (fixed_class f.While) ∷ phrase k2 ∷ phrase k3 ∷ []) (l.Statement label.While) (2 ∷ 1 ∷ 2 ∷ 2 ∷ []) → {u1 u2 u3 u4 : List SpannedTemplateToken} {x1 x2 x3 x4 : Phrase Part} → AttributesRowed k0 u1 x1 → OneToken (fixed_class f.While) u2 x2 → Expressed k2 u3 x3 → Blocked k3 u4 x4 → StatementRead n (u1 ++ (u2 ++ (u3 ++ (u4 ++ [])))) (make_of (l.Statement label.While) (2 ∷ 1 ∷ 2 ∷ 2 ∷ []) (x1 ∷ x2 ∷ x3 ∷ x4 ∷ []))
while_statement_attributed n k0 k2 k3 rebuild {u1 = u1} {u2 = u2} {u3 = u3} {u4 = u4} {x2 = x2} g0 t1 g2 g3 =
    while_of n rebuild rebuild g0.2 g3.1 g0.3 g2.1 g3.2 (a_part g0.4 (a_mark (mark_item f.While u2 x2 t1) (a_part g2.2 (a_part g3.4 end)))) (λ b o. tt) (λ b o. refl) (λ b o. g3.4.ended _ _)

pub s_while_statement_attributed : (n k0 k2 k3 : ℕ) → Is StatementRead n → As AttributesRowed k0 → As Expressed k2 → As Blocked k3 → Makes n (phrase k0 ∷ token (fixed_class f.While) ∷ phrase k2 ∷ phrase k3 ∷ []) (l.Statement label.While) (2 ∷ 1 ∷ 2 ∷ 2 ∷ [])
s_while_statement_attributed n k0 k2 k3 out q0 q2 q3 rebuild _ _ (good_next _ z0 (good_next _ z1 (good_next _ z2 (good_next _ z3 good_end)))) = out _ _ (while_statement_attributed n k0 k2 k3 rebuild (q0 _ _ z0) z1 (q2 _ _ z2) (q3 _ _ z3))

-- ---- blocks

pub braces : (n : ℕ) → Rebuild n (token (fixed_class f.BraceLeft) ∷ token (fixed_class f.BraceRight) ∷ []) (l.Clause clause.Block) (0 ∷ 1 ∷ 0 ∷ 1 ∷ []) → {u1 u2 : List SpannedTemplateToken} {x1 x2 : Phrase Part} → OneToken (fixed_class f.BraceLeft) u1 x1 → OneToken (fixed_class f.BraceRight) u2 x2 → Blocked n (u1 ++ (u2 ++ [])) (make_of (l.Clause clause.Block) (0 ∷ 1 ∷ 0 ∷ 1 ∷ []) (x1 ∷ x2 ∷ []))
braces n rebuild {u1 = u1} {u2 = u2} {x1 = x1} {x2 = x2} t1 t3 =
    block_of n rebuild rebuild [] [] no_attributes no_statements (no_part (v.attributes [] []) (v.no_attributes refl) (a_mark (mark_item f.BraceLeft u1 x1 t1) (no_part (v.statements nil []) (v.no_statements refl) (a_mark (mark_item f.BraceRight u2 x2 t3) end)))) (λ b o. tt) (λ b o. refl) (λ b o. refl) (mark_begins f.BraceLeft (λ us. refl) u1 (u2 ++ []) t1)

pub s_braces : (n : ℕ) → Is Blocked n → Makes n (token (fixed_class f.BraceLeft) ∷ token (fixed_class f.BraceRight) ∷ []) (l.Clause clause.Block) (0 ∷ 1 ∷ 0 ∷ 1 ∷ [])
s_braces n out rebuild _ _ (good_next _ z1 (good_next _ z3 good_end)) = out _ _ (braces n rebuild z1 z3)

pub braces_filled : (n k2 : ℕ) → Rebuild n (token (fixed_class f.BraceLeft) ∷ token (fixed_class f.BraceRight) ∷ []) (l.Clause clause.Block) (0 ∷ 1 ∷ 0 ∷ 1 ∷ []) → Rebuild n (token (fixed_class f.BraceLeft) ∷ phrase k2 ∷ token (fixed_class f.BraceRight) ∷ []) (l.Clause clause.Block) (0 ∷ 1 ∷ 2 ∷ 1 ∷ []) → {u1 u2 u3 : List SpannedTemplateToken} {x1 x2 x3 : Phrase Part} → OneToken (fixed_class f.BraceLeft) u1 x1 → StatementsRead k2 u2 x2 → OneToken (fixed_class f.BraceRight) u3 x3 → Blocked n (u1 ++ (u2 ++ (u3 ++ []))) (make_of (l.Clause clause.Block) (0 ∷ 1 ∷ 2 ∷ 1 ∷ []) (x1 ∷ x2 ∷ x3 ∷ []))
braces_filled n k2 bare rebuild {u1 = u1} {u2 = u2} {u3 = u3} {x1 = x1} {x3 = x3} t1 (some_stated {ts = vs} h2 r2) t3 =
    block_of n rebuild rebuild [] vs no_attributes h2 (no_part (v.attributes [] []) (v.no_attributes refl) (a_mark (mark_item f.BraceLeft u1 x1 t1) (some_lines r2 (a_mark (mark_item f.BraceRight u3 x3 t3) end)))) (λ b o. (refl, tt)) (λ b o. refl) (λ b o. refl) (mark_begins f.BraceLeft (λ us. refl) u1 (u2 ++ (u3 ++ [])) t1)
braces_filled n k2 bare rebuild {u1 = u1} {u2 = u2} {u3 = u3} {x1 = x1} {x3 = x3} t1 (all_void ys2 e2 s2 r2) t3 =
    block_of n rebuild bare [] [] no_attributes no_statements (no_part (v.attributes [] []) (v.no_attributes refl) (a_mark (mark_item f.BraceLeft u1 x1 t1) (a_vanished {n = k2} r2 (a_mark (mark_item f.BraceRight u3 x3 t3) end)))) (λ b o. (refl, tt)) (λ b o. refl) (λ b o. refl) (mark_begins f.BraceLeft (λ us. refl) u1 (u2 ++ (u3 ++ [])) t1)

pub s_braces_filled : (n k2 : ℕ) → Is Blocked n → As StatementsRead k2 → Rebuild n (token (fixed_class f.BraceLeft) ∷ token (fixed_class f.BraceRight) ∷ []) (l.Clause clause.Block) (0 ∷ 1 ∷ 0 ∷ 1 ∷ []) → Makes n (token (fixed_class f.BraceLeft) ∷ phrase k2 ∷ token (fixed_class f.BraceRight) ∷ []) (l.Clause clause.Block) (0 ∷ 1 ∷ 2 ∷ 1 ∷ [])
s_braces_filled n k2 out q2 bare rebuild _ _ (good_next _ z1 (good_next _ z2 (good_next _ z3 good_end))) = out _ _ (braces_filled n k2 bare rebuild z1 (q2 _ _ z2) z3)

pub braces_attributed : (n k0 : ℕ) → Rebuild n (phrase k0 ∷ token (fixed_class f.BraceLeft) ∷ token (fixed_class f.BraceRight) ∷ []) (l.Clause clause.Block) (2 ∷ 1 ∷ 0 ∷ 1 ∷ []) → {u1 u2 u3 : List SpannedTemplateToken} {x1 x2 x3 : Phrase Part} → AttributesRowed k0 u1 x1 → OneToken (fixed_class f.BraceLeft) u2 x2 → OneToken (fixed_class f.BraceRight) u3 x3 → Blocked n (u1 ++ (u2 ++ (u3 ++ []))) (make_of (l.Clause clause.Block) (2 ∷ 1 ∷ 0 ∷ 1 ∷ []) (x1 ∷ x2 ∷ x3 ∷ []))
braces_attributed n k0 rebuild {u1 = u1} {u2 = u2} {u3 = u3} {x2 = x2} {x3 = x3} g0 t1 t3 =
    block_of n rebuild rebuild g0.2 [] g0.3 no_statements (a_part g0.4 (a_mark (mark_item f.BraceLeft u2 x2 t1) (no_part (v.statements nil []) (v.no_statements refl) (a_mark (mark_item f.BraceRight u3 x3 t3) end)))) (λ b o. tt) (λ b o. refl) (λ b o. refl) (begins_then u1 (u2 ++ (u3 ++ [])) g0.5)

pub s_braces_attributed : (n k0 : ℕ) → Is Blocked n → As AttributesRowed k0 → Makes n (phrase k0 ∷ token (fixed_class f.BraceLeft) ∷ token (fixed_class f.BraceRight) ∷ []) (l.Clause clause.Block) (2 ∷ 1 ∷ 0 ∷ 1 ∷ [])
s_braces_attributed n k0 out q0 rebuild _ _ (good_next _ z0 (good_next _ z1 (good_next _ z3 good_end))) = out _ _ (braces_attributed n k0 rebuild (q0 _ _ z0) z1 z3)

pub braces_attributed_filled : (n k0 k2 : ℕ) → Rebuild n (phrase k0 ∷ token (fixed_class f.BraceLeft) ∷ token (fixed_class f.BraceRight) ∷ []) (l.Clause clause.Block) (2 ∷ 1 ∷ 0 ∷ 1 ∷ []) → Rebuild n (phrase k0 ∷ token (fixed_class f.BraceLeft) ∷ phrase k2 ∷ token (fixed_class f.BraceRight) ∷ []) (l.Clause clause.Block) (2 ∷ 1 ∷ 2 ∷ 1 ∷ []) → {u1 u2 u3 u4 : List SpannedTemplateToken} {x1 x2 x3 x4 : Phrase Part} → AttributesRowed k0 u1 x1 → OneToken (fixed_class f.BraceLeft) u2 x2 → StatementsRead k2 u3 x3 → OneToken (fixed_class f.BraceRight) u4 x4 → Blocked n (u1 ++ (u2 ++ (u3 ++ (u4 ++ [])))) (make_of (l.Clause clause.Block) (2 ∷ 1 ∷ 2 ∷ 1 ∷ []) (x1 ∷ x2 ∷ x3 ∷ x4 ∷ []))
braces_attributed_filled n k0 k2 bare rebuild {u1 = u1} {u2 = u2} {u3 = u3} {u4 = u4} {x2 = x2} {x4 = x4} g0 t1 (some_stated {ts = vs} h2 r2) t3 =
    block_of n rebuild rebuild g0.2 vs g0.3 h2 (a_part g0.4 (a_mark (mark_item f.BraceLeft u2 x2 t1) (some_lines r2 (a_mark (mark_item f.BraceRight u4 x4 t3) end)))) (λ b o. (refl, tt)) (λ b o. refl) (λ b o. refl) (begins_then u1 (u2 ++ (u3 ++ (u4 ++ []))) g0.5)
braces_attributed_filled n k0 k2 bare rebuild {u1 = u1} {u2 = u2} {u3 = u3} {u4 = u4} {x2 = x2} {x4 = x4} g0 t1 (all_void ys2 e2 s2 r2) t3 =
    block_of n rebuild bare g0.2 [] g0.3 no_statements (a_part g0.4 (a_mark (mark_item f.BraceLeft u2 x2 t1) (a_vanished {n = k2} r2 (a_mark (mark_item f.BraceRight u4 x4 t3) end)))) (λ b o. (refl, tt)) (λ b o. refl) (λ b o. refl) (begins_then u1 (u2 ++ (u3 ++ (u4 ++ []))) g0.5)

pub s_braces_attributed_filled : (n k0 k2 : ℕ) → Is Blocked n → As AttributesRowed k0 → As StatementsRead k2 → Rebuild n (phrase k0 ∷ token (fixed_class f.BraceLeft) ∷ token (fixed_class f.BraceRight) ∷ []) (l.Clause clause.Block) (2 ∷ 1 ∷ 0 ∷ 1 ∷ []) → Makes n (phrase k0 ∷ token (fixed_class f.BraceLeft) ∷ phrase k2 ∷ token (fixed_class f.BraceRight) ∷ []) (l.Clause clause.Block) (2 ∷ 1 ∷ 2 ∷ 1 ∷ [])
s_braces_attributed_filled n k0 k2 out q0 q2 bare rebuild _ _ (good_next _ z0 (good_next _ z1 (good_next _ z2 (good_next _ z3 good_end)))) = out _ _ (braces_attributed_filled n k0 k2 bare rebuild (q0 _ _ z0) z1 (q2 _ _ z2) z3)

-- ---- `continuing`

pub continuing : (n : ℕ) → Rebuild n (token (fixed_class f.Continuing) ∷ token (fixed_class f.BraceLeft) ∷ token (fixed_class f.BraceRight) ∷ []) (l.Clause clause.Continuing) (1 ∷ 0 ∷ 1 ∷ 0 ∷ 0 ∷ 1 ∷ []) → {u1 u2 u3 : List SpannedTemplateToken} {x1 x2 x3 : Phrase Part} → OneToken (fixed_class f.Continuing) u1 x1 → OneToken (fixed_class f.BraceLeft) u2 x2 → OneToken (fixed_class f.BraceRight) u3 x3 → Continued n (u1 ++ (u2 ++ (u3 ++ []))) (make_of (l.Clause clause.Continuing) (1 ∷ 0 ∷ 1 ∷ 0 ∷ 0 ∷ 1 ∷ []) (x1 ∷ x2 ∷ x3 ∷ []))
continuing n rebuild {u1 = u1} {u2 = u2} {u3 = u3} {x1 = x1} {x2 = x2} {x3 = x3} t0 t2 t5 =
    continuing_of n rebuild rebuild [] [] [] no_attributes no_statements no_break_if (a_mark (mark_item f.Continuing u1 x1 t0) (no_part (v.attributes [] []) (v.no_attributes refl) (a_mark (mark_item f.BraceLeft u2 x2 t2) (no_part (v.statements nil []) (v.no_statements refl) (no_part (v.break_if None []) (v.no_break_if refl) (a_mark (mark_item f.BraceRight u3 x3 t5) end)))))) (λ b o. tt) (λ b o. refl) (λ b o. refl)

pub s_continuing : (n : ℕ) → Is Continued n → Makes n (token (fixed_class f.Continuing) ∷ token (fixed_class f.BraceLeft) ∷ token (fixed_class f.BraceRight) ∷ []) (l.Clause clause.Continuing) (1 ∷ 0 ∷ 1 ∷ 0 ∷ 0 ∷ 1 ∷ [])
s_continuing n out rebuild _ _ (good_next _ z0 (good_next _ z2 (good_next _ z5 good_end))) = out _ _ (continuing n rebuild z0 z2 z5)

pub continuing_broken : (n k4 : ℕ) → Rebuild n (token (fixed_class f.Continuing) ∷ token (fixed_class f.BraceLeft) ∷ phrase k4 ∷ token (fixed_class f.BraceRight) ∷ []) (l.Clause clause.Continuing) (1 ∷ 0 ∷ 1 ∷ 0 ∷ 2 ∷ 1 ∷ []) → {u1 u2 u3 u4 : List SpannedTemplateToken} {x1 x2 x3 x4 : Phrase Part} → OneToken (fixed_class f.Continuing) u1 x1 → OneToken (fixed_class f.BraceLeft) u2 x2 → BrokenIf k4 u3 x3 → OneToken (fixed_class f.BraceRight) u4 x4 → Continued n (u1 ++ (u2 ++ (u3 ++ (u4 ++ [])))) (make_of (l.Clause clause.Continuing) (1 ∷ 0 ∷ 1 ∷ 0 ∷ 2 ∷ 1 ∷ []) (x1 ∷ x2 ∷ x3 ∷ x4 ∷ []))
continuing_broken n k4 rebuild {u1 = u1} {u2 = u2} {u3 = u3} {u4 = u4} {x1 = x1} {x2 = x2} {x4 = x4} t0 t2 g4 t5 =
    continuing_of n rebuild rebuild [] [] g4.1 no_attributes no_statements g4.2 (a_mark (mark_item f.Continuing u1 x1 t0) (no_part (v.attributes [] []) (v.no_attributes refl) (a_mark (mark_item f.BraceLeft u2 x2 t2) (no_part (v.statements nil []) (v.no_statements refl) (a_part g4.3 (a_mark (mark_item f.BraceRight u4 x4 t5) end)))))) (λ b o. tt) (λ b o. refl) (λ b o. refl)

pub s_continuing_broken : (n k4 : ℕ) → Is Continued n → As BrokenIf k4 → Makes n (token (fixed_class f.Continuing) ∷ token (fixed_class f.BraceLeft) ∷ phrase k4 ∷ token (fixed_class f.BraceRight) ∷ []) (l.Clause clause.Continuing) (1 ∷ 0 ∷ 1 ∷ 0 ∷ 2 ∷ 1 ∷ [])
s_continuing_broken n k4 out q4 rebuild _ _ (good_next _ z0 (good_next _ z2 (good_next _ z4 (good_next _ z5 good_end)))) = out _ _ (continuing_broken n k4 rebuild z0 z2 (q4 _ _ z4) z5)

pub continuing_filled : (n k3 : ℕ) → Rebuild n (token (fixed_class f.Continuing) ∷ token (fixed_class f.BraceLeft) ∷ token (fixed_class f.BraceRight) ∷ []) (l.Clause clause.Continuing) (1 ∷ 0 ∷ 1 ∷ 0 ∷ 0 ∷ 1 ∷ []) → Rebuild n (token (fixed_class f.Continuing) ∷ token (fixed_class f.BraceLeft) ∷ phrase k3 ∷ token (fixed_class f.BraceRight) ∷ []) (l.Clause clause.Continuing) (1 ∷ 0 ∷ 1 ∷ 2 ∷ 0 ∷ 1 ∷ []) → {u1 u2 u3 u4 : List SpannedTemplateToken} {x1 x2 x3 x4 : Phrase Part} → OneToken (fixed_class f.Continuing) u1 x1 → OneToken (fixed_class f.BraceLeft) u2 x2 → StatementsRead k3 u3 x3 → OneToken (fixed_class f.BraceRight) u4 x4 → Continued n (u1 ++ (u2 ++ (u3 ++ (u4 ++ [])))) (make_of (l.Clause clause.Continuing) (1 ∷ 0 ∷ 1 ∷ 2 ∷ 0 ∷ 1 ∷ []) (x1 ∷ x2 ∷ x3 ∷ x4 ∷ []))
continuing_filled n k3 bare rebuild {u1 = u1} {u2 = u2} {u3 = u3} {u4 = u4} {x1 = x1} {x2 = x2} {x4 = x4} t0 t2 (some_stated {ts = vs} h3 r3) t5 =
    continuing_of n rebuild rebuild [] vs [] no_attributes h3 no_break_if (a_mark (mark_item f.Continuing u1 x1 t0) (no_part (v.attributes [] []) (v.no_attributes refl) (a_mark (mark_item f.BraceLeft u2 x2 t2) (some_lines r3 (no_part (v.break_if None []) (v.no_break_if refl) (a_mark (mark_item f.BraceRight u4 x4 t5) end)))))) (λ b o. (refl, tt)) (λ b o. refl) (λ b o. refl)
continuing_filled n k3 bare rebuild {u1 = u1} {u2 = u2} {u3 = u3} {u4 = u4} {x1 = x1} {x2 = x2} {x4 = x4} t0 t2 (all_void ys3 e3 s3 r3) t5 =
    continuing_of n rebuild bare [] [] [] no_attributes no_statements no_break_if (a_mark (mark_item f.Continuing u1 x1 t0) (no_part (v.attributes [] []) (v.no_attributes refl) (a_mark (mark_item f.BraceLeft u2 x2 t2) (a_vanished {n = k3} r3 (no_part (v.break_if None []) (v.no_break_if refl) (a_mark (mark_item f.BraceRight u4 x4 t5) end)))))) (λ b o. (refl, tt)) (λ b o. refl) (λ b o. refl)

pub s_continuing_filled : (n k3 : ℕ) → Is Continued n → As StatementsRead k3 → Rebuild n (token (fixed_class f.Continuing) ∷ token (fixed_class f.BraceLeft) ∷ token (fixed_class f.BraceRight) ∷ []) (l.Clause clause.Continuing) (1 ∷ 0 ∷ 1 ∷ 0 ∷ 0 ∷ 1 ∷ []) → Makes n (token (fixed_class f.Continuing) ∷ token (fixed_class f.BraceLeft) ∷ phrase k3 ∷ token (fixed_class f.BraceRight) ∷ []) (l.Clause clause.Continuing) (1 ∷ 0 ∷ 1 ∷ 2 ∷ 0 ∷ 1 ∷ [])
s_continuing_filled n k3 out q3 bare rebuild _ _ (good_next _ z0 (good_next _ z2 (good_next _ z3 (good_next _ z5 good_end)))) = out _ _ (continuing_filled n k3 bare rebuild z0 z2 (q3 _ _ z3) z5)

pub continuing_filled_broken : (n k3 k4 : ℕ) → Rebuild n (token (fixed_class f.Continuing) ∷ token (fixed_class f.BraceLeft) ∷ phrase k4 ∷ token (fixed_class f.BraceRight) ∷ []) (l.Clause clause.Continuing) (1 ∷ 0 ∷ 1 ∷ 0 ∷ 2 ∷ 1 ∷ []) → Rebuild n (token (fixed_class f.Continuing) ∷ token (fixed_class f.BraceLeft) ∷ phrase k3 ∷ phrase k4 ∷ token (fixed_class f.BraceRight) ∷ []) (l.Clause clause.Continuing) (1 ∷ 0 ∷ 1 ∷ 2 ∷ 2 ∷ 1 ∷ []) → {u1 u2 u3 u4 u5 : List SpannedTemplateToken} {x1 x2 x3 x4 x5 : Phrase Part} → OneToken (fixed_class f.Continuing) u1 x1 → OneToken (fixed_class f.BraceLeft) u2 x2 → StatementsRead k3 u3 x3 → BrokenIf k4 u4 x4 → OneToken (fixed_class f.BraceRight) u5 x5 → Continued n (u1 ++ (u2 ++ (u3 ++ (u4 ++ (u5 ++ []))))) (make_of (l.Clause clause.Continuing) (1 ∷ 0 ∷ 1 ∷ 2 ∷ 2 ∷ 1 ∷ []) (x1 ∷ x2 ∷ x3 ∷ x4 ∷ x5 ∷ []))
continuing_filled_broken n k3 k4 bare rebuild {u1 = u1} {u2 = u2} {u3 = u3} {u4 = u4} {u5 = u5} {x1 = x1} {x2 = x2} {x5 = x5} t0 t2 (some_stated {ts = vs} h3 r3) g4 t5 =
    continuing_of n rebuild rebuild [] vs g4.1 no_attributes h3 g4.2 (a_mark (mark_item f.Continuing u1 x1 t0) (no_part (v.attributes [] []) (v.no_attributes refl) (a_mark (mark_item f.BraceLeft u2 x2 t2) (some_lines r3 (a_part g4.3 (a_mark (mark_item f.BraceRight u5 x5 t5) end)))))) (λ b o. (refl, tt)) (λ b o. refl) (λ b o. refl)
continuing_filled_broken n k3 k4 bare rebuild {u1 = u1} {u2 = u2} {u3 = u3} {u4 = u4} {u5 = u5} {x1 = x1} {x2 = x2} {x5 = x5} t0 t2 (all_void ys3 e3 s3 r3) g4 t5 =
    continuing_of n rebuild bare [] [] g4.1 no_attributes no_statements g4.2 (a_mark (mark_item f.Continuing u1 x1 t0) (no_part (v.attributes [] []) (v.no_attributes refl) (a_mark (mark_item f.BraceLeft u2 x2 t2) (a_vanished {n = k3} r3 (a_part g4.3 (a_mark (mark_item f.BraceRight u5 x5 t5) end)))))) (λ b o. (refl, tt)) (λ b o. refl) (λ b o. refl)

pub s_continuing_filled_broken : (n k3 k4 : ℕ) → Is Continued n → As StatementsRead k3 → As BrokenIf k4 → Rebuild n (token (fixed_class f.Continuing) ∷ token (fixed_class f.BraceLeft) ∷ phrase k4 ∷ token (fixed_class f.BraceRight) ∷ []) (l.Clause clause.Continuing) (1 ∷ 0 ∷ 1 ∷ 0 ∷ 2 ∷ 1 ∷ []) → Makes n (token (fixed_class f.Continuing) ∷ token (fixed_class f.BraceLeft) ∷ phrase k3 ∷ phrase k4 ∷ token (fixed_class f.BraceRight) ∷ []) (l.Clause clause.Continuing) (1 ∷ 0 ∷ 1 ∷ 2 ∷ 2 ∷ 1 ∷ [])
s_continuing_filled_broken n k3 k4 out q3 q4 bare rebuild _ _ (good_next _ z0 (good_next _ z2 (good_next _ z3 (good_next _ z4 (good_next _ z5 good_end))))) = out _ _ (continuing_filled_broken n k3 k4 bare rebuild z0 z2 (q3 _ _ z3) (q4 _ _ z4) z5)

pub continuing_attributed : (n k1 : ℕ) → Rebuild n (token (fixed_class f.Continuing) ∷ phrase k1 ∷ token (fixed_class f.BraceLeft) ∷ token (fixed_class f.BraceRight) ∷ []) (l.Clause clause.Continuing) (1 ∷ 2 ∷ 1 ∷ 0 ∷ 0 ∷ 1 ∷ []) → {u1 u2 u3 u4 : List SpannedTemplateToken} {x1 x2 x3 x4 : Phrase Part} → OneToken (fixed_class f.Continuing) u1 x1 → AttributesRowed k1 u2 x2 → OneToken (fixed_class f.BraceLeft) u3 x3 → OneToken (fixed_class f.BraceRight) u4 x4 → Continued n (u1 ++ (u2 ++ (u3 ++ (u4 ++ [])))) (make_of (l.Clause clause.Continuing) (1 ∷ 2 ∷ 1 ∷ 0 ∷ 0 ∷ 1 ∷ []) (x1 ∷ x2 ∷ x3 ∷ x4 ∷ []))
continuing_attributed n k1 rebuild {u1 = u1} {u2 = u2} {u3 = u3} {u4 = u4} {x1 = x1} {x3 = x3} {x4 = x4} t0 g1 t2 t5 =
    continuing_of n rebuild rebuild g1.2 [] [] g1.3 no_statements no_break_if (a_mark (mark_item f.Continuing u1 x1 t0) (a_part g1.4 (a_mark (mark_item f.BraceLeft u3 x3 t2) (no_part (v.statements nil []) (v.no_statements refl) (no_part (v.break_if None []) (v.no_break_if refl) (a_mark (mark_item f.BraceRight u4 x4 t5) end)))))) (λ b o. tt) (λ b o. refl) (λ b o. refl)

pub s_continuing_attributed : (n k1 : ℕ) → Is Continued n → As AttributesRowed k1 → Makes n (token (fixed_class f.Continuing) ∷ phrase k1 ∷ token (fixed_class f.BraceLeft) ∷ token (fixed_class f.BraceRight) ∷ []) (l.Clause clause.Continuing) (1 ∷ 2 ∷ 1 ∷ 0 ∷ 0 ∷ 1 ∷ [])
s_continuing_attributed n k1 out q1 rebuild _ _ (good_next _ z0 (good_next _ z1 (good_next _ z2 (good_next _ z5 good_end)))) = out _ _ (continuing_attributed n k1 rebuild z0 (q1 _ _ z1) z2 z5)

pub continuing_attributed_broken : (n k1 k4 : ℕ) → Rebuild n (token (fixed_class f.Continuing) ∷ phrase k1 ∷ token (fixed_class f.BraceLeft) ∷ phrase k4 ∷ token (fixed_class f.BraceRight) ∷ []) (l.Clause clause.Continuing) (1 ∷ 2 ∷ 1 ∷ 0 ∷ 2 ∷ 1 ∷ []) → {u1 u2 u3 u4 u5 : List SpannedTemplateToken} {x1 x2 x3 x4 x5 : Phrase Part} → OneToken (fixed_class f.Continuing) u1 x1 → AttributesRowed k1 u2 x2 → OneToken (fixed_class f.BraceLeft) u3 x3 → BrokenIf k4 u4 x4 → OneToken (fixed_class f.BraceRight) u5 x5 → Continued n (u1 ++ (u2 ++ (u3 ++ (u4 ++ (u5 ++ []))))) (make_of (l.Clause clause.Continuing) (1 ∷ 2 ∷ 1 ∷ 0 ∷ 2 ∷ 1 ∷ []) (x1 ∷ x2 ∷ x3 ∷ x4 ∷ x5 ∷ []))
continuing_attributed_broken n k1 k4 rebuild {u1 = u1} {u2 = u2} {u3 = u3} {u4 = u4} {u5 = u5} {x1 = x1} {x3 = x3} {x5 = x5} t0 g1 t2 g4 t5 =
    continuing_of n rebuild rebuild g1.2 [] g4.1 g1.3 no_statements g4.2 (a_mark (mark_item f.Continuing u1 x1 t0) (a_part g1.4 (a_mark (mark_item f.BraceLeft u3 x3 t2) (no_part (v.statements nil []) (v.no_statements refl) (a_part g4.3 (a_mark (mark_item f.BraceRight u5 x5 t5) end)))))) (λ b o. tt) (λ b o. refl) (λ b o. refl)

pub s_continuing_attributed_broken : (n k1 k4 : ℕ) → Is Continued n → As AttributesRowed k1 → As BrokenIf k4 → Makes n (token (fixed_class f.Continuing) ∷ phrase k1 ∷ token (fixed_class f.BraceLeft) ∷ phrase k4 ∷ token (fixed_class f.BraceRight) ∷ []) (l.Clause clause.Continuing) (1 ∷ 2 ∷ 1 ∷ 0 ∷ 2 ∷ 1 ∷ [])
s_continuing_attributed_broken n k1 k4 out q1 q4 rebuild _ _ (good_next _ z0 (good_next _ z1 (good_next _ z2 (good_next _ z4 (good_next _ z5 good_end))))) = out _ _ (continuing_attributed_broken n k1 k4 rebuild z0 (q1 _ _ z1) z2 (q4 _ _ z4) z5)

pub continuing_attributed_filled : (n k1 k3 : ℕ) → Rebuild n (token (fixed_class f.Continuing) ∷ phrase k1 ∷ token (fixed_class f.BraceLeft) ∷ token (fixed_class f.BraceRight) ∷ []) (l.Clause clause.Continuing) (1 ∷ 2 ∷ 1 ∷ 0 ∷ 0 ∷ 1 ∷ []) → Rebuild n (token (fixed_class f.Continuing) ∷ phrase k1 ∷ token (fixed_class f.BraceLeft) ∷ phrase k3 ∷ token (fixed_class f.BraceRight) ∷ []) (l.Clause clause.Continuing) (1 ∷ 2 ∷ 1 ∷ 2 ∷ 0 ∷ 1 ∷ []) → {u1 u2 u3 u4 u5 : List SpannedTemplateToken} {x1 x2 x3 x4 x5 : Phrase Part} → OneToken (fixed_class f.Continuing) u1 x1 → AttributesRowed k1 u2 x2 → OneToken (fixed_class f.BraceLeft) u3 x3 → StatementsRead k3 u4 x4 → OneToken (fixed_class f.BraceRight) u5 x5 → Continued n (u1 ++ (u2 ++ (u3 ++ (u4 ++ (u5 ++ []))))) (make_of (l.Clause clause.Continuing) (1 ∷ 2 ∷ 1 ∷ 2 ∷ 0 ∷ 1 ∷ []) (x1 ∷ x2 ∷ x3 ∷ x4 ∷ x5 ∷ []))
continuing_attributed_filled n k1 k3 bare rebuild {u1 = u1} {u2 = u2} {u3 = u3} {u4 = u4} {u5 = u5} {x1 = x1} {x3 = x3} {x5 = x5} t0 g1 t2 (some_stated {ts = vs} h3 r3) t5 =
    continuing_of n rebuild rebuild g1.2 vs [] g1.3 h3 no_break_if (a_mark (mark_item f.Continuing u1 x1 t0) (a_part g1.4 (a_mark (mark_item f.BraceLeft u3 x3 t2) (some_lines r3 (no_part (v.break_if None []) (v.no_break_if refl) (a_mark (mark_item f.BraceRight u5 x5 t5) end)))))) (λ b o. (refl, tt)) (λ b o. refl) (λ b o. refl)
continuing_attributed_filled n k1 k3 bare rebuild {u1 = u1} {u2 = u2} {u3 = u3} {u4 = u4} {u5 = u5} {x1 = x1} {x3 = x3} {x5 = x5} t0 g1 t2 (all_void ys3 e3 s3 r3) t5 =
    continuing_of n rebuild bare g1.2 [] [] g1.3 no_statements no_break_if (a_mark (mark_item f.Continuing u1 x1 t0) (a_part g1.4 (a_mark (mark_item f.BraceLeft u3 x3 t2) (a_vanished {n = k3} r3 (no_part (v.break_if None []) (v.no_break_if refl) (a_mark (mark_item f.BraceRight u5 x5 t5) end)))))) (λ b o. (refl, tt)) (λ b o. refl) (λ b o. refl)

pub s_continuing_attributed_filled : (n k1 k3 : ℕ) → Is Continued n → As AttributesRowed k1 → As StatementsRead k3 → Rebuild n (token (fixed_class f.Continuing) ∷ phrase k1 ∷ token (fixed_class f.BraceLeft) ∷ token (fixed_class f.BraceRight) ∷ []) (l.Clause clause.Continuing) (1 ∷ 2 ∷ 1 ∷ 0 ∷ 0 ∷ 1 ∷ []) → Makes n (token (fixed_class f.Continuing) ∷ phrase k1 ∷ token (fixed_class f.BraceLeft) ∷ phrase k3 ∷ token (fixed_class f.BraceRight) ∷ []) (l.Clause clause.Continuing) (1 ∷ 2 ∷ 1 ∷ 2 ∷ 0 ∷ 1 ∷ [])
s_continuing_attributed_filled n k1 k3 out q1 q3 bare rebuild _ _ (good_next _ z0 (good_next _ z1 (good_next _ z2 (good_next _ z3 (good_next _ z5 good_end))))) = out _ _ (continuing_attributed_filled n k1 k3 bare rebuild z0 (q1 _ _ z1) z2 (q3 _ _ z3) z5)

pub continuing_attributed_filled_broken : (n k1 k3 k4 : ℕ) → Rebuild n (token (fixed_class f.Continuing) ∷ phrase k1 ∷ token (fixed_class f.BraceLeft) ∷ phrase k4 ∷ token (fixed_class f.BraceRight) ∷ []) (l.Clause clause.Continuing) (1 ∷ 2 ∷ 1 ∷ 0 ∷ 2 ∷ 1 ∷ []) → Rebuild n (token (fixed_class f.Continuing) ∷ phrase k1 ∷ token (fixed_class f.BraceLeft) ∷ phrase k3 ∷ phrase k4 ∷ token (fixed_class f.BraceRight) ∷ []) (l.Clause clause.Continuing) (1 ∷ 2 ∷ 1 ∷ 2 ∷ 2 ∷ 1 ∷ []) → {u1 u2 u3 u4 u5 u6 : List SpannedTemplateToken} {x1 x2 x3 x4 x5 x6 : Phrase Part} → OneToken (fixed_class f.Continuing) u1 x1 → AttributesRowed k1 u2 x2 → OneToken (fixed_class f.BraceLeft) u3 x3 → StatementsRead k3 u4 x4 → BrokenIf k4 u5 x5 → OneToken (fixed_class f.BraceRight) u6 x6 → Continued n (u1 ++ (u2 ++ (u3 ++ (u4 ++ (u5 ++ (u6 ++ [])))))) (make_of (l.Clause clause.Continuing) (1 ∷ 2 ∷ 1 ∷ 2 ∷ 2 ∷ 1 ∷ []) (x1 ∷ x2 ∷ x3 ∷ x4 ∷ x5 ∷ x6 ∷ []))
continuing_attributed_filled_broken n k1 k3 k4 bare rebuild {u1 = u1} {u2 = u2} {u3 = u3} {u4 = u4} {u5 = u5} {u6 = u6} {x1 = x1} {x3 = x3} {x6 = x6} t0 g1 t2 (some_stated {ts = vs} h3 r3) g4 t5 =
    continuing_of n rebuild rebuild g1.2 vs g4.1 g1.3 h3 g4.2 (a_mark (mark_item f.Continuing u1 x1 t0) (a_part g1.4 (a_mark (mark_item f.BraceLeft u3 x3 t2) (some_lines r3 (a_part g4.3 (a_mark (mark_item f.BraceRight u6 x6 t5) end)))))) (λ b o. (refl, tt)) (λ b o. refl) (λ b o. refl)
continuing_attributed_filled_broken n k1 k3 k4 bare rebuild {u1 = u1} {u2 = u2} {u3 = u3} {u4 = u4} {u5 = u5} {u6 = u6} {x1 = x1} {x3 = x3} {x6 = x6} t0 g1 t2 (all_void ys3 e3 s3 r3) g4 t5 =
    continuing_of n rebuild bare g1.2 [] g4.1 g1.3 no_statements g4.2 (a_mark (mark_item f.Continuing u1 x1 t0) (a_part g1.4 (a_mark (mark_item f.BraceLeft u3 x3 t2) (a_vanished {n = k3} r3 (a_part g4.3 (a_mark (mark_item f.BraceRight u6 x6 t5) end)))))) (λ b o. (refl, tt)) (λ b o. refl) (λ b o. refl)

pub s_continuing_attributed_filled_broken : (n k1 k3 k4 : ℕ) → Is Continued n → As AttributesRowed k1 → As StatementsRead k3 → As BrokenIf k4 → Rebuild n (token (fixed_class f.Continuing) ∷ phrase k1 ∷ token (fixed_class f.BraceLeft) ∷ phrase k4 ∷ token (fixed_class f.BraceRight) ∷ []) (l.Clause clause.Continuing) (1 ∷ 2 ∷ 1 ∷ 0 ∷ 2 ∷ 1 ∷ []) → Makes n (token (fixed_class f.Continuing) ∷ phrase k1 ∷ token (fixed_class f.BraceLeft) ∷ phrase k3 ∷ phrase k4 ∷ token (fixed_class f.BraceRight) ∷ []) (l.Clause clause.Continuing) (1 ∷ 2 ∷ 1 ∷ 2 ∷ 2 ∷ 1 ∷ [])
s_continuing_attributed_filled_broken n k1 k3 k4 out q1 q3 q4 bare rebuild _ _ (good_next _ z0 (good_next _ z1 (good_next _ z2 (good_next _ z3 (good_next _ z4 (good_next _ z5 good_end)))))) = out _ _ (continuing_attributed_filled_broken n k1 k3 k4 bare rebuild z0 (q1 _ _ z1) z2 (q3 _ _ z3) (q4 _ _ z4) z5)
