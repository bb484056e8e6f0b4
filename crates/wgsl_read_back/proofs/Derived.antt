-- What tokens derive is good as what its nonterminal says: the step of each rule of the grammar, in the order of the rules, and one induction on derivations.
use Rattle.std.proofs.Common.{◌≡◌, refl, sym, ap, ◌∙◌, subst, ℕ, zero, suc, Bool, true, false, List, [], ◌∷◌, ◌++◌, take, drop, take-append-drop, Some, None}
use Rattle.std.specs.List.{list_all}
use Rattle.std.proofs.lemmas.Bool.{and_parts}
use Rattle.wgsl_words.specs.declared.operators.BinaryOperator.TheVariants as o
use Rattle.wgsl_words.specs.declared.operators.UnaryOperator.TheVariants as u
use Rattle.wgsl_words.specs.declared.enumerations.words.AssignmentOperator.TheVariants as a
use Rattle.wgsl_token.specs.declared.token.Fixed.TheVariants as f
use Rattle.wgsl_templates.specs.declared.meaning.token.SpannedTemplateToken.{SpannedTemplateToken}
use Rattle.wgsl_grammar_tables.specs.Grammars.{Symbol, token, phrase, Rule, Derives, a_token, a_phrase, Row, done, next}
use Rattle.wgsl_semantic_values.specs.declared.part.Part.{Part}
use Rattle.wgsl_semantic_values.specs.declared.part.Part.TheVariants.{Absent}
use Rattle.wgsl_semantic_values.specs.declared.label.Label.TheVariants as l
use Rattle.wgsl_parser.specs.Phrase.{Phrase}
use Rattle.wgsl_parser.specs.Gathering.{extent_from, chosen}
use Rattle.wgsl_grammar_tables.specs.Nonterminals as n
use Rattle.wgsl_grammar_tables.specs.Expansion.{Made, made_rules, made_in, rule_in, parts_in, plain, in_a_row, in_a_list, with_commas}
use Rattle.wgsl_grammar_tables.proofs.Written.{rules_are, label_is, parts_are}
use Rattle.wgsl_parser.specs.Phrases.{grammar, made, make}
use Rattle.wgsl_read_back.proofs.Items.{OneToken}
use Rattle.wgsl_read_back.proofs.Rows.{make_of, Rebuild, AllPass, made_parts_pass}
use Rattle.wgsl_semantic_values.specs.declared.label.DirectiveLabel.TheVariants as dir
use Rattle.wgsl_read_back.proofs.Directives.{bare_row, bare_pattern}
use Rattle.wgsl_read_back.proofs.Steps.{PlainStep, always, s_rule, s_rule_of, s_extension, s_setting, s_setting_with, s_control_bare, s_control_attributed, s_enable_bare, s_enable_attributed, s_requires_bare, s_requires_attributed, s_first_name, s_more_names, s_names_without, s_names_with, s_var, s_var_in, s_const_kind, s_override_kind, s_let_kind, s_pass_kind, s_attribute_word, s_reserved_word, s_keyword, s_no_arguments, s_arguments, s_bare_attribute, s_pass_attribute, s_attribute, s_first_attribute, s_more_attributes, s_from_package, s_from_own, s_from_above, s_from_within, s_first_step, s_next_step, s_item, s_renamed, s_collection, s_tree_alone, s_tree_further, s_first_tree, s_more_trees, s_trees_without, s_trees_with, s_import_plain, s_import_from, s_import_attributed, s_import_attributed_from, Sort, unknown, sort_of, GoodAs, Good, GoodRow, good_end, good_next, Step, as_expressed, s_binary, s_unary, s_pass, s_pass_singles, s_pass_types, s_name_alone, s_name_above, s_name_in_package, s_name_within, s_one_up, s_further_up, s_simple, s_templated, s_call_without, s_call_with, s_number, s_true, s_false, s_named, s_called, s_parenthesized, s_component, s_indexed, s_first, s_more, s_listed_without, s_listed_with}
use Rattle.wgsl_read_back.proofs.ValueSteps.{s_asserted, s_assertion, s_assigned, s_break, s_break_if, s_call_stated, s_case, s_case_colon, s_compound, s_const, s_continue, s_decremented, s_default, s_default_colon, s_default_selector, s_discard, s_else, s_else_if, s_first_clause, s_first_else_if, s_first_selector, s_first_statement, s_headed, s_incremented, s_let, s_local, s_more_clause, s_more_else_if, s_more_selectors, s_more_statements, s_override, s_override_set, s_pass_declared, s_pass_placed, s_pass_stated, s_phony, s_phony_assigned, s_place_behind, s_place_component, s_place_indexed, s_place_name, s_place_of, s_place_parenthesized, s_plain_bare, s_plain_attributed, s_return, s_return_with, s_selector, s_selectors_with, s_selectors_without, s_typed, s_typed_as, s_variable, s_variable_set, s_void_statement}
use Rattle.wgsl_read_back.proofs.StatementSteps.{s_braces, s_braces_attributed, s_braces_attributed_filled, s_braces_filled, s_continuing, s_continuing_attributed, s_continuing_attributed_broken, s_continuing_attributed_filled, s_continuing_attributed_filled_broken, s_continuing_broken, s_continuing_filled, s_continuing_filled_broken, s_for_statement, s_for_statement_attributed, s_for_statement_attributed_by, s_for_statement_attributed_from, s_for_statement_attributed_from_by, s_for_statement_attributed_from_while, s_for_statement_attributed_from_while_by, s_for_statement_attributed_while, s_for_statement_attributed_while_by, s_for_statement_by, s_for_statement_from, s_for_statement_from_by, s_for_statement_from_while, s_for_statement_from_while_by, s_for_statement_while, s_for_statement_while_by, s_if_statement, s_if_statement_attributed, s_if_statement_attributed_else, s_if_statement_attributed_else_if, s_if_statement_attributed_else_if_else, s_if_statement_else, s_if_statement_else_if, s_if_statement_else_if_else, s_loop_statement, s_loop_statement_attributed, s_loop_statement_attributed_continuing, s_loop_statement_attributed_filled, s_loop_statement_attributed_filled_continuing, s_loop_statement_attributed_inner, s_loop_statement_attributed_inner_continuing, s_loop_statement_attributed_inner_filled, s_loop_statement_attributed_inner_filled_continuing, s_loop_statement_continuing, s_loop_statement_filled, s_loop_statement_filled_continuing, s_loop_statement_inner, s_loop_statement_inner_continuing, s_loop_statement_inner_filled, s_loop_statement_inner_filled_continuing, s_switch_statement, s_switch_statement_attributed, s_switch_statement_attributed_inner, s_switch_statement_inner, s_while_statement, s_while_statement_attributed}
use Rattle.wgsl_read_back.proofs.ModuleSteps.{s_alias_bare, s_alias_attributed, s_assertion_bare, s_assertion_attributed, s_first_declaration, s_first_directive, s_first_import, s_first_member, s_first_parameter, s_function_attributed_of_none, s_function_attributed_of_none_returning, s_function_attributed_of_some, s_function_attributed_of_some_returning, s_function_of_none, s_function_of_none_returning, s_function_of_some, s_function_of_some_returning, s_global_attributed, s_global_bare, s_member_attributed, s_member_bare, s_members_with, s_members_without, s_module_of_declarations, s_module_of_directives, s_module_of_directives_declarations, s_module_of_imports, s_module_of_imports_declarations, s_module_of_imports_directives, s_module_of_imports_directives_declarations, s_more_declarations, s_more_directives, s_more_imports, s_more_members, s_more_parameters, s_parameter_attributed, s_parameter_bare, s_parameters_with, s_parameters_without, s_result_attributed, s_result_bare, s_structure_bare, s_structure_attributed, s_void_declared}

-- ---- rules by number

rule_made : (ms : List Made) (p : ℕ) (m : Made) → made_in ms p ≡ Some m → rule_in ms p ≡ Some (record { left = m.left; right = m.right })
rule_made [] p m e = absurd cc
rule_made (x ∷ ms) zero m e = let same : x ≡ m = cc in ap (λ (z : Made). let r : Rule = record { left = z.left; right = z.right } in Some r) same
rule_made (x ∷ ms) (suc p) m e = rule_made ms p m e

parts_made : (ms : List Made) (p : ℕ) (m : Made) → made_in ms p ≡ Some m → parts_in ms p ≡ m.parts
parts_made [] p m e = absurd cc
parts_made (x ∷ ms) zero m e = let same : x ≡ m = cc in ap (λ (z : Made). z.parts) same
parts_made (x ∷ ms) (suc p) m e = parts_made ms p m e

makes_as : (p : ℕ) (m : Made) → made_in made_rules p ≡ Some m → (xs : List (Phrase Part)) → make p xs ≡ make_of m.label m.parts xs
makes_as p m e xs = λ i. made (label_is p m e i) (extent_from None xs) (chosen Absent ((parts_are p ∙ parts_made made_rules p m e) i) xs)

pub rebuild_at : (p : ℕ) (m : Made) → made_in made_rules p ≡ Some m → Rebuild m.left m.right m.label m.parts
rebuild_at p m e w ys row =
    let r : Rule = record { left = m.left; right = m.right } in
    subst (Derives grammar (phrase m.left) w) (makes_as p m e ys) (a_phrase p r (rules_are p ∙ rule_made made_rules p m e) row)

record Found (p : ℕ) (r : Rule) : Type 0 where
  made : Made
  is : made_in made_rules p ≡ Some made
  left_is : made.left ≡ r.left
  right_is : made.right ≡ r.right

found_in : (ms : List Made) (p : ℕ) (r : Rule) → rule_in ms p ≡ Some r → (m : Made) × (made_in ms p ≡ Some m) × (m.left ≡ r.left) × (m.right ≡ r.right)
found_in [] p r e = absurd cc
found_in (m ∷ ms) zero r e =
    let q : Rule = record { left = m.left; right = m.right } in
    let same : q ≡ r = cc in
    (m, refl, ap (λ (z : Rule). z.left) same, ap (λ (z : Rule). z.right) same)
found_in (m ∷ ms) (suc p) r e = found_in ms p r e

-- ---- the step of each rule

abbrev Each : List Made → Type 0
Each [] = Unit {0}
Each (m ∷ ms) = Step m × Each ms

each_at : (ms : List Made) → Each ms → (p : ℕ) (m : Made) → made_in ms p ≡ Some m → Step m
each_at [] h p m e = absurd cc
each_at (x ∷ ms) h zero m e = let same : x ≡ m = cc in subst Step same h.0
each_at (x ∷ ms) h (suc p) m e = each_at ms h.1 p m e

each_append : (ms ks : List Made) → Each ms → Each ks → Each (ms ++ ks)
each_append [] ks h g = g
each_append (m ∷ ms) ks h g = (h.0, each_append ms ks h.1 g)

-- one and the others
abbrev ◌&◌ : {A B : Type 0} → A → B → A × B
a & b = (a, b)

infixr 25 ◌&◌
abbrev EachPlain : List Made → Type 0
EachPlain [] = Unit {0}
EachPlain (m ∷ ms) = PlainStep m × EachPlain ms

each_plain : (ms : List Made) → EachPlain ms → Each ms
each_plain [] h = h
each_plain (m ∷ ms) h = (always m h.0, each_plain ms h.1)

-- of the sentences that a text may be, which stand in no row, nothing is said
abbrev is_unknown : Sort → Bool
is_unknown unknown = true
is_unknown _ = false

unknown_step : (m : Made) → is_unknown (sort_of m.left) ≡ true → Step m
unknown_step m e rebuild w xs row pass = go (sort_of m.left) e
  where
    go : (s : Sort) → is_unknown s ≡ true → GoodAs s m.left w (make_of m.label m.parts xs)
    go unknown h = tt
    go _ h = absurd cc

all_unknown : (ms : List Made) → list_all (λ m. is_unknown (sort_of m.left)) ms ≡ true → Each ms
all_unknown [] e = tt
all_unknown (m ∷ ms) e = let h = and_parts (is_unknown (sort_of m.left)) (list_all (λ k. is_unknown (sort_of k.left)) ms) e in (unknown_step m h.0, all_unknown ms h.1)

bare_Item : Rebuild (in_a_list n.Item) (phrase (with_commas n.Item) ∷ []) l.Pass (2 ∷ [])
unfolding made_rules
bare_Item = rebuild_at 321 (record { left = in_a_list n.Item; right = phrase (with_commas n.Item) ∷ []; label = l.Pass; parts = 2 ∷ [] }) refl

bare_Control : Rebuild (plain n.Control) (bare_row (plain n.Rule)) (l.Directive dir.Diagnostic) bare_pattern
unfolding made_rules
bare_Control = rebuild_at 260 (record { left = plain n.Control; right = bare_row (plain n.Rule); label = l.Directive dir.Diagnostic; parts = bare_pattern }) refl

bare_Tree : Rebuild (in_a_list n.Tree) (phrase (with_commas n.Tree) ∷ []) l.Pass (2 ∷ [])
unfolding made_rules
bare_Tree = rebuild_at 333 (record { left = in_a_list n.Tree; right = phrase (with_commas n.Tree) ∷ []; label = l.Pass; parts = 2 ∷ [] }) refl

bare_Extension : Rebuild (in_a_list n.Extension) (phrase (with_commas n.Extension) ∷ []) l.Pass (2 ∷ [])
unfolding made_rules
bare_Extension = rebuild_at 337 (record { left = in_a_list n.Extension; right = phrase (with_commas n.Extension) ∷ []; label = l.Pass; parts = 2 ∷ [] }) refl

bare_Expression : Rebuild (in_a_list n.Expression) (phrase (with_commas n.Expression) ∷ []) l.Pass (2 ∷ [])
unfolding made_rules
bare_Expression = rebuild_at 325 (record { left = in_a_list n.Expression; right = phrase (with_commas n.Expression) ∷ []; label = l.Pass; parts = 2 ∷ [] }) refl

-- from attributes on, from `var` on, from what is behind it on, and so on: each list begins where the one before it has no more of its own
abbrev rules_of_attributes : List Made
rules_of_attributes = drop 63 made_rules

abbrev rules_of_whole_attributes : List Made
rules_of_whole_attributes = drop 34 rules_of_attributes

abbrev rules_of_var : List Made
rules_of_var = drop 5 rules_of_whole_attributes

abbrev rules_of_values : List Made
rules_of_values = drop 2 rules_of_var

abbrev rules_of_plain : List Made
rules_of_plain = drop 24 rules_of_values

abbrev rules_of_if : List Made
rules_of_if = drop 42 rules_of_plain

abbrev rules_of_switch : List Made
rules_of_switch = drop 16 rules_of_if

abbrev rules_of_for : List Made
rules_of_for = drop 20 rules_of_switch

abbrev rules_of_blocks : List Made
rules_of_blocks = drop 18 rules_of_for

abbrev rules_of_imports : List Made
rules_of_imports = drop 19 rules_of_blocks

abbrev rules_of_directives : List Made
rules_of_directives = drop 15 rules_of_imports

abbrev rules_of_declarations : List Made
rules_of_declarations = drop 11 rules_of_directives

abbrev rules_of_kinds : List Made
rules_of_kinds = drop 34 rules_of_declarations

abbrev rules_of_rows : List Made
rules_of_rows = drop 4 rules_of_kinds

abbrev rules_of_more_rows : List Made
rules_of_more_rows = drop 2 rules_of_rows

abbrev rules_of_lists : List Made
rules_of_lists = drop 12 rules_of_more_rows

abbrev rules_of_selectors : List Made
rules_of_selectors = drop 8 rules_of_lists

abbrev rules_of_trees : List Made
rules_of_trees = drop 4 rules_of_selectors

abbrev rules_of_extensions : List Made
rules_of_extensions = drop 4 rules_of_trees

abbrev rules_of_members : List Made
rules_of_members = drop 4 rules_of_extensions

-- names, types, calls, operands and operators
first_steps : EachPlain (take 63 made_rules)
unfolding made_rules
first_steps =
    s_name_alone (plain n.Name) (λ w x h. h)
    & s_name_above (plain n.Name) (plain n.Ups) (λ w x h. h) (λ w x h. h)
    & s_name_in_package (plain n.Name) (λ w x h. h)
    & s_name_within (plain n.Name) (plain n.Name) (λ w x h. h) (λ w x h. h)
    & s_one_up (plain n.Ups) (λ w x h. h)
    & s_further_up (plain n.Ups) (plain n.Ups) (λ w x h. h) (λ w x h. h)
    & s_simple (plain n.Simple) (plain n.Name) (λ w x h. h) (λ w x h. h)
    & s_templated (plain n.Templated) (plain n.Name) (in_a_list n.Item) (λ w x h. h) (λ w x h. h) (λ w x h. h)
    & s_pass_types (plain n.TypeExpression) (plain n.Simple) (λ w x h. h) (λ w x h. h)
    & s_pass_types (plain n.TypeExpression) (plain n.Templated) (λ w x h. h) (λ w x h. h)
    & s_simple (plain n.Callee) (plain n.Name) (λ w x h. h) (λ w x h. h)
    & s_templated (plain n.Callee) (plain n.Name) (in_a_list n.Item) (λ w x h. h) (λ w x h. h) (λ w x h. h)
    & s_call_without (plain n.Call) (plain n.Callee) (λ w x h. h) (λ w x h. h)
    & s_call_with (plain n.Call) (plain n.Callee) (in_a_list n.Expression) (λ w x h. h) (λ w x h. h) (λ w x h. h)
    & s_number (plain n.Primary) (λ w x h. h)
    & s_true (plain n.Primary) (λ w x h. h)
    & s_false (plain n.Primary) (λ w x h. h)
    & s_named (plain n.Primary) (plain n.TypeExpression) (λ w x h. h) (λ w x h. h)
    & s_called (plain n.Primary) (plain n.Call) (λ w x h. h) (λ w x h. h)
    & s_parenthesized (plain n.Primary) (plain n.Expression) (λ w x h. h) (λ w x h. h)
    & s_pass_singles (plain n.Singular) (plain n.Primary) (λ w x h. h) (λ w x h. h)
    & s_component (plain n.Singular) (plain n.Singular) (λ w x h. h) (λ w x h. h)
    & s_indexed (plain n.Singular) (plain n.Singular) (plain n.Expression) (λ w x h. h) (λ w x h. h) (λ w x h. h)
    & s_pass (plain n.Unary) (plain n.Singular) (λ w x h. h) (λ w x h. as_expressed h)
    & s_unary u.LogicalNegation (plain n.Unary) (plain n.Unary) (λ w x h. h) (λ w x h. h)
    & s_unary u.Negation (plain n.Unary) (plain n.Unary) (λ w x h. h) (λ w x h. h)
    & s_unary u.BitwiseComplement (plain n.Unary) (plain n.Unary) (λ w x h. h) (λ w x h. h)
    & s_unary u.Indirection (plain n.Unary) (plain n.Unary) (λ w x h. h) (λ w x h. h)
    & s_unary u.AddressOf (plain n.Unary) (plain n.Unary) (λ w x h. h) (λ w x h. h)
    & s_pass (plain n.Product) (plain n.Unary) (λ w x h. h) (λ w x h. h)
    & s_binary o.Multiplication (plain n.Product) (plain n.Product) (plain n.Unary) (λ w x h. h) (λ w x h. h) (λ w x h. h)
    & s_binary o.Division (plain n.Product) (plain n.Product) (plain n.Unary) (λ w x h. h) (λ w x h. h) (λ w x h. h)
    & s_binary o.Remainder (plain n.Product) (plain n.Product) (plain n.Unary) (λ w x h. h) (λ w x h. h) (λ w x h. h)
    & s_pass (plain n.Sum) (plain n.Product) (λ w x h. h) (λ w x h. h)
    & s_binary o.Addition (plain n.Sum) (plain n.Sum) (plain n.Product) (λ w x h. h) (λ w x h. h) (λ w x h. h)
    & s_binary o.Subtraction (plain n.Sum) (plain n.Sum) (plain n.Product) (λ w x h. h) (λ w x h. h) (λ w x h. h)
    & s_pass (plain n.Shift) (plain n.Sum) (λ w x h. h) (λ w x h. h)
    & s_binary o.ShiftLeft (plain n.Shift) (plain n.Unary) (plain n.Unary) (λ w x h. h) (λ w x h. h) (λ w x h. h)
    & s_binary o.ShiftRight (plain n.Shift) (plain n.Unary) (plain n.Unary) (λ w x h. h) (λ w x h. h) (λ w x h. h)
    & s_pass (plain n.Relational) (plain n.Shift) (λ w x h. h) (λ w x h. h)
    & s_binary o.LessThan (plain n.Relational) (plain n.Shift) (plain n.Shift) (λ w x h. h) (λ w x h. h) (λ w x h. h)
    & s_binary o.LessThanEqual (plain n.Relational) (plain n.Shift) (plain n.Shift) (λ w x h. h) (λ w x h. h) (λ w x h. h)
    & s_binary o.GreaterThan (plain n.Relational) (plain n.Shift) (plain n.Shift) (λ w x h. h) (λ w x h. h) (λ w x h. h)
    & s_binary o.GreaterThanEqual (plain n.Relational) (plain n.Shift) (plain n.Shift) (λ w x h. h) (λ w x h. h) (λ w x h. h)
    & s_binary o.Equality (plain n.Relational) (plain n.Shift) (plain n.Shift) (λ w x h. h) (λ w x h. h) (λ w x h. h)
    & s_binary o.Inequality (plain n.Relational) (plain n.Shift) (plain n.Shift) (λ w x h. h) (λ w x h. h) (λ w x h. h)
    & s_binary o.BitwiseAnd (plain n.Ands) (plain n.Unary) (plain n.Unary) (λ w x h. h) (λ w x h. h) (λ w x h. h)
    & s_binary o.BitwiseAnd (plain n.Ands) (plain n.Ands) (plain n.Unary) (λ w x h. h) (λ w x h. h) (λ w x h. h)
    & s_binary o.BitwiseXor (plain n.Xors) (plain n.Unary) (plain n.Unary) (λ w x h. h) (λ w x h. h) (λ w x h. h)
    & s_binary o.BitwiseXor (plain n.Xors) (plain n.Xors) (plain n.Unary) (λ w x h. h) (λ w x h. h) (λ w x h. h)
    & s_binary o.BitwiseOr (plain n.Ors) (plain n.Unary) (plain n.Unary) (λ w x h. h) (λ w x h. h) (λ w x h. h)
    & s_binary o.BitwiseOr (plain n.Ors) (plain n.Ors) (plain n.Unary) (λ w x h. h) (λ w x h. h) (λ w x h. h)
    & s_binary o.ShortCircuitAnd (plain n.AllOf) (plain n.Relational) (plain n.Relational) (λ w x h. h) (λ w x h. h) (λ w x h. h)
    & s_binary o.ShortCircuitAnd (plain n.AllOf) (plain n.AllOf) (plain n.Relational) (λ w x h. h) (λ w x h. h) (λ w x h. h)
    & s_binary o.ShortCircuitOr (plain n.AnyOf) (plain n.Relational) (plain n.Relational) (λ w x h. h) (λ w x h. h) (λ w x h. h)
    & s_binary o.ShortCircuitOr (plain n.AnyOf) (plain n.AnyOf) (plain n.Relational) (λ w x h. h) (λ w x h. h) (λ w x h. h)
    & s_pass (plain n.Item) (plain n.Relational) (λ w x h. h) (λ w x h. h)
    & s_pass (plain n.Item) (plain n.Ands) (λ w x h. h) (λ w x h. h)
    & s_pass (plain n.Item) (plain n.Xors) (λ w x h. h) (λ w x h. h)
    & s_pass (plain n.Item) (plain n.Ors) (λ w x h. h) (λ w x h. h)
    & s_pass (plain n.Expression) (plain n.Item) (λ w x h. h) (λ w x h. h)
    & s_pass (plain n.Expression) (plain n.AllOf) (λ w x h. h) (λ w x h. h)
    & s_pass (plain n.Expression) (plain n.AnyOf) (λ w x h. h) (λ w x h. h)
    & tt

-- lists of template arguments and of arguments
list_steps : EachPlain (take 8 rules_of_lists)
unfolding made_rules
list_steps =
    s_listed_without (in_a_list n.Item) (with_commas n.Item) (λ w x h. h) (λ w x h. h)
    & s_listed_with (in_a_list n.Item) (with_commas n.Item) (λ w x h. h) (λ w x h. h) bare_Item
    & s_first (with_commas n.Item) (plain n.Item) (λ w x h. h) (λ w x h. h)
    & s_more (with_commas n.Item) (plain n.Item) (λ w x h. h) (λ w x h. h) (λ w x h. h)
    & s_listed_without (in_a_list n.Expression) (with_commas n.Expression) (λ w x h. h) (λ w x h. h)
    & s_listed_with (in_a_list n.Expression) (with_commas n.Expression) (λ w x h. h) (λ w x h. h) bare_Expression
    & s_first (with_commas n.Expression) (plain n.Expression) (λ w x h. h) (λ w x h. h)
    & s_more (with_commas n.Expression) (plain n.Expression) (λ w x h. h) (λ w x h. h) (λ w x h. h)
    & tt

-- rules and settings of diagnostics, extensions and directives
directive_steps : Each (take 11 rules_of_directives)
unfolding made_rules
directive_steps =
    (λ r u xs row pass. s_rule (plain n.Rule) (λ w x h. h) r u xs row)
    & (λ r u xs row pass. s_rule_of (plain n.Rule) (λ w x h. h) r u xs row)
    & s_setting (plain n.Control) (plain n.Rule) (λ w x h. h) (λ w x h. h)
    & s_setting_with (plain n.Control) (plain n.Rule) (λ w x h. h) (λ w x h. h) bare_Control
    & (λ r u xs row pass. s_control_bare (plain n.Directive) (plain n.Control) (λ w x h. h) (λ w x h. h) r u xs row)
    & (λ r u xs row pass. s_control_attributed (plain n.Directive) (in_a_row n.Attribute) (plain n.Control) (λ w x h. h) (λ w x h. h) (λ w x h. h) r u xs row)
    & (λ r u xs row pass. s_extension (plain n.Extension) (λ w x h. h) r u xs row)
    & (λ r u xs row pass. s_enable_bare (plain n.Directive) (in_a_list n.Extension) (λ w x h. h) (λ w x h. h) r u xs row)
    & (λ r u xs row pass. s_enable_attributed (plain n.Directive) (in_a_row n.Attribute) (in_a_list n.Extension) (λ w x h. h) (λ w x h. h) (λ w x h. h) r u xs row)
    & (λ r u xs row pass. s_requires_bare (plain n.Directive) (in_a_list n.Extension) (λ w x h. h) (λ w x h. h) r u xs row)
    & (λ r u xs row pass. s_requires_attributed (plain n.Directive) (in_a_row n.Attribute) (in_a_list n.Extension) (λ w x h. h) (λ w x h. h) (λ w x h. h) r u xs row)
    & tt

-- lists of extensions
extension_steps : EachPlain (take 4 rules_of_extensions)
unfolding made_rules
extension_steps =
    s_names_without (in_a_list n.Extension) (with_commas n.Extension) (λ w x h. h) (λ w x h. h)
    & s_names_with (in_a_list n.Extension) (with_commas n.Extension) (λ w x h. h) (λ w x h. h) bare_Extension
    & s_first_name (with_commas n.Extension) (plain n.Extension) (λ w x h. h) (λ w x h. h)
    & s_more_names (with_commas n.Extension) (plain n.Extension) (λ w x h. h) (λ w x h. h) (λ w x h. h)
    & tt

-- `var` and what is between its brackets
var_steps : Each (take 2 rules_of_var)
unfolding made_rules
var_steps =
    (λ r u xs row pass. s_var (plain n.VarHead) (λ w x h. h) r u xs row)
    & s_var_in (plain n.VarHead) (in_a_list n.Item) (λ w x h. h) (λ w x h. h)
    & tt

-- kinds of declarations
kind_steps : EachPlain (take 4 rules_of_kinds)
unfolding made_rules
kind_steps =
    s_const_kind (plain n.Kind) (λ w x h. h)
    & s_override_kind (plain n.Kind) (λ w x h. h)
    & s_let_kind (plain n.Kind) (λ w x h. h)
    & s_pass_kind (plain n.Kind) (plain n.VarHead) (λ w x h. h) (λ w x h. h)
    & tt

-- words behind `@`, and arguments
word_steps : EachPlain (take 34 rules_of_attributes)
unfolding made_rules
word_steps =
    s_attribute_word (plain n.Word) (λ w x h. h)
    & s_reserved_word (plain n.Word) (λ w x h. h)
    & s_keyword f.Alias refl (λ b o. refl) (plain n.Word) (λ w x h. h)
    & s_keyword f.Break refl (λ b o. refl) (plain n.Word) (λ w x h. h)
    & s_keyword f.Case refl (λ b o. refl) (plain n.Word) (λ w x h. h)
    & s_keyword f.Const refl (λ b o. refl) (plain n.Word) (λ w x h. h)
    & s_keyword f.ConstAssert refl (λ b o. refl) (plain n.Word) (λ w x h. h)
    & s_keyword f.Continue refl (λ b o. refl) (plain n.Word) (λ w x h. h)
    & s_keyword f.Continuing refl (λ b o. refl) (plain n.Word) (λ w x h. h)
    & s_keyword f.Default refl (λ b o. refl) (plain n.Word) (λ w x h. h)
    & s_keyword f.Diagnostic refl (λ b o. refl) (plain n.Word) (λ w x h. h)
    & s_keyword f.Discard refl (λ b o. refl) (plain n.Word) (λ w x h. h)
    & s_keyword f.Else refl (λ b o. refl) (plain n.Word) (λ w x h. h)
    & s_keyword f.Enable refl (λ b o. refl) (plain n.Word) (λ w x h. h)
    & s_keyword f.False refl (λ b o. refl) (plain n.Word) (λ w x h. h)
    & s_keyword f.Fn refl (λ b o. refl) (plain n.Word) (λ w x h. h)
    & s_keyword f.For refl (λ b o. refl) (plain n.Word) (λ w x h. h)
    & s_keyword f.If refl (λ b o. refl) (plain n.Word) (λ w x h. h)
    & s_keyword f.Let refl (λ b o. refl) (plain n.Word) (λ w x h. h)
    & s_keyword f.Loop refl (λ b o. refl) (plain n.Word) (λ w x h. h)
    & s_keyword f.Override refl (λ b o. refl) (plain n.Word) (λ w x h. h)
    & s_keyword f.Requires refl (λ b o. refl) (plain n.Word) (λ w x h. h)
    & s_keyword f.Return refl (λ b o. refl) (plain n.Word) (λ w x h. h)
    & s_keyword f.Struct refl (λ b o. refl) (plain n.Word) (λ w x h. h)
    & s_keyword f.Switch refl (λ b o. refl) (plain n.Word) (λ w x h. h)
    & s_keyword f.True refl (λ b o. refl) (plain n.Word) (λ w x h. h)
    & s_keyword f.Var refl (λ b o. refl) (plain n.Word) (λ w x h. h)
    & s_keyword f.While refl (λ b o. refl) (plain n.Word) (λ w x h. h)
    & s_keyword f.Import refl (λ b o. refl) (plain n.Word) (λ w x h. h)
    & s_keyword f.Package refl (λ b o. refl) (plain n.Word) (λ w x h. h)
    & s_keyword f.Super refl (λ b o. refl) (plain n.Word) (λ w x h. h)
    & s_keyword f.As refl (λ b o. refl) (plain n.Word) (λ w x h. h)
    & s_no_arguments (plain n.Arguments) (λ w x h. h)
    & s_arguments (plain n.Arguments) (in_a_list n.Expression) (λ w x h. h) (λ w x h. h)
    & tt

-- attributes
attribute_steps : Each (take 5 rules_of_whole_attributes)
unfolding made_rules
attribute_steps =
    s_bare_attribute (plain n.Attribute) (plain n.Word) (λ w x h. h) (λ w x h. h)
    & (λ r u xs row pass. s_pass_attribute (plain n.Attribute) (plain n.ClosedAttribute) (λ w x h. h) (λ w x h. h) r u xs row)
    & s_attribute (plain n.ClosedAttribute) (plain n.Word) (plain n.Arguments) (λ w x h. h) (λ w x h. h) (λ w x h. h)
    & (λ r u xs row pass. s_first_attribute (plain n.ClosedAttributes) (plain n.ClosedAttribute) (λ w x h. h) (λ w x h. h) r u xs row)
    & (λ r u xs row pass. s_more_attributes (plain n.ClosedAttributes) (in_a_row n.Attribute) (plain n.ClosedAttribute) (λ w x h. h) (λ w x h. h) (λ w x h. h) r u xs row)
    & tt

-- attributes in a row
row_steps : EachPlain (take 2 rules_of_rows)
unfolding made_rules
row_steps =
    s_first_attribute (in_a_row n.Attribute) (plain n.Attribute) (λ w x h. h) (λ w x h. h)
    & s_more_attributes (in_a_row n.Attribute) (in_a_row n.Attribute) (plain n.Attribute) (λ w x h. h) (λ w x h. h) (λ w x h. h)
    & tt

-- import statements and what they consist of
import_steps : EachPlain (take 15 rules_of_imports)
unfolding made_rules
import_steps =
    s_from_package (plain n.Source) (λ w x h. h)
    & s_from_own (plain n.Source) (λ w x h. h)
    & s_from_above (plain n.Source) (plain n.Ups) (λ w x h. h) (λ w x h. h)
    & s_from_within (plain n.Source) (plain n.Source) (λ w x h. h) (λ w x h. h)
    & s_first_step (plain n.Path) (λ w x h. h)
    & s_next_step (plain n.Path) (plain n.Path) (λ w x h. h) (λ w x h. h)
    & s_item (plain n.Content) (λ w x h. h)
    & s_renamed (plain n.Content) (λ w x h. h)
    & s_collection (plain n.Content) (in_a_list n.Tree) (λ w x h. h) (λ w x h. h)
    & s_tree_alone (plain n.Tree) (plain n.Content) (λ w x h. h) (λ w x h. h)
    & s_tree_further (plain n.Tree) (plain n.Path) (plain n.Content) (λ w x h. h) (λ w x h. h) (λ w x h. h)
    & s_import_plain (plain n.Import) (plain n.Content) (λ w x h. h) (λ w x h. h)
    & s_import_from (plain n.Import) (plain n.Source) (plain n.Content) (λ w x h. h) (λ w x h. h) (λ w x h. h)
    & s_import_attributed (plain n.Import) (in_a_row n.Attribute) (plain n.Content) (λ w x h. h) (λ w x h. h) (λ w x h. h)
    & s_import_attributed_from (plain n.Import) (in_a_row n.Attribute) (plain n.Source) (plain n.Content) (λ w x h. h) (λ w x h. h) (λ w x h. h) (λ w x h. h)
    & tt

-- lists of imports in braces
tree_steps : EachPlain (take 4 rules_of_trees)
unfolding made_rules
tree_steps =
    s_trees_without (in_a_list n.Tree) (with_commas n.Tree) (λ w x h. h) (λ w x h. h)
    & s_trees_with (in_a_list n.Tree) (with_commas n.Tree) (λ w x h. h) (λ w x h. h) bare_Tree
    & s_first_tree (with_commas n.Tree) (plain n.Tree) (λ w x h. h) (λ w x h. h)
    & s_more_trees (with_commas n.Tree) (plain n.Tree) (λ w x h. h) (λ w x h. h) (λ w x h. h)
    & tt

-- names with types, declared values, assertions, and what is assigned to
value_steps : EachPlain (take 24 rules_of_values)
unfolding made_rules
value_steps =
    s_typed (plain n.Typed) (λ w x h. h)
    & s_typed_as (plain n.Typed) (plain n.TypeExpression) (λ w x h. h) (λ w x h. h)
    & s_variable (plain n.Var) (plain n.VarHead) (plain n.Typed) (λ w x h. h) (λ w x h. h) (λ w x h. h)
    & s_variable_set (plain n.Var) (plain n.VarHead) (plain n.Typed) (plain n.Expression) (λ w x h. h) (λ w x h. h) (λ w x h. h) (λ w x h. h)
    & s_const (plain n.Const) (plain n.Typed) (plain n.Expression) (λ w x h. h) (λ w x h. h) (λ w x h. h)
    & s_let (plain n.Let) (plain n.Typed) (plain n.Expression) (λ w x h. h) (λ w x h. h) (λ w x h. h)
    & s_override (plain n.Override) (plain n.Typed) (λ w x h. h) (λ w x h. h)
    & s_override_set (plain n.Override) (plain n.Typed) (plain n.Expression) (λ w x h. h) (λ w x h. h) (λ w x h. h)
    & s_pass_declared (plain n.Local) (plain n.Var) (λ w x h. h) (λ w x h. h)
    & s_pass_declared (plain n.Local) (plain n.Const) (λ w x h. h) (λ w x h. h)
    & s_pass_declared (plain n.Local) (plain n.Let) (λ w x h. h) (λ w x h. h)
    & s_assertion (plain n.Assertion) (plain n.Expression) (λ w x h. h) (λ w x h. h)
    & s_place_behind (plain n.OpenPlace) (plain n.Place) (λ w x h. h) (λ w x h. h)
    & s_place_of (plain n.OpenPlace) (plain n.Place) (λ w x h. h) (λ w x h. h)
    & s_pass_placed (plain n.OpenPlace) (plain n.Target) (λ w x h. h) (λ w x h. h)
    & s_place_name (plain n.Target) (plain n.Name) (λ w x h. h) (λ w x h. h)
    & s_place_component (plain n.Target) (plain n.Target) (λ w x h. h) (λ w x h. h)
    & s_place_indexed (plain n.Target) (plain n.Target) (plain n.Expression) (λ w x h. h) (λ w x h. h) (λ w x h. h)
    & s_place_parenthesized (plain n.EnclosedPlace) (plain n.Place) (λ w x h. h) (λ w x h. h)
    & s_place_component (plain n.EnclosedPlace) (plain n.EnclosedPlace) (λ w x h. h) (λ w x h. h)
    & s_place_indexed (plain n.EnclosedPlace) (plain n.EnclosedPlace) (plain n.Expression) (λ w x h. h) (λ w x h. h) (λ w x h. h)
    & s_pass_placed (plain n.Place) (plain n.OpenPlace) (λ w x h. h) (λ w x h. h)
    & s_pass_placed (plain n.Place) (plain n.EnclosedPlace) (λ w x h. h) (λ w x h. h)
    & s_phony (plain n.Phony) (λ w x h. h)
    & tt

-- statements that hold no other, without their `;`, and the parts of the header of `for`
plain_steps : EachPlain (take 42 rules_of_plain)
unfolding made_rules
plain_steps =
    s_call_stated (plain n.Update) (plain n.Call) (λ w x h. h) (λ w x h. h)
    & s_assigned a.Equal (plain n.Update) (plain n.OpenPlace) (plain n.Expression) (λ w x h. h) (λ w x h. h) (λ w x h. h)
    & s_assigned a.PlusEqual (plain n.Update) (plain n.OpenPlace) (plain n.Expression) (λ w x h. h) (λ w x h. h) (λ w x h. h)
    & s_assigned a.MinusEqual (plain n.Update) (plain n.OpenPlace) (plain n.Expression) (λ w x h. h) (λ w x h. h) (λ w x h. h)
    & s_assigned a.TimesEqual (plain n.Update) (plain n.OpenPlace) (plain n.Expression) (λ w x h. h) (λ w x h. h) (λ w x h. h)
    & s_assigned a.DivisionEqual (plain n.Update) (plain n.OpenPlace) (plain n.Expression) (λ w x h. h) (λ w x h. h) (λ w x h. h)
    & s_assigned a.ModuloEqual (plain n.Update) (plain n.OpenPlace) (plain n.Expression) (λ w x h. h) (λ w x h. h) (λ w x h. h)
    & s_assigned a.AndEqual (plain n.Update) (plain n.OpenPlace) (plain n.Expression) (λ w x h. h) (λ w x h. h) (λ w x h. h)
    & s_assigned a.OrEqual (plain n.Update) (plain n.OpenPlace) (plain n.Expression) (λ w x h. h) (λ w x h. h) (λ w x h. h)
    & s_assigned a.XorEqual (plain n.Update) (plain n.OpenPlace) (plain n.Expression) (λ w x h. h) (λ w x h. h) (λ w x h. h)
    & s_assigned a.ShiftRightAssign (plain n.Update) (plain n.OpenPlace) (plain n.Expression) (λ w x h. h) (λ w x h. h) (λ w x h. h)
    & s_assigned a.ShiftLeftAssign (plain n.Update) (plain n.OpenPlace) (plain n.Expression) (λ w x h. h) (λ w x h. h) (λ w x h. h)
    & s_phony_assigned (plain n.Update) (plain n.Phony) (plain n.Expression) (λ w x h. h) (λ w x h. h) (λ w x h. h)
    & s_incremented (plain n.Update) (plain n.OpenPlace) (λ w x h. h) (λ w x h. h)
    & s_decremented (plain n.Update) (plain n.OpenPlace) (λ w x h. h) (λ w x h. h)
    & s_assigned a.Equal (plain n.EnclosedUpdate) (plain n.EnclosedPlace) (plain n.Expression) (λ w x h. h) (λ w x h. h) (λ w x h. h)
    & s_assigned a.PlusEqual (plain n.EnclosedUpdate) (plain n.EnclosedPlace) (plain n.Expression) (λ w x h. h) (λ w x h. h) (λ w x h. h)
    & s_assigned a.MinusEqual (plain n.EnclosedUpdate) (plain n.EnclosedPlace) (plain n.Expression) (λ w x h. h) (λ w x h. h) (λ w x h. h)
    & s_assigned a.TimesEqual (plain n.EnclosedUpdate) (plain n.EnclosedPlace) (plain n.Expression) (λ w x h. h) (λ w x h. h) (λ w x h. h)
    & s_assigned a.DivisionEqual (plain n.EnclosedUpdate) (plain n.EnclosedPlace) (plain n.Expression) (λ w x h. h) (λ w x h. h) (λ w x h. h)
    & s_assigned a.ModuloEqual (plain n.EnclosedUpdate) (plain n.EnclosedPlace) (plain n.Expression) (λ w x h. h) (λ w x h. h) (λ w x h. h)
    & s_assigned a.AndEqual (plain n.EnclosedUpdate) (plain n.EnclosedPlace) (plain n.Expression) (λ w x h. h) (λ w x h. h) (λ w x h. h)
    & s_assigned a.OrEqual (plain n.EnclosedUpdate) (plain n.EnclosedPlace) (plain n.Expression) (λ w x h. h) (λ w x h. h) (λ w x h. h)
    & s_assigned a.XorEqual (plain n.EnclosedUpdate) (plain n.EnclosedPlace) (plain n.Expression) (λ w x h. h) (λ w x h. h) (λ w x h. h)
    & s_assigned a.ShiftRightAssign (plain n.EnclosedUpdate) (plain n.EnclosedPlace) (plain n.Expression) (λ w x h. h) (λ w x h. h) (λ w x h. h)
    & s_assigned a.ShiftLeftAssign (plain n.EnclosedUpdate) (plain n.EnclosedPlace) (plain n.Expression) (λ w x h. h) (λ w x h. h) (λ w x h. h)
    & s_incremented (plain n.EnclosedUpdate) (plain n.EnclosedPlace) (λ w x h. h) (λ w x h. h)
    & s_decremented (plain n.EnclosedUpdate) (plain n.EnclosedPlace) (λ w x h. h) (λ w x h. h)
    & s_break (plain n.Plain) (λ w x h. h)
    & s_continue (plain n.Plain) (λ w x h. h)
    & s_return (plain n.Plain) (λ w x h. h)
    & s_return_with (plain n.Plain) (plain n.Expression) (λ w x h. h) (λ w x h. h)
    & s_discard (plain n.Plain) (λ w x h. h)
    & s_local (plain n.Plain) (plain n.Local) (λ w x h. h) (λ w x h. h)
    & s_pass_stated (plain n.Plain) (plain n.Update) (λ w x h. h) (λ w x h. h)
    & s_asserted (plain n.Plain) (plain n.Assertion) (λ w x h. h) (λ w x h. h)
    & s_local (plain n.First) (plain n.Local) (λ w x h. h) (λ w x h. h)
    & s_pass_stated (plain n.First) (plain n.Update) (λ w x h. h) (λ w x h. h)
    & s_pass_stated (plain n.First) (plain n.EnclosedUpdate) (λ w x h. h) (λ w x h. h)
    & s_headed (plain n.Initializer) (plain n.First) (λ w x h. h) (λ w x h. h)
    & s_headed (plain n.Next) (plain n.Update) (λ w x h. h) (λ w x h. h)
    & s_headed (plain n.Next) (plain n.EnclosedUpdate) (λ w x h. h) (λ w x h. h)
    & tt

-- a `;` alone, statements that end in one, blocks as statements, and `if`
if_steps : EachPlain (take 16 rules_of_if)
unfolding made_rules
if_steps =
    s_void_statement (plain n.Statement) (λ w x h. h)
    & s_plain_bare (plain n.Statement) (plain n.Plain) (λ w x h. h) (λ w x h. h)
    & s_plain_attributed (plain n.Statement) (in_a_row n.Attribute) (plain n.Plain) (λ w x h. h) (λ w x h. h) (λ w x h. h)
    & s_plain_bare (plain n.Statement) (plain n.EnclosedUpdate) (λ w x h. h) (λ w x h. h)
    & s_plain_attributed (plain n.Statement) (plain n.ClosedAttributes) (plain n.EnclosedUpdate) (λ w x h. h) (λ w x h. h) (λ w x h. h)
    & s_compound (plain n.Statement) (plain n.Block) (λ w x h. h) (λ w x h. h)
    & s_if_statement (plain n.Statement) (plain n.Expression) (plain n.Block) (λ w x h. h) (λ w x h. h) (λ w x h. h)
    & s_if_statement_else (plain n.Statement) (plain n.Expression) (plain n.Block) (plain n.Else) (λ w x h. h) (λ w x h. h) (λ w x h. h) (λ w x h. h)
    & s_if_statement_else_if (plain n.Statement) (plain n.Expression) (plain n.Block) (in_a_row n.ElseIf) (λ w x h. h) (λ w x h. h) (λ w x h. h) (λ w x h. h)
    & s_if_statement_else_if_else (plain n.Statement) (plain n.Expression) (plain n.Block) (in_a_row n.ElseIf) (plain n.Else) (λ w x h. h) (λ w x h. h) (λ w x h. h) (λ w x h. h) (λ w x h. h)
    & s_if_statement_attributed (plain n.Statement) (in_a_row n.Attribute) (plain n.Expression) (plain n.Block) (λ w x h. h) (λ w x h. h) (λ w x h. h) (λ w x h. h)
    & s_if_statement_attributed_else (plain n.Statement) (in_a_row n.Attribute) (plain n.Expression) (plain n.Block) (plain n.Else) (λ w x h. h) (λ w x h. h) (λ w x h. h) (λ w x h. h) (λ w x h. h)
    & s_if_statement_attributed_else_if (plain n.Statement) (in_a_row n.Attribute) (plain n.Expression) (plain n.Block) (in_a_row n.ElseIf) (λ w x h. h) (λ w x h. h) (λ w x h. h) (λ w x h. h) (λ w x h. h)
    & s_if_statement_attributed_else_if_else (plain n.Statement) (in_a_row n.Attribute) (plain n.Expression) (plain n.Block) (in_a_row n.ElseIf) (plain n.Else) (λ w x h. h) (λ w x h. h) (λ w x h. h) (λ w x h. h) (λ w x h. h) (λ w x h. h)
    & s_else_if (plain n.ElseIf) (plain n.Expression) (plain n.Block) (λ w x h. h) (λ w x h. h) (λ w x h. h)
    & s_else (plain n.Else) (plain n.Block) (λ w x h. h) (λ w x h. h)
    & tt

-- `switch` and `loop`
switch_and_loop_steps : EachPlain (take 20 rules_of_switch)
unfolding made_rules
switch_and_loop_steps =
    s_switch_statement (plain n.Statement) (plain n.Expression) (in_a_row n.Clause) (λ w x h. h) (λ w x h. h) (λ w x h. h)
    & s_switch_statement_inner (plain n.Statement) (plain n.Expression) (in_a_row n.Attribute) (in_a_row n.Clause) (λ w x h. h) (λ w x h. h) (λ w x h. h) (λ w x h. h)
    & s_switch_statement_attributed (plain n.Statement) (in_a_row n.Attribute) (plain n.Expression) (in_a_row n.Clause) (λ w x h. h) (λ w x h. h) (λ w x h. h) (λ w x h. h)
    & s_switch_statement_attributed_inner (plain n.Statement) (in_a_row n.Attribute) (plain n.Expression) (in_a_row n.Attribute) (in_a_row n.Clause) (λ w x h. h) (λ w x h. h) (λ w x h. h) (λ w x h. h) (λ w x h. h)
    & s_loop_statement (plain n.Statement) (λ w x h. h)
    & s_loop_statement_continuing (plain n.Statement) (plain n.Continuing) (λ w x h. h) (λ w x h. h)
    & s_loop_statement_filled (plain n.Statement) (in_a_row n.Statement) (λ w x h. h) (λ w x h. h) (rebuild_at 190 _ refl)
    & s_loop_statement_filled_continuing (plain n.Statement) (in_a_row n.Statement) (plain n.Continuing) (λ w x h. h) (λ w x h. h) (λ w x h. h) (rebuild_at 191 _ refl)
    & s_loop_statement_inner (plain n.Statement) (in_a_row n.Attribute) (λ w x h. h) (λ w x h. h)
    & s_loop_statement_inner_continuing (plain n.Statement) (in_a_row n.Attribute) (plain n.Continuing) (λ w x h. h) (λ w x h. h) (λ w x h. h)
    & s_loop_statement_inner_filled (plain n.Statement) (in_a_row n.Attribute) (in_a_row n.Statement) (λ w x h. h) (λ w x h. h) (λ w x h. h) (rebuild_at 194 _ refl)
    & s_loop_statement_inner_filled_continuing (plain n.Statement) (in_a_row n.Attribute) (in_a_row n.Statement) (plain n.Continuing) (λ w x h. h) (λ w x h. h) (λ w x h. h) (λ w x h. h) (rebuild_at 195 _ refl)
    & s_loop_statement_attributed (plain n.Statement) (in_a_row n.Attribute) (λ w x h. h) (λ w x h. h)
    & s_loop_statement_attributed_continuing (plain n.Statement) (in_a_row n.Attribute) (plain n.Continuing) (λ w x h. h) (λ w x h. h) (λ w x h. h)
    & s_loop_statement_attributed_filled (plain n.Statement) (in_a_row n.Attribute) (in_a_row n.Statement) (λ w x h. h) (λ w x h. h) (λ w x h. h) (rebuild_at 198 _ refl)
    & s_loop_statement_attributed_filled_continuing (plain n.Statement) (in_a_row n.Attribute) (in_a_row n.Statement) (plain n.Continuing) (λ w x h. h) (λ w x h. h) (λ w x h. h) (λ w x h. h) (rebuild_at 199 _ refl)
    & s_loop_statement_attributed_inner (plain n.Statement) (in_a_row n.Attribute) (in_a_row n.Attribute) (λ w x h. h) (λ w x h. h) (λ w x h. h)
    & s_loop_statement_attributed_inner_continuing (plain n.Statement) (in_a_row n.Attribute) (in_a_row n.Attribute) (plain n.Continuing) (λ w x h. h) (λ w x h. h) (λ w x h. h) (λ w x h. h)
    & s_loop_statement_attributed_inner_filled (plain n.Statement) (in_a_row n.Attribute) (in_a_row n.Attribute) (in_a_row n.Statement) (λ w x h. h) (λ w x h. h) (λ w x h. h) (λ w x h. h) (rebuild_at 202 _ refl)
    & s_loop_statement_attributed_inner_filled_continuing (plain n.Statement) (in_a_row n.Attribute) (in_a_row n.Attribute) (in_a_row n.Statement) (plain n.Continuing) (λ w x h. h) (λ w x h. h) (λ w x h. h) (λ w x h. h) (λ w x h. h) (rebuild_at 203 _ refl)
    & tt

-- `for` and `while`
for_steps : EachPlain (take 18 rules_of_for)
unfolding made_rules
for_steps =
    s_for_statement (plain n.Statement) (plain n.Block) (λ w x h. h) (λ w x h. h)
    & s_for_statement_by (plain n.Statement) (plain n.Next) (plain n.Block) (λ w x h. h) (λ w x h. h) (λ w x h. h)
    & s_for_statement_while (plain n.Statement) (plain n.Expression) (plain n.Block) (λ w x h. h) (λ w x h. h) (λ w x h. h)
    & s_for_statement_while_by (plain n.Statement) (plain n.Expression) (plain n.Next) (plain n.Block) (λ w x h. h) (λ w x h. h) (λ w x h. h) (λ w x h. h)
    & s_for_statement_from (plain n.Statement) (plain n.Initializer) (plain n.Block) (λ w x h. h) (λ w x h. h) (λ w x h. h)
    & s_for_statement_from_by (plain n.Statement) (plain n.Initializer) (plain n.Next) (plain n.Block) (λ w x h. h) (λ w x h. h) (λ w x h. h) (λ w x h. h)
    & s_for_statement_from_while (plain n.Statement) (plain n.Initializer) (plain n.Expression) (plain n.Block) (λ w x h. h) (λ w x h. h) (λ w x h. h) (λ w x h. h)
    & s_for_statement_from_while_by (plain n.Statement) (plain n.Initializer) (plain n.Expression) (plain n.Next) (plain n.Block) (λ w x h. h) (λ w x h. h) (λ w x h. h) (λ w x h. h) (λ w x h. h)
    & s_for_statement_attributed (plain n.Statement) (in_a_row n.Attribute) (plain n.Block) (λ w x h. h) (λ w x h. h) (λ w x h. h)
    & s_for_statement_attributed_by (plain n.Statement) (in_a_row n.Attribute) (plain n.Next) (plain n.Block) (λ w x h. h) (λ w x h. h) (λ w x h. h) (λ w x h. h)
    & s_for_statement_attributed_while (plain n.Statement) (in_a_row n.Attribute) (plain n.Expression) (plain n.Block) (λ w x h. h) (λ w x h. h) (λ w x h. h) (λ w x h. h)
    & s_for_statement_attributed_while_by (plain n.Statement) (in_a_row n.Attribute) (plain n.Expression) (plain n.Next) (plain n.Block) (λ w x h. h) (λ w x h. h) (λ w x h. h) (λ w x h. h) (λ w x h. h)
    & s_for_statement_attributed_from (plain n.Statement) (in_a_row n.Attribute) (plain n.Initializer) (plain n.Block) (λ w x h. h) (λ w x h. h) (λ w x h. h) (λ w x h. h)
    & s_for_statement_attributed_from_by (plain n.Statement) (in_a_row n.Attribute) (plain n.Initializer) (plain n.Next) (plain n.Block) (λ w x h. h) (λ w x h. h) (λ w x h. h) (λ w x h. h) (λ w x h. h)
    & s_for_statement_attributed_from_while (plain n.Statement) (in_a_row n.Attribute) (plain n.Initializer) (plain n.Expression) (plain n.Block) (λ w x h. h) (λ w x h. h) (λ w x h. h) (λ w x h. h) (λ w x h. h)
    & s_for_statement_attributed_from_while_by (plain n.Statement) (in_a_row n.Attribute) (plain n.Initializer) (plain n.Expression) (plain n.Next) (plain n.Block) (λ w x h. h) (λ w x h. h) (λ w x h. h) (λ w x h. h) (λ w x h. h) (λ w x h. h)
    & s_while_statement (plain n.Statement) (plain n.Expression) (plain n.Block) (λ w x h. h) (λ w x h. h) (λ w x h. h)
    & s_while_statement_attributed (plain n.Statement) (in_a_row n.Attribute) (plain n.Expression) (plain n.Block) (λ w x h. h) (λ w x h. h) (λ w x h. h) (λ w x h. h)
    & tt

-- blocks, selectors and clauses of `switch`, and what ends a loop
block_steps : EachPlain (take 19 rules_of_blocks)
unfolding made_rules
block_steps =
    s_braces (plain n.Block) (λ w x h. h)
    & s_braces_filled (plain n.Block) (in_a_row n.Statement) (λ w x h. h) (λ w x h. h) (rebuild_at 224 _ refl)
    & s_braces_attributed (plain n.Block) (in_a_row n.Attribute) (λ w x h. h) (λ w x h. h)
    & s_braces_attributed_filled (plain n.Block) (in_a_row n.Attribute) (in_a_row n.Statement) (λ w x h. h) (λ w x h. h) (λ w x h. h) (rebuild_at 226 _ refl)
    & s_default_selector (plain n.Selector) (λ w x h. h)
    & s_selector (plain n.Selector) (plain n.Expression) (λ w x h. h) (λ w x h. h)
    & s_case (plain n.Clause) (plain n.Block) (in_a_list n.Selector) (λ w x h. h) (λ w x h. h) (λ w x h. h) (rebuild_at 233 _ refl) (rebuild_at 231 _ refl)
    & s_case_colon (plain n.Clause) (plain n.Block) (in_a_list n.Selector) (λ w x h. h) (λ w x h. h) (λ w x h. h) (rebuild_at 233 _ refl)
    & s_default (plain n.Clause) (plain n.Block) (λ w x h. h) (λ w x h. h) (rebuild_at 233 _ refl)
    & s_default_colon (plain n.Clause) (plain n.Block) (λ w x h. h) (λ w x h. h)
    & s_continuing (plain n.Continuing) (λ w x h. h)
    & s_continuing_broken (plain n.Continuing) (plain n.BreakIf) (λ w x h. h) (λ w x h. h)
    & s_continuing_filled (plain n.Continuing) (in_a_row n.Statement) (λ w x h. h) (λ w x h. h) (rebuild_at 234 _ refl)
    & s_continuing_filled_broken (plain n.Continuing) (in_a_row n.Statement) (plain n.BreakIf) (λ w x h. h) (λ w x h. h) (λ w x h. h) (rebuild_at 235 _ refl)
    & s_continuing_attributed (plain n.Continuing) (in_a_row n.Attribute) (λ w x h. h) (λ w x h. h)
    & s_continuing_attributed_broken (plain n.Continuing) (in_a_row n.Attribute) (plain n.BreakIf) (λ w x h. h) (λ w x h. h) (λ w x h. h)
    & s_continuing_attributed_filled (plain n.Continuing) (in_a_row n.Attribute) (in_a_row n.Statement) (λ w x h. h) (λ w x h. h) (λ w x h. h) (rebuild_at 238 _ refl)
    & s_continuing_attributed_filled_broken (plain n.Continuing) (in_a_row n.Attribute) (in_a_row n.Statement) (plain n.BreakIf) (λ w x h. h) (λ w x h. h) (λ w x h. h) (λ w x h. h) (rebuild_at 239 _ refl)
    & s_break_if (plain n.BreakIf) (plain n.Expression) (λ w x h. h) (λ w x h. h)
    & tt

-- declarations and what they consist of, and modules
declaration_steps : EachPlain (take 34 rules_of_declarations)
unfolding made_rules
declaration_steps =
    s_void_declared (plain n.Declaration) (λ w x h. h)
    & s_global_bare (plain n.Declaration) (plain n.Var) (λ w x h. h) (λ w x h. h)
    & s_global_attributed (plain n.Declaration) (in_a_row n.Attribute) (plain n.Var) (λ w x h. h) (λ w x h. h) (λ w x h. h)
    & s_global_bare (plain n.Declaration) (plain n.Override) (λ w x h. h) (λ w x h. h)
    & s_global_attributed (plain n.Declaration) (in_a_row n.Attribute) (plain n.Override) (λ w x h. h) (λ w x h. h) (λ w x h. h)
    & s_global_bare (plain n.Declaration) (plain n.Const) (λ w x h. h) (λ w x h. h)
    & s_global_attributed (plain n.Declaration) (in_a_row n.Attribute) (plain n.Const) (λ w x h. h) (λ w x h. h) (λ w x h. h)
    & s_alias_bare (plain n.Declaration) (plain n.TypeExpression) (λ w x h. h) (λ w x h. h)
    & s_alias_attributed (plain n.Declaration) (in_a_row n.Attribute) (plain n.TypeExpression) (λ w x h. h) (λ w x h. h) (λ w x h. h)
    & s_assertion_bare (plain n.Declaration) (plain n.Assertion) (λ w x h. h) (λ w x h. h)
    & s_assertion_attributed (plain n.Declaration) (in_a_row n.Attribute) (plain n.Assertion) (λ w x h. h) (λ w x h. h) (λ w x h. h)
    & s_structure_bare (plain n.Declaration) (in_a_list n.Member) (λ w x h. h) (λ w x h. h)
    & s_structure_attributed (plain n.Declaration) (in_a_row n.Attribute) (in_a_list n.Member) (λ w x h. h) (λ w x h. h) (λ w x h. h)
    & s_member_bare (plain n.Member) (plain n.TypeExpression) (λ w x h. h) (λ w x h. h)
    & s_member_attributed (plain n.Member) (in_a_row n.Attribute) (plain n.TypeExpression) (λ w x h. h) (λ w x h. h) (λ w x h. h)
    & s_function_of_none (plain n.Declaration) (plain n.Block) (λ w x h. h) (λ w x h. h)
    & s_function_of_none_returning (plain n.Declaration) (plain n.Result) (plain n.Block) (λ w x h. h) (λ w x h. h) (λ w x h. h)
    & s_function_of_some (plain n.Declaration) (in_a_list n.Parameter) (plain n.Block) (λ w x h. h) (λ w x h. h) (λ w x h. h)
    & s_function_of_some_returning (plain n.Declaration) (in_a_list n.Parameter) (plain n.Result) (plain n.Block) (λ w x h. h) (λ w x h. h) (λ w x h. h) (λ w x h. h)
    & s_function_attributed_of_none (plain n.Declaration) (in_a_row n.Attribute) (plain n.Block) (λ w x h. h) (λ w x h. h) (λ w x h. h)
    & s_function_attributed_of_none_returning (plain n.Declaration) (in_a_row n.Attribute) (plain n.Result) (plain n.Block) (λ w x h. h) (λ w x h. h) (λ w x h. h) (λ w x h. h)
    & s_function_attributed_of_some (plain n.Declaration) (in_a_row n.Attribute) (in_a_list n.Parameter) (plain n.Block) (λ w x h. h) (λ w x h. h) (λ w x h. h) (λ w x h. h)
    & s_function_attributed_of_some_returning (plain n.Declaration) (in_a_row n.Attribute) (in_a_list n.Parameter) (plain n.Result) (plain n.Block) (λ w x h. h) (λ w x h. h) (λ w x h. h) (λ w x h. h) (λ w x h. h)
    & s_parameter_bare (plain n.Parameter) (plain n.TypeExpression) (λ w x h. h) (λ w x h. h)
    & s_parameter_attributed (plain n.Parameter) (in_a_row n.Attribute) (plain n.TypeExpression) (λ w x h. h) (λ w x h. h) (λ w x h. h)
    & s_result_bare (plain n.Result) (plain n.TypeExpression) (λ w x h. h) (λ w x h. h)
    & s_result_attributed (plain n.Result) (in_a_row n.Attribute) (plain n.TypeExpression) (λ w x h. h) (λ w x h. h) (λ w x h. h)
    & s_module_of_declarations (plain n.Module) (in_a_row n.Declaration) (λ w x h. h) (λ w x h. h)
    & s_module_of_directives (plain n.Module) (in_a_row n.Directive) (λ w x h. h) (λ w x h. h)
    & s_module_of_directives_declarations (plain n.Module) (in_a_row n.Directive) (in_a_row n.Declaration) (λ w x h. h) (λ w x h. h) (λ w x h. h) (rebuild_at 297 _ refl)
    & s_module_of_imports (plain n.Module) (in_a_row n.Import) (λ w x h. h) (λ w x h. h)
    & s_module_of_imports_declarations (plain n.Module) (in_a_row n.Import) (in_a_row n.Declaration) (λ w x h. h) (λ w x h. h) (λ w x h. h) (rebuild_at 299 _ refl)
    & s_module_of_imports_directives (plain n.Module) (in_a_row n.Import) (in_a_row n.Directive) (λ w x h. h) (λ w x h. h) (λ w x h. h)
    & s_module_of_imports_directives_declarations (plain n.Module) (in_a_row n.Import) (in_a_row n.Directive) (in_a_row n.Declaration) (λ w x h. h) (λ w x h. h) (λ w x h. h) (λ w x h. h) (rebuild_at 301 _ refl)
    & tt

-- `else if`, clauses, statements, imports, directives and declarations in a row
more_row_steps : EachPlain (take 12 rules_of_more_rows)
unfolding made_rules
more_row_steps =
    s_first_else_if (in_a_row n.ElseIf) (plain n.ElseIf) (λ w x h. h) (λ w x h. h)
    & s_more_else_if (in_a_row n.ElseIf) (plain n.ElseIf) (λ w x h. h) (λ w x h. h) (λ w x h. h)
    & s_first_clause (in_a_row n.Clause) (plain n.Clause) (λ w x h. h) (λ w x h. h)
    & s_more_clause (in_a_row n.Clause) (plain n.Clause) (λ w x h. h) (λ w x h. h) (λ w x h. h)
    & s_first_statement (in_a_row n.Statement) (plain n.Statement) (λ w x h. h) (λ w x h. h)
    & s_more_statements (in_a_row n.Statement) (plain n.Statement) (λ w x h. h) (λ w x h. h) (λ w x h. h) (rebuild_at 313 _ refl)
    & s_first_import (in_a_row n.Import) (plain n.Import) (λ w x h. h) (λ w x h. h)
    & s_more_imports (in_a_row n.Import) (plain n.Import) (λ w x h. h) (λ w x h. h) (λ w x h. h)
    & s_first_directive (in_a_row n.Directive) (plain n.Directive) (λ w x h. h) (λ w x h. h)
    & s_more_directives (in_a_row n.Directive) (plain n.Directive) (λ w x h. h) (λ w x h. h) (λ w x h. h)
    & s_first_declaration (in_a_row n.Declaration) (plain n.Declaration) (λ w x h. h) (λ w x h. h)
    & s_more_declarations (in_a_row n.Declaration) (plain n.Declaration) (λ w x h. h) (λ w x h. h) (λ w x h. h) (rebuild_at 319 _ refl)
    & tt

-- lists of selectors
selector_steps : EachPlain (take 4 rules_of_selectors)
unfolding made_rules
selector_steps =
    s_selectors_without (in_a_list n.Selector) (with_commas n.Selector) (λ w x h. h) (λ w x h. h)
    & s_selectors_with (in_a_list n.Selector) (with_commas n.Selector) (λ w x h. h) (λ w x h. h) (rebuild_at 329 _ refl)
    & s_first_selector (with_commas n.Selector) (plain n.Selector) (λ w x h. h) (λ w x h. h)
    & s_more_selectors (with_commas n.Selector) (plain n.Selector) (λ w x h. h) (λ w x h. h) (λ w x h. h)
    & tt

-- lists of members and of parameters
member_steps : EachPlain (take 8 rules_of_members)
unfolding made_rules
member_steps =
    s_members_without (in_a_list n.Member) (with_commas n.Member) (λ w x h. h) (λ w x h. h) (rebuild_at 342 _ refl)
    & s_members_with (in_a_list n.Member) (with_commas n.Member) (λ w x h. h) (λ w x h. h)
    & s_first_member (with_commas n.Member) (plain n.Member) (λ w x h. h) (λ w x h. h)
    & s_more_members (with_commas n.Member) (plain n.Member) (λ w x h. h) (λ w x h. h) (λ w x h. h)
    & s_parameters_without (in_a_list n.Parameter) (with_commas n.Parameter) (λ w x h. h) (λ w x h. h)
    & s_parameters_with (in_a_list n.Parameter) (with_commas n.Parameter) (λ w x h. h) (λ w x h. h) (rebuild_at 345 _ refl)
    & s_first_parameter (with_commas n.Parameter) (plain n.Parameter) (λ w x h. h) (λ w x h. h)
    & s_more_parameters (with_commas n.Parameter) (plain n.Parameter) (λ w x h. h) (λ w x h. h) (λ w x h. h)
    & tt

-- what is left are the sentences
last_unknown : list_all (λ m. is_unknown (sort_of m.left)) (drop 8 rules_of_members) ≡ true
unfolding made_rules
last_unknown = refl

both_steps : (n : ℕ) (ms : List Made) → Each (take n ms) → Each (drop n ms) → Each ms
both_steps n ms h g = subst Each (take-append-drop n ms) (each_append (take n ms) (drop n ms) h g)

steps : Each made_rules
steps =
    both_steps 63 made_rules (each_plain _ first_steps)
    (both_steps 34 rules_of_attributes (each_plain _ word_steps)
    (both_steps 5 rules_of_whole_attributes attribute_steps
    (both_steps 2 rules_of_var var_steps
    (both_steps 24 rules_of_values (each_plain _ value_steps)
    (both_steps 42 rules_of_plain (each_plain _ plain_steps)
    (both_steps 16 rules_of_if (each_plain _ if_steps)
    (both_steps 20 rules_of_switch (each_plain _ switch_and_loop_steps)
    (both_steps 18 rules_of_for (each_plain _ for_steps)
    (both_steps 19 rules_of_blocks (each_plain _ block_steps)
    (both_steps 15 rules_of_imports (each_plain _ import_steps)
    (both_steps 11 rules_of_directives directive_steps
    (both_steps 34 rules_of_declarations (each_plain _ declaration_steps)
    (both_steps 4 rules_of_kinds (each_plain _ kind_steps)
    (both_steps 2 rules_of_rows (each_plain _ row_steps)
    (both_steps 12 rules_of_more_rows (each_plain _ more_row_steps)
    (both_steps 8 rules_of_lists (each_plain _ list_steps)
    (both_steps 4 rules_of_selectors (each_plain _ selector_steps)
    (both_steps 4 rules_of_trees (each_plain _ tree_steps)
    (both_steps 4 rules_of_extensions (each_plain _ extension_steps)
    (both_steps 8 rules_of_members (each_plain _ member_steps) (all_unknown _ last_unknown)))))))))))))))))))))

-- ---- derivations

-- of a phrase in which no check fails
abbrev pub GoodWhen : Symbol → List SpannedTemplateToken → Phrase Part → Type 0
GoodWhen (token c) u x = OneToken c u x
GoodWhen (phrase k) u x = x.failure ≡ None → Good (phrase k) u x

data RowWhen : List Symbol → List SpannedTemplateToken → List (Phrase Part) → Type 0 where
  when_end : RowWhen [] [] []
  when_next : {s : Symbol} {ss : List Symbol} (u : List SpannedTemplateToken) {w : List SpannedTemplateToken} {x : Phrase Part} {xs : List (Phrase Part)} → GoodWhen s u x → RowWhen ss w xs → RowWhen (s ∷ ss) (u ++ w) (x ∷ xs)

good_now : (s : Symbol) (u : List SpannedTemplateToken) (x : Phrase Part) → GoodWhen s u x → x.failure ≡ None → Good s u x
good_now (token c) u x h e = h
good_now (phrase k) u x h e = h e

row_now : {ss : List Symbol} {u : List SpannedTemplateToken} {xs : List (Phrase Part)} → RowWhen ss u xs → AllPass xs → GoodRow ss u xs
row_now when_end e = good_end
row_now (when_next {s = s} u {x = x} h r) e = good_next u (good_now s u x h e.0) (row_now r e.1)

mutual
  pub derived_when : (s : Symbol) (w : List SpannedTemplateToken) (x : Phrase Part) → Derives grammar s w x → GoodWhen s w x
  derived_when _ _ _ (a_token k) = record { one = k; whole = refl; class = refl; value = refl }
  derived_when _ w _ (a_phrase p r {xs = xs} e row) = λ pass.
      let (m, is, left, right) = found_in made_rules p r (sym (rules_are p) ∙ e) in
      let P : List Symbol → Type 0 = λ ss. RowWhen ss w xs in
      let passed = ap (λ (z : Phrase Part). z.failure) (sym (makes_as p m is xs)) ∙ pass in
      let parts = made_parts_pass m.label m.parts xs passed in
      let good = each_at made_rules steps p m is (rebuild_at p m is) w xs (row_now (subst P (sym right) (row_when r.right w xs row)) parts) passed in
      let Q : ℕ → Type 0 = λ k. Good (phrase k) w (make_of m.label m.parts xs) in
      subst (Good (phrase r.left) w) (sym (makes_as p m is xs)) (subst Q left good)

  row_when : (ss : List Symbol) (w : List SpannedTemplateToken) (xs : List (Phrase Part)) → Row grammar ss w xs → RowWhen ss w xs
  row_when _ _ _ done = when_end
  row_when _ _ _ (next {s = s} {ss = ss} {u = a} {v = b} {x = x} {xs = xs} d r) = when_next a (derived_when s a x d) (row_when ss b xs r)

-- what is derived is good where no check fails in it
pub derived : (s : Symbol) (w : List SpannedTemplateToken) (x : Phrase Part) → Derives grammar s w x → x.failure ≡ None → Good s w x
derived s w x d e = good_now s w x (derived_when s w x d) e
