-- The equality of statements that hold no other is a test of their trees, which tells whether those are one.
use Rattle.std.proofs.Common.{◌≡◌, refl, sym, ap, subst, Bool, true, false, ◌&&◌, List, Option, true≢false}
use Rattle.std.specs.Bool.{Decides}
use Rattle.std.specs.Option.{option_eq, option_map}
use Rattle.std.specs.Str.{bytes_eq}
use Rattle.std.specs.Cmp.{first_so, second_so}
use Rattle.std.specs.Cmp.Lexicographic.{pointwise}
use Rattle.std.proofs.lemmas.Slice.Eq.{bytes_eq-Decides}
use denote.Enum.Bare.{same_true, true_same}
use Rattle.wgsl_words.specs.contracts.enumerations.words.AssignmentOperator.{the_type as operator_type}
use Rattle.wgsl_words.specs.contracts.enumerations.words.AssignmentOperatorPartialEq.TheImpl as operator
use Rattle.wgsl_words.specs.contracts.enumerations.address.AddressSpace.{the_type as space_type}
use Rattle.wgsl_words.specs.contracts.enumerations.address.AccessMode.{the_type as access_type}
use Rattle.wgsl_words.specs.contracts.enumerations.address.AddressSpacePartialEq.TheImpl as space
use Rattle.wgsl_words.specs.contracts.enumerations.address.AccessModePartialEq.TheImpl as access
use Rattle.wgsl_words.specs.declared.enumerations.address.AddressSpace.{AddressSpace}
use Rattle.wgsl_words.specs.declared.enumerations.address.AccessMode.{AccessMode}
use Rattle.wgsl_expressions.specs.declared.expression.Expression.{Expression}
use Rattle.wgsl_expressions.specs.declared.expression.TypeExpressionOf.{TypeExpressionOf}
use Rattle.wgsl_expressions.specs.Tree.{Exp, Typ}
use Rattle.wgsl_expressions.specs.View.{type_tree}
use Rattle.wgsl_expressions.specs.AttributesTree.{Attr}
use Rattle.wgsl_simple_statements.specs.contracts.declaration.DeclarationKindPartialEq.TheImpl as kind
use Rattle.wgsl_simple_statements.specs.contracts.declaration.DeclarationPartialEq.TheImpl as value
use Rattle.wgsl_simple_statements.specs.contracts.declaration.ConstAssertPartialEq.TheImpl as assertion
use Rattle.wgsl_simple_statements.specs.contracts.statement.AssignmentStatementPartialEq.TheImpl as assigned
use Rattle.wgsl_simple_statements.specs.contracts.statement.IncrementStatementPartialEq.TheImpl as incremented
use Rattle.wgsl_simple_statements.specs.contracts.statement.DecrementStatementPartialEq.TheImpl as decremented
use Rattle.wgsl_simple_statements.specs.contracts.statement.BreakStatementPartialEq.TheImpl as broken
use Rattle.wgsl_simple_statements.specs.contracts.statement.ContinueStatementPartialEq.TheImpl as continued
use Rattle.wgsl_simple_statements.specs.contracts.statement.ReturnStatementPartialEq.TheImpl as returned
use Rattle.wgsl_simple_statements.specs.contracts.statement.DiscardStatementPartialEq.TheImpl as discarded
use Rattle.wgsl_simple_statements.specs.contracts.statement.FunctionCallStatementPartialEq.TheImpl as called
use Rattle.wgsl_simple_statements.specs.contracts.statement.BreakIfStatementPartialEq.TheImpl as broken_if
use Rattle.wgsl_simple_statements.specs.contracts.statement.CaseSelectorPartialEq.TheImpl as selector
use Rattle.wgsl_simple_statements.specs.declared.declaration.DeclarationKind.{DeclarationKind}
use Rattle.wgsl_simple_statements.specs.declared.declaration.DeclarationKind.TheVariants as k
use Rattle.wgsl_simple_statements.specs.declared.declaration.Declaration.{Declaration}
use Rattle.wgsl_simple_statements.specs.declared.declaration.ConstAssert.{ConstAssert}
use Rattle.wgsl_simple_statements.specs.declared.statement.AssignmentStatement.{AssignmentStatement}
use Rattle.wgsl_simple_statements.specs.declared.statement.IncrementStatement.{IncrementStatement}
use Rattle.wgsl_simple_statements.specs.declared.statement.DecrementStatement.{DecrementStatement}
use Rattle.wgsl_simple_statements.specs.declared.statement.BreakStatement.{BreakStatement}
use Rattle.wgsl_simple_statements.specs.declared.statement.ContinueStatement.{ContinueStatement}
use Rattle.wgsl_simple_statements.specs.declared.statement.ReturnStatement.{ReturnStatement}
use Rattle.wgsl_simple_statements.specs.declared.statement.DiscardStatement.{DiscardStatement}
use Rattle.wgsl_simple_statements.specs.declared.statement.FunctionCallStatement.{FunctionCallStatement}
use Rattle.wgsl_simple_statements.specs.declared.statement.BreakIfStatement.{BreakIfStatement}
use Rattle.wgsl_simple_statements.specs.declared.statement.CaseSelector.{CaseSelector}
use Rattle.wgsl_simple_statements.specs.declared.statement.CaseSelector.TheVariants as c
use Rattle.wgsl_simple_statements.specs.Tree.{Simple, assignment, increment, decrement, breaking, continuing, returning, discarding, calling, asserting, declaring, BreakIf, Selector, default_selector, selected}
use Rattle.wgsl_simple_statements.specs.View.{assignment_tree, increment_tree, decrement_tree, break_tree, continue_tree, return_tree, discard_tree, call_tree, assertion_tree, value_tree, break_if_tree, selector_tree}
use Rattle.wgsl_empty_items.specs.Expressions.{same_type}
use Rattle.wgsl_empty_items.proofs.Parts.{option_decides, options_agree}
use Rattle.wgsl_empty_items.proofs.ExpressionTest.{same_exp, same_exps, same_typ, exp_decides, exps_decide, typ_decides}
use Rattle.wgsl_empty_items.proofs.Expressions.{equal, equality_of_types_is_of_trees, equality_of_calls_is_of_trees}
use Rattle.wgsl_empty_items.proofs.Attributes.{same_attr, attrs_decide, maybe_exps_decide, nodes_agree, maybe_nodes_agree, attribute_lists_agree}

-- ---- kinds of declarations

abbrev same_spaces : AddressSpace × Option AccessMode → AddressSpace × Option AccessMode → Bool
same_spaces p q = space.eq-value.it p.0 q.0 && option_eq access.eq-value.it p.1 q.1

accesses_decide : (x y : AccessMode) → Decides (access.eq-value.it x y) (x ≡ y)
accesses_decide x y = (same_true access_type (search) x y, true_same access_type x y)

maybe_accesses_decide : (x y : Option AccessMode) → Decides (option_eq access.eq-value.it x y) (x ≡ y)
maybe_accesses_decide = option_decides access.eq-value.it accesses_decide

spaces_true : (p q : AddressSpace × Option AccessMode) → same_spaces p q ≡ true → p ≡ q
spaces_true p q h = λ i. (
  same_true space_type (search) p.0 q.0 (first_so (space.eq-value.it p.0 q.0) (option_eq access.eq-value.it p.1 q.1) h) i,
  (maybe_accesses_decide p.1 q.1).0 (second_so (space.eq-value.it p.0 q.0) (option_eq access.eq-value.it p.1 q.1) h) i,
)

spaces_decide : (p q : AddressSpace × Option AccessMode) → Decides (same_spaces p q) (p ≡ q)
spaces_decide p q = (
  spaces_true p q,
  λ same. subst (λ z. same_spaces p z ≡ true) same (λ i. true_same space_type p.0 p.0 refl i && (maybe_accesses_decide p.1 p.1).1 refl i),
)

maybe_spaces_decide : (x y : Option (AddressSpace × Option AccessMode)) → Decides (option_eq same_spaces x y) (x ≡ y)
maybe_spaces_decide = option_decides same_spaces spaces_decide

kind_true : (x y : DeclarationKind) → kind.eq-value.it x y ≡ true → x ≡ y
kind_true k.Const k.Const h = refl
kind_true k.Override k.Override h = refl
kind_true k.Let k.Let h = refl
kind_true (k.Var x) (k.Var y) h = ap k.Var ((maybe_spaces_decide x y).0 h)
kind_true x y h = absurd (true≢false (sym h))

kind_self : (x : DeclarationKind) → kind.eq-value.it x x ≡ true
kind_self k.Const = refl
kind_self k.Override = refl
kind_self k.Let = refl
kind_self (k.Var x) = (maybe_spaces_decide x x).1 refl

pub kinds_decide : (x y : DeclarationKind) → Decides (kind.eq-value.it x y) (x ≡ y)
kinds_decide x y = (kind_true x y, λ same. subst (λ z. kind.eq-value.it x z ≡ true) same (kind_self x))

-- ---- the test

pub maybe_typs_decide : (x y : Option Typ) → Decides (option_eq same_typ x y) (x ≡ y)
maybe_typs_decide = option_decides same_typ typ_decides

abbrev pub same_attrs : List Attr → List Attr → Bool
same_attrs = pointwise same_attr

abbrev pub same_simple : Simple → Simple → Bool
same_simple (assignment ps o x y) (assignment qs p u v) = same_attrs ps qs && (operator.eq-value.it o p && (same_exp x u && same_exp y v))
same_simple (increment ps x) (increment qs y) = same_attrs ps qs && same_exp x y
same_simple (decrement ps x) (decrement qs y) = same_attrs ps qs && same_exp x y
same_simple (breaking ps) (breaking qs) = same_attrs ps qs
same_simple (continuing ps) (continuing qs) = same_attrs ps qs
same_simple (returning ps x) (returning qs y) = same_attrs ps qs && option_eq same_exp x y
same_simple (discarding ps) (discarding qs) = same_attrs ps qs
same_simple (calling ps t xs) (calling qs s ys) = same_attrs ps qs && (same_typ t s && same_exps xs ys)
same_simple (asserting ps x) (asserting qs y) = same_attrs ps qs && same_exp x y
same_simple (declaring ps i n t x) (declaring qs j m s y) = same_attrs ps qs && (kind.eq-value.it i j && (bytes_eq n m && (option_eq same_typ t s && option_eq same_exp x y)))
same_simple _ _ = false

simple_true : (a b : Simple) → same_simple a b ≡ true → a ≡ b
simple_true (assignment ps o x y) (assignment qs p u v) h =
    let rest = second_so (same_attrs ps qs) (operator.eq-value.it o p && (same_exp x u && same_exp y v)) h in
    let sides = second_so (operator.eq-value.it o p) (same_exp x u && same_exp y v) rest in
    λ i. assignment ((attrs_decide ps qs).0 (first_so (same_attrs ps qs) (operator.eq-value.it o p && (same_exp x u && same_exp y v)) h) i)
    (same_true operator_type (search) o p (first_so (operator.eq-value.it o p) (same_exp x u && same_exp y v) rest) i)
    ((exp_decides x u).0 (first_so (same_exp x u) (same_exp y v) sides) i) ((exp_decides y v).0 (second_so (same_exp x u) (same_exp y v) sides) i)
simple_true (increment ps x) (increment qs y) h = λ i.
    increment ((attrs_decide ps qs).0 (first_so (same_attrs ps qs) (same_exp x y) h) i) ((exp_decides x y).0 (second_so (same_attrs ps qs) (same_exp x y) h) i)
simple_true (decrement ps x) (decrement qs y) h = λ i.
    decrement ((attrs_decide ps qs).0 (first_so (same_attrs ps qs) (same_exp x y) h) i) ((exp_decides x y).0 (second_so (same_attrs ps qs) (same_exp x y) h) i)
simple_true (breaking ps) (breaking qs) h = ap breaking ((attrs_decide ps qs).0 h)
simple_true (continuing ps) (continuing qs) h = ap continuing ((attrs_decide ps qs).0 h)
simple_true (returning ps x) (returning qs y) h = λ i.
    returning ((attrs_decide ps qs).0 (first_so (same_attrs ps qs) (option_eq same_exp x y) h) i)
    ((maybe_exps_decide x y).0 (second_so (same_attrs ps qs) (option_eq same_exp x y) h) i)
simple_true (discarding ps) (discarding qs) h = ap discarding ((attrs_decide ps qs).0 h)
simple_true (calling ps t xs) (calling qs s ys) h =
    let rest = second_so (same_attrs ps qs) (same_typ t s && same_exps xs ys) h in
    λ i. calling ((attrs_decide ps qs).0 (first_so (same_attrs ps qs) (same_typ t s && same_exps xs ys) h) i)
    ((typ_decides t s).0 (first_so (same_typ t s) (same_exps xs ys) rest) i) ((exps_decide xs ys).0 (second_so (same_typ t s) (same_exps xs ys) rest) i)
simple_true (asserting ps x) (asserting qs y) h = λ i.
    asserting ((attrs_decide ps qs).0 (first_so (same_attrs ps qs) (same_exp x y) h) i) ((exp_decides x y).0 (second_so (same_attrs ps qs) (same_exp x y) h) i)
simple_true (declaring ps i n t x) (declaring qs j m s y) h =
    let last = option_eq same_typ t s && option_eq same_exp x y in
    let rest = second_so (same_attrs ps qs) (kind.eq-value.it i j && (bytes_eq n m && last)) h in
    let names = second_so (kind.eq-value.it i j) (bytes_eq n m && last) rest in
    let ends = second_so (bytes_eq n m) last names in
    λ z. declaring ((attrs_decide ps qs).0 (first_so (same_attrs ps qs) (kind.eq-value.it i j && (bytes_eq n m && last)) h) z)
    (kind_true i j (first_so (kind.eq-value.it i j) (bytes_eq n m && last) rest) z)
    ((bytes_eq-Decides n m).0 (first_so (bytes_eq n m) last names) z)
    ((maybe_typs_decide t s).0 (first_so (option_eq same_typ t s) (option_eq same_exp x y) ends) z)
    ((maybe_exps_decide x y).0 (second_so (option_eq same_typ t s) (option_eq same_exp x y) ends) z)
simple_true a b h = absurd (true≢false (sym h))

attrs_self : (ps : List Attr) → same_attrs ps ps ≡ true
attrs_self ps = (attrs_decide ps ps).1 refl

exp_self : (x : Exp) → same_exp x x ≡ true
exp_self x = (exp_decides x x).1 refl

simple_self : (a : Simple) → same_simple a a ≡ true
simple_self (assignment ps o x y) = λ i. attrs_self ps i && (true_same operator_type o o refl i && (exp_self x i && exp_self y i))
simple_self (increment ps x) = λ i. attrs_self ps i && exp_self x i
simple_self (decrement ps x) = λ i. attrs_self ps i && exp_self x i
simple_self (breaking ps) = attrs_self ps
simple_self (continuing ps) = attrs_self ps
simple_self (returning ps x) = λ i. attrs_self ps i && (maybe_exps_decide x x).1 refl i
simple_self (discarding ps) = attrs_self ps
simple_self (calling ps t xs) = λ i. attrs_self ps i && ((typ_decides t t).1 refl i && (exps_decide xs xs).1 refl i)
simple_self (asserting ps x) = λ i. attrs_self ps i && exp_self x i
simple_self (declaring ps j n t x) = λ i.
    attrs_self ps i && (kind_self j i && ((bytes_eq-Decides n n).1 refl i && ((maybe_typs_decide t t).1 refl i && (maybe_exps_decide x x).1 refl i)))

pub simple_decides : (a b : Simple) → Decides (same_simple a b) (a ≡ b)
simple_decides a b = (simple_true a b, λ same. subst (λ z. same_simple a z ≡ true) same (simple_self a))

-- ---- equality of each

pub maybe_types_agree : (x y : Option (TypeExpressionOf Expression)) → option_eq (same_type equal) x y ≡ option_eq same_typ (option_map type_tree x) (option_map type_tree y)
maybe_types_agree = options_agree (same_type equal) same_typ type_tree equality_of_types_is_of_trees

pub assignments_agree : (a b : AssignmentStatement) → assigned.eq-value.it a b ≡ same_simple (assignment_tree a) (assignment_tree b)
assignments_agree a b = λ i. attribute_lists_agree a.attributes b.attributes i && (operator.eq-value.it a.operator b.operator && (nodes_agree a.lhs b.lhs i && nodes_agree a.rhs b.rhs i))

pub increments_agree : (a b : IncrementStatement) → incremented.eq-value.it a b ≡ same_simple (increment_tree a) (increment_tree b)
increments_agree a b = λ i. attribute_lists_agree a.attributes b.attributes i && nodes_agree a.expression b.expression i

pub decrements_agree : (a b : DecrementStatement) → decremented.eq-value.it a b ≡ same_simple (decrement_tree a) (decrement_tree b)
decrements_agree a b = λ i. attribute_lists_agree a.attributes b.attributes i && nodes_agree a.expression b.expression i

pub breaks_agree : (a b : BreakStatement) → broken.eq-value.it a b ≡ same_simple (break_tree a) (break_tree b)
breaks_agree a b = attribute_lists_agree a.attributes b.attributes

pub continues_agree : (a b : ContinueStatement) → continued.eq-value.it a b ≡ same_simple (continue_tree a) (continue_tree b)
continues_agree a b = attribute_lists_agree a.attributes b.attributes

pub returns_agree : (a b : ReturnStatement) → returned.eq-value.it a b ≡ same_simple (return_tree a) (return_tree b)
returns_agree a b = λ i. attribute_lists_agree a.attributes b.attributes i && maybe_nodes_agree a.expression b.expression i

pub discards_agree : (a b : DiscardStatement) → discarded.eq-value.it a b ≡ same_simple (discard_tree a) (discard_tree b)
discards_agree a b = attribute_lists_agree a.attributes b.attributes

pub calls_agree : (a b : FunctionCallStatement) → called.eq-value.it a b ≡ same_simple (call_tree a) (call_tree b)
calls_agree a b = λ i. attribute_lists_agree a.attributes b.attributes i && equality_of_calls_is_of_trees a.call b.call i

pub assertions_agree : (a b : ConstAssert) → assertion.eq-value.it a b ≡ same_simple (assertion_tree a) (assertion_tree b)
assertions_agree a b = λ i. attribute_lists_agree a.attributes b.attributes i && nodes_agree a.expression b.expression i

pub values_agree : (a b : Declaration) → value.eq-value.it a b ≡ same_simple (value_tree a) (value_tree b)
values_agree a b = λ i.
    attribute_lists_agree a.attributes b.attributes i && (kind.eq-value.it a.kind b.kind && (bytes_eq a.ident.name b.ident.name
    && (maybe_types_agree a.ty b.ty i && maybe_nodes_agree a.initializer b.initializer i)))

-- what a test that is that of two trees decides
pub by_simple : (test : Bool) (a b : Simple) → test ≡ same_simple a b → Decides test (a ≡ b)
by_simple test a b is = subst (λ t. Decides t (a ≡ b)) (sym is) (simple_decides a b)

-- ---- `break if` and selectors

abbrev pub same_break_if : BreakIf → BreakIf → Bool
same_break_if x y = same_attrs x.attributes y.attributes && same_exp x.condition y.condition

break_if_true : (x y : BreakIf) → same_break_if x y ≡ true → x ≡ y
break_if_true x y h = λ i. record {
  attributes = (attrs_decide x.attributes y.attributes).0 (first_so (same_attrs x.attributes y.attributes) (same_exp x.condition y.condition) h) i;
  condition = (exp_decides x.condition y.condition).0 (second_so (same_attrs x.attributes y.attributes) (same_exp x.condition y.condition) h) i;
}

pub break_if_decides : (x y : BreakIf) → Decides (same_break_if x y) (x ≡ y)
break_if_decides x y = (break_if_true x y, λ same. subst (λ z. same_break_if x z ≡ true) same (λ i. attrs_self x.attributes i && exp_self x.condition i))

pub break_ifs_agree : (a b : BreakIfStatement) → broken_if.eq-value.it a b ≡ same_break_if (break_if_tree a) (break_if_tree b)
break_ifs_agree a b = λ i. attribute_lists_agree a.attributes b.attributes i && nodes_agree a.expression b.expression i

pub break_ifs_decide : (a b : BreakIfStatement) → Decides (broken_if.eq-value.it a b) (break_if_tree a ≡ break_if_tree b)
break_ifs_decide a b = subst (λ t. Decides t (break_if_tree a ≡ break_if_tree b)) (sym (break_ifs_agree a b)) (break_if_decides (break_if_tree a) (break_if_tree b))

abbrev pub same_selector : Selector → Selector → Bool
same_selector default_selector default_selector = true
same_selector (selected x) (selected y) = same_exp x y
same_selector _ _ = false

selector_true : (x y : Selector) → same_selector x y ≡ true → x ≡ y
selector_true default_selector default_selector h = refl
selector_true (selected x) (selected y) h = ap selected ((exp_decides x y).0 h)
selector_true x y h = absurd (true≢false (sym h))

selector_self : (x : Selector) → same_selector x x ≡ true
selector_self default_selector = refl
selector_self (selected x) = exp_self x

pub selector_decides : (x y : Selector) → Decides (same_selector x y) (x ≡ y)
selector_decides x y = (selector_true x y, λ same. subst (λ z. same_selector x z ≡ true) same (selector_self x))

pub selectors_agree : (a b : CaseSelector) → selector.eq-value.it a b ≡ same_selector (selector_tree a) (selector_tree b)
selectors_agree c.Default c.Default = refl
selectors_agree (c.Expression x) (c.Expression y) = nodes_agree x y
selectors_agree x y = refl

pub selectors_decide : (a b : CaseSelector) → Decides (selector.eq-value.it a b) (selector_tree a ≡ selector_tree b)
selectors_decide a b = subst (λ t. Decides t (selector_tree a ≡ selector_tree b)) (sym (selectors_agree a b)) (selector_decides (selector_tree a) (selector_tree b))
