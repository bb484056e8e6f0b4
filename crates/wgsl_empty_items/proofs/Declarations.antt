-- The equality of declarations without statements tells whether their trees are one. Where two functions, or two modules, are equal, they stand for the same tree.
use Rattle.std.proofs.Common.{◌≡◌, refl, sym, ap, ◌∙◌, subst, ℕ, Bool, true, false, ◌&&◌, List, [], ◌∷◌, Some, true≢false}
use Rattle.std.specs.Bool.{Decides}
use Rattle.std.specs.List.{cons_option}
use Rattle.std.specs.Option.{option_eq}
use Rattle.std.specs.Str.{bytes_eq}
use Rattle.std.specs.Cmp.{first_so, second_so}
use Rattle.std.specs.Cmp.Lexicographic.{pointwise}
use Rattle.std.proofs.lemmas.Slice.Eq.{bytes_eq-Decides}
use Rattle.wgsl_path.specs.declared.span.Spanned.{Spanned}
use Rattle.wgsl_expressions.specs.Tree.{Typ}
use Rattle.wgsl_expressions.specs.View.{type_tree}
use Rattle.wgsl_expressions.specs.AttributesTree.{Attr}
use Rattle.wgsl_simple_statements.specs.contracts.declaration.DeclarationKindPartialEq.TheImpl as kind
use Rattle.wgsl_simple_statements.specs.contracts.declaration.DeclarationPartialEq.TheImpl as value
use Rattle.wgsl_simple_statements.specs.contracts.declaration.ConstAssertPartialEq.TheImpl as assert
use Rattle.wgsl_simple_statements.specs.declared.declaration.Declaration.{Declaration}
use Rattle.wgsl_simple_statements.specs.declared.declaration.ConstAssert.{ConstAssert}
use Rattle.wgsl_declarations.specs.contracts.imports.import.ImportStatementPartialEq.TheImpl as importing
use Rattle.wgsl_declarations.specs.contracts.imports.directive.GlobalDirectivePartialEq.TheImpl as directive
use Rattle.wgsl_declarations.specs.ImportsView.{importing_tree, directive_tree}
use Rattle.wgsl_declarations.specs.contracts.declaration.TypeAliasPartialEq.TheImpl as aliased
use Rattle.wgsl_declarations.specs.contracts.declaration.StructPartialEq.TheImpl as structured
use Rattle.wgsl_declarations.specs.contracts.declaration.StructMemberPartialEq.TheImpl as member
use Rattle.wgsl_declarations.specs.contracts.declaration.FormalParameterPartialEq.TheImpl as parameter
use Rattle.wgsl_declarations.specs.contracts.declaration.FunctionPartialEq.TheImpl as functions
use Rattle.wgsl_declarations.specs.contracts.declaration.GlobalDeclarationPartialEq.TheImpl as global
use Rattle.wgsl_declarations.specs.contracts.unit.TranslationUnitPartialEq.TheImpl as unit
use Rattle.wgsl_declarations.specs.declared.declaration.TypeAlias.{TypeAlias}
use Rattle.wgsl_declarations.specs.declared.declaration.Struct.{Struct}
use Rattle.wgsl_declarations.specs.declared.declaration.StructMember.{StructMember}
use Rattle.wgsl_declarations.specs.declared.declaration.Function.{Function}
use Rattle.wgsl_declarations.specs.declared.declaration.FormalParameter.{FormalParameter}
use Rattle.wgsl_declarations.specs.declared.declaration.GlobalDeclaration.{GlobalDeclaration}
use Rattle.wgsl_declarations.specs.declared.declaration.GlobalDeclaration.TheVariants as code
use Rattle.wgsl_declarations.specs.declared.unit.TranslationUnit.{TranslationUnit}
use Rattle.wgsl_declarations.specs.Tree.{Member, Param, Decl, variable, alias, structure, function, assertion}
use Rattle.wgsl_declarations.specs.View.{variable_tree, alias_tree, member_tree, structure_tree, parameter_tree, function_tree, assertion_tree, declaration_tree, declarations_tree, unit_tree}
use Rattle.wgsl_empty_items.specs.Expressions.{same_type}
use Rattle.wgsl_empty_items.proofs.Parts.{list_decides, lists_agree, options_true, lists_true}
use Rattle.wgsl_empty_items.proofs.ExpressionTest.{same_exp, same_typ, exp_decides, typ_decides}
use Rattle.wgsl_empty_items.proofs.Expressions.{equal, equality_of_types_is_of_trees, types_decide}
use Rattle.wgsl_empty_items.proofs.Attributes.{attrs_decide, maybe_exps_decide, equal_attributes, attribute_lists_agree, attribute_lists_decide}
use Rattle.wgsl_empty_items.proofs.Imports.{imports_decide, directives_decide}
use Rattle.wgsl_empty_items.proofs.SimpleStatements.{same_attrs, maybe_typs_decide, kinds_decide, assertions_agree, values_agree}
use Rattle.wgsl_empty_items.proofs.StatementsLemmas.{same_block, blocks_true}

-- ---- a name with attributes and a type: a member, a parameter, an alias

abbrev same_named : List Attr → List Attr → List ℕ → List ℕ → Typ → Typ → Bool
same_named ps qs n m t s = same_attrs ps qs && (bytes_eq n m && same_typ t s)

module _ (ps qs : List Attr) (n m : List ℕ) (t s : Typ) (h : same_named ps qs n m t s ≡ true) where
  of_attributes : ps ≡ qs
  of_attributes = (attrs_decide ps qs).0 (first_so (same_attrs ps qs) (bytes_eq n m && same_typ t s) h)

  rest : (bytes_eq n m && same_typ t s) ≡ true
  rest = second_so (same_attrs ps qs) (bytes_eq n m && same_typ t s) h

  of_name : n ≡ m
  of_name = (bytes_eq-Decides n m).0 (first_so (bytes_eq n m) (same_typ t s) rest)

  of_type : t ≡ s
  of_type = (typ_decides t s).0 (second_so (bytes_eq n m) (same_typ t s) rest)

named_self : (ps : List Attr) (n : List ℕ) (t : Typ) → same_named ps ps n n t t ≡ true
named_self ps n t = λ i. (attrs_decide ps ps).1 refl i && ((bytes_eq-Decides n n).1 refl i && (typ_decides t t).1 refl i)

abbrev pub same_member : Member → Member → Bool
same_member x y = same_named x.attributes y.attributes x.name y.name x.type y.type

member_true : (x y : Member) → same_member x y ≡ true → x ≡ y
member_true x y h = λ i. record {
  attributes = of_attributes x.attributes y.attributes x.name y.name x.type y.type h i;
  name = of_name x.attributes y.attributes x.name y.name x.type y.type h i;
  type = of_type x.attributes y.attributes x.name y.name x.type y.type h i;
}

member_decides : (x y : Member) → Decides (same_member x y) (x ≡ y)
member_decides x y = (member_true x y, λ same. subst (λ z. same_member x z ≡ true) same (named_self x.attributes x.name x.type))

member_agrees : (a b : StructMember) → member.eq-value.it a b ≡ same_member (member_tree a) (member_tree b)
member_agrees a b = λ i. attribute_lists_agree a.attributes b.attributes i && (bytes_eq a.ident.name b.ident.name && equality_of_types_is_of_trees a.ty b.ty i)

pub members_decide : (a b : StructMember) → Decides (member.eq-value.it a b) (member_tree a ≡ member_tree b)
members_decide a b = subst (λ t. Decides t (member_tree a ≡ member_tree b)) (sym (member_agrees a b)) (member_decides (member_tree a) (member_tree b))

abbrev pub same_param : Param → Param → Bool
same_param x y = same_named x.attributes y.attributes x.name y.name x.type y.type

param_true : (x y : Param) → same_param x y ≡ true → x ≡ y
param_true x y h = λ i. record {
  attributes = of_attributes x.attributes y.attributes x.name y.name x.type y.type h i;
  name = of_name x.attributes y.attributes x.name y.name x.type y.type h i;
  type = of_type x.attributes y.attributes x.name y.name x.type y.type h i;
}

pub param_decides : (x y : Param) → Decides (same_param x y) (x ≡ y)
param_decides x y = (param_true x y, λ same. subst (λ z. same_param x z ≡ true) same (named_self x.attributes x.name x.type))

pub parameter_agrees : (a b : FormalParameter) → parameter.eq-value.it a b ≡ same_param (parameter_tree a) (parameter_tree b)
parameter_agrees a b = λ i. attribute_lists_agree a.attributes b.attributes i && (bytes_eq a.ident.name b.ident.name && equality_of_types_is_of_trees a.ty b.ty i)

pub parameters_decide : (a b : FormalParameter) → Decides (parameter.eq-value.it a b) (parameter_tree a ≡ parameter_tree b)
parameters_decide a b = subst (λ t. Decides t (parameter_tree a ≡ parameter_tree b)) (sym (parameter_agrees a b)) (param_decides (parameter_tree a) (parameter_tree b))

-- ---- declarations without statements

-- a test of them, which no function passes
abbrev pub same_plain : Decl → Decl → Bool
same_plain (variable ps k n t x) (variable qs l m s y) = same_attrs ps qs && (kind.eq-value.it k l && (bytes_eq n m && (option_eq same_typ t s && option_eq same_exp x y)))
same_plain (alias ps n t) (alias qs m s) = same_named ps qs n m t s
same_plain (structure ps n x) (structure qs m y) = same_attrs ps qs && (bytes_eq n m && pointwise same_member x y)
same_plain (assertion ps x) (assertion qs y) = same_attrs ps qs && same_exp x y
same_plain _ _ = false

plain_true : (x y : Decl) → same_plain x y ≡ true → x ≡ y
plain_true (variable ps k n t x) (variable qs l m s y) h =
    let last = option_eq same_typ t s && option_eq same_exp x y in
    let behind = second_so (same_attrs ps qs) (kind.eq-value.it k l && (bytes_eq n m && last)) h in
    let names = second_so (kind.eq-value.it k l) (bytes_eq n m && last) behind in
    let ends = second_so (bytes_eq n m) last names in
    λ i. variable ((attrs_decide ps qs).0 (first_so (same_attrs ps qs) (kind.eq-value.it k l && (bytes_eq n m && last)) h) i)
    ((kinds_decide k l).0 (first_so (kind.eq-value.it k l) (bytes_eq n m && last) behind) i)
    ((bytes_eq-Decides n m).0 (first_so (bytes_eq n m) last names) i)
    ((maybe_typs_decide t s).0 (first_so (option_eq same_typ t s) (option_eq same_exp x y) ends) i)
    ((maybe_exps_decide x y).0 (second_so (option_eq same_typ t s) (option_eq same_exp x y) ends) i)
plain_true (alias ps n t) (alias qs m s) h = λ i. alias (of_attributes ps qs n m t s h i) (of_name ps qs n m t s h i) (of_type ps qs n m t s h i)
plain_true (structure ps n x) (structure qs m y) h =
    let behind = second_so (same_attrs ps qs) (bytes_eq n m && pointwise same_member x y) h in
    λ i. structure ((attrs_decide ps qs).0 (first_so (same_attrs ps qs) (bytes_eq n m && pointwise same_member x y) h) i)
    ((bytes_eq-Decides n m).0 (first_so (bytes_eq n m) (pointwise same_member x y) behind) i)
    ((list_decides same_member member_decides x y).0 (second_so (bytes_eq n m) (pointwise same_member x y) behind) i)
plain_true (assertion ps x) (assertion qs y) h = λ i.
    assertion ((attrs_decide ps qs).0 (first_so (same_attrs ps qs) (same_exp x y) h) i) ((exp_decides x y).0 (second_so (same_attrs ps qs) (same_exp x y) h) i)
plain_true x y h = absurd (true≢false (sym h))

abbrev is_function : Decl → Bool
is_function (function ps n xs rs t b) = true
is_function _ = false

pub plain_self : (x : Decl) → is_function x ≡ false → same_plain x x ≡ true
plain_self (variable ps k n t x) plain = λ i.
    (attrs_decide ps ps).1 refl i && ((kinds_decide k k).1 refl i && ((bytes_eq-Decides n n).1 refl i && ((maybe_typs_decide t t).1 refl i && (maybe_exps_decide x x).1 refl i)))
plain_self (alias ps n t) plain = named_self ps n t
plain_self (structure ps n xs) plain = λ i. (attrs_decide ps ps).1 refl i && ((bytes_eq-Decides n n).1 refl i && (list_decides same_member member_decides xs xs).1 refl i)
plain_self (assertion ps x) plain = λ i. (attrs_decide ps ps).1 refl i && (exp_decides x x).1 refl i
plain_self (function ps n xs rs t b) plain = absurd (true≢false plain)

-- where a test is that of two declarations, of which the first is no function, it decides whether they are one
plain_decides : (test : Bool) (x y : Decl) → test ≡ same_plain x y → is_function x ≡ false → Decides test (x ≡ y)
plain_decides test x y is plain = (λ h. plain_true x y (sym is ∙ h), λ same. is ∙ subst (λ z. same_plain x z ≡ true) same (plain_self x plain))

pub variables_decide : (a b : Declaration) → Decides (value.eq-value.it a b) (variable_tree a ≡ variable_tree b)
variables_decide a b = plain_decides (value.eq-value.it a b) (variable_tree a) (variable_tree b) (values_agree a b) refl

pub aliases_agree : (a b : TypeAlias) → aliased.eq-value.it a b ≡ same_plain (alias_tree a) (alias_tree b)
aliases_agree a b = λ i. attribute_lists_agree a.attributes b.attributes i && (bytes_eq a.ident.name b.ident.name && equality_of_types_is_of_trees a.ty b.ty i)

pub aliases_decide : (a b : TypeAlias) → Decides (aliased.eq-value.it a b) (alias_tree a ≡ alias_tree b)
aliases_decide a b = plain_decides (aliased.eq-value.it a b) (alias_tree a) (alias_tree b) (aliases_agree a b) refl

pub structures_agree : (a b : Struct) → structured.eq-value.it a b ≡ same_plain (structure_tree a) (structure_tree b)
structures_agree a b = λ i.
    attribute_lists_agree a.attributes b.attributes i && (bytes_eq a.ident.name b.ident.name
    && lists_agree (λ x y. member.eq-value.it x.node y.node) same_member (λ n. member_tree n.node) (λ x y. member_agrees x.node y.node) a.members b.members i)

pub structures_decide : (a b : Struct) → Decides (structured.eq-value.it a b) (structure_tree a ≡ structure_tree b)
structures_decide a b = plain_decides (structured.eq-value.it a b) (structure_tree a) (structure_tree b) (structures_agree a b) refl

pub claims_decide : (a b : ConstAssert) → Decides (assert.eq-value.it a b) (assertion_tree a ≡ assertion_tree b)
claims_decide a b = plain_decides (assert.eq-value.it a b) (assertion_tree a) (assertion_tree b) (assertions_agree a b) refl

-- ---- functions and modules

pub functions_true : (a b : Function) → functions.eq-value.it a b ≡ true → function_tree a ≡ function_tree b
functions_true a b h =
    let attributes = equal_attributes a.attributes b.attributes in
    let name = bytes_eq a.ident.name b.ident.name in
    let parameters = pointwise parameter.eq-value.it a.parameters b.parameters in
    let inner = equal_attributes a.return_attributes b.return_attributes in
    let result = option_eq (same_type equal) a.return_type b.return_type in
    let body = same_block a.body b.body in
    let one = second_so attributes (name && (parameters && (inner && (result && body)))) h in
    let two = second_so name (parameters && (inner && (result && body))) one in
    let three = second_so parameters (inner && (result && body)) two in
    let four = second_so inner (result && body) three in
    λ i. function ((attribute_lists_decide a.attributes b.attributes).0 (first_so attributes (name && (parameters && (inner && (result && body)))) h) i)
    ((bytes_eq-Decides a.ident.name b.ident.name).0 (first_so name (parameters && (inner && (result && body))) one) i)
    (lists_true parameter.eq-value.it parameter_tree (λ x y. (parameters_decide x y).0) a.parameters b.parameters (first_so parameters (inner && (result && body)) two) i)
    ((attribute_lists_decide a.return_attributes b.return_attributes).0 (first_so inner (result && body) three) i)
    (options_true (same_type equal) type_tree (λ x y. (types_decide x y).0) a.return_type b.return_type (first_so result body four) i)
    (blocks_true a.body b.body (second_so result body four) i)

pub declarations_true : (a b : GlobalDeclaration) → global.eq-value.it a b ≡ true → declaration_tree a ≡ declaration_tree b
declarations_true code.Void code.Void h = refl
declarations_true (code.Declaration x) (code.Declaration y) h = ap Some ((variables_decide x y).0 h)
declarations_true (code.TypeAlias x) (code.TypeAlias y) h = ap Some ((aliases_decide x y).0 h)
declarations_true (code.Struct x) (code.Struct y) h = ap Some ((structures_decide x y).0 h)
declarations_true (code.Function x) (code.Function y) h = ap Some (functions_true x y h)
declarations_true (code.ConstAssert x) (code.ConstAssert y) h = ap Some ((claims_decide x y).0 h)
declarations_true a b h = absurd (true≢false (sym h))

abbrev pub equal_in : Spanned GlobalDeclaration → Spanned GlobalDeclaration → Bool
equal_in x y = global.eq-value.it x.node y.node

all_true : (xs ys : List (Spanned GlobalDeclaration)) → pointwise equal_in xs ys ≡ true → declarations_tree xs ≡ declarations_tree ys
all_true [] [] h = refl
all_true [] (y ∷ ys) h = absurd (true≢false (sym h))
all_true (x ∷ xs) [] h = absurd (true≢false (sym h))
all_true (x ∷ xs) (y ∷ ys) h = λ i.
    cons_option (declarations_true x.node y.node (first_so (equal_in x y) (pointwise equal_in xs ys) h) i) (all_true xs ys (second_so (equal_in x y) (pointwise equal_in xs ys) h) i)

pub units_true : (a b : TranslationUnit) → unit.eq-value.it a b ≡ true → unit_tree a ≡ unit_tree b
units_true a b h =
    let imports = pointwise importing.eq-value.it a.imports b.imports in
    let directives = pointwise directive.eq-value.it a.global_directives b.global_directives in
    let declarations = pointwise equal_in a.global_declarations b.global_declarations in
    let behind = second_so imports (directives && declarations) h in
    λ i. record {
      imports = lists_true importing.eq-value.it importing_tree (λ x y. (imports_decide x y).0) a.imports b.imports (first_so imports (directives && declarations) h) i;
      directives = lists_true directive.eq-value.it directive_tree (λ x y. (directives_decide x y).0) a.global_directives b.global_directives (first_so directives declarations behind) i;
      declarations = all_true a.global_declarations b.global_declarations (second_so directives declarations behind) i;
    }
