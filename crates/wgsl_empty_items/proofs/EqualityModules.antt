-- Modules without empty items are equal where they stand for the same tree.
use Rattle.std.proofs.Common.{◌≡◌, refl, sym, ap, ◌∙◌, subst, arith, Bool, true, false, ◌&&◌, List, [], ◌∷◌, Option, Some, None}
use Rattle.std.specs.Bool.{Decides}
use Rattle.std.specs.List.{cons_option}
use Rattle.std.specs.Option.{option_eq}
use Rattle.std.specs.Str.{bytes_eq}
use Rattle.std.specs.Cmp.Lexicographic.{pointwise}
use Rattle.std.proofs.lemmas.Slice.Eq.{bytes_eq-Decides}
use Rattle.wgsl_path.specs.declared.span.Spanned.{Spanned}
use Rattle.wgsl_declarations.specs.contracts.imports.import.ImportStatementPartialEq.TheImpl as importing
use Rattle.wgsl_declarations.specs.contracts.imports.directive.GlobalDirectivePartialEq.TheImpl as directive
use Rattle.wgsl_declarations.specs.ImportsView.{importing_tree, directive_tree}
use Rattle.wgsl_declarations.specs.contracts.declaration.FormalParameterPartialEq.TheImpl as parameter
use Rattle.wgsl_declarations.specs.contracts.declaration.FunctionPartialEq.TheImpl as functions
use Rattle.wgsl_declarations.specs.contracts.declaration.GlobalDeclarationPartialEq.TheImpl as global
use Rattle.wgsl_declarations.specs.contracts.unit.TranslationUnitPartialEq.TheImpl as unit
use Rattle.wgsl_declarations.specs.declared.declaration.Function.{Function}
use Rattle.wgsl_declarations.specs.declared.declaration.GlobalDeclaration.{GlobalDeclaration}
use Rattle.wgsl_declarations.specs.declared.declaration.GlobalDeclaration.TheVariants as code
use Rattle.wgsl_declarations.specs.declared.unit.TranslationUnit.{TranslationUnit}
use Rattle.wgsl_declarations.specs.Tree.{Decl, variable, alias, structure, function, assertion}
use Rattle.wgsl_declarations.specs.View.{parameter_tree, function_tree, declaration_tree, declarations_tree, unit_tree}
use Rattle.wgsl_empty_items.specs.Counts.{in_block, voids, voids_in_declaration, voids_in_declarations, voids_in_unit}
use Rattle.wgsl_empty_items.specs.Units.{unit_without_voids}
use Rattle.wgsl_empty_items.proofs.Modules.{tree_stays, none_is_left}
use Rattle.wgsl_empty_items.specs.EqualityLaws.{MissesSome}
use Rattle.wgsl_empty_items.proofs.Parts.{list_decides, lists_agree, lists_equal}
use Rattle.wgsl_empty_items.proofs.ExpressionTest.{same_typ}
use Rattle.wgsl_empty_items.proofs.Attributes.{attrs_decide, attribute_lists_agree}
use Rattle.wgsl_empty_items.proofs.Imports.{imports_decide, directives_decide}
use Rattle.wgsl_empty_items.proofs.SimpleStatements.{same_attrs, maybe_typs_decide, maybe_types_agree, assertions_agree, values_agree}
use Rattle.wgsl_empty_items.proofs.StatementTest.{same_tree_block, block_self}
use Rattle.wgsl_empty_items.proofs.WithoutEmptyItems.{first_none, second_none, block_agrees_with_test}
use Rattle.wgsl_empty_items.proofs.Declarations.{same_param, param_decides, parameter_agrees, same_plain, plain_self, aliases_agree, structures_agree, equal_in, functions_true, declarations_true, units_true}

-- ---- a test of declarations, which each passes with itself

abbrev same_decl : Decl → Decl → Bool
same_decl (function ps n xs rs t b) (function qs m ys ss s c) =
    same_attrs ps qs && (bytes_eq n m && (pointwise same_param xs ys && (same_attrs rs ss && (option_eq same_typ t s && same_tree_block b c))))
same_decl x y = same_plain x y

decl_self : (x : Decl) → same_decl x x ≡ true
decl_self (variable ps k n t x) = plain_self (variable ps k n t x) refl
decl_self (alias ps n t) = plain_self (alias ps n t) refl
decl_self (structure ps n xs) = plain_self (structure ps n xs) refl
decl_self (function ps n xs rs t b) = λ i.
    (attrs_decide ps ps).1 refl i && ((bytes_eq-Decides n n).1 refl i && ((list_decides same_param param_decides xs xs).1 refl i
    && ((attrs_decide rs rs).1 refl i && ((maybe_typs_decide t t).1 refl i && block_self b i))))
decl_self (assertion ps x) = plain_self (assertion ps x) refl

-- ---- the equality of declarations is that test

functions_agree : (a b : Function) → in_block voids a.body ≡ 0 → in_block voids b.body ≡ 0 → functions.eq-value.it a b ≡ same_decl (function_tree a) (function_tree b)
functions_agree a b none none_b = λ i.
    attribute_lists_agree a.attributes b.attributes i && (bytes_eq a.ident.name b.ident.name
    && (lists_agree parameter.eq-value.it same_param parameter_tree parameter_agrees a.parameters b.parameters i
    && (attribute_lists_agree a.return_attributes b.return_attributes i && (maybe_types_agree a.return_type b.return_type i && block_agrees_with_test a.body b.body none none_b i))))

abbrev same_maybe : Option Decl → Option Decl → Bool
same_maybe (Some x) (Some y) = same_decl x y
same_maybe None None = true
same_maybe _ _ = false

declaration_agrees : (a b : GlobalDeclaration) → voids_in_declaration a ≡ 0 → voids_in_declaration b ≡ 0
    → global.eq-value.it a b ≡ same_maybe (declaration_tree a) (declaration_tree b)
declaration_agrees code.Void b none none_b = absurd (omega (arith, none))
declaration_agrees a code.Void none none_b = absurd (omega (arith, none_b))
declaration_agrees (code.Declaration x) (code.Declaration y) none none_b = values_agree x y
declaration_agrees (code.TypeAlias x) (code.TypeAlias y) none none_b = aliases_agree x y
declaration_agrees (code.Struct x) (code.Struct y) none none_b = structures_agree x y
declaration_agrees (code.Function x) (code.Function y) none none_b = functions_agree x y none none_b
declaration_agrees (code.ConstAssert x) (code.ConstAssert y) none none_b = assertions_agree x y
declaration_agrees a b none none_b = refl

abbrev IsSome : Option Decl → Type 0
IsSome o = (x : Decl) × (o ≡ Some x)

is_some : (a : GlobalDeclaration) → voids_in_declaration a ≡ 0 → IsSome (declaration_tree a)
is_some code.Void none = absurd (omega (arith, none))
is_some (code.Declaration x) none = (_, refl)
is_some (code.TypeAlias x) none = (_, refl)
is_some (code.Struct x) none = (_, refl)
is_some (code.Function x) none = (_, refl)
is_some (code.ConstAssert x) none = (_, refl)

heads_agree : (x y : Option Decl) (xs ys : List Decl) → IsSome x → IsSome y → (same_maybe x y && pointwise same_decl xs ys) ≡ pointwise same_decl (cons_option x xs) (cons_option y ys)
heads_agree x y xs ys a b = (λ i. same_maybe (a.1 i) (b.1 i) && pointwise same_decl xs ys) ∙ sym (λ i. pointwise same_decl (cons_option (a.1 i) xs) (cons_option (b.1 i) ys))

no_head : (y : Option Decl) (ys : List Decl) → IsSome y → false ≡ pointwise same_decl [] (cons_option y ys)
no_head y ys b = sym (λ i. pointwise same_decl [] (cons_option (b.1 i) ys))

only_head : (x : Option Decl) (xs : List Decl) → IsSome x → false ≡ pointwise same_decl (cons_option x xs) []
only_head x xs a = sym (λ i. pointwise same_decl (cons_option (a.1 i) xs) [])

declarations_agree : (xs ys : List (Spanned GlobalDeclaration)) → voids_in_declarations xs ≡ 0 → voids_in_declarations ys ≡ 0
    → pointwise equal_in xs ys ≡ pointwise same_decl (declarations_tree xs) (declarations_tree ys)
declarations_agree [] [] a b = refl
declarations_agree [] (y ∷ ys) a b = no_head (declaration_tree y.node) (declarations_tree ys) (is_some y.node (first_none (voids_in_declaration y.node) (voids_in_declarations ys) b))
declarations_agree (x ∷ xs) [] a b = only_head (declaration_tree x.node) (declarations_tree xs) (is_some x.node (first_none (voids_in_declaration x.node) (voids_in_declarations xs) a))
declarations_agree (x ∷ xs) (y ∷ ys) a b =
    let none_x = first_none (voids_in_declaration x.node) (voids_in_declarations xs) a in
    let none_y = first_none (voids_in_declaration y.node) (voids_in_declarations ys) b in
    let more = declarations_agree xs ys (second_none (voids_in_declaration x.node) (voids_in_declarations xs) a) (second_none (voids_in_declaration y.node) (voids_in_declarations ys) b) in
    (λ i. declaration_agrees x.node y.node none_x none_y i && more i)
    ∙ heads_agree (declaration_tree x.node) (declaration_tree y.node) (declarations_tree xs) (declarations_tree ys) (is_some x.node none_x) (is_some y.node none_y)

decls_self : (xs : List Decl) → pointwise same_decl xs xs ≡ true
decls_self [] = refl
decls_self (x ∷ xs) = λ i. decl_self x i && decls_self xs i

declarations_equal : (xs ys : List (Spanned GlobalDeclaration)) → voids_in_declarations xs ≡ 0 → voids_in_declarations ys ≡ 0
    → declarations_tree xs ≡ declarations_tree ys → pointwise equal_in xs ys ≡ true
declarations_equal xs ys none none_ys same =
    declarations_agree xs ys none none_ys ∙ subst (λ z. pointwise same_decl (declarations_tree xs) z ≡ true) same (decls_self (declarations_tree xs))

-- ---- functions, declarations and modules

pub function_decides : (a b : Function) → in_block voids a.body ≡ 0 → in_block voids b.body ≡ 0 → Decides (functions.eq-value.it a b) (function_tree a ≡ function_tree b)
function_decides a b none none_b = (
  functions_true a b,
  λ same. functions_agree a b none none_b ∙ subst (λ z. same_decl (function_tree a) z ≡ true) same (decl_self (function_tree a)),
)

maybe_self : (x : Option Decl) → same_maybe x x ≡ true
maybe_self None = refl
maybe_self (Some x) = decl_self x

pub declaration_decides : (a b : GlobalDeclaration) → voids_in_declaration a ≡ 0 → voids_in_declaration b ≡ 0 → Decides (global.eq-value.it a b) (declaration_tree a ≡ declaration_tree b)
declaration_decides a b none none_b = (
  declarations_true a b,
  λ same. declaration_agrees a b none none_b ∙ subst (λ z. same_maybe (declaration_tree a) z ≡ true) same (maybe_self (declaration_tree a)),
)

pub units_equal : (a b : TranslationUnit) → voids_in_unit a ≡ 0 → voids_in_unit b ≡ 0 → unit_tree a ≡ unit_tree b → unit.eq-value.it a b ≡ true
units_equal a b none none_b same = λ i.
    lists_equal importing.eq-value.it importing_tree (λ x y. (imports_decide x y).1) a.imports b.imports (ap (λ u. u.imports) same) i
    && (lists_equal directive.eq-value.it directive_tree (λ x y. (directives_decide x y).1) a.global_directives b.global_directives (ap (λ u. u.directives) same) i
    && declarations_equal a.global_declarations b.global_declarations none none_b (ap (λ u. u.declarations) same) i)

pub units_decide : (a b : TranslationUnit) → voids_in_unit a ≡ 0 → voids_in_unit b ≡ 0 → Decides (unit.eq-value.it a b) (unit_tree a ≡ unit_tree b)
units_decide a b none none_b = (units_true a b, units_equal a b none none_b)

-- without their empty items they stand for the same trees
pub units_decide_once : (a b : TranslationUnit) → Decides (unit.eq-value.it (unit_without_voids a) (unit_without_voids b)) (unit_tree a ≡ unit_tree b)
units_decide_once a b =
    let decided = units_decide (unit_without_voids a) (unit_without_voids b) (none_is_left a) (none_is_left b) in
    (λ h. sym (tree_stays a) ∙ decided.0 h ∙ tree_stays b, λ same. decided.1 (tree_stays a ∙ same ∙ sym (tree_stays b)))

-- ---- a module that is empty, and one that holds an empty item

abbrev module_of : List (Spanned GlobalDeclaration) → TranslationUnit
module_of declarations = record { imports = []; global_directives = []; global_declarations = declarations }

abbrev empty_item : Spanned GlobalDeclaration
empty_item = record { node = code.Void; span = record { start = 0; end = 1 } }

pub missed : MissesSome unit.eq-value.it unit_tree
missed = (module_of [], module_of (empty_item ∷ []), refl, refl)
