-- The equality of attributes is a test of their trees, which tells whether those are one.
use Rattle.std.proofs.Common.{◌≡◌, refl, sym, ap, ◌∙◌, subst, Bool, true, false, ◌&&◌, List, map, Option, true≢false}
use Rattle.std.specs.Bool.{Decides}
use Rattle.std.specs.Option.{option_eq, option_map}
use Rattle.std.specs.Str.{bytes_eq}
use Rattle.std.specs.Cmp.{first_so, second_so}
use Rattle.std.specs.Cmp.Lexicographic.{pointwise}
use Rattle.std.proofs.lemmas.Slice.Eq.{bytes_eq-Decides}
use denote.Enum.Bare.{same_true, true_same}
use Rattle.wgsl_words.specs.contracts.enumerations.builtin.BuiltinValue.{the_type as builtin_type}
use Rattle.wgsl_words.specs.contracts.enumerations.words.DiagnosticSeverity.{the_type as severity_type}
use Rattle.wgsl_words.specs.contracts.enumerations.words.InterpolationType.{the_type as interpolation_type}
use Rattle.wgsl_words.specs.contracts.enumerations.words.InterpolationSampling.{the_type as sampling_type}
use Rattle.wgsl_words.specs.contracts.enumerations.builtin.BuiltinValuePartialEq.TheImpl as built
use Rattle.wgsl_words.specs.contracts.enumerations.words.DiagnosticSeverityPartialEq.TheImpl as severity
use Rattle.wgsl_words.specs.contracts.enumerations.words.InterpolationTypePartialEq.TheImpl as interpolation
use Rattle.wgsl_words.specs.contracts.enumerations.words.InterpolationSamplingPartialEq.TheImpl as sampling
use Rattle.wgsl_words.specs.declared.enumerations.words.InterpolationSampling.{InterpolationSampling}
use Rattle.wgsl_path.specs.declared.span.Spanned.{Spanned}
use Rattle.wgsl_expressions.specs.declared.expression.Expression.{Expression}
use Rattle.wgsl_expressions.specs.Tree.{Exp}
use Rattle.wgsl_expressions.specs.View.{node_tree}
use Rattle.wgsl_expressions.specs.contracts.attributes.attribute.AttributePartialEq.TheImpl as at
use Rattle.wgsl_expressions.specs.declared.attributes.attribute.Attribute.{Attribute}
use Rattle.wgsl_expressions.specs.declared.attributes.attribute.Attribute.TheVariants as code
use Rattle.wgsl_expressions.specs.AttributesTree.{Attr, align, binding, blend_src, builtin, constant, diagnostic, group, id_number, interpolate, invariant, location, must_use, byte_size, workgroup_size, vertex, fragment, compute, publish, if_true, else_if, otherwise, custom}
use Rattle.wgsl_expressions.specs.AttributesView.{attribute_tree, attributes_tree}
use Rattle.wgsl_empty_items.proofs.Parts.{option_decides, list_decides, options_agree, lists_agree, options_true}
use Rattle.wgsl_empty_items.proofs.ExpressionTest.{same_exp, exp_decides}
use Rattle.wgsl_empty_items.proofs.Expressions.{equality_is_of_trees, equal}

-- ---- the test

abbrev pub same_attr : Attr → Attr → Bool
same_attr (align x) (align y) = same_exp x y
same_attr (binding x) (binding y) = same_exp x y
same_attr (blend_src x) (blend_src y) = same_exp x y
same_attr (group x) (group y) = same_exp x y
same_attr (id_number x) (id_number y) = same_exp x y
same_attr (location x) (location y) = same_exp x y
same_attr (byte_size x) (byte_size y) = same_exp x y
same_attr (if_true x) (if_true y) = same_exp x y
same_attr (else_if x) (else_if y) = same_exp x y
same_attr constant constant = true
same_attr invariant invariant = true
same_attr must_use must_use = true
same_attr vertex vertex = true
same_attr fragment fragment = true
same_attr compute compute = true
same_attr publish publish = true
same_attr otherwise otherwise = true
same_attr (builtin x) (builtin y) = built.eq-value.it x y
same_attr (diagnostic s r) (diagnostic t q) = severity.eq-value.it s t && bytes_eq r q
same_attr (interpolate t s) (interpolate u r) = interpolation.eq-value.it t u && option_eq sampling.eq-value.it s r
same_attr (workgroup_size x y z) (workgroup_size u v w) = same_exp x u && (option_eq same_exp y v && option_eq same_exp z w)
same_attr (custom n x) (custom m y) = bytes_eq n m && option_eq (pointwise same_exp) x y
same_attr _ _ = false

samplings_decide : (x y : InterpolationSampling) → Decides (sampling.eq-value.it x y) (x ≡ y)
samplings_decide x y = (same_true sampling_type (search) x y, true_same sampling_type x y)

maybe_samplings_decide : (x y : Option InterpolationSampling) → Decides (option_eq sampling.eq-value.it x y) (x ≡ y)
maybe_samplings_decide = option_decides sampling.eq-value.it samplings_decide

pub maybe_exps_decide : (x y : Option Exp) → Decides (option_eq same_exp x y) (x ≡ y)
maybe_exps_decide = option_decides same_exp exp_decides

arguments_decide : (x y : Option (List Exp)) → Decides (option_eq (pointwise same_exp) x y) (x ≡ y)
arguments_decide = option_decides (pointwise same_exp) (list_decides same_exp exp_decides)

attr_true : (a b : Attr) → same_attr a b ≡ true → a ≡ b
attr_true (align x) (align y) h = ap align ((exp_decides x y).0 h)
attr_true (binding x) (binding y) h = ap binding ((exp_decides x y).0 h)
attr_true (blend_src x) (blend_src y) h = ap blend_src ((exp_decides x y).0 h)
attr_true (group x) (group y) h = ap group ((exp_decides x y).0 h)
attr_true (id_number x) (id_number y) h = ap id_number ((exp_decides x y).0 h)
attr_true (location x) (location y) h = ap location ((exp_decides x y).0 h)
attr_true (byte_size x) (byte_size y) h = ap byte_size ((exp_decides x y).0 h)
attr_true (if_true x) (if_true y) h = ap if_true ((exp_decides x y).0 h)
attr_true (else_if x) (else_if y) h = ap else_if ((exp_decides x y).0 h)
attr_true constant constant h = refl
attr_true invariant invariant h = refl
attr_true must_use must_use h = refl
attr_true vertex vertex h = refl
attr_true fragment fragment h = refl
attr_true compute compute h = refl
attr_true publish publish h = refl
attr_true otherwise otherwise h = refl
attr_true (builtin x) (builtin y) h = ap builtin (same_true builtin_type (search) x y h)
attr_true (diagnostic s r) (diagnostic t q) h = λ i.
    diagnostic (same_true severity_type (search) s t (first_so (severity.eq-value.it s t) (bytes_eq r q) h) i)
    ((bytes_eq-Decides r q).0 (second_so (severity.eq-value.it s t) (bytes_eq r q) h) i)
attr_true (interpolate t s) (interpolate u r) h = λ i.
    interpolate (same_true interpolation_type (search) t u (first_so (interpolation.eq-value.it t u) (option_eq sampling.eq-value.it s r) h) i)
    ((maybe_samplings_decide s r).0 (second_so (interpolation.eq-value.it t u) (option_eq sampling.eq-value.it s r) h) i)
attr_true (workgroup_size x y z) (workgroup_size u v w) h =
    let rest = second_so (same_exp x u) (option_eq same_exp y v && option_eq same_exp z w) h in
    λ i. workgroup_size ((exp_decides x u).0 (first_so (same_exp x u) (option_eq same_exp y v && option_eq same_exp z w) h) i)
    ((maybe_exps_decide y v).0 (first_so (option_eq same_exp y v) (option_eq same_exp z w) rest) i)
    ((maybe_exps_decide z w).0 (second_so (option_eq same_exp y v) (option_eq same_exp z w) rest) i)
attr_true (custom n x) (custom m y) h = λ i.
    custom ((bytes_eq-Decides n m).0 (first_so (bytes_eq n m) (option_eq (pointwise same_exp) x y) h) i)
    ((arguments_decide x y).0 (second_so (bytes_eq n m) (option_eq (pointwise same_exp) x y) h) i)
attr_true a b h = absurd (true≢false (sym h))

attr_self : (a : Attr) → same_attr a a ≡ true
attr_self (align x) = (exp_decides x x).1 refl
attr_self (binding x) = (exp_decides x x).1 refl
attr_self (blend_src x) = (exp_decides x x).1 refl
attr_self (group x) = (exp_decides x x).1 refl
attr_self (id_number x) = (exp_decides x x).1 refl
attr_self (location x) = (exp_decides x x).1 refl
attr_self (byte_size x) = (exp_decides x x).1 refl
attr_self (if_true x) = (exp_decides x x).1 refl
attr_self (else_if x) = (exp_decides x x).1 refl
attr_self constant = refl
attr_self invariant = refl
attr_self must_use = refl
attr_self vertex = refl
attr_self fragment = refl
attr_self compute = refl
attr_self publish = refl
attr_self otherwise = refl
attr_self (builtin x) = true_same builtin_type x x refl
attr_self (diagnostic s r) = λ i. true_same severity_type s s refl i && (bytes_eq-Decides r r).1 refl i
attr_self (interpolate t s) = λ i. true_same interpolation_type t t refl i && (maybe_samplings_decide s s).1 refl i
attr_self (workgroup_size x y z) = λ i. (exp_decides x x).1 refl i && ((maybe_exps_decide y y).1 refl i && (maybe_exps_decide z z).1 refl i)
attr_self (custom n x) = λ i. (bytes_eq-Decides n n).1 refl i && (arguments_decide x x).1 refl i

attr_decides : (a b : Attr) → Decides (same_attr a b) (a ≡ b)
attr_decides a b = (attr_true a b, λ same. subst (λ z. same_attr a z ≡ true) same (attr_self a))

pub attrs_decide : (xs ys : List Attr) → Decides (pointwise same_attr xs ys) (xs ≡ ys)
attrs_decide = list_decides same_attr attr_decides

-- ---- equality

abbrev pub equal_node : Spanned Expression → Spanned Expression → Bool
equal_node x y = equal x.node y.node

pub nodes_agree : (x y : Spanned Expression) → equal_node x y ≡ same_exp (node_tree x) (node_tree y)
nodes_agree x y = equality_is_of_trees x.node y.node

pub maybe_nodes_agree : (x y : Option (Spanned Expression)) → option_eq equal_node x y ≡ option_eq same_exp (option_map node_tree x) (option_map node_tree y)
maybe_nodes_agree = options_agree equal_node same_exp node_tree nodes_agree

pub node_true : (x y : Spanned Expression) → equal_node x y ≡ true → node_tree x ≡ node_tree y
node_true x y h = (exp_decides (node_tree x) (node_tree y)).0 (sym (nodes_agree x y) ∙ h)

pub maybe_nodes_true : (x y : Option (Spanned Expression)) → option_eq equal_node x y ≡ true → option_map node_tree x ≡ option_map node_tree y
maybe_nodes_true = options_true equal_node node_tree node_true

arguments_agree : (x y : Option (List (Spanned Expression)))
    → option_eq (pointwise equal_node) x y ≡ option_eq (pointwise same_exp) (option_map (map node_tree) x) (option_map (map node_tree) y)
arguments_agree = options_agree (pointwise equal_node) (pointwise same_exp) (map node_tree) (lists_agree equal_node same_exp node_tree nodes_agree)

pub attribute_equality_is_of_trees : (a b : Attribute) → at.eq-value.it a b ≡ same_attr (attribute_tree a) (attribute_tree b)
attribute_equality_is_of_trees (code.Align x) (code.Align y) = nodes_agree x y
attribute_equality_is_of_trees (code.Binding x) (code.Binding y) = nodes_agree x y
attribute_equality_is_of_trees (code.BlendSrc x) (code.BlendSrc y) = nodes_agree x y
attribute_equality_is_of_trees (code.Group x) (code.Group y) = nodes_agree x y
attribute_equality_is_of_trees (code.Id x) (code.Id y) = nodes_agree x y
attribute_equality_is_of_trees (code.Location x) (code.Location y) = nodes_agree x y
attribute_equality_is_of_trees (code.Size x) (code.Size y) = nodes_agree x y
attribute_equality_is_of_trees (code.If x) (code.If y) = nodes_agree x y
attribute_equality_is_of_trees (code.Elif x) (code.Elif y) = nodes_agree x y
attribute_equality_is_of_trees code.Const code.Const = refl
attribute_equality_is_of_trees code.Invariant code.Invariant = refl
attribute_equality_is_of_trees code.MustUse code.MustUse = refl
attribute_equality_is_of_trees code.Vertex code.Vertex = refl
attribute_equality_is_of_trees code.Fragment code.Fragment = refl
attribute_equality_is_of_trees code.Compute code.Compute = refl
attribute_equality_is_of_trees code.Publish code.Publish = refl
attribute_equality_is_of_trees code.Else code.Else = refl
attribute_equality_is_of_trees (code.Builtin x) (code.Builtin y) = refl
attribute_equality_is_of_trees (code.Diagnostic x) (code.Diagnostic y) = refl
attribute_equality_is_of_trees (code.Interpolate x) (code.Interpolate y) = refl
attribute_equality_is_of_trees (code.WorkgroupSize x) (code.WorkgroupSize y) = λ i. nodes_agree x.x y.x i && (maybe_nodes_agree x.y y.y i && maybe_nodes_agree x.z y.z i)
attribute_equality_is_of_trees (code.Custom x) (code.Custom y) = ap (λ rest. bytes_eq x.name y.name && rest) (arguments_agree x.arguments y.arguments)
attribute_equality_is_of_trees x y = refl

pub attributes_decide : (a b : Attribute) → Decides (at.eq-value.it a b) (attribute_tree a ≡ attribute_tree b)
attributes_decide a b =
    subst (λ test. Decides test (attribute_tree a ≡ attribute_tree b)) (sym (attribute_equality_is_of_trees a b)) (attr_decides (attribute_tree a) (attribute_tree b))

abbrev pub equal_attributes : List (Spanned Attribute) → List (Spanned Attribute) → Bool
equal_attributes = pointwise (λ x y. at.eq-value.it x.node y.node)

pub attribute_lists_agree : (xs ys : List (Spanned Attribute)) → equal_attributes xs ys ≡ pointwise same_attr (attributes_tree xs) (attributes_tree ys)
attribute_lists_agree = lists_agree (λ x y. at.eq-value.it x.node y.node) same_attr (λ n. attribute_tree n.node) (λ x y. attribute_equality_is_of_trees x.node y.node)

pub attribute_lists_decide : (xs ys : List (Spanned Attribute)) → Decides (equal_attributes xs ys) (attributes_tree xs ≡ attributes_tree ys)
attribute_lists_decide xs ys =
    subst (λ test. Decides test (attributes_tree xs ≡ attributes_tree ys)) (sym (attribute_lists_agree xs ys)) (attrs_decide (attributes_tree xs) (attributes_tree ys))
