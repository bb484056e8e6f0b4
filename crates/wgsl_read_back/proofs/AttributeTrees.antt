-- What an attribute is depends on its word and the trees of its arguments alone, and it is printed as these.
use Rattle.std.specs.Option.{option_map, option_and_then}
use Rattle.std.proofs.Common.{◌≡◌, refl, sym, ap, ◌∙◌, subst, ℕ, List, [], ◌∷◌, ◌++◌, map, codes, Option, Some, None}
use Rattle.wgsl_path.specs.declared.span.Spanned.{Spanned}
use Rattle.wgsl_words.specs.declared.enumerations.builtin.BuiltinValue.{BuiltinValue}
use Rattle.wgsl_words.specs.declared.enumerations.builtin.BuiltinValue.TheVariants as builtins
use Rattle.wgsl_words.specs.declared.enumerations.words.DiagnosticSeverity.{DiagnosticSeverity}
use Rattle.wgsl_words.specs.declared.enumerations.words.DiagnosticSeverity.TheVariants as severities
use Rattle.wgsl_words.specs.declared.enumerations.words.InterpolationType.{InterpolationType}
use Rattle.wgsl_words.specs.declared.enumerations.words.InterpolationType.TheVariants as types
use Rattle.wgsl_words.specs.declared.enumerations.words.InterpolationSampling.{InterpolationSampling}
use Rattle.wgsl_words.specs.declared.enumerations.words.InterpolationSampling.TheVariants as samplings
use Rattle.wgsl_words.specs.Texts.{builtin_value_text, builtin_value_spelled, diagnostic_severity_text, diagnostic_severity_spelled, interpolation_type_text, interpolation_type_spelled, interpolation_sampling_text, interpolation_sampling_spelled}
use Rattle.wgsl_expressions.specs.declared.expression.Expression.{Expression, Expression-F, out-Expression}
use Rattle.wgsl_expressions.specs.Tree.{Exp, component, named, simple}
use Rattle.wgsl_expressions.specs.View.{tree, node_tree, layer}
use Rattle.wgsl_expressions.proofs.Trees.{tree_out}
use Rattle.wgsl_expressions.specs.declared.attributes.attribute.Attribute.TheVariants as code
use Rattle.wgsl_expressions.specs.AttributesTree.{Attr, align, binding, blend_src, builtin, constant, diagnostic, group, id_number, interpolate, invariant, location, must_use, byte_size, workgroup_size, vertex, fragment, compute, publish, if_true, else_if, otherwise, custom}
use Rattle.wgsl_expressions.specs.AttributesView.{attribute_tree}
use Rattle.wgsl_attribute_words.specs.Choices.{severity_of, interpolation_type_of, interpolation_sampling_of, builtin_value_of}
use Rattle.wgsl_attribute_words.specs.declared.word.AttributeWord.{AttributeWord}
use Rattle.wgsl_attribute_words.specs.declared.word.AttributeWord.TheVariants as word
use Rattle.wgsl_attribute_words.specs.Words.{word_text, word_spelled, word_named}
use Rattle.wgsl_attribute_words.specs.Names.{name_of, layer_rule, rule_of}
use Rattle.wgsl_expressions.specs.declared.attributes.attribute.Attribute.{Attribute}
use Rattle.wgsl_attribute_words.specs.Attributes as code_attributes
use Rattle.wgsl_attribute_words.specs.Attributes.{custom as custom_code}
use Rattle.wgsl_parser.specs.Attributes.{or_else, checked}
use Rattle.wgsl_parser.specs.Failures.{of_word, attribute_failed}
use Rattle.wgsl_attribute_words.specs.Attributes.{attribute_of, attribute_named, known_attribute, with_arguments, with_one, with_two, with_three, without_arguments}
use Rattle.wgsl_print_laws.specs.Attributes as tokens
use Rattle.wgsl_print_laws.specs.Attributes.{name_exp, IsRuleExp, IsWritten}
use Rattle.wgsl_print_laws.proofs.Attributes.{written_text}
use Rattle.wgsl_read_back.specs.Laws.{AttributesArePrintedAsRead}
use Rattle.wgsl_read_back.proofs.Chosen.{named_is, tree_name, layer_name_is, name_is}

-- ---- on trees

abbrev tree_rule : Exp → Option (List ℕ)
tree_rule (component x name) = option_map (λ first. first ++ codes "." ++ name) (tree_name x)
tree_rule x = tree_name x

abbrev tree_interpolated : Option InterpolationType → Option InterpolationSampling → Option Attr
tree_interpolated None sampling = None
tree_interpolated (Some type) sampling = Some (interpolate type sampling)

abbrev tree_sampled : Option InterpolationType → Option InterpolationSampling → Option Attr
tree_sampled type None = None
tree_sampled type (Some sampling) = tree_interpolated type (Some sampling)

abbrev tree_diagnosed : Option DiagnosticSeverity → Option (List ℕ) → Option Attr
tree_diagnosed (Some severity) (Some rule) = Some (diagnostic severity rule)
tree_diagnosed _ _ = None

abbrev tree_of_one : AttributeWord → Exp → Option Attr
tree_of_one word.Align x = Some (align x)
tree_of_one word.Binding x = Some (binding x)
tree_of_one word.BlendSrc x = Some (blend_src x)
tree_of_one word.Group x = Some (group x)
tree_of_one word.Id x = Some (id_number x)
tree_of_one word.Location x = Some (location x)
tree_of_one word.Size x = Some (byte_size x)
tree_of_one word.If x = Some (if_true x)
tree_of_one word.Elif x = Some (else_if x)
tree_of_one word.Builtin x = option_map builtin (option_and_then builtin_value_of (tree_name x))
tree_of_one word.Interpolate x = tree_interpolated (option_and_then interpolation_type_of (tree_name x)) None
tree_of_one word.WorkgroupSize x = Some (workgroup_size x None None)
tree_of_one _ x = None

abbrev tree_of_two : AttributeWord → Exp → Exp → Option Attr
tree_of_two word.Interpolate x y = tree_sampled (option_and_then interpolation_type_of (tree_name x)) (option_and_then interpolation_sampling_of (tree_name y))
tree_of_two word.Diagnostic x y = tree_diagnosed (option_and_then severity_of (tree_name x)) (tree_rule y)
tree_of_two word.WorkgroupSize x y = Some (workgroup_size x (Some y) None)
tree_of_two _ x y = None

abbrev tree_of_three : AttributeWord → Exp → Exp → Exp → Option Attr
tree_of_three word.WorkgroupSize x y z = Some (workgroup_size x (Some y) (Some z))
tree_of_three _ x y z = None

abbrev tree_of_arguments : AttributeWord → List Exp → Option Attr
tree_of_arguments w (x ∷ []) = tree_of_one w x
tree_of_arguments w (x ∷ y ∷ []) = tree_of_two w x y
tree_of_arguments w (x ∷ y ∷ z ∷ []) = tree_of_three w x y z
tree_of_arguments w _ = None

abbrev tree_alone : AttributeWord → Option Attr
tree_alone word.Const = Some constant
tree_alone word.Invariant = Some invariant
tree_alone word.MustUse = Some must_use
tree_alone word.Vertex = Some vertex
tree_alone word.Fragment = Some fragment
tree_alone word.Compute = Some compute
tree_alone word.Publish = Some publish
tree_alone word.Else = Some otherwise
tree_alone _ = None

abbrev tree_known : AttributeWord → Option (List Exp) → Option Attr
tree_known w None = tree_alone w
tree_known w (Some es) = tree_of_arguments w es

abbrev tree_named : Option AttributeWord → List ℕ → Option (List Exp) → Option Attr
tree_named (Some w) name es = tree_known w es
tree_named None name es = Some (custom name es)

abbrev pub tree_attribute : List ℕ → Option (List Exp) → Option Attr
tree_attribute name es = tree_named (word_named name) name es

-- ---- the code's attribute is the one of its trees

layer_rule_is : (y : Expression-F Expression) → layer_rule y ≡ tree_rule (layer tree y)
layer_rule_is (Expression-F.NamedComponent x) = ap (option_map (λ (first : List ℕ). first ++ codes "." ++ x.component.name)) (name_is x.base.node)
layer_rule_is (Expression-F.TypeOrIdentifier t) = layer_name_is (Expression-F.TypeOrIdentifier t)
layer_rule_is (Expression-F.Literal l) = refl
layer_rule_is (Expression-F.Parenthesized x) = refl
layer_rule_is (Expression-F.Indexing x) = refl
layer_rule_is (Expression-F.Unary x) = refl
layer_rule_is (Expression-F.Binary x) = refl
layer_rule_is (Expression-F.FunctionCall x) = refl

rule_is : (x : Expression) → rule_of x ≡ tree_rule (tree x)
rule_is x = layer_rule_is (out-Expression x) ∙ ap tree_rule (sym (tree_out x))

shown_one : (w : AttributeWord) (x : Spanned Expression) → option_map attribute_tree (with_one w x) ≡ tree_of_one w (node_tree x)
shown_one word.Builtin x = go (name_of x.node) (tree_name (node_tree x)) (name_is x.node)
  where
    go : (o p : Option (List ℕ)) → o ≡ p → option_map attribute_tree (option_map code.Builtin (option_and_then builtin_value_of o)) ≡ option_map builtin (option_and_then builtin_value_of p)
    go o p e = fused (option_and_then builtin_value_of o) ∙ ap (λ z. option_map builtin (option_and_then builtin_value_of z)) e
      where
        fused : (o : Option BuiltinValue) → option_map attribute_tree (option_map code.Builtin o) ≡ option_map builtin o
        fused None = refl
        fused (Some v) = refl
shown_one word.Interpolate x = fused (option_and_then interpolation_type_of (name_of x.node)) ∙ ap (λ z. tree_interpolated (option_and_then interpolation_type_of z) None) (name_is x.node)
  where
    fused : (o : Option InterpolationType) → option_map attribute_tree (code_attributes.interpolated o None) ≡ tree_interpolated o None
    fused None = refl
    fused (Some t) = refl
shown_one _ x = refl

shown_two : (w : AttributeWord) (x y : Spanned Expression) → option_map attribute_tree (with_two w x y) ≡ tree_of_two w (node_tree x) (node_tree y)
shown_two word.Interpolate x y =
    fused (option_and_then interpolation_type_of (name_of x.node)) (option_and_then interpolation_sampling_of (name_of y.node))
    ∙ (λ i. tree_sampled (option_and_then interpolation_type_of (name_is x.node i)) (option_and_then interpolation_sampling_of (name_is y.node i)))
  where
    fused : (o : Option InterpolationType) (p : Option InterpolationSampling) → option_map attribute_tree (code_attributes.sampled o p) ≡ tree_sampled o p
    fused o None = refl
    fused None (Some s) = refl
    fused (Some t) (Some s) = refl
shown_two word.Diagnostic x y =
    fused (option_and_then severity_of (name_of x.node)) (rule_of y.node) ∙ (λ i. tree_diagnosed (option_and_then severity_of (name_is x.node i)) (rule_is y.node i))
  where
    fused : (o : Option DiagnosticSeverity) (p : Option (List ℕ)) → option_map attribute_tree (code_attributes.diagnosed o p) ≡ tree_diagnosed o p
    fused None None = refl
    fused None (Some r) = refl
    fused (Some s) None = refl
    fused (Some s) (Some r) = refl
shown_two _ x y = refl

shown_three : (w : AttributeWord) (x y z : Spanned Expression) → option_map attribute_tree (with_three w x y z) ≡ tree_of_three w (node_tree x) (node_tree y) (node_tree z)
shown_three word.WorkgroupSize x y z = refl
shown_three _ x y z = refl

shown_arguments : (w : AttributeWord) (xs : List (Spanned Expression)) → option_map attribute_tree (with_arguments w xs) ≡ tree_of_arguments w (map node_tree xs)
shown_arguments w [] = refl
shown_arguments w (x ∷ []) = shown_one w x
shown_arguments w (x ∷ y ∷ []) = shown_two w x y
shown_arguments w (x ∷ y ∷ z ∷ []) = shown_three w x y z
shown_arguments w (x ∷ y ∷ z ∷ u ∷ xs) = refl

shown_alone : (w : AttributeWord) → option_map attribute_tree (without_arguments w) ≡ tree_alone w
shown_alone word.Const = refl
shown_alone _ = refl

abbrev pub trees_of : Option (List (Spanned Expression)) → Option (List Exp)
trees_of xs = option_map (map node_tree) xs

pub attribute_is : (name : List ℕ) (xs : Option (List (Spanned Expression))) → option_map attribute_tree (attribute_of name xs) ≡ tree_attribute name (trees_of xs)
attribute_is name xs = go (word_named name) xs
  where
    go : (o : Option AttributeWord) (xs : Option (List (Spanned Expression))) → option_map attribute_tree (attribute_named o name xs) ≡ tree_named o name (trees_of xs)
    go None xs = refl
    go (Some w) None = shown_alone w
    go (Some w) (Some xs) = shown_arguments w xs

-- ---- it is printed as its word and arguments

exp_named : (e : Exp) (text : List ℕ) → tree_name e ≡ Some text → e ≡ name_exp text
exp_named (named (simple None other)) text e = let same : other ≡ text = cc in ap name_exp same
exp_named _ text e = absurd cc

-- an expression that names a value of fixed choice is the value's text
module _ {A : Type 0} (spelled : A → Option (List ℕ)) (text_of : A → List ℕ) (always : (v : A) → spelled v ≡ Some (text_of v)) (find : List ℕ → Option A) (found : (text : List ℕ) (v : A) → find text ≡ Some v → spelled v ≡ Some text) where
  exp_chosen : (e : Exp) (v : A) → option_and_then find (tree_name e) ≡ Some v → e ≡ name_exp (text_of v)
  exp_chosen e v h = go (tree_name e) refl h
    where
      go : (o : Option (List ℕ)) → tree_name e ≡ o → option_and_then find o ≡ Some v → e ≡ name_exp (text_of v)
      go None is h = absurd cc
      go (Some text) is h =
          let same : Some (text_of v) ≡ Some text = sym (always v) ∙ found text v h in
          let texts : text_of v ≡ text = cc in
          exp_named e text is ∙ ap name_exp (sym texts)

exp_rule : (e : Exp) (rule : List ℕ) → tree_rule e ≡ Some rule → IsRuleExp rule e
exp_rule (component x name) rule h = go (tree_name x) refl h
  where
    go : (o : Option (List ℕ)) → tree_name x ≡ o → option_map (λ first. first ++ codes "." ++ name) o ≡ Some rule → IsRuleExp rule (component x name)
    go None is h = absurd cc
    go (Some first) is h =
        let same : first ++ codes "." ++ name ≡ rule = cc in
        let P : List ℕ × Exp → Type 0 = λ z. IsRuleExp z.0 (component z.1 name) in
        subst P (λ i. (same i, sym (exp_named x first is) i)) (tokens.two_names first name)
exp_rule (named t) rule h = let P : Exp → Type 0 = IsRuleExp rule in subst P (sym (exp_named (named t) rule h)) (tokens.one_name rule)
exp_rule _ rule h = absurd cc

exp_builtin : (e : Exp) (v : BuiltinValue) → option_and_then builtin_value_of (tree_name e) ≡ Some v → e ≡ name_exp (builtin_value_text v)
exp_builtin = exp_chosen builtin_value_spelled builtin_value_text (λ v. refl) builtin_value_of (λ text v h. named_is builtin_value_spelled (builtins.VertexIndex ∷ builtins.InstanceIndex ∷ builtins.ClipDistances ∷ builtins.Position ∷ builtins.FrontFacing ∷ builtins.FragDepth ∷ builtins.SampleIndex ∷ builtins.SampleMask ∷ builtins.LocalInvocationId ∷ builtins.LocalInvocationIndex ∷ builtins.GlobalInvocationId ∷ builtins.WorkgroupId ∷ builtins.NumWorkgroups ∷ builtins.SubgroupInvocationId ∷ builtins.SubgroupSize ∷ []) text v h)

exp_severity : (e : Exp) (v : DiagnosticSeverity) → option_and_then severity_of (tree_name e) ≡ Some v → e ≡ name_exp (diagnostic_severity_text v)
exp_severity = exp_chosen diagnostic_severity_spelled diagnostic_severity_text (λ v. refl) severity_of (λ text v h. named_is diagnostic_severity_spelled (severities.Error ∷ severities.Warning ∷ severities.Info ∷ severities.Off ∷ []) text v h)

exp_type : (e : Exp) (v : InterpolationType) → option_and_then interpolation_type_of (tree_name e) ≡ Some v → e ≡ name_exp (interpolation_type_text v)
exp_type = exp_chosen interpolation_type_spelled interpolation_type_text (λ v. refl) interpolation_type_of (λ text v h. named_is interpolation_type_spelled (types.Perspective ∷ types.Linear ∷ types.Flat ∷ []) text v h)

exp_sampling : (e : Exp) (v : InterpolationSampling) → option_and_then interpolation_sampling_of (tree_name e) ≡ Some v → e ≡ name_exp (interpolation_sampling_text v)
exp_sampling = exp_chosen interpolation_sampling_spelled interpolation_sampling_text (λ v. refl) interpolation_sampling_of (λ text v h. named_is interpolation_sampling_spelled (samplings.Center ∷ samplings.Centroid ∷ samplings.Sample ∷ samplings.First ∷ samplings.Either ∷ []) text v h)

-- what is written so is that attribute
as_written : {a b : Attr} (w : List ℕ) (es fs : Option (List Exp)) → IsWritten a w es → Some a ≡ Some b → es ≡ fs → IsWritten b w fs
as_written {a = a} {b = b} w es fs h e is =
    let same : a ≡ b = cc in
    let P : Attr × Option (List Exp) → Type 0 = λ z. IsWritten z.0 w z.1 in
    subst P (λ i. (same i, is i)) h

written_alone : (w : AttributeWord) (a : Attr) → tree_alone w ≡ Some a → IsWritten a (word_text w) None
written_alone word.Const a h = as_written _ None None tokens.constant_is h refl
written_alone word.Invariant a h = as_written _ None None tokens.invariant_is h refl
written_alone word.MustUse a h = as_written _ None None tokens.must_use_is h refl
written_alone word.Vertex a h = as_written _ None None tokens.vertex_is h refl
written_alone word.Fragment a h = as_written _ None None tokens.fragment_is h refl
written_alone word.Compute a h = as_written _ None None tokens.compute_is h refl
written_alone word.Publish a h = as_written _ None None tokens.publish_is h refl
written_alone word.Else a h = as_written _ None None tokens.otherwise_is h refl
written_alone _ a h = absurd cc

written_one : (w : AttributeWord) (x : Exp) (a : Attr) → tree_of_one w x ≡ Some a → IsWritten a (word_text w) (Some (x ∷ []))
written_one word.Align x a h = as_written _ _ _ (tokens.align_is x) h refl
written_one word.Binding x a h = as_written _ _ _ (tokens.binding_is x) h refl
written_one word.BlendSrc x a h = as_written _ _ _ (tokens.blend_src_is x) h refl
written_one word.Group x a h = as_written _ _ _ (tokens.group_is x) h refl
written_one word.Id x a h = as_written _ _ _ (tokens.id_is x) h refl
written_one word.Location x a h = as_written _ _ _ (tokens.location_is x) h refl
written_one word.Size x a h = as_written _ _ _ (tokens.size_is x) h refl
written_one word.If x a h = as_written _ _ _ (tokens.if_is x) h refl
written_one word.Elif x a h = as_written _ _ _ (tokens.elif_is x) h refl
written_one word.WorkgroupSize x a h = as_written _ _ _ (tokens.size_of_one x) h refl
written_one word.Builtin x a h = go (option_and_then builtin_value_of (tree_name x)) refl h
  where
    go : (o : Option BuiltinValue) → option_and_then builtin_value_of (tree_name x) ≡ o → option_map builtin o ≡ Some a → IsWritten a (codes "builtin") (Some (x ∷ []))
    go None is h = absurd cc
    go (Some v) is h = as_written (codes "builtin") (Some (name_exp (builtin_value_text v) ∷ [])) (Some (x ∷ [])) (tokens.builtin_is v) h (ap (λ e. Some (e ∷ [])) (sym (exp_builtin x v is)))
written_one word.Interpolate x a h = go (option_and_then interpolation_type_of (tree_name x)) refl h
  where
    go : (o : Option InterpolationType) → option_and_then interpolation_type_of (tree_name x) ≡ o → tree_interpolated o None ≡ Some a → IsWritten a (codes "interpolate") (Some (x ∷ []))
    go None is h = absurd cc
    go (Some v) is h = as_written (codes "interpolate") (Some (name_exp (interpolation_type_text v) ∷ [])) (Some (x ∷ [])) (tokens.interpolate_is v) h (ap (λ e. Some (e ∷ [])) (sym (exp_type x v is)))
written_one _ x a h = absurd cc

written_two : (w : AttributeWord) (x y : Exp) (a : Attr) → tree_of_two w x y ≡ Some a → IsWritten a (word_text w) (Some (x ∷ y ∷ []))
written_two word.WorkgroupSize x y a h = as_written _ _ _ (tokens.size_of_two x y) h refl
written_two word.Interpolate x y a h = go (option_and_then interpolation_type_of (tree_name x)) (option_and_then interpolation_sampling_of (tree_name y)) refl refl h
  where
    go : (o : Option InterpolationType) (p : Option InterpolationSampling) → option_and_then interpolation_type_of (tree_name x) ≡ o → option_and_then interpolation_sampling_of (tree_name y) ≡ p → tree_sampled o p ≡ Some a
        → IsWritten a (codes "interpolate") (Some (x ∷ y ∷ []))
    go o None is at h = absurd cc
    go None (Some s) is at h = absurd cc
    go (Some v) (Some s) is at h =
        as_written (codes "interpolate") (Some (name_exp (interpolation_type_text v) ∷ name_exp (interpolation_sampling_text s) ∷ [])) (Some (x ∷ y ∷ [])) (tokens.sampled_is v s) h
        (λ i. Some (sym (exp_type x v is) i ∷ sym (exp_sampling y s at) i ∷ []))
written_two word.Diagnostic x y a h = go (option_and_then severity_of (tree_name x)) (tree_rule y) refl refl h
  where
    go : (o : Option DiagnosticSeverity) (p : Option (List ℕ)) → option_and_then severity_of (tree_name x) ≡ o → tree_rule y ≡ p → tree_diagnosed o p ≡ Some a → IsWritten a (codes "diagnostic") (Some (x ∷ y ∷ []))
    go None None is at h = absurd cc
    go None (Some r) is at h = absurd cc
    go (Some s) None is at h = absurd cc
    go (Some s) (Some r) is at h =
        as_written (codes "diagnostic") (Some (name_exp (diagnostic_severity_text s) ∷ y ∷ [])) (Some (x ∷ y ∷ [])) (tokens.diagnostic_is s (exp_rule y r at)) h (ap (λ e. Some (e ∷ y ∷ [])) (sym (exp_severity x s is)))
written_two _ x y a h = absurd cc

written_three : (w : AttributeWord) (x y z : Exp) (a : Attr) → tree_of_three w x y z ≡ Some a → IsWritten a (word_text w) (Some (x ∷ y ∷ z ∷ []))
written_three word.WorkgroupSize x y z a h = as_written _ _ _ (tokens.size_of_three x y z) h refl
written_three _ x y z a h = absurd cc

written_known : (w : AttributeWord) (es : Option (List Exp)) (a : Attr) → tree_known w es ≡ Some a → IsWritten a (word_text w) es
written_known w None a h = written_alone w a h
written_known w (Some []) a h = absurd cc
written_known w (Some (x ∷ [])) a h = written_one w x a h
written_known w (Some (x ∷ y ∷ [])) a h = written_two w x y a h
written_known w (Some (x ∷ y ∷ z ∷ [])) a h = written_three w x y z a h
written_known w (Some (x ∷ y ∷ z ∷ u ∷ es)) a h = absurd cc

pub attribute_written : (name : List ℕ) (es : Option (List Exp)) (a : Attr) → tree_attribute name es ≡ Some a → IsWritten a name es
attribute_written name es a h = go (word_named name) refl h
  where
    go : (o : Option AttributeWord) → word_named name ≡ o → tree_named o name es ≡ Some a → IsWritten a name es
    go None is h = as_written name es es (tokens.custom_is name es) h refl
    go (Some w) is h =
        let text : Some (word_text w) ≡ Some name = named_is word_spelled (word.Align ∷ word.Binding ∷ word.BlendSrc ∷ word.Builtin ∷ word.Const ∷ word.Diagnostic ∷ word.Group ∷ word.Id ∷ word.Interpolate ∷ word.Invariant ∷ word.Location ∷ word.MustUse ∷ word.Size ∷ word.WorkgroupSize ∷ word.Vertex ∷ word.Fragment ∷ word.Compute ∷ word.Publish ∷ word.If ∷ word.Elif ∷ word.Else ∷ []) name w is in
        let same : word_text w ≡ name = cc in
        let P : List ℕ → Type 0 = λ z. IsWritten a z es in
        subst P same (written_known w es a h)

pub attributes_are_printed_as_read : AttributesArePrintedAsRead
attributes_are_printed_as_read name xs a h =
    let is : tree_attribute name (trees_of xs) ≡ Some (attribute_tree a) = sym (attribute_is name xs) ∙ ap (option_map attribute_tree) h in
    written_text (attribute_tree a) name (trees_of xs) (attribute_written name (trees_of xs) (attribute_tree a) is)

-- ---- no check fails in the attribute of a word and arguments

abbrev Sound : Option Attribute → Type 0
Sound None = Unit {0}
Sound (Some x) = attribute_failed x ≡ None

sound_alone : (w : AttributeWord) → Sound (without_arguments w)
sound_alone word.Const = refl
sound_alone word.Invariant = refl
sound_alone word.MustUse = refl
sound_alone word.Vertex = refl
sound_alone word.Fragment = refl
sound_alone word.Compute = refl
sound_alone word.Publish = refl
sound_alone word.Else = refl
sound_alone _ = tt

sound_builtin : (o : Option BuiltinValue) → Sound (option_map code.Builtin o)
sound_builtin None = tt
sound_builtin (Some v) = refl

sound_interpolated : (o : Option InterpolationType) (p : Option InterpolationSampling) → Sound (code_attributes.interpolated o p)
sound_interpolated None p = tt
sound_interpolated (Some v) p = refl

sound_sampled : (o : Option InterpolationType) (p : Option InterpolationSampling) → Sound (code_attributes.sampled o p)
sound_sampled o None = tt
sound_sampled o (Some s) = sound_interpolated o (Some s)

sound_diagnosed : (o : Option DiagnosticSeverity) (p : Option (List ℕ)) → Sound (code_attributes.diagnosed o p)
sound_diagnosed None None = tt
sound_diagnosed None (Some r) = tt
sound_diagnosed (Some s) None = tt
sound_diagnosed (Some s) (Some r) = refl

sound_one : (w : AttributeWord) (x : Spanned Expression) → Sound (with_one w x)
sound_one word.Align x = refl
sound_one word.Binding x = refl
sound_one word.BlendSrc x = refl
sound_one word.Group x = refl
sound_one word.Id x = refl
sound_one word.Location x = refl
sound_one word.Size x = refl
sound_one word.If x = refl
sound_one word.Elif x = refl
sound_one word.WorkgroupSize x = refl
sound_one word.Builtin x = sound_builtin (option_and_then builtin_value_of (name_of x.node))
sound_one word.Interpolate x = sound_interpolated (option_and_then interpolation_type_of (name_of x.node)) None
sound_one _ x = tt

sound_two : (w : AttributeWord) (x y : Spanned Expression) → Sound (with_two w x y)
sound_two word.Interpolate x y = sound_sampled (option_and_then interpolation_type_of (name_of x.node)) (option_and_then interpolation_sampling_of (name_of y.node))
sound_two word.Diagnostic x y = sound_diagnosed (option_and_then severity_of (name_of x.node)) (rule_of y.node)
sound_two word.WorkgroupSize x y = refl
sound_two _ x y = tt

sound_three : (w : AttributeWord) (x y z : Spanned Expression) → Sound (with_three w x y z)
sound_three word.WorkgroupSize x y z = refl
sound_three _ x y z = tt

sound_known : (w : AttributeWord) (xs : Option (List (Spanned Expression))) → Sound (known_attribute w xs)
sound_known w None = sound_alone w
sound_known w (Some []) = tt
sound_known w (Some (x ∷ [])) = sound_one w x
sound_known w (Some (x ∷ y ∷ [])) = sound_two w x y
sound_known w (Some (x ∷ y ∷ z ∷ [])) = sound_three w x y z
sound_known w (Some (x ∷ y ∷ z ∷ u ∷ xs)) = tt

sound : (name : List ℕ) (xs : Option (List (Spanned Expression))) → Sound (attribute_of name xs)
sound name xs = go (word_named name) refl
  where
    go : (o : Option AttributeWord) → word_named name ≡ o → Sound (attribute_named o name xs)
    go None is = ap (option_map (λ w. of_word w xs)) is
    go (Some w) is = sound_known w xs

-- what is read in which no check fails is an attribute of its word and arguments
pub checked_found : (name : List ℕ) (xs : Option (List (Spanned Expression))) → attribute_failed (checked name xs) ≡ None → (a : Attr) × (tree_attribute name (trees_of xs) ≡ Some a)
checked_found name xs h = go (word_named name) refl
  where
    failed : (o : Option Attribute) → attribute_of name xs ≡ o → (w : AttributeWord) → word_named name ≡ Some w → (x : Attribute) × (attribute_of name xs ≡ Some x)
    failed (Some x) e w is = (x, e)
    failed None e w is =
        absurd (let bad : Some (of_word w xs) ≡ None = sym (ap (option_map (λ w. of_word w xs)) is) ∙ ap (λ o. attribute_failed (or_else o (custom_code name xs))) (sym e) ∙ h in cc)

    go : (o : Option AttributeWord) → word_named name ≡ o → (a : Attr) × (tree_attribute name (trees_of xs) ≡ Some a)
    go None is = (custom name (trees_of xs), ap (λ o. tree_named o name (trees_of xs)) is)
    go (Some w) is = let x = failed (attribute_of name xs) refl w is in (attribute_tree x.0, sym (attribute_is name xs) ∙ ap (option_map attribute_tree) x.1)

-- and any other arguments with these trees are read as it
pub found_again : (name : List ℕ) (es : Option (List Exp)) (a : Attr) → tree_attribute name es ≡ Some a → (xs : Option (List (Spanned Expression))) → trees_of xs ≡ es → (attribute_failed (checked name xs) ≡ None) × (attribute_tree (checked name xs) ≡ a)
found_again name es a is xs same = go (attribute_of name xs) refl (attribute_is name xs ∙ ap (tree_attribute name) same ∙ is) (sound name xs)
  where
    go : (o : Option Attribute) → attribute_of name xs ≡ o → option_map attribute_tree (attribute_of name xs) ≡ Some a → Sound (attribute_of name xs) → (attribute_failed (checked name xs) ≡ None) × (attribute_tree (checked name xs) ≡ a)
    go None e h s = absurd (let bad : None ≡ Some a = ap (option_map attribute_tree) (sym e) ∙ h in cc)
    go (Some x) e h s =
        let whole : checked name xs ≡ x = ap (λ o. or_else o (custom_code name xs)) e in
        let tree_is : Some (attribute_tree x) ≡ Some a = ap (option_map attribute_tree) (sym e) ∙ h in
        (ap attribute_failed whole ∙ subst Sound e s, ap attribute_tree whole ∙ (let same : attribute_tree x ≡ a = cc in same))
