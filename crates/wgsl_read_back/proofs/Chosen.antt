-- Words of fixed choice, and expressions that are no more than names: what they are depends on the tree alone.
use Rattle.std.specs.Prelude.{if◌then◌else◌}
use Rattle.std.specs.Option.{option_map, option_and_then}
use Rattle.std.proofs.Common.{◌≡◌, refl, sym, ap, ◌∙◌, ℕ, Bool, true, false, List, [], ◌∷◌, ◌++◌, map, Option, Some, None}
use Rattle.wgsl_base.proofs.Members.{same_bytes}
use Rattle.wgsl_path.specs.declared.span.Spanned.{Spanned}
use Rattle.wgsl_path.specs.declared.path.ModulePath.{ModulePath}
use Rattle.wgsl_words.specs.declared.enumerations.address.AccessMode.{AccessMode}
use Rattle.wgsl_words.specs.declared.enumerations.address.AccessMode.TheVariants.{Read, Write, ReadWrite}
use Rattle.wgsl_words.specs.declared.enumerations.address.AddressSpace.{AddressSpace}
use Rattle.wgsl_words.specs.declared.enumerations.address.AddressSpace.TheVariants.{Function, Private, Workgroup, Uniform, Storage, Handle}
use Rattle.wgsl_words.specs.Texts.{address_space_text, address_space_spelled, access_mode_text, access_mode_spelled}
use Rattle.wgsl_expressions.specs.declared.expression.Expression.{Expression, Expression-F, out-Expression}
use Rattle.wgsl_expressions.specs.declared.expression.TemplateArgOf.{TemplateArgOf}
use Rattle.wgsl_expressions.specs.Tree.{Exp, named, exps, simple}
use Rattle.wgsl_expressions.specs.View.{tree, node_tree, layer, typed}
use Rattle.wgsl_expressions.proofs.Trees.{tree_out}
use Rattle.wgsl_attribute_words.specs.Choices.{is_spelled, named as found_named, address_space_of, access_mode_of}
use Rattle.wgsl_attribute_words.specs.Names.{alone, layer_name, name_of}
use Rattle.wgsl_attribute_words.specs.Attributes.{moded, template_of}
use Rattle.wgsl_token.specs.declared.token.Fixed.TheVariants as f
use Rattle.wgsl_print_laws.specs.Tokens.{mark, word, exp_tokens, exps_tokens}
use Rattle.wgsl_print_laws.specs.DeclarationKinds.{space_tokens}

-- ---- words

spelled_so : (o : Option (List ℕ)) (text : List ℕ) → is_spelled o text ≡ true → o ≡ Some text
spelled_so None text e = absurd cc
spelled_so (Some other) text e = ap Some (same_bytes other text e)

-- a value that a word names has it as its text
pub named_is : {A : Type 0} (spelled : A → Option (List ℕ)) (xs : List A) (text : List ℕ) (v : A) → found_named spelled xs text ≡ Some v → spelled v ≡ Some text
named_is spelled [] text v e = absurd cc
named_is {A = A} spelled (x ∷ xs) text v e = go (λ h. named_is spelled xs text v h) (is_spelled (spelled x) text) refl e
  where
    go : (found_named spelled xs text ≡ Some v → spelled v ≡ Some text) → (b : Bool) → is_spelled (spelled x) text ≡ b → (if b then Some x else found_named spelled xs text) ≡ Some v → spelled v ≡ Some text
    go rest true h e = let same : x ≡ v = cc in ap spelled (sym same) ∙ spelled_so (spelled x) text h
    go rest false h e = rest e

space_named : (text : List ℕ) (s : AddressSpace) → address_space_of text ≡ Some s → address_space_text s ≡ text
space_named text s e = go s (named_is address_space_spelled (Function ∷ Private ∷ Workgroup ∷ Uniform ∷ Storage ∷ []) text s e)
  where
    go : (s : AddressSpace) → address_space_spelled s ≡ Some text → address_space_text s ≡ text
    go Function h = cc
    go Private h = cc
    go Workgroup h = cc
    go Uniform h = cc
    go Storage h = cc
    go Handle h = absurd cc

mode_named : (text : List ℕ) (m : AccessMode) → access_mode_of text ≡ Some m → access_mode_text m ≡ text
mode_named text m e = let h = named_is access_mode_spelled (Read ∷ Write ∷ ReadWrite ∷ []) text m e in cc

-- ---- names

abbrev pub tree_name : Exp → Option (List ℕ)
tree_name (named (simple None name)) = Some name
tree_name _ = None

pub layer_name_is : (y : Expression-F Expression) → layer_name y ≡ tree_name (layer tree y)
layer_name_is (Expression-F.TypeOrIdentifier t) = go t.path t.template_args t.ident.name
  where
    go : (path : Option ModulePath) (template : Option (List (TemplateArgOf Expression))) (name : List ℕ) → alone path template name ≡ tree_name (named (typed tree path name template))
    go None None name = refl
    go None (Some ts) name = refl
    go (Some p) None name = refl
    go (Some p) (Some ts) name = refl
layer_name_is (Expression-F.Literal l) = refl
layer_name_is (Expression-F.Parenthesized x) = refl
layer_name_is (Expression-F.NamedComponent x) = refl
layer_name_is (Expression-F.Indexing x) = refl
layer_name_is (Expression-F.Unary x) = refl
layer_name_is (Expression-F.Binary x) = refl
layer_name_is (Expression-F.FunctionCall x) = refl

pub name_is : (x : Expression) → name_of x ≡ tree_name (tree x)
name_is x = layer_name_is (out-Expression x) ∙ ap tree_name (sym (tree_out x))

name_shown : (e : Exp) (name : List ℕ) → tree_name e ≡ Some name → exp_tokens e ≡ word name ∷ []
name_shown (named (simple None other)) name e = let same : other ≡ name = cc in ap (λ x. word x ∷ []) same
name_shown _ name e = absurd cc

-- ---- templates of `var`

abbrev pub tree_template : List Exp → Option (AddressSpace × Option AccessMode)
tree_template (e ∷ []) = option_map (λ space. (space, None)) (option_and_then address_space_of (tree_name e))
tree_template (e ∷ d ∷ []) = moded (option_and_then address_space_of (tree_name e)) (option_and_then access_mode_of (tree_name d))
tree_template _ = None

pub template_is : (ns : List (Spanned Expression)) → template_of ns ≡ tree_template (map node_tree ns)
template_is [] = refl
template_is (x ∷ []) = let same = name_is x.node in ap (λ o. option_map {U = AddressSpace × Option AccessMode} (λ space. (space, None)) (option_and_then address_space_of o)) same
template_is (x ∷ y ∷ []) = λ i. moded (option_and_then address_space_of (name_is x.node i)) (option_and_then access_mode_of (name_is y.node i))
template_is (x ∷ y ∷ z ∷ ns) = refl

space_shown : (e : Exp) (s : AddressSpace) → option_and_then address_space_of (tree_name e) ≡ Some s → exp_tokens e ≡ word (address_space_text s) ∷ []
space_shown e s h = go (tree_name e) refl h
  where
    go : (o : Option (List ℕ)) → tree_name e ≡ o → option_and_then address_space_of o ≡ Some s → exp_tokens e ≡ word (address_space_text s) ∷ []
    go None is h = absurd cc
    go (Some name) is h = name_shown e name is ∙ ap (λ x. word x ∷ []) (sym (space_named name s h))

mode_shown : (e : Exp) (m : AccessMode) → option_and_then access_mode_of (tree_name e) ≡ Some m → exp_tokens e ≡ word (access_mode_text m) ∷ []
mode_shown e m h = go (tree_name e) refl h
  where
    go : (o : Option (List ℕ)) → tree_name e ≡ o → option_and_then access_mode_of o ≡ Some m → exp_tokens e ≡ word (access_mode_text m) ∷ []
    go None is h = absurd cc
    go (Some name) is h = name_shown e name is ∙ ap (λ x. word x ∷ []) (sym (mode_named name m h))

-- a template is printed as the names that it was read of
pub template_shown : (es : List Exp) (space : AddressSpace) (access : Option AccessMode) → tree_template es ≡ Some (space, access) → exps_tokens (exps es) ≡ space_tokens space access
template_shown [] space access h = absurd cc
template_shown (e ∷ []) space access h = go (option_and_then address_space_of (tree_name e)) refl h
  where
    go : (o : Option AddressSpace) → option_and_then address_space_of (tree_name e) ≡ o → option_map {U = AddressSpace × Option AccessMode} (λ s. (s, None)) o ≡ Some (space, access) → exp_tokens e ++ [] ≡ space_tokens space access
    go None is h = absurd cc
    go (Some s) is h =
        let found : AddressSpace × Option AccessMode = (s, None) in
        let shown : AddressSpace × Option AccessMode = (space, access) in
        let same : found ≡ shown = cc in
        ap (λ ts. ts ++ []) (space_shown e s is) ∙ ap (λ p. space_tokens p.0 p.1) same
template_shown (e ∷ d ∷ []) space access h = go (option_and_then address_space_of (tree_name e)) (option_and_then access_mode_of (tree_name d)) refl refl h
  where
    go : (o : Option AddressSpace) (p : Option AccessMode) → option_and_then address_space_of (tree_name e) ≡ o → option_and_then access_mode_of (tree_name d) ≡ p → moded o p ≡ Some (space, access) → exps_tokens (exps (e ∷ d ∷ [])) ≡ space_tokens space access
    go None p is at h = absurd cc
    go (Some s) None is at h = absurd cc
    go (Some s) (Some m) is at h =
        let found : AddressSpace × Option AccessMode = (s, Some m) in
        let shown : AddressSpace × Option AccessMode = (space, access) in
        let same : found ≡ shown = cc in
        (λ i. space_shown e s is i ++ (mark f.Comma ∷ (mode_shown d m at i ++ []))) ∙ ap (λ p. space_tokens p.0 p.1) same
template_shown (e ∷ d ∷ c ∷ es) space access h = absurd cc
