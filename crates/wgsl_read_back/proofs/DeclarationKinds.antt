-- The productions of what declarations of values begin with.
use Rattle.std.proofs.Common.{◌≡◌, refl, sym, ap, ◌∙◌, ℕ, Bool, List, [], ◌∷◌, ◌++◌, Option, Some, None}
use Rattle.wgsl_token.specs.declared.token.Fixed.{Fixed}
use Rattle.wgsl_token.specs.declared.token.Fixed.TheVariants as f
use Rattle.wgsl_templates.specs.declared.meaning.token.TemplateToken.TheVariants.{TemplateArgsStart, TemplateArgsEnd}
use Rattle.wgsl_templates.specs.declared.meaning.token.SpannedTemplateToken.{SpannedTemplateToken}
use Rattle.wgsl_templates.specs.Kinds.{kind}
use Rattle.wgsl_print_laws.specs.Laws.{without_places}
use Rattle.wgsl_print_laws.specs.OptionalMarks.{Before, groups}
use Rattle.wgsl_words.specs.declared.enumerations.address.AccessMode.{AccessMode}
use Rattle.wgsl_words.specs.declared.enumerations.address.AddressSpace.{AddressSpace}
use Rattle.wgsl_expressions.specs.Tree.{Exp}
use Rattle.wgsl_simple_statements.specs.declared.declaration.DeclarationKind.{DeclarationKind}
use Rattle.wgsl_simple_statements.specs.declared.declaration.DeclarationKind.TheVariants as kinds
use Rattle.wgsl_print_laws.specs.Tokens.{mark}
use Rattle.wgsl_print_laws.specs.DeclarationKinds.{kind_tokens}
use Rattle.wgsl_attribute_words.specs.Attributes.{template_of}
use Rattle.wgsl_parser.specs.Leaves.{leaf}
use Rattle.wgsl_grammar_tables.specs.Grammars.{Symbol, token, phrase}
use Rattle.wgsl_semantic_values.specs.declared.part.Part.{Part}
use Rattle.wgsl_semantic_values.specs.declared.part.Part.TheVariants as part
use Rattle.wgsl_semantic_values.specs.declared.label.Label.TheVariants as l
use Rattle.wgsl_semantic_values.specs.declared.label.AttributeLabel.TheVariants as label
use Rattle.wgsl_parser.specs.Phrase.{Phrase}
use Rattle.wgsl_parser.specs.Attributes as make
use Rattle.wgsl_parser.specs.Failures.{made_failed}
use Rattle.wgsl_grammar_tables.specs.Classes.{fixed_class}
use Rattle.wgsl_read_back.proofs.Views.{View, view_tokens, Stands, a_token, some_expressions, a_kind}
use Rattle.wgsl_read_back.proofs.Views as v
use Rattle.wgsl_read_back.proofs.Items.{Back, OneToken, closes}
use Rattle.wgsl_read_back.proofs.Rows.{concat, nil as no_more, more, list_more, Stood, stood_pass, Makes, make_of, makes_of, made_check_passes, Rebuild, back_of, of_one, of_four}
use Rattle.wgsl_read_back.proofs.Places.{start_of, end_of}
use Rattle.wgsl_read_back.proofs.Families.{token_item, mark_item, pass_back}
use Rattle.wgsl_read_back.proofs.Operands.{Listed}
use Rattle.wgsl_read_back.proofs.Chosen.{tree_template, template_is, template_shown}

abbrev pub Kinded : ℕ → List SpannedTemplateToken → Phrase Part → Type 0
Kinded n u x = (k : DeclarationKind) × Back n (v.kind k) u x

pub var_alone : (n : ℕ) → Rebuild n (token (fixed_class f.Var) ∷ []) (l.Attribute label.VarKind) (1 ∷ []) → {u : List SpannedTemplateToken} {x : Phrase Part} → OneToken (fixed_class f.Var) u x → Kinded n (u ++ []) (make_of (l.Attribute label.VarKind) (1 ∷ []) (x ∷ []))
var_alone n rebuild {u = u} {x = x} k = (
  kinds.Var None,
  back_of n (token (fixed_class f.Var) ∷ []) (l.Attribute label.VarKind) (1 ∷ []) rebuild (v.token (mark f.Var) ∷ []) (v.kind (kinds.Var None)) refl
      (of_one (λ ys. Makes (v.kind (kinds.Var None)) (make_of (l.Attribute label.VarKind) (1 ∷ []) ys)) (λ a h.
      makes_of (l.Attribute label.VarKind) (1 ∷ []) a [] (v.kind (kinds.Var None)) (λ s. part.Kind (kinds.Var None)) (λ s. refl) (λ s. a_kind refl) (λ ps. refl) (λ s. refl) (stood_pass (a ∷ []) (v.token (mark f.Var) ∷ []) h)))
      (more (mark_item f.Var u x k) no_more) (λ c p. tt) (λ c p. refl) (λ c p. tt),
)

abbrev pub template_row : ℕ → List Symbol
template_row m = token (fixed_class f.Var) ∷ token 80 ∷ phrase m ∷ token 81 ∷ []

abbrev pub template_pattern : List ℕ
template_pattern = 1 ∷ 1 ∷ 2 ∷ 1 ∷ []

abbrev template_views : List Exp → List View
template_views es = v.token (mark f.Var) ∷ v.token TemplateArgsStart ∷ v.expressions es ∷ v.token TemplateArgsEnd ∷ []

-- what a template is in which no check fails
template_found : (es : List Exp) (p : Part) → Stands p (v.expressions es) → made_failed (l.Attribute label.VarIn) (make.var_in (p ∷ [])) ≡ None → (t : AddressSpace × Option AccessMode) × (tree_template es ≡ Some t)
template_found es p (some_expressions ns e q) h = go (template_of ns) refl (ap (λ z. made_failed (l.Attribute label.VarIn) (make.var_in (z ∷ []))) (sym e) ∙ h)
  where
    go : (o : Option (AddressSpace × Option AccessMode)) → template_of ns ≡ o → made_failed (l.Attribute label.VarIn) (part.Kind (kinds.Var (template_of ns))) ≡ None → (t : AddressSpace × Option AccessMode) × (tree_template es ≡ Some t)
    go None is h = absurd (let wrong = ap (λ o. made_failed (l.Attribute label.VarIn) (part.Kind (kinds.Var o))) (sym is) ∙ h in cc)
    go (Some t) is h = (t, ap tree_template (sym q) ∙ sym (template_is ns) ∙ is)

template_makes : (es : List Exp) (t : AddressSpace × Option AccessMode) → tree_template es ≡ Some t → (a b c d : Phrase Part) → Stood (a ∷ b ∷ c ∷ d ∷ []) (template_views es)
    → Makes (v.kind (kinds.Var (Some t))) (make_of (l.Attribute label.VarIn) template_pattern (a ∷ b ∷ c ∷ d ∷ []))
template_makes es t is a b c d h = go h.1.1.0.0
  where
    go : Stands c.part (v.expressions es) → Makes (v.kind (kinds.Var (Some t))) (make_of (l.Attribute label.VarIn) template_pattern (a ∷ b ∷ c ∷ d ∷ []))
    go (some_expressions ns e q) =
        makes_of (l.Attribute label.VarIn) template_pattern a (b ∷ c ∷ d ∷ []) (v.kind (kinds.Var (Some t))) (λ s. part.Kind (kinds.Var (Some t)))
        (λ s. ap (λ z. make.var_in (z ∷ [])) e ∙ ap (λ o. part.Kind (kinds.Var o)) (template_is ns ∙ ap tree_template q ∙ is)) (λ s. a_kind refl) (λ ps. refl) (λ s. refl) (stood_pass (a ∷ b ∷ c ∷ d ∷ []) (template_views es) h)

template_views_shown : (es : List Exp) (t : AddressSpace × Option AccessMode) → tree_template es ≡ Some t → concat (template_views es) ≡ kind_tokens (kinds.Var (Some t))
template_views_shown es (space, access) is = ap (λ ts. mark f.Var ∷ TemplateArgsStart ∷ (ts ++ (TemplateArgsEnd ∷ []))) (template_shown es space access is)

pub var_in : (n m : ℕ) → Rebuild n (template_row m) (l.Attribute label.VarIn) template_pattern → {a b c d : List SpannedTemplateToken} {x y z w : Phrase Part} → OneToken (fixed_class f.Var) a x → OneToken 80 b y → Listed m c z → OneToken 81 d w
    → (make_of (l.Attribute label.VarIn) template_pattern (x ∷ y ∷ z ∷ w ∷ [])).failure ≡ None → Kinded n (a ++ (b ++ (c ++ (d ++ [])))) (make_of (l.Attribute label.VarIn) template_pattern (x ∷ y ∷ z ∷ w ∷ []))
var_in n m rebuild {a = a} {b = b} {d = d} {x = x} {y = y} {z = z} {w = w} i j h k pass =
    let t = template_found h.0 z.part h.2.stands (made_check_passes (l.Attribute label.VarIn) template_pattern x (y ∷ z ∷ w ∷ []) pass).1 in
    let shut = end_of k.one.token k.class in (
      kinds.Var (Some t.0),
      back_of n (template_row m) (l.Attribute label.VarIn) template_pattern rebuild (template_views h.0) (v.kind (kinds.Var (Some t.0))) (template_views_shown h.0 t.0 t.1)
          (of_four (λ ys. Makes (v.kind (kinds.Var (Some t.0))) (make_of (l.Attribute label.VarIn) template_pattern ys)) (template_makes h.0 t.0 t.1))
          (more (mark_item f.Var a x i) (more (token_item 80 TemplateArgsStart b y j (start_of j.one.token j.class) refl)
          (list_more h.2 (token_item 81 TemplateArgsEnd d w k shut refl) (ap without_places (sym k.whole) ∙ ap (λ z. z ∷ []) shut) (closes refl) no_more)))
          (λ c p. ((h.2.ended _ _, refl), tt)) (λ c p. refl) (λ c p. tt),
    )

pub pass_kinded : (n m : ℕ) → Rebuild n (phrase m ∷ []) l.Pass (2 ∷ []) → {u : List SpannedTemplateToken} {x : Phrase Part} → Kinded m u x → Kinded n (u ++ []) (make_of l.Pass (2 ∷ []) (x ∷ []))
pass_kinded n m rebuild g = (g.0, pass_back n m (v.kind g.0) rebuild g.1)

-- a kind that is one word
module _ (g : Fixed) (k : DeclarationKind) (tokens : kind_tokens k ≡ mark g ∷ []) (part_is : leaf (mark g) ≡ part.Kind k) (level : (b : Before) (o : List Bool) → groups b o (kind (mark g)) ≡ o) where
  pub kind_alone : (n : ℕ) → Rebuild n (token (fixed_class g) ∷ []) l.Pass (2 ∷ []) → made_failed l.Pass (part.Kind k) ≡ None → {u : List SpannedTemplateToken} {x : Phrase Part} → OneToken (fixed_class g) u x
      → Kinded n (u ++ []) (make_of l.Pass (2 ∷ []) (x ∷ []))
  kind_alone n rebuild passed {u = u} {x = x} i = (
    k,
    back_of n (token (fixed_class g) ∷ []) l.Pass (2 ∷ []) rebuild (v.token (mark g) ∷ []) (v.kind k) (sym tokens)
        (of_one (λ ys. Makes (v.kind k) (make_of l.Pass (2 ∷ []) ys)) (λ a h. makes_of l.Pass (2 ∷ []) a [] (v.kind k) (λ s. part.Kind k) (λ s. word a.part h.0.0) (λ s. a_kind refl) (λ ps. refl) (λ s. passed) (stood_pass (a ∷ []) (v.token (mark g) ∷ []) h)))
        (more (mark_item g u x i) no_more) (λ c p. tt) level (λ c p. tt),
  )
    where
      word : (p : Part) → Stands p (v.token (mark g)) → p ≡ part.Kind k
      word p (a_token e) = e ∙ part_is
