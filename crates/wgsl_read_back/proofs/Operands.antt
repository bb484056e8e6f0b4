-- The productions of names, types and calls.
use Rattle.std.proofs.Common.{◌≡◌, refl, sym, ap, ◌∙◌, ℕ, suc, ◌+◌, arith, Bool, true, ◌&&◌, List, [], ◌∷◌, ◌++◌, append_assoc, append-nil, map, Option, Some, None}
use Rattle.wgsl_path.specs.declared.span.Spanned.{Spanned}
use Rattle.wgsl_path.specs.declared.path.PathOrigin.TheVariants.{Relative}
use Rattle.wgsl_path.specs.declared.path.ModulePath.{ModulePath}
use Rattle.wgsl_path.specs.Paths.{ident_of}
use Rattle.wgsl_path.specs.Joining.{root_path}
use Rattle.wgsl_token.specs.declared.token.Fixed.TheVariants as f
use Rattle.wgsl_templates.specs.declared.meaning.token.TemplateToken.TheVariants.{TemplateArgsStart, TemplateArgsEnd}
use Rattle.wgsl_templates.specs.declared.meaning.token.SpannedTemplateToken.{SpannedTemplateToken}
use Rattle.wgsl_templates.specs.Kinds.{kind}
use Rattle.wgsl_print_laws.specs.Laws.{without_places}
use Rattle.wgsl_print_laws.specs.OptionalMarks.{Before, is_callee, outer, groups}
use Rattle.wgsl_expressions.specs.declared.expression.Expression.{Expression}
use Rattle.wgsl_expressions.specs.declared.expression.TemplateArgOf.{TemplateArgOf}
use Rattle.wgsl_expressions.specs.Tree.{Exp, Exps, nil, exps, Typ, simple, templated}
use Rattle.wgsl_expressions.specs.View.{node_tree}
use Rattle.wgsl_print_laws.specs.Tokens.{mark, word, origin_tokens, supers_tokens, components_tokens, path_tokens, qualifier_tokens, exps_tokens}
use Rattle.wgsl_print_laws.specs.Printable.{are_apart, type_is_apart}
use Rattle.wgsl_grammar_tables.specs.Grammars.{token, phrase}
use Rattle.wgsl_semantic_values.specs.declared.part.Part.{Part}
use Rattle.wgsl_semantic_values.specs.declared.part.Part.TheVariants as part
use Rattle.wgsl_semantic_values.specs.declared.label.Label.TheVariants as l
use Rattle.wgsl_semantic_values.specs.declared.label.NameLabel.TheVariants as name
use Rattle.wgsl_parser.specs.Phrase.{Phrase}
use Rattle.wgsl_semantic_values.specs.Making as make
use Rattle.wgsl_grammar_tables.specs.Classes.{fixed_class}
use Rattle.wgsl_read_back.proofs.Views.{View, view_tokens, Stands, a_token, an_ups, a_path, a_type, a_call, an_expression, some_expressions, ends_as}
use Rattle.wgsl_read_back.proofs.Views as v
use Rattle.wgsl_read_back.proofs.Items.{Item, closes, ListBack, Back, OneToken}
use Rattle.wgsl_read_back.proofs.Rows.{concat, nil as no_more, more, list_more, Stood, stood_pass, Makes, make_of, makes_of, Rebuild, back_of, of_one, of_two, of_three, of_four}
use Rattle.wgsl_read_back.proofs.Places.{mark_of, word_of, start_of, end_of}
use Rattle.wgsl_read_back.proofs.Families.{Typed, token_item, mark_item}

-- ---- what phrases are

abbrev pub Named : ℕ → List SpannedTemplateToken → Phrase Part → Type 0
Named n u x = (q : Option ModulePath) × (y : List ℕ) × Back n (v.path q y) u x

abbrev pub Upped : ℕ → List SpannedTemplateToken → Phrase Part → Type 0
Upped n u x = (k : ℕ) × Back n (v.ups (suc k)) u x

abbrev pub Called : ℕ → List SpannedTemplateToken → Phrase Part → Type 0
Called n u x = (t : Typ) × (xs : Exps) × ((type_is_apart t && are_apart xs) ≡ true) × Back n (v.call t xs) u x

-- some expressions with commas between them, and the same where a last comma may stand
abbrev pub Separated : ℕ → List SpannedTemplateToken → Phrase Part → Type 0
Separated n u x = (d : Exp) × (ds : List Exp) × (are_apart (exps (d ∷ ds)) ≡ true) × Back n (v.expressions (d ∷ ds)) u x

abbrev pub Listed : ℕ → List SpannedTemplateToken → Phrase Part → Type 0
Listed n u x = (es : List Exp) × (are_apart (exps es) ≡ true) × ListBack n (v.expressions es) u x

pub both : (a b : Bool) → a ≡ true → b ≡ true → (a && b) ≡ true
both a b e h = (λ i. e i && h i)

-- ---- words

abbrev pub word_item : (u : List SpannedTemplateToken) (x : Phrase Part) → (k : OneToken 77 u x) → Item (token 77) (v.token (word (word_of k.one.token k.class).0)) u x
word_item u x k = token_item 77 (word (word_of k.one.token k.class).0) u x k (word_of k.one.token k.class).1 refl

pub word_part : (p : Part) (y : List ℕ) → Stands p (v.token (word y)) → p ≡ part.Ident (ident_of y)
word_part p y (a_token e) = e

-- ---- names

pub name_alone : (n : ℕ) → Rebuild n (token 77 ∷ []) (l.Name name.NameAlone) (2 ∷ []) → {u : List SpannedTemplateToken} {x : Phrase Part} → OneToken 77 u x → Named n (u ++ []) (make_of (l.Name name.NameAlone) (2 ∷ []) (x ∷ []))
name_alone n rebuild {u = u} {x = x} k =
    let y = (word_of k.one.token k.class).0 in (
      None,
      y,
      back_of n (token 77 ∷ []) (l.Name name.NameAlone) (2 ∷ []) rebuild (v.token (word y) ∷ []) (v.path None y) refl
          (of_one (λ ys. Makes (v.path None y) (make_of (l.Name name.NameAlone) (2 ∷ []) ys)) (λ a h.
          makes_of (l.Name name.NameAlone) (2 ∷ []) a [] (v.path None y) (λ s. part.Path (record { path = None; ident = ident_of y }))
          (λ s i. make.name_alone (word_part a.part y h.0.0 i ∷ [])) (λ s. a_path _ refl refl refl) (λ ps. refl) (λ s. refl) (stood_pass (a ∷ []) (v.token (word y) ∷ []) h)))
          (more (word_item u x k) no_more) (λ c p. tt) (λ c p. refl) (λ c p. refl),
    )

above_tokens : (k : ℕ) (y : List ℕ) → concat (v.ups (suc k) ∷ v.token (word y) ∷ []) ≡ view_tokens (v.path (Some (record { origin = Relative (suc k); components = [] })) y)
above_tokens k y = ap (λ z. (z ++ (mark f.PathSeparator ∷ [])) ++ (word y ∷ [])) (sym (append-nil (origin_tokens (Relative (suc k)))))

pub name_above : (n m : ℕ) → Rebuild n (phrase m ∷ token 77 ∷ []) (l.Name name.NameAbove) (2 ∷ 2 ∷ []) → {a b : List SpannedTemplateToken} {x y : Phrase Part} → Upped m a x → OneToken 77 b y
    → Named n (a ++ (b ++ [])) (make_of (l.Name name.NameAbove) (2 ∷ 2 ∷ []) (x ∷ y ∷ []))
name_above n m rebuild {b = u} {y = z} g k =
    let y = (word_of k.one.token k.class).0 in
    let q : ModulePath = record { origin = Relative (suc g.0); components = [] } in (
      Some q,
      y,
      back_of n (phrase m ∷ token 77 ∷ []) (l.Name name.NameAbove) (2 ∷ 2 ∷ []) rebuild (v.ups (suc g.0) ∷ v.token (word y) ∷ []) (v.path (Some q) y) (above_tokens g.0 y)
          (of_two (λ ys. Makes (v.path (Some q) y) (make_of (l.Name name.NameAbove) (2 ∷ 2 ∷ []) ys)) (makes g.0 y))
          (more g.1.item (more (word_item u z k) no_more)) (λ c p. tt) (λ c p. g.1.level c p) (λ c p. refl),
    )
  where
    makes : (k : ℕ) (y : List ℕ) (a b : Phrase Part) → Stood (a ∷ b ∷ []) (v.ups (suc k) ∷ v.token (word y) ∷ [])
        → Makes (v.path (Some (record { origin = Relative (suc k); components = [] })) y) (make_of (l.Name name.NameAbove) (2 ∷ 2 ∷ []) (a ∷ b ∷ []))
    makes k y a b h = go h.0.0
      where
        go : Stands a.part (v.ups (suc k)) → Makes (v.path (Some (record { origin = Relative (suc k); components = [] })) y) (make_of (l.Name name.NameAbove) (2 ∷ 2 ∷ []) (a ∷ b ∷ []))
        go (an_ups e) =
            makes_of (l.Name name.NameAbove) (2 ∷ 2 ∷ []) a (b ∷ []) (v.path (Some (record { origin = Relative (suc k); components = [] })) y)
            (λ s. part.Path (record { path = Some (record { origin = Relative (suc k); components = [] }); ident = ident_of y }))
            (λ s i. make.name_above (e i ∷ word_part b.part y h.1.0.0 i ∷ [])) (λ s. a_path _ refl refl refl) (λ ps. refl) (λ s. refl) (stood_pass (a ∷ b ∷ []) (v.ups (suc k) ∷ v.token (word y) ∷ []) h)

pub name_in_package : (n : ℕ) → Rebuild n (token (fixed_class f.Package) ∷ token (fixed_class f.PathSeparator) ∷ token 77 ∷ []) (l.Name name.NameInPackage) (1 ∷ 1 ∷ 2 ∷ []) → {a b c : List SpannedTemplateToken} {x y z : Phrase Part}
    → OneToken (fixed_class f.Package) a x → OneToken (fixed_class f.PathSeparator) b y → OneToken 77 c z → Named n (a ++ (b ++ (c ++ []))) (make_of (l.Name name.NameInPackage) (1 ∷ 1 ∷ 2 ∷ []) (x ∷ y ∷ z ∷ []))
name_in_package n rebuild {a = a} {b = b} {c = c} {x = x} {y = s} {z = z} i j k =
    let y = (word_of k.one.token k.class).0 in (
      Some root_path,
      y,
      back_of n (token (fixed_class f.Package) ∷ token (fixed_class f.PathSeparator) ∷ token 77 ∷ []) (l.Name name.NameInPackage) (1 ∷ 1 ∷ 2 ∷ []) rebuild
          (v.token (mark f.Package) ∷ v.token (mark f.PathSeparator) ∷ v.token (word y) ∷ []) (v.path (Some root_path) y) refl
          (of_three (λ ys. Makes (v.path (Some root_path) y) (make_of (l.Name name.NameInPackage) (1 ∷ 1 ∷ 2 ∷ []) ys)) (λ d e g h.
          makes_of (l.Name name.NameInPackage) (1 ∷ 1 ∷ 2 ∷ []) d (e ∷ g ∷ []) (v.path (Some root_path) y) (λ s. part.Path (record { path = Some root_path; ident = ident_of y }))
          (λ s i. make.name_in_package (word_part g.part y h.1.1.0.0 i ∷ [])) (λ s. a_path _ refl refl refl) (λ ps. refl) (λ s. refl)
          (stood_pass (d ∷ e ∷ g ∷ []) (v.token (mark f.Package) ∷ v.token (mark f.PathSeparator) ∷ v.token (word y) ∷ []) h)))
          (more (mark_item f.Package a x i) (more (mark_item f.PathSeparator b s j) (more (word_item c z k) no_more))) (λ c p. tt) (λ c p. refl) (λ c p. refl),
    )

components_more : (cs : List (List ℕ)) (y : List ℕ) → components_tokens (cs ++ (y ∷ [])) ≡ components_tokens cs ++ (mark f.PathSeparator ∷ word y ∷ [])
components_more [] y = refl
components_more (c ∷ cs) y = ap (λ z. mark f.PathSeparator ∷ word c ∷ z) (components_more cs y)

pub within_tokens : (q : Option ModulePath) (y : List ℕ) → path_tokens (make.path_within q y) ≡ qualifier_tokens q ++ (word y ∷ [])
within_tokens None y = refl
within_tokens (Some p) y =
    ap (λ z. origin_tokens p.origin ++ z) (components_more p.components y) ∙ sym (append_assoc (origin_tokens p.origin) (components_tokens p.components) (mark f.PathSeparator ∷ word y ∷ []))
    ∙ sym (append_assoc (path_tokens p) (mark f.PathSeparator ∷ []) (word y ∷ []))

pub name_within : (n m : ℕ) → Rebuild n (phrase m ∷ token (fixed_class f.PathSeparator) ∷ token 77 ∷ []) (l.Name name.NameWithin) (2 ∷ 1 ∷ 2 ∷ []) → {a b c : List SpannedTemplateToken} {x y z : Phrase Part}
    → Named m a x → OneToken (fixed_class f.PathSeparator) b y → OneToken 77 c z → Named n (a ++ (b ++ (c ++ []))) (make_of (l.Name name.NameWithin) (2 ∷ 1 ∷ 2 ∷ []) (x ∷ y ∷ z ∷ []))
name_within n m rebuild {b = b} {c = c} {y = s} {z = z} g j k =
    let y = (word_of k.one.token k.class).0 in
    let q = make.path_within g.0 g.1 in (
      Some q,
      y,
      back_of n (phrase m ∷ token (fixed_class f.PathSeparator) ∷ token 77 ∷ []) (l.Name name.NameWithin) (2 ∷ 1 ∷ 2 ∷ []) rebuild
          (v.path g.0 g.1 ∷ v.token (mark f.PathSeparator) ∷ v.token (word y) ∷ []) (v.path (Some q) y) (tokens g.0 g.1 y)
          (of_three (λ ys. Makes (v.path (Some q) y) (make_of (l.Name name.NameWithin) (2 ∷ 1 ∷ 2 ∷ []) ys)) (makes g.0 g.1 y))
          (more g.2.item (more (mark_item f.PathSeparator b s j) (more (word_item c z k) no_more))) (λ c p. tt) (λ c p. g.2.level c p) (λ c p. refl),
    )
  where
    tokens : (q : Option ModulePath) (o y : List ℕ) → concat (v.path q o ∷ v.token (mark f.PathSeparator) ∷ v.token (word y) ∷ []) ≡ view_tokens (v.path (Some (make.path_within q o)) y)
    tokens q o y = sym (append_assoc (qualifier_tokens q ++ (word o ∷ [])) (mark f.PathSeparator ∷ []) (word y ∷ [])) ∙ ap (λ z. (z ++ (mark f.PathSeparator ∷ [])) ++ (word y ∷ [])) (sym (within_tokens q o))

    makes : (q : Option ModulePath) (o y : List ℕ) (d e h : Phrase Part) → Stood (d ∷ e ∷ h ∷ []) (v.path q o ∷ v.token (mark f.PathSeparator) ∷ v.token (word y) ∷ [])
        → Makes (v.path (Some (make.path_within q o)) y) (make_of (l.Name name.NameWithin) (2 ∷ 1 ∷ 2 ∷ []) (d ∷ e ∷ h ∷ []))
    makes q o y d e h g = go g.0.0
      where
        go : Stands d.part (v.path q o) → Makes (v.path (Some (make.path_within q o)) y) (make_of (l.Name name.NameWithin) (2 ∷ 1 ∷ 2 ∷ []) (d ∷ e ∷ h ∷ []))
        go (a_path x is p r) =
            makes_of (l.Name name.NameWithin) (2 ∷ 1 ∷ 2 ∷ []) d (e ∷ h ∷ []) (v.path (Some (make.path_within q o)) y)
            (λ s. part.Path (record { path = Some (make.path_within x.path x.ident.name); ident = ident_of y }))
            (λ s i. make.name_within (is i ∷ word_part h.part y g.1.1.0.0 i ∷ [])) (λ s. a_path _ refl (λ i. Some (make.path_within (p i) (r i))) refl) (λ ps. refl) (λ s. refl)
            (stood_pass (d ∷ e ∷ h ∷ []) (v.path q o ∷ v.token (mark f.PathSeparator) ∷ v.token (word y) ∷ []) g)

pub one_up : (n : ℕ) → Rebuild n (token (fixed_class f.Super) ∷ token (fixed_class f.PathSeparator) ∷ []) (l.Name name.OneUp) (1 ∷ 1 ∷ []) → {a b : List SpannedTemplateToken} {x y : Phrase Part}
    → OneToken (fixed_class f.Super) a x → OneToken (fixed_class f.PathSeparator) b y → Upped n (a ++ (b ++ [])) (make_of (l.Name name.OneUp) (1 ∷ 1 ∷ []) (x ∷ y ∷ []))
one_up n rebuild {a = a} {b = b} {x = x} {y = y} i j = (
  0,
  back_of n (token (fixed_class f.Super) ∷ token (fixed_class f.PathSeparator) ∷ []) (l.Name name.OneUp) (1 ∷ 1 ∷ []) rebuild (v.token (mark f.Super) ∷ v.token (mark f.PathSeparator) ∷ []) (v.ups 1) refl
      (of_two (λ ys. Makes (v.ups 1) (make_of (l.Name name.OneUp) (1 ∷ 1 ∷ []) ys)) (λ d e h.
      makes_of (l.Name name.OneUp) (1 ∷ 1 ∷ []) d (e ∷ []) (v.ups 1) (λ s. part.Ups 1) (λ s. refl) (λ s. an_ups refl) (λ ps. refl) (λ s. refl) (stood_pass (d ∷ e ∷ []) (v.token (mark f.Super) ∷ v.token (mark f.PathSeparator) ∷ []) h)))
      (more (mark_item f.Super a x i) (more (mark_item f.PathSeparator b y j) no_more)) (λ c p. tt) (λ c p. refl) (λ c p. tt),
)

pub further_up : (n m : ℕ) → Rebuild n (phrase m ∷ token (fixed_class f.Super) ∷ token (fixed_class f.PathSeparator) ∷ []) (l.Name name.FurtherUp) (2 ∷ 1 ∷ 1 ∷ []) → {a b c : List SpannedTemplateToken} {x y z : Phrase Part}
    → Upped m a x → OneToken (fixed_class f.Super) b y → OneToken (fixed_class f.PathSeparator) c z → Upped n (a ++ (b ++ (c ++ []))) (make_of (l.Name name.FurtherUp) (2 ∷ 1 ∷ 1 ∷ []) (x ∷ y ∷ z ∷ []))
further_up n m rebuild {b = b} {c = c} {y = y} {z = z} g i j = (
  suc g.0,
  back_of n (phrase m ∷ token (fixed_class f.Super) ∷ token (fixed_class f.PathSeparator) ∷ []) (l.Name name.FurtherUp) (2 ∷ 1 ∷ 1 ∷ []) rebuild
      (v.ups (suc g.0) ∷ v.token (mark f.Super) ∷ v.token (mark f.PathSeparator) ∷ []) (v.ups (suc (suc g.0))) (tokens g.0)
      (of_three (λ ys. Makes (v.ups (suc (suc g.0))) (make_of (l.Name name.FurtherUp) (2 ∷ 1 ∷ 1 ∷ []) ys)) (makes g.0))
      (more g.1.item (more (mark_item f.Super b y i) (more (mark_item f.PathSeparator c z j) no_more))) (λ c p. tt) (λ c p. g.1.level c p) (λ c p. tt),
)
  where
    tokens : (k : ℕ) → concat (v.ups (suc k) ∷ v.token (mark f.Super) ∷ v.token (mark f.PathSeparator) ∷ []) ≡ view_tokens (v.ups (suc (suc k)))
    tokens k =
        append_assoc (mark f.Super ∷ supers_tokens k) (mark f.PathSeparator ∷ []) (mark f.Super ∷ mark f.PathSeparator ∷ [])
        ∙ sym (append_assoc (mark f.Super ∷ supers_tokens k) (mark f.PathSeparator ∷ mark f.Super ∷ []) (mark f.PathSeparator ∷ []))

    makes : (k : ℕ) (d e h : Phrase Part) → Stood (d ∷ e ∷ h ∷ []) (v.ups (suc k) ∷ v.token (mark f.Super) ∷ v.token (mark f.PathSeparator) ∷ [])
        → Makes (v.ups (suc (suc k))) (make_of (l.Name name.FurtherUp) (2 ∷ 1 ∷ 1 ∷ []) (d ∷ e ∷ h ∷ []))
    makes k d e h g = go g.0.0
      where
        go : Stands d.part (v.ups (suc k)) → Makes (v.ups (suc (suc k))) (make_of (l.Name name.FurtherUp) (2 ∷ 1 ∷ 1 ∷ []) (d ∷ e ∷ h ∷ []))
        go (an_ups is) =
            let one_more : suc k + 1 ≡ suc (suc k) = omega arith in
            makes_of (l.Name name.FurtherUp) (2 ∷ 1 ∷ 1 ∷ []) d (e ∷ h ∷ []) (v.ups (suc (suc k))) (λ s. part.Ups (suc (suc k)))
            (λ s. ap (λ z. make.further_up (z ∷ [])) is ∙ ap part.Ups one_more) (λ s. an_ups refl) (λ ps. refl) (λ s. refl)
            (stood_pass (d ∷ e ∷ h ∷ []) (v.ups (suc k) ∷ v.token (mark f.Super) ∷ v.token (mark f.PathSeparator) ∷ []) g)

-- ---- types

pub simple_typed : (n m : ℕ) → Rebuild n (phrase m ∷ []) (l.Name name.Simple) (2 ∷ []) → {u : List SpannedTemplateToken} {x : Phrase Part} → Named m u x → Typed n (u ++ []) (make_of (l.Name name.Simple) (2 ∷ []) (x ∷ []))
simple_typed n m rebuild g = (
  simple g.0 g.1,
  refl,
  back_of n (phrase m ∷ []) (l.Name name.Simple) (2 ∷ []) rebuild (v.path g.0 g.1 ∷ []) (v.type (simple g.0 g.1)) (append-nil (view_tokens (v.path g.0 g.1)))
      (of_one (λ ys. Makes (v.type (simple g.0 g.1)) (make_of (l.Name name.Simple) (2 ∷ []) ys)) (makes g.0 g.1))
      (more g.2.item no_more) (λ c p. tt) g.2.level g.2.ended,
)
  where
    makes : (q : Option ModulePath) (y : List ℕ) (a : Phrase Part) → Stood (a ∷ []) (v.path q y ∷ []) → Makes (v.type (simple q y)) (make_of (l.Name name.Simple) (2 ∷ []) (a ∷ []))
    makes q y a h = go h.0.0
      where
        go : Stands a.part (v.path q y) → Makes (v.type (simple q y)) (make_of (l.Name name.Simple) (2 ∷ []) (a ∷ []))
        go (a_path x is p r) =
            makes_of (l.Name name.Simple) (2 ∷ []) a [] (v.type (simple q y)) (λ s. part.Type (record { path = x.path; ident = x.ident; template_args = None }))
            (λ s i. make.simple (is i ∷ [])) (λ s. a_type _ refl (λ i. simple (p i) (r i))) (λ ps. refl) (λ s. refl) (stood_pass (a ∷ []) (v.path q y ∷ []) h)

map-map : (ns : List (Spanned Expression)) → map (λ (a : TemplateArgOf Expression). node_tree a.expression) (make.template_of ns) ≡ map node_tree ns
map-map [] = refl
map-map (n ∷ ns) = ap (λ z. node_tree n ∷ z) (map-map ns)

pub template_typed : (n m i : ℕ) → Rebuild n (phrase m ∷ token 80 ∷ phrase i ∷ token 81 ∷ []) (l.Name name.Templated) (2 ∷ 1 ∷ 2 ∷ 1 ∷ []) → {a b c d : List SpannedTemplateToken} {x y z w : Phrase Part}
    → Named m a x → OneToken 80 b y → Listed i c z → OneToken 81 d w → Typed n (a ++ (b ++ (c ++ (d ++ [])))) (make_of (l.Name name.Templated) (2 ∷ 1 ∷ 2 ∷ 1 ∷ []) (x ∷ y ∷ z ∷ w ∷ []))
template_typed n m i rebuild {b = b} {d = d} {y = y} {w = w} g j h k =
    let shut = end_of k.one.token k.class in (
      templated g.0 g.1 (exps h.0),
      h.1,
      back_of n (phrase m ∷ token 80 ∷ phrase i ∷ token 81 ∷ []) (l.Name name.Templated) (2 ∷ 1 ∷ 2 ∷ 1 ∷ []) rebuild
          (v.path g.0 g.1 ∷ v.token TemplateArgsStart ∷ v.expressions h.0 ∷ v.token TemplateArgsEnd ∷ []) (v.type (templated g.0 g.1 (exps h.0)))
          (append_assoc (qualifier_tokens g.0) (word g.1 ∷ []) (TemplateArgsStart ∷ (exps_tokens (exps h.0) ++ (TemplateArgsEnd ∷ []))))
          (of_four (λ ys. Makes (v.type (templated g.0 g.1 (exps h.0))) (make_of (l.Name name.Templated) (2 ∷ 1 ∷ 2 ∷ 1 ∷ []) ys)) (makes g.0 g.1 h.0))
          (more g.2.item (more (token_item 80 TemplateArgsStart b y j (start_of j.one.token j.class) refl) (list_more h.2 (token_item 81 TemplateArgsEnd d w k shut refl) (ap without_places (sym k.whole) ∙ ap (λ z. z ∷ []) shut) (closes refl) no_more)))
          (λ c p. ((h.2.ended _ _, refl), tt)) (λ c p. g.2.level c p) (λ c p. refl),
    )
  where
    makes : (q : Option ModulePath) (o : List ℕ) (es : List Exp) (a b c d : Phrase Part) → Stood (a ∷ b ∷ c ∷ d ∷ []) (v.path q o ∷ v.token TemplateArgsStart ∷ v.expressions es ∷ v.token TemplateArgsEnd ∷ [])
        → Makes (v.type (templated q o (exps es))) (make_of (l.Name name.Templated) (2 ∷ 1 ∷ 2 ∷ 1 ∷ []) (a ∷ b ∷ c ∷ d ∷ []))
    makes q o es a b c d h = go h.0.0 h.1.1.0.0
      where
        go : Stands a.part (v.path q o) → Stands c.part (v.expressions es) → Makes (v.type (templated q o (exps es))) (make_of (l.Name name.Templated) (2 ∷ 1 ∷ 2 ∷ 1 ∷ []) (a ∷ b ∷ c ∷ d ∷ []))
        go (a_path x is p r) (some_expressions ns e s) =
            makes_of (l.Name name.Templated) (2 ∷ 1 ∷ 2 ∷ 1 ∷ []) a (b ∷ c ∷ d ∷ []) (v.type (templated q o (exps es)))
            (λ z. part.Type (record { path = x.path; ident = x.ident; template_args = Some (make.template_of ns) }))
            (λ z i. make.templated (is i ∷ e i ∷ [])) (λ z. a_type _ refl (ap (λ ts. templated x.path x.ident.name (exps ts)) (map-map ns) ∙ (λ i. templated (p i) (r i) (exps (s i))))) (λ ps. refl) (λ z. refl)
            (stood_pass (a ∷ b ∷ c ∷ d ∷ []) (v.path q o ∷ v.token TemplateArgsStart ∷ v.expressions es ∷ v.token TemplateArgsEnd ∷ []) h)

-- ---- calls

outer_level : (b : Before) (p o : List Bool) → p ≡ o → outer (groups b p (kind (mark f.ParenLeft))) ≡ o
outer_level b p o e = e

pub call_without : (n m : ℕ) → Rebuild n (phrase m ∷ token (fixed_class f.ParenLeft) ∷ token (fixed_class f.ParenRight) ∷ []) (l.Name name.Call) (2 ∷ 1 ∷ 0 ∷ 1 ∷ []) → {a b c : List SpannedTemplateToken} {x y z : Phrase Part}
    → Typed m a x → OneToken (fixed_class f.ParenLeft) b y → OneToken (fixed_class f.ParenRight) c z → Called n (a ++ (b ++ (c ++ []))) (make_of (l.Name name.Call) (2 ∷ 1 ∷ 0 ∷ 1 ∷ []) (x ∷ y ∷ z ∷ []))
call_without n m rebuild {b = b} {c = c} {y = y} {z = z} g i j = (
  g.0,
  nil,
  both (type_is_apart g.0) true g.1 refl,
  back_of n (phrase m ∷ token (fixed_class f.ParenLeft) ∷ token (fixed_class f.ParenRight) ∷ []) (l.Name name.Call) (2 ∷ 1 ∷ 0 ∷ 1 ∷ []) rebuild
      (v.type g.0 ∷ v.token (mark f.ParenLeft) ∷ v.token (mark f.ParenRight) ∷ []) (v.call g.0 nil) refl
      (of_three (λ ys. Makes (v.call g.0 nil) (make_of (l.Name name.Call) (2 ∷ 1 ∷ 0 ∷ 1 ∷ []) ys)) (makes g.0))
      (more g.2.item (more (mark_item f.ParenLeft b y i) (more (mark_item f.ParenRight c z j) no_more))) (λ c p. tt) (λ c p. g.2.level c p) (λ c p. refl),
)
  where
    makes : (t : Typ) (d e h : Phrase Part) → Stood (d ∷ e ∷ h ∷ []) (v.type t ∷ v.token (mark f.ParenLeft) ∷ v.token (mark f.ParenRight) ∷ []) → Makes (v.call t nil) (make_of (l.Name name.Call) (2 ∷ 1 ∷ 0 ∷ 1 ∷ []) (d ∷ e ∷ h ∷ []))
    makes t d e h g = go g.0.0
      where
        go : Stands d.part (v.type t) → Makes (v.call t nil) (make_of (l.Name name.Call) (2 ∷ 1 ∷ 0 ∷ 1 ∷ []) (d ∷ e ∷ h ∷ []))
        go (a_type x is p) =
            makes_of (l.Name name.Call) (2 ∷ 1 ∷ 0 ∷ 1 ∷ []) d (e ∷ h ∷ []) (v.call t nil) (λ z. part.Call (record { ty = x; arguments = [] }))
            (λ z i. make.call (is i ∷ part.Absent ∷ [])) (λ z. a_call _ refl p refl) (λ ps. refl) (λ z. refl) (stood_pass (d ∷ e ∷ h ∷ []) (v.type t ∷ v.token (mark f.ParenLeft) ∷ v.token (mark f.ParenRight) ∷ []) g)

pub call_with : (n m i : ℕ) → Rebuild n (phrase m ∷ token (fixed_class f.ParenLeft) ∷ phrase i ∷ token (fixed_class f.ParenRight) ∷ []) (l.Name name.Call) (2 ∷ 1 ∷ 2 ∷ 1 ∷ []) → {a b c d : List SpannedTemplateToken} {x y z w : Phrase Part}
    → Typed m a x → OneToken (fixed_class f.ParenLeft) b y → Listed i c z → OneToken (fixed_class f.ParenRight) d w → Called n (a ++ (b ++ (c ++ (d ++ [])))) (make_of (l.Name name.Call) (2 ∷ 1 ∷ 2 ∷ 1 ∷ []) (x ∷ y ∷ z ∷ w ∷ []))
call_with n m i rebuild {b = b} {d = d} {y = y} {w = w} g j h k =
    let shut = mark_of k.one.token f.ParenRight k.class in (
      g.0,
      exps h.0,
      both (type_is_apart g.0) (are_apart (exps h.0)) g.1 h.1,
      back_of n (phrase m ∷ token (fixed_class f.ParenLeft) ∷ phrase i ∷ token (fixed_class f.ParenRight) ∷ []) (l.Name name.Call) (2 ∷ 1 ∷ 2 ∷ 1 ∷ []) rebuild
          (v.type g.0 ∷ v.token (mark f.ParenLeft) ∷ v.expressions h.0 ∷ v.token (mark f.ParenRight) ∷ []) (v.call g.0 (exps h.0)) refl
          (of_four (λ ys. Makes (v.call g.0 (exps h.0)) (make_of (l.Name name.Call) (2 ∷ 1 ∷ 2 ∷ 1 ∷ []) ys)) (makes g.0 h.0))
          (more g.2.item (more (mark_item f.ParenLeft b y j) (list_more h.2 (mark_item f.ParenRight d w k) (ap without_places (sym k.whole) ∙ ap (λ z. z ∷ []) shut) (closes refl) no_more)))
          (λ c p. ((h.2.ended _ _, ap is_callee (g.2.ended c p)), tt)) (λ c p. g.2.level c p) (λ c p. refl),
    )
  where
    makes : (t : Typ) (es : List Exp) (a b c d : Phrase Part) → Stood (a ∷ b ∷ c ∷ d ∷ []) (v.type t ∷ v.token (mark f.ParenLeft) ∷ v.expressions es ∷ v.token (mark f.ParenRight) ∷ [])
        → Makes (v.call t (exps es)) (make_of (l.Name name.Call) (2 ∷ 1 ∷ 2 ∷ 1 ∷ []) (a ∷ b ∷ c ∷ d ∷ []))
    makes t es a b c d h = go h.0.0 h.1.1.0.0
      where
        go : Stands a.part (v.type t) → Stands c.part (v.expressions es) → Makes (v.call t (exps es)) (make_of (l.Name name.Call) (2 ∷ 1 ∷ 2 ∷ 1 ∷ []) (a ∷ b ∷ c ∷ d ∷ []))
        go (a_type x is p) (some_expressions ns e s) =
            makes_of (l.Name name.Call) (2 ∷ 1 ∷ 2 ∷ 1 ∷ []) a (b ∷ c ∷ d ∷ []) (v.call t (exps es)) (λ z. part.Call (record { ty = x; arguments = ns }))
            (λ z i. make.call (is i ∷ e i ∷ [])) (λ z. a_call _ refl p (ap exps s)) (λ ps. refl) (λ z. refl)
            (stood_pass (a ∷ b ∷ c ∷ d ∷ []) (v.type t ∷ v.token (mark f.ParenLeft) ∷ v.expressions es ∷ v.token (mark f.ParenRight) ∷ []) h)
