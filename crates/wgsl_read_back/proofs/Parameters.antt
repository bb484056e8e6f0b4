-- The productions of a name and its type, as members and parameters are, of parameters, lists of them, and results of functions.
use Rattle.std.proofs.Common.{◌≡◌, refl, sym, ap, ◌∙◌, subst, ℕ, true, List, [], ◌∷◌, ◌++◌, append_assoc, append-nil, map, Option, Some}
use Rattle.std.specs.Option.{option_map}
use Rattle.std.proofs.lemmas.List.{map-append}
use Rattle.wgsl_path.specs.Paths.{ident_of}
use Rattle.wgsl_token.specs.declared.token.Fixed.TheVariants as f
use Rattle.wgsl_templates.specs.declared.meaning.token.TemplateToken.{TemplateToken}
use Rattle.wgsl_templates.specs.declared.meaning.token.SpannedTemplateToken.{SpannedTemplateToken}
use Rattle.wgsl_print_laws.specs.OptionalMarks.{Before}
use Rattle.wgsl_expressions.specs.Tree.{Typ}
use Rattle.wgsl_expressions.specs.View.{type_tree}
use Rattle.wgsl_expressions.specs.AttributesTree.{Attr}
use Rattle.wgsl_expressions.specs.AttributesView.{attributes_tree}
use Rattle.wgsl_declarations.specs.Tree.{Param}
use Rattle.wgsl_declarations.specs.View.{parameter_tree}
use Rattle.wgsl_print_laws.specs.Tokens.{mark, word, typ_tokens}
use Rattle.wgsl_print_laws.specs.Printable.{type_is_apart}
use Rattle.wgsl_print_laws.specs.Imports.{AttributesTokens, no_attributes}
use Rattle.wgsl_print_laws.specs.Declarations.{typed_tokens, MoreParametersTokens, no_more_parameters, parameters_and, ParametersTokens, parameters}
use Rattle.wgsl_grammar_tables.specs.Grammars.{Symbol, token, phrase}
use Rattle.wgsl_semantic_values.specs.Reading.{attributes_of}
use Rattle.wgsl_semantic_values.specs.declared.part.Part.{Part}
use Rattle.wgsl_semantic_values.specs.declared.part.Part.TheVariants as part
use Rattle.wgsl_semantic_values.specs.declared.label.Label.{Label}
use Rattle.wgsl_semantic_values.specs.declared.label.Label.TheVariants as l
use Rattle.wgsl_semantic_values.specs.declared.label.DeclarationLabel.TheVariants as label
use Rattle.wgsl_parser.specs.Phrase.{Phrase}
use Rattle.wgsl_parser.specs.Declarations as make
use Rattle.wgsl_parser.specs.Reading.{parameters_of, return_attributes_of, return_type_in}
use Rattle.wgsl_semantic_values.specs.Lists as lists
use Rattle.wgsl_grammar_tables.specs.Classes.{fixed_class}
use Rattle.wgsl_read_back.proofs.Views.{View, view_tokens, Stands, ends_as, a_type, a_parameter, some_parameters, a_result as a_result_part, no_result as no_result_part}
use Rattle.wgsl_read_back.proofs.Views as v
use Rattle.wgsl_read_back.proofs.Items.{Back, ListBack, OneToken}
use Rattle.wgsl_read_back.proofs.Rows.{make_of, Rebuild}
use Rattle.wgsl_read_back.proofs.Pieces.{end, a_mark, a_leaf, a_part, no_part, Made, made_as, pieces_back, of_two_parts, of_three_parts, phrase_back}
use Rattle.wgsl_read_back.proofs.Places.{word_of}
use Rattle.wgsl_read_back.proofs.Families.{Typed, mark_item}
use Rattle.wgsl_read_back.proofs.Lists.{separated_back, list_without, list_with}
use Rattle.wgsl_read_back.proofs.Operands.{word_item, word_part}
use Rattle.wgsl_read_back.proofs.AttributeRows.{AttributesRowed, attributes_are}

-- ---- what phrases are

abbrev pub param : List Attr → List ℕ → Typ → Param
param xs y t = record { attributes = xs; name = y; type = t }

-- a name and its type, with what attributes are before them, of a parameter or a member
pub record NameAndType (view : List Attr → List ℕ → Typ → List TemplateToken → View) (n : ℕ) (u : List SpannedTemplateToken) (x : Phrase Part) : Type 0 where
  pub attributes : List Attr
  pub name : List ℕ
  pub type : Typ
  pub tokens : List TemplateToken
  pub has : AttributesTokens attributes tokens
  pub apart : type_is_apart type ≡ true
  pub back : Back n (view attributes name type (tokens ++ typed_tokens name type)) u x

abbrev pub parameter_view : List Attr → List ℕ → Typ → List TemplateToken → View
parameter_view xs y t us = v.parameter (param xs y t) us

abbrev pub Parametered : ℕ → List SpannedTemplateToken → Phrase Part → Type 0
Parametered = NameAndType parameter_view

-- some of them with commas between them, and the same where a last comma may stand
abbrev pub ParametersSeparated : ℕ → List SpannedTemplateToken → Phrase Part → Type 0
ParametersSeparated n u x = (p : Param) × (ps : List Param) × (ts : List TemplateToken) × ParametersTokens (p ∷ ps) ts × Back n (v.parameters (p ∷ ps) ts) u x

abbrev pub ParametersListed : ℕ → List SpannedTemplateToken → Phrase Part → Type 0
ParametersListed n u x = (ps : List Param) × (ts : List TemplateToken) × ParametersTokens ps ts × ListBack n (v.parameters ps ts) u x

pub record Resulted (n : ℕ) (u : List SpannedTemplateToken) (x : Phrase Part) : Type 0 where
  pub attributes : List Attr
  pub type : Typ
  pub tokens : List TemplateToken
  pub has : AttributesTokens attributes tokens
  pub apart : type_is_apart type ≡ true
  pub back : Back n (v.returned attributes (Some type) (mark f.Arrow ∷ (tokens ++ typ_tokens type))) u x

-- ---- what parts are that may be absent

pub parameters_are : (p : Part) (ps : List Param) (ts : List TemplateToken) → Stands p (v.parameters ps ts) → map parameter_tree (parameters_of p) ≡ ps
parameters_are p _ _ (some_parameters ys e q) = ap (λ z. map parameter_tree (parameters_of z)) e ∙ q
parameters_are p _ _ (v.no_parameters e) = ap (λ z. map parameter_tree (parameters_of z)) e

pub result_attributes_are : (p : Part) (xs : List Attr) (t : Option Typ) (ts : List TemplateToken) → Stands p (v.returned xs t ts) → attributes_tree (return_attributes_of p) ≡ xs
result_attributes_are p _ _ _ (a_result_part y e h g) = ap (λ z. attributes_tree (return_attributes_of z)) e ∙ h
result_attributes_are p _ _ _ (no_result_part e) = ap (λ z. attributes_tree (return_attributes_of z)) e

pub result_type_is : (p : Part) (xs : List Attr) (t : Option Typ) (ts : List TemplateToken) → Stands p (v.returned xs t ts) → option_map type_tree (return_type_in p) ≡ t
result_type_is p _ _ _ (a_result_part y e h g) = ap (λ z. option_map type_tree (return_type_in z)) e ∙ ap Some g
result_type_is p _ _ _ (no_result_part e) = ap (λ z. option_map type_tree (return_type_in z)) e

-- ---- rows

abbrev pub typed_row : ℕ → List Symbol
typed_row m = token 77 ∷ token (fixed_class f.Colon) ∷ phrase m ∷ []

abbrev pub attributes_typed_row : ℕ → ℕ → List Symbol
attributes_typed_row r m = phrase r ∷ typed_row m

abbrev pub result_row : ℕ → List Symbol
result_row m = token (fixed_class f.Arrow) ∷ phrase m ∷ []

abbrev pub attributes_result_row : ℕ → ℕ → List Symbol
attributes_result_row r m = token (fixed_class f.Arrow) ∷ phrase r ∷ phrase m ∷ []

-- ---- a name and its type

typed_end : (ts : List TemplateToken) (y : List ℕ) (t : Typ) → ts ++ (word y ∷ mark f.Colon ∷ (typ_tokens t ++ [])) ≡ ts ++ typed_tokens y t
typed_end ts y t = ap (λ z. ts ++ (word y ∷ mark f.Colon ∷ z)) (append-nil (typ_tokens t))

-- by what it stands for, where that ends as its type does
module _ (view : List Attr → List ℕ → Typ → List TemplateToken → View) (label : Label) (tokens : (xs : List Attr) (y : List ℕ) (t : Typ) (us : List TemplateToken) → us ≡ view_tokens (view xs y t us))
    (makes : (xs : List Attr) (ts : List TemplateToken) (y : List ℕ) (t : Typ) (us : List TemplateToken) (p q r : Part) → Stands p (v.attributes xs ts) → Stands q (v.token (word y)) → Stands r (v.type t) → Made label (p ∷ q ∷ r ∷ []) (view xs y t us))
    (ends : (xs : List Attr) (y : List ℕ) (t : Typ) (us : List TemplateToken) (b : Before) → ends_as (v.type t) b → ends_as (view xs y t us) b) where
  pub typed_bare : (n m : ℕ) → Rebuild n (typed_row m) label (0 ∷ 2 ∷ 1 ∷ 2 ∷ []) → {a b c : List SpannedTemplateToken} {x y z : Phrase Part} → OneToken 77 a x → OneToken (fixed_class f.Colon) b y → Typed m c z
      → NameAndType view n (a ++ (b ++ (c ++ []))) (make_of label (0 ∷ 2 ∷ 1 ∷ 2 ∷ []) (x ∷ y ∷ z ∷ []))
  typed_bare n m rebuild {a = a} {b = b} {x = x} {y = y} k i g =
      let name = (word_of k.one.token k.class).0 in
      let us : List TemplateToken = typed_tokens name g.0 in record {
        attributes = [];
        name = name;
        type = g.0;
        tokens = [];
        has = no_attributes;
        apart = g.1;
        back = pieces_back n (typed_row m) (0 ∷ 2 ∷ 1 ∷ 2 ∷ []) (token 77) (token (fixed_class f.Colon) ∷ phrase m ∷ []) (0 ∷ 2 ∷ 1 ∷ 2 ∷ []) label rebuild rebuild (view [] name g.0 us)
            (no_part (v.attributes [] []) (v.no_attributes refl) (a_leaf (word_item a x k) (a_mark (mark_item f.Colon b y i) (a_part g.2 end)))) (typed_end [] name g.0 ∙ tokens [] name g.0 us)
            (of_three_parts (λ qs. Made label qs (view [] name g.0 us)) (makes [] [] name g.0 us)) (λ d o. tt) (λ d o. refl) (λ d o. ends [] name g.0 us _ (g.2.ended _ _));
      }

  pub typed_attributed : (n r m : ℕ) → Rebuild n (attributes_typed_row r m) label (2 ∷ 2 ∷ 1 ∷ 2 ∷ []) → {e a b c : List SpannedTemplateToken} {w x y z : Phrase Part} → AttributesRowed r e w → OneToken 77 a x → OneToken (fixed_class f.Colon) b y → Typed m c z
      → NameAndType view n (e ++ (a ++ (b ++ (c ++ [])))) (make_of label (2 ∷ 2 ∷ 1 ∷ 2 ∷ []) (w ∷ x ∷ y ∷ z ∷ []))
  typed_attributed n r m rebuild {a = a} {b = b} {x = x} {y = y} h k i g =
      let name = (word_of k.one.token k.class).0 in
      let xs : List Attr = h.0 ∷ h.1 in
      let us : List TemplateToken = h.2 ++ typed_tokens name g.0 in record {
        attributes = xs;
        name = name;
        type = g.0;
        tokens = h.2;
        has = h.3;
        apart = g.1;
        back = pieces_back n (attributes_typed_row r m) (2 ∷ 2 ∷ 1 ∷ 2 ∷ []) (phrase r) (typed_row m) (2 ∷ 2 ∷ 1 ∷ 2 ∷ []) label rebuild rebuild (view xs name g.0 us)
            (a_part h.4 (a_leaf (word_item a x k) (a_mark (mark_item f.Colon b y i) (a_part g.2 end)))) (typed_end h.2 name g.0 ∙ tokens xs name g.0 us)
            (of_three_parts (λ qs. Made label qs (view xs name g.0 us)) (makes xs h.2 name g.0 us)) (λ d o. tt) (λ d o. refl) (λ d o. ends xs name g.0 us _ (g.2.ended _ _));
      }

-- ---- parameters

pub parameter_makes : (xs : List Attr) (ts : List TemplateToken) (y : List ℕ) (t : Typ) (us : List TemplateToken) (p q r : Part) → Stands p (v.attributes xs ts) → Stands q (v.token (word y)) → Stands r (v.type t)
    → Made (l.Declaration label.Parameter) (p ∷ q ∷ r ∷ []) (parameter_view xs y t us)
parameter_makes xs ts y t us p q r h g (a_type z is e) =
    made_as (l.Declaration label.Parameter) (p ∷ q ∷ r ∷ []) (v.parameter (param xs y t) us) (λ s. part.Parameter (record { attributes = attributes_of p; ident = ident_of y; ty = z })) (λ s i. make.parameter (p ∷ word_part q y g i ∷ is i ∷ []))
    (λ s. a_parameter _ refl (λ i. param (attributes_are p xs ts h i) y (e i))) (λ s. refl) refl

-- ---- lists of parameters

parameter_alone : (xs : List Attr) (y : List ℕ) (t : Typ) (ts : List TemplateToken) → AttributesTokens xs ts → type_is_apart t ≡ true → ParametersTokens (param xs y t ∷ []) ((ts ++ typed_tokens y t) ++ [])
parameter_alone xs y t ts h apart = subst (ParametersTokens (param xs y t ∷ [])) (sym (append_assoc ts (typed_tokens y t) [])) (parameters h apart no_more_parameters)

more_last : {ps : List Param} {ts : List TemplateToken} (xs : List Attr) (y : List ℕ) (t : Typ) (us : List TemplateToken) → MoreParametersTokens ps ts → AttributesTokens xs us → type_is_apart t ≡ true
    → MoreParametersTokens (ps ++ (param xs y t ∷ [])) (ts ++ (mark f.Comma ∷ ((us ++ typed_tokens y t) ++ [])))
more_last xs y t us no_more_parameters h apart = subst (MoreParametersTokens (param xs y t ∷ [])) (ap (λ z. mark f.Comma ∷ z) (sym (append_assoc us (typed_tokens y t) []))) (parameters_and h apart no_more_parameters)
more_last xs y t us (parameters_and {p = p} {ps = ps} {ts = ts} {us = vs} g k gs) h apart =
    let ws : List TemplateToken = mark f.Comma ∷ ((us ++ typed_tokens y t) ++ []) in
    subst (MoreParametersTokens (p ∷ (ps ++ (param xs y t ∷ [])))) (ap (λ z. mark f.Comma ∷ z) (sym (append_assoc ts (typed_tokens p.name p.type ++ vs) ws ∙ ap (λ z. ts ++ z) (append_assoc (typed_tokens p.name p.type) vs ws))))
    (parameters_and g k (more_last xs y t us gs h apart))

parameters_last : {p : Param} {ps : List Param} {ts : List TemplateToken} (xs : List Attr) (y : List ℕ) (t : Typ) (us : List TemplateToken) → ParametersTokens (p ∷ ps) ts → AttributesTokens xs us → type_is_apart t ≡ true
    → ParametersTokens (p ∷ (ps ++ (param xs y t ∷ []))) (ts ++ (mark f.Comma ∷ ((us ++ typed_tokens y t) ++ [])))
parameters_last {p = p} {ps = ps} xs y t us (parameters {ts = ts} {us = vs} g k gs) h apart =
    let ws : List TemplateToken = mark f.Comma ∷ ((us ++ typed_tokens y t) ++ []) in
    subst (ParametersTokens (p ∷ (ps ++ (param xs y t ∷ [])))) (sym (append_assoc ts (typed_tokens p.name p.type ++ vs) ws ∙ ap (λ z. ts ++ z) (append_assoc (typed_tokens p.name p.type) vs ws))) (parameters g k (more_last xs y t us gs h apart))

pub first_parameter : (n m : ℕ) → Rebuild n (phrase m ∷ []) l.First (2 ∷ []) → {u : List SpannedTemplateToken} {x : Phrase Part} → Parametered m u x → ParametersSeparated n (u ++ []) (make_of l.First (2 ∷ []) (x ∷ []))
first_parameter n m rebuild g =
    let p = param g.attributes g.name g.type in
    let ts = (g.tokens ++ typed_tokens g.name g.type) ++ [] in (
      p,
      [],
      ts,
      parameter_alone g.attributes g.name g.type g.tokens g.has g.apart,
      phrase_back n m l.First rebuild (v.parameters (p ∷ []) ts) g.back refl (makes p (g.tokens ++ typed_tokens g.name g.type) ts) (λ d o. g.back.ended _ _),
    )
  where
    makes : (p : Param) (us ts : List TemplateToken) (q : Part) → Stands q (v.parameter p us) → Made l.First (q ∷ []) (v.parameters (p ∷ []) ts)
    makes p us ts q (a_parameter y is e) = made_as l.First (q ∷ []) (v.parameters (p ∷ []) ts) (λ s. part.Parameters (y ∷ [])) (λ s i. lists.started (is i)) (λ s. some_parameters _ refl (λ i. e i ∷ [])) (λ s. refl) refl

pub more_parameters : (n m : ℕ) → Rebuild n (phrase n ∷ token (fixed_class f.Comma) ∷ phrase m ∷ []) l.More (2 ∷ 1 ∷ 2 ∷ []) → {a b c : List SpannedTemplateToken} {x y z : Phrase Part}
    → ParametersSeparated n a x → OneToken (fixed_class f.Comma) b y → Parametered m c z → ParametersSeparated n (a ++ (b ++ (c ++ []))) (make_of l.More (2 ∷ 1 ∷ 2 ∷ []) (x ∷ y ∷ z ∷ []))
more_parameters n m rebuild h i g =
    let p = param g.attributes g.name g.type in
    let ts = h.2 ++ (mark f.Comma ∷ ((g.tokens ++ typed_tokens g.name g.type) ++ [])) in (
      h.0,
      h.1 ++ (p ∷ []),
      ts,
      parameters_last g.attributes g.name g.type g.tokens h.3 g.has g.apart,
      separated_back n m rebuild (v.parameters (h.0 ∷ (h.1 ++ (p ∷ []))) ts) h.4 i g.back refl (makes h.0 h.1 h.2 p (g.tokens ++ typed_tokens g.name g.type) ts) (λ d o. g.back.ended _ _),
    )
  where
    makes : (p : Param) (ps : List Param) (us : List TemplateToken) (r : Param) (vs ts : List TemplateToken) (q k : Part) → Stands q (v.parameters (p ∷ ps) us) → Stands k (v.parameter r vs) → Made l.More (q ∷ k ∷ []) (v.parameters (p ∷ (ps ++ (r ∷ []))) ts)
    makes p ps us r vs ts q k (some_parameters ys is e) (a_parameter y at h) =
        made_as l.More (q ∷ k ∷ []) (v.parameters (p ∷ (ps ++ (r ∷ []))) ts) (λ s. part.Parameters (ys ++ (y ∷ []))) (λ s i. lists.joined (is i) (at i))
        (λ s. some_parameters _ refl (map-append parameter_tree ys (y ∷ []) ∙ (λ i. e i ++ (h i ∷ [])))) (λ s. refl) refl

pub parameters_without : (n m : ℕ) → Rebuild n (phrase m ∷ []) l.Pass (2 ∷ []) → {u : List SpannedTemplateToken} {x : Phrase Part} → ParametersSeparated m u x → ParametersListed n (u ++ []) (make_of l.Pass (2 ∷ []) (x ∷ []))
parameters_without n m rebuild g = (g.0 ∷ g.1, g.2, g.3, list_without n m (v.parameters (g.0 ∷ g.1) g.2) rebuild g.4)

pub parameters_with : (n m : ℕ) → Rebuild n (phrase m ∷ token (fixed_class f.Comma) ∷ []) l.Pass (2 ∷ 1 ∷ []) → Rebuild n (phrase m ∷ []) l.Pass (2 ∷ []) → {a b : List SpannedTemplateToken} {x y : Phrase Part} → ParametersSeparated m a x → OneToken (fixed_class f.Comma) b y
    → ParametersListed n (a ++ (b ++ [])) (make_of l.Pass (2 ∷ 1 ∷ []) (x ∷ y ∷ []))
parameters_with n m read rebuild g k = (g.0 ∷ g.1, g.2, g.3, list_with n m (v.parameters (g.0 ∷ g.1) g.2) read rebuild g.4 k)

-- ---- results

result_makes : (xs : List Attr) (ts : List TemplateToken) (t : Typ) (us : List TemplateToken) (p r : Part) → Stands p (v.attributes xs ts) → Stands r (v.type t) → Made (l.Declaration label.Result) (p ∷ r ∷ []) (v.returned xs (Some t) us)
result_makes xs ts t us p r h (a_type z is e) =
    made_as (l.Declaration label.Result) (p ∷ r ∷ []) (v.returned xs (Some t) us) (λ s. part.Result (record { attributes = attributes_of p; ty = z })) (λ s i. make.function_result (p ∷ is i ∷ []))
    (λ s. a_result_part _ refl (attributes_are p xs ts h) e) (λ s. refl) refl

pub result_bare : (n m : ℕ) → Rebuild n (result_row m) (l.Declaration label.Result) (1 ∷ 0 ∷ 2 ∷ []) → {a b : List SpannedTemplateToken} {x y : Phrase Part} → OneToken (fixed_class f.Arrow) a x → Typed m b y
    → Resulted n (a ++ (b ++ [])) (make_of (l.Declaration label.Result) (1 ∷ 0 ∷ 2 ∷ []) (x ∷ y ∷ []))
result_bare n m rebuild {a = a} {x = x} i g = record {
  attributes = [];
  type = g.0;
  tokens = [];
  has = no_attributes;
  apart = g.1;
  back = pieces_back n (result_row m) (1 ∷ 0 ∷ 2 ∷ []) (token (fixed_class f.Arrow)) (phrase m ∷ []) (1 ∷ 0 ∷ 2 ∷ []) (l.Declaration label.Result) rebuild rebuild (v.returned [] (Some g.0) (mark f.Arrow ∷ typ_tokens g.0))
      (a_mark (mark_item f.Arrow a x i) (no_part (v.attributes [] []) (v.no_attributes refl) (a_part g.2 end))) (ap (λ z. mark f.Arrow ∷ z) (append-nil (typ_tokens g.0)))
      (of_two_parts (λ qs. Made (l.Declaration label.Result) qs (v.returned [] (Some g.0) (mark f.Arrow ∷ typ_tokens g.0))) (result_makes [] [] g.0 (mark f.Arrow ∷ typ_tokens g.0)))
      (λ d o. tt) (λ d o. refl) (λ d o. tt);
}

pub result_attributed : (n r m : ℕ) → Rebuild n (attributes_result_row r m) (l.Declaration label.Result) (1 ∷ 2 ∷ 2 ∷ []) → {a b c : List SpannedTemplateToken} {x y z : Phrase Part} → OneToken (fixed_class f.Arrow) a x → AttributesRowed r b y → Typed m c z
    → Resulted n (a ++ (b ++ (c ++ []))) (make_of (l.Declaration label.Result) (1 ∷ 2 ∷ 2 ∷ []) (x ∷ y ∷ z ∷ []))
result_attributed n r m rebuild {a = a} {x = x} i h g =
    let ts = mark f.Arrow ∷ (h.2 ++ typ_tokens g.0) in record {
      attributes = h.0 ∷ h.1;
      type = g.0;
      tokens = h.2;
      has = h.3;
      apart = g.1;
      back = pieces_back n (attributes_result_row r m) (1 ∷ 2 ∷ 2 ∷ []) (token (fixed_class f.Arrow)) (phrase r ∷ phrase m ∷ []) (1 ∷ 2 ∷ 2 ∷ []) (l.Declaration label.Result) rebuild rebuild (v.returned (h.0 ∷ h.1) (Some g.0) ts)
          (a_mark (mark_item f.Arrow a x i) (a_part h.4 (a_part g.2 end))) (ap (λ z. mark f.Arrow ∷ (h.2 ++ z)) (append-nil (typ_tokens g.0)))
          (of_two_parts (λ qs. Made (l.Declaration label.Result) qs (v.returned (h.0 ∷ h.1) (Some g.0) ts)) (result_makes (h.0 ∷ h.1) h.2 g.0 ts)) (λ d o. tt) (λ d o. refl) (λ d o. tt);
    }
