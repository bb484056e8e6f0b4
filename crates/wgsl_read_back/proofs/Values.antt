-- The productions of names with types, of declared values and of assertions.
use Rattle.std.proofs.Common.{◌≡◌, refl, sym, ap, ◌∙◌, ℕ, Bool, true, List, [], ◌∷◌, ◌++◌, append-nil, Option, Some, None}
use Rattle.wgsl_path.specs.Paths.{ident_of}
use Rattle.wgsl_token.specs.declared.token.Fixed.{Fixed}
use Rattle.wgsl_token.specs.declared.token.Fixed.TheVariants as f
use Rattle.wgsl_templates.specs.declared.meaning.token.SpannedTemplateToken.{SpannedTemplateToken}
use Rattle.wgsl_templates.specs.Kinds.{kind}
use Rattle.wgsl_print_laws.specs.OptionalMarks.{Before, groups}
use Rattle.wgsl_expressions.specs.Tree.{Exp, Typ}
use Rattle.wgsl_simple_statements.specs.declared.declaration.DeclarationKind.{DeclarationKind}
use Rattle.wgsl_simple_statements.specs.declared.declaration.DeclarationKind.TheVariants as kinds
use Rattle.wgsl_print_laws.specs.Tokens.{mark, word, exp_tokens, typ_tokens}
use Rattle.wgsl_print_laws.specs.DeclarationKinds.{kind_tokens}
use Rattle.wgsl_print_laws.specs.Printable.{is_apart}
use Rattle.wgsl_print_laws.specs.Simple.{annotation_is_apart, value_is_apart, annotation_tokens}
use Rattle.wgsl_grammar_tables.specs.Grammars.{Symbol, token, phrase}
use Rattle.wgsl_semantic_values.specs.declared.part.Part.{Part}
use Rattle.wgsl_semantic_values.specs.declared.part.Part.TheVariants as part
use Rattle.wgsl_semantic_values.specs.declared.label.Label.TheVariants as l
use Rattle.wgsl_semantic_values.specs.declared.label.ValueLabel.{ValueLabel}
use Rattle.wgsl_semantic_values.specs.declared.label.ValueLabel.TheVariants as label
use Rattle.wgsl_parser.specs.Phrase.{Phrase}
use Rattle.wgsl_semantic_values.specs.Values as make
use Rattle.wgsl_grammar_tables.specs.Classes.{fixed_class}
use Rattle.wgsl_read_back.proofs.Views.{View, Stands, a_token, a_type, an_expression, a_kind, a_typed, a_declared, an_asserted}
use Rattle.wgsl_read_back.proofs.Views as v
use Rattle.wgsl_read_back.proofs.Items.{Back, OneToken}
use Rattle.wgsl_read_back.proofs.Rows.{make_of, Rebuild}
use Rattle.wgsl_read_back.proofs.Pieces.{StandAll, end, a_mark, a_leaf, a_part, Made, made_as, pieces_back, of_one_part, of_two_parts, of_three_parts}
use Rattle.wgsl_read_back.proofs.Places.{word_of}
use Rattle.wgsl_read_back.proofs.Families.{Expressed, Typed, mark_item}
use Rattle.wgsl_read_back.proofs.Operands.{word_item, word_part}
use Rattle.wgsl_read_back.proofs.DeclarationKinds.{Kinded}

-- ---- what phrases are

-- a name, maybe with its type
abbrev pub NameTyped : ℕ → List SpannedTemplateToken → Phrase Part → Type 0
NameTyped n u x = (y : List ℕ) × (t : Option Typ) × (annotation_is_apart t ≡ true) × Back n (v.typed y t) u x

-- a declared value, without its attributes
abbrev pub ValueDeclared : ℕ → List SpannedTemplateToken → Phrase Part → Type 0
ValueDeclared n u x = (k : DeclarationKind) × (y : List ℕ) × (t : Option Typ) × (e : Option Exp) × (annotation_is_apart t ≡ true) × (value_is_apart e ≡ true) × Back n (v.declared k y t e) u x

abbrev pub Asserted : ℕ → List SpannedTemplateToken → Phrase Part → Type 0
Asserted n u x = (e : Exp) × (is_apart e ≡ true) × Back n (v.asserted e) u x

-- ---- names and types

pub typed_alone : (n : ℕ) → Rebuild n (token 77 ∷ []) (l.Value label.Typed) (2 ∷ []) → {u : List SpannedTemplateToken} {x : Phrase Part} → OneToken 77 u x → NameTyped n (u ++ []) (make_of (l.Value label.Typed) (2 ∷ []) (x ∷ []))
typed_alone n rebuild {u = u} {x = x} k =
    let y = (word_of k.one.token k.class).0 in (
      y,
      None,
      refl,
      pieces_back n (token 77 ∷ []) (2 ∷ []) (token 77) [] (2 ∷ []) (l.Value label.Typed) rebuild rebuild (v.typed y None) (a_leaf (word_item u x k) end) refl (makes y) (λ b o. tt) (λ b o. refl) (λ b o. tt),
    )
  where
    makes : (y : List ℕ) (qs : List Part) → StandAll qs (v.token (word y) ∷ []) → Made (l.Value label.Typed) qs (v.typed y None)
    makes y = of_one_part (λ qs. Made (l.Value label.Typed) qs (v.typed y None)) (λ q h.
        made_as (l.Value label.Typed) (q ∷ []) (v.typed y None) (λ s. part.Typed (record { ident = ident_of y; ty = None })) (λ s i. make.typed (word_part q y h i ∷ [])) (λ s. a_typed _ refl refl refl) (λ s. refl) refl)

pub typed_as : (n m : ℕ) → Rebuild n (token 77 ∷ token (fixed_class f.Colon) ∷ phrase m ∷ []) (l.Value label.TypedAs) (2 ∷ 1 ∷ 2 ∷ []) → {a b c : List SpannedTemplateToken} {x y z : Phrase Part}
    → OneToken 77 a x → OneToken (fixed_class f.Colon) b y → Typed m c z → NameTyped n (a ++ (b ++ (c ++ []))) (make_of (l.Value label.TypedAs) (2 ∷ 1 ∷ 2 ∷ []) (x ∷ y ∷ z ∷ []))
typed_as n m rebuild {a = a} {b = b} {x = x} {y = y} k i g =
    let name = (word_of k.one.token k.class).0 in (
      name,
      Some g.0,
      g.1,
      pieces_back n (token 77 ∷ token (fixed_class f.Colon) ∷ phrase m ∷ []) (2 ∷ 1 ∷ 2 ∷ []) (token 77) (token (fixed_class f.Colon) ∷ phrase m ∷ []) (2 ∷ 1 ∷ 2 ∷ []) (l.Value label.TypedAs) rebuild rebuild (v.typed name (Some g.0))
          (a_leaf (word_item a x k) (a_mark (mark_item f.Colon b y i) (a_part g.2 end))) (ap (λ z. word name ∷ mark f.Colon ∷ z) (append-nil (typ_tokens g.0))) (makes name g.0) (λ b o. tt) (λ b o. refl) (λ b o. tt),
    )
  where
    makes : (y : List ℕ) (t : Typ) (qs : List Part) → StandAll qs (v.token (word y) ∷ v.type t ∷ []) → Made (l.Value label.TypedAs) qs (v.typed y (Some t))
    makes y t = of_two_parts (λ qs. Made (l.Value label.TypedAs) qs (v.typed y (Some t))) go
      where
        go : (q r : Part) → Stands q (v.token (word y)) → Stands r (v.type t) → Made (l.Value label.TypedAs) (q ∷ r ∷ []) (v.typed y (Some t))
        go q r h (a_type z is e) =
            made_as (l.Value label.TypedAs) (q ∷ r ∷ []) (v.typed y (Some t)) (λ s. part.Typed (record { ident = ident_of y; ty = Some z })) (λ s i. make.typed_as (word_part q y h i ∷ is i ∷ [])) (λ s. a_typed _ refl refl (ap Some e)) (λ s. refl) refl

-- ---- declared values

-- a variable
pub variable_alone : (n m r : ℕ) → Rebuild n (phrase m ∷ phrase r ∷ []) (l.Value label.Var) (2 ∷ 2 ∷ []) → {a b : List SpannedTemplateToken} {x y : Phrase Part} → Kinded m a x → NameTyped r b y
    → ValueDeclared n (a ++ (b ++ [])) (make_of (l.Value label.Var) (2 ∷ 2 ∷ []) (x ∷ y ∷ []))
variable_alone n m r rebuild g h = (
  g.0,
  h.0,
  h.1,
  None,
  h.2,
  refl,
  pieces_back n (phrase m ∷ phrase r ∷ []) (2 ∷ 2 ∷ []) (phrase m) (phrase r ∷ []) (2 ∷ 2 ∷ []) (l.Value label.Var) rebuild rebuild (v.declared g.0 h.0 h.1 None) (a_part g.1 (a_part h.3 end)) refl (makes g.0 h.0 h.1) (λ b o. tt) (λ b o. refl) (λ b o. tt),
)
  where
    makes : (k : DeclarationKind) (y : List ℕ) (t : Option Typ) (qs : List Part) → StandAll qs (v.kind k ∷ v.typed y t ∷ []) → Made (l.Value label.Var) qs (v.declared k y t None)
    makes k y t = of_two_parts (λ qs. Made (l.Value label.Var) qs (v.declared k y t None)) go
      where
        go : (q r : Part) → Stands q (v.kind k) → Stands r (v.typed y t) → Made (l.Value label.Var) (q ∷ r ∷ []) (v.declared k y t None)
        go q r (a_kind is) (a_typed z at name type) =
            made_as (l.Value label.Var) (q ∷ r ∷ []) (v.declared k y t None) (λ s. make.declared k z None) (λ s i. make.var (is i ∷ at i ∷ [])) (λ s. a_declared _ refl refl refl name type refl) (λ s. refl) refl

pub var_set : (n m r e : ℕ) → Rebuild n (phrase m ∷ phrase r ∷ token (fixed_class f.Equal) ∷ phrase e ∷ []) (l.Value label.VarSet) (2 ∷ 2 ∷ 1 ∷ 2 ∷ []) → {a b c d : List SpannedTemplateToken} {x y z w : Phrase Part}
    → Kinded m a x → NameTyped r b y → OneToken (fixed_class f.Equal) c z → Expressed e d w → ValueDeclared n (a ++ (b ++ (c ++ (d ++ [])))) (make_of (l.Value label.VarSet) (2 ∷ 2 ∷ 1 ∷ 2 ∷ []) (x ∷ y ∷ z ∷ w ∷ []))
var_set n m r e rebuild {c = c} {z = z} g h i p = (
  g.0,
  h.0,
  h.1,
  Some p.0,
  h.2,
  p.1,
  pieces_back n (phrase m ∷ phrase r ∷ token (fixed_class f.Equal) ∷ phrase e ∷ []) (2 ∷ 2 ∷ 1 ∷ 2 ∷ []) (phrase m) (phrase r ∷ token (fixed_class f.Equal) ∷ phrase e ∷ []) (2 ∷ 2 ∷ 1 ∷ 2 ∷ []) (l.Value label.VarSet) rebuild rebuild (v.declared g.0 h.0 h.1 (Some p.0))
      (a_part g.1 (a_part h.3 (a_mark (mark_item f.Equal c z i) (a_part p.2 end)))) (λ i. kind_tokens g.0 ++ (word h.0 ∷ (annotation_tokens h.1 ++ (mark f.Equal ∷ append-nil (exp_tokens p.0) i)))) (makes g.0 h.0 h.1 p.0) (λ b o. tt) (λ b o. refl) (λ b o. tt),
)
  where
    makes : (k : DeclarationKind) (y : List ℕ) (t : Option Typ) (e : Exp) (qs : List Part) → StandAll qs (v.kind k ∷ v.typed y t ∷ v.expression e ∷ []) → Made (l.Value label.VarSet) qs (v.declared k y t (Some e))
    makes k y t e = of_three_parts (λ qs. Made (l.Value label.VarSet) qs (v.declared k y t (Some e))) go
      where
        go : (q r p : Part) → Stands q (v.kind k) → Stands r (v.typed y t) → Stands p (v.expression e) → Made (l.Value label.VarSet) (q ∷ r ∷ p ∷ []) (v.declared k y t (Some e))
        go q r p (a_kind is) (a_typed z at name type) (an_expression x that same) =
            made_as (l.Value label.VarSet) (q ∷ r ∷ p ∷ []) (v.declared k y t (Some e)) (λ s. make.declared k z (Some x)) (λ s i. make.var_set (is i ∷ at i ∷ that i ∷ [])) (λ s. a_declared _ refl refl refl name type (ap Some same)) (λ s. refl) refl

-- What begins with a keyword: `const`, `let`, and `override` with a value.
abbrev pub set_row : Fixed → ℕ → ℕ → List Symbol
set_row g r e = token (fixed_class g) ∷ phrase r ∷ token (fixed_class f.Equal) ∷ phrase e ∷ []

pub value_set : (g : Fixed) (k : DeclarationKind) (which : ValueLabel) → kind_tokens k ≡ mark g ∷ [] → ((y : List ℕ) (t : Option Typ) (e : Exp) (q r : Part) → Stands q (v.typed y t) → Stands r (v.expression e) → Made (l.Value which) (q ∷ r ∷ []) (v.declared k y t (Some e)))
    → ((b : Before) (o : List Bool) → groups b o (kind (mark g)) ≡ o)
    → (n r e : ℕ) → Rebuild n (set_row g r e) (l.Value which) (1 ∷ 2 ∷ 1 ∷ 2 ∷ []) → {a b c d : List SpannedTemplateToken} {x y z w : Phrase Part}
    → OneToken (fixed_class g) a x → NameTyped r b y → OneToken (fixed_class f.Equal) c z → Expressed e d w → ValueDeclared n (a ++ (b ++ (c ++ (d ++ [])))) (make_of (l.Value which) (1 ∷ 2 ∷ 1 ∷ 2 ∷ []) (x ∷ y ∷ z ∷ w ∷ []))
value_set g k which tokens makes level n r e rebuild {a = a} {c = c} {x = x} {z = z} j h i p = (
  k,
  h.0,
  h.1,
  Some p.0,
  h.2,
  p.1,
  pieces_back n (set_row g r e) (1 ∷ 2 ∷ 1 ∷ 2 ∷ []) (token (fixed_class g)) (phrase r ∷ token (fixed_class f.Equal) ∷ phrase e ∷ []) (1 ∷ 2 ∷ 1 ∷ 2 ∷ []) (l.Value which) rebuild rebuild (v.declared k h.0 h.1 (Some p.0))
      (a_mark (mark_item g a x j) (a_part h.3 (a_mark (mark_item f.Equal c z i) (a_part p.2 end)))) (λ i. sym tokens i ++ (word h.0 ∷ (annotation_tokens h.1 ++ (mark f.Equal ∷ append-nil (exp_tokens p.0) i))))
      (of_two_parts (λ qs. Made (l.Value which) qs (v.declared k h.0 h.1 (Some p.0))) (makes h.0 h.1 p.0)) (λ b o. tt) (λ b o. level b o) (λ b o. tt),
)

set_makes : (k : DeclarationKind) (which : ValueLabel) → ((qs : List Part) → make.make_value which qs ≡ make.value_set k qs) → (y : List ℕ) (t : Option Typ) (e : Exp) (q r : Part) → Stands q (v.typed y t) → Stands r (v.expression e) → Made (l.Value which) (q ∷ r ∷ []) (v.declared k y t (Some e))
set_makes k which is y t e q r (a_typed z at name type) (an_expression x that same) =
    made_as (l.Value which) (q ∷ r ∷ []) (v.declared k y t (Some e)) (λ s. make.declared k z (Some x)) (λ s. is (q ∷ r ∷ []) ∙ (λ i. make.value_set k (at i ∷ that i ∷ []))) (λ s. a_declared _ refl refl refl name type (ap Some same)) (λ s. refl) refl

pub const_makes : (y : List ℕ) (t : Option Typ) (e : Exp) (q r : Part) → Stands q (v.typed y t) → Stands r (v.expression e) → Made (l.Value label.Const) (q ∷ r ∷ []) (v.declared kinds.Const y t (Some e))
const_makes = set_makes kinds.Const label.Const (λ qs. refl)

pub let_makes : (y : List ℕ) (t : Option Typ) (e : Exp) (q r : Part) → Stands q (v.typed y t) → Stands r (v.expression e) → Made (l.Value label.Let) (q ∷ r ∷ []) (v.declared kinds.Let y t (Some e))
let_makes = set_makes kinds.Let label.Let (λ qs. refl)

pub override_makes : (y : List ℕ) (t : Option Typ) (e : Exp) (q r : Part) → Stands q (v.typed y t) → Stands r (v.expression e) → Made (l.Value label.OverrideSet) (q ∷ r ∷ []) (v.declared kinds.Override y t (Some e))
override_makes = set_makes kinds.Override label.OverrideSet (λ qs. refl)

pub override_alone : (n r : ℕ) → Rebuild n (token (fixed_class f.Override) ∷ phrase r ∷ []) (l.Value label.Override) (1 ∷ 2 ∷ []) → {a b : List SpannedTemplateToken} {x y : Phrase Part} → OneToken (fixed_class f.Override) a x → NameTyped r b y
    → ValueDeclared n (a ++ (b ++ [])) (make_of (l.Value label.Override) (1 ∷ 2 ∷ []) (x ∷ y ∷ []))
override_alone n r rebuild {a = a} {x = x} j h = (
  kinds.Override,
  h.0,
  h.1,
  None,
  h.2,
  refl,
  pieces_back n (token (fixed_class f.Override) ∷ phrase r ∷ []) (1 ∷ 2 ∷ []) (token (fixed_class f.Override)) (phrase r ∷ []) (1 ∷ 2 ∷ []) (l.Value label.Override) rebuild rebuild (v.declared kinds.Override h.0 h.1 None) (a_mark (mark_item f.Override a x j) (a_part h.3 end)) refl
      (makes h.0 h.1) (λ b o. tt) (λ b o. refl) (λ b o. tt),
)
  where
    makes : (y : List ℕ) (t : Option Typ) (qs : List Part) → StandAll qs (v.typed y t ∷ []) → Made (l.Value label.Override) qs (v.declared kinds.Override y t None)
    makes y t = of_one_part (λ qs. Made (l.Value label.Override) qs (v.declared kinds.Override y t None)) go
      where
        go : (q : Part) → Stands q (v.typed y t) → Made (l.Value label.Override) (q ∷ []) (v.declared kinds.Override y t None)
        go q (a_typed z at name type) =
            made_as (l.Value label.Override) (q ∷ []) (v.declared kinds.Override y t None) (λ s. make.declared kinds.Override z None) (λ s i. make.override_alone (at i ∷ [])) (λ s. a_declared _ refl refl refl name type refl) (λ s. refl) refl

-- ---- assertions

pub assertion : (n m : ℕ) → Rebuild n (token (fixed_class f.ConstAssert) ∷ phrase m ∷ []) (l.Value label.Assertion) (1 ∷ 2 ∷ []) → {a b : List SpannedTemplateToken} {x y : Phrase Part} → OneToken (fixed_class f.ConstAssert) a x → Expressed m b y
    → Asserted n (a ++ (b ++ [])) (make_of (l.Value label.Assertion) (1 ∷ 2 ∷ []) (x ∷ y ∷ []))
assertion n m rebuild {a = a} {x = x} j h = (
  h.0,
  h.1,
  pieces_back n (token (fixed_class f.ConstAssert) ∷ phrase m ∷ []) (1 ∷ 2 ∷ []) (token (fixed_class f.ConstAssert)) (phrase m ∷ []) (1 ∷ 2 ∷ []) (l.Value label.Assertion) rebuild rebuild (v.asserted h.0) (a_mark (mark_item f.ConstAssert a x j) (a_part h.2 end))
      (ap (λ z. mark f.ConstAssert ∷ z) (append-nil (exp_tokens h.0))) (makes h.0) (λ b o. tt) (λ b o. refl) (λ b o. h.2.ended _ _),
)
  where
    makes : (e : Exp) (qs : List Part) → StandAll qs (v.expression e ∷ []) → Made (l.Value label.Assertion) qs (v.asserted e)
    makes e = of_one_part (λ qs. Made (l.Value label.Assertion) qs (v.asserted e)) go
      where
        go : (q : Part) → Stands q (v.expression e) → Made (l.Value label.Assertion) (q ∷ []) (v.asserted e)
        go q (an_expression x is same) =
            made_as (l.Value label.Assertion) (q ∷ []) (v.asserted e) (λ s. part.Assertion (record { attributes = []; expression = x })) (λ s i. make.assertion (is i ∷ [])) (λ s. an_asserted _ refl refl same) (λ s. refl) refl
