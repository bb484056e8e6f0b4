-- The productions of declarations of a module.
use Rattle.std.proofs.Common.{◌≡◌, refl, ap, ◌∙◌, subst, ℕ, Bool, List, [], ◌∷◌, ◌++◌, append-nil, Option, Some, None}
use Rattle.wgsl_path.specs.declared.span.Spanned.{Spanned}
use Rattle.wgsl_path.specs.Paths.{ident_of}
use Rattle.wgsl_token.specs.declared.token.Fixed.TheVariants as f
use Rattle.wgsl_templates.specs.declared.meaning.token.TemplateToken.{TemplateToken}
use Rattle.wgsl_templates.specs.declared.meaning.token.SpannedTemplateToken.{SpannedTemplateToken}
use Rattle.wgsl_print_laws.specs.Laws.{without_places}
use Rattle.wgsl_print_laws.specs.OptionalMarks.{Before, outside, begins_outside}
use Rattle.wgsl_expressions.specs.Tree.{Exp, Typ}
use Rattle.wgsl_expressions.specs.AttributesTree.{Attr}
use Rattle.wgsl_simple_statements.specs.declared.declaration.DeclarationKind.{DeclarationKind}
use Rattle.wgsl_statements.specs.Tree.{Block}
use Rattle.wgsl_declarations.specs.declared.declaration.GlobalDeclaration.{GlobalDeclaration}
use Rattle.wgsl_declarations.specs.declared.declaration.GlobalDeclaration.TheVariants as code
use Rattle.wgsl_declarations.specs.Tree.{Member, Param, Decl, variable, alias, structure, function, assertion}
use Rattle.wgsl_declarations.specs.View.{declaration_tree}
use Rattle.wgsl_print_laws.specs.Tokens.{mark, word, typ_tokens}
use Rattle.wgsl_print_laws.specs.Imports.{AttributesTokens, no_attributes}
use Rattle.wgsl_print_laws.specs.Simple.{declared_tokens, asserted_tokens}
use Rattle.wgsl_print_laws.specs.Statements.{in_braces, BlockTokens}
use Rattle.wgsl_print_laws.specs.Declarations.{ParametersTokens, no_parameters, ResultTokens, no_result, a_result, DeclTokens, a_variable, an_alias, a_structure, a_function, an_assertion}
use Rattle.wgsl_grammar_tables.specs.Grammars.{Symbol, token, phrase, Derives, done, next}
use Rattle.wgsl_semantic_values.specs.Reading.{attributes_of}
use Rattle.wgsl_semantic_values.specs.declared.part.Part.{Part}
use Rattle.wgsl_semantic_values.specs.declared.part.Part.TheVariants as part
use Rattle.wgsl_semantic_values.specs.declared.label.Label.TheVariants as l
use Rattle.wgsl_semantic_values.specs.declared.label.DeclarationLabel.TheVariants as label
use Rattle.wgsl_parser.specs.Phrase.{Phrase}
use Rattle.wgsl_parser.specs.Phrases.{grammar}
use Rattle.wgsl_parser.specs.Gathering.{either}
use Rattle.wgsl_parser.specs.Declarations as make
use Rattle.wgsl_parser.specs.Reading.{parameters_of, return_attributes_of, return_type_in}
use Rattle.wgsl_grammar_tables.specs.Classes.{fixed_class}
use Rattle.wgsl_read_back.proofs.Views.{View, Stands, a_type, a_declared, an_asserted, some_members, a_block, a_declaration}
use Rattle.wgsl_read_back.proofs.Views as v
use Rattle.wgsl_read_back.proofs.Items.{places_append, begins_then, AgainAs, Back, OneToken, closes}
use Rattle.wgsl_read_back.proofs.Rows.{make_of, Rebuild}
use Rattle.wgsl_read_back.proofs.Pieces.{Pieces, Fine, pieces_steps, end, a_mark, a_leaf, a_part, a_list, a_cut_list, no_part, Made, made_as, pieces_back, of_two_parts, of_three_parts, of_five_parts}
use Rattle.wgsl_read_back.proofs.Places.{word_of}
use Rattle.wgsl_read_back.proofs.Families.{Typed, mark_item, mark_tokens}
use Rattle.wgsl_read_back.proofs.Operands.{word_item, word_part}
use Rattle.wgsl_read_back.proofs.AttributeRows.{AttributesRowed, attributes_are}
use Rattle.wgsl_read_back.proofs.Values.{ValueDeclared, Asserted}
use Rattle.wgsl_read_back.proofs.Blocks.{Blocked}
use Rattle.wgsl_read_back.proofs.Parameters.{ParametersListed, Resulted, parameters_are, result_attributes_are, result_type_is}
use Rattle.wgsl_read_back.proofs.Members.{MembersListed}

-- ---- what phrases are

-- a part is a `;` alone
abbrev pub IsVoidDeclaration : Part → Type 0
IsVoidDeclaration p = (y : Spanned GlobalDeclaration) × (p ≡ part.Global y) × (declaration_tree y.node ≡ None)

-- `;` alone, which is no declaration
pub record IsVoid (n : ℕ) (u : List SpannedTemplateToken) (x : Phrase Part) : Type 0 where
  pub node : Spanned GlobalDeclaration
  pub part_is : x.part ≡ part.Global node
  pub void : declaration_tree node.node ≡ None
  pub passes : x.failure ≡ None
  pub tokens : without_places u ≡ mark f.Semicolon ∷ []
  pub likewise : (w : List SpannedTemplateToken) → without_places w ≡ without_places u → AgainAs (phrase n) IsVoidDeclaration w

pub data Declared (n : ℕ) (u : List SpannedTemplateToken) (x : Phrase Part) : Type 0 where
  declares : (d : Decl) (ts : List TemplateToken) → DeclTokens d ts → Back n (v.declaration d ts) u x → Declared n u x
  is_void : IsVoid n u x → Declared n u x

abbrev a_semicolon : List TemplateToken
a_semicolon = mark f.Semicolon ∷ []

pub void_declared : (n : ℕ) → Rebuild n (token (fixed_class f.Semicolon) ∷ []) (l.Declaration label.VoidDeclaration) (1 ∷ []) → {u : List SpannedTemplateToken} {x : Phrase Part} → OneToken (fixed_class f.Semicolon) u x
    → Declared n (u ++ []) (make_of (l.Declaration label.VoidDeclaration) (1 ∷ []) (x ∷ []))
void_declared n rebuild {u = u} {x = x} k = is_void (record {
  node = record { node = code.Void; span = x.span };
  part_is = refl;
  void = refl;
  passes = ap (λ z. either z None) (mark_item f.Semicolon u x k).passes;
  tokens = places_append u [] ∙ append-nil (without_places u) ∙ mark_tokens f.Semicolon k;
  likewise = λ w e.
      let a = (mark_item f.Semicolon u x k).likewise w (e ∙ ap without_places (append-nil u)) in
      let P : List SpannedTemplateToken → Type 0 = λ z. Derives grammar (phrase n) z (make_of (l.Declaration label.VoidDeclaration) (1 ∷ []) (a.value ∷ [])) in record {
        value = make_of (l.Declaration label.VoidDeclaration) (1 ∷ []) (a.value ∷ []);
        derives = subst P (append-nil w) (rebuild (w ++ []) (a.value ∷ []) (next a.derives done));
        is = (record { node = code.Void; span = a.value.span }, refl, refl);
        passes = ap (λ z. either z None) a.passes;
      };
})

-- ---- values

abbrev pub ended_row : ℕ → List Symbol
ended_row m = phrase m ∷ token (fixed_class f.Semicolon) ∷ []

abbrev pub attributes_ended_row : ℕ → ℕ → List Symbol
attributes_ended_row r m = phrase r ∷ ended_row m

global_makes : (xs : List Attr) (ts : List TemplateToken) (k : DeclarationKind) (y : List ℕ) (t : Option Typ) (o : Option Exp) (us : List TemplateToken) (p q : Part) → Stands p (v.attributes xs ts) → Stands q (v.declared k y t o)
    → Made (l.Declaration label.Global) (p ∷ q ∷ []) (v.declaration (variable xs k y t o) us)
global_makes xs ts k y t o us p q h (a_declared z is none kind name type value) =
    made_as (l.Declaration label.Global) (p ∷ q ∷ []) (v.declaration (variable xs k y t o) us) (λ s. make.declaration_at s (code.Declaration (make.with_attributes (attributes_of p) z))) (λ s i. make.global s (p ∷ is i ∷ []))
    (λ s. a_declaration _ refl (λ i. Some (variable (attributes_are p xs ts h i) (kind i) (name i) (type i) (value i)))) (λ s. refl) refl

pub global_bare : (n m : ℕ) → Rebuild n (ended_row m) (l.Declaration label.Global) (0 ∷ 2 ∷ 1 ∷ []) → {a b : List SpannedTemplateToken} {x y : Phrase Part} → ValueDeclared m a x → OneToken (fixed_class f.Semicolon) b y
    → Declared n (a ++ (b ++ [])) (make_of (l.Declaration label.Global) (0 ∷ 2 ∷ 1 ∷ []) (x ∷ y ∷ []))
global_bare n m rebuild {b = b} {y = y} g i =
    let d = variable [] g.0 g.1 g.2 g.3 in
    let ts = declared_tokens g.0 g.1 g.2 g.3 ++ a_semicolon in
    declares d ts (a_variable g.0 g.1 no_attributes g.4 g.5)
    (pieces_back n (ended_row m) (0 ∷ 2 ∷ 1 ∷ []) (phrase m) (token (fixed_class f.Semicolon) ∷ []) (0 ∷ 2 ∷ 1 ∷ []) (l.Declaration label.Global) rebuild rebuild (v.declaration d ts)
    (no_part (v.attributes [] []) (v.no_attributes refl) (a_part g.6 (a_mark (mark_item f.Semicolon b y i) end))) refl
    (of_two_parts (λ qs. Made (l.Declaration label.Global) qs (v.declaration d ts)) (global_makes [] [] g.0 g.1 g.2 g.3 ts)) (λ c o. tt) (λ c o. refl) (λ c o. refl))

pub global_attributed : (n r m : ℕ) → Rebuild n (attributes_ended_row r m) (l.Declaration label.Global) (2 ∷ 2 ∷ 1 ∷ []) → {e a b : List SpannedTemplateToken} {w x y : Phrase Part} → AttributesRowed r e w → ValueDeclared m a x → OneToken (fixed_class f.Semicolon) b y
    → Declared n (e ++ (a ++ (b ++ []))) (make_of (l.Declaration label.Global) (2 ∷ 2 ∷ 1 ∷ []) (w ∷ x ∷ y ∷ []))
global_attributed n r m rebuild {b = b} {y = y} h g i =
    let d = variable (h.0 ∷ h.1) g.0 g.1 g.2 g.3 in
    let ts = h.2 ++ (declared_tokens g.0 g.1 g.2 g.3 ++ a_semicolon) in
    declares d ts (a_variable g.0 g.1 h.3 g.4 g.5)
    (pieces_back n (attributes_ended_row r m) (2 ∷ 2 ∷ 1 ∷ []) (phrase r) (ended_row m) (2 ∷ 2 ∷ 1 ∷ []) (l.Declaration label.Global) rebuild rebuild (v.declaration d ts)
    (a_part h.4 (a_part g.6 (a_mark (mark_item f.Semicolon b y i) end))) refl
    (of_two_parts (λ qs. Made (l.Declaration label.Global) qs (v.declaration d ts)) (global_makes (h.0 ∷ h.1) h.2 g.0 g.1 g.2 g.3 ts)) (λ c o. tt) (λ c o. refl) (λ c o. refl))

assertion_makes : (xs : List Attr) (ts : List TemplateToken) (e : Exp) (us : List TemplateToken) (p q : Part) → Stands p (v.attributes xs ts) → Stands q (v.asserted e) → Made (l.Declaration label.GlobalAssertion) (p ∷ q ∷ []) (v.declaration (assertion xs e) us)
assertion_makes xs ts e us p q h (an_asserted z is none same) =
    made_as (l.Declaration label.GlobalAssertion) (p ∷ q ∷ []) (v.declaration (assertion xs e) us) (λ s. make.declaration_at s (code.ConstAssert (make.asserted (attributes_of p) z))) (λ s i. make.global_assertion s (p ∷ is i ∷ []))
    (λ s. a_declaration _ refl (λ i. Some (assertion (attributes_are p xs ts h i) (same i)))) (λ s. refl) refl

pub assertion_bare : (n m : ℕ) → Rebuild n (ended_row m) (l.Declaration label.GlobalAssertion) (0 ∷ 2 ∷ 1 ∷ []) → {a b : List SpannedTemplateToken} {x y : Phrase Part} → Asserted m a x → OneToken (fixed_class f.Semicolon) b y
    → Declared n (a ++ (b ++ [])) (make_of (l.Declaration label.GlobalAssertion) (0 ∷ 2 ∷ 1 ∷ []) (x ∷ y ∷ []))
assertion_bare n m rebuild {b = b} {y = y} g i =
    let d = assertion [] g.0 in
    let ts = asserted_tokens g.0 ++ a_semicolon in
    declares d ts (an_assertion no_attributes g.1)
    (pieces_back n (ended_row m) (0 ∷ 2 ∷ 1 ∷ []) (phrase m) (token (fixed_class f.Semicolon) ∷ []) (0 ∷ 2 ∷ 1 ∷ []) (l.Declaration label.GlobalAssertion) rebuild rebuild (v.declaration d ts)
    (no_part (v.attributes [] []) (v.no_attributes refl) (a_part g.2 (a_mark (mark_item f.Semicolon b y i) end))) refl
    (of_two_parts (λ qs. Made (l.Declaration label.GlobalAssertion) qs (v.declaration d ts)) (assertion_makes [] [] g.0 ts)) (λ c o. tt) (λ c o. refl) (λ c o. refl))

pub assertion_attributed : (n r m : ℕ) → Rebuild n (attributes_ended_row r m) (l.Declaration label.GlobalAssertion) (2 ∷ 2 ∷ 1 ∷ []) → {e a b : List SpannedTemplateToken} {w x y : Phrase Part} → AttributesRowed r e w → Asserted m a x → OneToken (fixed_class f.Semicolon) b y
    → Declared n (e ++ (a ++ (b ++ []))) (make_of (l.Declaration label.GlobalAssertion) (2 ∷ 2 ∷ 1 ∷ []) (w ∷ x ∷ y ∷ []))
assertion_attributed n r m rebuild {b = b} {y = y} h g i =
    let d = assertion (h.0 ∷ h.1) g.0 in
    let ts = h.2 ++ (asserted_tokens g.0 ++ a_semicolon) in
    declares d ts (an_assertion h.3 g.1)
    (pieces_back n (attributes_ended_row r m) (2 ∷ 2 ∷ 1 ∷ []) (phrase r) (ended_row m) (2 ∷ 2 ∷ 1 ∷ []) (l.Declaration label.GlobalAssertion) rebuild rebuild (v.declaration d ts)
    (a_part h.4 (a_part g.2 (a_mark (mark_item f.Semicolon b y i) end))) refl
    (of_two_parts (λ qs. Made (l.Declaration label.GlobalAssertion) qs (v.declaration d ts)) (assertion_makes (h.0 ∷ h.1) h.2 g.0 ts)) (λ c o. tt) (λ c o. refl) (λ c o. refl))

-- ---- other names for types

abbrev pub alias_row : ℕ → List Symbol
alias_row m = token (fixed_class f.Alias) ∷ token 77 ∷ token (fixed_class f.Equal) ∷ ended_row m

abbrev pub attributes_alias_row : ℕ → ℕ → List Symbol
attributes_alias_row r m = phrase r ∷ alias_row m

alias_makes : (xs : List Attr) (ts : List TemplateToken) (y : List ℕ) (t : Typ) (us : List TemplateToken) (p q r : Part) → Stands p (v.attributes xs ts) → Stands q (v.token (word y)) → Stands r (v.type t) → Made (l.Declaration label.Alias) (p ∷ q ∷ r ∷ []) (v.declaration (alias xs y t) us)
alias_makes xs ts y t us p q r k h (a_type z is e) =
    made_as (l.Declaration label.Alias) (p ∷ q ∷ r ∷ []) (v.declaration (alias xs y t) us) (λ s. make.declaration_at s (code.TypeAlias (record { attributes = attributes_of p; ident = ident_of y; ty = z })))
    (λ s i. make.alias s (p ∷ word_part q y h i ∷ is i ∷ [])) (λ s. a_declaration _ refl (λ i. Some (alias (attributes_are p xs ts k i) y (e i)))) (λ s. refl) refl

pub alias_bare : (n m : ℕ) → Rebuild n (alias_row m) (l.Declaration label.Alias) (0 ∷ 1 ∷ 2 ∷ 1 ∷ 2 ∷ 1 ∷ []) → {a b c d e : List SpannedTemplateToken} {x y z w k : Phrase Part}
    → OneToken (fixed_class f.Alias) a x → OneToken 77 b y → OneToken (fixed_class f.Equal) c z → Typed m d w → OneToken (fixed_class f.Semicolon) e k
    → Declared n (a ++ (b ++ (c ++ (d ++ (e ++ []))))) (make_of (l.Declaration label.Alias) (0 ∷ 1 ∷ 2 ∷ 1 ∷ 2 ∷ 1 ∷ []) (x ∷ y ∷ z ∷ w ∷ k ∷ []))
alias_bare n m rebuild {a = a} {b = b} {c = c} {e = e} {x = x} {y = y} {z = z} {k = k} i j p g r =
    let name = (word_of j.one.token j.class).0 in
    let d = alias [] name g.0 in
    let ts = mark f.Alias ∷ word name ∷ mark f.Equal ∷ (typ_tokens g.0 ++ a_semicolon) in
    declares d ts (an_alias name no_attributes g.1)
    (pieces_back n (alias_row m) (0 ∷ 1 ∷ 2 ∷ 1 ∷ 2 ∷ 1 ∷ []) (token (fixed_class f.Alias)) (token 77 ∷ token (fixed_class f.Equal) ∷ ended_row m) (0 ∷ 1 ∷ 2 ∷ 1 ∷ 2 ∷ 1 ∷ []) (l.Declaration label.Alias) rebuild rebuild (v.declaration d ts)
    (no_part (v.attributes [] []) (v.no_attributes refl) (a_mark (mark_item f.Alias a x i) (a_leaf (word_item b y j) (a_mark (mark_item f.Equal c z p) (a_part g.2 (a_mark (mark_item f.Semicolon e k r) end)))))) refl
    (of_three_parts (λ qs. Made (l.Declaration label.Alias) qs (v.declaration d ts)) (alias_makes [] [] name g.0 ts)) (λ c o. tt) (λ c o. refl) (λ c o. refl))

pub alias_attributed : (n s m : ℕ) → Rebuild n (attributes_alias_row s m) (l.Declaration label.Alias) (2 ∷ 1 ∷ 2 ∷ 1 ∷ 2 ∷ 1 ∷ []) → {q a b c d e : List SpannedTemplateToken} {u x y z w k : Phrase Part}
    → AttributesRowed s q u → OneToken (fixed_class f.Alias) a x → OneToken 77 b y → OneToken (fixed_class f.Equal) c z → Typed m d w → OneToken (fixed_class f.Semicolon) e k
    → Declared n (q ++ (a ++ (b ++ (c ++ (d ++ (e ++ [])))))) (make_of (l.Declaration label.Alias) (2 ∷ 1 ∷ 2 ∷ 1 ∷ 2 ∷ 1 ∷ []) (u ∷ x ∷ y ∷ z ∷ w ∷ k ∷ []))
alias_attributed n s m rebuild {a = a} {b = b} {c = c} {e = e} {x = x} {y = y} {z = z} {k = k} h i j p g r =
    let name = (word_of j.one.token j.class).0 in
    let d = alias (h.0 ∷ h.1) name g.0 in
    let ts = h.2 ++ (mark f.Alias ∷ word name ∷ mark f.Equal ∷ (typ_tokens g.0 ++ a_semicolon)) in
    declares d ts (an_alias name h.3 g.1)
    (pieces_back n (attributes_alias_row s m) (2 ∷ 1 ∷ 2 ∷ 1 ∷ 2 ∷ 1 ∷ []) (phrase s) (alias_row m) (2 ∷ 1 ∷ 2 ∷ 1 ∷ 2 ∷ 1 ∷ []) (l.Declaration label.Alias) rebuild rebuild (v.declaration d ts)
    (a_part h.4 (a_mark (mark_item f.Alias a x i) (a_leaf (word_item b y j) (a_mark (mark_item f.Equal c z p) (a_part g.2 (a_mark (mark_item f.Semicolon e k r) end)))))) refl
    (of_three_parts (λ qs. Made (l.Declaration label.Alias) qs (v.declaration d ts)) (alias_makes (h.0 ∷ h.1) h.2 name g.0 ts)) (λ c o. tt) (λ c o. refl) (λ c o. refl))

-- ---- structures

abbrev pub structure_row : ℕ → List Symbol
structure_row m = token (fixed_class f.Struct) ∷ token 77 ∷ token (fixed_class f.BraceLeft) ∷ phrase m ∷ token (fixed_class f.BraceRight) ∷ []

abbrev pub attributes_structure_row : ℕ → ℕ → List Symbol
attributes_structure_row r m = phrase r ∷ structure_row m

structure_makes : (xs : List Attr) (ts : List TemplateToken) (y : List ℕ) (ms : List Member) (us ws : List TemplateToken) (p q r : Part) → Stands p (v.attributes xs ts) → Stands q (v.token (word y)) → Stands r (v.members ms us)
    → Made (l.Declaration label.Struct) (p ∷ q ∷ r ∷ []) (v.declaration (structure xs y ms) ws)
structure_makes xs ts y ms us ws p q r k h (some_members zs is e) =
    made_as (l.Declaration label.Struct) (p ∷ q ∷ r ∷ []) (v.declaration (structure xs y ms) ws) (λ s. make.declaration_at s (code.Struct (record { attributes = attributes_of p; ident = ident_of y; members = zs })))
    (λ s i. make.structure s (p ∷ word_part q y h i ∷ is i ∷ [])) (λ s. a_declaration _ refl (λ i. Some (structure (attributes_are p xs ts k i) y (e i)))) (λ s. refl) refl

pub structure_bare : (n m : ℕ) → Rebuild n (structure_row m) (l.Declaration label.Struct) (0 ∷ 1 ∷ 2 ∷ 1 ∷ 2 ∷ 1 ∷ []) → {a b c d e : List SpannedTemplateToken} {x y z w k : Phrase Part}
    → OneToken (fixed_class f.Struct) a x → OneToken 77 b y → OneToken (fixed_class f.BraceLeft) c z → MembersListed m d w → OneToken (fixed_class f.BraceRight) e k
    → Declared n (a ++ (b ++ (c ++ (d ++ (e ++ []))))) (make_of (l.Declaration label.Struct) (0 ∷ 1 ∷ 2 ∷ 1 ∷ 2 ∷ 1 ∷ []) (x ∷ y ∷ z ∷ w ∷ k ∷ []))
structure_bare n m rebuild {a = a} {b = b} {c = c} {e = e} {x = x} {y = y} {z = z} {k = k} i j p g r =
    let name = (word_of j.one.token j.class).0 in
    let d = structure [] name g.0 in
    let ts = mark f.Struct ∷ word name ∷ in_braces g.1 in
    declares d ts (a_structure name no_attributes g.2)
    (pieces_back n (structure_row m) (0 ∷ 1 ∷ 2 ∷ 1 ∷ 2 ∷ 1 ∷ []) (token (fixed_class f.Struct)) (token 77 ∷ token (fixed_class f.BraceLeft) ∷ phrase m ∷ token (fixed_class f.BraceRight) ∷ []) (0 ∷ 1 ∷ 2 ∷ 1 ∷ 2 ∷ 1 ∷ []) (l.Declaration label.Struct) rebuild rebuild
    (v.declaration d ts)
    (no_part (v.attributes [] []) (v.no_attributes refl) (a_mark (mark_item f.Struct a x i) (a_leaf (word_item b y j) (a_mark (mark_item f.BraceLeft c z p)
    (a_cut_list g.3 (begins_then e [] (λ us. ap (λ z. begins_outside (z ++ us)) (mark_tokens f.BraceRight r))) (λ us. refl) (a_mark (mark_item f.BraceRight e k r) end)))))) refl
    (of_three_parts (λ qs. Made (l.Declaration label.Struct) qs (v.declaration d ts)) (structure_makes [] [] name g.0 g.1 ts)) (λ c o. tt) (λ c o. refl) (λ c o. refl))

pub structure_attributed : (n s m : ℕ) → Rebuild n (attributes_structure_row s m) (l.Declaration label.Struct) (2 ∷ 1 ∷ 2 ∷ 1 ∷ 2 ∷ 1 ∷ []) → {q a b c d e : List SpannedTemplateToken} {u x y z w k : Phrase Part}
    → AttributesRowed s q u → OneToken (fixed_class f.Struct) a x → OneToken 77 b y → OneToken (fixed_class f.BraceLeft) c z → MembersListed m d w → OneToken (fixed_class f.BraceRight) e k
    → Declared n (q ++ (a ++ (b ++ (c ++ (d ++ (e ++ [])))))) (make_of (l.Declaration label.Struct) (2 ∷ 1 ∷ 2 ∷ 1 ∷ 2 ∷ 1 ∷ []) (u ∷ x ∷ y ∷ z ∷ w ∷ k ∷ []))
structure_attributed n s m rebuild {a = a} {b = b} {c = c} {e = e} {x = x} {y = y} {z = z} {k = k} h i j p g r =
    let name = (word_of j.one.token j.class).0 in
    let d = structure (h.0 ∷ h.1) name g.0 in
    let ts = h.2 ++ (mark f.Struct ∷ word name ∷ in_braces g.1) in
    declares d ts (a_structure name h.3 g.2)
    (pieces_back n (attributes_structure_row s m) (2 ∷ 1 ∷ 2 ∷ 1 ∷ 2 ∷ 1 ∷ []) (phrase s) (structure_row m) (2 ∷ 1 ∷ 2 ∷ 1 ∷ 2 ∷ 1 ∷ []) (l.Declaration label.Struct) rebuild rebuild (v.declaration d ts)
    (a_part h.4 (a_mark (mark_item f.Struct a x i) (a_leaf (word_item b y j) (a_mark (mark_item f.BraceLeft c z p)
    (a_cut_list g.3 (begins_then e [] (λ us. ap (λ z. begins_outside (z ++ us)) (mark_tokens f.BraceRight r))) (λ us. refl) (a_mark (mark_item f.BraceRight e k r) end)))))) refl
    (of_three_parts (λ qs. Made (l.Declaration label.Struct) qs (v.declaration d ts)) (structure_makes (h.0 ∷ h.1) h.2 name g.0 g.1 ts)) (λ c o. tt) (λ c o. refl) (λ c o. refl))

-- ---- functions

-- what a function has, absent or not
abbrev function_views : List Attr → List TemplateToken → List ℕ → List Param → List TemplateToken → List Attr → Option Typ → List TemplateToken → Block → List TemplateToken → List View
function_views xs ts y ps us rs t vs b ws = v.attributes xs ts ∷ v.token (word y) ∷ v.parameters ps us ∷ v.returned rs t vs ∷ v.block b ws ∷ []

abbrev function_tokens : List TemplateToken → List ℕ → List TemplateToken → List TemplateToken → List TemplateToken → List TemplateToken
function_tokens ts y us vs ws = ts ++ (mark f.Fn ∷ word y ∷ mark f.ParenLeft ∷ (us ++ (mark f.ParenRight ∷ (vs ++ ws))))

module _ (xs : List Attr) (ts : List TemplateToken) (y : List ℕ) (ps : List Param) (us : List TemplateToken) (rs : List Attr) (t : Option Typ) (vs : List TemplateToken) (b : Block) (ws : List TemplateToken) where
  function_makes : (zs : List TemplateToken) (p q r s k : Part) → Stands p (v.attributes xs ts) → Stands q (v.token (word y)) → Stands r (v.parameters ps us) → Stands s (v.returned rs t vs) → Stands k (v.block b ws)
      → Made (l.Declaration label.Function) (p ∷ q ∷ r ∷ s ∷ k ∷ []) (v.declaration (function xs y ps rs t b) zs)
  function_makes zs p q r s k h g i j (a_block z is e) =
      made_as (l.Declaration label.Function) (p ∷ q ∷ r ∷ s ∷ k ∷ []) (v.declaration (function xs y ps rs t b) zs)
      (λ d. make.declaration_at d (code.Function (record { attributes = attributes_of p; ident = ident_of y; parameters = parameters_of r; return_attributes = return_attributes_of s; return_type = return_type_in s; body = z })))
      (λ d i. make.function d (p ∷ word_part q y g i ∷ r ∷ s ∷ is i ∷ []))
      (λ d. a_declaration _ refl (λ m. Some (function (attributes_are p xs ts h m) y (parameters_are r ps us i m) (result_attributes_are s rs t vs j m) (result_type_is s rs t vs j m) (e m)))) (λ d. refl) refl

  -- a function of these pieces
  function_of : (n : ℕ) (c : Symbol) (ss : List Symbol) (ns : List ℕ) → Rebuild n (c ∷ ss) (l.Declaration label.Function) ns → AttributesTokens xs ts → ParametersTokens ps us → ResultTokens rs t vs → BlockTokens b ws → {u : List SpannedTemplateToken} {x : Phrase Part} {zs : List (Phrase Part)}
      → (p : Pieces (c ∷ ss) ns (c ∷ ss) ns (function_tokens ts y us vs (ws ++ [])) (function_views xs ts y ps us rs t vs b ws) u (x ∷ zs)) → (fine : (d : Before) (o : List Bool) → Fine p d o)
      → ((d : Before) (o : List Bool) → (pieces_steps p d o (fine d o)).opened ≡ o) → ((d : Before) (o : List Bool) → (pieces_steps p d o (fine d o)).last ≡ outside) → Declared n u (make_of (l.Declaration label.Function) ns (x ∷ zs))
  function_of n c ss ns rebuild h k j i p fine level ended =
      declares (function xs y ps rs t b) (function_tokens ts y us vs ws) (a_function y h k j i)
      (pieces_back n (c ∷ ss) ns c ss ns (l.Declaration label.Function) rebuild rebuild (v.declaration (function xs y ps rs t b) (function_tokens ts y us vs ws)) p (ap (λ z. function_tokens ts y us vs z) (append-nil ws))
      (of_five_parts (λ qs. Made (l.Declaration label.Function) qs (v.declaration (function xs y ps rs t b) (function_tokens ts y us vs ws))) (function_makes (function_tokens ts y us vs ws))) fine level ended)

-- a result, or none
abbrev pub body_row : ℕ → List Symbol
body_row b = token (fixed_class f.ParenRight) ∷ phrase b ∷ []

abbrev pub result_body_row : ℕ → ℕ → List Symbol
result_body_row r b = token (fixed_class f.ParenRight) ∷ phrase r ∷ phrase b ∷ []

abbrev pub head_row : List Symbol → List Symbol
head_row ss = token (fixed_class f.Fn) ∷ token 77 ∷ token (fixed_class f.ParenLeft) ∷ ss

pub function_of_none : (n b : ℕ) → Rebuild n (head_row (body_row b)) (l.Declaration label.Function) (0 ∷ 1 ∷ 2 ∷ 1 ∷ 0 ∷ 1 ∷ 0 ∷ 2 ∷ []) → {c1 d1 e1 q1 z1 : List SpannedTemplateToken} {c2 d2 e2 q2 z2 : Phrase Part}
    → OneToken (fixed_class f.Fn) c1 c2 → OneToken 77 d1 d2 → OneToken (fixed_class f.ParenLeft) e1 e2 → OneToken (fixed_class f.ParenRight) q1 q2 → Blocked b z1 z2
    → Declared n (c1 ++ (d1 ++ (e1 ++ (q1 ++ (z1 ++ ([])))))) (make_of (l.Declaration label.Function) (0 ∷ 1 ∷ 2 ∷ 1 ∷ 0 ∷ 1 ∷ 0 ∷ 2 ∷ []) (c2 ∷ d2 ∷ e2 ∷ q2 ∷ z2 ∷ []))
function_of_none n b rebuild {c1 = c1} {d1 = d1} {e1 = e1} {q1 = q1} {c2 = c2} {d2 = d2} {e2 = e2} {q2 = q2} i1 i2 i3 i4 g =
    function_of [] [] (word_of i2.one.token i2.class).0 [] [] [] None [] g.0 g.1 n (token (fixed_class f.Fn)) (token 77 ∷ token (fixed_class f.ParenLeft) ∷ body_row b) (0 ∷ 1 ∷ 2 ∷ 1 ∷ 0 ∷ 1 ∷ 0 ∷ 2 ∷ []) rebuild no_attributes no_parameters no_result g.2
    (no_part (v.attributes [] []) (v.no_attributes refl) (a_mark (mark_item f.Fn c1 c2 i1) (a_leaf (word_item d1 d2 i2) (a_mark (mark_item f.ParenLeft e1 e2 i3) (no_part (v.parameters [] []) (v.no_parameters refl) (a_mark (mark_item f.ParenRight q1 q2 i4) (no_part (v.returned [] None []) (v.no_result refl) (a_part g.4 end))))))))
    (λ d o. tt) (λ d o. refl) (λ d o. g.4.ended _ _)

pub function_of_none_returning : (n r b : ℕ) → Rebuild n (head_row (result_body_row r b)) (l.Declaration label.Function) (0 ∷ 1 ∷ 2 ∷ 1 ∷ 0 ∷ 1 ∷ 2 ∷ 2 ∷ []) → {c1 d1 e1 q1 w1 z1 : List SpannedTemplateToken} {c2 d2 e2 q2 w2 z2 : Phrase Part}
    → OneToken (fixed_class f.Fn) c1 c2 → OneToken 77 d1 d2 → OneToken (fixed_class f.ParenLeft) e1 e2 → OneToken (fixed_class f.ParenRight) q1 q2 → Resulted r w1 w2 → Blocked b z1 z2
    → Declared n (c1 ++ (d1 ++ (e1 ++ (q1 ++ (w1 ++ (z1 ++ ([]))))))) (make_of (l.Declaration label.Function) (0 ∷ 1 ∷ 2 ∷ 1 ∷ 0 ∷ 1 ∷ 2 ∷ 2 ∷ []) (c2 ∷ d2 ∷ e2 ∷ q2 ∷ w2 ∷ z2 ∷ []))
function_of_none_returning n r b rebuild {c1 = c1} {d1 = d1} {e1 = e1} {q1 = q1} {c2 = c2} {d2 = d2} {e2 = e2} {q2 = q2} i1 i2 i3 i4 j g =
    function_of [] [] (word_of i2.one.token i2.class).0 [] [] j.attributes (Some j.type) (mark f.Arrow ∷ (j.tokens ++ typ_tokens j.type)) g.0 g.1 n (token (fixed_class f.Fn)) (token 77 ∷ token (fixed_class f.ParenLeft) ∷ result_body_row r b) (0 ∷ 1 ∷ 2 ∷ 1 ∷ 0 ∷ 1 ∷ 2 ∷ 2 ∷ []) rebuild no_attributes no_parameters (a_result j.has j.apart) g.2
    (no_part (v.attributes [] []) (v.no_attributes refl) (a_mark (mark_item f.Fn c1 c2 i1) (a_leaf (word_item d1 d2 i2) (a_mark (mark_item f.ParenLeft e1 e2 i3) (no_part (v.parameters [] []) (v.no_parameters refl) (a_mark (mark_item f.ParenRight q1 q2 i4) (a_part j.back (a_part g.4 end))))))))
    (λ d o. tt) (λ d o. refl) (λ d o. g.4.ended _ _)

pub function_of_some : (n m b : ℕ) → Rebuild n (head_row (phrase m ∷ body_row b)) (l.Declaration label.Function) (0 ∷ 1 ∷ 2 ∷ 1 ∷ 2 ∷ 1 ∷ 0 ∷ 2 ∷ []) → {c1 d1 e1 p1 q1 z1 : List SpannedTemplateToken} {c2 d2 e2 p2 q2 z2 : Phrase Part}
    → OneToken (fixed_class f.Fn) c1 c2 → OneToken 77 d1 d2 → OneToken (fixed_class f.ParenLeft) e1 e2 → ParametersListed m p1 p2 → OneToken (fixed_class f.ParenRight) q1 q2 → Blocked b z1 z2
    → Declared n (c1 ++ (d1 ++ (e1 ++ (p1 ++ (q1 ++ (z1 ++ ([]))))))) (make_of (l.Declaration label.Function) (0 ∷ 1 ∷ 2 ∷ 1 ∷ 2 ∷ 1 ∷ 0 ∷ 2 ∷ []) (c2 ∷ d2 ∷ e2 ∷ p2 ∷ q2 ∷ z2 ∷ []))
function_of_some n m b rebuild {c1 = c1} {d1 = d1} {e1 = e1} {q1 = q1} {c2 = c2} {d2 = d2} {e2 = e2} {q2 = q2} i1 i2 i3 k i4 g =
    function_of [] [] (word_of i2.one.token i2.class).0 k.0 k.1 [] None [] g.0 g.1 n (token (fixed_class f.Fn)) (token 77 ∷ token (fixed_class f.ParenLeft) ∷ phrase m ∷ body_row b) (0 ∷ 1 ∷ 2 ∷ 1 ∷ 2 ∷ 1 ∷ 0 ∷ 2 ∷ []) rebuild no_attributes k.2 no_result g.2
    (no_part (v.attributes [] []) (v.no_attributes refl) (a_mark (mark_item f.Fn c1 c2 i1) (a_leaf (word_item d1 d2 i2) (a_mark (mark_item f.ParenLeft e1 e2 i3) (a_list k.3 (mark_item f.ParenRight q1 q2 i4) (mark_tokens f.ParenRight i4) (closes refl) (no_part (v.returned [] None []) (v.no_result refl) (a_part g.4 end)))))))
    (λ d o. ((k.3.ended _ _, refl), tt)) (λ d o. refl) (λ d o. g.4.ended _ _)

pub function_of_some_returning : (n m r b : ℕ) → Rebuild n (head_row (phrase m ∷ result_body_row r b)) (l.Declaration label.Function) (0 ∷ 1 ∷ 2 ∷ 1 ∷ 2 ∷ 1 ∷ 2 ∷ 2 ∷ []) → {c1 d1 e1 p1 q1 w1 z1 : List SpannedTemplateToken} {c2 d2 e2 p2 q2 w2 z2 : Phrase Part}
    → OneToken (fixed_class f.Fn) c1 c2 → OneToken 77 d1 d2 → OneToken (fixed_class f.ParenLeft) e1 e2 → ParametersListed m p1 p2 → OneToken (fixed_class f.ParenRight) q1 q2 → Resulted r w1 w2 → Blocked b z1 z2
    → Declared n (c1 ++ (d1 ++ (e1 ++ (p1 ++ (q1 ++ (w1 ++ (z1 ++ ([])))))))) (make_of (l.Declaration label.Function) (0 ∷ 1 ∷ 2 ∷ 1 ∷ 2 ∷ 1 ∷ 2 ∷ 2 ∷ []) (c2 ∷ d2 ∷ e2 ∷ p2 ∷ q2 ∷ w2 ∷ z2 ∷ []))
function_of_some_returning n m r b rebuild {c1 = c1} {d1 = d1} {e1 = e1} {q1 = q1} {c2 = c2} {d2 = d2} {e2 = e2} {q2 = q2} i1 i2 i3 k i4 j g =
    function_of [] [] (word_of i2.one.token i2.class).0 k.0 k.1 j.attributes (Some j.type) (mark f.Arrow ∷ (j.tokens ++ typ_tokens j.type)) g.0 g.1 n (token (fixed_class f.Fn)) (token 77 ∷ token (fixed_class f.ParenLeft) ∷ phrase m ∷ result_body_row r b) (0 ∷ 1 ∷ 2 ∷ 1 ∷ 2 ∷ 1 ∷ 2 ∷ 2 ∷ []) rebuild no_attributes k.2 (a_result j.has j.apart) g.2
    (no_part (v.attributes [] []) (v.no_attributes refl) (a_mark (mark_item f.Fn c1 c2 i1) (a_leaf (word_item d1 d2 i2) (a_mark (mark_item f.ParenLeft e1 e2 i3) (a_list k.3 (mark_item f.ParenRight q1 q2 i4) (mark_tokens f.ParenRight i4) (closes refl) (a_part j.back (a_part g.4 end)))))))
    (λ d o. ((k.3.ended _ _, refl), tt)) (λ d o. refl) (λ d o. g.4.ended _ _)

pub function_attributed_of_none : (n s b : ℕ) → Rebuild n (phrase s ∷ head_row (body_row b)) (l.Declaration label.Function) (2 ∷ 1 ∷ 2 ∷ 1 ∷ 0 ∷ 1 ∷ 0 ∷ 2 ∷ []) → {a1 c1 d1 e1 q1 z1 : List SpannedTemplateToken} {a2 c2 d2 e2 q2 z2 : Phrase Part}
    → AttributesRowed s a1 a2 → OneToken (fixed_class f.Fn) c1 c2 → OneToken 77 d1 d2 → OneToken (fixed_class f.ParenLeft) e1 e2 → OneToken (fixed_class f.ParenRight) q1 q2 → Blocked b z1 z2
    → Declared n (a1 ++ (c1 ++ (d1 ++ (e1 ++ (q1 ++ (z1 ++ ([]))))))) (make_of (l.Declaration label.Function) (2 ∷ 1 ∷ 2 ∷ 1 ∷ 0 ∷ 1 ∷ 0 ∷ 2 ∷ []) (a2 ∷ c2 ∷ d2 ∷ e2 ∷ q2 ∷ z2 ∷ []))
function_attributed_of_none n s b rebuild {c1 = c1} {d1 = d1} {e1 = e1} {q1 = q1} {c2 = c2} {d2 = d2} {e2 = e2} {q2 = q2} h i1 i2 i3 i4 g =
    function_of (h.0 ∷ h.1) h.2 (word_of i2.one.token i2.class).0 [] [] [] None [] g.0 g.1 n (phrase s) (head_row (body_row b)) (2 ∷ 1 ∷ 2 ∷ 1 ∷ 0 ∷ 1 ∷ 0 ∷ 2 ∷ []) rebuild h.3 no_parameters no_result g.2
    (a_part h.4 (a_mark (mark_item f.Fn c1 c2 i1) (a_leaf (word_item d1 d2 i2) (a_mark (mark_item f.ParenLeft e1 e2 i3) (no_part (v.parameters [] []) (v.no_parameters refl) (a_mark (mark_item f.ParenRight q1 q2 i4) (no_part (v.returned [] None []) (v.no_result refl) (a_part g.4 end))))))))
    (λ d o. tt) (λ d o. refl) (λ d o. g.4.ended _ _)

pub function_attributed_of_none_returning : (n s r b : ℕ) → Rebuild n (phrase s ∷ head_row (result_body_row r b)) (l.Declaration label.Function) (2 ∷ 1 ∷ 2 ∷ 1 ∷ 0 ∷ 1 ∷ 2 ∷ 2 ∷ []) → {a1 c1 d1 e1 q1 w1 z1 : List SpannedTemplateToken} {a2 c2 d2 e2 q2 w2 z2 : Phrase Part}
    → AttributesRowed s a1 a2 → OneToken (fixed_class f.Fn) c1 c2 → OneToken 77 d1 d2 → OneToken (fixed_class f.ParenLeft) e1 e2 → OneToken (fixed_class f.ParenRight) q1 q2 → Resulted r w1 w2 → Blocked b z1 z2
    → Declared n (a1 ++ (c1 ++ (d1 ++ (e1 ++ (q1 ++ (w1 ++ (z1 ++ ([])))))))) (make_of (l.Declaration label.Function) (2 ∷ 1 ∷ 2 ∷ 1 ∷ 0 ∷ 1 ∷ 2 ∷ 2 ∷ []) (a2 ∷ c2 ∷ d2 ∷ e2 ∷ q2 ∷ w2 ∷ z2 ∷ []))
function_attributed_of_none_returning n s r b rebuild {c1 = c1} {d1 = d1} {e1 = e1} {q1 = q1} {c2 = c2} {d2 = d2} {e2 = e2} {q2 = q2} h i1 i2 i3 i4 j g =
    function_of (h.0 ∷ h.1) h.2 (word_of i2.one.token i2.class).0 [] [] j.attributes (Some j.type) (mark f.Arrow ∷ (j.tokens ++ typ_tokens j.type)) g.0 g.1 n (phrase s) (head_row (result_body_row r b)) (2 ∷ 1 ∷ 2 ∷ 1 ∷ 0 ∷ 1 ∷ 2 ∷ 2 ∷ []) rebuild h.3 no_parameters (a_result j.has j.apart) g.2
    (a_part h.4 (a_mark (mark_item f.Fn c1 c2 i1) (a_leaf (word_item d1 d2 i2) (a_mark (mark_item f.ParenLeft e1 e2 i3) (no_part (v.parameters [] []) (v.no_parameters refl) (a_mark (mark_item f.ParenRight q1 q2 i4) (a_part j.back (a_part g.4 end))))))))
    (λ d o. tt) (λ d o. refl) (λ d o. g.4.ended _ _)

pub function_attributed_of_some : (n s m b : ℕ) → Rebuild n (phrase s ∷ head_row (phrase m ∷ body_row b)) (l.Declaration label.Function) (2 ∷ 1 ∷ 2 ∷ 1 ∷ 2 ∷ 1 ∷ 0 ∷ 2 ∷ []) → {a1 c1 d1 e1 p1 q1 z1 : List SpannedTemplateToken} {a2 c2 d2 e2 p2 q2 z2 : Phrase Part}
    → AttributesRowed s a1 a2 → OneToken (fixed_class f.Fn) c1 c2 → OneToken 77 d1 d2 → OneToken (fixed_class f.ParenLeft) e1 e2 → ParametersListed m p1 p2 → OneToken (fixed_class f.ParenRight) q1 q2 → Blocked b z1 z2
    → Declared n (a1 ++ (c1 ++ (d1 ++ (e1 ++ (p1 ++ (q1 ++ (z1 ++ ([])))))))) (make_of (l.Declaration label.Function) (2 ∷ 1 ∷ 2 ∷ 1 ∷ 2 ∷ 1 ∷ 0 ∷ 2 ∷ []) (a2 ∷ c2 ∷ d2 ∷ e2 ∷ p2 ∷ q2 ∷ z2 ∷ []))
function_attributed_of_some n s m b rebuild {c1 = c1} {d1 = d1} {e1 = e1} {q1 = q1} {c2 = c2} {d2 = d2} {e2 = e2} {q2 = q2} h i1 i2 i3 k i4 g =
    function_of (h.0 ∷ h.1) h.2 (word_of i2.one.token i2.class).0 k.0 k.1 [] None [] g.0 g.1 n (phrase s) (head_row (phrase m ∷ body_row b)) (2 ∷ 1 ∷ 2 ∷ 1 ∷ 2 ∷ 1 ∷ 0 ∷ 2 ∷ []) rebuild h.3 k.2 no_result g.2
    (a_part h.4 (a_mark (mark_item f.Fn c1 c2 i1) (a_leaf (word_item d1 d2 i2) (a_mark (mark_item f.ParenLeft e1 e2 i3) (a_list k.3 (mark_item f.ParenRight q1 q2 i4) (mark_tokens f.ParenRight i4) (closes refl) (no_part (v.returned [] None []) (v.no_result refl) (a_part g.4 end)))))))
    (λ d o. ((k.3.ended _ _, refl), tt)) (λ d o. refl) (λ d o. g.4.ended _ _)

pub function_attributed_of_some_returning : (n s m r b : ℕ) → Rebuild n (phrase s ∷ head_row (phrase m ∷ result_body_row r b)) (l.Declaration label.Function) (2 ∷ 1 ∷ 2 ∷ 1 ∷ 2 ∷ 1 ∷ 2 ∷ 2 ∷ []) → {a1 c1 d1 e1 p1 q1 w1 z1 : List SpannedTemplateToken} {a2 c2 d2 e2 p2 q2 w2 z2 : Phrase Part}
    → AttributesRowed s a1 a2 → OneToken (fixed_class f.Fn) c1 c2 → OneToken 77 d1 d2 → OneToken (fixed_class f.ParenLeft) e1 e2 → ParametersListed m p1 p2 → OneToken (fixed_class f.ParenRight) q1 q2 → Resulted r w1 w2 → Blocked b z1 z2
    → Declared n (a1 ++ (c1 ++ (d1 ++ (e1 ++ (p1 ++ (q1 ++ (w1 ++ (z1 ++ ([]))))))))) (make_of (l.Declaration label.Function) (2 ∷ 1 ∷ 2 ∷ 1 ∷ 2 ∷ 1 ∷ 2 ∷ 2 ∷ []) (a2 ∷ c2 ∷ d2 ∷ e2 ∷ p2 ∷ q2 ∷ w2 ∷ z2 ∷ []))
function_attributed_of_some_returning n s m r b rebuild {c1 = c1} {d1 = d1} {e1 = e1} {q1 = q1} {c2 = c2} {d2 = d2} {e2 = e2} {q2 = q2} h i1 i2 i3 k i4 j g =
    function_of (h.0 ∷ h.1) h.2 (word_of i2.one.token i2.class).0 k.0 k.1 j.attributes (Some j.type) (mark f.Arrow ∷ (j.tokens ++ typ_tokens j.type)) g.0 g.1 n (phrase s) (head_row (phrase m ∷ result_body_row r b)) (2 ∷ 1 ∷ 2 ∷ 1 ∷ 2 ∷ 1 ∷ 2 ∷ 2 ∷ []) rebuild h.3 k.2 (a_result j.has j.apart) g.2
    (a_part h.4 (a_mark (mark_item f.Fn c1 c2 i1) (a_leaf (word_item d1 d2 i2) (a_mark (mark_item f.ParenLeft e1 e2 i3) (a_list k.3 (mark_item f.ParenRight q1 q2 i4) (mark_tokens f.ParenRight i4) (closes refl) (a_part j.back (a_part g.4 end)))))))
    (λ d o. ((k.3.ended _ _, refl), tt)) (λ d o. refl) (λ d o. g.4.ended _ _)
