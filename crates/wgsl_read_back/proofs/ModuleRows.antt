-- The productions of imports, directives and declarations in a row. A row of declarations may hold `;` alone, of which nothing is printed.
use Rattle.std.proofs.Common.{◌≡◌, refl, sym, ap, ◌∙◌, subst, ℕ, Bool, List, [], ◌∷◌, ◌++◌, append_assoc, append-nil, Option, Some, None}
use Rattle.std.specs.List.{cons_option}
use Rattle.std.proofs.lemmas.List.{map-append}
use Rattle.wgsl_path.specs.declared.span.Spanned.{Spanned}
use Rattle.wgsl_token.specs.declared.token.Fixed.TheVariants as f
use Rattle.wgsl_templates.specs.declared.meaning.token.TemplateToken.{TemplateToken}
use Rattle.wgsl_templates.specs.declared.meaning.token.SpannedTemplateToken.{SpannedTemplateToken}
use Rattle.wgsl_print_laws.specs.Laws.{without_places}
use Rattle.wgsl_print_laws.specs.OptionalMarks.{outside, AreAlike, first_outside}
use Rattle.wgsl_declarations.specs.ImportsTree.{Importing, Directive}
use Rattle.wgsl_declarations.specs.ImportsView.{importing_tree, directive_tree}
use Rattle.wgsl_declarations.specs.declared.declaration.GlobalDeclaration.{GlobalDeclaration}
use Rattle.wgsl_declarations.specs.Tree.{Decl}
use Rattle.wgsl_declarations.specs.View.{declaration_tree, declarations_tree}
use Rattle.wgsl_print_laws.specs.Tokens.{mark}
use Rattle.wgsl_print_laws.specs.Printable.{AreSpelled}
use Rattle.wgsl_print_laws.specs.Directives.{HasTokens}
use Rattle.wgsl_print_laws.specs.Imports.{ImportTokens}
use Rattle.wgsl_print_laws.proofs.Expressions.{are_front, are_behind}
use Rattle.wgsl_print_laws.specs.Declarations.{DeclTokens, RowTokens, row_end, row_and}
use Rattle.wgsl_grammar_tables.specs.Grammars.{phrase}
use Rattle.wgsl_semantic_values.specs.declared.part.Part.{Part}
use Rattle.wgsl_semantic_values.specs.declared.part.Part.TheVariants as part
use Rattle.wgsl_semantic_values.specs.declared.label.Label.TheVariants as l
use Rattle.wgsl_parser.specs.Phrase.{Phrase}
use Rattle.wgsl_semantic_values.specs.Lists as lists
use Rattle.wgsl_read_back.proofs.Views.{Stands, an_importing, some_imports, a_directive, some_directives, a_declaration, some_declarations}
use Rattle.wgsl_read_back.proofs.Views as v
use Rattle.wgsl_read_back.proofs.Items.{places_append, split_two, moved, Back}
use Rattle.wgsl_read_back.proofs.Rows.{make_of, Rebuild}
use Rattle.wgsl_read_back.proofs.Pieces.{Lined, Vanished, end, a_part, some_lines, Made, made_as, made_of_parts, pieces_lined, of_one_part, of_two_parts, more_back, phrase_back, again_one, again_two}
use Rattle.wgsl_read_back.proofs.Imports.{Imported}
use Rattle.wgsl_read_back.proofs.Directives.{Directed}
use Rattle.wgsl_read_back.proofs.Declarations.{IsVoid, IsVoidDeclaration, Declared, declares, is_void}

-- one more behind some
row_last : {A : Type 0} {has : A → List TemplateToken → Type 0} {xs : List A} {ts : List TemplateToken} (x : A) (us : List TemplateToken) → RowTokens has xs ts → has x us → RowTokens has (xs ++ (x ∷ [])) (ts ++ (us ++ []))
row_last x us row_end h = row_and h row_end
row_last {has = has} x us (row_and {x = y} {xs = ys} {ts = ts} {us = vs} g gs) h = subst (RowTokens has (y ∷ (ys ++ (x ∷ [])))) (sym (append_assoc ts vs (us ++ []))) (row_and g (row_last x us gs h))

-- ---- imports

abbrev pub ImportsRowed : ℕ → List SpannedTemplateToken → Phrase Part → Type 0
ImportsRowed n u x = (i : Importing) × (is : List Importing) × (ts : List TemplateToken) × RowTokens ImportTokens (i ∷ is) ts × Back n (v.imports (i ∷ is) ts) u x

pub first_import : (n m : ℕ) → Rebuild n (phrase m ∷ []) l.First (2 ∷ []) → {u : List SpannedTemplateToken} {x : Phrase Part} → Imported m u x → ImportsRowed n (u ++ []) (make_of l.First (2 ∷ []) (x ∷ []))
first_import n m rebuild g = (
  g.0,
  [],
  g.1 ++ [],
  row_and g.2 row_end,
  phrase_back n m l.First rebuild (v.imports (g.0 ∷ []) (g.1 ++ [])) g.3 refl (makes g.0 g.1 (g.1 ++ [])) (λ d o. g.3.ended _ _),
)
  where
    makes : (i : Importing) (us ts : List TemplateToken) (q : Part) → Stands q (v.importing i us) → Made l.First (q ∷ []) (v.imports (i ∷ []) ts)
    makes i us ts q (an_importing y is e) = made_as l.First (q ∷ []) (v.imports (i ∷ []) ts) (λ s. part.Imports (y ∷ [])) (λ s k. lists.started (is k)) (λ s. some_imports _ refl (λ k. e k ∷ [])) (λ s. refl) refl

pub more_imports : (n m : ℕ) → Rebuild n (phrase n ∷ phrase m ∷ []) l.More (2 ∷ 2 ∷ []) → {a b : List SpannedTemplateToken} {x y : Phrase Part} → ImportsRowed n a x → Imported m b y
    → ImportsRowed n (a ++ (b ++ [])) (make_of l.More (2 ∷ 2 ∷ []) (x ∷ y ∷ []))
more_imports n m rebuild h g =
    let ts = h.2 ++ (g.1 ++ []) in (
      h.0,
      h.1 ++ (g.0 ∷ []),
      ts,
      row_last g.0 g.1 h.3 g.2,
      more_back n m rebuild (v.imports (h.0 ∷ (h.1 ++ (g.0 ∷ []))) ts) h.4 g.3 refl (makes h.0 h.1 h.2 g.0 g.1 ts) (λ d o. g.3.ended _ _),
    )
  where
    makes : (i : Importing) (is : List Importing) (us : List TemplateToken) (j : Importing) (vs ts : List TemplateToken) (q k : Part) → Stands q (v.imports (i ∷ is) us) → Stands k (v.importing j vs)
        → Made l.More (q ∷ k ∷ []) (v.imports (i ∷ (is ++ (j ∷ []))) ts)
    makes i is us j vs ts q k (some_imports ys that e) (an_importing y at h) =
        made_as l.More (q ∷ k ∷ []) (v.imports (i ∷ (is ++ (j ∷ []))) ts) (λ s. part.Imports (ys ++ (y ∷ []))) (λ s k. lists.joined (that k) (at k))
        (λ s. some_imports _ refl (map-append importing_tree ys (y ∷ []) ∙ (λ k. e k ++ (h k ∷ [])))) (λ s. refl) refl

-- ---- directives

abbrev pub DirectivesRowed : ℕ → List SpannedTemplateToken → Phrase Part → Type 0
DirectivesRowed n u x = (i : Directive) × (is : List Directive) × (ts : List TemplateToken) × RowTokens HasTokens (i ∷ is) ts × Back n (v.directives (i ∷ is) ts) u x

pub first_directive : (n m : ℕ) → Rebuild n (phrase m ∷ []) l.First (2 ∷ []) → {u : List SpannedTemplateToken} {x : Phrase Part} → Directed m u x → DirectivesRowed n (u ++ []) (make_of l.First (2 ∷ []) (x ∷ []))
first_directive n m rebuild g = (
  g.0,
  [],
  g.1 ++ [],
  row_and g.2 row_end,
  phrase_back n m l.First rebuild (v.directives (g.0 ∷ []) (g.1 ++ [])) g.3 refl (makes g.0 g.1 (g.1 ++ [])) (λ d o. g.3.ended _ _),
)
  where
    makes : (i : Directive) (us ts : List TemplateToken) (q : Part) → Stands q (v.directive i us) → Made l.First (q ∷ []) (v.directives (i ∷ []) ts)
    makes i us ts q (a_directive y is e) = made_as l.First (q ∷ []) (v.directives (i ∷ []) ts) (λ s. part.Directives (y ∷ [])) (λ s k. lists.started (is k)) (λ s. some_directives _ refl (λ k. e k ∷ [])) (λ s. refl) refl

pub more_directives : (n m : ℕ) → Rebuild n (phrase n ∷ phrase m ∷ []) l.More (2 ∷ 2 ∷ []) → {a b : List SpannedTemplateToken} {x y : Phrase Part} → DirectivesRowed n a x → Directed m b y
    → DirectivesRowed n (a ++ (b ++ [])) (make_of l.More (2 ∷ 2 ∷ []) (x ∷ y ∷ []))
more_directives n m rebuild h g =
    let ts = h.2 ++ (g.1 ++ []) in (
      h.0,
      h.1 ++ (g.0 ∷ []),
      ts,
      row_last g.0 g.1 h.3 g.2,
      more_back n m rebuild (v.directives (h.0 ∷ (h.1 ++ (g.0 ∷ []))) ts) h.4 g.3 refl (makes h.0 h.1 h.2 g.0 g.1 ts) (λ d o. g.3.ended _ _),
    )
  where
    makes : (i : Directive) (is : List Directive) (us : List TemplateToken) (j : Directive) (vs ts : List TemplateToken) (q k : Part) → Stands q (v.directives (i ∷ is) us) → Stands k (v.directive j vs)
        → Made l.More (q ∷ k ∷ []) (v.directives (i ∷ (is ++ (j ∷ []))) ts)
    makes i is us j vs ts q k (some_directives ys that e) (a_directive y at h) =
        made_as l.More (q ∷ k ∷ []) (v.directives (i ∷ (is ++ (j ∷ []))) ts) (λ s. part.Directives (ys ++ (y ∷ []))) (λ s k. lists.joined (that k) (at k))
        (λ s. some_directives _ refl (map-append directive_tree ys (y ∷ []) ∙ (λ k. e k ++ (h k ∷ [])))) (λ s. refl) refl

-- ---- declarations

-- Those of which none is printed, and others.
pub data DeclarationsRowed (n : ℕ) (u : List SpannedTemplateToken) (x : Phrase Part) : Type 0 where
  all_void : (ys : List (Spanned GlobalDeclaration)) → x.part ≡ part.Globals ys → declarations_tree ys ≡ [] → Vanished n (v.declarations [] []) u x → DeclarationsRowed n u x
  some_declared : (d : Decl) (ds : List Decl) (ts : List TemplateToken) → RowTokens DeclTokens (d ∷ ds) ts → Lined n (v.declarations (d ∷ ds) ts) u x → DeclarationsRowed n u x

tree_last : (ys : List (Spanned GlobalDeclaration)) (y : Spanned GlobalDeclaration) → declarations_tree (ys ++ (y ∷ [])) ≡ declarations_tree ys ++ cons_option (declaration_tree y.node) []
tree_last [] y = refl
tree_last (z ∷ ys) y = go (declaration_tree z.node) (tree_last ys y)
  where
    go : (o : Option Decl) → declarations_tree (ys ++ (y ∷ [])) ≡ declarations_tree ys ++ cons_option (declaration_tree y.node) [] → cons_option o (declarations_tree (ys ++ (y ∷ []))) ≡ cons_option o (declarations_tree ys) ++ cons_option (declaration_tree y.node) []
    go None e = e
    go (Some d) e = ap (λ z. d ∷ z) e

-- the `;` says nothing
void_tokens : {m : ℕ} {u : List SpannedTemplateToken} {x : Phrase Part} → IsVoid m u x → without_places (u ++ []) ≡ mark f.Semicolon ∷ []
void_tokens {u = u} g = places_append u [] ∙ append-nil (without_places u) ∙ g.tokens

void_gone : {m : ℕ} {u : List SpannedTemplateToken} {x : Phrase Part} → IsVoid m u x → (o : List Bool) (xs us : List TemplateToken) → AreAlike outside o xs us → AreAlike outside o (without_places (u ++ []) ++ xs) us
void_gone g o xs us a = moved (ap (λ z. z ++ xs) (sym (void_tokens g))) refl (first_outside (mark f.Semicolon) refl a)

first_void : (p : Part) → IsVoidDeclaration p → Made l.First (p ∷ []) (v.declarations [] [])
first_void p g =
    made_as l.First (p ∷ []) (v.declarations [] []) (λ s. part.Globals (g.0 ∷ [])) (λ s i. lists.started (g.1 i)) (λ s. some_declarations (g.0 ∷ []) refl (ap (λ o. cons_option o []) g.2)) (λ s. refl) refl

more_void : (q : Part) → IsVoidDeclaration q → (p : Part) (ys : List (Spanned GlobalDeclaration)) (ds : List Decl) (ts : List TemplateToken) → p ≡ part.Globals ys → declarations_tree ys ≡ ds → Made l.More (p ∷ q ∷ []) (v.declarations ds ts)
more_void q g p ys ds ts is e =
    made_as l.More (p ∷ q ∷ []) (v.declarations ds ts) (λ s. part.Globals (ys ++ (g.0 ∷ []))) (λ s i. lists.joined (is i) (g.1 i))
    (λ s. some_declarations _ refl (tree_last ys g.0 ∙ (λ i. e i ++ cons_option (g.2 i) []) ∙ append-nil ds)) (λ s. refl) refl

-- some of them in a row are there
not_absent : (ys : List (Spanned GlobalDeclaration)) (p : Part) → p ≡ part.Globals ys → p ≡ part.Absent → ⊥
not_absent ys p e h = let wrong : part.Globals ys ≡ part.Absent = sym e ∙ h in cc

voids : (p : Part) → Stands p (v.declarations [] []) → (p ≡ part.Absent → ⊥) → (ys : List (Spanned GlobalDeclaration)) × (p ≡ part.Globals ys) × (declarations_tree ys ≡ [])
voids p (some_declarations ys is trees) there = (ys, is, trees)
voids p (v.no_declarations is) there = absurd (there is)

more_makes : (ys : List (Spanned GlobalDeclaration)) (ds : List Decl) (d : Decl) (us ts : List TemplateToken) (p q : Part) → p ≡ part.Globals ys → declarations_tree ys ≡ ds → Stands q (v.declaration d us) → Made l.More (p ∷ q ∷ []) (v.declarations (ds ++ (d ∷ [])) ts)
more_makes ys ds d us ts p q is e (a_declaration y at h) =
    made_as l.More (p ∷ q ∷ []) (v.declarations (ds ++ (d ∷ [])) ts) (λ s. part.Globals (ys ++ (y ∷ []))) (λ s i. lists.joined (is i) (at i))
    (λ s. some_declarations _ refl (tree_last ys y ∙ (λ i. e i ++ cons_option (h i) []))) (λ s. refl) refl

globals_are : (p : Part) (d : Decl) (ds : List Decl) (ts : List TemplateToken) → Stands p (v.declarations (d ∷ ds) ts) → (ys : List (Spanned GlobalDeclaration)) × (p ≡ part.Globals ys) × (declarations_tree ys ≡ d ∷ ds)
globals_are p d ds ts (some_declarations ys is e) = (ys, is, e)

first_line : (n m : ℕ) → Rebuild n (phrase m ∷ []) l.First (2 ∷ []) → {u : List SpannedTemplateToken} {x : Phrase Part} (d : Decl) (ts : List TemplateToken) → Back m (v.declaration d ts) u x
    → Lined n (v.declarations (d ∷ []) (ts ++ [])) (u ++ []) (make_of l.First (2 ∷ []) (x ∷ []))
first_line n m rebuild d ts b =
    pieces_lined n (phrase m ∷ []) (2 ∷ []) (phrase m) [] (2 ∷ []) l.First rebuild rebuild (v.declarations (d ∷ []) (ts ++ [])) (a_part b end) refl
    (of_one_part (λ qs. Made l.First qs (v.declarations (d ∷ []) (ts ++ []))) (makes d ts (ts ++ []))) (λ o. tt) (λ o. refl) (λ o. b.ended outside o)
  where
    makes : (d : Decl) (us ts : List TemplateToken) (q : Part) → Stands q (v.declaration d us) → Made l.First (q ∷ []) (v.declarations (d ∷ []) ts)
    makes d us ts q (a_declaration y is e) =
        made_as l.First (q ∷ []) (v.declarations (d ∷ []) ts) (λ s. part.Globals (y ∷ [])) (λ s i. lists.started (is i)) (λ s. some_declarations _ refl (λ i. cons_option (e i) [])) (λ s. refl) refl

pub first_declaration : (n m : ℕ) → Rebuild n (phrase m ∷ []) l.First (2 ∷ []) → {u : List SpannedTemplateToken} {x : Phrase Part} → Declared m u x → DeclarationsRowed n (u ++ []) (make_of l.First (2 ∷ []) (x ∷ []))
first_declaration n m rebuild (declares d ts h b) = some_declared d [] (ts ++ []) (row_and h row_end) (first_line n m rebuild d ts b)
first_declaration n m rebuild {u = u} {x = x} (is_void g) =
    let made = made_of_parts l.First (2 ∷ []) x [] (v.declarations [] []) (first_void x.part (g.node, g.part_is, g.void)) (g.passes, tt) in
    all_void (g.node ∷ []) (ap lists.started g.part_is) (ap (λ o. cons_option o []) g.void) (record {
      stands = made.stands;
      absent = v.no_declarations refl;
      passes = made.passes;
      likewise = λ w e. let a = g.likewise w (e ∙ ap without_places (append-nil u)) in record {
        again = again_one n m l.First rebuild (v.declarations [] []) w a.value a.derives a.passes (first_void a.value.part a.is);
        there = not_absent (a.is.0 ∷ []) (make_of l.First (2 ∷ []) (a.value ∷ [])).part (ap lists.started a.is.1);
      };
      cont = void_gone g;
    })

-- tokens one behind the other
behind_tokens : (a b : List SpannedTemplateToken) (xs : List TemplateToken) → without_places a ++ (without_places b ++ xs) ≡ without_places (a ++ b) ++ xs
behind_tokens a b xs = sym (append_assoc (without_places a) (without_places b) xs) ∙ ap (λ z. z ++ xs) (sym (places_append a b))

-- Behind such as vanish, one is the first that is printed; and where one vanishes, what is printed is what was.
pub more_declarations : (n m : ℕ) → Rebuild n (phrase n ∷ phrase m ∷ []) l.More (2 ∷ 2 ∷ []) → Rebuild n (phrase m ∷ []) l.First (2 ∷ []) → {a b : List SpannedTemplateToken} {x y : Phrase Part}
    → DeclarationsRowed n a x → Declared m b y → DeclarationsRowed n (a ++ (b ++ [])) (make_of l.More (2 ∷ 2 ∷ []) (x ∷ y ∷ []))
more_declarations n m rebuild first {a = a} {b = b} {x = x} {y = y} (all_void ys is none h) (is_void g) =
    let made = made_of_parts l.More (2 ∷ 2 ∷ []) x (y ∷ []) (v.declarations [] []) (more_void y.part (g.node, g.part_is, g.void) x.part ys [] [] is none) (h.passes, (g.passes, tt)) in
    all_void (ys ++ (g.node ∷ [])) (λ i. lists.joined (is i) (g.part_is i)) (tree_last ys g.node ∙ (λ i. none i ++ cons_option (g.void i) [])) (record {
      stands = made.stands;
      absent = v.no_declarations refl;
      passes = made.passes;
      likewise = λ w e.
          let q = split_two a b w e in
          let c = h.likewise q.front q.front_is in
          let d = g.likewise q.rest q.rest_is in
          let held = voids c.again.value.part c.again.stands c.there in record {
            again = again_two n n m l.More rebuild (v.declarations [] []) q.front q.rest w q.whole c.again.value d.value c.again.derives d.derives c.again.passes d.passes (more_void d.value.part d.is c.again.value.part held.0 [] [] held.1 held.2);
            there = not_absent (held.0 ++ (d.is.0 ∷ [])) (make_of l.More (2 ∷ 2 ∷ []) (c.again.value ∷ d.value ∷ [])).part (λ i. lists.joined (held.1 i) (d.is.1 i));
          };
      cont = λ o xs us z. moved (behind_tokens a (b ++ []) xs) refl (h.cont o (without_places (b ++ []) ++ xs) us (void_gone g o xs us z));
    })
more_declarations n m rebuild first {a = a} {b = b} {x = x} {y = y} (all_void ys is none h) (declares d ts k g) =
    let line = first_line n m first d ts g in
    let made = made_of_parts l.More (2 ∷ 2 ∷ []) x (y ∷ []) (v.declarations (d ∷ []) (ts ++ [])) (more_makes ys [] d ts (ts ++ []) x.part y.part is none g.item.stands) (h.passes, (g.item.passes, tt)) in
    some_declared d [] (ts ++ []) (row_and k row_end) (record {
      stands = made.stands;
      passes = made.passes;
      again = line.again;
      likewise = λ w e.
          let q = split_two a b w e in
          let c = h.likewise q.front q.front_is in
          let f = g.item.likewise q.rest q.rest_is in
          let held = voids c.again.value.part c.again.stands c.there in
          again_two n n m l.More rebuild (v.declarations (d ∷ []) (ts ++ [])) q.front q.rest w q.whole c.again.value f.value c.again.derives f.derives c.again.passes f.passes
          (more_makes held.0 [] d ts (ts ++ []) c.again.value.part f.value.part held.1 held.2 f.stands);
      spelled = λ s. line.spelled (are_behind (without_places a) (without_places (b ++ [])) (subst AreSpelled (places_append a (b ++ [])) s));
      cont = λ o xs us z. moved (behind_tokens a (b ++ []) xs) refl (h.cont o (without_places (b ++ []) ++ xs) ((ts ++ []) ++ us) (line.cont o xs us z));
    })
more_declarations n m rebuild first {a = a} {b = b} {x = x} {y = y} (some_declared d ds ts k h) (is_void g) =
    let p = globals_are x.part d ds ts h.stands in
    let made = made_of_parts l.More (2 ∷ 2 ∷ []) x (y ∷ []) (v.declarations (d ∷ ds) ts) (more_void y.part (g.node, g.part_is, g.void) x.part p.0 (d ∷ ds) ts p.1 p.2) (h.passes, (g.passes, tt)) in
    some_declared d ds ts k (record {
      stands = made.stands;
      passes = made.passes;
      again = h.again;
      likewise = λ w e.
          let q = split_two a b w e in
          let c = h.likewise q.front q.front_is in
          let f = g.likewise q.rest q.rest_is in
          let held = globals_are c.value.part d ds ts c.stands in
          again_two n n m l.More rebuild (v.declarations (d ∷ ds) ts) q.front q.rest w q.whole c.value f.value c.derives f.derives c.passes f.passes (more_void f.value.part f.is c.value.part held.0 (d ∷ ds) ts held.1 held.2);
      spelled = λ s. h.spelled (are_front (without_places a) (without_places (b ++ [])) (subst AreSpelled (places_append a (b ++ [])) s));
      cont = λ o xs us z. moved (behind_tokens a (b ++ []) xs) refl (h.cont o (without_places (b ++ []) ++ xs) us (void_gone g o xs us z));
    })
more_declarations n m rebuild first (some_declared d ds ts k h) (declares e us i g) =
    some_declared d (ds ++ (e ∷ [])) (ts ++ (us ++ [])) (row_last e us k i)
    (pieces_lined n (phrase n ∷ phrase m ∷ []) (2 ∷ 2 ∷ []) (phrase n) (phrase m ∷ []) (2 ∷ 2 ∷ []) l.More rebuild rebuild (v.declarations (d ∷ (ds ++ (e ∷ []))) (ts ++ (us ++ []))) (some_lines h (a_part g end)) refl
    (of_two_parts (λ qs. Made l.More qs (v.declarations (d ∷ (ds ++ (e ∷ []))) (ts ++ (us ++ [])))) (λ p q w z.
    let s = globals_are p d ds ts w in more_makes s.0 (d ∷ ds) e us (ts ++ (us ++ [])) p q s.1 s.2 z)) (λ o. (refl, tt)) (λ o. refl) (λ o. g.ended outside o))
