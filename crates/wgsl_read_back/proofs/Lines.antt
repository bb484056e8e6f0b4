-- Statements in a row, among which a `;` alone may stand.
use Rattle.std.proofs.Common.{◌≡◌, refl, sym, ap, ◌∙◌, subst, ℕ, Bool, List, [], ◌∷◌, ◌++◌, append_assoc, append-nil, map, Option, Some, None}
use Rattle.wgsl_path.specs.declared.span.Spanned.{Spanned}
use Rattle.wgsl_token.specs.declared.token.Fixed.TheVariants as f
use Rattle.wgsl_templates.specs.declared.meaning.token.TemplateToken.{TemplateToken}
use Rattle.wgsl_templates.specs.declared.meaning.token.SpannedTemplateToken.{SpannedTemplateToken}
use Rattle.wgsl_print_laws.specs.Laws.{without_places}
use Rattle.wgsl_print_laws.specs.OptionalMarks.{outside, AreAlike, first_outside}
use Rattle.wgsl_statements.specs.declared.statement.Statement.{Statement}
use Rattle.wgsl_statements.specs.Tree.{Stm, Stms, nil, cons}
use Rattle.wgsl_statements.specs.View.{stms, statement_tree, statements_tree}
use Rattle.wgsl_print_laws.specs.Tokens.{mark}
use Rattle.wgsl_print_laws.specs.Printable.{AreSpelled}
use Rattle.wgsl_print_laws.proofs.Expressions.{are_front, are_behind}
use Rattle.wgsl_print_laws.specs.Statements.{StmTokens, StmsTokens, no_statements, statements_and}
use Rattle.wgsl_grammar_tables.specs.Grammars.{phrase}
use Rattle.wgsl_semantic_values.specs.declared.part.Part.{Part}
use Rattle.wgsl_semantic_values.specs.declared.part.Part.TheVariants as part
use Rattle.wgsl_semantic_values.specs.declared.label.Label.TheVariants as l
use Rattle.wgsl_parser.specs.Phrase.{Phrase}
use Rattle.wgsl_semantic_values.specs.Lists as lists
use Rattle.wgsl_read_back.proofs.Views.{View, Stands, a_statement, some_statements}
use Rattle.wgsl_read_back.proofs.Views as v
use Rattle.wgsl_read_back.proofs.Items.{places_append, split_two, moved}
use Rattle.wgsl_read_back.proofs.Rows.{Makes, make_of, Rebuild}
use Rattle.wgsl_read_back.proofs.Pieces.{StandAll, end, a_part, some_lines, Lined, Made, made_as, made_of_parts, pieces_lined, of_one_part, of_two_parts, again_one, again_two}
use Rattle.wgsl_read_back.proofs.Blocks.{StatementRead, a_stated, a_void, IsVoidStatement, StatementsRead, some_stated, all_void}

-- ---- one more behind some

abbrev pub with_last : Stms → Stm → Stms
with_last nil s = cons s nil
with_last (cons x xs) s = cons x (with_last xs s)

abbrev with_maybe : Stms → Option Stm → Stms
with_maybe xs None = xs
with_maybe xs (Some s) = with_last xs s

maybe_cons : (x : Stm) (xs : Stms) (o : Option Stm) → cons x (with_maybe xs o) ≡ with_maybe (cons x xs) o
maybe_cons x xs None = refl
maybe_cons x xs (Some s) = refl

stms_last : (os : List (Option Stm)) (o : Option Stm) → stms (os ++ (o ∷ [])) ≡ with_maybe (stms os) o
stms_last [] None = refl
stms_last [] (Some s) = refl
stms_last (None ∷ os) o = stms_last os o
stms_last (Some x ∷ os) o = ap (λ z. cons x z) (stms_last os o) ∙ maybe_cons x (stms os) o

trees_last : (ys : List (Spanned Statement)) (y : Spanned Statement) → map (λ n. statement_tree n.node) (ys ++ (y ∷ [])) ≡ map (λ n. statement_tree n.node) ys ++ (statement_tree y.node ∷ [])
trees_last [] y = refl
trees_last (z ∷ ys) y = ap (λ t. statement_tree z.node ∷ t) (trees_last ys y)

tree_last : (ys : List (Spanned Statement)) (y : Spanned Statement) → statements_tree (ys ++ (y ∷ [])) ≡ with_maybe (statements_tree ys) (statement_tree y.node)
tree_last ys y = ap stms (trees_last ys y) ∙ stms_last (map (λ n. statement_tree n.node) ys) (statement_tree y.node)

tokens_last : {ss : Stms} {ts : List TemplateToken} (s : Stm) (us : List TemplateToken) → StmsTokens ss ts → StmTokens s us → StmsTokens (with_last ss s) (ts ++ us)
tokens_last s us no_statements h = subst (StmsTokens (cons s nil)) (append-nil us) (statements_and h no_statements)
tokens_last s us (statements_and {s = x} {ss = xs} {ts = ts} {us = vs} g gs) h = subst (StmsTokens (cons x (with_last xs s))) (sym (append_assoc ts vs us)) (statements_and g (tokens_last s us gs h))

-- ---- what is made of parts

first_made : (s : Stm) (ts us : List TemplateToken) (p : Part) → Stands p (v.statement s us) → Made l.First (p ∷ []) (v.statements (cons s nil) ts)
first_made s ts us p (a_statement y is tree) = made_as l.First (p ∷ []) (v.statements (cons s nil) ts) (λ z. part.Statements (y ∷ [])) (λ z i. lists.started (is i)) (λ z. some_statements (y ∷ []) refl (λ i. stms (tree i ∷ []))) (λ z. refl) refl

more_made : (ss : Stms) (o : Option Stm) (ts us : List TemplateToken) (p q : Part) → Stands p (v.statements ss ts) → (ys : List (Spanned Statement)) → p ≡ part.Statements ys → statements_tree ys ≡ ss → (y : Spanned Statement) → q ≡ part.Statement y → statement_tree y.node ≡ o
    → Made l.More (p ∷ q ∷ []) (v.statements (with_maybe ss o) us)
more_made ss o ts us p q h ys is trees y at tree =
    made_as l.More (p ∷ q ∷ []) (v.statements (with_maybe ss o) us) (λ z. part.Statements (ys ++ (y ∷ []))) (λ z i. lists.joined (is i) (at i)) (λ z. some_statements (ys ++ (y ∷ [])) refl (tree_last ys y ∙ (λ i. with_maybe (trees i) (tree i)))) (λ z. refl) refl

-- a row holds statements, which some phrase is made of
record RowHolds (p : Part) (ss : Stms) : Type 0 where
  nodes : List (Spanned Statement)
  is : p ≡ part.Statements nodes
  trees : statements_tree nodes ≡ ss

holds : (p : Part) (s : Stm) (ss : Stms) (ts : List TemplateToken) → Stands p (v.statements (cons s ss) ts) → RowHolds p (cons s ss)
holds p s ss ts (some_statements ys is trees) = record { nodes = ys; is = is; trees = trees }

-- ---- a `;` alone

void_gone : (u : List SpannedTemplateToken) → without_places u ≡ mark f.Semicolon ∷ [] → (o : List Bool) (ts us : List TemplateToken) → AreAlike outside o ts us → AreAlike outside o (without_places u ++ ts) us
void_gone u e o ts us a = moved (ap (λ z. z ++ ts) (sym e)) refl (first_outside (mark f.Semicolon) refl a)

first_void : (p : Part) → IsVoidStatement p → Made l.First (p ∷ []) (v.statements nil [])
first_void p h = made_as l.First (p ∷ []) (v.statements nil []) (λ z. part.Statements (h.0 ∷ [])) (λ z i. lists.started (h.1 i)) (λ z. some_statements (h.0 ∷ []) refl (λ i. stms (h.2 i ∷ []))) (λ z. refl) refl

-- some of them in a row are there
not_absent : (ys : List (Spanned Statement)) (p : Part) → p ≡ part.Statements ys → p ≡ part.Absent → ⊥
not_absent ys p e h = let wrong : part.Statements ys ≡ part.Absent = sym e ∙ h in cc

voids : (p : Part) → Stands p (v.statements nil []) → (p ≡ part.Absent → ⊥) → (ys : List (Spanned Statement)) × (p ≡ part.Statements ys) × (statements_tree ys ≡ nil)
voids p (some_statements ys is trees) there = (ys, is, trees)
voids p (v.no_statements is) there = absurd (there is)

behind_voids : (k : Stm) (us vs : List TemplateToken) (p q : Part) (ys : List (Spanned Statement)) → p ≡ part.Statements ys → statements_tree ys ≡ nil → Stands p (v.statements nil []) → Stands q (v.statement k us) → Made l.More (p ∷ q ∷ []) (v.statements (cons k nil) vs)
behind_voids k us vs p q ys is trees h (a_statement z at tree) = more_made nil (Some k) [] vs p q h ys is trees z at tree

-- tokens of two phrases, the second of which vanishes, or the first
skip_behind : (u w : List SpannedTemplateToken) (ts : List TemplateToken) → without_places u ++ (without_places (w ++ []) ++ ts) ≡ without_places (u ++ (w ++ [])) ++ ts
skip_behind u w ts = sym (append_assoc (without_places u) (without_places (w ++ [])) ts) ∙ ap (λ z. z ++ ts) (sym (places_append u (w ++ [])))

no_rest : (w : List SpannedTemplateToken) → without_places (w ++ []) ≡ without_places w
no_rest w = ap without_places (append-nil w)

-- ---- rows

module _ (n m : ℕ) (first : Rebuild n (phrase m ∷ []) l.First (2 ∷ [])) where
  first_makes : (s : Stm) (ts us : List TemplateToken) (qs : List Part) → StandAll qs (v.statement s us ∷ []) → Made l.First qs (v.statements (cons s nil) ts)
  first_makes s ts us = of_one_part (λ qs. Made l.First qs (v.statements (cons s nil) ts)) (first_made s ts us)

  pub first_statement : {u : List SpannedTemplateToken} {x : Phrase Part} → StatementRead m u x → StatementsRead n (u ++ []) (make_of l.First (2 ∷ []) (x ∷ []))
  first_statement (a_stated {s = s} {ts = ts} h b) =
      some_stated (statements_and h no_statements)
      (pieces_lined n (phrase m ∷ []) (2 ∷ []) (phrase m) [] (2 ∷ []) l.First first first (v.statements (cons s nil) (ts ++ [])) (a_part b end) refl (first_makes s (ts ++ []) ts) (λ o. tt) (λ o. refl) (λ o. b.ended outside o))
  first_statement {u = u} {x = x} (a_void y is tree pass tokens again) =
      let made : Makes (v.statements nil []) (make_of l.First (2 ∷ []) (x ∷ [])) = made_of_parts l.First (2 ∷ []) x [] (v.statements nil []) (first_void x.part (y, is, tree)) (pass, tt) in
      all_void (y ∷ []) (ap lists.started is) (λ i. stms (tree i ∷ [])) (record {
        stands = made.stands;
        absent = v.no_statements refl;
        passes = made.passes;
        likewise = λ k e. let a = again k (e ∙ no_rest u) in record {
          again = again_one n m l.First first (v.statements nil []) k a.value a.derives a.passes (first_void a.value.part a.is);
          there = not_absent (a.is.0 ∷ []) (make_of l.First (2 ∷ []) (a.value ∷ [])).part (ap lists.started a.is.1);
        };
        cont = λ o ts us a. moved (ap (λ z. z ++ ts) (sym (no_rest u))) refl (void_gone u tokens o ts us a);
      })

  pub more_statements : Rebuild n (phrase n ∷ phrase m ∷ []) l.More (2 ∷ 2 ∷ []) → {u w : List SpannedTemplateToken} {x y : Phrase Part} → StatementsRead n u x → StatementRead m w y → StatementsRead n (u ++ (w ++ [])) (make_of l.More (2 ∷ 2 ∷ []) (x ∷ y ∷ []))
  more_statements more {x = x} {y = y} (some_stated {s = s} {ss = ss} {ts = ts} h r) (a_stated {s = k} {ts = us} g b) =
      some_stated (tokens_last k us h g)
      (pieces_lined n (phrase n ∷ phrase m ∷ []) (2 ∷ 2 ∷ []) (phrase n) (phrase m ∷ []) (2 ∷ 2 ∷ []) l.More more more (v.statements (cons s (with_last ss k)) (ts ++ us)) (some_lines r (a_part b end)) (ap (λ z. ts ++ z) (append-nil us)) makes
      (λ o. (refl, tt)) (λ o. refl) (λ o. b.ended outside o))
    where
      makes : (qs : List Part) → StandAll qs (v.statements (cons s ss) ts ∷ v.statement k us ∷ []) → Made l.More qs (v.statements (cons s (with_last ss k)) (ts ++ us))
      makes = of_two_parts (λ qs. Made l.More qs (v.statements (cons s (with_last ss k)) (ts ++ us))) go
        where
          go : (p q : Part) → Stands p (v.statements (cons s ss) ts) → Stands q (v.statement k us) → Made l.More (p ∷ q ∷ []) (v.statements (cons s (with_last ss k)) (ts ++ us))
          go p q i (a_statement z at tree) = let e = holds p s ss ts i in more_made (cons s ss) (Some k) ts (ts ++ us) p q i e.nodes e.is e.trees z at tree
  more_statements more {u = u} {w = w} {x = x} {y = y} (some_stated {s = s} {ss = ss} {ts = ts} h r) (a_void z is tree pass tokens again) =
      let e = holds x.part s ss ts r.stands in
      let made : Makes (v.statements (cons s ss) ts) (make_of l.More (2 ∷ 2 ∷ []) (x ∷ y ∷ [])) =
      made_of_parts l.More (2 ∷ 2 ∷ []) x (y ∷ []) (v.statements (cons s ss) ts) (more_made (cons s ss) None ts ts x.part y.part r.stands e.nodes e.is e.trees z is tree) (r.passes, (pass, tt)) in
      some_stated h (record {
        stands = made.stands;
        passes = made.passes;
        again = r.again;
        likewise = λ k e.
            let q = split_two u w k e in
            let a = r.likewise q.front q.front_is in
            let b = again q.rest q.rest_is in
            let held = holds a.value.part s ss ts a.stands in
            again_two n n m l.More more (v.statements (cons s ss) ts) q.front q.rest k q.whole a.value b.value a.derives b.derives a.passes b.passes
            (more_made (cons s ss) None ts ts a.value.part b.value.part a.stands held.nodes held.is held.trees b.is.0 b.is.1 b.is.2);
        spelled = λ k. r.spelled (are_front (without_places u) (without_places (w ++ [])) (subst AreSpelled (places_append u (w ++ [])) k));
        cont = λ o xs us a. moved (ap (λ z. without_places u ++ (z ++ xs)) (sym (no_rest w)) ∙ skip_behind u w xs) refl (r.cont o (without_places w ++ xs) us (void_gone w tokens o xs us a));
      })
  more_statements more {u = u} {w = w} {x = x} {y = y} (all_void ys is trees r) (a_stated {s = k} {ts = us} g b) = some_stated (statements_and g no_statements) (lined b.item.stands)
    where
      view : View
      view = v.statements (cons k nil) (us ++ [])

      lined : Stands y.part (v.statement k us) → Lined n view (u ++ (w ++ [])) (make_of l.More (2 ∷ 2 ∷ []) (x ∷ y ∷ []))
      lined (a_statement z at tree) =
          let made : Makes view (make_of l.More (2 ∷ 2 ∷ []) (x ∷ y ∷ [])) =
          made_of_parts l.More (2 ∷ 2 ∷ []) x (y ∷ []) view (more_made nil (Some k) [] (us ++ []) x.part y.part r.stands ys is trees z at tree) (r.passes, (b.item.passes, tt)) in
          let alone = pieces_lined n (phrase m ∷ []) (2 ∷ []) (phrase m) [] (2 ∷ []) l.First first first view (a_part b end) refl (first_makes k (us ++ []) us) (λ o. tt) (λ o. refl) (λ o. b.ended outside o) in record {
            stands = made.stands;
            passes = made.passes;
            again = alone.again;
            likewise = λ j e.
                let q = split_two u w j e in
                let a = r.likewise q.front q.front_is in
                let c = b.item.likewise q.rest q.rest_is in
                let held = voids a.again.value.part a.again.stands a.there in
                again_two n n m l.More more view q.front q.rest j q.whole a.again.value c.value a.again.derives c.derives a.again.passes c.passes
                (behind_voids k us (us ++ []) a.again.value.part c.value.part held.0 held.1 held.2 a.again.stands c.stands);
            spelled = λ h. alone.spelled (are_behind (without_places u) (without_places (w ++ [])) (subst AreSpelled (places_append u (w ++ [])) h));
            cont = λ o xs vs a. moved (skip_behind u w xs) refl (r.cont o (without_places (w ++ []) ++ xs) ((us ++ []) ++ vs) (alone.cont o xs vs a));
          }
  more_statements more {u = u} {w = w} {x = x} {y = y} (all_void ys at trees r) (a_void z is tree pass tokens again) =
      let made : Makes (v.statements nil []) (make_of l.More (2 ∷ 2 ∷ []) (x ∷ y ∷ [])) =
      made_of_parts l.More (2 ∷ 2 ∷ []) x (y ∷ []) (v.statements nil []) (more_made nil None [] [] x.part y.part r.stands ys at trees z is tree) (r.passes, (pass, tt)) in
      all_void (ys ++ (z ∷ [])) (λ i. lists.joined (at i) (is i)) (tree_last ys z ∙ (λ i. with_maybe (trees i) (tree i))) (record {
        stands = made.stands;
        absent = v.no_statements refl;
        passes = made.passes;
        likewise = λ k e.
            let q = split_two u w k e in
            let a = r.likewise q.front q.front_is in
            let b = again q.rest q.rest_is in
            let held = voids a.again.value.part a.again.stands a.there in record {
              again = again_two n n m l.More more (v.statements nil []) q.front q.rest k q.whole a.again.value b.value a.again.derives b.derives a.again.passes b.passes
                  (more_made nil None [] [] a.again.value.part b.value.part a.again.stands held.0 held.1 held.2 b.is.0 b.is.1 b.is.2);
              there = not_absent (held.0 ++ (b.is.0 ∷ [])) (make_of l.More (2 ∷ 2 ∷ []) (a.again.value ∷ b.value ∷ [])).part (λ i. lists.joined (held.1 i) (b.is.1 i));
            };
        cont = λ o xs us a. moved (ap (λ z. without_places u ++ (z ++ xs)) (sym (no_rest w)) ∙ skip_behind u w xs) refl (r.cont o (without_places w ++ xs) us (void_gone w tokens o xs us a));
      })
