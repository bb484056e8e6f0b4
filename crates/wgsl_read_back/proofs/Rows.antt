-- A row and what stands there, and what a production makes of it.
use Rattle.std.proofs.Common.{◌≡◌, refl, sym, ap, ◌∙◌, subst, ℕ, Bool, List, [], ◌∷◌, ◌++◌, append_assoc, Option, Some, None}
use Rattle.wgsl_path.specs.declared.span.Span.{Span}
use Rattle.wgsl_templates.specs.declared.meaning.token.TemplateToken.{TemplateToken}
use Rattle.wgsl_templates.specs.declared.meaning.token.SpannedTemplateToken.{SpannedTemplateToken}
use Rattle.wgsl_print_laws.specs.Laws.{without_places}
use Rattle.wgsl_print_laws.specs.OptionalMarks.{Before, before, groups}
use Rattle.wgsl_templates.specs.Kinds.{kind}
use Rattle.wgsl_print_laws.specs.Printable.{AreSpelled}
use Rattle.wgsl_print_laws.proofs.Expressions.{are_front, are_behind, are_both}
use Rattle.wgsl_grammar_tables.specs.Grammars.{Symbol, phrase, Derives, Row, done, next}
use Rattle.wgsl_semantic_values.specs.declared.part.Part.{Part}
use Rattle.wgsl_semantic_values.specs.declared.part.Part.TheVariants.{Absent}
use Rattle.wgsl_semantic_values.specs.declared.label.Label.{Label}
use Rattle.wgsl_parser.specs.Phrase.{Phrase}
use Rattle.wgsl_parser.specs.Check.{Check}
use Rattle.wgsl_parser.specs.Failure.{Failure}
use Rattle.wgsl_parser.specs.Extent.{Extent}
use Rattle.wgsl_parser.specs.Gathering.{either, joined, extent_of, extent_from, chosen}
use Rattle.wgsl_parser.specs.Making as making
use Rattle.wgsl_parser.specs.Phrases.{grammar, made}
use Rattle.wgsl_parser.specs.Failures.{failure_at, first_check, severity_failed, made_failed, failure_in}
use Rattle.wgsl_read_back.proofs.Views.{View, token, view_tokens, Stands, ends_as}
use Rattle.wgsl_read_back.proofs.Items.{places_append, split, Cont, Steps, moved, cont_then, cont_as, Again, Item, Shuts, MayEnd, Ending, ListBack, Back}

abbrev pub concat : List View → List TemplateToken
concat [] = []
concat (v ∷ vs) = view_tokens v ++ concat vs

pub data RowBack : List Symbol → List View → List SpannedTemplateToken → List (Phrase Part) → Type 0 where
  nil : RowBack [] [] [] []
  more : {s : Symbol} {ss : List Symbol} {v : View} {vs : List View} {u w : List SpannedTemplateToken} {x : Phrase Part} {xs : List (Phrase Part)} → Item s v u x → RowBack ss vs w xs
      → RowBack (s ∷ ss) (v ∷ vs) (u ++ w) (x ∷ xs)
  list_more : {n : ℕ} {s : Symbol} {ss : List Symbol} {v : View} {t : TemplateToken} {vs : List View} {u k w : List SpannedTemplateToken} {x y : Phrase Part} {xs : List (Phrase Part)} → ListBack n v u x → Item s (token t) k y
      → without_places k ≡ t ∷ [] → Shuts t → RowBack ss vs w xs → RowBack (phrase n ∷ s ∷ ss) (v ∷ token t ∷ vs) (u ++ (k ++ w)) (x ∷ y ∷ xs)

pub data RowAgain : List Symbol → List View → List SpannedTemplateToken → List (Phrase Part) → Type 0 where
  nil_again : RowAgain [] [] [] []
  more_again : {s : Symbol} {ss : List Symbol} {v : View} {vs : List View} {u w : List SpannedTemplateToken} {xs : List (Phrase Part)} → (a : Again s v u) → RowAgain ss vs w xs
      → RowAgain (s ∷ ss) (v ∷ vs) (u ++ w) (a.value ∷ xs)

pub row_of : {ss : List Symbol} {vs : List View} {w : List SpannedTemplateToken} {ys : List (Phrase Part)} → RowAgain ss vs w ys → Row grammar ss w ys
row_of nil_again = done
row_of (more_again a r) = next a.derives (row_of r)

pub record RowFound (ss : List Symbol) (vs : List View) (w : List SpannedTemplateToken) : Type 0 where
  pub values : List (Phrase Part)
  pub row : RowAgain ss vs w values

pub again_row : {ss : List Symbol} {vs : List View} {u : List SpannedTemplateToken} {xs : List (Phrase Part)} → RowBack ss vs u xs → (w : List SpannedTemplateToken) → without_places w ≡ concat vs → RowFound ss vs w
again_row nil [] e = record { values = []; row = nil_again }
again_row nil (k ∷ w) e = absurd cc
again_row (more {s = s} {ss = ss} {v = v} {vs = vs} i r) w e =
    let p = split w (view_tokens v) (concat vs) e in
    let a = i.again p.front p.front_is in
    let q = again_row r p.rest p.rest_is in
    let P : List SpannedTemplateToken → Type 0 = λ z. RowFound (s ∷ ss) (v ∷ vs) z in
    subst P p.whole (record { values = a.value ∷ q.values; row = more_again a q.row })
again_row (list_more {n = n} {s = s} {ss = ss} {v = v} {t = t} {vs = vs} l i e c r) w h =
    let p = split w (view_tokens v) (t ∷ concat vs) h in
    let a = l.again p.front p.front_is in
    let m = split p.rest (t ∷ []) (concat vs) p.rest_is in
    let b = i.again m.front m.front_is in
    let q = again_row r m.rest m.rest_is in
    let P : List SpannedTemplateToken → Type 0 = λ z. RowFound (phrase n ∷ s ∷ ss) (v ∷ token t ∷ vs) z in
    subst P (ap (λ z. p.front ++ z) m.whole ∙ p.whole) (record { values = a.value ∷ b.value ∷ q.values; row = more_again a (more_again b q.row) })

-- tokens that are those that were read are such a row, too
pub likewise_row : {ss : List Symbol} {vs : List View} {u : List SpannedTemplateToken} {xs : List (Phrase Part)} → RowBack ss vs u xs → (w : List SpannedTemplateToken) → without_places w ≡ without_places u → RowFound ss vs w
likewise_row nil [] e = record { values = []; row = nil_again }
likewise_row nil (k ∷ w) e = absurd cc
likewise_row (more {s = s} {ss = ss} {v = v} {vs = vs} {u = u} {w = b} i r) w e =
    let p = split w (without_places u) (without_places b) (e ∙ places_append u b) in
    let a = i.likewise p.front p.front_is in
    let q = likewise_row r p.rest p.rest_is in
    let P : List SpannedTemplateToken → Type 0 = λ z. RowFound (s ∷ ss) (v ∷ vs) z in
    subst P p.whole (record { values = a.value ∷ q.values; row = more_again a q.row })
likewise_row (list_more {n = n} {s = s} {ss = ss} {v = v} {t = t} {vs = vs} {u = u} {k = k} {w = b} l i e c r) w h =
    let p = split w (without_places u) (without_places (k ++ b)) (h ∙ places_append u (k ++ b)) in
    let a = l.likewise p.front p.front_is in
    let m = split p.rest (without_places k) (without_places b) (p.rest_is ∙ places_append k b) in
    let d = i.likewise m.front m.front_is in
    let q = likewise_row r m.rest m.rest_is in
    let P : List SpannedTemplateToken → Type 0 = λ z. RowFound (phrase n ∷ s ∷ ss) (v ∷ token t ∷ vs) z in
    subst P (ap (λ z. p.front ++ z) m.whole ∙ p.whole) (record { values = a.value ∷ d.value ∷ q.values; row = more_again a (more_again d q.row) })

pub spelled_row : {ss : List Symbol} {vs : List View} {u : List SpannedTemplateToken} {xs : List (Phrase Part)} → RowBack ss vs u xs → AreSpelled (without_places u) → AreSpelled (concat vs)
spelled_row nil h = tt
spelled_row (more {v = v} {vs = vs} {u = u} {w = w} i r) h =
    let all = subst AreSpelled (places_append u w) h in
    are_both (view_tokens v) (concat vs) (i.spelled (are_front (without_places u) (without_places w) all)) (spelled_row r (are_behind (without_places u) (without_places w) all))
spelled_row (list_more {v = v} {t = t} {vs = vs} {u = u} {k = k} {w = w} l i e c r) h =
    let all = subst AreSpelled (places_append u (k ++ w)) h in
    let behind = subst AreSpelled (places_append k w) (are_behind (without_places u) (without_places (k ++ w)) all) in
    are_both (view_tokens v) (t ∷ concat vs) (l.spelled (are_front (without_places u) (without_places (k ++ w)) all))
    (are_both (t ∷ []) (concat vs) (i.spelled (are_front (without_places k) (without_places w) behind)) (spelled_row r (are_behind (without_places k) (without_places w) behind)))

-- the tokens of a list and what closes it
pub closing : (b : Before) (o : List Bool) (u v : List TemplateToken) (t : TemplateToken) (x y : List TemplateToken) (d : Before) (q : List Bool) → (e : Ending b o u v) → (s : Shuts t) → MayEnd s e.last o
    → Cont (before t) (groups e.last o (kind t)) x y d q → Cont b o (u ++ (t ∷ x)) (v ++ (t ∷ y)) d q
closing b o u v t x y d q e s may f ts us a = moved (sym (append_assoc u (t ∷ x) ts)) (sym (append_assoc v (t ∷ y) us)) (e.cont t (x ++ ts) (y ++ us) s may (f ts us a))

-- each list stands where it may end in a comma
abbrev pub Fine : {ss : List Symbol} {vs : List View} {u : List SpannedTemplateToken} {xs : List (Phrase Part)} → RowBack ss vs u xs → Before → List Bool → Type 0
Fine nil b o = Unit {0}
Fine (more i r) b o = Fine r (i.steps b o).last (i.steps b o).opened
Fine (list_more {t = t} l i e c r) b o = MayEnd c (l.ending b o).last o × Fine r (before t) (groups (l.ending b o).last o (kind t))

abbrev pub steps_row : {ss : List Symbol} {vs : List View} {u : List SpannedTemplateToken} {xs : List (Phrase Part)} → (r : RowBack ss vs u xs) → (b : Before) (o : List Bool) → Fine r b o → Steps b o (without_places u) (concat vs)
steps_row nil b o fine = record { last = b; opened = o; cont = λ ts us a. a }
steps_row (more {v = v} {vs = vs} {u = u} {w = w} i r) b o fine =
    let p = i.steps b o in
    let q = steps_row r p.last p.opened fine in
    record {
      last = q.last;
      opened = q.opened;
      cont = cont_as b o (without_places u ++ without_places w) (view_tokens v ++ concat vs) (without_places (u ++ w)) (view_tokens v ++ concat vs) q.last q.opened (sym (places_append u w)) refl
          (cont_then b o (without_places u) (view_tokens v) p.last p.opened (without_places w) (concat vs) q.last q.opened p.cont q.cont);
    }
steps_row (list_more {v = v} {t = t} {vs = vs} {u = u} {k = k} {w = w} l i e c r) b o fine =
    let p = l.ending b o in
    let q = steps_row r (before t) (groups p.last o (kind t)) fine.1 in
    record {
      last = q.last;
      opened = q.opened;
      cont = cont_as b o (without_places u ++ (t ∷ without_places w)) (view_tokens v ++ (t ∷ concat vs)) (without_places (u ++ (k ++ w))) (view_tokens v ++ (t ∷ concat vs)) q.last q.opened
          (sym (places_append u (k ++ w) ∙ ap (λ z. without_places u ++ z) (places_append k w ∙ ap (λ z. z ++ without_places w) e))) refl
          (closing b o (without_places u) (view_tokens v) t (without_places w) (concat vs) q.last q.opened p c fine.0 q.cont);
    }

-- ---- what a production makes

-- the phrases stand for these, and no check fails in them
abbrev pub Stood : List (Phrase Part) → List View → Type 0
Stood [] [] = Unit {0}
Stood [] (v ∷ vs) = ⊥
Stood (y ∷ ys) [] = ⊥
Stood (y ∷ ys) (v ∷ vs) = (Stands y.part v × (y.failure ≡ None)) × Stood ys vs

pub stood_back : {ss : List Symbol} {vs : List View} {u : List SpannedTemplateToken} {xs : List (Phrase Part)} → RowBack ss vs u xs → Stood xs vs
stood_back nil = tt
stood_back (more i r) = ((i.stands, i.passes), stood_back r)
stood_back (list_more l i e c r) = ((l.stands, l.passes), ((i.stands, i.passes), stood_back r))

pub stood_again : {ss : List Symbol} {vs : List View} {u : List SpannedTemplateToken} {xs : List (Phrase Part)} → RowAgain ss vs u xs → Stood xs vs
stood_again nil_again = tt
stood_again (more_again a r) = ((a.stands, a.passes), stood_again r)

pub record Makes (v : View) (x : Phrase Part) : Type 0 where
  pub stands : Stands x.part v
  pub passes : x.failure ≡ None

-- by label and pattern
abbrev pub make_of : Label → List ℕ → List (Phrase Part) → Phrase Part
make_of label pattern xs = made label (extent_from None xs) (chosen Absent pattern xs)

abbrev pub AllPass : List (Phrase Part) → Type 0
AllPass [] = Unit {0}
AllPass (y ∷ ys) = (y.failure ≡ None) × AllPass ys

pub stood_pass : (ys : List (Phrase Part)) (vs : List View) → Stood ys vs → AllPass ys
stood_pass [] vs h = tt
stood_pass (y ∷ ys) [] h = absurd h
stood_pass (y ∷ ys) (v ∷ vs) h = (h.0.1, stood_pass ys vs h.1)

record Reaches (o : Option Extent) : Type 0 where
  extent : Extent
  is : o ≡ Some extent
  passes : extent.failure ≡ None

reaches : (e : Extent) (ys : List (Phrase Part)) → e.failure ≡ None → AllPass ys → Reaches (extent_from (Some e) ys)
reaches e [] h g = record { extent = e; is = refl; passes = h }
reaches e (y ∷ ys) h g = reaches (joined (Some e) y) ys (ap (λ z. either z y.failure) h ∙ g.0) g.1

pub makes_checked : (label : Label) (pattern : List ℕ) (y : Phrase Part) (ys : List (Phrase Part)) (v : View) (p : Span → Part) → ((s : Span) → making.make label s (chosen Absent pattern (y ∷ ys)) ≡ p s) → ((s : Span) → Stands (p s) v)
    → severity_failed label (chosen Absent pattern (y ∷ ys)) ≡ None → ((s : Span) → made_failed label (p s) ≡ None) → AllPass (y ∷ ys) → Makes v (make_of label pattern (y ∷ ys))
makes_checked label pattern y ys v p is stands severe failed pass =
    let r = reaches (extent_of y) ys pass.0 pass.1 in
    let P : Option Extent → Type 0 = λ o. Makes v (made label o (chosen Absent pattern (y ∷ ys))) in
    subst P (sym r.is) (record { stands = subst (λ z. Stands z v) (sym (is r.extent.span)) (stands r.extent.span); passes = passes r.extent r.passes })
  where
    passes : (e : Extent) → e.failure ≡ None → (made label (Some e) (chosen Absent pattern (y ∷ ys))).failure ≡ None
    passes e h =
        ap (λ z. either z (failure_in label (chosen Absent pattern (y ∷ ys)) (making.make label e.span (chosen Absent pattern (y ∷ ys))) e.last)) h
        ∙ ap (λ z. failure_at e.last (first_check z (made_failed label (making.make label e.span (chosen Absent pattern (y ∷ ys)))))) severe
        ∙ ap (λ z. failure_at e.last (made_failed label z)) (is e.span)
        ∙ ap (failure_at e.last) (failed e.span)

pub makes_of : (label : Label) (pattern : List ℕ) (y : Phrase Part) (ys : List (Phrase Part)) (v : View) (p : Span → Part) → ((s : Span) → making.make label s (chosen Absent pattern (y ∷ ys)) ≡ p s) → ((s : Span) → Stands (p s) v)
    → ((ps : List Part) → severity_failed label ps ≡ None) → ((s : Span) → made_failed label (p s) ≡ None) → AllPass (y ∷ ys) → Makes v (make_of label pattern (y ∷ ys))
makes_of label pattern y ys v p is stands severe failed pass = makes_checked label pattern y ys v p is stands (severe (chosen Absent pattern (y ∷ ys))) failed pass

-- Where no check fails in what is made of some phrases, none fails in them.

either_first : (f g : Option Failure) → either f g ≡ None → f ≡ None
either_first None g e = refl
either_first (Some x) g e = absurd cc

either_second : (f g : Option Failure) → either f g ≡ None → g ≡ None
either_second None g e = e
either_second (Some x) g e = absurd cc

record Passed (xs : List (Phrase Part)) (e : Extent) : Type 0 where
  first : e.failure ≡ None
  all : AllPass xs

extent_passes : (e : Extent) (xs : List (Phrase Part)) (to : Extent) → extent_from (Some e) xs ≡ Some to → to.failure ≡ None → Passed xs e
extent_passes e [] to is pass = let same : e ≡ to = cc in record { first = ap (λ (z : Extent). z.failure) same ∙ pass; all = tt }
extent_passes e (x ∷ xs) to is pass =
    let r = extent_passes (joined (Some e) x) xs to is pass in
    record { first = either_first e.failure x.failure r.first; all = (either_second e.failure x.failure r.first, r.all) }

never : (e : Extent) (xs : List (Phrase Part)) → extent_from (Some e) xs ≡ None → ⊥
never e [] is = absurd cc
never e (x ∷ xs) is = never (joined (Some e) x) xs is

-- nor is there a severity that is none
no_failure : (s : Span) (o : Option Check) → failure_at s o ≡ None → o ≡ None
no_failure s None e = refl
no_failure s (Some c) e = absurd cc

no_first : (o p : Option Check) → first_check o p ≡ None → o ≡ None
no_first None p e = refl
no_first (Some c) p e = absurd cc

pub made_severity_passes : (label : Label) (pattern : List ℕ) (x : Phrase Part) (xs : List (Phrase Part)) → (make_of label pattern (x ∷ xs)).failure ≡ None → severity_failed label (chosen Absent pattern (x ∷ xs)) ≡ None
made_severity_passes label pattern x xs h = go (extent_from (Some (extent_of x)) xs) refl
  where
    go : (o : Option Extent) → extent_from (Some (extent_of x)) xs ≡ o → severity_failed label (chosen Absent pattern (x ∷ xs)) ≡ None
    go None is = absurd (never (extent_of x) xs is)
    go (Some to) is =
        let whole : (made label (Some to) (chosen Absent pattern (x ∷ xs))).failure ≡ None = ap (λ o. (made label o (chosen Absent pattern (x ∷ xs))).failure) (sym is) ∙ h in
        let parts = chosen Absent pattern (x ∷ xs) in
        no_first (severity_failed label parts) (made_failed label (making.make label to.span parts)) (no_failure to.last (first_check (severity_failed label parts) (made_failed label (making.make label to.span parts)))
        (either_second to.failure (failure_in label parts (making.make label to.span parts) to.last) whole))

no_second : (o p : Option Check) → first_check o p ≡ None → p ≡ None
no_second None p e = e
no_second (Some c) p e = absurd cc

-- and no check fails of what is made
pub made_check_passes : (label : Label) (pattern : List ℕ) (x : Phrase Part) (xs : List (Phrase Part)) → (make_of label pattern (x ∷ xs)).failure ≡ None → (s : Span) × (made_failed label (making.make label s (chosen Absent pattern (x ∷ xs))) ≡ None)
made_check_passes label pattern x xs h = go (extent_from (Some (extent_of x)) xs) refl
  where
    go : (o : Option Extent) → extent_from (Some (extent_of x)) xs ≡ o → (s : Span) × (made_failed label (making.make label s (chosen Absent pattern (x ∷ xs))) ≡ None)
    go None is = absurd (never (extent_of x) xs is)
    go (Some to) is =
        let whole : (made label (Some to) (chosen Absent pattern (x ∷ xs))).failure ≡ None = ap (λ o. (made label o (chosen Absent pattern (x ∷ xs))).failure) (sym is) ∙ h in
        let parts = chosen Absent pattern (x ∷ xs) in (
          to.span,
          no_second (severity_failed label parts) (made_failed label (making.make label to.span parts)) (no_failure to.last (first_check (severity_failed label parts) (made_failed label (making.make label to.span parts)))
              (either_second to.failure (failure_in label parts (making.make label to.span parts) to.last) whole)),
        )

pub made_parts_pass : (label : Label) (pattern : List ℕ) (xs : List (Phrase Part)) → (make_of label pattern xs).failure ≡ None → AllPass xs
made_parts_pass label pattern [] h = tt
made_parts_pass label pattern (x ∷ xs) h = go (extent_from (Some (extent_of x)) xs) refl
  where
    go : (o : Option Extent) → extent_from (Some (extent_of x)) xs ≡ o → AllPass (x ∷ xs)
    go None is = absurd (never (extent_of x) xs is)
    go (Some to) is =
        let whole : (made label (Some to) (chosen Absent pattern (x ∷ xs))).failure ≡ None = ap (λ o. (made label o (chosen Absent pattern (x ∷ xs))).failure) (sym is) ∙ h in
        let r = extent_passes (extent_of x) xs to is (either_first to.failure (failure_in label (chosen Absent pattern (x ∷ xs)) (making.make label to.span (chosen Absent pattern (x ∷ xs))) to.last) whole) in
        (r.first, r.all)

-- a production by which phrases of a nonterminal are made of a row
abbrev pub Rebuild : ℕ → List Symbol → Label → List ℕ → Type 0
Rebuild n ss label pattern = (w : List SpannedTemplateToken) (ys : List (Phrase Part)) → Row grammar ss w ys → Derives grammar (phrase n) w (make_of label pattern ys)

module _ (n : ℕ) (ss : List Symbol) (label : Label) (pattern : List ℕ) (rebuild : Rebuild n ss label pattern) where
  -- what is made of a row that was found
  pub made_again : (vs : List View) (v : View) → ((ys : List (Phrase Part)) → Stood ys vs → Makes v (make_of label pattern ys)) → (w : List SpannedTemplateToken) → RowFound ss vs w → Again (phrase n) v w
  made_again vs v makes w q =
      let m = makes q.values (stood_again q.row) in
      record { value = make_of label pattern q.values; derives = rebuild w q.values (row_of q.row); stands = m.stands; passes = m.passes }

  pub back_of : {u : List SpannedTemplateToken} {xs : List (Phrase Part)} (vs : List View) (v : View) → concat vs ≡ view_tokens v → ((ys : List (Phrase Part)) → Stood ys vs → Makes v (make_of label pattern ys))
      → (r : RowBack ss vs u xs) → (fine : (b : Before) (o : List Bool) → Fine r b o) → ((b : Before) (o : List Bool) → (steps_row r b o (fine b o)).opened ≡ o) → ((b : Before) (o : List Bool) → ends_as v (steps_row r b o (fine b o)).last)
      → Back n v u (make_of label pattern xs)
  back_of {u = u} {xs = xs} vs v tokens makes r fine level ended =
      let one = makes xs (stood_back r) in record {
        item = record {
          stands = one.stands;
          passes = one.passes;
          again = λ w e. made_again vs v makes w (again_row r w (e ∙ sym tokens));
          likewise = λ w e. made_again vs v makes w (likewise_row r w e);
          spelled = λ h. subst AreSpelled tokens (spelled_row r h);
          steps = λ b o. let q = steps_row r b o (fine b o) in record {
            last = q.last;
            opened = q.opened;
            cont = cont_as b o (without_places u) (concat vs) (without_places u) (view_tokens v) q.last q.opened refl tokens q.cont;
          };
        };
        level = level;
        ended = ended;
      }

-- ---- rows of so many

pub of_one : {v : View} (P : List (Phrase Part) → Type 0) → ((a : Phrase Part) → Stood (a ∷ []) (v ∷ []) → P (a ∷ [])) → (ys : List (Phrase Part)) → Stood ys (v ∷ []) → P ys
of_one P f [] h = absurd h
of_one P f (a ∷ []) h = f a h
of_one P f (a ∷ b ∷ ys) h = absurd h.1

pub of_two : {v w : View} (P : List (Phrase Part) → Type 0) → ((a b : Phrase Part) → Stood (a ∷ b ∷ []) (v ∷ w ∷ []) → P (a ∷ b ∷ [])) → (ys : List (Phrase Part)) → Stood ys (v ∷ w ∷ []) → P ys
of_two P f [] h = absurd h
of_two P f (a ∷ []) h = absurd h.1
of_two P f (a ∷ b ∷ []) h = f a b h
of_two P f (a ∷ b ∷ c ∷ ys) h = absurd h.1.1

pub of_three : {v w x : View} (P : List (Phrase Part) → Type 0) → ((a b c : Phrase Part) → Stood (a ∷ b ∷ c ∷ []) (v ∷ w ∷ x ∷ []) → P (a ∷ b ∷ c ∷ [])) → (ys : List (Phrase Part)) → Stood ys (v ∷ w ∷ x ∷ []) → P ys
of_three P f [] h = absurd h
of_three P f (a ∷ []) h = absurd h.1
of_three P f (a ∷ b ∷ []) h = absurd h.1.1
of_three P f (a ∷ b ∷ c ∷ []) h = f a b c h
of_three P f (a ∷ b ∷ c ∷ d ∷ ys) h = absurd h.1.1.1

pub of_four : {v w x z : View} (P : List (Phrase Part) → Type 0) → ((a b c d : Phrase Part) → Stood (a ∷ b ∷ c ∷ d ∷ []) (v ∷ w ∷ x ∷ z ∷ []) → P (a ∷ b ∷ c ∷ d ∷ [])) → (ys : List (Phrase Part)) → Stood ys (v ∷ w ∷ x ∷ z ∷ []) → P ys
of_four P f [] h = absurd h
of_four P f (a ∷ []) h = absurd h.1
of_four P f (a ∷ b ∷ []) h = absurd h.1.1
of_four P f (a ∷ b ∷ c ∷ []) h = absurd h.1.1.1
of_four P f (a ∷ b ∷ c ∷ d ∷ []) h = f a b c d h
of_four P f (a ∷ b ∷ c ∷ d ∷ e ∷ ys) h = absurd h.1.1.1.1

pub of_five : {v w x z k : View} (P : List (Phrase Part) → Type 0) → ((a b c d e : Phrase Part) → Stood (a ∷ b ∷ c ∷ d ∷ e ∷ []) (v ∷ w ∷ x ∷ z ∷ k ∷ []) → P (a ∷ b ∷ c ∷ d ∷ e ∷ [])) → (ys : List (Phrase Part)) → Stood ys (v ∷ w ∷ x ∷ z ∷ k ∷ []) → P ys
of_five P f [] h = absurd h
of_five P f (a ∷ []) h = absurd h.1
of_five P f (a ∷ b ∷ []) h = absurd h.1.1
of_five P f (a ∷ b ∷ c ∷ []) h = absurd h.1.1.1
of_five P f (a ∷ b ∷ c ∷ d ∷ []) h = absurd h.1.1.1.1
of_five P f (a ∷ b ∷ c ∷ d ∷ e ∷ []) h = f a b c d e h
of_five P f (a ∷ b ∷ c ∷ d ∷ e ∷ g ∷ ys) h = absurd h.1.1.1.1.1

pub of_six : {v w x z k m : View} (P : List (Phrase Part) → Type 0) → ((a b c d e g : Phrase Part) → Stood (a ∷ b ∷ c ∷ d ∷ e ∷ g ∷ []) (v ∷ w ∷ x ∷ z ∷ k ∷ m ∷ []) → P (a ∷ b ∷ c ∷ d ∷ e ∷ g ∷ [])) → (ys : List (Phrase Part))
    → Stood ys (v ∷ w ∷ x ∷ z ∷ k ∷ m ∷ []) → P ys
of_six P f [] h = absurd h
of_six P f (a ∷ ys) h = of_five (λ zs. P (a ∷ zs)) (λ b c d e g i. f a b c d e g (h.0, i)) ys h.1

pub of_seven : {v w x z k m p : View} (P : List (Phrase Part) → Type 0) → ((a b c d e g h : Phrase Part) → Stood (a ∷ b ∷ c ∷ d ∷ e ∷ g ∷ h ∷ []) (v ∷ w ∷ x ∷ z ∷ k ∷ m ∷ p ∷ []) → P (a ∷ b ∷ c ∷ d ∷ e ∷ g ∷ h ∷ [])) → (ys : List (Phrase Part))
    → Stood ys (v ∷ w ∷ x ∷ z ∷ k ∷ m ∷ p ∷ []) → P ys
of_seven P f [] h = absurd h
of_seven P f (a ∷ ys) h = of_six (λ zs. P (a ∷ zs)) (λ b c d e g k i. f a b c d e g k (h.0, i)) ys h.1
