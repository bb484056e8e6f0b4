-- Lists with commas between, of anything: what is more than one, and that one that may end in a comma is what stands before the comma.
use Rattle.std.proofs.Common.{◌≡◌, refl, sym, ap, ◌∙◌, subst, ℕ, Bool, List, [], ◌∷◌, ◌++◌, append_assoc, append-nil}
use Rattle.wgsl_token.specs.declared.token.Fixed.TheVariants as f
use Rattle.wgsl_templates.specs.declared.meaning.token.TemplateToken.{TemplateToken}
use Rattle.wgsl_templates.specs.declared.meaning.token.SpannedTemplateToken.{SpannedTemplateToken}
use Rattle.wgsl_templates.specs.Kinds.{kind}
use Rattle.wgsl_print_laws.specs.Laws.{without_places}
use Rattle.wgsl_print_laws.specs.OptionalMarks.{Before, before, groups, comma, AreAlike, same, first_extra}
use Rattle.wgsl_print_laws.specs.Printable.{AreSpelled}
use Rattle.wgsl_print_laws.proofs.Expressions.{are_front}
use Rattle.wgsl_grammar_tables.specs.Grammars.{token, phrase}
use Rattle.wgsl_semantic_values.specs.declared.part.Part.{Part}
use Rattle.wgsl_semantic_values.specs.declared.label.Label.TheVariants as l
use Rattle.wgsl_parser.specs.Phrase.{Phrase}
use Rattle.wgsl_grammar_tables.specs.Classes.{fixed_class}
use Rattle.wgsl_read_back.proofs.Views.{View, view_tokens, Stands, ends_as}
use Rattle.wgsl_read_back.proofs.Items.{Again, Back, ListBack, CutList, OneToken, places_append, moved, MayEnd, comma_gone}
use Rattle.wgsl_read_back.proofs.Rows.{Makes, make_of, makes_of, Rebuild}
use Rattle.wgsl_read_back.proofs.Pieces.{end, a_mark, a_part, Made, made_as, likewise_of, pieces_back, of_one_part, of_two_parts}
use Rattle.wgsl_read_back.proofs.Families.{mark_item, mark_tokens, passed, pass_back}

-- ---- one more behind some and a comma

pub separated_back : (n m : ℕ) → Rebuild n (phrase n ∷ token (fixed_class f.Comma) ∷ phrase m ∷ []) l.More (2 ∷ 1 ∷ 2 ∷ []) → {v w : View} (z : View) {a b c : List SpannedTemplateToken} {x k y : Phrase Part} → Back n v a x → OneToken (fixed_class f.Comma) b k → (h : Back m w c y)
    → view_tokens v ++ (comma ∷ (view_tokens w ++ [])) ≡ view_tokens z → ((p q : Part) → Stands p v → Stands q w → Made l.More (p ∷ q ∷ []) z) → ((d : Before) (o : List Bool) → ends_as z (h.item.steps d o).last)
    → Back n z (a ++ (b ++ (c ++ []))) (make_of l.More (2 ∷ 1 ∷ 2 ∷ []) (x ∷ k ∷ y ∷ []))
separated_back n m rebuild z {b = b} {k = k} g i h tokens makes ended =
    pieces_back n (phrase n ∷ token (fixed_class f.Comma) ∷ phrase m ∷ []) (2 ∷ 1 ∷ 2 ∷ []) (phrase n) (token (fixed_class f.Comma) ∷ phrase m ∷ []) (2 ∷ 1 ∷ 2 ∷ []) l.More rebuild rebuild z (a_part g (a_mark (mark_item f.Comma b k i) (a_part h end))) tokens
    (of_two_parts (λ qs. Made l.More qs z) makes) (λ d o. tt) (λ d o. refl) (λ d o. ended _ _)

-- ---- a list that may end in a comma

pub list_without : (n m : ℕ) (v : View) → Rebuild n (phrase m ∷ []) l.Pass (2 ∷ []) → {u : List SpannedTemplateToken} {x : Phrase Part} → Back m v u x → ListBack n v (u ++ []) (make_of l.Pass (2 ∷ []) (x ∷ []))
list_without n m v rebuild g =
    let b = pass_back n m v rebuild g in record {
      stands = b.item.stands;
      passes = b.item.passes;
      again = b.item.again;
      likewise = b.item.likewise;
      spelled = b.item.spelled;
      ending = λ d o. let q = b.item.steps d o in record {
        last = q.last;
        cont = λ t ts us s may a. let P : List Bool → Type 0 = λ z. AreAlike (before t) (groups q.last z (kind t)) ts us in q.cont (t ∷ ts) (t ∷ us) (same t (subst P (sym (b.level d o)) a));
      };
      ended = b.ended;
    }

-- the tokens of a list behind which stands a comma
one_comma : (b : List SpannedTemplateToken) {y : Phrase Part} → OneToken (fixed_class f.Comma) b y → without_places (b ++ []) ≡ comma ∷ []
one_comma b k = places_append b [] ∙ append-nil (without_places b) ∙ mark_tokens f.Comma k

comma_behind : (a b : List SpannedTemplateToken) {y : Phrase Part} → OneToken (fixed_class f.Comma) b y → (ts : List TemplateToken) → without_places a ++ (comma ∷ ts) ≡ without_places (a ++ (b ++ [])) ++ ts
comma_behind a b k ts = sym (ap (λ z. z ++ ts) (places_append a (b ++ []) ∙ ap (λ z. without_places a ++ z) (one_comma b k)) ∙ append_assoc (without_places a) (comma ∷ []) ts)

-- the comma says nothing
comma_made : (v : View) {m : ℕ} {a b : List SpannedTemplateToken} {x y : Phrase Part} → Back m v a x → OneToken (fixed_class f.Comma) b y → Makes v (make_of l.Pass (2 ∷ 1 ∷ []) (x ∷ y ∷ []))
comma_made v {x = x} {y = y} g k = makes_of l.Pass (2 ∷ 1 ∷ []) x (y ∷ []) v (λ z. x.part) (λ z. refl) (λ z. g.item.stands) (λ ps. refl) (λ z. passed g.item.stands) (g.item.passes, (ap (λ z. z.failure) (sym k.value), tt))

-- and where one was read, one is read again
with_comma : (n m : ℕ) (v : View) → Rebuild n (phrase m ∷ token (fixed_class f.Comma) ∷ []) l.Pass (2 ∷ 1 ∷ []) → {a b : List SpannedTemplateToken} {x y : Phrase Part} → Back m v a x → OneToken (fixed_class f.Comma) b y
    → (w : List SpannedTemplateToken) → without_places w ≡ without_places (a ++ (b ++ [])) → Again (phrase n) v w
with_comma n m v read {b = b} {y = y} g k =
    likewise_of n (phrase m ∷ token (fixed_class f.Comma) ∷ []) (2 ∷ 1 ∷ []) l.Pass read v (a_part g (a_mark (mark_item f.Comma b y k) end))
    (of_one_part (λ qs. Made l.Pass qs v) (λ p h. made_as l.Pass (p ∷ []) v (λ z. p) (λ z. refl) (λ z. h) (λ z. passed h) refl))

pub list_with : (n m : ℕ) (v : View) → Rebuild n (phrase m ∷ token (fixed_class f.Comma) ∷ []) l.Pass (2 ∷ 1 ∷ []) → Rebuild n (phrase m ∷ []) l.Pass (2 ∷ []) → {a b : List SpannedTemplateToken} {x y : Phrase Part} → Back m v a x → OneToken (fixed_class f.Comma) b y
    → ListBack n v (a ++ (b ++ [])) (make_of l.Pass (2 ∷ 1 ∷ []) (x ∷ y ∷ []))
list_with n m v read rebuild {a = a} {b = b} {x = x} {y = y} g k =
    let bare = pass_back n m v rebuild g in
    let made = comma_made v g k in record {
      stands = made.stands;
      passes = made.passes;
      again = bare.item.again;
      likewise = with_comma n m v read g k;
      spelled = λ h. g.item.spelled (are_front (without_places a) (without_places (b ++ [])) (subst AreSpelled (places_append a (b ++ [])) h));
      ending = λ d o. let q = g.item.steps d o in record {
        last = q.last;
        cont = λ t ts us s may h.
            let P : List Bool → Type 0 = λ z. AreAlike (before t) (groups q.last z (kind t)) ts us in
            let Q : List Bool → Type 0 = λ z. MayEnd s q.last z in
            moved (comma_behind a b k (t ∷ ts)) refl (q.cont (comma ∷ t ∷ ts) (t ∷ us) (comma_gone q.last q.opened t ts us s (subst Q (sym (g.level d o)) may) (subst P (sym (g.level d o)) h)));
      };
      ended = g.ended;
    }

-- ---- lists before what stands in no expression

abbrev level_cont : {n : ℕ} {v : View} {u : List SpannedTemplateToken} {x : Phrase Part} (h : Back n v u x) (b : Before) (o : List Bool) (ts us : List TemplateToken) → AreAlike (h.item.steps b o).last o ts us → AreAlike b o (without_places u ++ ts) (view_tokens v ++ us)
level_cont h b o ts us a = let P : List Bool → Type 0 = λ z. AreAlike (h.item.steps b o).last z ts us in (h.item.steps b o).cont ts us (subst P (sym (h.level b o)) a)

pub cut_without : (n m : ℕ) (v : View) → Rebuild n (phrase m ∷ []) l.Pass (2 ∷ []) → {u : List SpannedTemplateToken} {x : Phrase Part} → Back m v u x → CutList n v (u ++ []) (make_of l.Pass (2 ∷ []) (x ∷ []))
cut_without n m v rebuild g =
    let b = pass_back n m v rebuild g in
    record { stands = b.item.stands; passes = b.item.passes; again = b.item.again; likewise = b.item.likewise; spelled = b.item.spelled; last = λ d o. (b.item.steps d o).last; cont = λ d o ts us e h a. level_cont b d o ts us a }

pub cut_with : (n m : ℕ) (v : View) → Rebuild n (phrase m ∷ token (fixed_class f.Comma) ∷ []) l.Pass (2 ∷ 1 ∷ []) → Rebuild n (phrase m ∷ []) l.Pass (2 ∷ []) → {a b : List SpannedTemplateToken} {x y : Phrase Part} → Back m v a x → OneToken (fixed_class f.Comma) b y
    → CutList n v (a ++ (b ++ [])) (make_of l.Pass (2 ∷ 1 ∷ []) (x ∷ y ∷ []))
cut_with n m v read rebuild {a = a} {b = b} {x = x} {y = y} g k =
    let bare = pass_back n m v rebuild g in
    let made = comma_made v g k in record {
      stands = made.stands;
      passes = made.passes;
      again = bare.item.again;
      likewise = with_comma n m v read g k;
      spelled = λ h. g.item.spelled (are_front (without_places a) (without_places (b ++ [])) (subst AreSpelled (places_append a (b ++ [])) h));
      last = λ d o. (g.item.steps d o).last;
      cont = λ d o ts us e h z. moved (comma_behind a b k ts) refl (level_cont g d o (comma ∷ ts) us (first_extra comma refl h z));
    }
