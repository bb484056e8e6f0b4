-- Rows in which pieces may be absent, vanish, or be added where they are printed: what a production makes is said of its parts alone,
-- whichever of them are there.
use Rattle.std.proofs.Common.{◌≡◌, refl, sym, ap, ◌∙◌, subst, ℕ, Bool, true, List, [], ◌∷◌, ◌++◌, append_assoc, append-nil, None}
use Rattle.wgsl_path.specs.declared.span.Span.{Span}
use Rattle.wgsl_templates.specs.declared.meaning.token.TemplateToken.{TemplateToken}
use Rattle.wgsl_templates.specs.declared.meaning.token.SpannedTemplateToken.{SpannedTemplateToken}
use Rattle.wgsl_templates.specs.Kinds.{kind}
use Rattle.wgsl_print_laws.specs.Laws.{without_places}
use Rattle.wgsl_print_laws.specs.OptionalMarks.{Before, outside, before, groups, may_go, may_go_outside, AreAlike, first_extra, second_extra, first_outside}
use Rattle.wgsl_print_laws.specs.Printable.{AreSpelled}
use Rattle.wgsl_print_laws.proofs.Expressions.{are_front, are_behind, are_both}
use Rattle.wgsl_grammar_tables.specs.Grammars.{Symbol, token, phrase, Derives, Row, done, next}
use Rattle.wgsl_semantic_values.specs.declared.part.Part.{Part}
use Rattle.wgsl_semantic_values.specs.declared.part.Part.TheVariants.{Absent}
use Rattle.wgsl_semantic_values.specs.declared.label.Label.{Label}
use Rattle.wgsl_semantic_values.specs.declared.label.Label.TheVariants as l
use Rattle.wgsl_parser.specs.Phrase.{Phrase}
use Rattle.wgsl_parser.specs.Gathering.{chosen}
use Rattle.wgsl_parser.specs.Making as making
use Rattle.wgsl_parser.specs.Phrases.{grammar}
use Rattle.wgsl_parser.specs.Failures.{severity_failed, made_failed}
use Rattle.wgsl_grammar_tables.specs.Classes.{class_of}
use Rattle.wgsl_read_back.proofs.Views.{View, view_tokens, Stands, ends_as}
use Rattle.wgsl_read_back.proofs.Views as view
use Rattle.wgsl_read_back.proofs.Items.{CutList, BeginsOutside, places_append, Split, split, Cont, Steps, moved, cont_then, cont_as, Again, Item, Shuts, MayEnd, ListBack, Back, token_again}
use Rattle.wgsl_read_back.proofs.Rows.{closing, Makes, make_of, makes_checked, AllPass, Rebuild}

-- ---- phrases that stand where no expression can go on

-- A phrase that begins behind what stands in no expression, and ends so.
pub record Lined (n : ℕ) (v : View) (u : List SpannedTemplateToken) (x : Phrase Part) : Type 0 where
  pub stands : Stands x.part v
  pub passes : x.failure ≡ None
  pub again : (w : List SpannedTemplateToken) → without_places w ≡ view_tokens v → Again (phrase n) v w
  pub likewise : (w : List SpannedTemplateToken) → without_places w ≡ without_places u → Again (phrase n) v w
  pub spelled : AreSpelled (without_places u) → AreSpelled (view_tokens v)
  pub cont : (o : List Bool) → Cont outside o (without_places u) (view_tokens v) outside o

-- A phrase that is there, though it stands for what an absent part stands for.
pub record Here (n : ℕ) (v : View) (w : List SpannedTemplateToken) : Type 0 where
  pub again : Again (phrase n) v w
  pub there : again.value.part ≡ Absent → ⊥

-- A phrase of which nothing is printed: it stands for what an absent part stands for.
pub record Vanished (n : ℕ) (v : View) (u : List SpannedTemplateToken) (x : Phrase Part) : Type 0 where
  pub stands : Stands x.part v
  pub absent : Stands Absent v
  pub passes : x.failure ≡ None
  pub likewise : (w : List SpannedTemplateToken) → without_places w ≡ without_places u → Here n v w
  pub cont : (o : List Bool) (ts us : List TemplateToken) → AreAlike outside o ts us → AreAlike outside o (without_places u ++ ts) us

-- ---- pieces

-- the parts stand for these
abbrev pub StandAll : List Part → List View → Type 0
StandAll [] [] = Unit {0}
StandAll [] (v ∷ vs) = ⊥
StandAll (p ∷ ps) [] = ⊥
StandAll (p ∷ ps) (v ∷ vs) = Stands p v × StandAll ps vs

-- By symbols and pattern, and those of the row by which it is derived again; the tokens that are printed, what the parts stand for.
pub data Pieces : List Symbol → List ℕ → List Symbol → List ℕ → List TemplateToken → List View → List SpannedTemplateToken → List (Phrase Part) → Type 0 where
  end : Pieces [] [] [] [] [] [] [] []
  -- a token that is no part, and one that is
  a_mark : {s : Symbol} {ss rs : List Symbol} {ns ms : List ℕ} {t : TemplateToken} {ts : List TemplateToken} {ps : List View} {u w : List SpannedTemplateToken} {x : Phrase Part} {xs : List (Phrase Part)} → Item s (view.token t) u x
      → Pieces ss ns rs ms ts ps w xs → Pieces (s ∷ ss) (1 ∷ ns) (s ∷ rs) (1 ∷ ms) (t ∷ ts) ps (u ++ w) (x ∷ xs)
  a_leaf : {s : Symbol} {ss rs : List Symbol} {ns ms : List ℕ} {t : TemplateToken} {ts : List TemplateToken} {ps : List View} {u w : List SpannedTemplateToken} {x : Phrase Part} {xs : List (Phrase Part)} → Item s (view.token t) u x
      → Pieces ss ns rs ms ts ps w xs → Pieces (s ∷ ss) (2 ∷ ns) (s ∷ rs) (2 ∷ ms) (t ∷ ts) (view.token t ∷ ps) (u ++ w) (x ∷ xs)
  a_part : {n : ℕ} {ss rs : List Symbol} {ns ms : List ℕ} {v : View} {ts : List TemplateToken} {ps : List View} {u w : List SpannedTemplateToken} {x : Phrase Part} {xs : List (Phrase Part)} → Back n v u x
      → Pieces ss ns rs ms ts ps w xs → Pieces (phrase n ∷ ss) (2 ∷ ns) (phrase n ∷ rs) (2 ∷ ms) (view_tokens v ++ ts) (v ∷ ps) (u ++ w) (x ∷ xs)
  -- a part that says this, too
  a_part_as : {n : ℕ} {ss rs : List Symbol} {ns ms : List ℕ} {v : View} {ts : List TemplateToken} {ps : List View} {u w : List SpannedTemplateToken} {x : Phrase Part} {xs : List (Phrase Part)} (z : View) → ((p : Part) → Stands p v → Stands p z) → Back n v u x
      → Pieces ss ns rs ms ts ps w xs → Pieces (phrase n ∷ ss) (2 ∷ ns) (phrase n ∷ rs) (2 ∷ ms) (view_tokens v ++ ts) (z ∷ ps) (u ++ w) (x ∷ xs)
  some_lines : {n : ℕ} {ss rs : List Symbol} {ns ms : List ℕ} {v : View} {ts : List TemplateToken} {ps : List View} {u w : List SpannedTemplateToken} {x : Phrase Part} {xs : List (Phrase Part)} → Lined n v u x
      → Pieces ss ns rs ms ts ps w xs → Pieces (phrase n ∷ ss) (2 ∷ ns) (phrase n ∷ rs) (2 ∷ ms) (view_tokens v ++ ts) (v ∷ ps) (u ++ w) (x ∷ xs)
  -- a list and what closes it
  a_list : {n : ℕ} {s : Symbol} {ss rs : List Symbol} {ns ms : List ℕ} {v : View} {t : TemplateToken} {ts : List TemplateToken} {ps : List View} {u k w : List SpannedTemplateToken} {x y : Phrase Part} {xs : List (Phrase Part)} → ListBack n v u x
      → Item s (view.token t) k y → without_places k ≡ t ∷ [] → Shuts t → Pieces ss ns rs ms ts ps w xs
      → Pieces (phrase n ∷ s ∷ ss) (2 ∷ 1 ∷ ns) (phrase n ∷ s ∷ rs) (2 ∷ 1 ∷ ms) (view_tokens v ++ (t ∷ ts)) (v ∷ ps) (u ++ (k ++ w)) (x ∷ y ∷ xs)
  -- a list before what stands in no expression
  a_cut_list : {n : ℕ} {ss rs : List Symbol} {ns ms : List ℕ} {v : View} {ts : List TemplateToken} {ps : List View} {u w : List SpannedTemplateToken} {x : Phrase Part} {xs : List (Phrase Part)} → CutList n v u x
      → BeginsOutside (without_places w) → BeginsOutside ts → Pieces ss ns rs ms ts ps w xs → Pieces (phrase n ∷ ss) (2 ∷ ns) (phrase n ∷ rs) (2 ∷ ms) (view_tokens v ++ ts) (v ∷ ps) (u ++ w) (x ∷ xs)
  -- what isn't there, and what won't be
  no_part : {ss rs : List Symbol} {ns ms : List ℕ} {ts : List TemplateToken} {ps : List View} {w : List SpannedTemplateToken} {xs : List (Phrase Part)} (v : View) → Stands Absent v
      → Pieces ss ns rs ms ts ps w xs → Pieces ss (0 ∷ ns) rs (0 ∷ ms) ts (v ∷ ps) w xs
  a_vanished : {n : ℕ} {ss rs : List Symbol} {ns ms : List ℕ} {v : View} {ts : List TemplateToken} {ps : List View} {u w : List SpannedTemplateToken} {x : Phrase Part} {xs : List (Phrase Part)} → Vanished n v u x
      → Pieces ss ns rs ms ts ps w xs → Pieces (phrase n ∷ ss) (2 ∷ ns) rs (0 ∷ ms) ts (v ∷ ps) (u ++ w) (x ∷ xs)
  -- a mark that is not printed, before what stands in no expression or behind it, and one that is printed
  mark_gone : {s : Symbol} {ss rs : List Symbol} {ns ms : List ℕ} (t : TemplateToken) {ts : List TemplateToken} {ps : List View} {u w : List SpannedTemplateToken} {x : Phrase Part} {xs : List (Phrase Part)} → Item s (view.token t) u x → without_places u ≡ t ∷ []
      → may_go t ≡ true → BeginsOutside ts → Pieces ss ns rs ms ts ps w xs → Pieces (s ∷ ss) (1 ∷ ns) rs ms ts ps (u ++ w) (x ∷ xs)
  outside_gone : {s : Symbol} {ss rs : List Symbol} {ns ms : List ℕ} (t : TemplateToken) {ts : List TemplateToken} {ps : List View} {u w : List SpannedTemplateToken} {x : Phrase Part} {xs : List (Phrase Part)} → Item s (view.token t) u x → without_places u ≡ t ∷ []
      → may_go_outside t ≡ true → Pieces ss ns rs ms ts ps w xs → Pieces (s ∷ ss) (1 ∷ ns) rs ms ts ps (u ++ w) (x ∷ xs)
  mark_added : {ss rs : List Symbol} {ns ms : List ℕ} (t : TemplateToken) {ts : List TemplateToken} {ps : List View} {w : List SpannedTemplateToken} {xs : List (Phrase Part)} → AreSpelled (t ∷ []) → may_go t ≡ true
      → BeginsOutside (without_places w) → Pieces ss ns rs ms ts ps w xs → Pieces ss ns (token (class_of t) ∷ rs) (1 ∷ ms) (t ∷ ts) ps w xs

pub parts_stand : {ss rs : List Symbol} {ns ms : List ℕ} {ts : List TemplateToken} {ps : List View} {u : List SpannedTemplateToken} {xs : List (Phrase Part)} → Pieces ss ns rs ms ts ps u xs → StandAll (chosen Absent ns xs) ps
parts_stand end = tt
parts_stand (a_mark i r) = parts_stand r
parts_stand (a_leaf i r) = (i.stands, parts_stand r)
parts_stand (a_part b r) = (b.item.stands, parts_stand r)
parts_stand (a_part_as z f b r) = (f _ b.item.stands, parts_stand r)
parts_stand (some_lines b r) = (b.stands, parts_stand r)
parts_stand (a_list l i e c r) = (l.stands, parts_stand r)
parts_stand (a_cut_list l e g r) = (l.stands, parts_stand r)
parts_stand (no_part v h r) = (h, parts_stand r)
parts_stand (a_vanished h r) = (h.stands, parts_stand r)
parts_stand (mark_gone t i e m g r) = parts_stand r
parts_stand (outside_gone t i e m r) = parts_stand r
parts_stand (mark_added t k m g r) = parts_stand r

pub parts_pass : {ss rs : List Symbol} {ns ms : List ℕ} {ts : List TemplateToken} {ps : List View} {u : List SpannedTemplateToken} {xs : List (Phrase Part)} → Pieces ss ns rs ms ts ps u xs → AllPass xs
parts_pass end = tt
parts_pass (a_mark i r) = (i.passes, parts_pass r)
parts_pass (a_leaf i r) = (i.passes, parts_pass r)
parts_pass (a_part b r) = (b.item.passes, parts_pass r)
parts_pass (a_part_as z f b r) = (b.item.passes, parts_pass r)
parts_pass (some_lines b r) = (b.passes, parts_pass r)
parts_pass (a_list l i e c r) = (l.passes, (i.passes, parts_pass r))
parts_pass (a_cut_list l e g r) = (l.passes, parts_pass r)
parts_pass (no_part v h r) = parts_pass r
parts_pass (a_vanished h r) = (h.passes, parts_pass r)
parts_pass (mark_gone t i e m g r) = (i.passes, parts_pass r)
parts_pass (outside_gone t i e m r) = (i.passes, parts_pass r)
parts_pass (mark_added t k m g r) = parts_pass r

-- ---- derived again

pub record RowOf (rs : List Symbol) (ms : List ℕ) (ps : List View) (w : List SpannedTemplateToken) : Type 0 where
  pub values : List (Phrase Part)
  pub row : Row grammar rs w values
  pub stand : StandAll (chosen Absent ms values) ps
  pub pass : AllPass values

with_symbol : {s : Symbol} {v : View} {rs : List Symbol} {ms : List ℕ} {ps : List View} {ts us : List TemplateToken} (w : List SpannedTemplateToken) → (p : Split w ts us) → Again s v p.front → RowOf rs ms ps p.rest → RowOf (s ∷ rs) (1 ∷ ms) ps w
with_symbol {s = s} {rs = rs} {ms = ms} {ps = ps} w p a q =
    let P : List SpannedTemplateToken → Type 0 = λ z. RowOf (s ∷ rs) (1 ∷ ms) ps z in
    subst P p.whole (record { values = a.value ∷ q.values; row = next a.derives q.row; stand = q.stand; pass = (a.passes, q.pass) })

with_part : {s : Symbol} {v : View} {rs : List Symbol} {ms : List ℕ} {ps : List View} {ts us : List TemplateToken} (w : List SpannedTemplateToken) → (p : Split w ts us) → Again s v p.front → RowOf rs ms ps p.rest → RowOf (s ∷ rs) (2 ∷ ms) (v ∷ ps) w
with_part {s = s} {v = v} {rs = rs} {ms = ms} {ps = ps} w p a q =
    let P : List SpannedTemplateToken → Type 0 = λ z. RowOf (s ∷ rs) (2 ∷ ms) (v ∷ ps) z in
    subst P p.whole (record { values = a.value ∷ q.values; row = next a.derives q.row; stand = (a.stands, q.stand); pass = (a.passes, q.pass) })

pub pieces_again : {ss rs : List Symbol} {ns ms : List ℕ} {ts : List TemplateToken} {ps : List View} {u : List SpannedTemplateToken} {xs : List (Phrase Part)} → Pieces ss ns rs ms ts ps u xs → (w : List SpannedTemplateToken) → without_places w ≡ ts → RowOf rs ms ps w
pieces_again end [] e = record { values = []; row = done; stand = tt; pass = tt }
pieces_again end (k ∷ w) e = absurd cc
pieces_again (a_mark {t = t} {ts = ts} i r) w e = let p = split w (t ∷ []) ts e in with_symbol w p (i.again p.front p.front_is) (pieces_again r p.rest p.rest_is)
pieces_again (a_leaf {t = t} {ts = ts} i r) w e = let p = split w (t ∷ []) ts e in with_part w p (i.again p.front p.front_is) (pieces_again r p.rest p.rest_is)
pieces_again (a_part {v = v} {ts = ts} b r) w e = let p = split w (view_tokens v) ts e in with_part w p (b.item.again p.front p.front_is) (pieces_again r p.rest p.rest_is)
pieces_again (a_part_as {v = v} {ts = ts} z f b r) w e =
    let p = split w (view_tokens v) ts e in
    let a = b.item.again p.front p.front_is in
    with_part w p (record { value = a.value; derives = a.derives; stands = f a.value.part a.stands; passes = a.passes }) (pieces_again r p.rest p.rest_is)
pieces_again (some_lines {v = v} {ts = ts} b r) w e = let p = split w (view_tokens v) ts e in with_part w p (b.again p.front p.front_is) (pieces_again r p.rest p.rest_is)
pieces_again (a_list {v = v} {t = t} {ts = ts} l i c h r) w e =
    let p = split w (view_tokens v) (t ∷ ts) e in
    let q = split p.rest (t ∷ []) ts p.rest_is in
    with_part w p (l.again p.front p.front_is) (with_symbol p.rest q (i.again q.front q.front_is) (pieces_again r q.rest q.rest_is))
pieces_again (a_cut_list {v = v} {ts = ts} l h g r) w e = let p = split w (view_tokens v) ts e in with_part w p (l.again p.front p.front_is) (pieces_again r p.rest p.rest_is)
pieces_again (no_part v h r) w e = let q = pieces_again r w e in record { values = q.values; row = q.row; stand = (h, q.stand); pass = q.pass }
pieces_again (a_vanished h r) w e = let q = pieces_again r w e in record { values = q.values; row = q.row; stand = (h.absent, q.stand); pass = q.pass }
pieces_again (mark_gone t i e m g r) w h = pieces_again r w h
pieces_again (outside_gone t i e m r) w h = pieces_again r w h
pieces_again (mark_added t {ts = ts} k m g r) w e = let p = split w (t ∷ []) ts e in with_symbol w p (token_again (class_of t) t refl p.front p.front_is) (pieces_again r p.rest p.rest_is)

-- ---- derived as it was read

-- tokens that are those that were read are such a row, too
pub pieces_likewise : {ss rs : List Symbol} {ns ms : List ℕ} {ts : List TemplateToken} {ps : List View} {u : List SpannedTemplateToken} {xs : List (Phrase Part)} → Pieces ss ns rs ms ts ps u xs → (w : List SpannedTemplateToken) → without_places w ≡ without_places u → RowOf ss ns ps w
pieces_likewise end [] e = record { values = []; row = done; stand = tt; pass = tt }
pieces_likewise end (k ∷ w) e = absurd cc
pieces_likewise (a_mark {u = a} {w = b} i r) w e = let p = split w (without_places a) (without_places b) (e ∙ places_append a b) in with_symbol w p (i.likewise p.front p.front_is) (pieces_likewise r p.rest p.rest_is)
pieces_likewise (a_leaf {u = a} {w = b} i r) w e = let p = split w (without_places a) (without_places b) (e ∙ places_append a b) in with_part w p (i.likewise p.front p.front_is) (pieces_likewise r p.rest p.rest_is)
pieces_likewise (a_part {u = a} {w = b} h r) w e = let p = split w (without_places a) (without_places b) (e ∙ places_append a b) in with_part w p (h.item.likewise p.front p.front_is) (pieces_likewise r p.rest p.rest_is)
pieces_likewise (a_part_as {u = a} {w = b} z f h r) w e =
    let p = split w (without_places a) (without_places b) (e ∙ places_append a b) in
    let q = h.item.likewise p.front p.front_is in
    with_part w p (record { value = q.value; derives = q.derives; stands = f q.value.part q.stands; passes = q.passes }) (pieces_likewise r p.rest p.rest_is)
pieces_likewise (some_lines {u = a} {w = b} h r) w e = let p = split w (without_places a) (without_places b) (e ∙ places_append a b) in with_part w p (h.likewise p.front p.front_is) (pieces_likewise r p.rest p.rest_is)
pieces_likewise (a_list {u = a} {k = k} {w = b} l i c h r) w e =
    let p = split w (without_places a) (without_places (k ++ b)) (e ∙ places_append a (k ++ b)) in
    let q = split p.rest (without_places k) (without_places b) (p.rest_is ∙ places_append k b) in
    with_part w p (l.likewise p.front p.front_is) (with_symbol p.rest q (i.likewise q.front q.front_is) (pieces_likewise r q.rest q.rest_is))
pieces_likewise (a_cut_list {u = a} {w = b} l h g r) w e = let p = split w (without_places a) (without_places b) (e ∙ places_append a b) in with_part w p (l.likewise p.front p.front_is) (pieces_likewise r p.rest p.rest_is)
pieces_likewise (no_part v h r) w e = let q = pieces_likewise r w e in record { values = q.values; row = q.row; stand = (h, q.stand); pass = q.pass }
pieces_likewise (a_vanished {u = a} {w = b} h r) w e = let p = split w (without_places a) (without_places b) (e ∙ places_append a b) in with_part w p (h.likewise p.front p.front_is).again (pieces_likewise r p.rest p.rest_is)
pieces_likewise (mark_gone t {u = a} {w = b} i h m g r) w e = let p = split w (without_places a) (without_places b) (e ∙ places_append a b) in with_symbol w p (i.likewise p.front p.front_is) (pieces_likewise r p.rest p.rest_is)
pieces_likewise (outside_gone t {u = a} {w = b} i h m r) w e = let p = split w (without_places a) (without_places b) (e ∙ places_append a b) in with_symbol w p (i.likewise p.front p.front_is) (pieces_likewise r p.rest p.rest_is)
pieces_likewise (mark_added t k m g r) w e = pieces_likewise r w e

-- what is read of no symbols is of no phrases
no_phrases : {ss rs : List Symbol} {ns ms : List ℕ} {ts : List TemplateToken} {ps : List View} {u : List SpannedTemplateToken} {xs : List (Phrase Part)} → Pieces ss ns rs ms ts ps u xs → ss ≡ [] → xs ≡ []
no_phrases end e = refl
no_phrases (a_mark i r) e = absurd cc
no_phrases (a_leaf i r) e = absurd cc
no_phrases (a_part b r) e = absurd cc
no_phrases (a_part_as z f b r) e = absurd cc
no_phrases (some_lines b r) e = absurd cc
no_phrases (a_list l i c h r) e = absurd cc
no_phrases (a_cut_list l h g r) e = absurd cc
no_phrases (no_part v h r) e = no_phrases r e
no_phrases (a_vanished h r) e = absurd cc
no_phrases (mark_gone t i h m g r) e = absurd cc
no_phrases (outside_gone t i h m r) e = absurd cc
no_phrases (mark_added t k m g r) e = no_phrases r e

no_symbols : {ss : List Symbol} {w : List SpannedTemplateToken} {xs : List (Phrase Part)} → Row grammar ss w xs → xs ≡ [] → ss ≡ []
no_symbols done e = refl
no_symbols (next d r) e = absurd cc

-- ---- spelled

spelled_then : (u w : List SpannedTemplateToken) (ts us : List TemplateToken) → AreSpelled (without_places (u ++ w)) → (AreSpelled (without_places u) → AreSpelled ts) → (AreSpelled (without_places w) → AreSpelled us) → AreSpelled (ts ++ us)
spelled_then u w ts us h f g =
    let all = subst AreSpelled (places_append u w) h in
    are_both ts us (f (are_front (without_places u) (without_places w) all)) (g (are_behind (without_places u) (without_places w) all))

behind_gone : (u w : List SpannedTemplateToken) → AreSpelled (without_places (u ++ w)) → AreSpelled (without_places w)
behind_gone u w h = are_behind (without_places u) (without_places w) (subst AreSpelled (places_append u w) h)

pub pieces_spelled : {ss rs : List Symbol} {ns ms : List ℕ} {ts : List TemplateToken} {ps : List View} {u : List SpannedTemplateToken} {xs : List (Phrase Part)} → Pieces ss ns rs ms ts ps u xs → AreSpelled (without_places u) → AreSpelled ts
pieces_spelled end h = tt
pieces_spelled (a_mark {t = t} {ts = ts} {u = u} {w = w} i r) h = spelled_then u w (t ∷ []) ts h i.spelled (λ k. pieces_spelled r k)
pieces_spelled (a_leaf {t = t} {ts = ts} {u = u} {w = w} i r) h = spelled_then u w (t ∷ []) ts h i.spelled (λ k. pieces_spelled r k)
pieces_spelled (a_part {v = v} {ts = ts} {u = u} {w = w} b r) h = spelled_then u w (view_tokens v) ts h b.item.spelled (λ k. pieces_spelled r k)
pieces_spelled (a_part_as {v = v} {ts = ts} {u = u} {w = w} z f b r) h = spelled_then u w (view_tokens v) ts h b.item.spelled (λ k. pieces_spelled r k)
pieces_spelled (some_lines {v = v} {ts = ts} {u = u} {w = w} b r) h = spelled_then u w (view_tokens v) ts h b.spelled (λ k. pieces_spelled r k)
pieces_spelled (a_list {v = v} {t = t} {ts = ts} {u = u} {k = k} {w = w} l i c e r) h = spelled_then u (k ++ w) (view_tokens v) (t ∷ ts) h l.spelled (λ z. spelled_then k w (t ∷ []) ts z i.spelled (λ y. pieces_spelled r y))
pieces_spelled (a_cut_list {v = v} {ts = ts} {u = u} {w = w} l e g r) h = spelled_then u w (view_tokens v) ts h l.spelled (λ k. pieces_spelled r k)
pieces_spelled (no_part v h r) k = pieces_spelled r k
pieces_spelled (a_vanished {u = u} {w = w} h r) k = pieces_spelled r (behind_gone u w k)
pieces_spelled (mark_gone t {u = u} {w = w} i e m g r) h = pieces_spelled r (behind_gone u w h)
pieces_spelled (outside_gone t {u = u} {w = w} i e m r) h = pieces_spelled r (behind_gone u w h)
pieces_spelled (mark_added t {ts = ts} k m g r) h = are_both (t ∷ []) ts k (pieces_spelled r h)

-- ---- alike

-- where each piece may stand so
abbrev pub Fine : {ss rs : List Symbol} {ns ms : List ℕ} {ts : List TemplateToken} {ps : List View} {u : List SpannedTemplateToken} {xs : List (Phrase Part)} → Pieces ss ns rs ms ts ps u xs → Before → List Bool → Type 0
Fine end b o = Unit {0}
Fine (a_mark i r) b o = Fine r (i.steps b o).last (i.steps b o).opened
Fine (a_leaf i r) b o = Fine r (i.steps b o).last (i.steps b o).opened
Fine (a_part h r) b o = Fine r (h.item.steps b o).last o
Fine (a_part_as z f h r) b o = Fine r (h.item.steps b o).last o
Fine (some_lines h r) b o = (b ≡ outside) × Fine r outside o
Fine (a_list {t = t} l i e c r) b o = MayEnd c (l.ending b o).last o × Fine r (before t) (groups (l.ending b o).last o (kind t))
Fine (a_cut_list l e g r) b o = Fine r (l.last b o) o
Fine (no_part v h r) b o = Fine r b o
Fine (a_vanished h r) b o = (b ≡ outside) × Fine r outside o
Fine (mark_gone t i e m g r) b o = Fine r b o
Fine (outside_gone t i e m r) b o = (b ≡ outside) × Fine r outside o
Fine (mark_added t k m g r) b o = Fine r b o

-- tokens in front of which stands what goes on in this state
abbrev joined : (b : Before) (o : List Bool) (u w : List SpannedTemplateToken) (x y : List TemplateToken) (c : Before) (p : List Bool) → Cont b o (without_places u) x c p → (q : Steps c p (without_places w) y) → Steps b o (without_places (u ++ w)) (x ++ y)
joined b o u w x y c p f q = record {
  last = q.last;
  opened = q.opened;
  cont = cont_as b o (without_places u ++ without_places w) (x ++ y) (without_places (u ++ w)) (x ++ y) q.last q.opened (sym (places_append u w)) refl
      (cont_then b o (without_places u) x c p (without_places w) y q.last q.opened f q.cont);
}

-- tokens of which nothing is printed
abbrev skipped : (b : Before) (o : List Bool) (u w : List SpannedTemplateToken) (y : List TemplateToken) → ((ts us : List TemplateToken) → AreAlike b o (without_places w ++ ts) (y ++ us) → AreAlike b o (without_places u ++ (without_places w ++ ts)) (y ++ us)) → (q : Steps b o (without_places w) y)
    → Steps b o (without_places (u ++ w)) y
skipped b o u w y f q = record {
  last = q.last;
  opened = q.opened;
  cont = λ ts us a. moved (sym (append_assoc (without_places u) (without_places w) ts) ∙ ap (λ z. z ++ ts) (sym (places_append u w))) refl (f ts us (q.cont ts us a));
}

abbrev from_outside : (b : Before) (o : List Bool) (u v : List TemplateToken) → b ≡ outside → Steps outside o u v → Steps b o u v
from_outside b o u v e q = record { last = q.last; opened = q.opened; cont = λ ts us a. let P : Before → Type 0 = λ z. AreAlike z o (u ++ ts) (v ++ us) in subst P (sym e) (q.cont ts us a) }

pub level_cont : {n : ℕ} {v : View} {u : List SpannedTemplateToken} {x : Phrase Part} (h : Back n v u x) (b : Before) (o : List Bool) → Cont b o (without_places u) (view_tokens v) (h.item.steps b o).last o
level_cont {v = v} {u = u} h b o = let P : List Bool → Type 0 = λ z. Cont b o (without_places u) (view_tokens v) (h.item.steps b o).last z in subst P (h.level b o) (h.item.steps b o).cont

abbrev pub pieces_steps : {ss rs : List Symbol} {ns ms : List ℕ} {ts : List TemplateToken} {ps : List View} {u : List SpannedTemplateToken} {xs : List (Phrase Part)} → (r : Pieces ss ns rs ms ts ps u xs) → (b : Before) (o : List Bool) → Fine r b o → Steps b o (without_places u) ts
pieces_steps end b o fine = record { last = b; opened = o; cont = λ ts us a. a }
pieces_steps (a_mark {t = t} {ts = ts} {u = u} {w = w} i r) b o fine = joined b o u w (t ∷ []) ts (i.steps b o).last (i.steps b o).opened (i.steps b o).cont (pieces_steps r (i.steps b o).last (i.steps b o).opened fine)
pieces_steps (a_leaf {t = t} {ts = ts} {u = u} {w = w} i r) b o fine = joined b o u w (t ∷ []) ts (i.steps b o).last (i.steps b o).opened (i.steps b o).cont (pieces_steps r (i.steps b o).last (i.steps b o).opened fine)
pieces_steps (a_part {v = v} {ts = ts} {u = u} {w = w} h r) b o fine = joined b o u w (view_tokens v) ts (h.item.steps b o).last o (level_cont h b o) (pieces_steps r (h.item.steps b o).last o fine)
pieces_steps (a_part_as {v = v} {ts = ts} {u = u} {w = w} z f h r) b o fine = joined b o u w (view_tokens v) ts (h.item.steps b o).last o (level_cont h b o) (pieces_steps r (h.item.steps b o).last o fine)
pieces_steps (some_lines {v = v} {ts = ts} {u = u} {w = w} h r) b o fine = from_outside b o (without_places (u ++ w)) (view_tokens v ++ ts) fine.0 (joined outside o u w (view_tokens v) ts outside o (h.cont o) (pieces_steps r outside o fine.1))
pieces_steps (a_list {v = v} {t = t} {ts = ts} {u = u} {k = k} {w = w} l i e c r) b o fine =
    let p = l.ending b o in
    let q = pieces_steps r (before t) (groups p.last o (kind t)) fine.1 in record {
      last = q.last;
      opened = q.opened;
      cont = cont_as b o (without_places u ++ (t ∷ without_places w)) (view_tokens v ++ (t ∷ ts)) (without_places (u ++ (k ++ w))) (view_tokens v ++ (t ∷ ts)) q.last q.opened
          (sym (places_append u (k ++ w) ∙ ap (λ z. without_places u ++ z) (places_append k w ∙ ap (λ z. z ++ without_places w) e))) refl
          (closing b o (without_places u) (view_tokens v) t (without_places w) ts q.last q.opened p c fine.0 q.cont);
    }
pieces_steps (a_cut_list {v = v} {ts = ts} {u = u} {w = w} l e g r) b o fine =
    let q = pieces_steps r (l.last b o) o fine in record {
      last = q.last;
      opened = q.opened;
      cont = λ xs us a. moved (sym (append_assoc (without_places u) (without_places w) xs) ∙ ap (λ z. z ++ xs) (sym (places_append u w))) (sym (append_assoc (view_tokens v) ts us)) (l.cont b o (without_places w ++ xs) (ts ++ us) (e xs) (g us) (q.cont xs us a));
    }
pieces_steps (no_part v h r) b o fine = pieces_steps r b o fine
pieces_steps (a_vanished {ts = ts} {u = u} {w = w} h r) b o fine =
    from_outside b o (without_places (u ++ w)) ts fine.0 (skipped outside o u w ts (λ xs us a. h.cont o (without_places w ++ xs) (ts ++ us) a) (pieces_steps r outside o fine.1))
pieces_steps (mark_gone t {ts = ts} {u = u} {w = w} i e m g r) b o fine =
    skipped b o u w ts (λ xs us a. moved (ap (λ z. z ++ (without_places w ++ xs)) (sym e)) refl (first_extra t m (g us) a)) (pieces_steps r b o fine)
pieces_steps (outside_gone t {ts = ts} {u = u} {w = w} i e m r) b o fine =
    from_outside b o (without_places (u ++ w)) ts fine.0 (skipped outside o u w ts (λ xs us a. moved (ap (λ z. z ++ (without_places w ++ xs)) (sym e)) refl (first_outside t m a)) (pieces_steps r outside o fine.1))
pieces_steps (mark_added t {ts = ts} {w = w} k m g r) b o fine = let q = pieces_steps r b o fine in record { last = q.last; opened = q.opened; cont = λ xs us a. second_extra t m (g xs) (q.cont xs us a) }

-- ---- what is made

-- what a production makes of parts stands for this, and no check fails in it
pub record Made (label : Label) (qs : List Part) (v : View) : Type 0 where
  pub stands : (s : Span) → Stands (making.make label s qs) v
  pub passes : (s : Span) → made_failed label (making.make label s qs) ≡ None
  pub severity : severity_failed label qs ≡ None

pub made_as : (label : Label) (qs : List Part) (v : View) (p : Span → Part) → ((s : Span) → making.make label s qs ≡ p s) → ((s : Span) → Stands (p s) v) → ((s : Span) → made_failed label (p s) ≡ None) → severity_failed label qs ≡ None → Made label qs v
made_as label qs v p is stands passes severity = record {
  stands = λ s. subst (λ z. Stands z v) (sym (is s)) (stands s);
  passes = λ s. ap (made_failed label) (is s) ∙ passes s;
  severity = severity;
}

pub made_of_parts : (label : Label) (pattern : List ℕ) (x : Phrase Part) (xs : List (Phrase Part)) (v : View) → Made label (chosen Absent pattern (x ∷ xs)) v → AllPass (x ∷ xs) → Makes v (make_of label pattern (x ∷ xs))
made_of_parts label pattern x xs v m pass = makes_checked label pattern x xs v (λ s. making.make label s (chosen Absent pattern (x ∷ xs))) (λ s. refl) m.stands m.severity m.passes pass

-- A phrase of these pieces, by what it is derived again.
pub lined_of : {n : ℕ} (label : Label) (pattern : List ℕ) {ss rs : List Symbol} {ms : List ℕ} {ts : List TemplateToken} {ps : List View} {u : List SpannedTemplateToken} {x : Phrase Part} {xs : List (Phrase Part)} (v : View) → (p : Pieces ss pattern rs ms ts ps u (x ∷ xs)) → ts ≡ view_tokens v
    → ((qs : List Part) → StandAll qs ps → Made label qs v) → ((w : List SpannedTemplateToken) → without_places w ≡ view_tokens v → Again (phrase n) v w) → ((w : List SpannedTemplateToken) → without_places w ≡ without_places u → Again (phrase n) v w) → (fine : (o : List Bool) → Fine p outside o) → ((o : List Bool) → (pieces_steps p outside o (fine o)).opened ≡ o)
    → ((o : List Bool) → (pieces_steps p outside o (fine o)).last ≡ outside) → Lined n v u (make_of label pattern (x ∷ xs))
lined_of label pattern {ts = ts} {u = u} {x = x} {xs = xs} v p tokens makes again likewise fine level ended =
    let one = made_of_parts label pattern x xs v (makes (chosen Absent pattern (x ∷ xs)) (parts_stand p)) (parts_pass p) in record {
      stands = one.stands;
      passes = one.passes;
      again = again;
      likewise = likewise;
      spelled = λ h. subst AreSpelled tokens (pieces_spelled p h);
      cont = λ o.
          let q = pieces_steps p outside o (fine o) in
          let P : Before × List Bool → Type 0 = λ z. Cont outside o (without_places u) (view_tokens v) z.0 z.1 in
          subst P (λ i. (ended o i, level o i)) (cont_as outside o (without_places u) ts (without_places u) (view_tokens v) q.last q.opened refl tokens q.cont);
    }

-- the phrase that tokens are which are those that were read
pub likewise_of : (n : ℕ) (ss : List Symbol) (ns : List ℕ) (label : Label) → Rebuild n ss label ns → {rs : List Symbol} {ms : List ℕ} {ts : List TemplateToken} {ps : List View} {u : List SpannedTemplateToken} {x : Phrase Part} {xs : List (Phrase Part)} (v : View) → Pieces ss ns rs ms ts ps u (x ∷ xs)
    → ((qs : List Part) → StandAll qs ps → Made label qs v) → (w : List SpannedTemplateToken) → without_places w ≡ without_places u → Again (phrase n) v w
likewise_of n ss ns label read {ps = ps} {x = x} {xs = xs} v p makes w e = go (pieces_likewise p w e)
  where
    made : (values : List (Phrase Part)) → Row grammar ss w values → StandAll (chosen Absent ns values) ps → AllPass values → Again (phrase n) v w
    made [] row stand pass = absurd (let wrong : x ∷ xs ≡ [] = no_phrases p (no_symbols row refl) in cc)
    made (y ∷ ys) row stand pass =
        let m = made_of_parts label ns y ys v (makes (chosen Absent ns (y ∷ ys)) stand) pass in
        record { value = make_of label ns (y ∷ ys); derives = read w (y ∷ ys) row; stands = m.stands; passes = m.passes }

    go : RowOf ss ns ps w → Again (phrase n) v w
    go q = made q.values q.row q.stand q.pass

-- By the rule that was read, and that by which the phrase is derived again.
module _ (n : ℕ) (ss : List Symbol) (ns : List ℕ) (r : Symbol) (rs : List Symbol) (ms : List ℕ) (label : Label) (read : Rebuild n ss label ns) (rebuild : Rebuild n (r ∷ rs) label ms) where
  pub again_of : {ts : List TemplateToken} {ps : List View} {u : List SpannedTemplateToken} {xs : List (Phrase Part)} (v : View) → Pieces ss ns (r ∷ rs) ms ts ps u xs → ts ≡ view_tokens v → ((qs : List Part) → StandAll qs ps → Made label qs v)
      → (w : List SpannedTemplateToken) → without_places w ≡ view_tokens v → Again (phrase n) v w
  again_of {ps = ps} v p tokens makes w e = go (pieces_again p w (e ∙ sym tokens))
    where
      made : (w : List SpannedTemplateToken) (values : List (Phrase Part)) → Row grammar (r ∷ rs) w values → StandAll (chosen Absent ms values) ps → AllPass values → Again (phrase n) v w
      made _ _ (next {x = y} {xs = ys} d q) stand pass =
          let m = made_of_parts label ms y ys v (makes (chosen Absent ms (y ∷ ys)) stand) pass in
          record { value = make_of label ms (y ∷ ys); derives = rebuild _ (y ∷ ys) (next d q); stands = m.stands; passes = m.passes }

      go : RowOf (r ∷ rs) ms ps w → Again (phrase n) v w
      go q = made w q.values q.row q.stand q.pass

  -- a phrase of these pieces
  pub pieces_back : {ts : List TemplateToken} {ps : List View} {u : List SpannedTemplateToken} {x : Phrase Part} {xs : List (Phrase Part)} (v : View) → (p : Pieces ss ns (r ∷ rs) ms ts ps u (x ∷ xs)) → ts ≡ view_tokens v
      → ((qs : List Part) → StandAll qs ps → Made label qs v) → (fine : (b : Before) (o : List Bool) → Fine p b o) → ((b : Before) (o : List Bool) → (pieces_steps p b o (fine b o)).opened ≡ o)
      → ((b : Before) (o : List Bool) → ends_as v (pieces_steps p b o (fine b o)).last) → Back n v u (make_of label ns (x ∷ xs))
  pieces_back {ts = ts} {ps = ps} {u = u} {x = x} {xs = xs} v p tokens makes fine level ended =
      let one = made_of_parts label ns x xs v (makes (chosen Absent ns (x ∷ xs)) (parts_stand p)) (parts_pass p) in record {
        item = record {
          stands = one.stands;
          passes = one.passes;
          again = again_of v p tokens makes;
          likewise = likewise_of n ss ns label read v p makes;
          spelled = λ h. subst AreSpelled tokens (pieces_spelled p h);
          steps = λ b o. let q = pieces_steps p b o (fine b o) in record {
            last = q.last;
            opened = q.opened;
            cont = cont_as b o (without_places u) ts (without_places u) (view_tokens v) q.last q.opened refl tokens q.cont;
          };
        };
        level = level;
        ended = ended;
      }

  -- the same of one that begins and ends where no expression can go on
  pub pieces_lined : {ts : List TemplateToken} {ps : List View} {u : List SpannedTemplateToken} {x : Phrase Part} {xs : List (Phrase Part)} (v : View) → (p : Pieces ss ns (r ∷ rs) ms ts ps u (x ∷ xs)) → ts ≡ view_tokens v
      → ((qs : List Part) → StandAll qs ps → Made label qs v) → (fine : (o : List Bool) → Fine p outside o) → ((o : List Bool) → (pieces_steps p outside o (fine o)).opened ≡ o)
      → ((o : List Bool) → (pieces_steps p outside o (fine o)).last ≡ outside) → Lined n v u (make_of label ns (x ∷ xs))
  pieces_lined v p tokens makes fine level ended = lined_of label ns v p tokens makes (again_of v p tokens makes) (likewise_of n ss ns label read v p makes) fine level ended

-- ---- so many parts

pub of_no_part : (P : List Part → Type 0) → P [] → (qs : List Part) → StandAll qs [] → P qs
of_no_part P f [] h = f
of_no_part P f (q ∷ qs) h = absurd h

pub of_one_part : {v : View} (P : List Part → Type 0) → ((a : Part) → Stands a v → P (a ∷ [])) → (qs : List Part) → StandAll qs (v ∷ []) → P qs
of_one_part P f [] h = absurd h
of_one_part P f (a ∷ qs) h = of_no_part (λ ps. P (a ∷ ps)) (f a h.0) qs h.1

pub of_two_parts : {v w : View} (P : List Part → Type 0) → ((a b : Part) → Stands a v → Stands b w → P (a ∷ b ∷ [])) → (qs : List Part) → StandAll qs (v ∷ w ∷ []) → P qs
of_two_parts P f [] h = absurd h
of_two_parts P f (a ∷ qs) h = of_one_part (λ ps. P (a ∷ ps)) (λ b h2. f a b h.0 h2) qs h.1

pub of_three_parts : {v w x : View} (P : List Part → Type 0) → ((a b c : Part) → Stands a v → Stands b w → Stands c x → P (a ∷ b ∷ c ∷ [])) → (qs : List Part) → StandAll qs (v ∷ w ∷ x ∷ []) → P qs
of_three_parts P f [] h = absurd h
of_three_parts P f (a ∷ qs) h = of_two_parts (λ ps. P (a ∷ ps)) (λ b c h2 h3. f a b c h.0 h2 h3) qs h.1

pub of_four_parts : {v w x y : View} (P : List Part → Type 0) → ((a b c d : Part) → Stands a v → Stands b w → Stands c x → Stands d y → P (a ∷ b ∷ c ∷ d ∷ [])) → (qs : List Part) → StandAll qs (v ∷ w ∷ x ∷ y ∷ []) → P qs
of_four_parts P f [] h = absurd h
of_four_parts P f (a ∷ qs) h = of_three_parts (λ ps. P (a ∷ ps)) (λ b c d h2 h3 h4. f a b c d h.0 h2 h3 h4) qs h.1

pub of_five_parts : {v w x y z : View} (P : List Part → Type 0) → ((a b c d e : Part) → Stands a v → Stands b w → Stands c x → Stands d y → Stands e z → P (a ∷ b ∷ c ∷ d ∷ e ∷ [])) → (qs : List Part) → StandAll qs (v ∷ w ∷ x ∷ y ∷ z ∷ []) → P qs
of_five_parts P f [] h = absurd h
of_five_parts P f (a ∷ qs) h = of_four_parts (λ ps. P (a ∷ ps)) (λ b c d e h2 h3 h4 h5. f a b c d e h.0 h2 h3 h4 h5) qs h.1

pub of_six_parts : {v w x y z k : View} (P : List Part → Type 0) → ((a b c d e g : Part) → Stands a v → Stands b w → Stands c x → Stands d y → Stands e z → Stands g k → P (a ∷ b ∷ c ∷ d ∷ e ∷ g ∷ [])) → (qs : List Part) → StandAll qs (v ∷ w ∷ x ∷ y ∷ z ∷ k ∷ []) → P qs
of_six_parts P f [] h = absurd h
of_six_parts P f (a ∷ qs) h = of_five_parts (λ ps. P (a ∷ ps)) (λ b c d e g h2 h3 h4 h5 h6. f a b c d e g h.0 h2 h3 h4 h5 h6) qs h.1

-- ---- a phrase alone, and one more behind some

pub phrase_back : (n m : ℕ) (label : Label) → Rebuild n (phrase m ∷ []) label (2 ∷ []) → {v : View} (w : View) {u : List SpannedTemplateToken} {x : Phrase Part} → (h : Back m v u x) → view_tokens v ++ [] ≡ view_tokens w
    → ((p : Part) → Stands p v → Made label (p ∷ []) w) → ((b : Before) (o : List Bool) → ends_as w (h.item.steps b o).last) → Back n w (u ++ []) (make_of label (2 ∷ []) (x ∷ []))
phrase_back n m label rebuild w h tokens makes ended =
    pieces_back n (phrase m ∷ []) (2 ∷ []) (phrase m) [] (2 ∷ []) label rebuild rebuild w (a_part h end) tokens (of_one_part (λ qs. Made label qs w) makes) (λ b o. tt) (λ b o. refl) ended

pub more_back : (n m : ℕ) → Rebuild n (phrase n ∷ phrase m ∷ []) l.More (2 ∷ 2 ∷ []) → {v w : View} (z : View) {a b : List SpannedTemplateToken} {x y : Phrase Part} → Back n v a x → (h : Back m w b y) → view_tokens v ++ (view_tokens w ++ []) ≡ view_tokens z
    → ((p q : Part) → Stands p v → Stands q w → Made l.More (p ∷ q ∷ []) z) → ((c : Before) (o : List Bool) → ends_as z (h.item.steps c o).last) → Back n z (a ++ (b ++ [])) (make_of l.More (2 ∷ 2 ∷ []) (x ∷ y ∷ []))
more_back n m rebuild z g h tokens makes ended =
    pieces_back n (phrase n ∷ phrase m ∷ []) (2 ∷ 2 ∷ []) (phrase n) (phrase m ∷ []) (2 ∷ 2 ∷ []) l.More rebuild rebuild z (a_part g (a_part h end)) tokens (of_two_parts (λ qs. Made l.More qs z) makes) (λ b o. tt) (λ b o. refl) (λ b o. ended _ _)

-- ---- phrases that were found, as a row

abbrev pub again_one : (n m : ℕ) (label : Label) → Rebuild n (phrase m ∷ []) label (2 ∷ []) → (v : View) (w : List SpannedTemplateToken) (x : Phrase Part) → Derives grammar (phrase m) w x → x.failure ≡ None → Made label (x.part ∷ []) v → Again (phrase n) v w
again_one n m label rebuild v w x d pass made =
    let one = made_of_parts label (2 ∷ []) x [] v made (pass, tt) in
    let P : List SpannedTemplateToken → Type 0 = λ z. Derives grammar (phrase n) z (make_of label (2 ∷ []) (x ∷ [])) in
    record { value = make_of label (2 ∷ []) (x ∷ []); derives = subst P (append-nil w) (rebuild (w ++ []) (x ∷ []) (next d done)); stands = one.stands; passes = one.passes }

abbrev pub again_two : (n m k : ℕ) (label : Label) → Rebuild n (phrase m ∷ phrase k ∷ []) label (2 ∷ 2 ∷ []) → (v : View) (a b w : List SpannedTemplateToken) → a ++ b ≡ w → (x y : Phrase Part) → Derives grammar (phrase m) a x → Derives grammar (phrase k) b y → x.failure ≡ None → y.failure ≡ None
    → Made label (x.part ∷ y.part ∷ []) v → Again (phrase n) v w
again_two n m k label rebuild v a b w whole x y d e pass behind made =
    let one = made_of_parts label (2 ∷ 2 ∷ []) x (y ∷ []) v made (pass, (behind, tt)) in
    let P : List SpannedTemplateToken → Type 0 = λ z. Derives grammar (phrase n) z (make_of label (2 ∷ 2 ∷ []) (x ∷ y ∷ [])) in
    record { value = make_of label (2 ∷ 2 ∷ []) (x ∷ y ∷ []); derives = subst P (ap (λ z. a ++ z) (append-nil b) ∙ whole) (rebuild (a ++ (b ++ [])) (x ∷ y ∷ []) (next d (next e done))); stands = one.stands; passes = one.passes }
