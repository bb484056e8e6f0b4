-- A symbol of a row and what stands there: what is printed of it derives it again.
use Rattle.std.proofs.Common.{◌≡◌, refl, sym, ap, ◌∙◌, subst, ℕ, Bool, true, List, [], ◌∷◌, ◌++◌, append_assoc, append-nil, None}
use Rattle.wgsl_templates.specs.declared.meaning.token.TemplateToken.{TemplateToken}
use Rattle.wgsl_templates.specs.declared.meaning.token.SpannedTemplateToken.{SpannedTemplateToken}
use Rattle.wgsl_templates.specs.Kinds.{kind}
use Rattle.wgsl_print_laws.specs.Laws.{without_places}
use Rattle.wgsl_print_laws.specs.OptionalMarks.{Before, before, ends_operand, is_closer, may_end_so, groups, comma, begins_outside, AreAlike, same, first_has, first_extra}
use Rattle.wgsl_print_laws.specs.Printable.{AreSpelled}
use Rattle.wgsl_grammar_tables.specs.Grammars.{Symbol, token, phrase, Derives, a_token}
use Rattle.wgsl_semantic_values.specs.declared.part.Part.{Part}
use Rattle.wgsl_parser.specs.Leaves as leaves
use Rattle.wgsl_parser.specs.Phrase.{Phrase}
use Rattle.wgsl_grammar_tables.specs.Classes.{class_of}
use Rattle.wgsl_parser.specs.Phrases.{leaf, grammar}
use Rattle.wgsl_read_back.proofs.Views.{View, view_tokens, Stands, ends_as}
use Rattle.wgsl_read_back.proofs.Views as v

-- ---- tokens without places

pub places_append : (a b : List SpannedTemplateToken) → without_places (a ++ b) ≡ without_places a ++ without_places b
places_append [] b = refl
places_append (t ∷ a) b = ap (λ x. t.token ∷ x) (places_append a b)

pub record Split (w : List SpannedTemplateToken) (ts us : List TemplateToken) : Type 0 where
  pub front : List SpannedTemplateToken
  pub rest : List SpannedTemplateToken
  pub whole : front ++ rest ≡ w
  pub front_is : without_places front ≡ ts
  pub rest_is : without_places rest ≡ us

pub split : (w : List SpannedTemplateToken) (ts us : List TemplateToken) → without_places w ≡ ts ++ us → Split w ts us
split w [] us e = record { front = []; rest = w; whole = refl; front_is = refl; rest_is = e }
split [] (t ∷ ts) us e = absurd cc
split (k ∷ w) (t ∷ ts) us e =
    let same : k.token ≡ t = cc in
    let tails : without_places w ≡ ts ++ us = cc in
    let s = split w ts us tails in
    record { front = k ∷ s.front; rest = s.rest; whole = ap (λ x. k ∷ x) s.whole; front_is = (λ i. same i ∷ s.front_is i); rest_is = s.rest_is }

-- at the tokens of two phrases
pub split_two : (a b w : List SpannedTemplateToken) → without_places w ≡ without_places (a ++ (b ++ [])) → Split w (without_places a) (without_places b)
split_two a b w e = split w (without_places a) (without_places b) (e ∙ places_append a (b ++ []) ∙ ap (λ z. without_places a ++ without_places z) (append-nil b))

-- ---- last commas

-- from one state to another over tokens that are alike, whatever stands behind them
abbrev pub Cont : Before → List Bool → List TemplateToken → List TemplateToken → Before → List Bool → Type 0
Cont b o u v c p = (ts us : List TemplateToken) → AreAlike c p ts us → AreAlike b o (u ++ ts) (v ++ us)

pub record Steps (b : Before) (o : List Bool) (u v : List TemplateToken) : Type 0 where
  pub last : Before
  pub opened : List Bool
  pub cont : Cont b o u v last opened

pub moved : {b : Before} {o : List Bool} {u v x y : List TemplateToken} → u ≡ x → v ≡ y → AreAlike b o u v → AreAlike b o x y
moved {b = b} {o = o} e h a = let P : List TemplateToken × List TemplateToken → Type 0 = λ x. AreAlike b o x.0 x.1 in subst P (λ i. (e i, h i)) a

pub cont_then : (b : Before) (o : List Bool) (u v : List TemplateToken) (c : Before) (p : List Bool) (x y : List TemplateToken) (d : Before) (q : List Bool) → Cont b o u v c p → Cont c p x y d q → Cont b o (u ++ x) (v ++ y) d q
cont_then b o u v c p x y d q f h ts us a = moved (sym (append_assoc u x ts)) (sym (append_assoc v y us)) (f (x ++ ts) (y ++ us) (h ts us a))

pub cont_as : (b : Before) (o : List Bool) (u v x y : List TemplateToken) (c : Before) (p : List Bool) → u ≡ x → v ≡ y → Cont b o u v c p → Cont b o x y c p
cont_as b o u v x y c p e h f = let P : List TemplateToken × List TemplateToken → Type 0 = λ z. Cont b o z.0 z.1 c p in subst P (λ i. (e i, h i)) f

-- ---- what tokens begin with

-- first stands a mark that is in no expression
abbrev pub BeginsOutside : List TemplateToken → Type 0
BeginsOutside ts = (us : List TemplateToken) → begins_outside (ts ++ us) ≡ true

pub begins_then : (u w : List SpannedTemplateToken) → BeginsOutside (without_places u) → BeginsOutside (without_places (u ++ w))
begins_then u w h us = ap begins_outside (ap (λ z. z ++ us) (places_append u w) ∙ append_assoc (without_places u) (without_places w) us) ∙ h (without_places w ++ us)

pub begins_append : (ts vs : List TemplateToken) → BeginsOutside ts → BeginsOutside (ts ++ vs)
begins_append ts vs h us = ap begins_outside (append_assoc ts vs us) ∙ h (vs ++ us)

-- ---- items

pub record Again (s : Symbol) (v : View) (w : List SpannedTemplateToken) : Type 0 where
  pub value : Phrase Part
  pub derives : Derives grammar s w value
  pub stands : Stands value.part v
  pub passes : value.failure ≡ None

-- the same of a part of which there is no view
pub record AgainAs (s : Symbol) (IsSo : Part → Type 0) (w : List SpannedTemplateToken) : Type 0 where
  pub value : Phrase Part
  pub derives : Derives grammar s w value
  pub is : IsSo value.part
  pub passes : value.failure ≡ None

pub record Item (s : Symbol) (v : View) (u : List SpannedTemplateToken) (x : Phrase Part) : Type 0 where
  pub stands : Stands x.part v
  pub passes : x.failure ≡ None
  pub again : (w : List SpannedTemplateToken) → without_places w ≡ view_tokens v → Again s v w
  -- so do tokens that are those that were read
  pub likewise : (w : List SpannedTemplateToken) → without_places w ≡ without_places u → Again s v w
  pub spelled : AreSpelled (without_places u) → AreSpelled (view_tokens v)
  pub steps : (b : Before) (o : List Bool) → Steps b o (without_places u) (view_tokens v)

-- a phrase opens nothing that it doesn't close
pub record Back (n : ℕ) (v : View) (u : List SpannedTemplateToken) (x : Phrase Part) : Type 0 where
  pub item : Item (phrase n) v u x
  pub level : (b : Before) (o : List Bool) → (item.steps b o).opened ≡ o
  pub ended : (b : Before) (o : List Bool) → ends_as v (item.steps b o).last

-- What may stand behind a list that may end in a comma: what closes it, where it may and ends in an operand, or what stands in no expression.
pub data Shuts (t : TemplateToken) : Type 0 where
  closes : is_closer (kind t) ≡ true → Shuts t
  cuts : ((ts : List TemplateToken) → begins_outside (t ∷ ts) ≡ true) → Shuts t

abbrev pub MayEnd : {t : TemplateToken} → Shuts t → Before → List Bool → Type 0
MayEnd (closes e) b o = (ends_operand b ≡ true) × (may_end_so o ≡ true)
MayEnd (cuts h) b o = Unit {0}

pub comma_gone : (b : Before) (o : List Bool) (t : TemplateToken) (ts us : List TemplateToken) → (s : Shuts t) → MayEnd s b o → AreAlike (before t) (groups b o (kind t)) ts us → AreAlike b o (comma ∷ t ∷ ts) (t ∷ us)
comma_gone b o t ts us (closes c) may a = first_has t may.0 may.1 c a
comma_gone b o t ts us (cuts h) may a = first_extra comma refl (h us) (same t a)

-- A list, behind which stands what closes it: it may end in a comma, which is not printed.
pub record Ending (b : Before) (o : List Bool) (u v : List TemplateToken) : Type 0 where
  pub last : Before
  pub cont : (t : TemplateToken) (ts us : List TemplateToken) → (s : Shuts t) → MayEnd s last o → AreAlike (before t) (groups last o (kind t)) ts us → AreAlike b o (u ++ (t ∷ ts)) (v ++ (t ∷ us))

pub record ListBack (n : ℕ) (v : View) (u : List SpannedTemplateToken) (x : Phrase Part) : Type 0 where
  pub stands : Stands x.part v
  pub passes : x.failure ≡ None
  pub again : (w : List SpannedTemplateToken) → without_places w ≡ view_tokens v → Again (phrase n) v w
  pub likewise : (w : List SpannedTemplateToken) → without_places w ≡ without_places u → Again (phrase n) v w
  pub spelled : AreSpelled (without_places u) → AreSpelled (view_tokens v)
  pub ending : (b : Before) (o : List Bool) → Ending b o (without_places u) (view_tokens v)
  pub ended : (b : Before) (o : List Bool) → ends_as v (ending b o).last

-- A list whose last comma, there or not, is printed or not: what stands in no expression follows.
pub record CutList (n : ℕ) (v : View) (u : List SpannedTemplateToken) (x : Phrase Part) : Type 0 where
  pub stands : Stands x.part v
  pub passes : x.failure ≡ None
  pub again : (w : List SpannedTemplateToken) → without_places w ≡ view_tokens v → Again (phrase n) v w
  pub likewise : (w : List SpannedTemplateToken) → without_places w ≡ without_places u → Again (phrase n) v w
  pub spelled : AreSpelled (without_places u) → AreSpelled (view_tokens v)
  pub last : Before → List Bool → Before
  pub cont : (b : Before) (o : List Bool) (ts us : List TemplateToken) → begins_outside ts ≡ true → begins_outside us ≡ true → AreAlike (last b o) o ts us → AreAlike b o (without_places u ++ ts) (view_tokens v ++ us)

-- a token
pub record OneToken (c : ℕ) (u : List SpannedTemplateToken) (x : Phrase Part) : Type 0 where
  pub one : SpannedTemplateToken
  pub whole : one ∷ [] ≡ u
  pub class : class_of one.token ≡ c
  pub value : leaf one ≡ x

pub token_again : (c : ℕ) (t : TemplateToken) → class_of t ≡ c → (w : List SpannedTemplateToken) → without_places w ≡ t ∷ [] → Again (token c) (v.token t) w
token_again c t e [] h = absurd cc
token_again c t e (k ∷ []) h =
    let is : k.token ≡ t = cc in
    let P : ℕ → Type 0 = λ z. Derives grammar (token z) (k ∷ []) (leaf k) in
    record { value = leaf k; derives = subst P (ap class_of is ∙ e) (a_token k); stands = v.a_token (ap (λ z. leaves.leaf z) is); passes = refl }
token_again c t e (k ∷ l ∷ w) h = absurd cc

abbrev pub token_steps : (t : TemplateToken) (b : Before) (o : List Bool) → Steps b o (t ∷ []) (t ∷ [])
token_steps t b o = record { last = before t; opened = groups b o (kind t); cont = λ ts us a. same t a }
