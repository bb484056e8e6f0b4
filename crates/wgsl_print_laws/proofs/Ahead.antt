-- What stands behind a `<` up to where a list that it opened would end, by the tokens that are told already.
use Rattle.std.proofs.Common.{◌≡◌, refl, sym, ap, ◌∙◌, subst, ℕ, suc, Bool, true, false, ◌&&◌, List, [], ◌∷◌, ◌++◌, length, map, take, drop, Some}
use Rattle.std.specs.Prelude.{if◌then◌else◌}
use Rattle.wgsl_token.specs.declared.token.Token.TheVariants.{Fixed}
use Rattle.wgsl_token.specs.declared.token.Fixed.TheVariants as f
use Rattle.wgsl_lex.proofs.Bools.{and_false}
use Rattle.wgsl_base.proofs.Bools.{and_both}
use Rattle.wgsl_templates.specs.declared.meaning.kind.Kind.{Kind}
use Rattle.wgsl_templates.specs.declared.meaning.kind.Kind.TheVariants as k
use Rattle.wgsl_templates.specs.declared.meaning.token.Bracket.{Bracket}
use Rattle.wgsl_templates.specs.declared.meaning.token.Bracket.TheVariants as b
use Rattle.wgsl_templates.specs.declared.meaning.token.TemplateToken.{TemplateToken}
use Rattle.wgsl_templates.specs.declared.meaning.token.TemplateToken.TheVariants.{Plain, TemplateArgsStart, TemplateArgsEnd}
use Rattle.wgsl_templates.specs.declared.meaning.token.SpannedTemplateToken.{SpannedTemplateToken}
use Rattle.wgsl_templates.specs.Kinds.{kind}
use Rattle.wgsl_templates.specs.Tokens.{begins_with_greater, is_less, is_in_list, closed, behind, State, past, after, spanned, Reads, nothing, behind_trivia, a_token, Stands, closing, asked, plain}
use Rattle.wgsl_print_laws.specs.Laws.{without_places}
use Rattle.wgsl_print_laws.proofs.Pieces.{greater, less, told, less_not_greater}
use Rattle.wgsl_print_laws.proofs.Levels.{next, beyond}

-- nothing is open but the list itself
abbrev pub is_own : List Bracket → Bool
is_own (b.TemplateList ∷ []) = true
is_own _ = false

abbrev pub greater_token : TemplateToken → Bool
greater_token (Plain t) = greater t
greater_token _ = false

-- the tokens up to where all that is open is closed; a `>` at the list's own level ends it
abbrev pub ahead : List Bracket → List TemplateToken → List TemplateToken
ahead [] ts = []
ahead (c ∷ o) [] = []
ahead (c ∷ o) (t ∷ ts) = if is_own (c ∷ o) && greater_token t then TemplateArgsEnd ∷ [] else t ∷ ahead (behind (c ∷ o) t) ts

-- whether it is closed there
abbrev pub closes : List Bracket → List TemplateToken → Bool
closes [] ts = true
closes (c ∷ o) [] = false
closes (c ∷ o) (t ∷ ts) = if is_own (c ∷ o) && greater_token t then true else closes (behind (c ∷ o) t) ts

abbrev pub kinds_of : List TemplateToken → List Kind
kinds_of ts = map kind ts

-- What a token opens or closes

data Move : Type 0 where
  opens : Bracket → Move
  shuts : Move
  stays : Move

abbrev moved : Move → List Bracket → List Bracket
moved (opens c) o = c ∷ o
moved shuts o = closed o
moved stays o = o

-- a token as it moves
record Moves (t : TemplateToken) : Type 0 where
  move : Move
  is : (o : List Bracket) → behind o t ≡ moved move o
  levels : (c : Bracket) (o : List Bracket) → length (behind (c ∷ o) t) ≡ next (suc (length o)) (kind t)

moves : (t : TemplateToken) → Moves t
moves TemplateArgsStart = record { move = opens b.TemplateList; is = λ o. refl; levels = λ c o. refl }
moves TemplateArgsEnd = record { move = shuts; is = λ o. refl; levels = λ c o. refl }
moves (Plain (Fixed f.ParenLeft)) = record { move = opens b.Plain; is = λ o. refl; levels = λ c o. refl }
moves (Plain (Fixed f.BracketLeft)) = record { move = opens b.Plain; is = λ o. refl; levels = λ c o. refl }
moves (Plain (Fixed f.ParenRight)) = record { move = shuts; is = λ o. refl; levels = λ c o. refl }
moves (Plain (Fixed f.BracketRight)) = record { move = shuts; is = λ o. refl; levels = λ c o. refl }
moves _ = record { move = stays; is = λ o. refl; levels = λ c o. refl }

-- Two stacks, where the one has the list alone below what the other has above some

pub data Within : List Bracket → List Bracket → Type 0 where
  own : {s : List Bracket} → Within (b.TemplateList ∷ []) s
  more : {o s : List Bracket} (c : Bracket) → Within o s → Within (c ∷ o) (c ∷ s)

data Next (o s : List Bracket) : Type 0 where
  shut : o ≡ [] → Next o s
  goes_on : Within o s → Next o s

next_moved : (o s : List Bracket) → Within o s → (m : Move) → Next (moved m o) (moved m s)
next_moved o s w (opens c) = goes_on (more c w)
next_moved _ s (own) shuts = shut refl
next_moved _ _ (more c w) shuts = goes_on w
next_moved o s w stays = goes_on w

next_stack : (o s : List Bracket) → Within o s → (t : TemplateToken) → Next (behind o t) (behind s t)
next_stack o s w t =
    let m = moves t in
    let P : List Bracket × List Bracket → Type 0 = λ x. Next x.0 x.1 in
    subst P (λ i. (sym (m.is o) i, sym (m.is s) i)) (next_moved o s w m.move)

in_list_too : (o s : List Bracket) → Within o s → is_in_list s ≡ true → is_in_list o ≡ true
in_list_too _ s (own) e = refl
in_list_too _ _ (more b.TemplateList w) e = refl
in_list_too _ _ (more b.Plain w) e = absurd cc

not_ended : (o s : List Bracket) → Within o s → (g : Bool) → (is_own o && g) ≡ false → (is_in_list s && g) ≡ false → (is_in_list o && g) ≡ false
not_ended _ s (own) g e h = e
not_ended _ _ (more b.TemplateList w) g e h = h
not_ended _ _ (more b.Plain w) g e h = refl

own_in_list : (o : List Bracket) → is_own o ≡ true → is_in_list o ≡ true
own_in_list [] e = absurd cc
own_in_list (b.TemplateList ∷ o) e = refl
own_in_list (b.Plain ∷ o) e = absurd cc

-- a step of `ahead`
module _ (o s : List Bracket) (w : Within o s) (t : TemplateToken) (ts : List TemplateToken) where
  ahead_ended : (is_own o && greater_token t) ≡ true → ahead o (t ∷ ts) ≡ TemplateArgsEnd ∷ []
  ahead_ended e = go o s w e
    where
      go : (o s : List Bracket) → Within o s → (is_own o && greater_token t) ≡ true → ahead o (t ∷ ts) ≡ TemplateArgsEnd ∷ []
      go _ s (own) e = ap (λ x. if x then TemplateArgsEnd ∷ [] else t ∷ ahead (behind (b.TemplateList ∷ []) t) ts) e
      go _ _ (more {o = o} c w) e = ap (λ x. if x then TemplateArgsEnd ∷ [] else t ∷ ahead (behind (c ∷ o) t) ts) e

  ahead_onward : (is_own o && greater_token t) ≡ false → ahead o (t ∷ ts) ≡ t ∷ ahead (behind o t) ts
  ahead_onward e = go o s w e
    where
      go : (o s : List Bracket) → Within o s → (is_own o && greater_token t) ≡ false → ahead o (t ∷ ts) ≡ t ∷ ahead (behind o t) ts
      go _ s (own) e = ap (λ x. if x then TemplateArgsEnd ∷ [] else t ∷ ahead (behind (b.TemplateList ∷ []) t) ts) e
      go _ _ (more {o = o} c w) e = ap (λ x. if x then TemplateArgsEnd ∷ [] else t ∷ ahead (behind (c ∷ o) t) ts) e

  closes_ended : (is_own o && greater_token t) ≡ true → closes o (t ∷ ts) ≡ true
  closes_ended e = go o s w e
    where
      go : (o s : List Bracket) → Within o s → (is_own o && greater_token t) ≡ true → closes o (t ∷ ts) ≡ true
      go _ s (own) e = ap (λ x. if x then true else closes (behind (b.TemplateList ∷ []) t) ts) e
      go _ _ (more {o = o} c w) e = ap (λ x. if x then true else closes (behind (c ∷ o) t) ts) e

  closes_onward : (is_own o && greater_token t) ≡ false → closes o (t ∷ ts) ≡ closes (behind o t) ts
  closes_onward e = go o s w e
    where
      go : (o s : List Bracket) → Within o s → (is_own o && greater_token t) ≡ false → closes o (t ∷ ts) ≡ closes (behind o t) ts
      go _ s (own) e = ap (λ x. if x then true else closes (behind (b.TemplateList ∷ []) t) ts) e
      go _ _ (more {o = o} c w) e = ap (λ x. if x then true else closes (behind (c ∷ o) t) ts) e

-- Readings

-- from a state, what stands ahead is read
pub record ReadsAhead (r : State) (xs : List ℕ) (o : List Bracket) (ts : List TemplateToken) : Type 0 where
  pub tokens : List SpannedTemplateToken
  pub last : State
  pub left : List ℕ
  pub reads : Reads r xs tokens last left
  pub are : without_places tokens ≡ ahead o ts
  pub ended : closes o ts ≡ false → left ≡ []

-- what was told is read from the other state, too
stands_too : (s r : State) (xs : List ℕ) (n : ℕ) (t : TemplateToken) → Stands s xs n t → r.after_word ≡ s.after_word → Within r.opened s.opened → (is_own r.opened && greater_token t) ≡ false → Stands r xs n t
stands_too s r xs _ _ (closing n u h g) same w e = closing n u h (go (and_both (is_in_list s.opened) (begins_with_greater xs) g))
  where
    go : (is_in_list s.opened ≡ true) × (begins_with_greater xs ≡ true) → (is_in_list r.opened && begins_with_greater xs) ≡ true
    go both = ap (λ x. x && begins_with_greater xs) (in_list_too r.opened s.opened w both.0) ∙ both.1
stands_too s r xs _ _ (asked n u h q o) same w e = asked n u h (ap (λ x. x && is_less (take n xs)) same ∙ q) o
stands_too s r xs _ _ (plain n u h g q) same w e =
    plain n u h
    (not_ended r.opened s.opened w (begins_with_greater xs) (ap (λ x. is_own r.opened && x) (told xs n u h).greater_is ∙ e) g)
    (ap (λ x. x && is_less (take n xs)) same ∙ q)

-- a `>` at the list's own level ends the list there
stands_end : (s r : State) (xs : List ℕ) (n : ℕ) (t : TemplateToken) → Stands s xs n t → (is_own r.opened && greater_token t) ≡ true → Stands r xs 1 TemplateArgsEnd
stands_end s r xs _ _ (closing n u h g) e = absurd (let k = sym (and_false (is_own r.opened)) ∙ e in cc)
stands_end s r xs _ _ (asked {opens = true} n u h q o) e = absurd (let k = sym (and_false (is_own r.opened)) ∙ e in cc)
stands_end s r xs _ _ (asked {opens = false} n u h q o) e =
    let is_less_token : less u ≡ true = sym (told xs n u h).less_is ∙ (and_both s.after_word (is_less (take n xs)) q).1 in
    let k = sym (less_not_greater u is_less_token) ∙ (and_both (is_own r.opened) (greater u) e).1 in absurd cc
stands_end s r xs _ _ (plain n u h g q) e =
    let both = and_both (is_own r.opened) (greater u) e in
    closing n u h (ap (λ x. x && begins_with_greater xs) (own_in_list r.opened both.0) ∙ (told xs n u h).greater_is ∙ both.1)

module _ (r : State) (xs : List ℕ) (n : ℕ) (t : TemplateToken) (ts : List TemplateToken) (s : List Bracket) (w : Within r.opened s) where
  end_ahead : Stands r xs 1 TemplateArgsEnd → (is_own r.opened && greater_token t) ≡ true → ReadsAhead r xs r.opened (t ∷ ts)
  end_ahead stands e = record {
    tokens = spanned r (take 1 xs) TemplateArgsEnd ∷ [];
    last = after r (take 1 xs) TemplateArgsEnd;
    left = drop 1 xs;
    reads = a_token 1 TemplateArgsEnd stands nothing;
    are = sym (ahead_ended r.opened s w t ts e);
    ended = λ still. absurd (let k = sym (closes_ended r.opened s w t ts e) ∙ still in cc);
  }

  last_ahead : Stands r xs n t → (is_own r.opened && greater_token t) ≡ false → behind r.opened t ≡ [] → ReadsAhead r xs r.opened (t ∷ ts)
  last_ahead stands e is = record {
    tokens = spanned r (take n xs) t ∷ [];
    last = after r (take n xs) t;
    left = drop n xs;
    reads = a_token n t stands nothing;
    are = sym (ahead_onward r.opened s w t ts e ∙ ap (λ o. t ∷ ahead o ts) is);
    ended = λ still. absurd (let k = sym (closes_onward r.opened s w t ts e ∙ ap (λ o. closes o ts) is) ∙ still in cc);
  }

  next_ahead : Stands r xs n t → (is_own r.opened && greater_token t) ≡ false → ReadsAhead (after r (take n xs) t) (drop n xs) (behind r.opened t) ts → ReadsAhead r xs r.opened (t ∷ ts)
  next_ahead stands e a = record {
    tokens = spanned r (take n xs) t ∷ a.tokens;
    last = a.last;
    left = a.left;
    reads = a_token n t stands a.reads;
    are = ap (λ us. t ∷ us) a.are ∙ sym (ahead_onward r.opened s w t ts e);
    ended = λ still. a.ended (sym (closes_onward r.opened s w t ts e) ∙ still);
  }

pub reads_ahead : (s : State) (xs : List ℕ) (tokens : List SpannedTemplateToken) (last : State) (left : List ℕ) → Reads s xs tokens last left → left ≡ []
    → (r : State) → r.after_word ≡ s.after_word → Within r.opened s.opened → ReadsAhead r xs r.opened (without_places tokens)
reads_ahead s xs _ _ _ (nothing) e r same w = record { tokens = []; last = r; left = xs; reads = nothing; are = none r.opened s.opened w; ended = λ still. e }
  where
    none : (o p : List Bracket) → Within o p → [] ≡ ahead o []
    none _ p (own) = refl
    none _ _ (more c v) = refl
reads_ahead s xs tokens last left (behind_trivia n h l) e r same w =
    let a = reads_ahead (past s (take n xs)) (drop n xs) tokens last left l e (past r (take n xs)) same w in
    record { tokens = a.tokens; last = a.last; left = a.left; reads = behind_trivia n h a.reads; are = a.are; ended = a.ended }
reads_ahead s xs _ last left (a_token {tokens = tokens} n t h l) e r same w =
    by_end (λ v. reads_ahead (after s (take n xs) t) (drop n xs) tokens last left l e (after r (take n xs) t) refl v) (is_own r.opened && greater_token t) refl
  where
    Rest : Type 0
    Rest = Within (behind r.opened t) (behind s.opened t) → ReadsAhead (after r (take n xs) t) (drop n xs) (behind r.opened t) (without_places tokens)

    onward : Rest → (is_own r.opened && greater_token t) ≡ false → Next (behind r.opened t) (behind s.opened t) → ReadsAhead r xs r.opened (t ∷ without_places tokens)
    onward rest f (shut is) = last_ahead r xs n t (without_places tokens) s.opened w (stands_too s r xs n t h same w f) f is
    onward rest f (goes_on v) = next_ahead r xs n t (without_places tokens) s.opened w (stands_too s r xs n t h same w f) f (rest v)

    by_end : Rest → (x : Bool) → (is_own r.opened && greater_token t) ≡ x → ReadsAhead r xs r.opened (t ∷ without_places tokens)
    by_end rest true f = end_ahead r xs n t (without_places tokens) s.opened w (stands_end s r xs n t h f) f
    by_end rest false f = onward rest f (next_stack r.opened s.opened w t)

-- Levels

pub closed_beyond : (o : List Bracket) (ts : List TemplateToken) (w : List Kind) → closes o ts ≡ true → beyond (length o) (kinds_of (ahead o ts) ++ w) ≡ Some w
closed_beyond [] ts w e = refl
closed_beyond (c ∷ o) [] w e = absurd cc
closed_beyond (c ∷ o) (t ∷ ts) w e = go (closed_beyond (behind (c ∷ o) t) ts w) (is_own (c ∷ o) && greater_token t) refl
  where
    Rest : Type 0
    Rest = closes (behind (c ∷ o) t) ts ≡ true → beyond (length (behind (c ∷ o) t)) (kinds_of (ahead (behind (c ∷ o) t) ts) ++ w) ≡ Some w

    alone : (c : Bracket) (o : List Bracket) → is_own (c ∷ o) ≡ true → beyond (length (c ∷ o)) (k.TemplateArgsEnd ∷ w) ≡ Some w
    alone b.TemplateList [] h = refl
    alone b.TemplateList (d ∷ o) h = absurd cc
    alone b.Plain o h = absurd cc

    go : Rest → (x : Bool) → (is_own (c ∷ o) && greater_token t) ≡ x → beyond (length (c ∷ o)) (kinds_of (ahead (c ∷ o) (t ∷ ts)) ++ w) ≡ Some w
    go rest true h =
        ap (λ x. beyond (length (c ∷ o)) (kinds_of (if x then TemplateArgsEnd ∷ [] else t ∷ ahead (behind (c ∷ o) t) ts) ++ w)) h
        ∙ alone c o (and_both (is_own (c ∷ o)) (greater_token t) h).0
    go rest false h =
        let still : closes (behind (c ∷ o) t) ts ≡ true = sym (ap (λ x. if x then true else closes (behind (c ∷ o) t) ts) h) ∙ e in
        ap (λ x. beyond (length (c ∷ o)) (kinds_of (if x then TemplateArgsEnd ∷ [] else t ∷ ahead (behind (c ∷ o) t) ts) ++ w)) h
        ∙ ap (λ d. beyond d (kinds_of (ahead (behind (c ∷ o) t) ts) ++ w)) (sym ((moves t).levels c o))
        ∙ rest still
