-- Tokens that differ in marks alone that may be left out are told alike.
use Rattle.std.proofs.Common.{◌≡◌, refl, sym, ap, ◌∙◌, subst, Bool, true, false, ◌&&◌, List, [], ◌∷◌}
use Rattle.std.specs.Prelude.{if◌then◌else◌}
use Rattle.wgsl_lex.proofs.Bools.{and_false}
use Rattle.wgsl_token.specs.declared.token.Token.{Token}
use Rattle.wgsl_token.specs.declared.token.Token.TheVariants.{Fixed, Identifier}
use Rattle.wgsl_token.specs.declared.token.Fixed.TheVariants as f
use Rattle.wgsl_templates.specs.declared.meaning.kind.Kind.{Kind}
use Rattle.wgsl_templates.specs.declared.meaning.kind.Kind.TheVariants as k
use Rattle.wgsl_templates.specs.declared.meaning.token.Bracket.{Bracket}
use Rattle.wgsl_templates.specs.declared.meaning.token.TemplateToken.{TemplateToken}
use Rattle.wgsl_templates.specs.declared.meaning.token.TemplateToken.TheVariants.{Plain, TemplateArgsStart, TemplateArgsEnd}
use Rattle.wgsl_templates.specs.Kinds.{kind}
use Rattle.wgsl_templates.specs.Tokens.{is_word, is_in_list, behind, start}
use Rattle.wgsl_print_laws.specs.OptionalMarks.{Before, outside, fresh, behind_kind, before, is_callee, ends_operand, is_closer, outer, groups, may_end_so, comma, at_sign, is_any_word, may_go, may_go_outside, begins_outside, AreAlike}
use Rattle.wgsl_print_laws.specs.OptionalMarks as t
use Rattle.wgsl_print_laws.specs.Laws.{LaidOutButForOptionalMarks}
use Rattle.wgsl_print_laws.proofs.Pieces.{less}
use Rattle.wgsl_print_laws.proofs.Ahead.{is_own, greater_token, ahead, kinds_of}
use Rattle.wgsl_print_laws.proofs.Alike.{is_extra, starts_outside, inside, Alike, none, same, first_has, second_has, first_extra, second_extra, cut, first_void, second_void, list_reads}
use Rattle.wgsl_print_laws.proofs.Marked.{own_list, Lists, Marked, end, begin, less_sign, as_is, marked, found}

-- the other way round
flipped : {b : Before} {o : List Bool} {ts us : List TemplateToken} → AreAlike b o ts us → AreAlike b o us ts
flipped t.none = t.none
flipped (t.same x a) = t.same x (flipped a)
flipped (t.first_has x h g c a) = t.second_has x h g c (flipped a)
flipped (t.second_has x h g c a) = t.first_has x h g c (flipped a)
flipped (t.first_extra x m s a) = t.second_extra x m s (flipped a)
flipped (t.second_extra x m s a) = t.first_extra x m s (flipped a)
flipped (t.same_attribute x m a) = t.same_attribute x m (flipped a)
flipped (t.first_outside x m a) = t.second_outside x m (flipped a)
flipped (t.second_outside x m a) = t.first_outside x m (flipped a)

-- What is alike stays so where more marks may be left out

data Wider : List Bool → List Bool → Type 0 where
  no_groups : Wider [] []
  keep : {o p : List Bool} (x : Bool) → Wider o p → Wider (x ∷ o) (x ∷ p)
  widen : {o p : List Bool} → Wider o p → Wider (false ∷ o) (true ∷ p)

wider_itself : (o : List Bool) → Wider o o
wider_itself [] = no_groups
wider_itself (x ∷ o) = keep x (wider_itself o)

wider_outer : {o p : List Bool} → Wider o p → Wider (outer o) (outer p)
wider_outer (no_groups) = no_groups
wider_outer (keep x w) = w
wider_outer (widen w) = w

wider_end : {o p : List Bool} → Wider o p → may_end_so o ≡ true → may_end_so p ≡ true
wider_end (no_groups) e = e
wider_end (keep x w) e = e
wider_end (widen w) e = refl

wider_groups : (b : Before) (o p : List Bool) (x : Kind) → Wider o p → Wider (groups b o x) (groups b p x)
wider_groups b o p k.ParenLeft w = keep (is_callee b) w
wider_groups b o p k.BracketLeft w = keep false w
wider_groups b o p k.TemplateArgsStart w = keep true w
wider_groups b o p k.ParenRight w = wider_outer w
wider_groups b o p k.BracketRight w = wider_outer w
wider_groups b o p k.TemplateArgsEnd w = wider_outer w
wider_groups b o p _ w = w

wider_outside : (o : List Bool) (x : Kind) → Wider (groups fresh o x) (groups outside o x)
wider_outside o k.ParenLeft = widen (wider_itself o)
wider_outside o k.BracketLeft = wider_itself (false ∷ o)
wider_outside o k.TemplateArgsStart = wider_itself (true ∷ o)
wider_outside o k.ParenRight = wider_itself (outer o)
wider_outside o k.BracketRight = wider_itself (outer o)
wider_outside o k.TemplateArgsEnd = wider_itself (outer o)
wider_outside o _ = wider_itself o

wider_alike : {b : Before} {o : List Bool} {u v : List Kind} (p : List Bool) → Wider o p → Alike b o u v → Alike b p u v
wider_alike p w (none) = none
wider_alike {b = b} {o = o} p w (same x a) = same x (wider_alike (groups b p x) (wider_groups b o p x w) a)
wider_alike {b = b} {o = o} p w (first_has x h i c a) = first_has x h (wider_end w i) c (wider_alike (groups b p x) (wider_groups b o p x w) a)
wider_alike {b = b} {o = o} p w (second_has x h i c a) = second_has x h (wider_end w i) c (wider_alike (groups b p x) (wider_groups b o p x w) a)
wider_alike p w (first_extra x m s a) = first_extra x m s (wider_alike p w a)
wider_alike p w (second_extra x m s a) = second_extra x m s (wider_alike p w a)
wider_alike p w (cut) = cut
wider_alike p w (first_void a) = first_void (wider_alike p w a)
wider_alike p w (second_void a) = second_void (wider_alike p w a)

outside_too : {o : List Bool} {u v : List Kind} → Alike fresh o u v → Alike outside o u v
outside_too (none) = none
outside_too {o = o} (same x a) = same x (wider_alike (groups outside o x) (wider_outside o x) a)
outside_too (first_has x h i c a) = absurd cc
outside_too (second_has x h i c a) = absurd cc
outside_too (first_extra x m s a) = first_extra x m s (outside_too a)
outside_too (second_extra x m s a) = second_extra x m s (outside_too a)
outside_too (cut) = cut

by_kind : {o : List Bool} {u v : List Kind} (x : TemplateToken) → Alike (before x) o u v → Alike (behind_kind (kind x)) o u v
by_kind (Plain (Fixed f.Var)) a = outside_too a
by_kind _ a = a

-- What is ahead

-- a token that closes begins no `>` of its own, and is no `<`
closer_greater : (x : TemplateToken) → is_closer (kind x) ≡ true → greater_token x ≡ false
closer_greater TemplateArgsStart e = refl
closer_greater TemplateArgsEnd e = refl
closer_greater (Plain (Fixed f.ParenRight)) e = refl
closer_greater _ e = absurd cc

-- a step of what is ahead
module _ (c : Bracket) (o : List Bracket) (x : TemplateToken) (ts : List TemplateToken) where
  onward : (is_own (c ∷ o) && greater_token x) ≡ false → kinds_of (ahead (c ∷ o) (x ∷ ts)) ≡ kind x ∷ kinds_of (ahead (behind (c ∷ o) x) ts)
  onward e = ap (λ z. kinds_of (if z then TemplateArgsEnd ∷ [] else x ∷ ahead (behind (c ∷ o) x) ts)) e

  stopped : (is_own (c ∷ o) && greater_token x) ≡ true → kinds_of (ahead (c ∷ o) (x ∷ ts)) ≡ k.TemplateArgsEnd ∷ []
  stopped e = ap (λ z. kinds_of (if z then TemplateArgsEnd ∷ [] else x ∷ ahead (behind (c ∷ o) x) ts)) e

comma_onward : (c : Bracket) (o : List Bracket) (ts : List TemplateToken) → kinds_of (ahead (c ∷ o) (comma ∷ ts)) ≡ k.Comma ∷ kinds_of (ahead (c ∷ o) ts)
comma_onward c o ts = onward c o comma ts (and_false (is_own (c ∷ o)))

closer_onward : (c : Bracket) (o : List Bracket) (x : TemplateToken) (ts : List TemplateToken) → is_closer (kind x) ≡ true → kinds_of (ahead (c ∷ o) (x ∷ ts)) ≡ kind x ∷ kinds_of (ahead (behind (c ∷ o) x) ts)
closer_onward c o x ts e = onward c o x ts (ap (λ z. is_own (c ∷ o) && z) (closer_greater x e) ∙ and_false (is_own (c ∷ o)))

moved : {b : Before} {o : List Bool} {u v y z : List Kind} → u ≡ y → v ≡ z → Alike b o u v → Alike b o y z
moved {b = b} {o = o} e h a = let P : List Kind × List Kind → Type 0 = λ x. Alike b o x.0 x.1 in subst P (λ i. (e i, h i)) a

extra_onward : (c : Bracket) (o : List Bracket) (x : TemplateToken) (ts : List TemplateToken) → may_go x ≡ true → kinds_of (ahead (c ∷ o) (x ∷ ts)) ≡ kind x ∷ kinds_of (ahead (c ∷ o) ts)
extra_onward c o (Plain (Fixed f.Comma)) ts e = onward c o (Plain (Fixed f.Comma)) ts (and_false (is_own (c ∷ o)))
extra_onward c o (Plain (Fixed f.Colon)) ts e = onward c o (Plain (Fixed f.Colon)) ts (and_false (is_own (c ∷ o)))
extra_onward c o (Plain (Fixed f.Semicolon)) ts e = onward c o (Plain (Fixed f.Semicolon)) ts (and_false (is_own (c ∷ o)))
extra_onward c o _ ts e = absurd cc

outside_onward : (c : Bracket) (o : List Bracket) (x : TemplateToken) (ts : List TemplateToken) → may_go_outside x ≡ true → kinds_of (ahead (c ∷ o) (x ∷ ts)) ≡ k.Other ∷ kinds_of (ahead (c ∷ o) ts)
outside_onward c o (Plain (Fixed f.Semicolon)) ts e = onward c o (Plain (Fixed f.Semicolon)) ts (and_false (is_own (c ∷ o)))
outside_onward c o (Plain (Fixed f.Case)) ts e = onward c o (Plain (Fixed f.Case)) ts (and_false (is_own (c ∷ o)))
outside_onward c o _ ts e = absurd cc

extra_kind : (x : TemplateToken) → may_go x ≡ true → is_extra (kind x) ≡ true
extra_kind (Plain (Fixed f.Comma)) e = refl
extra_kind (Plain (Fixed f.Colon)) e = refl
extra_kind (Plain (Fixed f.Semicolon)) e = refl
extra_kind _ e = absurd cc

ahead_outside : (c : Bracket) (o : List Bracket) (ts : List TemplateToken) → begins_outside ts ≡ true → starts_outside (kinds_of (ahead (c ∷ o) ts)) ≡ true
ahead_outside c o [] e = absurd cc
ahead_outside c o (Plain (Fixed f.BraceLeft) ∷ ts) e = ap starts_outside (onward c o (Plain (Fixed f.BraceLeft)) ts (and_false (is_own (c ∷ o))))
ahead_outside c o (Plain (Fixed f.BraceRight) ∷ ts) e = ap starts_outside (onward c o (Plain (Fixed f.BraceRight)) ts (and_false (is_own (c ∷ o))))
ahead_outside c o (Plain (Fixed f.Attr) ∷ ts) e = ap starts_outside (onward c o (Plain (Fixed f.Attr)) ts (and_false (is_own (c ∷ o))))
ahead_outside c o (Plain (Fixed f.Colon) ∷ ts) e = ap starts_outside (onward c o (Plain (Fixed f.Colon)) ts (and_false (is_own (c ∷ o))))
ahead_outside c o (Plain (Fixed f.Semicolon) ∷ ts) e = ap starts_outside (onward c o (Plain (Fixed f.Semicolon)) ts (and_false (is_own (c ∷ o))))
ahead_outside c o (_ ∷ ts) e = absurd cc

at_onward : (c : Bracket) (o : List Bracket) (x : TemplateToken) (ts : List TemplateToken) → kinds_of (ahead (c ∷ o) (at_sign ∷ x ∷ ts)) ≡ k.Other ∷ kinds_of (ahead (c ∷ o) (x ∷ ts))
at_onward c o x ts = onward c o at_sign (x ∷ ts) (and_false (is_own (c ∷ o)))

ahead_alike : {b : Before} {g : List Bool} {ts us : List TemplateToken} → AreAlike b g ts us → (o : List Bracket) → Alike b g (kinds_of (ahead o ts)) (kinds_of (ahead o us))
ahead_alike t.none [] = none
ahead_alike t.none (c ∷ o) = none
ahead_alike (t.same x a) [] = none
ahead_alike {b = b} {g = g} (t.same {ts = ts} {us = us} x a) (c ∷ o) = go (by_kind x (ahead_alike a (behind (c ∷ o) x))) (is_own (c ∷ o) && greater_token x) refl
  where
    go : Alike (behind_kind (kind x)) (groups b g (kind x)) (kinds_of (ahead (behind (c ∷ o) x) ts)) (kinds_of (ahead (behind (c ∷ o) x) us)) → (z : Bool) → (is_own (c ∷ o) && greater_token x) ≡ z
        → Alike b g (kinds_of (ahead (c ∷ o) (x ∷ ts))) (kinds_of (ahead (c ∷ o) (x ∷ us)))
    go r true e = moved (sym (stopped c o x ts e)) (sym (stopped c o x us e)) (same k.TemplateArgsEnd none)
    go r false e = moved (sym (onward c o x ts e)) (sym (onward c o x us e)) (same (kind x) r)
ahead_alike (t.first_has x h i e a) [] = none
ahead_alike (t.first_has {ts = ts} {us = us} x h i e a) (c ∷ o) =
    moved (sym (comma_onward c o (x ∷ ts) ∙ ap (λ z. k.Comma ∷ z) (closer_onward c o x ts e))) (sym (closer_onward c o x us e)) (first_has (kind x) h i e (by_kind x (ahead_alike a (behind (c ∷ o) x))))
ahead_alike (t.second_has x h i e a) [] = none
ahead_alike (t.second_has {ts = ts} {us = us} x h i e a) (c ∷ o) =
    moved (sym (closer_onward c o x ts e)) (sym (comma_onward c o (x ∷ us) ∙ ap (λ z. k.Comma ∷ z) (closer_onward c o x us e))) (second_has (kind x) h i e (by_kind x (ahead_alike a (behind (c ∷ o) x))))
ahead_alike (t.first_extra x m s a) [] = none
ahead_alike (t.first_extra {ts = ts} {us = us} x m s a) (c ∷ o) = moved (sym (extra_onward c o x ts m)) refl (first_extra (kind x) (extra_kind x m) (ahead_outside c o us s) (ahead_alike a (c ∷ o)))
ahead_alike (t.second_extra x m s a) [] = none
ahead_alike (t.second_extra {ts = ts} {us = us} x m s a) (c ∷ o) = moved refl (sym (extra_onward c o x us m)) (second_extra (kind x) (extra_kind x m) (ahead_outside c o ts s) (ahead_alike a (c ∷ o)))
ahead_alike (t.same_attribute x m a) [] = none
ahead_alike (t.same_attribute {ts = ts} {us = us} x m a) (c ∷ o) = moved (sym (at_onward c o x ts)) (sym (at_onward c o x us)) cut
ahead_alike (t.first_outside x m a) [] = none
ahead_alike (t.first_outside {ts = ts} {us = us} x m a) (c ∷ o) = moved (sym (outside_onward c o x ts m)) refl (first_void (ahead_alike a (c ∷ o)))
ahead_alike (t.second_outside x m a) [] = none
ahead_alike (t.second_outside {ts = ts} {us = us} x m a) (c ∷ o) = moved refl (sym (outside_onward c o x us m)) (second_void (ahead_alike a (c ∷ o)))

-- where the one begins with a list, so does the other
lists_over : {g : List Bool} {ts us : List TemplateToken} → AreAlike fresh g ts us → Lists us → Lists ts
lists_over {g = g} {ts = ts} {us = us} a h =
    let p = list_reads h.body h.is_list g (kinds_of (ahead own_list ts)) h.rest (moved refl h.whole (ahead_alike a own_list)) in
    record { body = p.front; rest = p.rest; whole = p.whole; is_list = p.is }

-- Tokens are told alike

closer_marked : (w v : Bool) (o : List Bracket) (x : TemplateToken) (ts us : List TemplateToken) → is_closer (kind x) ≡ true → (Marked (is_word x) (behind o x) ts → Marked (is_word x) (behind o x) us) → Marked w o (x ∷ ts) → Marked v o (x ∷ us)
closer_marked w v o _ ts us e go (end inside h) = end inside (go h)
closer_marked w v o _ ts us e go (begin word list h) = absurd cc
closer_marked w v o (Plain u) ts us e go (less_sign word sign never h) = absurd (let k = sym sign ∙ closer_less u e in cc)
  where
    closer_less : (u : Token) → is_closer (kind (Plain u)) ≡ true → less u ≡ false
    closer_less (Fixed f.ParenRight) e = refl
    closer_less _ e = absurd cc
closer_marked w v o (Plain u) ts us e go (as_is g q h) = as_is g (ap (λ z. v && z) (closer_less u e) ∙ and_false v) (go h)
  where
    closer_less : (u : Token) → is_closer (kind (Plain u)) ≡ true → less u ≡ false
    closer_less (Fixed f.ParenRight) e = refl
    closer_less _ e = absurd cc

comma_gone : (w v : Bool) (o : List Bracket) (x : TemplateToken) (ts us : List TemplateToken) → is_closer (kind x) ≡ true → (Marked (is_word x) (behind o x) ts → Marked (is_word x) (behind o x) us) → Marked w o (comma ∷ x ∷ ts) → Marked v o (x ∷ us)
comma_gone w v o x ts us e go (less_sign word sign never h) = absurd cc
comma_gone w v o x ts us e go (as_is g q h) = closer_marked false v o x ts us e go h

comma_there : (w v : Bool) (o : List Bracket) (x : TemplateToken) (ts us : List TemplateToken) → is_closer (kind x) ≡ true → (Marked (is_word x) (behind o x) ts → Marked (is_word x) (behind o x) us) → Marked w o (x ∷ ts) → Marked v o (comma ∷ x ∷ us)
comma_there w v o x ts us e go h = as_is (and_false (is_in_list o)) (and_false v) (closer_marked w false o x ts us e go h)

less_fresh : (u : Token) → less u ≡ true → before (Plain u) ≡ fresh
less_fresh (Fixed f.LessThan) e = refl
less_fresh _ e = absurd cc

extra_gone : (w : Bool) (o : List Bracket) (x : TemplateToken) (ts : List TemplateToken) → may_go x ≡ true → Marked w o (x ∷ ts) → Marked false o ts
extra_gone w o _ ts e (end inside h) = absurd cc
extra_gone w o _ ts e (begin word list h) = absurd cc
extra_gone w o (Plain (Fixed f.Comma)) ts e (less_sign word sign never h) = absurd cc
extra_gone w o (Plain (Fixed f.Colon)) ts e (less_sign word sign never h) = absurd cc
extra_gone w o (Plain (Fixed f.Semicolon)) ts e (less_sign word sign never h) = absurd cc
extra_gone w o (Plain _) ts e (less_sign word sign never h) = absurd cc
extra_gone w o (Plain (Fixed f.Comma)) ts e (as_is g q h) = h
extra_gone w o (Plain (Fixed f.Colon)) ts e (as_is g q h) = h
extra_gone w o (Plain (Fixed f.Semicolon)) ts e (as_is g q h) = h
extra_gone w o (Plain _) ts e (as_is g q h) = absurd cc

extra_there : (w : Bool) (o : List Bracket) (x : TemplateToken) (ts : List TemplateToken) → may_go x ≡ true → Marked false o ts → Marked w o (x ∷ ts)
extra_there w o (Plain (Fixed f.Comma)) ts e h = as_is (and_false (is_in_list o)) (and_false w) h
extra_there w o (Plain (Fixed f.Colon)) ts e h = as_is (and_false (is_in_list o)) (and_false w) h
extra_there w o (Plain (Fixed f.Semicolon)) ts e h = as_is (and_false (is_in_list o)) (and_false w) h
extra_there w o _ ts e h = absurd cc

outside_gone : (w : Bool) (o : List Bracket) (x : TemplateToken) (ts : List TemplateToken) → may_go_outside x ≡ true → Marked w o (x ∷ ts) → Marked false o ts
outside_gone w o _ ts e (end inside h) = absurd cc
outside_gone w o _ ts e (begin word list h) = absurd cc
outside_gone w o (Plain (Fixed f.Semicolon)) ts e (less_sign word sign never h) = absurd cc
outside_gone w o (Plain (Fixed f.Case)) ts e (less_sign word sign never h) = absurd cc
outside_gone w o (Plain _) ts e (less_sign word sign never h) = absurd cc
outside_gone w o (Plain (Fixed f.Semicolon)) ts e (as_is g q h) = h
outside_gone w o (Plain (Fixed f.Case)) ts e (as_is g q h) = h
outside_gone w o (Plain _) ts e (as_is g q h) = absurd cc

outside_there : (w : Bool) (o : List Bracket) (x : TemplateToken) (ts : List TemplateToken) → may_go_outside x ≡ true → Marked false o ts → Marked w o (x ∷ ts)
outside_there w o (Plain (Fixed f.Semicolon)) ts e h = as_is (and_false (is_in_list o)) (and_false w) h
outside_there w o (Plain (Fixed f.Case)) ts e h = as_is (and_false (is_in_list o)) (and_false w) h
outside_there w o _ ts e h = absurd cc

outside_less : (u : Token) (ts : List TemplateToken) → begins_outside (Plain u ∷ ts) ≡ true → less u ≡ false
outside_less (Fixed f.LessThan) ts e = absurd cc
outside_less _ ts e = refl

-- what begins outside stands behind any token
any_word : (w v : Bool) (o : List Bracket) (ts : List TemplateToken) → begins_outside ts ≡ true → Marked w o ts → Marked v o ts
any_word w v o [] e h = absurd cc
any_word w v o (_ ∷ ts) e (end inside h) = absurd cc
any_word w v o (_ ∷ ts) e (begin word list h) = absurd cc
any_word w v o (Plain u ∷ ts) e (less_sign word sign never h) = absurd (let k = sym sign ∙ outside_less u ts e in cc)
any_word w v o (Plain u ∷ ts) e (as_is g q h) = as_is g (ap (λ z. v && z) (outside_less u ts e) ∙ and_false v) h

-- nothing outside but `var` is a word
abbrev Fits : Before → Bool → Type 0
Fits b w = inside b ≡ false → w ≡ false

fits_behind : (x : TemplateToken) → Fits (before x) (is_word x)
fits_behind (Plain (Fixed f.Var)) e = absurd cc
fits_behind (Plain (Identifier name)) e = absurd cc
fits_behind _ e = refl

-- a word is told as it stands
word_step : (w : Bool) (o : List Bracket) (x : TemplateToken) (ts us : List TemplateToken) → is_any_word x ≡ true → ((v : Bool) → Marked v o ts → Marked v o us) → Marked w o (x ∷ ts) → Marked w o (x ∷ us)
word_step w o _ ts us e go (end inside h) = absurd cc
word_step w o _ ts us e go (begin word list h) = absurd cc
word_step w o (Plain (Fixed f.LessThan)) ts us e go (less_sign word sign never h) = absurd cc
word_step w o (Plain _) ts us e go (less_sign word sign never h) = absurd cc
word_step w o (Plain u) ts us e go (as_is p q h) = as_is p q (step u e h)
  where
    step : (u : Token) → is_any_word (Plain u) ≡ true → Marked (is_word (Plain u)) (behind o (Plain u)) ts → Marked (is_word (Plain u)) (behind o (Plain u)) us
    step (Fixed f.ParenLeft) e h = absurd cc
    step (Fixed f.ParenRight) e h = absurd cc
    step (Fixed f.BracketLeft) e h = absurd cc
    step (Fixed f.BracketRight) e h = absurd cc
    step _ e h = go _ h

at_step : (w : Bool) (o : List Bracket) (ts us : List TemplateToken) → (Marked false o ts → Marked false o us) → Marked w o (at_sign ∷ ts) → Marked w o (at_sign ∷ us)
at_step w o ts us go (less_sign word sign never h) = absurd cc
at_step w o ts us go (as_is p q h) = as_is p q (go h)

marked_alike : {b : Before} {g : List Bool} {ts us : List TemplateToken} → AreAlike b g ts us → (w : Bool) (o : List Bracket) → Fits b w → Marked w o ts → Marked w o us
marked_alike t.none w o f h = h
marked_alike (t.same _ a) w o f (end inside h) = end inside (marked_alike a false _ (λ e. refl) h)
marked_alike (t.same _ a) w o f (begin word list h) = begin word (lists_over (flipped a) list) (marked_alike a false _ (λ e. refl) h)
marked_alike {b = b} {g = g} (t.same {ts = ts} {us = us} _ a) w o f (less_sign {t = u} word sign never h) =
    let P : Before → Type 0 = λ z. AreAlike z (groups b g (kind (Plain u))) ts us in
    less_sign word sign (λ list. never (lists_over (subst P (less_fresh u sign) a) list)) (marked_alike a _ _ (fits_behind (Plain u)) h)
marked_alike (t.same _ a) w o f (as_is {t = u} p q h) = as_is p q (marked_alike a _ _ (fits_behind (Plain u)) h)
marked_alike (t.first_has {ts = ts} {us = us} x i j c a) w o f h = comma_gone w w o x ts us c (marked_alike a (is_word x) (behind o x) (fits_behind x)) h
marked_alike (t.second_has {ts = ts} {us = us} x i j c a) w o f h = comma_there w w o x ts us c (marked_alike a (is_word x) (behind o x) (fits_behind x)) h
marked_alike (t.first_extra {ts = ts} {us = us} x m s a) w o f h = any_word false w o us s (marked_alike a false o (λ e. refl) (extra_gone w o x ts m h))
marked_alike (t.second_extra {ts = ts} {us = us} x m s a) w o f h = extra_there w o x us m (marked_alike a false o (λ e. refl) (any_word w false o ts s h))
marked_alike (t.same_attribute {ts = ts} {us = us} x m a) w o f h = at_step w o (x ∷ ts) (x ∷ us) (word_step false o x ts us m (λ v. marked_alike a v o (λ e. absurd cc))) h
marked_alike (t.first_outside {ts = ts} {us = us} x m a) w o f h =
    let P : Bool → Type 0 = λ z. Marked z o us in subst P (sym (f refl)) (marked_alike a false o (λ e. refl) (outside_gone w o x ts m h))
marked_alike (t.second_outside {ts = ts} {us = us} x m a) w o f h =
    let P : Bool → Type 0 = λ z. Marked z o ts in outside_there w o x us m (marked_alike a false o (λ e. refl) (subst P (f refl) h))

pub laid_out_but_for_optional_marks : LaidOutButForOptionalMarks
laid_out_but_for_optional_marks text other tokens us l a t =
    let h = marked_alike a false [] (λ e. refl) (marked start l.characters tokens l.lexes.0 [] l.lexes.1 refl) in
    let x = found t.characters us t.laid_out false [] h start refl refl in
    (x.tokens, record { characters = t.characters; are_scalars = t.are_scalars; spell = t.spell; lexes = (x.last, x.reads) }, x.are)
