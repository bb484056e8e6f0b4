-- Kinds of tokens that differ in marks alone that may be left out are read alike by the grammar.
use Rattle.std.proofs.Common.{◌≡◌, refl, sym, ap, ◌∙◌, subst, Bool, true, false, List, [], ◌∷◌, ◌++◌, append_assoc}
use Rattle.wgsl_templates.specs.declared.meaning.kind.Kind.{Kind}
use Rattle.wgsl_templates.specs.declared.meaning.kind.Kind.TheVariants as k
use Rattle.wgsl_templates.specs.Grammar.{is_prefix, is_multiplicative, is_additive, is_bitwise, is_logical, IsQualified, id, within, IsRelative, once, again, IsName, qualified, from_package, from_super, IsType, named, templated, IsPrimary, literal, type, call, parenthesized, IsArguments, no_argument, last_argument, more_arguments, IsSingular, primary, member, index, IsUnary, singular, prefixed, IsProduct, unary, times, IsSum, product, plus, IsShift, sum, shifted, IsRelational, shift, compared, IsBitwise, two_unaries, more_unaries, IsLogical, two_relations, more_relations, IsItem, relational, bitwise, IsExpression, item, logical, IsListBody, last_item, last_and_comma, more_items}
use Rattle.wgsl_print_laws.specs.OptionalMarks.{Before, outside, fresh, callee, operand, behind_kind, is_callee, ends_operand, is_closer, outer, groups, may_end_so}

-- marks that may be left out, and what stands in no expression
abbrev pub is_extra : Kind → Bool
is_extra k.Comma = true
is_extra k.Other = true
is_extra _ = false

abbrev pub starts_outside : List Kind → Bool
starts_outside (k.Other ∷ u) = true
starts_outside _ = false

abbrev pub inside : Before → Bool
inside outside = false
inside _ = true

pub data Alike : Before → List Bool → List Kind → List Kind → Type 0 where
  none : {b : Before} {o : List Bool} → Alike b o [] []
  same : {b : Before} {o : List Bool} {u v : List Kind} (x : Kind) → Alike (behind_kind x) (groups b o x) u v → Alike b o (x ∷ u) (x ∷ v)
  first_has : {b : Before} {o : List Bool} {u v : List Kind} (x : Kind) → ends_operand b ≡ true → may_end_so o ≡ true → is_closer x ≡ true → Alike (behind_kind x) (groups b o x) u v → Alike b o (k.Comma ∷ x ∷ u) (x ∷ v)
  second_has : {b : Before} {o : List Bool} {u v : List Kind} (x : Kind) → ends_operand b ≡ true → may_end_so o ≡ true → is_closer x ≡ true → Alike (behind_kind x) (groups b o x) u v → Alike b o (x ∷ u) (k.Comma ∷ x ∷ v)
  first_extra : {b : Before} {o : List Bool} {u v : List Kind} (x : Kind) → is_extra x ≡ true → starts_outside v ≡ true → Alike b o u v → Alike b o (x ∷ u) v
  second_extra : {b : Before} {o : List Bool} {u v : List Kind} (x : Kind) → is_extra x ≡ true → starts_outside u ≡ true → Alike b o u v → Alike b o u (x ∷ v)
  -- (of what stands behind a token that stands in no expression nothing is asked)
  cut : {b : Before} {o : List Bool} {u v : List Kind} → Alike b o (k.Other ∷ u) (k.Other ∷ v)
  first_void : {o : List Bool} {u v : List Kind} → Alike outside o u v → Alike outside o (k.Other ∷ u) v
  second_void : {o : List Bool} {u v : List Kind} → Alike outside o u v → Alike outside o u (k.Other ∷ v)

-- a kind that neither is a comma nor closes, and stands in an expression, is in both
abbrev is_plain : Kind → Bool
is_plain k.Comma = false
is_plain k.ParenRight = false
is_plain k.TemplateArgsEnd = false
is_plain k.Other = false
is_plain _ = true

plain_no_closer : (x : Kind) → is_plain x ≡ true → is_closer x ≡ true → ⊥
plain_no_closer k.ParenRight e h = absurd cc
plain_no_closer k.TemplateArgsEnd e h = absurd cc
plain_no_closer _ e h = absurd cc

plain_no_extra : (x : Kind) → is_plain x ≡ true → is_extra x ≡ true → ⊥
plain_no_extra k.Comma e h = absurd cc
plain_no_extra k.Other e h = absurd cc
plain_no_extra _ e h = absurd cc

plain_inside : (x : Kind) (u : List Kind) → is_plain x ≡ true → starts_outside (x ∷ u) ≡ true → ⊥
plain_inside k.Other u e h = absurd cc
plain_inside _ u e h = absurd cc

closer_no_extra : (x : Kind) → is_closer x ≡ true → is_extra x ≡ true → ⊥
closer_no_extra k.Comma e h = absurd cc
closer_no_extra k.Other e h = absurd cc
closer_no_extra _ e h = absurd cc

closer_inside : (x : Kind) (u : List Kind) → is_closer x ≡ true → starts_outside (x ∷ u) ≡ true → ⊥
closer_inside k.Other u e h = absurd cc
closer_inside _ u e h = absurd cc

record Kept (b : Before) (o : List Bool) (x : Kind) (u v : List Kind) : Type 0 where
  rest : List Kind
  whole : u ≡ x ∷ rest
  alike : Alike (behind_kind x) (groups b o x) rest v

kept : (b : Before) (o : List Bool) (x : Kind) (u v : List Kind) → is_plain x ≡ true → inside b ≡ true → Alike b o u (x ∷ v) → Kept b o x u v
kept b o x _ v e f (same {u = u} _ a) = record { rest = u; whole = refl; alike = a }
kept b o x _ v e f (first_has _ h g c a) = absurd (plain_no_closer x e c)
kept b o _ _ _ e f (second_has x h g c a) = absurd cc
kept b o x _ v e f (first_extra y m s a) = absurd (plain_inside x v e s)
kept b o x _ v e f (second_extra _ m s a) = absurd (plain_no_extra x e m)
kept b o _ _ _ e f (cut) = absurd cc
kept _ o x _ v e f (first_void a) = absurd cc
kept _ o _ _ v e f (second_void a) = absurd cc

-- one that closes
data Closed (b : Before) (o : List Bool) (x : Kind) (u v : List Kind) : Type 0 where
  at_once : (rest : List Kind) → u ≡ x ∷ rest → Alike (behind_kind x) (groups b o x) rest v → Closed b o x u v
  behind_comma : (rest : List Kind) → u ≡ k.Comma ∷ x ∷ rest → ends_operand b ≡ true → may_end_so o ≡ true → Alike (behind_kind x) (groups b o x) rest v → Closed b o x u v

closed : (b : Before) (o : List Bool) (x : Kind) (u v : List Kind) → is_closer x ≡ true → inside b ≡ true → Alike b o u (x ∷ v) → Closed b o x u v
closed b o x _ v e f (same {u = u} _ a) = at_once u refl a
closed b o x _ v e f (first_has {u = u} _ h g c a) = behind_comma u refl h g a
closed b o _ _ _ e f (second_has x h g c a) = absurd cc
closed b o x _ v e f (first_extra y m s a) = absurd (closer_inside x v e s)
closed b o x _ v e f (second_extra _ m s a) = absurd (closer_no_extra x e m)
closed b o _ _ _ e f (cut) = absurd cc
closed _ o x _ v e f (first_void a) = absurd cc
closed _ o _ _ v e f (second_void a) = absurd cc

-- a comma
data Parted (b : Before) (o : List Bool) (u v : List Kind) : Type 0 where
  both : (rest : List Kind) → u ≡ k.Comma ∷ rest → Alike fresh o rest v → Parted b o u v
  last_one : (x : Kind) (rest left : List Kind) → v ≡ x ∷ left → u ≡ x ∷ rest → is_closer x ≡ true → Alike (behind_kind x) (groups b o x) rest left → Parted b o u v
  one_outside : starts_outside u ≡ true → Alike b o u v → Parted b o u v

parted : (b : Before) (o : List Bool) (u v : List Kind) → inside b ≡ true → Alike b o u (k.Comma ∷ v) → Parted b o u v
parted b o _ v f (same {u = u} _ a) = both u refl a
parted b o _ v f (first_has _ h g c a) = absurd cc
parted b o _ _ f (second_has {u = u} {v = v} x h g c a) = last_one x u v refl refl c a
parted b o _ v f (first_extra y m s a) = absurd cc
parted b o u v f (second_extra _ m s a) = one_outside s a
parted _ o _ v f (first_void a) = absurd cc

-- some kinds of which the front is a phrase, and what is left is alike
pub record Goes (X : List Kind → Type 0) (ends : Before → Type 0) (o : List Bool) (u w : List Kind) : Type 0 where
  pub front : List Kind
  pub rest : List Kind
  pub whole : u ≡ front ++ rest
  pub is : X front
  pub last : Before
  pub ended : ends last
  pub alike : Alike last o rest w

abbrev pub Callee : Before → Type 0
Callee b = b ≡ callee

abbrev Ends : Before → Type 0
Ends b = ends_operand b ≡ true

-- what begins behind no operand
abbrev Reads : (List Kind → Type 0) → (Before → Type 0) → List Kind → Type 0
Reads X ends v = (o : List Bool) (u w : List Kind) → Alike fresh o u (v ++ w) → Goes X ends o u w

ended_inside : (b : Before) → ends_operand b ≡ true → inside b ≡ true
ended_inside outside e = absurd cc
ended_inside fresh e = refl
ended_inside callee e = refl
ended_inside operand e = refl

called_inside : (b : Before) → b ≡ callee → inside b ≡ true
called_inside b e = ap inside e

join : (u f r g s : List Kind) → u ≡ f ++ r → r ≡ g ++ s → u ≡ (f ++ g) ++ s
join u f r g s e h = e ∙ ap (λ x. f ++ x) h ∙ sym (append_assoc f g s)

regroup : {b : Before} {o : List Bool} {u : List Kind} (v x w : List Kind) → Alike b o u ((v ++ x) ++ w) → Alike b o u (v ++ (x ++ w))
regroup {b = b} {o = o} {u = u} v x w a = subst (Alike b o u) (append_assoc v x w) a

at_before : {o : List Bool} {u v : List Kind} (b c : Before) → b ≡ c → Alike b o u v → Alike c o u v
at_before {o = o} {u = u} {v = v} b c e a = let P : Before → Type 0 = λ x. Alike x o u v in subst P e a

at_groups : {b : Before} {u v : List Kind} (o p : List Bool) → o ≡ p → Alike b o u v → Alike b p u v
at_groups {b = b} {u = u} {v = v} o p e a = let P : List Bool → Type 0 = λ x. Alike b x u v in subst P e a

-- an operator opens nothing, and an operand stands behind it
record Operator (x : Kind) : Type 0 where
  plain : is_plain x ≡ true
  fresh_behind : behind_kind x ≡ fresh
  level : (b : Before) (o : List Bool) → groups b o x ≡ o

prefix_operator : (o : Kind) → is_prefix o ≡ true → Operator o
prefix_operator k.Minus e = record { plain = refl; fresh_behind = refl; level = λ b o. refl }
prefix_operator k.Not e = record { plain = refl; fresh_behind = refl; level = λ b o. refl }
prefix_operator k.Star e = record { plain = refl; fresh_behind = refl; level = λ b o. refl }
prefix_operator k.And e = record { plain = refl; fresh_behind = refl; level = λ b o. refl }
prefix_operator _ e = absurd cc

multiplicative_operator : (o : Kind) → is_multiplicative o ≡ true → Operator o
multiplicative_operator k.Star e = record { plain = refl; fresh_behind = refl; level = λ b o. refl }
multiplicative_operator k.Division e = record { plain = refl; fresh_behind = refl; level = λ b o. refl }
multiplicative_operator _ e = absurd cc

additive_operator : (o : Kind) → is_additive o ≡ true → Operator o
additive_operator k.Plus e = record { plain = refl; fresh_behind = refl; level = λ b o. refl }
additive_operator k.Minus e = record { plain = refl; fresh_behind = refl; level = λ b o. refl }
additive_operator _ e = absurd cc

bitwise_operator : (o : Kind) → is_bitwise o ≡ true → Operator o
bitwise_operator k.And e = record { plain = refl; fresh_behind = refl; level = λ b o. refl }
bitwise_operator k.Or e = record { plain = refl; fresh_behind = refl; level = λ b o. refl }
bitwise_operator k.Xor e = record { plain = refl; fresh_behind = refl; level = λ b o. refl }
bitwise_operator _ e = absurd cc

logical_operator : (o : Kind) → is_logical o ≡ true → Operator o
logical_operator k.AndAnd e = record { plain = refl; fresh_behind = refl; level = λ b o. refl }
logical_operator k.OrOr e = record { plain = refl; fresh_behind = refl; level = λ b o. refl }
logical_operator _ e = absurd cc

shift_operator : Operator k.Shift
shift_operator = record { plain = refl; fresh_behind = refl; level = λ b o. refl }

comparison_operator : Operator k.Comparison
comparison_operator = record { plain = refl; fresh_behind = refl; level = λ b o. refl }

module _ (x : Kind) (op : Operator x) where
  behind_operator : (b : Before) (o : List Bool) (u v : List Kind) → Alike (behind_kind x) (groups b o x) u v → Alike fresh o u v
  behind_operator b o u v a = at_before (behind_kind x) fresh op.fresh_behind (at_groups (groups b o x) o (op.level b o) a)

  between : {X Y Z : List Kind → Type 0} (v y : List Kind) → Reads X Ends v → Reads Y Ends y → ((f g : List Kind) → X f → Y g → Z (f ++ (x ∷ g))) → Reads Z Ends (v ++ (x ∷ y))
  between v y first second lift o u w a =
      let p = first o u ((x ∷ y) ++ w) (regroup v (x ∷ y) w a) in
      let m = kept p.last o x p.rest (y ++ w) op.plain (ended_inside p.last p.ended) p.alike in
      let q = second o m.rest w (behind_operator p.last o m.rest (y ++ w) m.alike) in
      record {
        front = p.front ++ (x ∷ q.front);
        rest = q.rest;
        whole = join u p.front p.rest (x ∷ q.front) q.rest p.whole (m.whole ∙ ap (λ z. x ∷ z) q.whole);
        is = lift p.front q.front p.is q.is;
        last = q.last;
        ended = q.ended;
        alike = q.alike;
      }

  in_front : {Y Z : List Kind → Type 0} (y : List Kind) → Reads Y Ends y → ((g : List Kind) → Y g → Z (x ∷ g)) → Reads Z Ends (x ∷ y)
  in_front y second lift o u w a =
      let m = kept fresh o x u (y ++ w) op.plain refl a in
      let q = second o m.rest w (behind_operator fresh o m.rest (y ++ w) m.alike) in
      record { front = x ∷ q.front; rest = q.rest; whole = m.whole ∙ ap (λ z. x ∷ z) q.whole; is = lift q.front q.is; last = q.last; ended = q.ended; alike = q.alike }

as_is : {X Z : List Kind → Type 0} {E F : Before → Type 0} (v : List Kind) → ((f : List Kind) → X f → Z f) → ((b : Before) → E b → F b) → Reads X E v → Reads Z F v
as_is v lift lower reads o u w a = let p = reads o u w a in record { front = p.front; rest = p.rest; whole = p.whole; is = lift p.front p.is; last = p.last; ended = lower p.last p.ended; alike = p.alike }

-- Names

module _ (b : Before) (o : List Bool) (f : inside b ≡ true) where
  -- a name behind what stands before it
  named_by : (x y : Kind) (v u w : List Kind) {X Z : List Kind → Type 0} → is_plain x ≡ true → inside (behind_kind x) ≡ true → is_plain y ≡ true → behind_kind y ≡ fresh → ((c : Before) → groups c (groups b o x) y ≡ o) → ((f : List Kind) → X f → Z (x ∷ y ∷ f))
      → ((s : List Kind) → Alike fresh o s (v ++ w) → Goes X Callee o s w) → Alike b o u (x ∷ y ∷ (v ++ w)) → Goes Z Callee o u w
  named_by x y v u w p g q h level lift reads a =
      let m = kept b o x u (y ∷ (v ++ w)) p f a in
      let n = kept (behind_kind x) (groups b o x) y m.rest (v ++ w) q g m.alike in
      let r = reads n.rest (at_before (behind_kind y) fresh h (at_groups _ o (level (behind_kind x)) n.alike)) in
      record { front = x ∷ y ∷ r.front; rest = r.rest; whole = m.whole ∙ ap (λ z. x ∷ z) n.whole ∙ ap (λ z. x ∷ y ∷ z) r.whole; is = lift r.front r.is; last = r.last; ended = r.ended; alike = r.alike }

qualified_reads : (v : List Kind) → IsQualified v → Reads IsQualified Callee v
qualified_reads _ (id) o u w a =
    let m = kept fresh o k.Word u w refl refl a in record { front = k.Word ∷ []; rest = m.rest; whole = m.whole; is = id; last = callee; ended = refl; alike = m.alike }
qualified_reads _ (within {u = v} h) o u w a = named_by fresh o refl k.Word k.PathSeparator v u w refl refl refl refl (λ c. refl) (λ f x. within x) (λ s x. qualified_reads v h o s w x) a

relative_reads : (v : List Kind) → IsRelative v → Reads IsRelative Callee v
relative_reads _ (once {u = v} h) o u w a = named_by fresh o refl k.Super k.PathSeparator v u w refl refl refl refl (λ c. refl) (λ f x. once x) (λ s x. qualified_reads v h o s w x) a
relative_reads _ (again {u = v} h) o u w a = named_by fresh o refl k.Super k.PathSeparator v u w refl refl refl refl (λ c. refl) (λ f x. again x) (λ s x. relative_reads v h o s w x) a

name_reads : (v : List Kind) → IsName v → Reads IsName Callee v
name_reads v (qualified h) o u w a = as_is v (λ f x. qualified x) (λ d e. e) (qualified_reads v h) o u w a
name_reads _ (from_package {u = v} h) o u w a = named_by fresh o refl k.Package k.PathSeparator v u w refl refl refl refl (λ d. refl) (λ f x. from_package x) (λ s x. qualified_reads v h o s w x) a
name_reads v (from_super h) o u w a = as_is v (λ f x. from_super x) (λ d e. e) (relative_reads v h) o u w a

-- What phrases begin with: nothing that closes, no comma, and nothing that stands in no expression

abbrev starts : List Kind → Bool
starts [] = false
starts (k.ParenRight ∷ u) = false
starts (k.TemplateArgsEnd ∷ u) = false
starts (k.Comma ∷ u) = false
starts (k.Other ∷ u) = false
starts (x ∷ u) = true

starts_append : (u v : List Kind) → starts u ≡ true → starts (u ++ v) ≡ true
starts_append [] v e = absurd cc
starts_append (k.ParenRight ∷ u) v e = absurd cc
starts_append (k.TemplateArgsEnd ∷ u) v e = absurd cc
starts_append (k.Comma ∷ u) v e = absurd cc
starts_append (k.Other ∷ u) v e = absurd cc
starts_append (_ ∷ u) v e = refl

no_closer : (x : Kind) (u : List Kind) → starts (x ∷ u) ≡ true → is_closer x ≡ true → ⊥
no_closer k.ParenRight u e h = absurd cc
no_closer k.TemplateArgsEnd u e h = absurd cc
no_closer _ u e h = absurd cc

qualified_starts : (u : List Kind) → IsQualified u → starts u ≡ true
qualified_starts _ (id) = refl
qualified_starts _ (within h) = refl

relative_starts : (u : List Kind) → IsRelative u → starts u ≡ true
relative_starts _ (once h) = refl
relative_starts _ (again h) = refl

name_starts : (u : List Kind) → IsName u → starts u ≡ true
name_starts u (qualified h) = qualified_starts u h
name_starts _ (from_package h) = refl
name_starts u (from_super h) = relative_starts u h

prefix_starts : (o : Kind) (u : List Kind) → is_prefix o ≡ true → starts (o ∷ u) ≡ true
prefix_starts k.ParenRight u e = absurd cc
prefix_starts k.TemplateArgsEnd u e = absurd cc
prefix_starts k.Comma u e = absurd cc
prefix_starts k.Other u e = absurd cc
prefix_starts _ u e = refl

type_starts : (u : List Kind) → IsType u → starts u ≡ true
type_starts u (named h) = name_starts u h
type_starts _ (templated {u = u} h l) = starts_append u _ (name_starts u h)

primary_starts : (u : List Kind) → IsPrimary u → starts u ≡ true
primary_starts _ (literal) = refl
primary_starts u (type h) = type_starts u h
primary_starts _ (call {u = u} h a) = starts_append u _ (type_starts u h)
primary_starts _ (parenthesized h) = refl

singular_starts : (u : List Kind) → IsSingular u → starts u ≡ true
singular_starts u (primary h) = primary_starts u h
singular_starts _ (member {u = u} h) = starts_append u _ (singular_starts u h)
singular_starts _ (index {u = u} h i) = starts_append u _ (singular_starts u h)

unary_starts : (u : List Kind) → IsUnary u → starts u ≡ true
unary_starts u (singular h) = singular_starts u h
unary_starts _ (prefixed {u = u} o e h) = prefix_starts o u e

product_starts : (u : List Kind) → IsProduct u → starts u ≡ true
product_starts u (unary h) = unary_starts u h
product_starts _ (times {u = u} o h e i) = starts_append u _ (product_starts u h)

sum_starts : (u : List Kind) → IsSum u → starts u ≡ true
sum_starts u (product h) = product_starts u h
sum_starts _ (plus {u = u} o h e i) = starts_append u _ (sum_starts u h)

shift_starts : (u : List Kind) → IsShift u → starts u ≡ true
shift_starts u (sum h) = sum_starts u h
shift_starts _ (shifted {u = u} h i) = starts_append u _ (unary_starts u h)

relational_starts : (u : List Kind) → IsRelational u → starts u ≡ true
relational_starts u (shift h) = shift_starts u h
relational_starts _ (compared {u = u} h i) = starts_append u _ (shift_starts u h)

bitwise_starts : (o : Kind) (u : List Kind) → IsBitwise o u → starts u ≡ true
bitwise_starts o _ (two_unaries {u = u} _ h i) = starts_append u _ (unary_starts u h)
bitwise_starts o _ (more_unaries {u = u} _ h i) = starts_append u _ (bitwise_starts o u h)

logical_starts : (o : Kind) (u : List Kind) → IsLogical o u → starts u ≡ true
logical_starts o _ (two_relations {u = u} _ h i) = starts_append u _ (relational_starts u h)
logical_starts o _ (more_relations {u = u} _ h i) = starts_append u _ (logical_starts o u h)

item_starts : (u : List Kind) → IsItem u → starts u ≡ true
item_starts u (relational h) = relational_starts u h
item_starts u (bitwise o e h) = bitwise_starts o u h

expression_starts : (u : List Kind) → IsExpression u → starts u ≡ true
expression_starts u (item h) = item_starts u h
expression_starts u (logical o e h) = logical_starts o u h

-- where a list's end was met, more is absurd
not_more : (v w left : List Kind) (x : Kind) → starts v ≡ true → v ++ w ≡ x ∷ left → is_closer x ≡ true → ⊥
not_more v w left x s e c = no_closer x left (ap starts (sym e) ∙ starts_append v w s) c

-- What begins outside of expressions is not alike what begins inside.
abbrev starts_within : List Kind → Bool
starts_within [] = false
starts_within (k.Comma ∷ u) = false
starts_within (k.Other ∷ u) = false
starts_within (x ∷ u) = true

within_too : (u : List Kind) → starts u ≡ true → starts_within u ≡ true
within_too [] e = absurd cc
within_too (k.Comma ∷ u) e = absurd cc
within_too (k.Other ∷ u) e = absurd cc
within_too (_ ∷ u) e = refl

starts_inside : (x : Kind) (u : List Kind) → starts_within (x ∷ u) ≡ true → is_extra x ≡ true → ⊥
starts_inside k.Comma u e h = absurd cc
starts_inside k.Other u e h = absurd cc
starts_inside _ u e h = absurd cc

not_outside : (v : List Kind) → starts_within v ≡ true → starts_outside v ≡ true → ⊥
not_outside [] e h = absurd cc
not_outside (k.Other ∷ v) e h = absurd cc
not_outside (_ ∷ v) e h = absurd cc

same_head : (x : Kind) (u v : List Kind) → starts_outside (x ∷ u) ≡ true → starts_outside (x ∷ v) ≡ true
same_head k.Other u v e = refl
same_head _ u v e = absurd cc

apart : (b : Before) (o : List Bool) (u v : List Kind) → inside b ≡ true → starts_outside u ≡ true → starts_within v ≡ true → Alike b o u v → ⊥
apart b o _ _ f e h (none) = absurd cc
apart b o _ _ f e h (same {u = u} {v = v} x a) = not_outside (x ∷ v) h (same_head x u v e)
apart b o _ _ f e h (first_has x i g c a) = absurd cc
apart b o _ _ f e h (second_has x i g c a) = absurd cc
apart b o _ v f e h (first_extra x m s a) = not_outside v h s
apart b o u _ f e h (second_extra {v = v} x m s a) = starts_inside x v h m
apart b o _ _ f e h (cut) = absurd cc
apart _ o _ v f e h (first_void a) = absurd cc
apart _ o u _ f e h (second_void a) = absurd cc

-- Phrases

ended_at : (b : Before) → b ≡ callee → ends_operand b ≡ true
ended_at b e = ap ends_operand e

in_parentheses : (o : List Bool) (u r w : List Kind) → u ≡ k.ParenLeft ∷ r → (p : Goes IsExpression Ends (false ∷ o) r (k.ParenRight ∷ w)) → Closed p.last (false ∷ o) k.ParenRight p.rest w → Goes IsPrimary Ends o u w
in_parentheses o u r w e p (at_once rest is a) = record {
  front = k.ParenLeft ∷ (p.front ++ (k.ParenRight ∷ []));
  rest = rest;
  whole = e ∙ ap (λ z. k.ParenLeft ∷ z) (join r p.front p.rest (k.ParenRight ∷ []) rest p.whole is);
  is = parenthesized p.is;
  last = operand;
  ended = refl;
  alike = a;
}
in_parentheses o u r w e p (behind_comma rest is h g a) = absurd cc

no_more : (x : Bool) (o : List Bool) (u w : List Kind) → Closed fresh (x ∷ o) k.ParenRight u w → Goes IsArguments Ends o u w
no_more x o u w (at_once rest is a) = record { front = k.ParenRight ∷ []; rest = rest; whole = is; is = no_argument; last = operand; ended = refl; alike = a }
no_more x o u w (behind_comma rest is h g a) = absurd cc

one_more : (x : Bool) (o : List Bool) (u w : List Kind) → (p : Goes IsExpression Ends (x ∷ o) u (k.ParenRight ∷ w)) → Closed p.last (x ∷ o) k.ParenRight p.rest w → Goes IsArguments Ends o u w
one_more x o u w p (at_once rest is a) = record {
  front = p.front ++ (k.ParenRight ∷ []);
  rest = rest;
  whole = join u p.front p.rest (k.ParenRight ∷ []) rest p.whole is;
  is = last_argument p.is;
  last = operand;
  ended = refl;
  alike = a;
}
one_more x o u w p (behind_comma rest is h g a) = record {
  front = p.front ++ (k.Comma ∷ k.ParenRight ∷ []);
  rest = rest;
  whole = join u p.front p.rest (k.Comma ∷ k.ParenRight ∷ []) rest p.whole is;
  is = more_arguments p.is no_argument;
  last = operand;
  ended = refl;
  alike = a;
}

more_read : (x : Bool) (o : List Bool) (u l w : List Kind) → (p : Goes IsExpression Ends (x ∷ o) u (k.Comma ∷ (l ++ w))) → IsArguments l → ((s : List Kind) → Alike fresh (x ∷ o) s (l ++ w) → Goes IsArguments Ends o s w)
    → Parted p.last (x ∷ o) p.rest (l ++ w) → Goes IsArguments Ends o u w
more_read x o u l w p list reads (both rest is a) =
    let q = reads rest a in record {
      front = p.front ++ (k.Comma ∷ q.front);
      rest = q.rest;
      whole = join u p.front p.rest (k.Comma ∷ q.front) q.rest p.whole (is ∙ ap (λ z. k.Comma ∷ z) q.whole);
      is = more_arguments p.is q.is;
      last = q.last;
      ended = q.ended;
      alike = q.alike;
    }
more_read x o u l w p list reads (last_one y rest left e is c a) = ends list e
  where
    ends : {l : List Kind} → IsArguments l → l ++ w ≡ y ∷ left → Goes IsArguments Ends o u w
    ends (no_argument) e =
        let same : k.ParenRight ≡ y = cc in
        let tails : w ≡ left = cc in
        let P : Kind → Type 0 = λ z. Alike (behind_kind z) (groups p.last (x ∷ o) z) rest left in
        let Q : List Kind → Type 0 = λ z. Alike operand o rest z in
        record {
          front = p.front ++ (k.ParenRight ∷ []);
          rest = rest;
          whole = join u p.front p.rest (k.ParenRight ∷ []) rest p.whole (is ∙ ap (λ z. z ∷ rest) (sym same));
          is = last_argument p.is;
          last = operand;
          ended = refl;
          alike = subst Q (sym tails) (subst P (sym same) a);
        }
    ends (last_argument {u = v} h) e = absurd (not_more (v ++ (k.ParenRight ∷ [])) w left y (starts_append v (k.ParenRight ∷ []) (expression_starts v h)) e c)
    ends (more_arguments {u = v} {v = m} h g) e = absurd (not_more (v ++ (k.Comma ∷ m)) w left y (starts_append v (k.Comma ∷ m) (expression_starts v h)) e c)
more_read x o u l w p list reads (one_outside s a) = absurd (apart p.last (x ∷ o) p.rest (l ++ w) (ended_inside p.last p.ended) s (arguments_start list) a)
  where
    arguments_start : {l : List Kind} → IsArguments l → starts_within (l ++ w) ≡ true
    arguments_start (no_argument) = refl
    arguments_start (last_argument {u = v} h) = within_too ((v ++ (k.ParenRight ∷ [])) ++ w) (starts_append (v ++ (k.ParenRight ∷ [])) w (starts_append v (k.ParenRight ∷ []) (expression_starts v h)))
    arguments_start (more_arguments {u = v} {v = m} h g) = within_too ((v ++ (k.Comma ∷ m)) ++ w) (starts_append (v ++ (k.Comma ∷ m)) w (starts_append v (k.Comma ∷ m) (expression_starts v h)))

last_read : (o : List Bool) (u w : List Kind) → (p : Goes IsItem Ends o u (k.TemplateArgsEnd ∷ w)) → Closed p.last o k.TemplateArgsEnd p.rest w → Goes IsListBody Callee (outer o) u w
last_read o u w p (at_once rest is a) = record {
  front = p.front ++ (k.TemplateArgsEnd ∷ []);
  rest = rest;
  whole = join u p.front p.rest (k.TemplateArgsEnd ∷ []) rest p.whole is;
  is = last_item p.is;
  last = callee;
  ended = refl;
  alike = a;
}
last_read o u w p (behind_comma rest is h g a) = record {
  front = p.front ++ (k.Comma ∷ k.TemplateArgsEnd ∷ []);
  rest = rest;
  whole = join u p.front p.rest (k.Comma ∷ k.TemplateArgsEnd ∷ []) rest p.whole is;
  is = last_and_comma p.is;
  last = callee;
  ended = refl;
  alike = a;
}

last_comma_read : (o : List Bool) (u w : List Kind) → (p : Goes IsItem Ends o u (k.Comma ∷ k.TemplateArgsEnd ∷ w)) → Parted p.last o p.rest (k.TemplateArgsEnd ∷ w) → Goes IsListBody Callee (outer o) u w
last_comma_read o u w p (both rest is a) = behind rest is (closed fresh o k.TemplateArgsEnd rest w refl refl a)
  where
    behind : (rest : List Kind) → p.rest ≡ k.Comma ∷ rest → Closed fresh o k.TemplateArgsEnd rest w → Goes IsListBody Callee (outer o) u w
    behind rest is (at_once left e a) = record {
      front = p.front ++ (k.Comma ∷ k.TemplateArgsEnd ∷ []);
      rest = left;
      whole = join u p.front p.rest (k.Comma ∷ k.TemplateArgsEnd ∷ []) left p.whole (is ∙ ap (λ z. k.Comma ∷ z) e);
      is = last_and_comma p.is;
      last = callee;
      ended = refl;
      alike = a;
    }
    behind rest is (behind_comma left e h g a) = absurd cc
last_comma_read o u w p (last_one y rest left e is c a) =
    let same : k.TemplateArgsEnd ≡ y = cc in
    let tails : w ≡ left = cc in
    let P : Kind → Type 0 = λ z. Alike (behind_kind z) (groups p.last o z) rest left in
    let Q : List Kind → Type 0 = λ z. Alike callee (outer o) rest z in
    record {
      front = p.front ++ (k.TemplateArgsEnd ∷ []);
      rest = rest;
      whole = join u p.front p.rest (k.TemplateArgsEnd ∷ []) rest p.whole (is ∙ ap (λ z. z ∷ rest) (sym same));
      is = last_item p.is;
      last = callee;
      ended = refl;
      alike = subst Q (sym tails) (subst P (sym same) a);
    }
last_comma_read o u w p (one_outside s a) = absurd (apart p.last o p.rest (k.TemplateArgsEnd ∷ w) (ended_inside p.last p.ended) s refl a)

body_starts : (l : List Kind) → IsListBody l → starts l ≡ true
body_starts _ (last_item {u = v} h) = starts_append v _ (item_starts v h)
body_starts _ (last_and_comma {u = v} h) = starts_append v _ (item_starts v h)
body_starts _ (more_items {u = v} h g) = starts_append v _ (item_starts v h)

more_items_read : (o : List Bool) (u l w : List Kind) → (p : Goes IsItem Ends o u (k.Comma ∷ (l ++ w))) → IsListBody l → ((s : List Kind) → Alike fresh o s (l ++ w) → Goes IsListBody Callee (outer o) s w)
    → Parted p.last o p.rest (l ++ w) → Goes IsListBody Callee (outer o) u w
more_items_read o u l w p list reads (both rest is a) =
    let q = reads rest a in record {
      front = p.front ++ (k.Comma ∷ q.front);
      rest = q.rest;
      whole = join u p.front p.rest (k.Comma ∷ q.front) q.rest p.whole (is ∙ ap (λ z. k.Comma ∷ z) q.whole);
      is = more_items p.is q.is;
      last = q.last;
      ended = q.ended;
      alike = q.alike;
    }
more_items_read o u l w p list reads (last_one y rest left e is c a) = absurd (not_more l w left y (body_starts l list) e c)
more_items_read o u l w p list reads (one_outside s a) = absurd (apart p.last o p.rest (l ++ w) (ended_inside p.last p.ended) s (within_too (l ++ w) (starts_append l w (body_starts l list))) a)

mutual
  type_reads : (v : List Kind) → IsType v → Reads IsType Callee v
  type_reads v (named h) o u w a = as_is v (λ f x. named x) (λ d e. e) (name_reads v h) o u w a
  type_reads _ (templated {u = v} {v = l} h list) o u w a =
      let p = name_reads v h o u ((k.TemplateArgsStart ∷ l) ++ w) (regroup v (k.TemplateArgsStart ∷ l) w a) in
      let m = kept p.last o k.TemplateArgsStart p.rest (l ++ w) refl (called_inside p.last p.ended) p.alike in
      let q = list_reads l list (true ∷ o) m.rest w m.alike in
      record {
        front = p.front ++ (k.TemplateArgsStart ∷ q.front);
        rest = q.rest;
        whole = join u p.front p.rest (k.TemplateArgsStart ∷ q.front) q.rest p.whole (m.whole ∙ ap (λ z. k.TemplateArgsStart ∷ z) q.whole);
        is = templated p.is q.is;
        last = q.last;
        ended = q.ended;
        alike = q.alike;
      }

  primary_reads : (v : List Kind) → IsPrimary v → Reads IsPrimary Ends v
  primary_reads _ (literal) o u w a =
      let m = kept fresh o k.Literal u w refl refl a in record { front = k.Literal ∷ []; rest = m.rest; whole = m.whole; is = literal; last = operand; ended = refl; alike = m.alike }
  primary_reads v (type h) o u w a = as_is v (λ f x. type x) ended_at (type_reads v h) o u w a
  primary_reads _ (call {u = v} {v = l} h list) o u w a =
      let p = type_reads v h o u ((k.ParenLeft ∷ l) ++ w) (regroup v (k.ParenLeft ∷ l) w a) in
      let m = kept p.last o k.ParenLeft p.rest (l ++ w) refl (called_inside p.last p.ended) p.alike in
      let q = arguments_read l list (is_callee p.last) o m.rest w m.alike in
      record {
        front = p.front ++ (k.ParenLeft ∷ q.front);
        rest = q.rest;
        whole = join u p.front p.rest (k.ParenLeft ∷ q.front) q.rest p.whole (m.whole ∙ ap (λ z. k.ParenLeft ∷ z) q.whole);
        is = call p.is q.is;
        last = q.last;
        ended = q.ended;
        alike = q.alike;
      }
  primary_reads _ (parenthesized {u = v} h) o u w a =
      let m = kept fresh o k.ParenLeft u ((v ++ (k.ParenRight ∷ [])) ++ w) refl refl a in
      let p = expression_reads v h (false ∷ o) m.rest ((k.ParenRight ∷ []) ++ w) (regroup v (k.ParenRight ∷ []) w m.alike) in
      in_parentheses o u m.rest w m.whole p (closed p.last (false ∷ o) k.ParenRight p.rest w refl (ended_inside p.last p.ended) p.alike)

  arguments_read : (v : List Kind) → IsArguments v → (x : Bool) (o : List Bool) (u w : List Kind) → Alike fresh (x ∷ o) u (v ++ w) → Goes IsArguments Ends o u w
  arguments_read _ (no_argument) x o u w a = no_more x o u w (closed fresh (x ∷ o) k.ParenRight u w refl refl a)
  arguments_read _ (last_argument {u = v} h) x o u w a =
      let p = expression_reads v h (x ∷ o) u ((k.ParenRight ∷ []) ++ w) (regroup v (k.ParenRight ∷ []) w a) in
      one_more x o u w p (closed p.last (x ∷ o) k.ParenRight p.rest w refl (ended_inside p.last p.ended) p.alike)
  arguments_read _ (more_arguments {u = v} {v = l} h list) x o u w a =
      let p = expression_reads v h (x ∷ o) u ((k.Comma ∷ l) ++ w) (regroup v (k.Comma ∷ l) w a) in
      more_read x o u l w p list (λ s y. arguments_read l list x o s w y) (parted p.last (x ∷ o) p.rest (l ++ w) (ended_inside p.last p.ended) p.alike)

  singular_reads : (v : List Kind) → IsSingular v → Reads IsSingular Ends v
  singular_reads v (primary h) o u w a = as_is v (λ f x. primary x) (λ d e. e) (primary_reads v h) o u w a
  singular_reads _ (member {u = v} h) o u w a =
      let p = singular_reads v h o u ((k.Period ∷ k.Word ∷ []) ++ w) (regroup v (k.Period ∷ k.Word ∷ []) w a) in
      let m = kept p.last o k.Period p.rest (k.Word ∷ w) refl (ended_inside p.last p.ended) p.alike in
      let n = kept fresh o k.Word m.rest w refl refl m.alike in
      record {
        front = p.front ++ (k.Period ∷ k.Word ∷ []);
        rest = n.rest;
        whole = join u p.front p.rest (k.Period ∷ k.Word ∷ []) n.rest p.whole (m.whole ∙ ap (λ z. k.Period ∷ z) n.whole);
        is = member p.is;
        last = callee;
        ended = refl;
        alike = n.alike;
      }
  singular_reads _ (index {u = v} {v = y} h i) o u w a =
      let p = singular_reads v h o u ((k.BracketLeft ∷ (y ++ (k.BracketRight ∷ []))) ++ w) (regroup v (k.BracketLeft ∷ (y ++ (k.BracketRight ∷ []))) w a) in
      let m = kept p.last o k.BracketLeft p.rest ((y ++ (k.BracketRight ∷ [])) ++ w) refl (ended_inside p.last p.ended) p.alike in
      let q = expression_reads y i (false ∷ o) m.rest ((k.BracketRight ∷ []) ++ w) (regroup y (k.BracketRight ∷ []) w m.alike) in
      let n = kept q.last (false ∷ o) k.BracketRight q.rest w refl (ended_inside q.last q.ended) q.alike in
      record {
        front = p.front ++ (k.BracketLeft ∷ (q.front ++ (k.BracketRight ∷ [])));
        rest = n.rest;
        whole = join u p.front p.rest (k.BracketLeft ∷ (q.front ++ (k.BracketRight ∷ []))) n.rest p.whole (m.whole ∙ ap (λ z. k.BracketLeft ∷ z) (join m.rest q.front q.rest (k.BracketRight ∷ []) n.rest q.whole n.whole));
        is = index p.is q.is;
        last = operand;
        ended = refl;
        alike = n.alike;
      }

  unary_reads : (v : List Kind) → IsUnary v → Reads IsUnary Ends v
  unary_reads v (singular h) o u w a = as_is v (λ f x. singular x) (λ d e. e) (singular_reads v h) o u w a
  unary_reads _ (prefixed {u = v} x e h) o u w a = in_front x (prefix_operator x e) v (unary_reads v h) (λ g y. prefixed x e y) o u w a

  product_reads : (v : List Kind) → IsProduct v → Reads IsProduct Ends v
  product_reads v (unary h) o u w a = as_is v (λ f x. unary x) (λ d e. e) (unary_reads v h) o u w a
  product_reads _ (times {u = v} {v = y} x h e i) o u w a = between x (multiplicative_operator x e) v y (product_reads v h) (unary_reads y i) (λ f g p q. times x p e q) o u w a

  sum_reads : (v : List Kind) → IsSum v → Reads IsSum Ends v
  sum_reads v (product h) o u w a = as_is v (λ f x. product x) (λ d e. e) (product_reads v h) o u w a
  sum_reads _ (plus {u = v} {v = y} x h e i) o u w a = between x (additive_operator x e) v y (sum_reads v h) (product_reads y i) (λ f g p q. plus x p e q) o u w a

  shift_reads : (v : List Kind) → IsShift v → Reads IsShift Ends v
  shift_reads v (sum h) o u w a = as_is v (λ f x. sum x) (λ d e. e) (sum_reads v h) o u w a
  shift_reads _ (shifted {u = v} {v = y} h i) o u w a = between k.Shift shift_operator v y (unary_reads v h) (unary_reads y i) (λ f g p q. shifted p q) o u w a

  relational_reads : (v : List Kind) → IsRelational v → Reads IsRelational Ends v
  relational_reads v (shift h) o u w a = as_is v (λ f x. shift x) (λ d e. e) (shift_reads v h) o u w a
  relational_reads _ (compared {u = v} {v = y} h i) o u w a = between k.Comparison comparison_operator v y (shift_reads v h) (shift_reads y i) (λ f g p q. compared p q) o u w a

  bitwise_reads : (x : Kind) (v : List Kind) → is_bitwise x ≡ true → IsBitwise x v → Reads (IsBitwise x) Ends v
  bitwise_reads x _ e (two_unaries {u = v} {v = y} _ h i) o u w a = between x (bitwise_operator x e) v y (unary_reads v h) (unary_reads y i) (λ f g p q. two_unaries x p q) o u w a
  bitwise_reads x _ e (more_unaries {u = v} {v = y} _ h i) o u w a = between x (bitwise_operator x e) v y (bitwise_reads x v e h) (unary_reads y i) (λ f g p q. more_unaries x p q) o u w a

  logical_reads : (x : Kind) (v : List Kind) → is_logical x ≡ true → IsLogical x v → Reads (IsLogical x) Ends v
  logical_reads x _ e (two_relations {u = v} {v = y} _ h i) o u w a = between x (logical_operator x e) v y (relational_reads v h) (relational_reads y i) (λ f g p q. two_relations x p q) o u w a
  logical_reads x _ e (more_relations {u = v} {v = y} _ h i) o u w a = between x (logical_operator x e) v y (logical_reads x v e h) (relational_reads y i) (λ f g p q. more_relations x p q) o u w a

  item_reads : (v : List Kind) → IsItem v → Reads IsItem Ends v
  item_reads v (relational h) o u w a = as_is v (λ f x. relational x) (λ d e. e) (relational_reads v h) o u w a
  item_reads v (bitwise x e h) o u w a = as_is v (λ f y. bitwise x e y) (λ d g. g) (bitwise_reads x v e h) o u w a

  expression_reads : (v : List Kind) → IsExpression v → Reads IsExpression Ends v
  expression_reads v (item h) o u w a = as_is v (λ f x. item x) (λ d e. e) (item_reads v h) o u w a
  expression_reads v (logical x e h) o u w a = as_is v (λ f y. logical x e y) (λ d g. g) (logical_reads x v e h) o u w a

  pub list_reads : (v : List Kind) → IsListBody v → (o : List Bool) (u w : List Kind) → Alike fresh o u (v ++ w) → Goes IsListBody Callee (outer o) u w
  list_reads _ (last_item {u = v} h) o u w a =
      let p = item_reads v h o u ((k.TemplateArgsEnd ∷ []) ++ w) (regroup v (k.TemplateArgsEnd ∷ []) w a) in
      last_read o u w p (closed p.last o k.TemplateArgsEnd p.rest w refl (ended_inside p.last p.ended) p.alike)
  list_reads _ (last_and_comma {u = v} h) o u w a =
      let p = item_reads v h o u ((k.Comma ∷ k.TemplateArgsEnd ∷ []) ++ w) (regroup v (k.Comma ∷ k.TemplateArgsEnd ∷ []) w a) in
      last_comma_read o u w p (parted p.last o p.rest (k.TemplateArgsEnd ∷ w) (ended_inside p.last p.ended) p.alike)
  list_reads _ (more_items {u = v} {v = l} h list) o u w a =
      let p = item_reads v h o u ((k.Comma ∷ l) ++ w) (regroup v (k.Comma ∷ l) w a) in
      more_items_read o u l w p list (λ s y. list_reads l list o s w y) (parted p.last o p.rest (l ++ w) (ended_inside p.last p.ended) p.alike)
