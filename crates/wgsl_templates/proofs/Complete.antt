-- The reader goes over each phrase of the grammar.
use Rattle.std.proofs.Common.{◌≡◌, ◌∙◌, ap, refl, Bool, true, false, List, [], ◌∷◌, ◌++◌, Option, Some, None}
use Rattle.wgsl_templates.specs.declared.meaning.kind.Kind.{Kind}
use Rattle.wgsl_templates.specs.declared.meaning.kind.Kind.TheVariants as k
use Rattle.wgsl_templates.specs.Laws.{BeginsWithList}
use Rattle.wgsl_templates.specs.Grammar.{is_prefix, is_multiplicative, is_additive, is_bitwise, is_logical, IsQualified, id, within, IsRelative, once, again, IsName, qualified, from_package, from_super}
use Rattle.wgsl_templates.specs.Grammar.{IsType, named, templated, IsPrimary, literal, type, call, parenthesized, IsArguments, no_argument, last_argument, more_arguments, IsSingular, primary, member, index}
use Rattle.wgsl_templates.specs.Grammar.{IsUnary, singular, prefixed, IsProduct, unary, times, IsSum, product, plus, IsShift, sum, shifted, IsRelational, shift, compared, IsBitwise, two_unaries, more_unaries}
use Rattle.wgsl_templates.specs.Grammar.{IsLogical, two_relations, more_relations, IsItem, relational, bitwise, IsExpression, item, logical, IsListBody, last_item, last_and_comma, more_items}
use Rattle.wgsl_templates.specs.declared.recognizer.recognize.Answer.TheVariants.{List as Listed}
use Rattle.wgsl_templates.specs.declared.recognizer.place.Place.{Place}
use Rattle.wgsl_templates.specs.declared.recognizer.place.Place.TheVariants as at
use Rattle.wgsl_templates.specs.declared.recognizer.place.Relation.{Relation}
use Rattle.wgsl_templates.specs.declared.recognizer.place.Progress.{Progress}
use Rattle.wgsl_templates.specs.declared.recognizer.place.Progress.TheVariants as p
use Rattle.wgsl_templates.specs.declared.recognizer.place.Enclosing.{Enclosing}
use Rattle.wgsl_templates.specs.declared.recognizer.place.Enclosing.TheVariants as e
use Rattle.wgsl_templates.specs.declared.recognizer.place.Frame.{Frame}
use Rattle.wgsl_templates.specs.declared.recognizer.place.Action.{Action}
use Rattle.wgsl_templates.specs.declared.recognizer.place.Action.TheVariants as a
use Rattle.wgsl_templates.specs.Actions.{Status, ended, fresh, next, does, popped, enclosing, action_at, after_operand, after_template, after_expression, end, operator}
use Rattle.wgsl_templates.specs.Actions as actions
use Rattle.wgsl_templates.specs.Runs.{verdict}
use Rattle.wgsl_templates.proofs.Run.{verdict_ended, stand, beginning, Reaches, here, behind_token, then_reaches, from_same}

-- An operand is wanted.
data IsStart : Place → Type 0 where
  operand : IsStart at.Operand
  operand_or_end : IsStart at.OperandOrEnd

-- A name was read, with its template list or without.
data IsBehindType : Place → Type 0 where
  behind_name : IsBehindType at.Name
  behind_list : IsBehindType at.Templated

-- An operand was read.
data IsBehind : Place → Type 0 where
  behind_type : {place : Place} → IsBehindType place → IsBehind place
  behind_other : IsBehind at.Complete

record TypeReached (from : Status) (tokens : List Kind) (progress : Progress) (frames : List Frame) : Type 0 where
  place : Place
  behind : IsBehindType place
  reaches : Reaches from tokens (stand place progress frames)

record Reached (from : Status) (tokens : List Kind) (progress : Progress) (frames : List Frame) : Type 0 where
  place : Place
  behind : IsBehind place
  reaches : Reaches from tokens (stand place progress frames)

-- with some progress of a kind
record ReachedIn (P : Progress → Type 0) (from : Status) (tokens : List Kind) (frames : List Frame) : Type 0 where
  progress : Progress
  is : P progress
  reached : Reached from tokens progress frames

data IsArithmetic (r : Relation) : Progress → Type 0 where
  in_unary : IsArithmetic r (p.Unary r)
  in_sum : IsArithmetic r (p.Sum r)

data IsShifting (r : Relation) : Progress → Type 0 where
  arithmetic : {x : Progress} → IsArithmetic r x → IsShifting r x
  in_shift : IsShifting r (p.Shifted r)

data IsRelating (before : Option Kind) : Progress → Type 0 where
  relating : {x : Progress} (c : Bool) → IsShifting (record { logical = before; compared = c }) x → IsRelating before x

data IsAny : Progress → Type 0 where
  any : {x : Progress} → IsAny x

some_progress : {P : Progress → Type 0} {from : Status} {tokens : List Kind} {frames : List Frame} → ReachedIn P from tokens frames → ReachedIn IsAny from tokens frames
some_progress r = record { progress = r.progress; is = any; reached = r.reached }

-- `&&` and `||` may stand in such a bracket.
record MayJoin (enclosing : Enclosing) : Type 0 where
  joins : (progress : Progress) (kind : Kind) → actions.logical progress enclosing kind ≡ actions.logical_operator progress kind

-- names

word_goes : {x : Progress} {fs : List Frame} {u : List Kind} → IsQualified u → Reaches (stand at.Word x fs) u (stand at.Name x fs)
word_goes id = behind_token here
word_goes (within h) = behind_token (behind_token (word_goes h))

super_word_goes : {x : Progress} {fs : List Frame} {u : List Kind} → IsQualified u → Reaches (stand at.SuperOrWord x fs) u (stand at.Name x fs)
super_word_goes id = behind_token here
super_word_goes (within h) = behind_token (behind_token (word_goes h))

relative_goes : {x : Progress} {fs : List Frame} {u : List Kind} → IsRelative u → Reaches (stand at.SuperOrWord x fs) u (stand at.Name x fs)
relative_goes (once h) = behind_token (behind_token (super_word_goes h))
relative_goes (again h) = behind_token (behind_token (relative_goes h))

name_goes : {q : Place} {x : Progress} {fs : List Frame} {u : List Kind} → IsStart q → IsName u → Reaches (stand q x fs) u (stand at.Name x fs)
name_goes operand (qualified id) = behind_token here
name_goes operand (qualified (within h)) = behind_token (behind_token (word_goes h))
name_goes operand (from_package h) = behind_token (behind_token (word_goes h))
name_goes operand (from_super (once h)) = behind_token (behind_token (super_word_goes h))
name_goes operand (from_super (again h)) = behind_token (behind_token (relative_goes h))
name_goes operand_or_end (qualified id) = behind_token here
name_goes operand_or_end (qualified (within h)) = behind_token (behind_token (word_goes h))
name_goes operand_or_end (from_package h) = behind_token (behind_token (word_goes h))
name_goes operand_or_end (from_super (once h)) = behind_token (behind_token (super_word_goes h))
name_goes operand_or_end (from_super (again h)) = behind_token (behind_token (relative_goes h))

-- one token

-- what goes on with a name or a template list
abbrev is_postfix : Kind → Bool
is_postfix k.PathSeparator = true
is_postfix k.TemplateArgsStart = true
is_postfix k.ParenLeft = true
is_postfix _ = false

action_behind : {q : Place} → IsBehind q → (x : Progress) (enclosing : Enclosing) (kind : Kind) → is_postfix kind ≡ false → action_at q x enclosing kind ≡ after_operand x enclosing kind
action_behind behind_other x enclosing kind h = refl
action_behind (behind_type behind_name) x enclosing k.PathSeparator h = absurd cc
action_behind (behind_type behind_name) x enclosing k.TemplateArgsStart h = absurd cc
action_behind (behind_type behind_name) x enclosing k.ParenLeft h = absurd cc
action_behind (behind_type behind_name) x enclosing _ h = refl
action_behind (behind_type behind_list) x enclosing k.PathSeparator h = absurd cc
action_behind (behind_type behind_list) x enclosing k.TemplateArgsStart h = absurd cc
action_behind (behind_type behind_list) x enclosing k.ParenLeft h = absurd cc
action_behind (behind_type behind_list) x enclosing _ h = refl

-- a token behind an operand, by what it does
behind_goes : {q : Place} {x : Progress} {fs : List Frame} {v : List Kind} {to : Status} → IsBehind q → (kind : Kind) (act : Action) → is_postfix kind ≡ false → after_operand x (enclosing fs) kind ≡ act
    → Reaches (does x fs act) v to → Reaches (stand q x fs) (kind ∷ v) to
behind_goes {x = x} {fs = fs} b kind act h e r = behind_token (from_same (ap (does x fs) (action_behind b x (enclosing fs) kind h ∙ e)) r)

-- the end of what is enclosed
close_goes : {q : Place} {x : Progress} {fs : List Frame} → IsBehind q → (kind : Kind) → is_postfix kind ≡ false → after_operand x (enclosing fs) kind ≡ a.Closes → Reaches (stand q x fs) (kind ∷ []) (popped fs)
close_goes b kind h e = behind_goes b kind a.Closes h e here

prefix_goes : {q : Place} {x : Progress} {fs : List Frame} {v : List Kind} {to : Status} → IsStart q → (o : Kind) → is_prefix o ≡ true → Reaches (stand at.Operand x fs) v to → Reaches (stand q x fs) (o ∷ v) to
prefix_goes operand k.Minus h r = behind_token r
prefix_goes operand k.Not h r = behind_token r
prefix_goes operand k.Star h r = behind_token r
prefix_goes operand k.And h r = behind_token r
prefix_goes operand _ h r = absurd cc
prefix_goes operand_or_end k.Minus h r = behind_token r
prefix_goes operand_or_end k.Not h r = behind_token r
prefix_goes operand_or_end k.Star h r = behind_token r
prefix_goes operand_or_end k.And h r = behind_token r
prefix_goes operand_or_end _ h r = absurd cc

literal_goes : {q : Place} {x : Progress} {fs : List Frame} → IsStart q → Reaches (stand q x fs) (k.Literal ∷ []) (stand at.Complete x fs)
literal_goes operand = behind_token here
literal_goes operand_or_end = behind_token here

opens_goes : {q : Place} {x : Progress} {fs : List Frame} {v : List Kind} {to : Status} → IsStart q → Reaches (stand at.Operand fresh (record { enclosing = e.Parentheses; outer = x } ∷ fs)) v to
    → Reaches (stand q x fs) (k.ParenLeft ∷ v) to
opens_goes operand r = behind_token r
opens_goes operand_or_end r = behind_token r

call_goes : {q : Place} {x : Progress} {fs : List Frame} {v : List Kind} {to : Status} → IsBehindType q → Reaches (stand at.OperandOrEnd fresh (record { enclosing = e.Arguments; outer = x } ∷ fs)) v to
    → Reaches (stand q x fs) (k.ParenLeft ∷ v) to
call_goes behind_name r = behind_token r
call_goes behind_list r = behind_token r

-- an operator behind an operand
operator_goes : {q : Place} {x : Progress} {fs : List Frame} {v : List Kind} {to : Status} → IsBehind q → (o : Kind) (y : Progress) → is_postfix o ≡ false → after_operand x (enclosing fs) o ≡ a.Operates y
    → Reaches (stand at.Operand y fs) v to → Reaches (stand q x fs) (o ∷ v) to
operator_goes b o y h e r = behind_goes b o (a.Operates y) h e r

-- what operators do

record IsOperator (o : Kind) (x : Progress) (enclosing : Enclosing) (y : Progress) : Type 0 where
  no_postfix : is_postfix o ≡ false
  operates : after_operand x enclosing o ≡ a.Operates y

multiplies : {r : Relation} {x : Progress} {enclosing : Enclosing} → IsArithmetic r x → (o : Kind) → is_multiplicative o ≡ true → IsOperator o x enclosing (p.Sum r)
multiplies in_unary k.Star h = record { no_postfix = refl; operates = refl }
multiplies in_unary k.Division h = record { no_postfix = refl; operates = refl }
multiplies in_unary _ h = absurd cc
multiplies in_sum k.Star h = record { no_postfix = refl; operates = refl }
multiplies in_sum k.Division h = record { no_postfix = refl; operates = refl }
multiplies in_sum _ h = absurd cc

adds : {r : Relation} {x : Progress} {enclosing : Enclosing} → IsArithmetic r x → (o : Kind) → is_additive o ≡ true → IsOperator o x enclosing (p.Sum r)
adds in_unary k.Plus h = record { no_postfix = refl; operates = refl }
adds in_unary k.Minus h = record { no_postfix = refl; operates = refl }
adds in_unary _ h = absurd cc
adds in_sum k.Plus h = record { no_postfix = refl; operates = refl }
adds in_sum k.Minus h = record { no_postfix = refl; operates = refl }
adds in_sum _ h = absurd cc

compares : {before : Option Kind} {x : Progress} {enclosing : Enclosing} → IsShifting (record { logical = before; compared = false }) x
    → IsOperator k.Comparison x enclosing (p.Unary (record { logical = before; compared = true }))
compares (arithmetic in_unary) = record { no_postfix = refl; operates = refl }
compares (arithmetic in_sum) = record { no_postfix = refl; operates = refl }
compares in_shift = record { no_postfix = refl; operates = refl }

first_bits : {enclosing : Enclosing} (o : Kind) → is_bitwise o ≡ true → IsOperator o fresh enclosing (p.Bitwise o)
first_bits k.And h = record { no_postfix = refl; operates = refl }
first_bits k.Or h = record { no_postfix = refl; operates = refl }
first_bits k.Xor h = record { no_postfix = refl; operates = refl }
first_bits _ h = absurd cc

more_bits : {enclosing : Enclosing} (o : Kind) → is_bitwise o ≡ true → IsOperator o (p.Bitwise o) enclosing (p.Bitwise o)
more_bits k.And h = record { no_postfix = refl; operates = refl }
more_bits k.Or h = record { no_postfix = refl; operates = refl }
more_bits k.Xor h = record { no_postfix = refl; operates = refl }
more_bits _ h = absurd cc

joins_operator : {before : Option Kind} {x : Progress} (o : Kind) → actions.goes_on before o ≡ true → IsRelating before x
    → actions.logical_operator x o ≡ a.Operates (p.Unary (record { logical = Some o; compared = false }))
joins_operator o h (relating c (arithmetic in_unary)) = ap (λ b. actions.operates_if b (p.Unary (record { logical = Some o; compared = false }))) h
joins_operator o h (relating c (arithmetic in_sum)) = ap (λ b. actions.operates_if b (p.Unary (record { logical = Some o; compared = false }))) h
joins_operator o h (relating c in_shift) = ap (λ b. actions.operates_if b (p.Unary (record { logical = Some o; compared = false }))) h

joins : {before : Option Kind} {x : Progress} {enclosing : Enclosing} → MayJoin enclosing → (o : Kind) → is_logical o ≡ true → actions.goes_on before o ≡ true → IsRelating before x
    → IsOperator o x enclosing (p.Unary (record { logical = Some o; compared = false }))
joins {x = x} m k.AndAnd h g i = record { no_postfix = refl; operates = m.joins x k.AndAnd ∙ joins_operator k.AndAnd g i }
joins {x = x} m k.OrOr h g i = record { no_postfix = refl; operates = m.joins x k.OrOr ∙ joins_operator k.OrOr g i }
joins m _ h g i = absurd cc

same_joins : (o : Kind) → is_logical o ≡ true → actions.same_operator o o ≡ true
same_joins k.AndAnd h = refl
same_joins k.OrOr h = refl
same_joins _ h = absurd cc

-- an operator and the operand behind it
pairs : {from : Status} {u v : List Kind} {x y : Progress} {fs : List Frame} {to : Status} {o : Kind} → Reached from u x fs → IsOperator o x (enclosing fs) y → Reaches (stand at.Operand y fs) v to
    → Reaches from (u ++ (o ∷ v)) to
pairs {y = y} {o = o} r i q = then_reaches r.reaches (operator_goes r.behind o y i.no_postfix i.operates q)

pairs_in : {from : Status} {u v : List Kind} {x y z : Progress} {fs : List Frame} {o : Kind} → Reached from u x fs → IsOperator o x (enclosing fs) y → Reached (stand at.Operand y fs) v z fs
    → Reached from (u ++ (o ∷ v)) z fs
pairs_in r i q = record { place = q.place; behind = q.behind; reaches = pairs r i q.reaches }

arguments_join : (enclosing : Enclosing) → enclosing ≡ e.Arguments → MayJoin enclosing
arguments_join enclosing is = record { joins = λ x kind. ap (λ z. actions.logical x z kind) is }

mutual
  type_goes : {q : Place} {x : Progress} {fs : List Frame} {u : List Kind} → IsStart q → IsType u → TypeReached (stand q x fs) u x fs
  type_goes s (named n) = record { place = at.Name; behind = behind_name; reaches = name_goes s n }
  type_goes {x = x} {fs = fs} s (templated n b) = record {
    place = at.Templated;
    behind = behind_list;
    reaches = then_reaches (name_goes s n) (behind_token (list_goes {fs = record { enclosing = e.List; outer = x } ∷ fs} operand refl b));
  }

  primary_goes : {q : Place} {x : Progress} {fs : List Frame} {u : List Kind} → IsStart q → IsPrimary u → Reached (stand q x fs) u x fs
  primary_goes s literal = record { place = at.Complete; behind = behind_other; reaches = literal_goes s }
  primary_goes {x = x} {fs = fs} s (type h) = let t = type_goes {x = x} {fs = fs} s h in record { place = t.place; behind = behind_type t.behind; reaches = t.reaches }
  primary_goes {x = x} {fs = fs} s (call h g) =
      let t = type_goes {x = x} {fs = fs} s h in record {
        place = at.Complete;
        behind = behind_other;
        reaches = then_reaches t.reaches (call_goes t.behind (arguments_goes {fs = record { enclosing = e.Arguments; outer = x } ∷ fs} refl g));
      }
  primary_goes {x = x} {fs = fs} s (parenthesized h) =
      let t = expression_goes {fs = record { enclosing = e.Parentheses; outer = x } ∷ fs} operand (record { joins = λ y kind. refl }) h in record {
        place = at.Complete;
        behind = behind_other;
        reaches = opens_goes s (then_reaches t.reached.reaches (close_goes t.reached.behind k.ParenRight refl refl));
      }

  arguments_goes : {fs : List Frame} {u : List Kind} → enclosing fs ≡ e.Arguments → IsArguments u → Reaches (stand at.OperandOrEnd fresh fs) u (popped fs)
  arguments_goes {fs = fs} is no_argument = behind_token (from_same (ap (λ z. does fresh fs (end z k.ParenRight)) is) here)
  arguments_goes {fs = fs} is (last_argument h) =
      let t = expression_goes {fs = fs} operand_or_end (arguments_join (enclosing fs) is) h in
      then_reaches t.reached.reaches (close_goes t.reached.behind k.ParenRight refl (ap (λ z. after_expression z k.ParenRight) is))
  arguments_goes {fs = fs} is (more_arguments h g) =
      let t = expression_goes {fs = fs} operand_or_end (arguments_join (enclosing fs) is) h in
      then_reaches t.reached.reaches (behind_goes t.reached.behind k.Comma a.Separates refl (ap (λ z. after_expression z k.Comma) is) (arguments_goes is g))

  singular_goes : {q : Place} {x : Progress} {fs : List Frame} {u : List Kind} → IsStart q → IsSingular u → Reached (stand q x fs) u x fs
  singular_goes s (primary h) = primary_goes s h
  singular_goes {x = x} {fs = fs} s (member h) =
      let t = singular_goes {x = x} {fs = fs} s h in record {
        place = at.Complete;
        behind = behind_other;
        reaches = then_reaches t.reaches (behind_goes t.behind k.Period (a.Goes at.Member) refl refl (behind_token here));
      }
  singular_goes {x = x} {fs = fs} s (index h g) =
      let t = singular_goes {x = x} {fs = fs} s h in
      let i = expression_goes {fs = record { enclosing = e.Index; outer = x } ∷ fs} operand (record { joins = λ y kind. refl }) g in record {
        place = at.Complete;
        behind = behind_other;
        reaches = then_reaches t.reaches (behind_goes t.behind k.BracketLeft (a.Opens e.Index) refl refl (then_reaches i.reached.reaches (close_goes i.reached.behind k.BracketRight refl refl)));
      }

  unary_goes : {q : Place} {x : Progress} {fs : List Frame} {u : List Kind} → IsStart q → IsUnary u → Reached (stand q x fs) u x fs
  unary_goes s (singular h) = singular_goes s h
  unary_goes {x = x} {fs = fs} s (prefixed o is h) =
      let t = unary_goes {x = x} {fs = fs} operand h in record { place = t.place; behind = t.behind; reaches = prefix_goes s o is t.reaches }

  product_goes : {q : Place} {r : Relation} {x : Progress} {fs : List Frame} {u : List Kind} → IsStart q → IsArithmetic r x → IsProduct u → ReachedIn (IsArithmetic r) (stand q x fs) u fs
  product_goes {x = x} s i (unary h) = record { progress = x; is = i; reached = unary_goes s h }
  product_goes {r = r} {x = x} {fs = fs} s i (times o h is g) =
      let t = product_goes {fs = fs} s i h in record { progress = p.Sum r; is = in_sum; reached = pairs_in t.reached (multiplies t.is o is) (unary_goes operand g) }

  sum_goes : {q : Place} {r : Relation} {x : Progress} {fs : List Frame} {u : List Kind} → IsStart q → IsArithmetic r x → IsSum u → ReachedIn (IsArithmetic r) (stand q x fs) u fs
  sum_goes s i (product h) = product_goes s i h
  sum_goes {r = r} {x = x} {fs = fs} s i (plus o h is g) =
      let t = sum_goes {fs = fs} s i h in
      let n = product_goes {r = r} {fs = fs} operand in_sum g in
      record { progress = n.progress; is = n.is; reached = pairs_in t.reached (adds t.is o is) n.reached }

  shift_goes : {q : Place} {r : Relation} {fs : List Frame} {u : List Kind} → IsStart q → IsShift u → ReachedIn (IsShifting r) (stand q (p.Unary r) fs) u fs
  shift_goes {r = r} {fs = fs} s (sum h) = let t = sum_goes {r = r} {fs = fs} s in_unary h in record { progress = t.progress; is = arithmetic t.is; reached = t.reached }
  shift_goes {r = r} {fs = fs} s (shifted h g) = record {
    progress = p.Shifted r;
    is = in_shift;
    reached = pairs_in (unary_goes s h) (record { no_postfix = refl; operates = refl }) (unary_goes operand g);
  }

  relational_goes : {q : Place} {before : Option Kind} {fs : List Frame} {u : List Kind} → IsStart q → IsRelational u
      → ReachedIn (IsRelating before) (stand q (p.Unary (record { logical = before; compared = false })) fs) u fs
  relational_goes {before = before} {fs = fs} s (shift h) =
      let t = shift_goes {r = record { logical = before; compared = false }} {fs = fs} s h in record { progress = t.progress; is = relating false t.is; reached = t.reached }
  relational_goes {before = before} {fs = fs} s (compared h g) =
      let t = shift_goes {r = record { logical = before; compared = false }} {fs = fs} s h in
      let n = shift_goes {r = record { logical = before; compared = true }} {fs = fs} operand g in
      record { progress = n.progress; is = relating true n.is; reached = pairs_in t.reached (compares t.is) n.reached }

  bitwise_goes : {q : Place} {fs : List Frame} {u : List Kind} {o : Kind} → IsStart q → is_bitwise o ≡ true → IsBitwise o u → Reached (stand q fresh fs) u (p.Bitwise o) fs
  bitwise_goes s is (two_unaries o h g) = pairs_in (unary_goes s h) (first_bits o is) (unary_goes operand g)
  bitwise_goes s is (more_unaries o h g) = pairs_in (bitwise_goes s is h) (more_bits o is) (unary_goes operand g)

  logical_goes : {q : Place} {fs : List Frame} {u : List Kind} {o : Kind} → IsStart q → MayJoin (enclosing fs) → is_logical o ≡ true → IsLogical o u → ReachedIn (IsRelating (Some o)) (stand q fresh fs) u fs
  logical_goes {fs = fs} s m is (two_relations o h g) =
      let t = relational_goes {before = None} {fs = fs} s h in
      let n = relational_goes {before = Some o} {fs = fs} operand g in
      record { progress = n.progress; is = n.is; reached = pairs_in t.reached (joins m o is refl t.is) n.reached }
  logical_goes {fs = fs} s m is (more_relations o h g) =
      let t = logical_goes {fs = fs} s m is h in
      let n = relational_goes {before = Some o} {fs = fs} operand g in
      record { progress = n.progress; is = n.is; reached = pairs_in t.reached (joins m o is (same_joins o is) t.is) n.reached }

  item_goes : {q : Place} {fs : List Frame} {u : List Kind} → IsStart q → IsItem u → ReachedIn IsAny (stand q fresh fs) u fs
  item_goes {fs = fs} s (relational h) = some_progress (relational_goes {before = None} {fs = fs} s h)
  item_goes s (bitwise o is h) = record { progress = p.Bitwise o; is = any; reached = bitwise_goes s is h }

  expression_goes : {q : Place} {fs : List Frame} {u : List Kind} → IsStart q → MayJoin (enclosing fs) → IsExpression u → ReachedIn IsAny (stand q fresh fs) u fs
  expression_goes s m (item h) = item_goes s h
  expression_goes s m (logical o is h) = some_progress (logical_goes s m is h)

  list_goes : {q : Place} {fs : List Frame} {u : List Kind} → IsStart q → enclosing fs ≡ e.List → IsListBody u → Reaches (stand q fresh fs) u (popped fs)
  list_goes {fs = fs} s is (last_item h) =
      let t = item_goes {fs = fs} s h in
      then_reaches t.reached.reaches (close_goes t.reached.behind k.TemplateArgsEnd refl (ap (λ z. after_expression z k.TemplateArgsEnd) is))
  list_goes {fs = fs} s is (last_and_comma h) =
      let t = item_goes {fs = fs} s h in
      then_reaches t.reached.reaches (behind_goes t.reached.behind k.Comma a.Separates refl (ap (λ z. after_expression z k.Comma) is)
      (behind_token (from_same (ap (λ z. does fresh fs (end z k.TemplateArgsEnd)) is) here)))
  list_goes {fs = fs} s is (more_items h g) =
      let t = item_goes {fs = fs} s h in
      then_reaches t.reached.reaches (behind_goes t.reached.behind k.Comma a.Separates refl (ap (λ z. after_expression z k.Comma) is) (list_goes operand_or_end is g))

-- What begins with a list is told to.
pub complete : (tokens : List Kind) → BeginsWithList tokens → verdict tokens beginning ≡ Listed
complete tokens b =
    ap (λ l. verdict l beginning) b.whole ∙ (list_goes {fs = []} operand refl b.is_list).goes b.rest ∙ verdict_ended b.rest Listed
