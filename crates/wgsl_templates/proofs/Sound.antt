-- What was read where the reader stands somewhere.
use Rattle.std.proofs.Common.{◌≡◌, ◌≢◌, ◌∙◌, sym, ap, subst, refl, Bool, true, false, List, [], ◌∷◌, ◌++◌, append_assoc, append-nil, Option, Some, None}
use Rattle.wgsl_templates.specs.declared.meaning.kind.Kind.{Kind}
use Rattle.wgsl_templates.specs.declared.meaning.kind.Kind.TheVariants as k
use Rattle.wgsl_templates.specs.Laws.{BeginsWithList}
use Rattle.wgsl_templates.specs.Grammar.{is_prefix, is_multiplicative, is_additive, is_bitwise, is_logical, IsQualified, id, IsRelative, IsName, qualified, from_package, from_super}
use Rattle.wgsl_templates.specs.Grammar as g
use Rattle.wgsl_templates.specs.Grammar.{IsType, named, templated, IsPrimary, literal, type, call, parenthesized, IsArguments, no_argument, last_argument, more_arguments, IsSingular, primary, member, index}
use Rattle.wgsl_templates.specs.Grammar.{IsUnary, singular, prefixed, IsProduct, times, IsSum, product, plus, IsShift, IsRelational, shift, compared, IsBitwise, two_unaries, more_unaries}
use Rattle.wgsl_templates.specs.Grammar.{IsLogical, two_relations, more_relations, IsItem, relational, bitwise, IsExpression, item, logical, IsListBody, last_item, last_and_comma, more_items}
use Rattle.wgsl_templates.specs.declared.recognizer.recognize.Answer.TheVariants.{List as Listed, Never}
use Rattle.wgsl_templates.specs.declared.recognizer.place.Place.{Place}
use Rattle.wgsl_templates.specs.declared.recognizer.place.Place.TheVariants as at
use Rattle.wgsl_templates.specs.declared.recognizer.place.Relation.{Relation}
use Rattle.wgsl_templates.specs.declared.recognizer.place.Progress.{Progress}
use Rattle.wgsl_templates.specs.declared.recognizer.place.Progress.TheVariants as p
use Rattle.wgsl_templates.specs.declared.recognizer.place.Enclosing.{Enclosing}
use Rattle.wgsl_templates.specs.declared.recognizer.place.Enclosing.TheVariants as e
use Rattle.wgsl_templates.specs.declared.recognizer.place.Frame.{Frame}
use Rattle.wgsl_templates.specs.declared.recognizer.place.State.{State}
use Rattle.wgsl_templates.specs.declared.recognizer.place.Action.{Action}
use Rattle.wgsl_templates.specs.declared.recognizer.place.Action.TheVariants as a
use Rattle.wgsl_templates.specs.Actions.{Status, reading, ended, fresh, next, does, popped, enclosing, first_place, last_place, operates_if}
use Rattle.wgsl_templates.specs.Actions as actions
use Rattle.wgsl_templates.specs.Runs.{verdict}
use Rattle.wgsl_templates.proofs.Run.{stand, beginning}

-- lists of tokens, grouped otherwise

regroup : (u v w : List Kind) (kind : Kind) → ((u ++ v) ++ (kind ∷ [])) ++ w ≡ u ++ (v ++ (kind ∷ w))
regroup u v w kind = append_assoc (u ++ v) (kind ∷ []) w ∙ append_assoc u v (kind ∷ w)

inwards : (u v w x : List Kind) → u ++ (v ++ (w ++ x)) ≡ (u ++ (v ++ w)) ++ x
inwards u v w x = sym (append_assoc u (v ++ w) x ∙ ap (λ l. u ++ l) (append_assoc v w x))

-- what stands in such a bracket
abbrev Whole : Enclosing → List Kind → Type 0
Whole e.List u = IsItem u
Whole _ u = IsExpression u

-- what may stand behind a logical operator, or behind a comparison too
abbrev Part : Bool → List Kind → Type 0
Part false u = IsRelational u
Part true u = IsShift u

-- a relation, or a chain of relations with a logical operator; there is none in a list
data Related (enclosing : Enclosing) : Option Kind → List Kind → Type 0 where
  one_relation : {u : List Kind} → IsRelational u → Related enclosing None u
  more_joined : {o : Kind} {u : List Kind} → enclosing ≢ e.List → is_logical o ≡ true → IsLogical o u → Related enclosing (Some o) u

record Starts (enclosing : Enclosing) (r : Relation) (u : List Kind) : Type 0 where
  goes_on : (v : List Kind) → Part r.compared v → Related enclosing r.logical (u ++ v)
  alone : r.logical ≡ None → r.compared ≡ false → u ≡ []

-- What was read of an expression, behind a unary expression.
data Read (enclosing : Enclosing) : Progress → List Kind → Type 0 where
  unary : {r : Relation} {u v : List Kind} → Starts enclosing r u → IsUnary v → Read enclosing (p.Unary r) (u ++ v)
  sum : {r : Relation} {u v : List Kind} → Starts enclosing r u → IsSum v → Read enclosing (p.Sum r) (u ++ v)
  shifted : {r : Relation} {u v : List Kind} → Starts enclosing r u → IsShift v → Read enclosing (p.Shifted r) (u ++ v)
  bits : {o : Kind} {u : List Kind} → is_bitwise o ≡ true → IsBitwise o u → Read enclosing (p.Bitwise o) u

-- before a unary expression
record Wants (enclosing : Enclosing) (x : Progress) (u : List Kind) : Type 0 where
  reads : (v : List Kind) → IsUnary v → Read enclosing x (u ++ v)

wants_fresh : {enclosing : Enclosing} → Wants enclosing fresh []
wants_fresh = record { reads = λ v h. unary (record { goes_on = λ w i. one_relation i; alone = λ _ _. refl }) h }

-- operators

-- an action that is an operator, or fails
data Operated (enclosing : Enclosing) (u : List Kind) : Action → Type 0 where
  operated : {x : Progress} → Wants enclosing x u → Operated enclosing u (a.Operates x)
  failed : Operated enclosing u a.Fails

related_by : {enclosing : Enclosing} {before : Option Kind} (u : List Kind) (c : Bool) → ((v : List Kind) → Part c v → Related enclosing before (u ++ v)) → (v : List Kind) → IsShift v → Related enclosing before (u ++ v)
related_by u false f v h = f v (shift h)
related_by u true f v h = f v h

related : {enclosing : Enclosing} {r : Relation} {u : List Kind} → Starts enclosing r u → (v : List Kind) → IsShift v → Related enclosing r.logical (u ++ v)
related {r = r} {u = u} s v h = related_by u r.compared s.goes_on v h

multiplied : (u v : List Kind) (o : Kind) → IsSum u → is_multiplicative o ≡ true → IsUnary v → IsSum (u ++ (o ∷ v))
multiplied _ v o (product h) is i = product (times o h is i)
multiplied _ v o (plus {u = a} {v = b} o' h is' h') is i = rw (append_assoc a (o' ∷ b) (o ∷ v)) (plus o' h is' (times o h' is i))

wants_factor : {enclosing : Enclosing} {r : Relation} {u v : List Kind} (o : Kind) → is_multiplicative o ≡ true → Starts enclosing r u → IsSum v → Wants enclosing (p.Sum r) ((u ++ v) ++ (o ∷ []))
wants_factor {u = u} {v = v} o is s h = record { reads = λ w i. rw (regroup u v w o) (sum s (multiplied v w o h is i)) }

wants_term : {enclosing : Enclosing} {r : Relation} {u v : List Kind} (o : Kind) → is_additive o ≡ true → Starts enclosing r u → IsSum v → Wants enclosing (p.Sum r) ((u ++ v) ++ (o ∷ []))
wants_term {u = u} {v = v} o is s h = record { reads = λ w i. rw (regroup u v w o) (sum s (plus o h is (g.unary i))) }

wants_shift : {enclosing : Enclosing} {r : Relation} {u v : List Kind} → Starts enclosing r u → IsUnary v → Wants enclosing (p.Shifted r) ((u ++ v) ++ (k.Shift ∷ []))
wants_shift {u = u} {v = v} s h = record { reads = λ w i. rw (regroup u v w k.Shift) (shifted s (g.shifted h i)) }

wants_compared : {enclosing : Enclosing} {before : Option Kind} (u v : List Kind) → ((w : List Kind) → IsRelational w → Related enclosing before (u ++ w)) → IsShift v
    → Wants enclosing (p.Unary (record { logical = before; compared = true })) ((u ++ v) ++ (k.Comparison ∷ []))
wants_compared {enclosing = enclosing} {before = before} u v f h = record {
  reads = λ w i. unary (record {
    goes_on = λ t j. subst (λ l. Related enclosing before l) (sym (regroup u v t k.Comparison)) (f (v ++ (k.Comparison ∷ t)) (compared h j));
    alone = λ _ c. absurd cc;
  }) i;
}

compared_by : {enclosing : Enclosing} {before : Option Kind} (u v : List Kind) (c : Bool) → ((w : List Kind) → Part c w → Related enclosing before (u ++ w)) → IsShift v
    → Operated enclosing ((u ++ v) ++ (k.Comparison ∷ [])) (actions.compare_if before c)
compared_by u v false f h = operated (wants_compared u v f h)
compared_by u v true f h = failed

shift_operates : {enclosing : Enclosing} {r : Relation} {u v : List Kind} → Starts enclosing r u → IsShift v → (o : Kind) → Operated enclosing ((u ++ v) ++ (o ∷ [])) (actions.shift_operator r o)
shift_operates {r = r} {u = u} {v = v} s h k.Comparison = compared_by u v r.compared s.goes_on h
shift_operates s h _ = failed

sum_operates : {enclosing : Enclosing} {r : Relation} {u v : List Kind} → Starts enclosing r u → IsSum v → (o : Kind) → Operated enclosing ((u ++ v) ++ (o ∷ [])) (actions.sum_operator r o)
sum_operates s h k.Star = operated (wants_factor k.Star refl s h)
sum_operates s h k.Division = operated (wants_factor k.Division refl s h)
sum_operates s h k.Plus = operated (wants_term k.Plus refl s h)
sum_operates s h k.Minus = operated (wants_term k.Minus refl s h)
sum_operates s h k.Comparison = shift_operates s (g.sum h) k.Comparison
sum_operates s h _ = failed

bits_by : {enclosing : Enclosing} {u v : List Kind} (before : Option Kind) (c : Bool) (o : Kind) → is_bitwise o ≡ true → (before ≡ None → c ≡ false → u ≡ []) → IsUnary v
    → Operated enclosing ((u ++ v) ++ (o ∷ [])) (actions.bitwise_if before c o)
bits_by {enclosing = enclosing} {u = u} {v = v} None false o is f h =
    let P : List Kind → Type 0 = λ l. Operated enclosing ((l ++ v) ++ (o ∷ [])) (a.Operates (p.Bitwise o)) in
    subst P (sym (f refl refl)) (operated (record { reads = λ w i. rw (append_assoc v (o ∷ []) w) (bits is (two_unaries o h i)) }))
bits_by None true o is f h = failed
bits_by (Some before) c o is f h = failed

unary_operates : {enclosing : Enclosing} {r : Relation} {u v : List Kind} → Starts enclosing r u → IsUnary v → (o : Kind) → Operated enclosing ((u ++ v) ++ (o ∷ [])) (actions.unary_operator r o)
unary_operates s h k.Shift = operated (wants_shift s h)
unary_operates {r = r} s h k.And = bits_by r.logical r.compared k.And refl s.alone h
unary_operates {r = r} s h k.Or = bits_by r.logical r.compared k.Or refl s.alone h
unary_operates {r = r} s h k.Xor = bits_by r.logical r.compared k.Xor refl s.alone h
unary_operates s h o = sum_operates s (product (g.unary h)) o

operates_by : {enclosing : Enclosing} {u : List Kind} {x : Progress} (b : Bool) → (b ≡ true → Wants enclosing x u) → Operated enclosing u (operates_if b x)
operates_by true f = operated (f refl)
operates_by false f = failed

same_is : (before o : Kind) → actions.same_operator before o ≡ true → before ≡ o
same_is k.And k.And h = refl
same_is k.Or k.Or h = refl
same_is k.Xor k.Xor h = refl
same_is k.AndAnd k.AndAnd h = refl
same_is k.OrOr k.OrOr h = refl
same_is _ _ h = absurd cc

bits_operate : {enclosing : Enclosing} {u : List Kind} (before o : Kind) → is_bitwise before ≡ true → IsBitwise before u → Operated enclosing (u ++ (o ∷ [])) (actions.bitwise_operator before o)
bits_operate {enclosing = enclosing} {u = u} before o is h = operates_by (actions.same_operator before o) (λ same.
    let P : Kind → Type 0 = λ l. Wants enclosing (p.Bitwise before) (u ++ (l ∷ [])) in
    subst P (same_is before o same) (record { reads = λ w i. rw (append_assoc u (before ∷ []) w) (bits is (more_unaries before h i)) }))

operates : {enclosing : Enclosing} {x : Progress} {u : List Kind} → Read enclosing x u → (o : Kind) → Operated enclosing (u ++ (o ∷ [])) (actions.operator x o)
operates (unary s h) o = unary_operates s h o
operates (sum s h) o = sum_operates s h o
operates (shifted s h) o = shift_operates s h o
operates (bits {o = before} is h) o = bits_operate before o is h

-- `&&` and `||`

joined_more : {enclosing : Enclosing} {u : List Kind} (before : Option Kind) (o : Kind) → enclosing ≢ e.List → is_logical o ≡ true → actions.goes_on before o ≡ true → Related enclosing before u
    → (v : List Kind) → IsRelational v → Related enclosing (Some o) ((u ++ (o ∷ [])) ++ v)
joined_more {u = u} None o free is goes (one_relation h) v i = more_joined free is (rw (append_assoc u (o ∷ []) v) (two_relations o h i))
joined_more {u = u} (Some before) o free is goes (more_joined _ _ h) v i =
    let P : Kind → Type 0 = λ l. IsLogical l u in
    more_joined free is (rw (append_assoc u (o ∷ []) v) (more_relations o (subst P (same_is before o goes) h) i))

joins : {enclosing : Enclosing} {u : List Kind} (before : Option Kind) (o : Kind) → enclosing ≢ e.List → is_logical o ≡ true → Related enclosing before u → Operated enclosing (u ++ (o ∷ [])) (actions.joined before o)
joins before o free is h = operates_by (actions.goes_on before o) (λ goes. record {
  reads = λ v i. unary (record { goes_on = λ w j. joined_more before o free is goes h w j; alone = λ none _. absurd cc }) i;
})

logical_operates : {enclosing : Enclosing} {x : Progress} {u : List Kind} → enclosing ≢ e.List → Read enclosing x u → (o : Kind) → is_logical o ≡ true
    → Operated enclosing (u ++ (o ∷ [])) (actions.logical_operator x o)
logical_operates free (unary {r = r} {v = v} s h) o is = joins r.logical o free is (related s v (g.sum (product (g.unary h))))
logical_operates free (sum {r = r} {v = v} s h) o is = joins r.logical o free is (related s v (g.sum h))
logical_operates free (shifted {r = r} {v = v} s h) o is = joins r.logical o free is (related s v h)
logical_operates free (bits _ h) o is = failed

joining : (enclosing : Enclosing) {x : Progress} {u : List Kind} → Read enclosing x u → (o : Kind) → is_logical o ≡ true → Operated enclosing (u ++ (o ∷ [])) (actions.logical x enclosing o)
joining e.List h o is = failed
joining e.Arguments h o is = logical_operates (λ d. absurd cc) h o is
joining e.Parentheses h o is = logical_operates (λ d. absurd cc) h o is
joining e.Index h o is = logical_operates (λ d. absurd cc) h o is

-- a whole expression

item_whole : (enclosing : Enclosing) {u : List Kind} → IsItem u → Whole enclosing u
item_whole e.List h = h
item_whole e.Arguments h = item h
item_whole e.Parentheses h = item h
item_whole e.Index h = item h

related_whole : (enclosing : Enclosing) (before : Option Kind) {u : List Kind} → Related enclosing before u → Whole enclosing u
related_whole enclosing None (one_relation h) = item_whole enclosing (relational h)
related_whole e.List (Some o) (more_joined d _ _) = absurd (d refl)
related_whole e.Arguments (Some o) (more_joined _ is h) = logical o is h
related_whole e.Parentheses (Some o) (more_joined _ is h) = logical o is h
related_whole e.Index (Some o) (more_joined _ is h) = logical o is h

whole : (enclosing : Enclosing) {x : Progress} {u : List Kind} → Read enclosing x u → Whole enclosing u
whole enclosing (unary {r = r} {v = v} s h) = related_whole enclosing r.logical (related s v (g.sum (product (g.unary h))))
whole enclosing (sum {r = r} {v = v} s h) = related_whole enclosing r.logical (related s v (g.sum h))
whole enclosing (shifted {r = r} {v = v} s h) = related_whole enclosing r.logical (related s v h)
whole enclosing (bits {o = o} is h) = item_whole enclosing (bitwise o is h)

-- brackets

-- what may stand up to the end of a bracket; early, the end alone
data Inside : Bool → Enclosing → List Kind → Type 0 where
  list_end : Inside true e.List (k.TemplateArgsEnd ∷ [])
  list : {early : Bool} {u : List Kind} → IsListBody u → Inside early e.List u
  arguments : {early : Bool} {u : List Kind} → IsArguments u → Inside early e.Arguments u
  parentheses : {early : Bool} {u : List Kind} → IsExpression u → Inside early e.Parentheses (u ++ (k.ParenRight ∷ []))
  an_index : {early : Bool} {u : List Kind} → IsExpression u → Inside early e.Index (u ++ (k.BracketRight ∷ []))

sooner : {enclosing : Enclosing} {u : List Kind} → Inside false enclosing u → Inside true enclosing u
sooner (list h) = list h
sooner (arguments h) = arguments h
sooner (parentheses h) = parentheses h
sooner (an_index h) = an_index h

-- what a bracket makes of the operand that it stands in
data Bracketed : Enclosing → List Kind → Type 0 where
  a_type : {u : List Kind} → IsType u → Bracketed e.List u
  an_operand_of : {bracket : Enclosing} {u : List Kind} → bracket ≢ e.List → IsSingular u → Bracketed bracket u

-- Everything before the place within the last open bracket.
data Opened : Bool → List Frame → List Kind → Type 0 where
  outermost : {early : Bool} {u : List Kind} → ((v : List Kind) → Inside early e.List v → IsListBody (u ++ v)) → Opened early [] u
  nested : {early : Bool} {bracket : Enclosing} {x : Progress} {frames : List Frame} {u v : List Kind} (w : List Kind) → Opened false frames u → Wants (enclosing frames) x v
      → ((t : List Kind) → Inside early bracket t → Bracketed bracket (w ++ t)) → Opened early (record { enclosing = bracket; outer = x } ∷ frames) (u ++ (v ++ w))

opened_same : {early : Bool} {frames : List Frame} {u v : List Kind} → u ≡ v → Opened early frames u → Opened early frames v
opened_same {early = early} {frames = frames} same o = subst (λ l. Opened early frames l) same o

-- with more of what is enclosed
lengthen : {early later : Bool} {frames : List Frame} {u : List Kind} (v : List Kind) → Opened early frames u → ((w : List Kind) → Inside later (enclosing frames) w → Inside early (enclosing frames) (v ++ w))
    → Opened later frames (u ++ v)
lengthen {u = u} v (outermost f) more = outermost (λ w i. rw (append_assoc u v w) (f (v ++ w) (more w i)))
lengthen v (nested {bracket = bracket} {u = a} {v = b} c o wants f) more =
    let P : List Kind → Type 0 = Bracketed bracket in
    opened_same (inwards a b c v) (nested (c ++ v) o wants (λ t i. subst P (sym (append_assoc c v t)) (f (v ++ t) (more t i))))

started : {frames : List Frame} {u : List Kind} → Opened true frames u → Opened false frames u
started {u = u} o = opened_same (append-nil u) (lengthen [] o (λ w i. sooner i))

-- places

-- before an identifier of a name
record Words (u : List Kind) : Type 0 where
  word : (v : List Kind) → IsQualified v → IsName (u ++ v)

-- before `super`
record Relatives (u : List Kind) : Type 0 where
  more : (v : List Kind) → IsRelative v → IsName (u ++ v)

data At : Place → List Kind → Type 0 where
  at_operand : At at.Operand []
  at_package : At at.PackageSeparator (k.Package ∷ [])
  at_super : {u : List Kind} → Relatives u → At at.SuperSeparator (u ++ (k.Super ∷ []))
  at_super_or_word : {u : List Kind} → Relatives u → Words u → At at.SuperOrWord u
  at_word : {u : List Kind} → Words u → At at.Word u
  at_member : {u : List Kind} → IsSingular u → At at.Member (u ++ (k.Period ∷ []))
  at_name : {u : List Kind} → Words u → At at.Name (u ++ (k.Word ∷ []))
  at_templated : {u : List Kind} → IsType u → At at.Templated u
  at_complete : {u : List Kind} → IsSingular u → At at.Complete u

data Holds : Status → List Kind → Type 0 where
  begins : {frames : List Frame} {u : List Kind} → Opened true frames u → Holds (stand at.OperandOrEnd fresh frames) u
  stands : {place : Place} {x : Progress} {frames : List Frame} {u v w : List Kind} → Opened false frames u → Wants (enclosing frames) x v → At place w → Holds (stand place x frames) (u ++ (v ++ w))
  listed : {u : List Kind} → IsListBody u → Holds (ended Listed) u
  never : {u : List Kind} → Holds (ended Never) u

same_holds : {s : Status} {u v : List Kind} → u ≡ v → Holds s u → Holds s v
same_holds {s = s} same h = subst (λ l. Holds s l) same h

-- one token further within an operand
stands_more : {place : Place} {x : Progress} {frames : List Frame} {u v : List Kind} (w : List Kind) (kind : Kind) → Opened false frames u → Wants (enclosing frames) x v → At place (w ++ (kind ∷ []))
    → Holds (stand place x frames) ((u ++ (v ++ w)) ++ (kind ∷ []))
stands_more {u = u} {v = v} w kind o wants h = same_holds (inwards u v w (kind ∷ [])) (stands o wants h)

-- before an operand
wants_holds : {x : Progress} {frames : List Frame} {u : List Kind} (v : List Kind) → Opened false frames u → Wants (enclosing frames) x v → Holds (stand at.Operand x frames) (u ++ v)
wants_holds {u = u} v o wants = same_holds (ap (λ l. u ++ l) (append-nil v)) (stands o wants at_operand)

starts_holds : {frames : List Frame} {u : List Kind} → Opened false frames u → Holds (stand at.Operand fresh frames) u
starts_holds {u = u} o = same_holds (append-nil u) (wants_holds [] o wants_fresh)

-- a bracket that opens
opens : {early : Bool} {x : Progress} {frames : List Frame} {u v : List Kind} (w : List Kind) (bracket : Enclosing) (kind : Kind) → Opened false frames u → Wants (enclosing frames) x v
    → ((t : List Kind) → Inside early bracket t → Bracketed bracket (w ++ (kind ∷ t))) → Opened early (record { enclosing = bracket; outer = x } ∷ frames) ((u ++ (v ++ w)) ++ (kind ∷ []))
opens {u = u} {v = v} w bracket kind o wants f =
    let P : List Kind → Type 0 = Bracketed bracket in
    opened_same (inwards u v w (kind ∷ [])) (nested (w ++ (kind ∷ [])) o wants (λ t i. subst P (sym (append_assoc w (kind ∷ []) t)) (f t i)))

at_last : (bracket : Enclosing) {u : List Kind} → Bracketed bracket u → At (last_place bracket) u
at_last e.List (a_type h) = at_templated h
at_last e.List (an_operand_of d h) = absurd (d refl)
at_last e.Arguments (an_operand_of d h) = at_complete h
at_last e.Parentheses (an_operand_of d h) = at_complete h
at_last e.Index (an_operand_of d h) = at_complete h

-- a bracket that closes
closes : {early : Bool} {frames : List Frame} {u : List Kind} (v : List Kind) → Opened early frames u → Inside early (enclosing frames) v → Holds (popped frames) (u ++ v)
closes v (outermost f) i = listed (f v i)
closes v (nested {bracket = bracket} {u = a} {v = b} c o wants f) i = same_holds (inwards a b c v) (stands o wants (at_last bracket (f v i)))

operated_holds : (x : Progress) {frames : List Frame} {u : List Kind} {act : Action} (v : List Kind) → Opened false frames u → Operated (enclosing frames) v act → Holds (does x frames act) (u ++ v)
operated_holds x v o (operated wants) = wants_holds v o wants
operated_holds x v o failed = never

-- behind a whole expression

list_more : (v : List Kind) → IsItem v → (w : List Kind) → Inside true e.List w → Inside false e.List (v ++ (k.Comma ∷ w))
list_more v h w list_end = list (last_and_comma h)
list_more v h w (list i) = list (more_items h i)

arguments_more : (v : List Kind) → IsExpression v → (w : List Kind) → Inside true e.Arguments w → Inside false e.Arguments (v ++ (k.Comma ∷ w))
arguments_more v h w (arguments i) = arguments (more_arguments h i)

module _ (x : Progress) {frames : List Frame} {u : List Kind} (v : List Kind) (o : Opened false frames u) where
  separates : ((w : List Kind) → Inside true (enclosing frames) w → Inside false (enclosing frames) (v ++ (k.Comma ∷ w))) → Holds (stand at.OperandOrEnd fresh frames) ((u ++ v) ++ (k.Comma ∷ []))
  separates more =
      let P : List Kind → Type 0 = λ l. Inside false (enclosing frames) l in
      same_holds (sym (append_assoc u v (k.Comma ∷ []))) (begins (lengthen (v ++ (k.Comma ∷ [])) o (λ w i. subst P (sym (append_assoc v (k.Comma ∷ []) w)) (more w i))))

  ends : (kind : Kind) → Inside false (enclosing frames) (v ++ (kind ∷ [])) → Holds (popped frames) ((u ++ v) ++ (kind ∷ []))
  ends kind i = same_holds (sym (append_assoc u v (kind ∷ []))) (closes (v ++ (kind ∷ [])) o i)

  expression_in : (bracket : Enclosing) → enclosing frames ≡ bracket → Whole bracket v → (kind : Kind) → Holds (does x frames (actions.after_expression bracket kind)) ((u ++ v) ++ (kind ∷ []))
  expression_in e.List is h k.Comma = separates (subst (λ b. (w : List Kind) → Inside true b w → Inside false b (v ++ (k.Comma ∷ w))) (sym is) (list_more v h))
  expression_in e.List is h k.TemplateArgsEnd = ends k.TemplateArgsEnd (subst (λ b. Inside false b (v ++ (k.TemplateArgsEnd ∷ []))) (sym is) (list (last_item h)))
  expression_in e.Arguments is h k.Comma = separates (subst (λ b. (w : List Kind) → Inside true b w → Inside false b (v ++ (k.Comma ∷ w))) (sym is) (arguments_more v h))
  expression_in e.Arguments is h k.ParenRight = ends k.ParenRight (subst (λ b. Inside false b (v ++ (k.ParenRight ∷ []))) (sym is) (arguments (last_argument h)))
  expression_in e.Parentheses is h k.ParenRight = ends k.ParenRight (subst (λ b. Inside false b (v ++ (k.ParenRight ∷ []))) (sym is) (parentheses h))
  expression_in e.Index is h k.BracketRight = ends k.BracketRight (subst (λ b. Inside false b (v ++ (k.BracketRight ∷ []))) (sym is) (an_index h))
  expression_in _ is h _ = never

-- behind an operand

module _ {x : Progress} {frames : List Frame} {u v : List Kind} (o : Opened false frames u) (wants : Wants (enclosing frames) x v) where
  expression : (w : List Kind) → IsSingular w → (kind : Kind) → Holds (does x frames (actions.after_expression (enclosing frames) kind)) ((u ++ (v ++ w)) ++ (kind ∷ []))
  expression w h kind = expression_in x (v ++ w) o (enclosing frames) refl (whole (enclosing frames) (wants.reads w (singular h))) kind

  operator : (w : List Kind) → IsSingular w → (kind : Kind) → Holds (does x frames (actions.operator x kind)) ((u ++ (v ++ w)) ++ (kind ∷ []))
  operator w h kind = same_holds (sym (append_assoc u (v ++ w) (kind ∷ []))) (operated_holds x ((v ++ w) ++ (kind ∷ [])) o (operates (wants.reads w (singular h)) kind))

  joint : (w : List Kind) → IsSingular w → (kind : Kind) → is_logical kind ≡ true → Holds (does x frames (actions.logical x (enclosing frames) kind)) ((u ++ (v ++ w)) ++ (kind ∷ []))
  joint w h kind is = same_holds (sym (append_assoc u (v ++ w) (kind ∷ []))) (operated_holds x ((v ++ w) ++ (kind ∷ [])) o (joining (enclosing frames) (wants.reads w (singular h)) kind is))

  indexed : (w t : List Kind) → IsSingular w → Inside false e.Index t → IsSingular (w ++ (k.BracketLeft ∷ t))
  indexed w t h (an_index i) = index h i

  called : (w t : List Kind) → IsType w → Inside true e.Arguments t → IsSingular (w ++ (k.ParenLeft ∷ t))
  called w t h (arguments i) = primary (call h i)

  listing : (w t : List Kind) → IsName w → Inside false e.List t → IsType (w ++ (k.TemplateArgsStart ∷ t))
  listing w t h (list i) = templated h i

  after_operand : (w : List Kind) → IsSingular w → (kind : Kind) → Holds (does x frames (actions.after_operand x (enclosing frames) kind)) ((u ++ (v ++ w)) ++ (kind ∷ []))
  after_operand w h k.Period = stands_more w k.Period o wants (at_member h)
  after_operand w h k.BracketLeft = starts_holds (opens w e.Index k.BracketLeft o wants (λ t i. an_operand_of (λ d. absurd cc) (indexed w t h i)))
  after_operand w h k.Comma = expression w h k.Comma
  after_operand w h k.TemplateArgsEnd = expression w h k.TemplateArgsEnd
  after_operand w h k.ParenRight = expression w h k.ParenRight
  after_operand w h k.BracketRight = expression w h k.BracketRight
  after_operand w h k.AndAnd = joint w h k.AndAnd refl
  after_operand w h k.OrOr = joint w h k.OrOr refl
  after_operand w h kind = operator w h kind

  after_template : (w : List Kind) → IsType w → (kind : Kind) → Holds (does x frames (actions.after_template x (enclosing frames) kind)) ((u ++ (v ++ w)) ++ (kind ∷ []))
  after_template w h k.ParenLeft = begins (opens w e.Arguments k.ParenLeft o wants (λ t i. an_operand_of (λ d. absurd cc) (called w t h i)))
  after_template w h kind = after_operand w (primary (type h)) kind

  further : (w : List Kind) → Words w → Words ((w ++ (k.Word ∷ [])) ++ (k.PathSeparator ∷ []))
  further w h = record { word = λ t i. rw (append_assoc (w ++ (k.Word ∷ [])) (k.PathSeparator ∷ []) t, append_assoc w (k.Word ∷ []) (k.PathSeparator ∷ t)) (h.word (k.Word ∷ k.PathSeparator ∷ t) (g.within i)) }

  after_name : (w : List Kind) → Words w → (kind : Kind) → Holds (does x frames (actions.after_name x (enclosing frames) kind)) ((u ++ (v ++ (w ++ (k.Word ∷ [])))) ++ (kind ∷ []))
  after_name w h k.PathSeparator = stands_more (w ++ (k.Word ∷ [])) k.PathSeparator o wants (at_word (further w h))
  after_name w h k.TemplateArgsStart = starts_holds (opens (w ++ (k.Word ∷ [])) e.List k.TemplateArgsStart o wants (λ t i. a_type (listing (w ++ (k.Word ∷ [])) t (h.word (k.Word ∷ []) id) i)))
  after_name w h kind = after_template (w ++ (k.Word ∷ [])) (named (h.word (k.Word ∷ []) id)) kind

  enclosed : (t : List Kind) → Inside false e.Parentheses t → IsSingular (k.ParenLeft ∷ t)
  enclosed t (parentheses i) = primary (parenthesized i)

  prefix : (kind : Kind) → is_prefix kind ≡ true → Holds (stand at.Operand x frames) ((u ++ (v ++ [])) ++ (kind ∷ []))
  prefix kind is =
      let w : Wants (enclosing frames) x (v ++ (kind ∷ [])) = record { reads = λ t i. rw (append_assoc v (kind ∷ []) t) (wants.reads (kind ∷ t) (prefixed kind is i)) } in
      same_holds (sym (append_assoc u v (kind ∷ [])) ∙ ap (λ l. (u ++ l) ++ (kind ∷ [])) (sym (append-nil v))) (wants_holds (v ++ (kind ∷ [])) o w)

  an_operand : (kind : Kind) → Holds (does x frames (actions.operand kind)) ((u ++ (v ++ [])) ++ (kind ∷ []))
  an_operand k.Literal = stands_more [] k.Literal o wants (at_complete (primary literal))
  an_operand k.Word = stands_more [] k.Word o wants (at_name {u = []} (record { word = λ t i. qualified i }))
  an_operand k.Package = stands_more [] k.Package o wants at_package
  an_operand k.Super = stands_more [] k.Super o wants (at_super {u = []} (record { more = λ t i. from_super i }))
  an_operand k.ParenLeft = starts_holds (opens [] e.Parentheses k.ParenLeft o wants (λ t i. an_operand_of (λ d. absurd cc) (enclosed t i)))
  an_operand k.Minus = prefix k.Minus refl
  an_operand k.Not = prefix k.Not refl
  an_operand k.Star = prefix k.Star refl
  an_operand k.And = prefix k.And refl
  an_operand _ = never

  behind_super : (w : List Kind) → Relatives w → Relatives ((w ++ (k.Super ∷ [])) ++ (k.PathSeparator ∷ []))
  behind_super w h = record { more = λ t i. rw (append_assoc (w ++ (k.Super ∷ [])) (k.PathSeparator ∷ []) t, append_assoc w (k.Super ∷ []) (k.PathSeparator ∷ t)) (h.more (k.Super ∷ k.PathSeparator ∷ t) (g.again i)) }

  word_behind_super : (w : List Kind) → Relatives w → Words ((w ++ (k.Super ∷ [])) ++ (k.PathSeparator ∷ []))
  word_behind_super w h = record { word = λ t i. rw (append_assoc (w ++ (k.Super ∷ [])) (k.PathSeparator ∷ []) t, append_assoc w (k.Super ∷ []) (k.PathSeparator ∷ t)) (h.more (k.Super ∷ k.PathSeparator ∷ t) (g.once i)) }

  stood : {place : Place} (w : List Kind) → At place w → (kind : Kind) → Holds (does x frames (actions.action_at place x (enclosing frames) kind)) ((u ++ (v ++ w)) ++ (kind ∷ []))
  stood _ at_operand kind = an_operand kind
  stood _ at_package k.PathSeparator = stands_more (k.Package ∷ []) k.PathSeparator o wants (at_word (record { word = λ t i. from_package i }))
  stood _ at_package _ = never
  stood _ (at_super {u = w} h) k.PathSeparator = stands_more (w ++ (k.Super ∷ [])) k.PathSeparator o wants (at_super_or_word (behind_super w h) (word_behind_super w h))
  stood _ (at_super h) _ = never
  stood w (at_super_or_word h i) k.Super = stands_more w k.Super o wants (at_super h)
  stood w (at_super_or_word h i) k.Word = stands_more w k.Word o wants (at_name i)
  stood w (at_super_or_word h i) _ = never
  stood w (at_word h) k.Word = stands_more w k.Word o wants (at_name h)
  stood w (at_word h) _ = never
  stood _ (at_member {u = w} h) k.Word = stands_more (w ++ (k.Period ∷ [])) k.Word o wants (at_complete (rw (append_assoc w (k.Period ∷ []) (k.Word ∷ [])) (member h)))
  stood _ (at_member h) _ = never
  stood _ (at_name {u = w} h) kind = after_name w h kind
  stood w (at_templated h) kind = after_template w h kind
  stood w (at_complete h) kind = after_operand w h kind

-- where the bracket may close

begun : {frames : List Frame} {u : List Kind} → Opened true frames u → (kind : Kind) → Holds (does fresh frames (actions.operand kind)) (u ++ (kind ∷ []))
begun {u = u} o kind = same_holds (ap (λ l. l ++ (kind ∷ [])) (append-nil u)) (an_operand (started o) wants_fresh kind)

module _ {frames : List Frame} {u : List Kind} (o : Opened true frames u) where
  end_in : (bracket : Enclosing) → enclosing frames ≡ bracket → (kind : Kind) → Holds (does fresh frames (actions.end bracket kind)) (u ++ (kind ∷ []))
  end_in e.List is k.TemplateArgsEnd = closes (k.TemplateArgsEnd ∷ []) o (subst (λ b. Inside true b (k.TemplateArgsEnd ∷ [])) (sym is) list_end)
  end_in e.Arguments is k.ParenRight = closes (k.ParenRight ∷ []) o (subst (λ b. Inside true b (k.ParenRight ∷ [])) (sym is) (arguments no_argument))
  end_in _ is _ = never

  beginning_of : (kind : Kind) → Holds (does fresh frames (actions.operand_or_end (enclosing frames) kind)) (u ++ (kind ∷ []))
  beginning_of k.TemplateArgsEnd = end_in (enclosing frames) refl k.TemplateArgsEnd
  beginning_of k.ParenRight = end_in (enclosing frames) refl k.ParenRight
  beginning_of kind = begun o kind

holds_next : {state : State} {frames : List Frame} {u : List Kind} → Holds (reading state frames) u → (kind : Kind) → Holds (next state frames kind) (u ++ (kind ∷ []))
holds_next (begins o) kind = beginning_of o kind
holds_next (stands {w = w} o wants h) kind = stood o wants w h kind

-- Where a list is told, one was read.
reads_list : (kinds : List Kind) (s : Status) (u : List Kind) → Holds s u → verdict kinds s ≡ Listed → BeginsWithList (u ++ kinds)
reads_list [] (reading state frames) u h is = absurd cc
reads_list [] (ended answer) u (listed h) is = record { body = u; rest = []; whole = refl; is_list = h }
reads_list [] (ended answer) u never is = absurd cc
reads_list (kind ∷ kinds) (reading state frames) u h is =
    let P : List Kind → Type 0 = BeginsWithList in
    subst P (append_assoc u (kind ∷ []) kinds) (reads_list kinds (next state frames kind) (u ++ (kind ∷ [])) (holds_next h kind) is)
reads_list (kind ∷ kinds) (ended answer) u (listed h) is = record { body = u; rest = kind ∷ kinds; whole = refl; is_list = h }
reads_list (kind ∷ kinds) (ended answer) u never is = absurd cc

pub sound : (kinds : List Kind) → verdict kinds beginning ≡ Listed → BeginsWithList kinds
sound kinds is = reads_list kinds beginning [] (starts_holds (outermost (λ v i. body i))) is
  where
    body : {v : List Kind} → Inside false e.List v → IsListBody v
    body (list h) = h
