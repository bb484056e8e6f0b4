-- One walk: from what is known of the parts to what is known of the whole.
use Rattle.std.proofs.Common.{◌≡◌, refl, sym, ap, ◌∙◌, subst, ℕ, List, [], ◌∷◌, map, Option, Some, None, Bool, true, false, Result, Ok, Err, append_assoc, append-nil, ◌+◌, ◌<◌, length, drop, get_or}
use Rattle.std.specs.Prelude.{if◌then◌else◌, codes}
use Rattle.std.specs.Str.{bytes_eq}
use Rattle.std.specs.Result.{IsErrAnd}
use Rattle.std.proofs.lemmas.List.{drop_more}
use Rattle.wgsl_base.specs.declared.items.error.OrOutOfMemory.{OrOutOfMemory}
use Rattle.wgsl_base.specs.declared.items.error.OrOutOfMemory.TheVariants.{Error as OfFault, OutOfMemory}
use Rattle.wgsl_base.specs.Memory.{UnlessOutOfMemory}
use Rattle.wgsl_path.specs.declared.span.Span.{Span}
use Rattle.wgsl_path.specs.declared.span.Spanned.{Spanned}
use Rattle.wgsl_words.specs.declared.operators.UnaryOperator.{UnaryOperator}
use Rattle.wgsl_words.specs.declared.operators.BinaryOperator.{BinaryOperator}
use Rattle.core_syntax.specs.declared.expression.ParenthesizedExpressionOf.{ParenthesizedExpressionOf}
use Rattle.core_syntax.specs.declared.expression.UnaryExpressionOf.{UnaryExpressionOf}
use Rattle.core_syntax.specs.declared.expression.FunctionCallOf.{FunctionCallOf}
use Rattle.core_syntax.specs.declared.expression.Expression.{Expression}
use Rattle.core_syntax.specs.declared.expression.Expression.TheVariants.{Parenthesized, Unary, Binary, FunctionCall}
use Rattle.core_syntax.specs.View.{tree, node_tree, type_tree, call_layer}
use Rattle.core_syntax.proofs.Trees.{tree_of_parenthesized, tree_of_unary, tree_of_binary, tree_of_call}
use Rattle.core_syntax.specs.Tree.{Exp, Exps, parenthesized, unary, binary, call, nil, cons, exps, Typ, simple, templated, Decl}
use Rattle.wgsl_words.specs.declared.enumerations.words.ShaderStage.TheVariants.{Const}
use Rattle.wgsl_shader_type.specs.declared.literal.LiteralInstance.{LiteralInstance}
use Rattle.wgsl_shader_type.specs.declared.error.Error.{Error}
use Rattle.wgsl_scalar.specs.declared.scalar.ScalarType.{ScalarType}
use Rattle.wgsl_scalar.specs.declared.scalar.ScalarType.TheVariants.{Integer}
use Rattle.wgsl_scalar.specs.declared.scalar.IntegerType.TheVariants.{I32, U32}
use Rattle.wgsl_scalar.specs.Operators.{unary_value, binary_value}
use Rattle.core_meaning.specs.declared.fault.Fault.{Fault}
use Rattle.core_meaning.specs.declared.fault.Fault.TheVariants.{StepLimit, Operation, Deferred, NegativeAttr, Name as Named}
use Rattle.core_meaning.specs.declared.fault.NameFault.TheVariants.{Todo}
use Rattle.core_meaning.specs.Values.{Checked, and_then, decides}
use Rattle.core_meaning.specs.Outcome.{Outcome, Done, Failed, Deep, after, bind, at_once, computed}
use Rattle.core_meaning.specs.Names.{Name, find, plain_name, built_in_type}
use Rattle.core_meaning.specs.Programs.{called_at, here_if}
use Rattle.core_meaning.specs.Meaning.{value, values, between, construct, called_or, result_here}
use Rattle.core_meaning.specs.ConstStage.{Scope, stage, callee_of, callee_at}
use Rattle.core_meaning.specs.Written.{written}
use Rattle.core_written.specs.Ends.{Gives}
use Rattle.core_written.specs.declared.name.Reduced.{Reduced as CodeReduced}
use Rattle.core_written.specs.declared.name.Reduced.TheVariants.{Parts}
use Rattle.core_lower_expressions.specs.Computed.{lacks_value, unless_fault, lowered, all_lowered, parts, const_value, written_or, callee_here}
use Rattle.core_lower_expressions.specs.Reduced.{Reduced, AllReduced, known, rewritten, reduction, reduced_to, reduced, all_reduced_to, all_reduced, in_parentheses, operated, under_operator, decided_by, between_operands, constructor_name, ended, of_arguments, all_valued, with_argument, joined_values, before_more}
use Rattle.core_lower_expressions.proofs.Parts.{lowered_is}

-- ---- values that may be missing

abbrev pub then_value : {A B : Type 0} → Checked (Option A) → (A → Checked (Option B)) → Checked (Option B)
then_value (Ok (Some v)) go = go v
then_value (Ok None) go = Ok None
then_value (Err f) go = Err f

after_same : {A : Type 0} (m : ℕ) (o : Outcome A) → const_value (after m o) ≡ const_value o
after_same m (Done x n) = refl
after_same m (Failed f) = refl
after_same m Deep = refl

fault_goes : {A B : Type 0} (f : Fault) (go : A → Checked (Option B)) → unless_fault f (Ok None) ≡ then_value (unless_fault f (Ok None)) go
fault_goes StepLimit go = refl
fault_goes (Operation e) go = refl
fault_goes (Deferred t) go = refl
fault_goes (NegativeAttr z) go = refl
fault_goes {A = A} {B = B} (Named f x) go = by (lacks_value f)
  where
    by : (b : Bool) → (if b then Ok None else Err (Named f x)) ≡ then_value {A = A} {B = B} (if b then Ok None else Err (Named f x)) go
    by true = refl
    by false = refl

bind_value : {A B : Type 0} (o : Outcome A) (go : A → Outcome B) → const_value (bind o go) ≡ then_value (const_value o) (λ x. const_value (go x))
bind_value (Done x m) go = after_same m (go x)
bind_value (Failed f) go = fault_goes f (λ x. const_value (go x))
bind_value Deep go = refl

computed_value : (r : Result LiteralInstance Error) → const_value (computed r) ≡ and_then (operated r) (λ w. Ok (Some w))
computed_value (Ok v) = refl
computed_value (Err f) = refl

-- a value, and what is written: its text where there is one, and the same fault
pub data Meets {A B : Type 0} (text : A → B) : Checked (Option A) → Checked B → Type 0 where
  valued : (v : A) → Meets text (Ok (Some v)) (Ok (text v))
  lacking : (d : Checked B) → Meets text (Ok None) d
  faulty : (f : Fault) → Meets text (Err f) (Err f)

meets_or : (v : Checked (Option LiteralInstance)) (p : Checked Exp) → Meets written v (and_then v (written_or p))
meets_or (Ok (Some v)) p = valued v
meets_or (Ok None) p = lacking p
meets_or (Err f) p = faulty f

abbrev of_value : Scope → Exp → Checked (Option LiteralInstance)
of_value s e = const_value (value (stage s) [] e)

abbrev of_values : Scope → Exps → Checked (Option (List LiteralInstance))
of_values s es = const_value (values (stage s) [] es)

meets : (s : Scope) (e : Exp) → Meets written (of_value s e) (lowered s e)
meets s e = subst (Meets written (of_value s e)) (sym (lowered_is s e)) (meets_or (of_value s e) (parts s e))

abbrev more_values : Checked (Option LiteralInstance) → Checked (Option (List LiteralInstance)) → Checked (Option (List LiteralInstance))
more_values v vs = then_value v (λ x. then_value vs (λ xs. Ok (Some (x ∷ xs))))

values_cons : (s : Scope) (e : Exp) (es : Exps) → of_values s (cons e es) ≡ more_values (of_value s e) (of_values s es)
values_cons s e es = bind_value (value (stage s) [] e) _ ∙ ap (then_value (of_value s e)) (λ i x. bind_value (values (stage s) [] es) (λ xs. Done (x ∷ xs) 0) i)

meets_cons : (v : Checked (Option LiteralInstance)) (d : Checked Exp) (vs : Checked (Option (List LiteralInstance))) (ds : Checked (List Exp)) → Meets written v d → Meets (map written) vs ds
    → Meets (map written) (more_values v vs) (and_then d (λ c. and_then ds (λ cs. Ok (c ∷ cs))))
meets_cons v d vs ds (valued w) (valued ws) = valued (w ∷ ws)
meets_cons v d vs ds (valued w) (lacking _) = lacking _
meets_cons v d vs ds (valued w) (faulty f) = faulty f
meets_cons v d vs ds (lacking _) m = lacking _
meets_cons v d vs ds (faulty f) m = faulty f

all_meet : (s : Scope) (es : Exps) → Meets (map written) (of_values s es) (all_lowered s es)
all_meet s nil = valued []
all_meet s (cons e es) = subst (λ v. Meets (map written) v (all_lowered s (cons e es))) (sym (values_cons s e es)) (meets_cons _ _ _ _ (meets s e) (all_meet s es))

-- ---- the lowered expression from what one walk gives

from_pair : (v : Checked (Option LiteralInstance)) (d : Checked Exp) → Meets written v d → d ≡ and_then (reduced_to v d) (λ x. Ok x.text)
from_pair v d (valued w) = refl
from_pair v d (lacking (Ok e)) = refl
from_pair v d (lacking (Err f)) = refl
from_pair v d (faulty f) = refl

pub lowered_from : (s : Scope) (e : Exp) → lowered s e ≡ and_then (reduced s e) (λ x. Ok x.text)
lowered_from s e = from_pair _ _ (meets s e)

-- ---- parentheses and operators

abbrev whole : Checked (Option LiteralInstance) → Checked Exp → Checked Reduced
whole v p = reduced_to v (and_then v (written_or p))

whole_is : (s : Scope) (e : Exp) (v : Checked (Option LiteralInstance)) → of_value s e ≡ v → reduced s e ≡ whole v (parts s e)
whole_is s e v h = ap (reduced_to (of_value s e)) (lowered_is s e) ∙ ap (λ u. whole u (parts s e)) h

parenthesized_pair : (v : Checked (Option LiteralInstance)) (d : Checked Exp) → Meets written v d → whole v (and_then d (λ e. Ok (parenthesized e))) ≡ and_then (reduced_to v d) (λ x. Ok (in_parentheses x))
parenthesized_pair v d (valued w) = refl
parenthesized_pair v d (lacking (Ok e)) = refl
parenthesized_pair v d (lacking (Err f)) = refl
parenthesized_pair v d (faulty f) = refl

pub reduced_parenthesized : (s : Scope) (e : Exp) → reduced s (parenthesized e) ≡ and_then (reduced s e) (λ x. Ok (in_parentheses x))
reduced_parenthesized s e = whole_is s (parenthesized e) _ refl ∙ parenthesized_pair _ _ (meets s e)

operated_whole : (r : Checked LiteralInstance) (p : Checked Exp) → whole (and_then r (λ w. Ok (Some w))) p ≡ and_then r (λ w. Ok (known w))
operated_whole (Ok w) p = refl
operated_whole (Err f) p = refl

unary_pair : (o : UnaryOperator) (v : Checked (Option LiteralInstance)) (d : Checked Exp) → Meets written v d
    → whole (then_value v (λ x. and_then (operated (unary_value Const o x)) (λ w. Ok (Some w)))) (and_then d (λ e. Ok (unary o e))) ≡ and_then (reduced_to v d) (under_operator o)
unary_pair o v d (valued w) = operated_whole (operated (unary_value Const o w)) _
unary_pair o v d (lacking (Ok e)) = refl
unary_pair o v d (lacking (Err f)) = refl
unary_pair o v d (faulty f) = refl

pub reduced_unary : (s : Scope) (o : UnaryOperator) (e : Exp) → reduced s (unary o e) ≡ and_then (reduced s e) (under_operator o)
reduced_unary s o e =
    whole_is s (unary o e) _ (bind_value (value (stage s) [] e) _ ∙ ap (then_value (of_value s e)) (λ i x. computed_value (unary_value Const o x) i))
    ∙ unary_pair o _ _ (meets s e)

-- the value of a binary expression, from those of its operands
abbrev binary_value_of : BinaryOperator → Checked (Option LiteralInstance) → LiteralInstance → Checked (Option LiteralInstance)
binary_value_of o v x = if decides o x then Ok (Some x) else then_value v (λ y. and_then (operated (binary_value Const o x y)) (λ w. Ok (Some w)))

between_value : (s : Scope) (o : BinaryOperator) (x : LiteralInstance) (b : Exp) → const_value (between Const o x (value (stage s) [] b)) ≡ binary_value_of o (of_value s b) x
between_value s o x b = by (decides o x)
  where
    by : (t : Bool) → const_value (if t then Done x 0 else bind (value (stage s) [] b) (λ y. computed (binary_value Const o x y)))
        ≡ (if t then Ok (Some x) else then_value (of_value s b) (λ y. and_then (operated (binary_value Const o x y)) (λ w. Ok (Some w))))
    by true = refl
    by false = bind_value (value (stage s) [] b) _ ∙ ap (then_value (of_value s b)) (λ i y. computed_value (binary_value Const o x y) i)

abbrev pub from_left : BinaryOperator → Checked Reduced → Reduced → Checked Reduced
from_left o y x = if decided_by o x.value then Ok x else and_then y (between_operands o x)

undecided_pair : (o : BinaryOperator) (x : LiteralInstance) (v : Checked (Option LiteralInstance)) (d : Checked Exp) → Meets written v d
    → whole (then_value v (λ y. and_then (operated (binary_value Const o x y)) (λ w. Ok (Some w)))) (and_then d (λ e. Ok (binary o (written x) e)))
    ≡ and_then (reduced_to v d) (between_operands o (known x))
undecided_pair o x v d (valued w) = operated_whole (operated (binary_value Const o x w)) _
undecided_pair o x v d (lacking (Ok e)) = refl
undecided_pair o x v d (lacking (Err f)) = refl
undecided_pair o x v d (faulty f) = refl

lacking_left : (o : BinaryOperator) (c : Exp) (v : Checked (Option LiteralInstance)) (d : Checked Exp) → Meets written v d
    → whole (Ok None) (and_then d (λ e. Ok (binary o c e))) ≡ and_then (reduced_to v d) (between_operands o (rewritten c))
lacking_left o c v d (valued w) = refl
lacking_left o c v d (lacking (Ok e)) = refl
lacking_left o c v d (lacking (Err f)) = refl
lacking_left o c v d (faulty f) = refl

binary_pair : (o : BinaryOperator) (u : Checked (Option LiteralInstance)) (c : Checked Exp) (v : Checked (Option LiteralInstance)) (d : Checked Exp) → Meets written u c → Meets written v d
    → whole (then_value u (binary_value_of o v)) (and_then c (λ e. and_then d (λ f. Ok (binary o e f)))) ≡ and_then (reduced_to u c) (from_left o (reduced_to v d))
binary_pair o u c v d (valued x) m = by (decides o x)
  where
    by : (t : Bool) → whole (if t then Ok (Some x) else then_value v (λ y. and_then (operated (binary_value Const o x y)) (λ w. Ok (Some w)))) (and_then d (λ f. Ok (binary o (written x) f)))
        ≡ (if t then Ok (known x) else and_then (reduced_to v d) (between_operands o (known x)))
    by true = refl
    by false = undecided_pair o x v d m
binary_pair o u c v d (lacking (Ok e)) m = lacking_left o e v d m
binary_pair o u c v d (lacking (Err f)) m = refl
binary_pair o u c v d (faulty f) m = refl

pub reduced_binary : (s : Scope) (o : BinaryOperator) (a b : Exp) → reduced s (binary o a b) ≡ and_then (reduced s a) (from_left o (reduced s b))
reduced_binary s o a b =
    whole_is s (binary o a b) _ (bind_value (value (stage s) [] a) _ ∙ ap (then_value (of_value s a)) (λ i x. between_value s o x b i))
    ∙ binary_pair o _ _ _ _ (meets s a) (meets s b)

-- ---- calls

ok_injective : {A F : Type 0} {a b : A} → let x : Result A F = Ok a in let y : Result A F = Ok b in x ≡ y → a ≡ b
ok_injective {A = A} {F = F} {a = a} h = ap (λ r. out r) h
  where
    out : Result A F → A
    out (Ok x) = x
    out (Err f) = a

err_injective : {A : Type 0} {f g : Fault} → let x : Checked A = Err f in let y : Checked A = Err g in x ≡ y → f ≡ g
err_injective {A = A} {f = f} h = ap (λ r. out r) h
  where
    out : Checked A → Fault
    out (Ok x) = f
    out (Err g) = g

err_recast : {A B : Type 0} {f g : Fault} → let x : Checked A = Err f in let y : Checked A = Err g in x ≡ y → let z : Checked B = Err f in let w : Checked B = Err g in z ≡ w
err_recast h = ap Err (err_injective h)

after_ended : {A : Type 0} (m : ℕ) (o : Outcome A) → ended (after m o) ≡ ended o
after_ended m (Done x n) = refl
after_ended m (Failed f) = refl
after_ended m Deep = refl

computed_ended : (r : Result LiteralInstance Error) → const_value (computed r) ≡ and_then (ended (computed r)) (λ v. Ok (Some v))
computed_ended (Ok v) = refl
computed_ended (Err f) = refl

construct_ended : (f : Name) (t : ScalarType) (vs : List LiteralInstance) → const_value (construct f t vs) ≡ and_then (ended (construct f t vs)) (λ v. Ok (Some v))
construct_ended f t [] = computed_ended _
construct_ended f t (v ∷ []) = computed_ended _
construct_ended f t (v ∷ w ∷ vs) = refl

abbrev result_at : Name → Option ScalarType → Option Decl → List LiteralInstance → Outcome LiteralInstance
result_at f o d vs = called_or f o (called_at Const f (here_if f d) (λ x xs. Deep) vs)

result_ended : (f : Name) (t : ScalarType) (vs : List LiteralInstance) (o : Option ScalarType) (d : Option Decl) → callee_at f o d ≡ Ok t
    → const_value (result_at f o d vs) ≡ and_then (ended (result_at f o d vs)) (λ v. Ok (Some v))
result_ended f t vs (Some u) d h = absurd cc
result_ended f t vs None (Some d) h = absurd cc
result_ended f t vs None None h =
    let P : Checked ScalarType → Type 0 = λ b. const_value (bind (at_once b) (λ t. construct f t vs)) ≡ and_then (ended (bind (at_once b) (λ t. construct f t vs))) (λ v. Ok (Some v)) in
    subst P (sym h) (after_same 0 (construct f t vs) ∙ construct_ended f t vs ∙ ap (λ r. and_then r (λ v. Ok (Some v))) (sym (after_ended 0 (construct f t vs))))

unknown_type : (f : Name) (g : Fault) (vs : List LiteralInstance) → built_in_type f ≡ Err g → const_value (bind (at_once (built_in_type f)) (λ t. construct f t vs)) ≡ Err g
unknown_type f g vs h = by (bytes_eq f (codes "i32")) (bytes_eq f (codes "u32")) h
  where
    by : (a b : Bool) → (if a then Ok (Integer I32) else if b then Ok (Integer U32) else Err (Named Todo f)) ≡ Err g
        → const_value (bind (at_once (if a then Ok (Integer I32) else if b then Ok (Integer U32) else Err (Named Todo f))) (λ t. construct f t vs)) ≡ Err g
    by true b e = absurd cc
    by false true e = absurd cc
    by false false e = err_recast e

result_refused : (f : Name) (g : Fault) (vs : List LiteralInstance) (o : Option ScalarType) (d : Option Decl) → callee_at f o d ≡ Err g → const_value (result_at f o d vs) ≡ Err g
result_refused f g vs (Some u) d h = err_recast h
result_refused f g vs None (Some d) h = err_recast h
result_refused f g vs None None h = unknown_type f g vs h

pub record IsConstructor (s : Scope) (t : Typ) (f : Name) : Type 0 where
  pub plain : plain_name t ≡ Ok f
  pub type : ScalarType
  pub callee : callee_of s f ≡ Ok type

constructor_out : (s : Scope) (t : Typ) (f : Name) → constructor_name s t ≡ Ok f → IsConstructor s t f
constructor_out s t f h = first (plain_name t) refl h
  where
    second : (x : Name) → plain_name t ≡ Ok x → (c : Checked ScalarType) → callee_of s x ≡ c → and_then c (λ u. Ok x) ≡ Ok f → IsConstructor s t f
    second x p (Ok u) c e = let same : x ≡ f = ok_injective e in record { plain = p ∙ ap Ok same; type = u; callee = ap (callee_of s) (sym same) ∙ c }
    second x p (Err g) c e = absurd cc

    first : (p : Checked Name) → plain_name t ≡ p → and_then p (λ x. and_then (callee_of s x) (λ u. Ok x)) ≡ Ok f → IsConstructor s t f
    first (Ok x) is e = second x is (callee_of s x) refl e
    first (Err g) is e = absurd cc

call_value : (s : Scope) (t : Typ) (es : Exps) → of_value s (call t es) ≡ then_value (of_values s es) (λ vs. const_value (result_here (stage s) [] (plain_name t) vs))
call_value s t es = bind_value (values (stage s) [] es) _

call_pair : (t : Typ) (r : List LiteralInstance → Checked LiteralInstance) (vs : Checked (Option (List LiteralInstance))) (ds : Checked (List Exp)) → Meets (map written) vs ds
    → (go : AllReduced → Checked Reduced) → ((ws : List LiteralInstance) (es : List Exp) → go (record { values = Some ws; texts = es }) ≡ and_then (r ws) (λ v. Ok (known v)))
    → ((es : List Exp) → go (record { values = None; texts = es }) ≡ Ok (rewritten (call t (exps es))))
    → whole (then_value vs (λ ws. and_then (r ws) (λ v. Ok (Some v)))) (and_then ds (λ es. Ok (call t (exps es)))) ≡ and_then (all_reduced_to vs ds) go
call_pair t r vs ds (valued ws) go a b = operated_whole (r ws) _ ∙ sym (a ws _)
call_pair t r vs ds (lacking (Ok es)) go a b = sym (b es)
call_pair t r vs ds (lacking (Err f)) go a b = refl
call_pair t r vs ds (faulty f) go a b = refl

constructor_value : (s : Scope) (t : Typ) (f : Name) → IsConstructor s t f → (vs : List LiteralInstance)
    → const_value (result_here (stage s) [] (plain_name t) vs) ≡ and_then (ended ((stage s).result_of f vs)) (λ v. Ok (Some v))
constructor_value s t f c vs = ap (λ n. const_value (result_here (stage s) [] n vs)) c.plain ∙ result_ended f c.type vs (find f s.parameters) (s.declared f) c.callee

callee_there : (s : Scope) (t : Typ) (f : Name) → (c : IsConstructor s t f) → callee_here s t ≡ Ok c.type
callee_there s t f c = ap (λ n. and_then n (callee_of s)) c.plain ∙ c.callee

pub reduced_call : (s : Scope) (t : Typ) (es : Exps) (f : Name) → constructor_name s t ≡ Ok f → reduced s (call t es) ≡ and_then (all_reduced s es) (of_arguments s f t)
reduced_call s t es f h =
    let c = constructor_out s t f h in
    whole_is s (call t es) _ (call_value s t es ∙ ap (then_value (of_values s es)) (λ i vs. constructor_value s t f c vs i))
    ∙ ap (λ u. whole (then_value (of_values s es) (λ vs. and_then (ended ((stage s).result_of f vs)) (λ v. Ok (Some v)))) (and_then u (λ t'. and_then (all_lowered s es) (λ ds. Ok (call t (exps ds)))))) (callee_there s t f c)
    ∙ call_pair t (λ vs. ended ((stage s).result_of f vs)) _ _ (all_meet s es) (of_arguments s f t) (λ ws ds. refl) (λ ds. refl)

record IsRefusedCallee (s : Scope) (t : Typ) (g : Fault) : Type 0 where
  value : (vs : List LiteralInstance) → const_value (result_here (stage s) [] (plain_name t) vs) ≡ Err g
  callee : callee_here s t ≡ Err g

unless_named : {A : Type 0} (t : Typ) (g : Fault) → plain_name t ≡ Err g → let p : Checked (Option A) = Ok None in unless_fault g p ≡ Err g
unless_named (simple None x) g h = absurd cc
unless_named {A = A} (simple (Some path) x) g h = let P : Fault → Type 0 = λ g. let p : Checked (Option A) = Ok None in unless_fault g p ≡ Err g in subst P (err_injective h) refl
unless_named {A = A} (templated None x es) g h = let P : Fault → Type 0 = λ g. let p : Checked (Option A) = Ok None in unless_fault g p ≡ Err g in subst P (err_injective h) refl
unless_named {A = A} (templated (Some path) x es) g h = let P : Fault → Type 0 = λ g. let p : Checked (Option A) = Ok None in unless_fault g p ≡ Err g in subst P (err_injective h) refl

refused_out : (s : Scope) (t : Typ) (g : Fault) → constructor_name s t ≡ Err g → IsRefusedCallee s t g
refused_out s t g h = first (plain_name t) refl h
  where
    second : (x : Name) → plain_name t ≡ Ok x → (c : Checked ScalarType) → callee_of s x ≡ c → and_then c (λ u. Ok x) ≡ Err g → IsRefusedCallee s t g
    second x p (Ok u) c e = absurd cc
    second x p (Err k) c e =
        let same : k ≡ g = err_injective e in
        let refused : callee_of s x ≡ Err g = c ∙ ap Err same in
        record {
          value = λ vs. ap (λ n. const_value (result_here (stage s) [] n vs)) p ∙ result_refused x g vs (find x s.parameters) (s.declared x) refused;
          callee = ap (λ n. and_then n (callee_of s)) p ∙ refused;
        }

    first : (p : Checked Name) → plain_name t ≡ p → and_then p (λ x. and_then (callee_of s x) (λ u. Ok x)) ≡ Err g → IsRefusedCallee s t g
    first (Ok x) is e = second x is (callee_of s x) refl e
    first (Err k) is e =
        let same : plain_name t ≡ Err g = is ∙ ap Err (err_injective e) in
        record {
          value = λ vs. ap (λ n. const_value (result_here (stage s) [] n vs)) same ∙ unless_named t g same;
          callee = ap (λ n. and_then n (callee_of s)) same;
        }

refused_whole : (g : Fault) (vs : Checked (Option (List LiteralInstance))) → whole (then_value vs (λ ws. Err g)) (Err g) ≡ and_then vs (λ o. Err g)
refused_whole g (Ok (Some ws)) = refl
refused_whole g (Ok None) = refl
refused_whole g (Err f) = refl

pub call_refused : (s : Scope) (t : Typ) (es : Exps) (g : Fault) → constructor_name s t ≡ Err g → reduced s (call t es) ≡ and_then (const_value (values (stage s) [] es)) (λ o. Err g)
call_refused s t es g h =
    let r = refused_out s t g h in
    whole_is s (call t es) _ (call_value s t es ∙ ap (then_value (of_values s es)) (λ i vs. r.value vs i))
    ∙ ap (λ u. whole (then_value (of_values s es) (λ vs. Err g)) (and_then u (λ t'. and_then (all_lowered s es) (λ ds. Ok (call t (exps ds)))))) r.callee
    ∙ refused_whole g (of_values s es)

-- ---- the arguments, one after another

abbrev first_value : Option LiteralInstance → Option (List LiteralInstance) → Option (List LiteralInstance)
first_value (Some v) (Some vs) = Some (v ∷ vs)
first_value (Some v) None = None
first_value None o = None

abbrev first_of : Reduced → AllReduced → AllReduced
first_of x xs = record { values = first_value x.value xs.values; texts = x.text ∷ xs.texts }

cons_pair : (v : Checked (Option LiteralInstance)) (d : Checked Exp) (vs : Checked (Option (List LiteralInstance))) (ds : Checked (List Exp)) → Meets written v d → Meets (map written) vs ds
    → all_reduced_to (more_values v vs) (and_then d (λ c. and_then ds (λ cs. Ok (c ∷ cs)))) ≡ and_then (reduced_to v d) (λ x. and_then (all_reduced_to vs ds) (λ xs. Ok (first_of x xs)))
cons_pair v d vs ds (valued w) (valued ws) = refl
cons_pair v d vs ds (valued w) (lacking (Ok es)) = refl
cons_pair v d vs ds (valued w) (lacking (Err f)) = refl
cons_pair v d vs ds (valued w) (faulty f) = refl
cons_pair v d vs ds (lacking (Ok e)) (valued ws) = refl
cons_pair v d vs ds (lacking (Ok e)) (lacking (Ok es)) = refl
cons_pair v d vs ds (lacking (Ok e)) (lacking (Err f)) = refl
cons_pair v d vs ds (lacking (Ok e)) (faulty f) = refl
cons_pair v d vs ds (lacking (Err g)) m = refl
cons_pair v d vs ds (faulty f) m = refl

pub all_reduced_cons : (s : Scope) (e : Exp) (es : Exps) → all_reduced s (cons e es) ≡ and_then (reduced s e) (λ x. and_then (all_reduced s es) (λ xs. Ok (first_of x xs)))
all_reduced_cons s e es = ap (λ v. all_reduced_to v (all_lowered s (cons e es))) (values_cons s e es) ∙ cons_pair _ _ _ _ (meets s e) (all_meet s es)

joined_more : (vs : Option (List LiteralInstance)) (v : Option LiteralInstance) (ws : Option (List LiteralInstance)) → joined_values (all_valued vs v) ws ≡ joined_values vs (first_value v ws)
joined_more (Some vs) (Some v) (Some ws) = ap Some (append_assoc vs (v ∷ []) ws)
joined_more (Some vs) (Some v) None = refl
joined_more (Some vs) None ws = refl
joined_more None v ws = refl

before_goes : (xs : AllReduced) (x : Reduced) (more : Checked AllReduced) → before_more (with_argument xs x) more ≡ before_more xs (and_then more (λ ys. Ok (first_of x ys)))
before_goes xs x (Ok ys) = λ i. Ok (record { values = joined_more xs.values x.value ys.values i; texts = append_assoc xs.texts (x.text ∷ []) ys.texts i })
before_goes xs x (Err f) = refl

pub before_next : (s : Scope) (xs : AllReduced) (e : Exp) (es : Exps) (x : Reduced) → reduced s e ≡ Ok x → before_more (with_argument xs x) (all_reduced s es) ≡ before_more xs (all_reduced s (cons e es))
before_next s xs e es x h = before_goes xs x (all_reduced s es) ∙ ap (before_more xs) (ap (λ r. and_then r (λ y. and_then (all_reduced s es) (λ ys. Ok (first_of y ys)))) (sym h) ∙ sym (all_reduced_cons s e es))

pub before_fault : (s : Scope) (xs : AllReduced) (e : Exp) (es : Exps) (f : Fault) → reduced s e ≡ Err f → before_more xs (all_reduced s (cons e es)) ≡ Err f
before_fault s xs e es f h = ap (before_more xs) (all_reduced_cons s e es ∙ ap (λ r. and_then r (λ y. and_then (all_reduced s es) (λ ys. Ok (first_of y ys)))) h)

joined_none : (vs : Option (List LiteralInstance)) → joined_values vs (Some []) ≡ vs
joined_none (Some vs) = ap Some (append-nil vs)
joined_none None = refl

pub before_nothing : (s : Scope) (xs : AllReduced) → before_more xs (all_reduced s nil) ≡ Ok xs
before_nothing s xs = λ i. Ok (record { values = joined_none xs.values i; texts = append-nil xs.texts i })

none_joined : (o : Option (List LiteralInstance)) → joined_values (Some []) o ≡ o
none_joined (Some vs) = refl
none_joined None = refl

pub nothing_before : (more : Checked AllReduced) → before_more (record { values = Some []; texts = [] }) more ≡ more
nothing_before (Ok ys) = λ i. Ok (record { values = none_joined ys.values i; texts = ys.texts })
nothing_before (Err f) = refl

-- ---- as code has it

then_ok : {A B : Type 0} (o : Checked A) (go : A → Checked B) (x : A) → o ≡ Ok x → and_then o go ≡ go x
then_ok o go x h = ap (λ r. and_then r go) h

then_err : {A B : Type 0} (o : Checked A) (go : A → Checked B) (f : Fault) → o ≡ Err f → and_then o go ≡ Err f
then_err o go f h = ap (λ r. and_then r go) h

-- an exit by `?`
pub passes_on : {A B C : Type 0} (view : A → B) (o : Checked B) (p : Checked C) (r : Result A (OrOutOfMemory Fault)) (e : OrOutOfMemory Fault) → IsErrAnd r (λ y. y ≡ e)
    → UnlessOutOfMemory (λ f. p ≡ Err f) e → ((f : Fault) → p ≡ Err f → o ≡ Err f) → Gives view o r
passes_on view o p (Ok x) e is h go = absurd is
passes_on view o p (Err OutOfMemory) e is h go = tt
passes_on view o p (Err (OfFault f)) e is h go = go f (subst (UnlessOutOfMemory (λ f. p ≡ Err f)) (sym is) h)

module _ (s : Scope) (n : Spanned Expression) (m : Expression) (same : m ≡ n.node) where
  pub at_parenthesized : (x : ParenthesizedExpressionOf Expression) → m ≡ Parenthesized x → reduced s (node_tree n) ≡ and_then (reduced s (node_tree x.expression)) (λ y. Ok (in_parentheses y))
  at_parenthesized x h = ap (λ e. reduced s (tree e)) (sym same ∙ h) ∙ ap (reduced s) (tree_of_parenthesized x) ∙ reduced_parenthesized s (node_tree x.expression)

  pub at_unary : (x : UnaryExpressionOf Expression) → m ≡ Unary x → reduced s (node_tree n) ≡ and_then (reduced s (node_tree x.operand)) (under_operator x.operator)
  at_unary x h = ap (λ e. reduced s (tree e)) (sym same ∙ h) ∙ ap (reduced s) (tree_of_unary x) ∙ reduced_unary s x.operator (node_tree x.operand)

  pub at_call : (x y : FunctionCallOf Expression) → m ≡ FunctionCall x → y ≡ x → reduced s (node_tree n) ≡ reduced s (call_layer tree y)
  at_call x y h k = ap (λ e. reduced s (tree e)) (sym same ∙ h) ∙ ap (reduced s) (tree_of_call x) ∙ ap (λ z. reduced s (call_layer tree z)) (sym k)

pub parenthesized_out : (s : Scope) (e : Exp) (x y : Reduced) (o : Checked Reduced) → o ≡ and_then (reduced s e) (λ z. Ok (in_parentheses z)) → reduced s e ≡ Ok x → y ≡ in_parentheses x → o ≡ Ok y
parenthesized_out s e x y o h a b = h ∙ then_ok (reduced s e) (λ z. Ok (in_parentheses z)) x a ∙ ap Ok (sym b)

pub goes_on : {A B C : Type 0} (view : A → C) (p : Checked B) (go : B → Checked C) (x : B) (o : Checked C) (r : Result A (OrOutOfMemory Fault)) → o ≡ and_then p go → p ≡ Ok x → Gives view (go x) r → Gives view o r
goes_on view p go x o r h a g = subst (λ o. Gives view o r) (sym (h ∙ then_ok p go x a)) g

pub binary_left_fault : (s : Scope) (o : BinaryOperator) (a b : Exp) (f : Fault) → reduced s a ≡ Err f → reduced s (binary o a b) ≡ Err f
binary_left_fault s o a b f h = reduced_binary s o a b ∙ then_err (reduced s a) (from_left o (reduced s b)) f h

pub binary_decided : (s : Scope) (o : BinaryOperator) (a b : Exp) (x : Reduced) → reduced s a ≡ Ok x → decided_by o x.value ≡ true → reduced s (binary o a b) ≡ Ok x
binary_decided s o a b x h d = reduced_binary s o a b ∙ then_ok (reduced s a) (from_left o (reduced s b)) x h ∙ ap (λ t. if t then Ok x else and_then (reduced s b) (between_operands o x)) d

pub binary_undecided : (s : Scope) (o : BinaryOperator) (a b : Exp) (x : Reduced) → reduced s a ≡ Ok x → decided_by o x.value ≡ false → reduced s (binary o a b) ≡ and_then (reduced s b) (between_operands o x)
binary_undecided s o a b x h d = reduced_binary s o a b ∙ then_ok (reduced s a) (from_left o (reduced s b)) x h ∙ ap (λ t. if t then Ok x else and_then (reduced s b) (between_operands o x)) d

pub binary_is : (n l r : Spanned Expression) (p : Span) (o : BinaryOperator) (x y : Exp) → n ≡ record { node = Binary (record { operator = o; left = l; right = r }); span = p } → node_tree l ≡ x → node_tree r ≡ y
    → node_tree n ≡ binary o x y
binary_is n l r p o x y h a b = ap node_tree h ∙ tree_of_binary _ ∙ (λ i. binary o (a i) (b i))

pub parenthesized_node : (n e : Spanned Expression) (p : Span) (c : CodeReduced) → c ≡ Parts e → n ≡ record { node = Parenthesized (record { expression = e }); span = p } → rewritten (node_tree n) ≡ in_parentheses (reduction c)
parenthesized_node n e p c h is = ap rewritten (ap node_tree is ∙ tree_of_parenthesized _) ∙ sym (ap (λ z. in_parentheses (reduction z)) h)

pub unary_node : (n e : Spanned Expression) (p : Span) (o : UnaryOperator) (c : CodeReduced) → c ≡ Parts e → n ≡ record { node = Unary (record { operator = o; operand = e }); span = p } → under_operator o (reduction c) ≡ Ok (rewritten (node_tree n))
unary_node n e p o c h is = ap (λ z. under_operator o (reduction z)) h ∙ ap (λ x. Ok (rewritten x)) (sym (ap node_tree is ∙ tree_of_unary _))

pub next_argument : (nodes : List (Spanned Expression)) (i : ℕ) (n : Spanned Expression) → i < length nodes → n ≡ get_or nodes i n → exps (map node_tree (drop i nodes)) ≡ cons (node_tree n) (exps (map node_tree (drop (i + 1) nodes)))
next_argument nodes i n lt is = ap (λ l. exps (map node_tree l)) (drop_more nodes i n lt ∙ ap (λ y. y ∷ drop (i + 1) nodes) (sym is))

pub faults_go : {A B : Type 0} (p : Checked A) (go : A → Checked B) (o : Checked B) → o ≡ and_then p go → (f : Fault) → p ≡ Err f → o ≡ Err f
faults_go p go o h f e = h ∙ then_err p go f e

pub call_of : (s : Scope) (x : FunctionCallOf Expression) (nodes : List (Spanned Expression)) (f : Name) → nodes ≡ x.arguments → constructor_name s (type_tree x.ty) ≡ Ok f
    → reduced s (call_layer tree x) ≡ and_then (all_reduced s (exps (map node_tree nodes))) (of_arguments s f (type_tree x.ty))
call_of s x nodes f same h = reduced_call s (type_tree x.ty) (exps (map node_tree x.arguments)) f h ∙ ap (λ l. and_then (all_reduced s (exps (map node_tree l))) (of_arguments s f (type_tree x.ty))) (sym same)

refused_at : (s : Scope) (x : FunctionCallOf Expression) (nodes : List (Spanned Expression)) (g : Fault) → nodes ≡ x.arguments → constructor_name s (type_tree x.ty) ≡ Err g
    → reduced s (call_layer tree x) ≡ and_then (const_value (values (stage s) [] (exps (map node_tree nodes)))) (λ o. Err g)
refused_at s x nodes g same h = call_refused s (type_tree x.ty) (exps (map node_tree x.arguments)) g h ∙ ap (λ l. and_then (const_value (values (stage s) [] (exps (map node_tree l)))) (λ o. Err g)) (sym same)

pub refused_by_callee : (s : Scope) (x : FunctionCallOf Expression) (nodes : List (Spanned Expression)) → nodes ≡ x.arguments → (o : Option (List LiteralInstance)) (e : OrOutOfMemory Fault)
    → UnlessOutOfMemory (λ f. constructor_name s (type_tree x.ty) ≡ Err f) e → const_value (values (stage s) [] (exps (map node_tree nodes))) ≡ Ok o → UnlessOutOfMemory (λ f. reduced s (call_layer tree x) ≡ Err f) e
refused_by_callee s x nodes same o OutOfMemory h v = tt
refused_by_callee s x nodes same o (OfFault g) h v = refused_at s x nodes g same h ∙ then_ok _ (λ o. Err g) o v

pub argument_fault : (s : Scope) (x : FunctionCallOf Expression) (nodes : List (Spanned Expression)) → nodes ≡ x.arguments → (f : Fault) → const_value (values (stage s) [] (exps (map node_tree nodes))) ≡ Err f
    → reduced s (call_layer tree x) ≡ Err f
argument_fault s x nodes same f h =
    whole_is s (call_layer tree x) (Err f) (call_value s (type_tree x.ty) (exps (map node_tree x.arguments)) ∙ ap (λ v. then_value v (λ vs. const_value (result_here (stage s) [] (plain_name (type_tree x.ty)) vs)))
    (ap (λ l. const_value (values (stage s) [] (exps (map node_tree l)))) (sym same) ∙ h))
