-- A list of outcomes, element by element.
use Rattle.std.proofs.Common.{◌≡◌, ℕ, ◌+◌, List, [], ◌∷◌, ◌++◌, drop, map, length, get_or, ◌<◌, refl, sym, ap, ◌∙◌, append_assoc, add-zero, zero-add, subst, Result, Ok, Err}
use Rattle.std.proofs.lemmas.List.{drop_more}
use Rattle.wgsl_path.specs.declared.span.Spanned.{Spanned}
use Rattle.core_syntax.specs.declared.expression.Expression.{Expression}
use Rattle.core_syntax.specs.Tree.{Exps, exps, cons, call, Typ}
use Rattle.core_syntax.specs.View.{node_tree}
use Rattle.core_meaning.specs.Outcome.{Outcome, Done, Failed, Deep, after, bind}
use Rattle.wgsl_shader_type.specs.declared.literal.LiteralInstance.{LiteralInstance}
use Rattle.core_meaning.specs.Names.{Name, find, plain_name}
use Rattle.core_meaning.specs.Meaning.{World, Types, value, values, result_here, called_or, typed, all_typed, result_type_here}
use Rattle.core_meaning.specs.ScalarType.{ScalarType}
use Rattle.wgsl_base.specs.declared.items.error.OrOutOfMemory.{OrOutOfMemory}
use Rattle.wgsl_base.specs.declared.items.error.OrOutOfMemory.TheVariants.{Error, OutOfMemory}
use Rattle.core_meaning.specs.declared.fault.Fault.{Fault}
use Rattle.core_eval.specs.Ends.{Ends, first_these}

pub pushed : {A : Type 0} (vs : List A) (x : A) (o : Outcome (List A)) → first_these (vs ++ x ∷ []) o ≡ first_these vs (after 0 (bind o (λ xs. Done (x ∷ xs) 0)))
pushed vs x (Done ws n) = λ i. Done (append_assoc vs (x ∷ []) ws i) (sym (zero-add (n + 0) ∙ add-zero n) i)
pushed vs x (Failed f) = refl
pushed vs x Deep = refl

pub next_node : (nodes : List (Spanned Expression)) (i : ℕ) (n : Spanned Expression) → i < length nodes → n ≡ get_or nodes i n →
    exps (map node_tree (drop i nodes)) ≡ cons (node_tree n) (exps (map node_tree (drop (i + 1) nodes)))
next_node nodes i n lt is = ap (λ l. exps (map node_tree l)) (drop_more nodes i n lt ∙ ap (λ y. y ∷ drop (i + 1) nodes) (sym is))

pub ends_after : {A : Type 0} (o : Outcome A) (r : Result A (OrOutOfMemory Fault)) → Ends o r → Ends (after 0 o) r
ends_after o (Ok x) h = ap (after 0) h
ends_after o (Err OutOfMemory) h = tt
ends_after o (Err (Error f)) h = ap (after 0) h

-- a call whose arguments have values
pub called : (w : World) (t : Typ) (es : Exps) (vs : List LiteralInstance) (f : Name) (r : Result LiteralInstance (OrOutOfMemory Fault)) → values w [] es ≡ Done vs 0 → plain_name t ≡ Ok f → Ends (w.result_of f vs) r → Ends (value w [] (call t es)) r
called w t es vs f r e n h =
    subst (λ z. Ends (bind z (λ xs. result_here w [] (plain_name t) xs)) r) (sym e)
    (subst (λ z. Ends (bind (Done vs 0) (λ xs. result_here w [] z xs)) r) (sym n) (ends_after (w.result_of f vs) r h))

pub called_typed : (w : World) (env : Types) (t : Typ) (es : Exps) (ts : List ScalarType) (f : Name) (r : Result ScalarType (OrOutOfMemory Fault)) → all_typed w env es ≡ Done ts 0 → plain_name t ≡ Ok f →
    Ends (called_or f (find f env) (w.result_type f ts)) r → Ends (typed w env (call t es)) r
called_typed w env t es ts f r e n h =
    subst (λ z. Ends (bind z (λ xs. result_type_here w env (plain_name t) xs)) r) (sym e)
    (subst (λ z. Ends (bind (Done ts 0) (λ xs. result_type_here w env z xs)) r) (sym n) (ends_after (called_or f (find f env) (w.result_type f ts)) r h))
