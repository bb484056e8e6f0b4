-- A visit that is deep or not, at one expression.
use Rattle.std.proofs.Common.{◌≡◌, Bool, true, false, List, Result, Ok}
use Rattle.wgsl_path.specs.declared.span.Spanned.{Spanned}
use Rattle.wgsl_expressions.specs.declared.expression.Expression.{Expression}
use Rattle.wesl_visit_children.specs.Turns.{ChangedInTurn, ChangedDeep, remade_none}
use Rattle.wesl_visit_children.proofs.Deep.{shallow as at_each}
use Rattle.wesl_visit_expressions.specs.Expressions.{inside_by, around_by, around_expressions}

-- A visit that is not deep calls at the outermost expressions alone.
pub shallow : {S E : Type 0} (step : S → Spanned Expression → Result Unit E → S → Spanned Expression → Type 0) {s t : S} {xs ys : List (Spanned Expression)} {r : Result Unit E}
    → ChangedDeep (inside_by false) (around_by false) step s xs r t ys → ChangedInTurn step s xs r t ys
shallow step h = at_each step h

pub nothing_inside : {S E : Type 0} (deep : Bool) (step : S → Spanned Expression → Result Unit E → S → Spanned Expression → Type 0) (s : S) (n : Spanned Expression)
    → deep ≡ false → ChangedDeep (inside_by deep) (around_by deep) step s (inside_by deep n) (Ok tt) s (inside_by deep n)
nothing_inside false step s n is = remade_none
nothing_inside true step s n is = absurd (cc)

pub around_inside_stays : (deep : Bool) (n m : Spanned Expression) → deep ≡ true → around_expressions m.node ≡ around_expressions n.node → m.span ≡ n.span → around_by deep m ≡ around_by deep n
around_inside_stays true n m is h p = λ i. record { node = h i; span = p i }
around_inside_stays false n m is h p = absurd (cc)
