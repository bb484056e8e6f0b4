-- A visit that is deep or not, at one statement.
use Rattle.std.proofs.Common.{◌≡◌, Bool, true, false, List, Result, Ok}
use Rattle.wgsl_path.specs.declared.span.Spanned.{Spanned}
use Rattle.wgsl_statements.specs.declared.statement.Statement.{Statement}
use Rattle.wesl_visit.specs.Statements.{inside_by, around_by, statements_in, around_statements}
use Rattle.wesl_visit_children.specs.Turns.{ChangedInTurn, ChangedDeep, remade_none}
use Rattle.wesl_visit_children.proofs.Deep.{shallow as at_each}

-- A visit that is not deep calls at the outermost statements alone.
pub shallow : {S E : Type 0} (step : S → Spanned Statement → Result Unit E → S → Spanned Statement → Type 0) {s t : S} {xs ys : List (Spanned Statement)} {r : Result Unit E}
    → ChangedDeep (inside_by false) (around_by false) step s xs r t ys → ChangedInTurn step s xs r t ys
shallow step h = at_each step h

pub changed_inside : {S E : Type 0} (deep : Bool) (step : S → Spanned Statement → Result Unit E → S → Spanned Statement → Type 0) (s t : S) (n m : Spanned Statement) (r : Result Unit E)
    → deep ≡ true → ChangedDeep (inside_by deep) (around_by deep) step s (statements_in n.node) r t (statements_in m.node)
    → ChangedDeep (inside_by deep) (around_by deep) step s (inside_by deep n) r t (inside_by deep m)
changed_inside true step s t n m r is h = h
changed_inside false step s t n m r is h = absurd (cc)

pub nothing_inside : {S E : Type 0} (deep : Bool) (step : S → Spanned Statement → Result Unit E → S → Spanned Statement → Type 0) (s : S) (n : Spanned Statement)
    → deep ≡ false → ChangedDeep (inside_by deep) (around_by deep) step s (inside_by deep n) (Ok tt) s (inside_by deep n)
nothing_inside false step s n is = remade_none
nothing_inside true step s n is = absurd (cc)

pub around_inside_stays : (deep : Bool) (n m : Spanned Statement) → deep ≡ true → around_statements m.node ≡ around_statements n.node → m.span ≡ n.span → around_by deep m ≡ around_by deep n
around_inside_stays true n m is h p = λ i. record { node = h i; span = p i }
around_inside_stays false n m is h p = absurd (cc)
