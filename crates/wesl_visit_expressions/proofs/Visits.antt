-- A visit that is deep or not, at one type.
use Rattle.std.proofs.Common.{◌≡◌, sym, ap, ◌∙◌, Bool, true, false, List, map, Some, Result, Ok}
use Rattle.std.specs.Option.{option_map}
use Rattle.wgsl_expressions.specs.declared.expression.Expression.{Expression}
use Rattle.wgsl_expressions.specs.declared.expression.TypeExpressionOf.{TypeExpressionOf}
use Rattle.wgsl_expressions.specs.declared.expression.TemplateArgOf.{TemplateArgOf}
use Rattle.wesl_visit_children.specs.Turns.{ChangedInTurn, ChangedDeep, remade_none}
use Rattle.wesl_visit_children.proofs.Deep.{shallow as at_each}
use Rattle.wesl_visit_expressions.specs.Types.{around_argument, around_inside, inside_by, around_by}

pub nothing_inside : {S E : Type 0} (deep : Bool) (step : S → TypeExpressionOf Expression → Result Unit E → S → TypeExpressionOf Expression → Type 0) (s : S) (t : TypeExpressionOf Expression)
    → deep ≡ false → ChangedDeep (inside_by deep) (around_by deep) step s (inside_by deep t) (Ok tt) s (inside_by deep t)
nothing_inside false step s t is = remade_none
nothing_inside true step s t is = absurd (cc)

-- all but the types inside a type stays where all but those of its template arguments does
pub arguments_stay : (t : TypeExpressionOf Expression) (before after : List (TemplateArgOf Expression)) → t.template_args ≡ Some before → map around_argument after ≡ map around_argument before
    → around_inside (record { path = t.path; ident = t.ident; template_args = Some after }) ≡ around_inside t
arguments_stay t before after is same = λ k.
    record { path = t.path; ident = t.ident; template_args = (ap Some same ∙ sym (ap (option_map (map around_argument)) is)) k }

-- A visit that is not deep calls at the outermost types alone.
pub shallow : {S E : Type 0} (step : S → TypeExpressionOf Expression → Result Unit E → S → TypeExpressionOf Expression → Type 0) {s t : S} {xs ys : List (TypeExpressionOf Expression)} {r : Result Unit E}
    → ChangedDeep (inside_by false) (around_by false) step s xs r t ys → ChangedInTurn step s xs r t ys
shallow step h = at_each step h
