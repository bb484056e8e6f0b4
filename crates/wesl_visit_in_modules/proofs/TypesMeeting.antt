-- A visit of all parts calls its closure at all types.
use Rattle.std.proofs.Common.{◌≡◌, refl, subst, ◌∙◌, Bool, true, false, List, Result}
use Rattle.std.specs.List.{flat_map}
use Rattle.wgsl_expressions.specs.declared.expression.Expression.{Expression}
use Rattle.wgsl_expressions.specs.declared.expression.TypeExpressionOf.{TypeExpressionOf}
use Rattle.wesl_visit_children.specs.Turns.{CalledInTurn, called_none, called_refusal, called_one, ChangedInTurn, changed_none, changed_refusal, changed_one, CalledDeep, deep_none, ChangedDeep, remade_none}
use Rattle.wesl_visit_children.proofs.Deep.{met_both, met_refusal_first, changed_both, changed_refusal_first}
use Rattle.wesl_visit_children.specs.Parts.{Part}
use Rattle.wesl_visit_expressions.proofs.Visits.{shallow}
use Rattle.wesl_visit_expressions.specs.Types.{types_inside, around_inside, inside_by, around_by}
use Rattle.wesl_visit_in_modules.specs.TypesModules.{in_part}
use Rattle.wesl_visit_in_modules.specs.TypesMeeting.{Met, Changed}
use Rattle.wesl_visit_in_modules.specs.declared.types.parts.Reading.{Reading}
use Rattle.wesl_visit_in_modules.specs.declared.types.parts.Changing.{Changing}

pub all_met : {F E : Type 0} (step : F → TypeExpressionOf Expression → Result Unit E → F → Type 0) {s t : Reading F} {ps : List Part} {r : Result Unit E}
    → CalledInTurn (Met step) s ps r t → CalledDeep types_inside step s.f.now (flat_map in_part ps) r t.f.now × (t.f.ghost_name ≡ s.f.ghost_name)
all_met step called_none = (deep_none, refl)
all_met step (called_refusal {xs = ps} m) = (met_refusal_first types_inside step (flat_map in_part ps) m.called, m.same)
all_met step (called_one m ms) = (met_both types_inside step m.called (all_met step ms).0, (all_met step ms).1 ∙ m.same)

pub all_changed : {F E : Type 0} (step : F → TypeExpressionOf Expression → Result Unit E → F → TypeExpressionOf Expression → Type 0) {s t : Changing F} {ps qs : List Part} {r : Result Unit E}
    → ChangedInTurn (Changed step) s ps r t qs
    → ChangedDeep (inside_by s.deep) (around_by s.deep) step s.f.now (flat_map in_part ps) r t.f.now (flat_map in_part qs) × (t.f.ghost_name ≡ s.f.ghost_name) × (t.deep ≡ s.deep)
all_changed step changed_none = (remade_none, refl, refl)
all_changed step {s = s} (changed_refusal {xs = ps} m) = (changed_refusal_first (inside_by s.deep) (around_by s.deep) step (flat_map in_part ps) m.called, m.same, m.as_deep)
all_changed step {s = s} {t = u} {ps = ps} {qs = qs} {r = r} (changed_one {t = t} {xs = xs} {ys = ys} m ms) = (
  changed_both (inside_by s.deep) (around_by s.deep) step m.called
      (subst (λ d. ChangedDeep (inside_by d) (around_by d) step t.f.now (flat_map in_part xs) r u.f.now (flat_map in_part ys)) m.as_deep (all_changed step ms).0),
  (all_changed step ms).1 ∙ m.same,
  (all_changed step ms).2 ∙ m.as_deep,
)

-- where the visit is deep, and where it is not
pub all_deep : {F E : Type 0} (step : F → TypeExpressionOf Expression → Result Unit E → F → TypeExpressionOf Expression → Type 0) {s t : Changing F} {ps qs : List Part} {r : Result Unit E}
    → s.deep ≡ true → ChangedInTurn (Changed step) s ps r t qs
    → ChangedDeep types_inside around_inside step s.f.now (flat_map in_part ps) r t.f.now (flat_map in_part qs) × (t.f.ghost_name ≡ s.f.ghost_name)
all_deep step {s = s} {t = t} {ps = ps} {qs = qs} {r = r} is h = (
  subst (λ d. ChangedDeep (inside_by d) (around_by d) step s.f.now (flat_map in_part ps) r t.f.now (flat_map in_part qs)) is (all_changed step h).0,
  (all_changed step h).1,
)

pub all_outermost : {F E : Type 0} (step : F → TypeExpressionOf Expression → Result Unit E → F → TypeExpressionOf Expression → Type 0) {s t : Changing F} {ps qs : List Part} {r : Result Unit E}
    → s.deep ≡ false → ChangedInTurn (Changed step) s ps r t qs
    → ChangedInTurn step s.f.now (flat_map in_part ps) r t.f.now (flat_map in_part qs) × (t.f.ghost_name ≡ s.f.ghost_name)
all_outermost step {s = s} {t = t} {ps = ps} {qs = qs} {r = r} is h = (
  shallow step (subst (λ d. ChangedDeep (inside_by d) (around_by d) step s.f.now (flat_map in_part ps) r t.f.now (flat_map in_part qs)) is (all_changed step h).0),
  (all_changed step h).1,
)
