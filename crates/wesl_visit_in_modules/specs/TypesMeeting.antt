-- What a visit of types does at a part: it calls its closure at the types in the part, and goes on with the same closure.
use Rattle.std.specs.Prelude.{◌≡◌, Bool, Result}
use Rattle.wgsl_expressions.specs.declared.expression.Expression.{Expression}
use Rattle.wgsl_expressions.specs.declared.expression.TypeExpressionOf.{TypeExpressionOf}
use Rattle.wesl_visit_children.specs.Turns.{CalledDeep, ChangedDeep}
use Rattle.wesl_visit_children.specs.Parts.{Part}
use Rattle.wesl_visit_expressions.specs.Types.{types_inside, inside_by, around_by}
use Rattle.wesl_visit_in_modules.specs.TypesModules.{in_part}
use Rattle.wesl_visit_in_modules.specs.declared.types.parts.Reading.{Reading}
use Rattle.wesl_visit_in_modules.specs.declared.types.parts.Changing.{Changing}

pub record Met {F E : Type 0} (step : F → TypeExpressionOf Expression → Result Unit E → F → Type 0) (s : Reading F) (p : Part) (r : Result Unit E) (t : Reading F) : Type 0 where
  pub called : CalledDeep types_inside step s.f.now (in_part p) r t.f.now
  pub same : t.f.ghost_name ≡ s.f.ghost_name

pub record Changed {F E : Type 0} (step : F → TypeExpressionOf Expression → Result Unit E → F → TypeExpressionOf Expression → Type 0) (s : Changing F) (p : Part) (r : Result Unit E) (t : Changing F) (q : Part) : Type 0 where
  pub called : ChangedDeep (inside_by s.deep) (around_by s.deep) step s.f.now (in_part p) r t.f.now (in_part q)
  pub same : t.f.ghost_name ≡ s.f.ghost_name
  pub as_deep : t.deep ≡ s.deep
