-- What a visit of expressions does at a part: it calls its closure at the expressions in the part, and goes on with the same closure.
use Rattle.std.specs.Prelude.{◌≡◌, Bool, Result}
use Rattle.wgsl_path.specs.declared.span.Spanned.{Spanned}
use Rattle.wgsl_expressions.specs.declared.expression.Expression.{Expression}
use Rattle.wesl_visit_children.specs.Turns.{CalledDeep, ChangedDeep}
use Rattle.wesl_visit_children.specs.Parts.{Part}
use Rattle.wesl_visit_expressions.specs.Expressions.{expressions_inside, inside_by, around_by}
use Rattle.wesl_visit_in_modules.specs.Modules.{in_part}
use Rattle.wesl_visit_in_modules.specs.declared.expressions.parts.Reading.{Reading}
use Rattle.wesl_visit_in_modules.specs.declared.expressions.parts.Changing.{Changing}

pub record Met {F E : Type 0} (step : F → Spanned Expression → Result Unit E → F → Type 0) (s : Reading F) (p : Part) (r : Result Unit E) (t : Reading F) : Type 0 where
  pub called : CalledDeep expressions_inside step s.f.now (in_part p) r t.f.now
  pub same : t.f.ghost_name ≡ s.f.ghost_name

pub record Changed {F E : Type 0} (step : F → Spanned Expression → Result Unit E → F → Spanned Expression → Type 0) (s : Changing F) (p : Part) (r : Result Unit E) (t : Changing F) (q : Part) : Type 0 where
  pub called : ChangedDeep (inside_by s.deep) (around_by s.deep) step s.f.now (in_part p) r t.f.now (in_part q)
  pub same : t.f.ghost_name ≡ s.f.ghost_name
  pub as_deep : t.deep ≡ s.deep
