-- What a visit of attributes does at a part: it calls its closure at the attributes of the part, and goes on with the same closure.
use Rattle.std.specs.Prelude.{◌≡◌, Result}
use Rattle.wgsl_path.specs.declared.span.Spanned.{Spanned}
use Rattle.wgsl_expressions.specs.declared.attributes.attribute.Attribute.{Attribute}
use Rattle.wesl_visit_children.specs.Turns.{CalledInTurn, ChangedInTurn}
use Rattle.wesl_visit_children.specs.Parts.{Part}
use Rattle.wesl_visit_children_mut.specs.Attributes.{in_part}
use Rattle.wesl_visit_children_mut.specs.declared.attributes.parts.Reading.{Reading}
use Rattle.wesl_visit_children_mut.specs.declared.attributes.parts.Changing.{Changing}

pub record Met {F E : Type 0} (step : F → Spanned Attribute → Result Unit E → F → Type 0) (s : Reading F) (p : Part) (r : Result Unit E) (t : Reading F) : Type 0 where
  pub called : CalledInTurn step s.f.now (in_part p) r t.f.now
  pub same : t.f.ghost_name ≡ s.f.ghost_name

pub record Changed {F E : Type 0} (step : F → Spanned Attribute → Result Unit E → F → Spanned Attribute → Type 0) (s : Changing F) (p : Part) (r : Result Unit E) (t : Changing F) (q : Part) : Type 0 where
  pub called : ChangedInTurn step s.f.now (in_part p) r t.f.now (in_part q)
  pub same : t.f.ghost_name ≡ s.f.ghost_name
