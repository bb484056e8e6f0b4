use Rattle.std.proofs.Common.{◌∙◌}
use Rattle.wgsl_declarations.specs.View.{declaration_tree}
use Rattle.wesl_marks.specs.Units.{declaration_flats}
use Rattle.wesl_marks.proofs.Spots.{spot_since}
use Rattle.wesl_marks.proofs.places.mark_place.Goals as goal

pub returns-clause-spot : goal.returns-clause-spot
returns-clause-spot c =
    let since = spot_since c.args.list.now c.name_of.new.list c.len-start.result c.len.result (declaration_flats (declaration_tree c.args.declaration.now)) c.len-start.ensures c.len.ensures
    (c.in_ok-name_of.ensures.flats ∙ c.in_ok-mark_declaration.ensures.flats) (λ first h. c.in_ok-name_of.ensures.grows first (c.in_ok-mark_declaration.ensures.grows first h)) in
    record { kind = c.kind_of.ensures; name = c.in_ok-name_of.ensures.name; within = since.0; flats = since.1 }

pub returns-clause-grows : goal.returns-clause-grows
returns-clause-grows c first h = c.in_ok-name_of.ensures.grows first (c.in_ok-mark_declaration.ensures.grows first h)
