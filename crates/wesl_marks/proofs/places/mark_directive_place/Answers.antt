use Rattle.std.proofs.Common.{refl}
use Rattle.wgsl_declarations.specs.ImportsView.{directive_tree}
use Rattle.wesl_marks.specs.Units.{directive_flats}
use Rattle.wesl_marks.proofs.Spots.{spot_since}
use Rattle.wesl_marks.proofs.places.mark_directive_place.Goals as goal

pub returns-clause-spot : goal.returns-clause-spot
returns-clause-spot c =
    let since = spot_since c.args.list.now c.mark_directive.new.list c.len-start.result c.len.result (directive_flats (directive_tree c.args.directive.now)) c.len-start.ensures c.len.ensures
    c.in_ok-mark_directive.ensures.flats c.in_ok-mark_directive.ensures.grows in
    record { kind = refl; name = tt; within = since.0; flats = since.1 }
