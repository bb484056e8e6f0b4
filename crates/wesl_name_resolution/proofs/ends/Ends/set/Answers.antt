use Rattle.std.proofs.Common.{◌≡◌, refl, Some, slice_get}
use Rattle.std.specs.Vec.{vec_len}
use Rattle.std.proofs.lemmas.Option.{slice_get_read}
use Rattle.wesl_name_resolution.proofs.Rows.{sets_one}
use Rattle.wesl_name_resolution.proofs.ends.Ends.set.Goals as goal

pub returns-in-Some-get_mut : goal.returns-in-Some-get_mut
returns-in-Some-get_mut c =
    let rows = c.args.self.now.ends in
    let is : slice_get rows.items c.args.via.«module» ≡ Some c.in-Some.items.now =
    slice_get_read rows.items (vec_len rows) c.args.via.«module» c.in-Some.items.now rows.ok.0 (c.in-Some.ensures.variant.0 refl) c.in-Some.ensures.value in
    sets_one rows.items c.args.via c.args.end c.in-Some.items.now is
