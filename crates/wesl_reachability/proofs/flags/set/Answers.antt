use Rattle.std.proofs.Common.{◌≡◌, refl, Some, slice_get}
use Rattle.std.specs.Vec.{vec_len}
use Rattle.std.proofs.lemmas.Option.{slice_get_read}
use Rattle.wesl_reachability.proofs.Cells.{sets_row}
use Rattle.wesl_reachability.proofs.flags.set.Goals as goal

pub returns-in-Some : goal.returns-in-Some
returns-in-Some c =
    let rows = c.args.rows.now in
    let is : slice_get rows.items c.args.row ≡ Some c.in-Some.flags.now = slice_get_read rows.items (vec_len rows) c.args.row c.in-Some.flags.now rows.ok.0 (c.in-Some.ensures.variant.0 refl) c.in-Some.ensures.value in
    sets_row rows.items c.args.row c.args.at c.in-Some.flags.now c.set_one.new.flags c.set_one.result is c.set_one.ensures
