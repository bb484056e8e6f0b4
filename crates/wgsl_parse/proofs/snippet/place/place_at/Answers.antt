use Rattle.std.proofs.Common.{◌∙◌}
use Rattle.std.specs.Str.{chars}
use Rattle.wgsl_parse.specs.Points.{place_of}
use Rattle.wgsl_parse.proofs.Steps.{onward_step, within_step}
use Rattle.wgsl_parse.proofs.snippet.place.place_at.Goals as goal

pub loop-character-preserved : goal.loop-character-preserved
loop-character-preserved c =
    let p = place_of c.loop-character.place in
    let q = place_of c.next-place.result in
    let behind = chars c.in-Some.behind.now in
    let n = c.loop-character.left in
    let w = c.len_utf8-width.result in
    let of_it = c.len_utf8-width.ensures in (
      onward_step p q n w c.in-Some.character behind c.in-Some.ensures of_it.value c.if-left-width.false c.next-place.ensures ∙ c.loop-character.invariant.0,
      within_step c.args.start n w c.in-Some.character p q behind of_it.lower_bound of_it.value c.if-left-width.false c.next-place.ensures c.loop-character.invariant.1,
    )
