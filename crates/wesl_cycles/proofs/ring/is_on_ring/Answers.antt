use Rattle.std.proofs.Common.{◌<◌, rules, subst, sym, refl, length}
use Rattle.std.specs.Prelude.{slice_index}
use Rattle.std.specs.List.{Contains}
use Rattle.std.proofs.lemmas.Option.{slice_get_read}
use Rattle.wesl_cycles.proofs.SearchLemmas.{ringless, led_from}
use Rattle.wesl_cycles.proofs.ring.is_on_ring.Goals as goal

pub returns-then-is_row_below : goal.returns-then-is_row_below
returns-then-is_row_below c =
    let rows = c.args.rows.now in
    let row = c.index-rows-position.result in
    let stands = slice_get_read rows (length rows) c.args.position row refl c.requires.within c.index-rows-position.is in (
      (λ t. absurd (search rules)),
      (λ ring. absurd (ringless c.args.ranks.now rows (c.requires.trusted (search rules)) c.args.position
          (λ j l. subst (λ r. slice_index c.args.ranks.now j < r) c.rank_of.ensures
          (c.is_row_below.ensures (search rules) j
          (subst (λ xs. Contains xs j) (sym c.as_slice-row.ensures) (led_from rows c.args.position j row stands l))))
          ring)),
    )
