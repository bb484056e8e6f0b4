use Rattle.std.proofs.Common.{◌≡◌, sym, ap, ◌∙◌, subst, Some, None, slice_get, length, ◌<◌, arith, take, ◌+◌}
use Rattle.std.specs.Option.{option_copied}
use Rattle.wesl_name_resolution.specs.declared.denote.Via.{Via}
use Rattle.wesl_name_resolution.specs.declared.ends.End.TheVariants.{Unknown}
use Rattle.wesl_name_resolution.specs.Ends.{counts_of, item_counts, end_at}
use Rattle.wesl_name_resolution.proofs.Rows.{unknown_more, counts_more, none_past, length_replicate}
use Rattle.wesl_name_resolution.proofs.ends.unknown.Goals.{in-None, in-Some}
use Rattle.wesl_name_resolution.proofs.ends.unknown.Goals as goal

pub loop-number-preserved : goal.loop-number-preserved
loop-number-preserved c =
    let list = c.args.modules.now.list.items in
    let items = c.in_ok-push-2.ensures.items in
    let less : c.loop-number.number < length list = let e = c.len-number-end.ensures in let f = c.loop-number-test.true in omega (arith, e, f) in
    let full : c.loop-item._item ≡ c.match-get.count = let f = c.loop-item-test.false in let h = c.loop-item.auto._item-end in omega (arith, f, h) in
    let size : length c.loop-item.ends.items ≡ c.match-get.count = ap length c.loop-item.invariant ∙ length_replicate c.loop-item._item Unknown ∙ full in
    let counts : counts_of c.push-in-loop-number.new.self.items ≡ take (c.loop-number.number + 1) (item_counts list) = elim c.match-get.branch [
      | in-None w ↦ absurd (none_past list c.loop-number.number (sym c.get.ensures ∙ ap option_copied w.in-None.is) less)
      | in-Some w ↦ ap counts_of items ∙ counts_more c.loop-number.all.items c.loop-item.ends list c.loop-number.number w.in-Some.module.now c.loop-number.invariant.0
          (sym c.get.ensures ∙ ap option_copied w.in-Some.is) (size ∙ w.count-is ∙ w.len-count.ensures ∙ w.in-Some.module.now.items.ok.0)
    ] in
    (counts, λ v. subst (λ rows. end_at rows v ≡ Unknown) (sym items) (unknown_more c.loop-number.all.items c.loop-item.ends c.loop-item._item c.loop-item.invariant c.loop-number.invariant.1 v))
