use Rattle.std.proofs.Common.{◌≡◌, sym, ap, ◌∙◌, rules, arith}
use Rattle.std.specs.Option.{is_some}
use Rattle.wgsl_memory.specs.Places.{put_at_path}
use Rattle.wgsl_memory.proofs.Puts.{changed_past, value_within}
use Rattle.wgsl_memory.proofs.place.+put.Goals as goal

pub put_part-returns-then-at-len-clause-value : goal.put_part-returns-then-at-len-clause-value
put_part-returns-then-at-len-clause-value t c =
    value_within (put_at_path c.args.path.now c.args.value) c.args.parts.now c.args.at c.len.result c.get_mut.result.now c.put.new.whole
    c.len.ensures (search rules) c.get_mut.ensures.value c.put.ensures.value

pub put_part-returns-else-at-len-clause-there : goal.put_part-returns-else-at-len-clause-there
put_part-returns-else-at-len-clause-there t c = ap is_some (sym (changed_past (put_at_path c.args.path.now c.args.value) c.args.parts.now c.args.at (search rules)))
