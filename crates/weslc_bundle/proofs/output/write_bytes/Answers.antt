use Rattle.std.proofs.Common.{◌≡◌, arith, length, take, drop, ◌-◌}
use Rattle.std.proofs.lemmas.List.{length-drop, length-take-le, take_all}
use Rattle.weslc_bundle.proofs.Written.{next_written, still_written}
use Rattle.weslc_bundle.proofs.output.write_bytes.Goals as goal
use Rattle.weslc_bundle.proofs.output.write_bytes.Goals.{in-Ok, in-Err+else-ne}

pub loop-turn-preserved : goal.loop-turn-preserved
loop-turn-preserved g c =
    let bytes = c.args.bytes.now in
    let rest = drop c.loop-turn.count bytes in
    let whole : take (length bytes - c.loop-turn.count) rest ≡ rest = take_all (length bytes - c.loop-turn.count) rest (omega (arith, length-drop c.loop-turn.count bytes)) in
    elim c.match-write.branch [
      | in-Ok w ↦ rw w.count-is (record {
        written = next_written _ _ _ c.loop-turn.count w.in-Ok.more bytes c.loop-turn.invariant.written (rw whole at (w.in-Ok.ensures.bytes));
        few = omega (arith, c.loop-turn.invariant.few, w.in-Ok.ensures.bound, length-drop c.loop-turn.count bytes, length-take-le (length bytes - c.loop-turn.count) rest);
      })
      | in-Err+else-ne w ↦ rw w.count-is (record {
        written = still_written _ _ _ (take c.loop-turn.count bytes) c.loop-turn.invariant.written w.in-Err.ensures.bytes;
        few = c.loop-turn.invariant.few;
      })
    ]
