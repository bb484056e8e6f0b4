use Rattle.std.specs.List.{flat_map}
use Rattle.std.specs.Fmt.{HasWritten, IsPlainFormatter}
use Rattle.weslc_bundle.specs.Fields.{escaped_char}
use Rattle.weslc_bundle.proofs.field.write_escaped_text.Given as goal

abbrev pub invariant-loop-c : goal.invariant-loop-c
invariant-loop-c g l = IsPlainFormatter l.initial.out → HasWritten g.W.Write.write_str_gives l.initial.out (flat_map escaped_char l.yielded) l.out
