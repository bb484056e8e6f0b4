use Rattle.std.proofs.Common.{ap, subst, ◌++◌, ◌<◌, length, take, arith, rules, length-append}
use Rattle.std.proofs.lemmas.List.{length-take}
use Rattle.std.specs.Io.KnownBytes.{Consumes}
use Rattle.weslc_bundle.proofs.Read.{none_taken, more_taken, still_taken, all_taken}
use Rattle.weslc_bundle.proofs.input.read_input.Goals as goal

pub loop-turn-init : goal.loop-turn-init
loop-turn-init g c =
    record { taken = rw c.new-bytes.ensures.items (none_taken (g.R.Read.remaining c.args.reader.now)); few = omega (arith, ap length c.new-bytes.ensures.items); whole = search rules }

pub returns-in-Ok-eq0-clause-bytes : goal.returns-in-Ok-eq0-clause-bytes
returns-in-Ok-eq0-clause-bytes g c =
    let room : 0 < length c.read.new.buf = omega (arith, c.read.auto.buf, length-take c.min-most.result c.loop-turn.chunk) in
    let none = subst (λ n. Consumes (g.R.Read.remaining c.loop-turn.reader) (g.R.Read.remaining c.read.new.self) (take n c.read.new.buf)) c.in-Ok-eq0.field-0-test c.in-Ok-eq0.ensures.bytes.0 in
    (all_taken _ _ _ c.loop-turn.bytes.items c.loop-turn.invariant.taken none (c.in-Ok-eq0.ensures.bytes.1 c.in-Ok-eq0.field-0-test room), c.loop-turn.invariant.few)

pub returns-in_default : goal.returns-in_default
returns-in_default g c = record {
  bytes = tt;
  long = λ same. cc;
  few = (c.loop-turn.bytes.items, still_taken _ _ _ c.loop-turn.bytes.items c.loop-turn.invariant.taken c.in-Err.ensures.bytes, omega arith);
}

pub returns-in_err-extend_from_slice-in-Ok-clause-few : goal.returns-in_err-extend_from_slice-in-Ok-clause-few
returns-in_err-extend_from_slice-in-Ok-clause-few g c =
    let bytes = c.loop-turn.bytes.items in
    let more = take c.in-Ok.count c.read.new.buf in
    (bytes ++ more, more_taken _ _ _ bytes more c.loop-turn.invariant.taken c.in-Ok.ensures.bytes.0, omega (arith, c.read.auto.buf, length-append bytes more, c.in-Ok.ensures.bound, length-take c.min-most.result c.loop-turn.chunk))
