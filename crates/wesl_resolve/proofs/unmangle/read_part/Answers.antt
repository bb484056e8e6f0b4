use Rattle.std.proofs.Common.{◌<◌, ◌^◌, length, None, Some, lit<, ap, arith}
use Rattle.std.proofs.lemmas.Str.Pattern.{strip_prefix_char}
use Rattle.wesl_resolve.specs.Unmangling.{IsFirstPart, IsCutAfter}
use Rattle.wesl_resolve.proofs.Cutting.{weaker, first_plain, first_uncounted, first_counted}
use Rattle.wesl_resolve.proofs.unmangle.read_part.Goals as goal

pub returns-in-None-clause-reads : goal.returns-in-None-clause-reads
returns-in-None-clause-reads c =
    let text = c.args.text.now in
    weaker (IsCutAfter 0 text) (IsFirstPart text) c.take_part.result (λ answer. first_plain text answer (strip_prefix_char 95 text None c.in-None.ensures.cases (lit< tt))) c.take_part.ensures

pub returns-in-None-read_count-clause-reads : goal.returns-in-None-read_count-clause-reads
returns-in-None-read_count-clause-reads c =
    let text = c.args.text.now in
    let counted = c.in-Some.counted.now in
    let begins = strip_prefix_char 95 text (Some c.in-Some.counted) c.in-Some.ensures.cases (lit< tt) in
    let short : length counted < 2 ^ 64 = omega (arith, ap length begins) in
    first_uncounted text counted begins short c.in-None-read_count.ensures.reads

pub returns-in-Some-read_count-clause-reads : goal.returns-in-Some-read_count-clause-reads
returns-in-Some-read_count-clause-reads c =
    let text = c.args.text.now in
    let counted = c.in-Some.counted.now in
    let begins = strip_prefix_char 95 text (Some c.in-Some.counted) c.in-Some.ensures.cases (lit< tt) in
    let short : length counted < 2 ^ 64 = omega (arith, ap length begins) in
    weaker (IsCutAfter c.in-Some-read_count.count c.in-Some-read_count.text.now) (IsFirstPart text) c.take_part-in-Some-read_count.result
    (λ answer. first_counted text counted (c.in-Some-read_count.count, c.in-Some-read_count.text) answer begins short c.in-Some-read_count.ensures.reads) c.take_part-in-Some-read_count.ensures
