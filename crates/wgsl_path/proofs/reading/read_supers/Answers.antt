use Rattle.std.proofs.Common.{◌≡◌, ◌++◌, ◌+◌, codes, ap, sym, ◌∙◌, arith}
use Rattle.wgsl_path.specs.Paths.{rest_text}
use Rattle.wgsl_path.specs.Reading.{left_parts}
use Rattle.wgsl_path.proofs.PartsLemmas.{super_above}
use Rattle.wgsl_path.proofs.SuperLemmas.{supers_more, few_more}
use Rattle.wgsl_path.proofs.reading.read_supers.Goals as goal

pub loop-rest-preserved : goal.loop-rest-preserved
loop-rest-preserved c =
    let splits : rest_text c.loop-rest.rest ≡ codes "::" ++ (c.first_part.result.0.now ++ rest_text c.first_part.result.1) =
    ap rest_text c.in-Some.is ∙ ap (λ more. codes "::" ++ more) c.first_part.ensures.splits in
    record {
      read = supers_more c.loop-rest.levels c.first_part.result.0.now _ _ _ splits (sym c.eq.ensures ∙ c.if-eq.true) c.loop-rest.invariant.read;
      above = λ n. c.loop-rest.invariant.above n
          ∙ super_above (c.loop-rest.levels + n) (c.loop-rest.levels + 1 + n) c.first_part.result.0.now _ _ (ap left_parts c.in-Some.is ∙ c.first_part.ensures.first)
          (sym c.eq.ensures ∙ c.if-eq.true) (omega arith);
      few = few_more c.loop-rest.levels _ c.first_part.result.0.now _ _ splits c.loop-rest.invariant.few;
    }
