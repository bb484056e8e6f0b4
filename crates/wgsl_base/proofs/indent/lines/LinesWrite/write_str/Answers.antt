use Rattle.std.proofs.Common.{rules, refl}
use Rattle.wgsl_base.proofs.Pieces.{written_line, written_rest, written_all}
use Rattle.wgsl_base.proofs.indent.lines.LinesWrite.write_str.Goals as goal

pub loop-line-preserved : goal.loop-line-preserved
loop-line-preserved g c = (search rules, written_line g.W.Write.write_str_gives _ _ _ _ _ c.loop-line.invariant.1 _ refl (λ plain. c.write_margin.ensures plain (search rules)) _ _ _ c.in-Some.ensures.0 c.in-Some.ensures.1 (λ plain. c.write_str.ensures.writes plain (search rules)) (λ plain. c.write_str-in-Some.ensures.writes plain (search rules)) refl)

pub returns-in_ok-write_str-3 : goal.returns-in_ok-write_str-3
returns-in_ok-write_str-3 g c = record {
  ok = λ e. written_all g.W.Write.write_str_gives _ _ _ (written_rest g.W.Write.write_str_gives _ _ _ _ _ c.loop-line.invariant.1 _ refl (λ plain. c.write_margin-then-not-is_empty.ensures plain (search rules))
      c.in_default.ensures (search rules) (λ plain. c.write_str-then-not-is_empty.ensures.writes plain (search rules)) refl);
}
