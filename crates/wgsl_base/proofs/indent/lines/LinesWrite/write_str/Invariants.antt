use Rattle.std.proofs.Common.{length}
use denote.Shadow.{shadow}
use denote.Text.{Utf8}
use Rattle.wgsl_base.proofs.Pieces.{IsWrittenTo}
use Rattle.wgsl_base.proofs.indent.lines.LinesWrite.write_str.Given as goal

abbrev pub decreases-loop-line : goal.decreases-loop-line
decreases-loop-line g l = length l.rest

abbrev pub invariant-loop-line : goal.invariant-loop-line
invariant-loop-line g l = shadow (Utf8 l.rest) × IsWrittenTo g.W.Write.write_str_gives l.initial.self l.s l.rest l.self
