use Rattle.std.proofs.Common.{length}
use denote.Text.{Utf8}
use denote.Shadow.{shadow}
use Rattle.std.specs.Str.{chars}
use Rattle.std.specs.Fmt.{IsPlainFormatter}
use Rattle.wgsl_parse.specs.Snippets.{line_text}
use Rattle.wgsl_parse.proofs.Written.{IsUnderWay}
use Rattle.wgsl_parse.proofs.snippet.snippet.write_line.Given as goal

abbrev pub invariant-loop-character : goal.invariant-loop-character
invariant-loop-character g l =
    shadow (Utf8 l.rest)
    × (IsPlainFormatter l.initial.f → IsUnderWay g.W.Write.write_str_gives l.initial.f (line_text (chars l.fn.text)) l.f (line_text (chars l.rest)))

abbrev pub decreases-loop-character : goal.decreases-loop-character
decreases-loop-character g l = length (chars l.rest)
