use denote.Text.{Utf8}
use denote.Shadow.{shadow}
use Rattle.std.specs.Str.{chars}
use Rattle.std.specs.Fmt.{IsPlainFormatter}
use Rattle.wgsl_parse.specs.Snippets.{blanks_below}
use Rattle.wgsl_parse.proofs.Written.{IsUnderWay}
use Rattle.wgsl_parse.proofs.snippet.snippet.write_blanks.Given as goal

abbrev pub invariant-loop-left : goal.invariant-loop-left
invariant-loop-left g l =
    shadow (Utf8 l.rest)
    × (IsPlainFormatter l.initial.f → IsUnderWay g.W.Write.write_str_gives l.initial.f (blanks_below l.fn.count (chars l.fn.text)) l.f (blanks_below l.left (chars l.rest)))

abbrev pub decreases-loop-left : goal.decreases-loop-left
decreases-loop-left g l = l.left
