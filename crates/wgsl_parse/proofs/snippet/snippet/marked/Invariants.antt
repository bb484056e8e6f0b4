use Rattle.std.proofs.Common.{◌≡◌, ◌+◌, ◌≤◌, length}
use denote.Text.{Utf8}
use denote.Shadow.{shadow}
use Rattle.std.specs.Str.{chars}
use Rattle.wgsl_parse.specs.Snippets.{marked}
use Rattle.wgsl_parse.proofs.snippet.snippet.marked.Given as goal

-- What was counted and what is left are all; each character that was counted is of the bytes that are not left.
abbrev pub invariant-loop-character : goal.invariant-loop-character
invariant-loop-character l = shadow (Utf8 l.rest) × (l.count + marked l.left (chars l.rest) ≡ marked l.fn.bytes (chars l.fn.text)) × (l.count + l.left ≤ l.fn.bytes)

abbrev pub decreases-loop-character : goal.decreases-loop-character
decreases-loop-character l = length (chars l.rest)
