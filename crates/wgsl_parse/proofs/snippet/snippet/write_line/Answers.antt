use Rattle.std.proofs.Common.{rules, ◌∙◌, sym}
use Rattle.std.specs.Char.{encode_utf8}
use Rattle.std.specs.Str.{chars}
use Rattle.std.specs.Fmt.{HasWritten}
use Rattle.wgsl_parse.specs.Snippets.{line_text}
use Rattle.wgsl_parse.proofs.Written.{goes_on}
use Rattle.wgsl_parse.proofs.Lines.{line_step}
use Rattle.wgsl_parse.proofs.snippet.snippet.write_line.Goals as goal

pub loop-character-preserved : goal.loop-character-preserved
loop-character-preserved g c = (
  search rules,
  λ plain.
      let before = c.loop-character.invariant.1 plain in
      let more : HasWritten g.W.Write.write_str_gives c.loop-character.f (encode_utf8 c.in-Some.character) c.write_char.new.self = search (rules, c.write_char.ensures, before.wrote.plain) in
      goes_on g.W.Write.write_str_gives _ _ _ _ (encode_utf8 c.in-Some.character) (line_text (chars c.in-Some.behind.now)) _ before
      (line_step (chars c.loop-character.rest.now) c.in-Some.character (chars c.in-Some.behind.now) c.in-Some.ensures (sym c.is_line_break.ensures ∙ c.if-is_line_break.false)) more,
)
