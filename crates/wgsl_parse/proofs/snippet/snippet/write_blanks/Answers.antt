use Rattle.std.proofs.Common.{rules, ◌-◌}
use Rattle.std.specs.Char.{encode_utf8}
use Rattle.std.specs.Str.{chars}
use Rattle.std.specs.Fmt.{HasWritten}
use Rattle.wgsl_parse.specs.Snippets.{blank_below, blanks_below}
use Rattle.wgsl_parse.proofs.Written.{goes_on, ends}
use Rattle.wgsl_parse.proofs.Lines.{blanks_step, none_below}
use Rattle.wgsl_parse.proofs.snippet.snippet.write_blanks.Goals as goal

pub loop-left-preserved : goal.loop-left-preserved
loop-left-preserved g c = (
  search rules,
  λ plain.
      let before = c.loop-left.invariant.1 plain in
      let more : HasWritten g.W.Write.write_str_gives c.loop-left.f (encode_utf8 (blank_below c.in-Some.character)) c.write_char.new.self =
      search (rules, c.write_char.ensures, before.wrote.plain, c.blank_below.ensures)
      in
      goes_on g.W.Write.write_str_gives _ _ _ _ (encode_utf8 (blank_below c.in-Some.character)) (blanks_below (c.loop-left.left - 1) (chars c.in-Some.behind.now)) _ before
      (blanks_step c.loop-left.left (chars c.loop-left.rest.now) c.in-Some.character (chars c.in-Some.behind.now) c.loop-left-test.true c.in-Some.ensures) more,
)

pub returns-in_default : goal.returns-in_default
returns-in_default g c = λ plain ok.
    ends g.W.Write.write_str_gives _ _ _ _ (c.loop-left.invariant.1 plain) (none_below c.loop-left.left (chars c.loop-left.rest.now) (search (rules, c.in_default.ensures)))
