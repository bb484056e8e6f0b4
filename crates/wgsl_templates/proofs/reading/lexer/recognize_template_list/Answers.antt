use Rattle.std.proofs.Common.{rules, ◌≡◌, ◌∙◌}
use Rattle.std.specs.Str.{chars}
use Rattle.std.proofs.lemmas.Str.{chars_from_encodes}
use Rattle.wgsl_templates.proofs.Starts.{text_starts}
use Rattle.wgsl_templates.proofs.reading.lexer.recognize_template_list.Goals as goal

pub returns : goal.returns
returns c =
    let spelled : c.in_ok-characters.characters.items ≡ chars c.args.text.now = search (rules, chars_from_encodes) in
    text_starts _ _ _ c.utf8.text (c.as_slice.ensures.value ∙ spelled) c.starts_list.ensures
