use Rattle.std.proofs.Common.{rules, ◌≡◌, ◌∙◌, length, sym, ap}
use Rattle.std.proofs.lemmas.Str.{chars_from_encodes, chars-IsAscii}
use Rattle.std.proofs.lemmas.List.{take_at}
use Rattle.wgsl_templates.proofs.characters.characters_of.Goals as goal

pub returns-then-not-is_ascii : goal.returns-then-not-is_ascii
returns-then-not-is_ascii c = search (rules, chars_from_encodes)

pub returns : goal.returns
returns c =
    let written : c.write_each.new.characters ≡ c.args.text.now = c.write_each.ensures ∙ c.as_bytes.ensures.value in
    take_at _ _ _ (ap length written ∙ sym c.in_ok-characters-2.ensures.len) ∙ written ∙ sym (chars-IsAscii _ c.if-not-is_ascii.ensures.cases)
