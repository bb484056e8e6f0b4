use Rattle.std.proofs.Common.{◌≡◌, ◌∙◌, ◌++◌, sym, ap}
use Rattle.std.specs.Char.{encode_utf8}
use Rattle.std.proofs.lemmas.Str.{chars_past_char}
use Rattle.wgsl_parse.proofs.snippet.place.split_first.Goals as goal

pub returns : goal.returns
returns c =
    let spelled : c.args.text.now ≡ encode_utf8 c.in_ok-first.first ++ c.as_str.result.now =
    sym c.chars-characters.ensures.rest ∙ c.in_ok-first.ensures.steps.0 ∙ ap (λ t. encode_utf8 c.in_ok-first.first ++ t) (sym c.as_str.ensures)
    in
    chars_past_char c.args.text.now c.as_str.result.now c.in_ok-first.first c.utf8.text spelled
