use Rattle.std.proofs.Common.{rules, ◌≡◌, ◌∙◌, sym, ap}
use Rattle.std.specs.Prelude.{Some, false}
use Rattle.std.specs.Str.{chars, bytes_eq}
use Rattle.std.proofs.lemmas.Str.{chars_from_encodes}
use Rattle.wgsl_token.specs.declared.token.Token.TheVariants.{Identifier}
use Rattle.wgsl_lex.proofs.Identifiers.{no_word, with_token, other_token}
use Rattle.wgsl_lex.proofs.identifier.is_identifier.Goals as goal

pub returns-then-not-is_word : goal.returns-then-not-is_word
returns-then-not-is_word c =
    let spelled : c.in_ok-characters.characters.items ≡ chars c.args.name.now = search (rules, chars_from_encodes) in
    no_word c.args.name.now c.in-Some.first.now c.in-Some.behind.now (sym spelled ∙ sym c.as_slice.ensures.value ∙ c.in-Some.ensures.cases.0)
    (sym c.is_word.ensures ∙ c.if-not-is_word.true)

pub returns-in-Identifier : goal.returns-in-Identifier
returns-in-Identifier c =
    let spelled : c.in_ok-characters.characters.items ≡ chars c.args.name.now = search (rules, chars_from_encodes) in
    with_token c.args.name.now c.in-Some.first.now c.in-Some.behind.now (sym spelled ∙ sym c.as_slice.ensures.value ∙ c.in-Some.ensures.cases.0)
    c.eq.result (Identifier c.in-Identifier.found) c.utf8.name (sym c.is_word.ensures ∙ c.if-not-is_word.false)
    (c.in_ok-found.ensures ∙ ap Some c.in-Identifier.is) (c.eq.ensures ∙ ap (λ x. bytes_eq x c.args.name.now) c.as_str.ensures)

pub returns : goal.returns
returns c =
    let spelled : c.in_ok-characters.characters.items ≡ chars c.args.name.now = search (rules, chars_from_encodes) in
    with_token c.args.name.now c.in-Some.first.now c.in-Some.behind.now (sym spelled ∙ sym c.as_slice.ensures.value ∙ c.in-Some.ensures.cases.0)
    false c.in_ok-found.field-0 c.utf8.name (sym c.is_word.ensures ∙ c.if-not-is_word.false)
    c.in_ok-found.ensures (other_token c.args.name.now c.in_ok-found.field-0 c.in_default-2.not-Identifier)
