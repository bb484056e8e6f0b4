use Rattle.std.proofs.Common.{arith, ap, length, ◌∙◌}
use Rattle.std.proofs.lemmas.Str.{length-le-encodes}
use Rattle.wgsl_lex.proofs.Bools.{is_number}
use Rattle.wgsl_templates.proofs.ReadingLemmas.{bounded, lexed}
use Rattle.wgsl_templates.proofs.lexer.lex_counted.Goals as goal

pub lex_characters-requires-clause-bounded : goal.lex_characters-requires-clause-bounded
lex_characters-requires-clause-bounded g c =
    let whole = bounded _ _ c.utf8.text (c.as_slice-2.ensures.value ∙ c.in_ok-characters.ensures) in
    omega (arith, whole)

pub lex_characters-requires-clause-bytes : goal.lex_characters-requires-clause-bytes
lex_characters-requires-clause-bytes g c = λ narrow.
    let whole = bounded _ _ c.utf8.text (c.as_slice-2.ensures.value ∙ c.in_ok-characters.ensures) in
    omega (arith, whole, is_number _ _ narrow, c.len.ensures, c.as_slice-2.ensures.len)

pub returns-clause-tokens : goal.returns-clause-tokens
returns-clause-tokens g c = lexed _ _ _ c.utf8.text (c.as_slice-2.ensures.value ∙ c.in_ok-characters.ensures) c.in_ok-lexed.ensures

pub returns-clause-entries : goal.returns-clause-entries
returns-clause-entries g c =
    let whole = bounded _ _ c.utf8.text (c.as_slice.ensures.value ∙ c.in_ok-characters.ensures) in
    omega (arith, whole, c.len-2.ensures, c.in_ok-table.ensures.covered, ap length c.as_slice.ensures.value, length-le-encodes c.as_slice.result.now)
