use Rattle.std.proofs.Common.{◌≡◌, length, true}
use Rattle.wgsl_lex.specs.Tokens.{size}
use Rattle.wgsl_templates.proofs.ReadingLemmas.{IsLexedTo}
use Rattle.wgsl_templates.proofs.lexer.lex_characters.Given as goal

abbrev pub decreases-loop-first : goal.decreases-loop-first
decreases-loop-first g l = length l.rest

abbrev pub invariant-loop-first : goal.invariant-loop-first
invariant-loop-first g l = IsLexedTo l.characters l.table l.rest l.at l.after_word l.opened.items (g.L.TokenList.listed l.tokens) × (l.one_byte_each ≡ true → size l.rest ≡ length l.rest)
