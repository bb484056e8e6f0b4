use Rattle.std.proofs.Common.{◌≡◌, take}
use Rattle.wgsl_lex.specs.Tokens.{size}
use Rattle.wgsl_templates.proofs.lexer.size_of.Given as goal

abbrev pub invariant-loop-character : goal.invariant-loop-character
invariant-loop-character l = l.size ≡ size (take l.character-index l.characters)
