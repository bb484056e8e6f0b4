use Rattle.std.proofs.Common.{◌≡◌, ◌+◌, ◌∷◌, take}
use Rattle.std.specs.Str.{encode_utf8_all}
use Rattle.wgsl_lex.proofs.word.spell.Given as goal

abbrev pub invariant-loop-at : goal.invariant-loop-at
invariant-loop-at l = take (l.at + 1) l.bytes ≡ encode_utf8_all (l.fn.first ∷ take l.at l.behind)
