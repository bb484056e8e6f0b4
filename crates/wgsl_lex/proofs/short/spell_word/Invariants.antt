use Rattle.std.proofs.Common.{◌≡◌, ℕ, ◌+◌, ◌<◌, ◌∷◌, true, take, get_or}
use Rattle.std.specs.Str.{IsAscii, encode_utf8_all}
use Rattle.unicode_ident.specs.Ident.{is_xid_continue}
use Rattle.wgsl_lex.proofs.short.spell_word.Given as goal

abbrev pub invariant-loop-at : goal.invariant-loop-at
invariant-loop-at l =
    (l.at < 16) × IsAscii (take (l.at + 1) l.bytes) × (take (l.at + 1) l.bytes ≡ encode_utf8_all (l.fn.first ∷ take l.at l.behind)) × ((k : ℕ) → k < l.at → is_xid_continue (get_or l.behind k 0) ≡ true)
