use Rattle.std.proofs.Common.{◌≡◌, length, take}
use Rattle.wgsl_templates.proofs.characters.write_each.Given as goal

abbrev pub invariant-loop-at : goal.invariant-loop-at
invariant-loop-at l = (length l.characters ≡ length l.bytes) × (take l.at l.characters ≡ take l.at l.bytes)
