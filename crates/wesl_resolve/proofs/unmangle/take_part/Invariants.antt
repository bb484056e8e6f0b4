use Rattle.std.proofs.Common.{◌≡◌, ◌++◌}
use denote.Text.{Utf8}
use denote.Shadow.{shadow}
use Rattle.wesl_resolve.specs.Mangling.{underscores}
use Rattle.wesl_resolve.proofs.unmangle.take_part.Given as goal

abbrev pub invariant-loop-underscore : goal.invariant-loop-underscore
invariant-loop-underscore l = shadow (Utf8 l.rest) × (l.fn.text ≡ l.part ++ l.rest) × (underscores l.part ≡ l._underscore)
