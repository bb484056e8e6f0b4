use Rattle.std.proofs.Common.{◌≡◌, length}
use Rattle.std.specs.Str.{chars}
use Rattle.wgsl_parse.specs.Places.{onward, place_at}
use Rattle.wgsl_parse.specs.Points.{place_of}
use Rattle.wgsl_parse.proofs.Steps.{IsWithin}
use Rattle.wgsl_parse.proofs.snippet.place.place_at.Given as goal

-- What is left leads from here to the place of the whole.
abbrev pub invariant-loop-character : goal.invariant-loop-character
invariant-loop-character l =
    (onward (place_of l.place) l.left (chars l.place.rest.now) ≡ place_at l.fn.start (chars l.fn.text)) × IsWithin l.fn.start l.left (place_of l.place)

abbrev pub decreases-loop-character : goal.decreases-loop-character
decreases-loop-character l = length (chars l.place.rest.now)
