-- Places as definitions see them.
use Rattle.std.specs.Str.{chars}
use Rattle.wgsl_parse.specs.declared.snippet.place.Place.{Place as Point}
use Rattle.wgsl_parse.specs.Places.{Place}

abbrev pub place_of : Point → Place
place_of p = record { line = p.line; column = p.column; offset = p.offset; from = chars p.from.now; rest = chars p.rest.now }
