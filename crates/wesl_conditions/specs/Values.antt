-- Truth values that may not be known.
use Rattle.std.specs.Prelude.{Bool, true, false, not, Option, Some, None}

abbrev pub opposite_of : Option Bool → Option Bool
opposite_of None = None
opposite_of (Some b) = Some (not b)

-- whether both are true
abbrev pub both_values : Option Bool → Option Bool → Option Bool
both_values (Some true) p = p
both_values (Some false) p = Some false
both_values None (Some true) = None
both_values None (Some false) = Some false
both_values None None = None

-- whether one of both is true
abbrev pub either_value : Option Bool → Option Bool → Option Bool
either_value (Some true) p = Some true
either_value (Some false) p = p
either_value None (Some true) = Some true
either_value None (Some false) = None
either_value None None = None
