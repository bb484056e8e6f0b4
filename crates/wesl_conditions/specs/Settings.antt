-- What feature flags are set to.
use Rattle.std.specs.Prelude.{ℕ, List}
use Rattle.std.specs.Option.{unwrap_or}
use Rattle.std.specs.HashMap.{get_by_text}
use Rattle.wesl_conditions.specs.declared.features.feature.Feature.{Feature}
use Rattle.wesl_conditions.specs.declared.features.feature.Features.{Features}

-- what a flag is set to: as it is listed, else the default
abbrev pub setting : Features → List ℕ → Feature
setting f name = unwrap_or (get_by_text f.flags name) f.default
