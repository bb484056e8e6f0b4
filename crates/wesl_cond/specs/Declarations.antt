-- What features leave inside declarations, and the first error there.
use Rattle.std.specs.Prelude.{Option, Some, None}
use Rattle.wgsl_declarations.specs.Tree.{Decl}
use Rattle.wesl_conditions.specs.declared.features.feature.Features.{Features}
use Rattle.wesl_conditions.specs.declared.features.error.CondCompError.{CondCompError}
use Rattle.wesl_conditions.specs.Chains.{left}
use Rattle.wesl_conditions.specs.Trees.{in_declaration}
use Rattle.wesl_conditions.specs.Faults.{declaration_fault}

abbrev pub declaration_left : Features → Decl → Decl
declaration_left features = in_declaration (λ T has items. left features has items)

abbrev pub inside_declaration : Features → Option Decl → Option CondCompError
inside_declaration features None = None
inside_declaration features (Some d) = declaration_fault features d
