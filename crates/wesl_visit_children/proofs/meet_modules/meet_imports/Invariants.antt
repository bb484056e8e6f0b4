use Rattle.std.proofs.Common.{take, Ok}
use Rattle.wesl_visit_children.specs.Turns.{CalledInTurn}
use Rattle.std.specs.List.{flat_map}
use Rattle.wesl_visit_children.specs.Parts.{in_import}
use Rattle.wesl_visit_children.proofs.meet_modules.meet_imports.Given as goal

abbrev pub invariant-loop-import : goal.invariant-loop-import
invariant-loop-import g l =
    g.W.ReadParts.ready l.w × CalledInTurn g.W.ReadParts.at l.initial.w (flat_map in_import (take l.import-index l.imports)) (Ok tt) l.w
