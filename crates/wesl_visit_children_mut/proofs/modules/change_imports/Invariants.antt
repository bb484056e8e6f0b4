use Rattle.std.proofs.Common.{◌≡◌, ◌≤◌, ℕ, length, get_or, map, take, Ok}
use Rattle.wesl_visit_children.specs.Turns.{ChangedInTurn}
use Rattle.std.specs.List.{flat_map}
use Rattle.wesl_visit_children.specs.Parts.{in_import}
use Rattle.wesl_visit_children.specs.Rest.{around_import}
use Rattle.wgsl_declarations.specs.declared.imports.import.ImportStatement.{ImportStatement}
use Rattle.wesl_visit_children_mut.proofs.modules.change_imports.Given as goal

abbrev pub invariant-loop-i : goal.invariant-loop-i
invariant-loop-i g l =
    g.W.WriteParts.ready l.w
    × ChangedInTurn g.W.WriteParts.at l.initial.w (flat_map in_import (take l.i l.initial.imports)) (Ok tt) l.w (flat_map in_import (take l.i l.imports))
    × (map (around_import g.W.WriteParts.rest) l.imports ≡ map (around_import g.W.WriteParts.rest) l.initial.imports) × (length l.imports ≡ length l.initial.imports)
    × ((k : ℕ) (d : ImportStatement) → l.i ≤ k → get_or l.imports k d ≡ get_or l.initial.imports k d)
