use Rattle.std.proofs.Common.{◌≡◌, drop, []}
use Rattle.core_meaning.specs.ConstStage.{Consts}
use Rattle.core_eval.specs.Start as spec
use Rattle.core_eval.specs.Scopes.{decls, Declares, Holds}
use Rattle.core_eval.proofs.start.values_of.Given as goal

abbrev pub invariant-loop-position : goal.invariant-loop-position
invariant-loop-position l = Declares l.declarations (decls l.nodes)
    → (cs : Consts) × Holds l.consts cs × (spec.all_valued (decls l.nodes) cs (drop l.position-index l.order) ≡ spec.all_valued (decls l.nodes) [] l.order)
