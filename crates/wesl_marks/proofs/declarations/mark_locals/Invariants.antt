use Rattle.std.proofs.Common.{◌≡◌, ◌++◌, drop, map}
use Rattle.wesl_mark.specs.Lists.{flats, OnlyGrows}
use Rattle.wgsl_declarations.specs.View.{parameter_tree}
use Rattle.wesl_mark.specs.Flats.{declares}
use Rattle.wesl_marks.proofs.declarations.mark_locals.Given as goal

abbrev pub invariant-loop-x : goal.invariant-loop-x
invariant-loop-x l = (flats l.list ++ map (λ p. declares p.name) (map parameter_tree (drop l.x-index l.parameters)) ≡ flats l.initial.list ++ map (λ p. declares p.name) (map parameter_tree l.parameters)) × OnlyGrows l.initial.list l.list
