use Rattle.std.proofs.Common.{take, Ok}
use Rattle.std.specs.List.{flat_map}
use Rattle.std.specs.Fn.{CalledAt}
use Rattle.wesl_visit_children.specs.Turns.{CalledDeep}
use Rattle.wesl_visit.specs.Statements.{in_declaration_node, statements_inside}
use Rattle.wesl_visit.proofs.meet.meet_declarations.Given as goal

abbrev pub invariant-loop-declaration : goal.invariant-loop-declaration
invariant-loop-declaration g l =
    goal.F-IsAlwaysCallable g l.f
    × CalledDeep statements_inside (CalledAt g.F.FnMut) l.initial.f (flat_map in_declaration_node (take l.declaration-index l.declarations)) (Ok tt) l.f
