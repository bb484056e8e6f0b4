use Rattle.std.proofs.Common.{◌≡◌, ◌++◌, take, drop, map}
use Rattle.std.specs.Option.{option_map}
use Rattle.wgsl_declarations.specs.View.{declaration_tree}
use Rattle.wesl_cond.specs.Declarations.{declaration_left}
use Rattle.wesl_cond.proofs.settle.settle_each.Given as goal

abbrev pub invariant-loop-i : goal.invariant-loop-i
invariant-loop-i l =
    map (λ n. declaration_tree n.node) l.nodes
    ≡ map (option_map (declaration_left l.features)) (take l.i (map (λ n. declaration_tree n.node) l.initial.nodes)) ++ drop l.i (map (λ n. declaration_tree n.node) l.initial.nodes)
