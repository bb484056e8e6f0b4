use Rattle.std.proofs.Common.{◌≡◌, take}
use Rattle.std.specs.List.{flat_map}
use Rattle.wgsl_declarations.specs.ImportsView.{importing_tree}
use Rattle.wesl_linking_spec.specs.Outlining.{items_of}
use Rattle.wesl_module_index.specs.Naming.{IsGathered, IsNamed, declared_from}
use Rattle.wesl_module_index.proofs.module.names_of.Given as goal

abbrev pub invariant-loop-statement : goal.invariant-loop-statement
invariant-loop-statement l = (l.names.path ≡ l.path) × IsGathered l.names (flat_map (λ s. items_of l.path (importing_tree s)) (take l.statement-index l.imports))

abbrev pub invariant-loop-at : goal.invariant-loop-at
invariant-loop-at l = IsNamed l.path (flat_map (λ s. items_of l.path (importing_tree s)) l.imports) (declared_from l.list.names.keys 0 (take l.at l.places)) l.names
