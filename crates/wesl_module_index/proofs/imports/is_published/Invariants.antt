use Rattle.std.proofs.Common.{◌≡◌, drop}
use Rattle.std.specs.List.{list_any}
use Rattle.wgsl_expressions.specs.AttributesView.{attributes_tree}
use Rattle.wesl_linking_spec.specs.Outlining as spec
use Rattle.wesl_module_index.proofs.imports.is_published.Given as goal

abbrev pub invariant-loop-attribute : goal.invariant-loop-attribute
invariant-loop-attribute l = list_any spec.is_publish (attributes_tree (drop l.attribute-index l.attributes)) ≡ list_any spec.is_publish (attributes_tree l.attributes)
