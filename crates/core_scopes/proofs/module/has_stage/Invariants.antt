use Rattle.std.proofs.Common.{◌≡◌, drop}
use Rattle.std.specs.List.{list_any}
use Rattle.core_syntax.specs.View.{attributes_tree}
use Rattle.core_link_spec.specs.Kept as spec
use Rattle.core_scopes.proofs.module.has_stage.Given as goal

abbrev pub invariant-loop-attribute : goal.invariant-loop-attribute
invariant-loop-attribute l =
    list_any spec.is_stage (attributes_tree (drop l.attribute-index l.attributes)) ≡ list_any spec.is_stage (attributes_tree l.attributes)
