use Rattle.std.proofs.Common.{◌≡◌, ◌++◌, drop}
use Rattle.core_syntax.specs.View.{attributes_tree}
use Rattle.core_link_spec.specs.Occurrences.{in_attributes}
use Rattle.core_rename.specs.Scopes.{texts}
use Rattle.core_rename.proofs.occurrence.add_attributes.Given as goal

abbrev pub invariant-loop-attribute : goal.invariant-loop-attribute
invariant-loop-attribute l =
    texts l.found.items ++ in_attributes l.scope (attributes_tree (drop l.attribute-index l.attribute-items))
    ≡ texts l.initial.found.items ++ in_attributes l.scope (attributes_tree l.attribute-items)
