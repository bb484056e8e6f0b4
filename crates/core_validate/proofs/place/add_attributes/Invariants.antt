use Rattle.std.proofs.Common.{◌≡◌, ◌++◌, drop}
use Rattle.core_syntax.specs.View.{attributes_tree}
use Rattle.core_validate.specs.Scopes.{attributes_places}
use Rattle.core_validate.specs.Lookups.{lookup, local_names}
use Rattle.core_validate.proofs.place.add_attributes.Given as goal

abbrev pub invariant-loop-attribute : goal.invariant-loop-attribute
invariant-loop-attribute l =
    l.places ++ attributes_places (lookup l.index) (local_names l.locals) (attributes_tree (drop l.attribute-index l.attribute-items))
    ≡ l.initial.places ++ attributes_places (lookup l.index) (local_names l.locals) (attributes_tree l.attribute-items)
