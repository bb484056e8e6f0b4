use Rattle.std.proofs.Common.{◌≡◌, ◌++◌, drop}
use Rattle.std.specs.List.{flat_map}
use Rattle.wgsl_expressions.specs.AttributesView as whole
use Rattle.core_syntax.specs.View.{attributes_tree}
use Rattle.core_narrowing.specs.Narrowing.{narrow_attrs, in_front}
use Rattle.core_narrowing.specs.Places as part
use Rattle.core_narrowing.specs.ModulePlaces as places
use Rattle.core_narrowing.proofs.expressions.narrow_attributes.Given as goal

abbrev pub invariant-loop-attribute : goal.invariant-loop-attribute
invariant-loop-attribute l = (in_front (attributes_tree l.narrowed) (narrow_attrs (whole.attributes_tree (drop l.attribute-index l.attributes))) ≡ narrow_attrs (whole.attributes_tree l.attributes))
    × (flat_map (part.at part.in_attribute) l.narrowed ++ flat_map (part.at places.in_attribute) (drop l.attribute-index l.attributes) ≡ flat_map (part.at places.in_attribute) l.attributes)
