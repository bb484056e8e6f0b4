-- Lists of references to parts.
use Rattle.std.specs.Prelude.{List, map}
use Rattle.wesl_visit_children.specs.declared.part.PartRef.{PartRef}
use Rattle.wesl_visit_children.specs.declared.part.PartRef.TheVariants as reference
use Rattle.wesl_visit_children.specs.Parts.{Part, an_attribute, an_expression, a_type}

-- what a reference points to
abbrev pub part_of : PartRef → Part
part_of (reference.Attribute a) = an_attribute a.now
part_of (reference.Expression e) = an_expression e.now
part_of (reference.Type t) = a_type t.now

abbrev pub parts : List PartRef → List Part
parts refs = map part_of refs
