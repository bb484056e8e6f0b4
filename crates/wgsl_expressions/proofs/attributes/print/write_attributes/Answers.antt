use Rattle.wgsl_expressions.proofs.AttributesTexts.{attrs_text_flat}
use Rattle.wgsl_expressions.proofs.attributes.print.write_attributes.Goals as goal

pub returns : goal.returns
returns g c = rw (attrs_text_flat c.args.attributes.now) c.write_each_attribute.ensures
