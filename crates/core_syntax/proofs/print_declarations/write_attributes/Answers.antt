use Rattle.core_syntax.proofs.Texts.{attrs_text_flat}
use Rattle.core_syntax.proofs.print_declarations.write_attributes.Goals as goal

pub returns : goal.returns
returns g c = rw (attrs_text_flat c.args.attributes.now) c.write_each_attribute.ensures
