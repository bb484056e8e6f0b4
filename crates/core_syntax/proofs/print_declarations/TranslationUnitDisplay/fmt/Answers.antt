use Rattle.core_syntax.proofs.Texts.{unit_text_flat}
use Rattle.core_syntax.proofs.print_declarations.TranslationUnitDisplay.fmt.Goals as goal

pub returns-clause-writes : goal.returns-clause-writes
returns-clause-writes g c = rw (unit_text_flat c.args.self.now) c.write_unit.ensures
