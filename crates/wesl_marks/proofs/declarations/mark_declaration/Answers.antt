use Rattle.wesl_mark.specs.Lists.{flats}
use Rattle.wesl_marks.proofs.Spots.{void_says_nothing}
use Rattle.wesl_marks.proofs.declarations.mark_declaration.Goals as goal

pub returns-in-Void-clause-flats : goal.returns-in-Void-clause-flats
returns-in-Void-clause-flats c = void_says_nothing (flats c.args.list.now) c.args.declaration.now c.in-Void.is
