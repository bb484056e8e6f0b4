use Rattle.std.proofs.Common.{None, Some, lit<}
use Rattle.std.proofs.lemmas.Str.Pattern.{split_parts}
use Rattle.wesl_resolve.proofs.Cutting.{none_there}
use Rattle.wesl_resolve.proofs.unmangle.first_piece.Goals as goal

pub returns-in-None-clause-none : goal.returns-in-None-clause-none
returns-in-None-clause-none c = none_there c.args.text.now (split_parts 95 c.args.text.now None c.in-None.ensures.cases (lit< tt))

pub returns-in-Some-clause-none : goal.returns-in-Some-clause-none
returns-in-Some-clause-none c = none_there c.in-Some.piece.now (split_parts 95 c.args.text.now (Some (c.in-Some.piece, c.in-Some.rest)) c.in-Some.ensures.cases (lit< tt)).1
