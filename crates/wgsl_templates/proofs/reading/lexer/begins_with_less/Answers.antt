use Rattle.wgsl_templates.proofs.Starts.{less_first_of}
use Rattle.wgsl_templates.proofs.reading.lexer.begins_with_less.Goals as goal

pub returns : goal.returns
returns c = less_first_of _ _ _ _ c.in_ok-piece.ensures.within c.in_ok-piece.ensures.first _ c.is_less.ensures
