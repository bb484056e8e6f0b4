use Rattle.std.proofs.Common.{refl, sym}
use Rattle.wgsl_lex.specs.Tokens.{fixed_of, is_reserved}
use Rattle.wgsl_lex.specs.Pieces.{unlisted}
use Rattle.wgsl_lex.proofs.Words.{not_listable, listed_from}
use Rattle.wgsl_lex.proofs.word.listed.Goals as goal

pub returns-then-not-is_listable : goal.returns-then-not-is_listable
returns-then-not-is_listable c = unlisted (not_listable c.args.word.now (sym c.if-not-is_listable.ensures))

pub returns : goal.returns
unfolding fixed_of is_reserved
returns c = listed_from (λ e. e.0.now) (λ e. e.1) _ _ _ _ refl refl c.row.ensures.row c.row.ensures.within c.found.ensures
