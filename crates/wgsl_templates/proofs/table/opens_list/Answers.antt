use Rattle.std.proofs.Common.{sym, subst, Bool}
use Rattle.wgsl_templates.specs.Tokens.{Opens}
use Rattle.wgsl_templates.proofs.Levels.{opens_where}
use Rattle.wgsl_templates.proofs.table.opens_list.Goals as goal

pub returns : goal.returns
returns g c = let P : Bool → Type 0 = Opens c.args.behind.now in subst P (sym c.is_some.ensures) (opens_where _ _ c.in_ok-end.ensures)
