use Rattle.std.proofs.Common.{sym, subst}
use Rattle.std.specs.Prelude.{string_bytes}
use Rattle.core_scopes.specs.Outcomes.{home_of, loaded}
use Rattle.core_scopes.specs.Tells.{Tells}
use Rattle.core_scopes.proofs.TellLemmas.{tells}
use Rattle.core_scopes.proofs.denote.denotation.Goals as goal

pub returns-clause-means : goal.returns-clause-means
returns-clause-means c = λ ms finder here.
    subst (Tells ms (string_bytes c.args.«module».now.printed_path) c.args.name.now) (sym c.looked_up.ensures.found)
    (tells ms (loaded c.args.modules.now) finder (home_of c.args.«module».now) here c.args.name.now)
