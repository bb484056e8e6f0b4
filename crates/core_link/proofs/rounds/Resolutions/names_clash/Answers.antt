use Rattle.std.proofs.Common.{sym, ◌∙◌}
use Rattle.std.specs.Prelude.{string_bytes}
use Rattle.core_link.proofs.FirstLemmas.{first_clash, none_where_free}
use Rattle.core_link.proofs.rounds.Resolutions.names_clash.Goals as goal

pub returns-clause-free : goal.returns-clause-free
returns-clause-free c = λ keep r.
    none_where_free c.args.self.now.modules (string_bytes c.args.self.now.root) keep c.args.self.now.held r c.in_ok-clash.ensures.ordered c.in_ok-clash.clash c.in_ok-clash.ensures.whole

pub returns-clause-first : goal.returns-clause-first
returns-clause-first c = λ keep name r e.
    first_clash c.args.self.now.modules (string_bytes c.args.self.now.root) keep c.args.self.now.held r c.in_ok-clash.ensures.ordered name (sym c.in_ok-clash.ensures.whole ∙ e)
