use Rattle.std.proofs.Common.{◌≡◌, sym, ap, ◌∙◌}
use Rattle.wesl_name_resolution.specs.Links.{symbol_of, outcome_of, beginning_of}
use Rattle.wesl_name_resolution.proofs.Answered.{at_once, by_chain}
use Rattle.wesl_name_resolution.proofs.denote.denotation.Goals as goal

pub returns-in-Ends : goal.returns-in-Ends
returns-in-Ends c ends find tabled p o u its =
    at_once find p o u (outcome_of c.args.modules.now c.in-Ends.denoted) (ap (beginning_of c.args.modules.now) (sym c.in-Ends.is) ∙ c.start_of.ensures.starts find tabled p o u its)

pub returns-in-Leads : goal.returns-in-Leads
returns-in-Leads c ends find tabled p o u its =
    by_chain find p o u (symbol_of c.in-Leads.link) (outcome_of c.args.modules.now c.denoted_by.result)
    (ap (beginning_of c.args.modules.now) (sym c.in-Leads.is) ∙ c.start_of.ensures.starts find tabled p o u its) (c.denoted_by.ensures ends find tabled)
