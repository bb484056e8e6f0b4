use Rattle.std.proofs.Common.{refl}
use Rattle.wesl_name_resolution.specs.Links.{symbol_of}
use Rattle.wesl_reachability.proofs.Held.{map_ok, map_two}
use Rattle.wesl_reachability.proofs.Follows.{follows_seeks, follows_ends}
use Rattle.wesl_reachability.proofs.closing.Closing.follow_first.Goals as goal

pub returns-in-Leads-clause-follows : goal.returns-in-Leads-clause-follows
returns-in-Leads-clause-follows c =
    map_ok c.seek.result (λ s. follows_seeks c.args.modules.now c.args.number c.args.reference c.args.self.now c.seek.new.self (symbol_of c.in-Leads.link) c.in-Leads.ensures.starts s) c.seek.ensures.seeks

pub returns-in-Ends-clause-follows : goal.returns-in-Ends-clause-follows
returns-in-Ends-clause-follows c =
    map_two c.end.result (λ e k. follows_ends c.args.modules.now c.args.number c.args.reference c.args.self.now c.end.new.self c.in-Ends.denoted c.in-Ends.ensures.starts c.in-Ends.ensures.begun e k) c.end.ensures.ends c.end.ensures.keeps
